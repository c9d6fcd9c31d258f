use Rattle.std.proofs.Common.{◌≡◌, length, take, ap, sym, ◌∙◌, arith}
use Rattle.std.proofs.lemmas.Grind.{common_steps}
use Rattle.hb_index.specs.Index.{with_all}
use Rattle.hb_index.proofs.Stands.{on_err}
use Rattle.hb_index.proofs.indexed.list_and_note.Goals as goal

pub returns-in-Ok-clause-some : goal.returns-in-Ok-clause-some
returns-in-Ok-clause-some g c =
    let ns = c.args.numbers.now in
    let whole : take (length ns) ns ≡ ns = grind (arith, common_steps) in
    on_err c.note.result (length ns, c.in-Ok.ensures.ok ∙ ap (with_all c.args.index.now c.args.name.now) (sym whole))
