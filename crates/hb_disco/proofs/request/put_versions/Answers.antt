use Rattle.std.proofs.Common.{◌≡◌, ◌++◌, map, rules, ap, ◌∙◌}
use Rattle.std.proofs.lemmas.Map.Iter.{iter_end}
use Rattle.std.specs.Map.Iter.{deref_pair}
use Rattle.hb_disco.proofs.Versions.{fields_written}
use Rattle.hb_disco.proofs.request.put_versions.Goals as goal

pub returns : goal.returns
returns c =
    let all : map deref_pair c.loop-name.yielded ≡ c.in_ok-held.held.entries = search (rules, iter_end) in
    c.loop-name.invariant ∙ ap (λ xs. c.args.out.now.items ++ xs) (fields_written c.loop-name.yielded c.in_ok-held.held.entries _ all
    c.in_ok-held.ensures)
