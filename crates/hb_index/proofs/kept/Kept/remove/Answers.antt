use Rattle.std.proofs.Common.{None, ap, sym, ◌∙◌}
use Rattle.std.specs.FinMap as map
use Rattle.hb_index.proofs.Undone.{has_inserted, noted_whole, note_held, remove_absent}
use Rattle.hb_index.proofs.kept.Kept.remove.Goals as goal

pub returns-then-not-contains-clause-now : goal.returns-then-not-contains-clause-now
returns-then-not-contains-clause-now g c = sym (remove_absent c.args.self.now.now c.args.name.now (sym c.if-not-contains.ensures))

pub set-requires : goal.set-requires
set-requires g c =
    let name = c.args.name.now in
    ap (λ m. map.contains_key m name) c.in_ok-put.ensures.ok ∙ has_inserted c.args.self.now.past name None

pub returns-clause-past : goal.returns-clause-past
returns-clause-past g c =
    let past = c.args.self.now.past in
    let name = c.args.name.now in
    let stood = map.get c.args.self.now.now name in
    c.set.ensures ∙ ap (λ m. map.insert m name c.take-stood.result) c.in_ok-put.ensures.ok
    ∙ ap (λ s. map.insert (map.insert past name None) name s) c.take-stood.ensures.value
    ∙ noted_whole past name stood (sym c.if-contains.ensures) ∙ sym (note_held past name stood (sym c.if-not-contains.ensures))
