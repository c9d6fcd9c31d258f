use Rattle.std.proofs.Common.{is_some, ap, sym, ◌∙◌}
use Rattle.std.specs.FinMap as map
use Rattle.hb_index.proofs.Undone.{has_inserted, note_new, noted_back}
use Rattle.hb_index.proofs.kept.note.Goals as goal
use Rattle.hb_index.proofs.kept.note.Goals.{in-Some, in_default}

pub set-requires : goal.set-requires
set-requires g c =
    let name = c.args.name.now in
    ap (λ m. map.contains_key m name) c.in_ok-first.ensures.ok ∙ has_inserted c.args.past.now name c.args.stood

pub returns-clause-ok : goal.returns-clause-ok
returns-clause-ok g c =
    let past = c.args.past.now in
    let name = c.args.name.now in
    let stood = c.args.stood in
    elim c.match-branch-2.branch [
      | in-Some w ↦ w.past-is ∙ w.set.ensures ∙ ap (λ m. map.insert m name w.in-Some.first) c.in_ok-first.ensures.ok
          ∙ noted_back past name stood w.in-Some.first (sym c.in_ok-first.ensures.stood ∙ w.in-Some.is)
      | in_default w ↦ w.past-is ∙ c.in_ok-first.ensures.ok ∙ note_new past name stood
          (ap is_some (sym c.in_ok-first.ensures.stood ∙ w.in_default.is))
    ]
