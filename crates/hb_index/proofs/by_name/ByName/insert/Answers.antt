use Rattle.std.proofs.Common.{ap, sym, ◌∙◌}
use Rattle.std.specs.FinMap as map
use Rattle.hb_index.proofs.Entries.{get_made, made_with}
use Rattle.hb_index.proofs.by_name.ByName.insert.Goals as goal
use Rattle.hb_index.proofs.by_name.ByName.insert.Goals.{in-Ok-insert, in-Err}

pub returns-clause-stood : goal.returns-clause-stood
returns-clause-stood g c =
    let name = c.args.name.now in
    elim c.match-insert.branch [
      | in-Ok-insert w ↦ rw w.result-is ((rw c.in-Ok.ensures at w.in-Ok-insert.ensures.old)
          ∙ sym (get_made c.self.inside.items.entries name) ∙ ap (λ m. map.get m name) c.self.view_is)
      | in-Err w ↦ rw w.result-is tt
    ]

pub returns-clause-ok : goal.returns-clause-ok
returns-clause-ok g c =
    let name = c.args.name.now in
    elim c.match-insert.branch [
      | in-Ok-insert w ↦ rw w.result-is (
          made_with c.self.inside.items.entries c.insert.new.self.entries name c.args.item
          (rw c.in-Ok.ensures at w.in-Ok-insert.ensures.updates.0)
          ∙ ap (λ m. map.insert m name c.args.item) c.self.view_is
          )
      | in-Err w ↦ rw w.result-is tt
    ]
