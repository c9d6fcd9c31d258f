use Rattle.std.proofs.Common.{List, ℕ, ◌∙◌, ap, drop}
use Rattle.std.specs.Prelude.{◌&&◌, is_some}
use Rattle.hb_outgoing.specs.Queue.{frames_of}
use Rattle.hb_outgoing.specs.Selected.{first_data}
use Rattle.hb_outgoing.proofs.Known.{knows_still}
use Rattle.hb_outgoing.proofs.outgoing.Outgoing.look_for_data.Goals as goal

pub invariant_of-self : goal.invariant_of-self
invariant_of-self c =
    let inv = c.self.invariant in
    let self = c.self.inside in
    let is = c.still_waits-self-inside.ensures
    ∙ ap (λ (xs : List ℕ). self.data_waits && is_some (first_data (frames_of (drop self.rest xs)))) c.front.ensures in
    (inv.0, inv.1, inv.2, inv.3, knows_still self.data_waits c.still_waits-self-inside.result self.count self.streams _ inv.4 is, inv.5)
