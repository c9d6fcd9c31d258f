use Rattle.std.proofs.Common.{◌≡◌}
use Rattle.hb_link.specs.Looking.{left_to_look}
use Rattle.hb_link.specs.Rousing.{Rouses}
use Rattle.hb_link.specs.Settling.{MayLook, Settles}
use Rattle.hb_link.proofs.link.Link.look_all.Given as goal

-- looks led it on, and upstreams were roused
abbrev pub invariant-loop : goal.invariant-loop
invariant-loop g l =
    Settles l.fn.others l.fn.limit (λ h. h ≡ l.fn.held) MayLook MayLook l.initial.self (g.N.Notes.told l.initial.notes) l.self
    (g.N.Notes.told l.notes)
    × Rouses l.initial.self l.self

abbrev pub decreases-loop : goal.decreases-loop
decreases-loop g l = left_to_look l.self.conn
