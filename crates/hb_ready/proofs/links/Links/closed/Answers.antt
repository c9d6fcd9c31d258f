use Rattle.std.proofs.Common.{◌≡◌, ◌==◌, Option, true, arith, nat_eq, subst}
use Rattle.std.specs.HashMap.{get}
use Rattle.hb_ready.specs.Kept.{is_marked}
use Rattle.hb_ready.specs.declared.link.Place.{Place}
use Rattle.hb_ready.proofs.Lists.{off-removed, marked_without}
use Rattle.hb_ready.proofs.links.Links.closed.Goals as goal

pub invariant_of-self-clause-marked : goal.invariant_of-self-clause-marked
invariant_of-self-clause-marked c = λ l marked.
    let old = c.args.self.now in
    old.marked l (marked_without (c.args.link == l) (get nat_eq old.places l)
    (subst (λ (o : Option Place). is_marked o ≡ true) (c.remove.ensures.updates.0 l) marked))

pub invariant_of-self-clause-room : goal.invariant_of-self-clause-room
invariant_of-self-clause-room c =
    let old = c.args.self.now in
    let fewer = off-removed _ old.places.entries c.remove.new.self.entries c.remove.ensures.entries in
    omega (arith, old.room)
