use Rattle.std.proofs.Common.{◌≡◌, ℕ, ◌==◌, List, Option, true, arith, nat_eq, subst, sym, refl}
use Rattle.std.specs.HashMap.{get}
use Rattle.std.proofs.lemmas.Map.Entries.{sum_by_puts_entry}
use Rattle.hb_ready.specs.Kept.{is_marked, has, off_list}
use Rattle.hb_ready.specs.Registry.{HasRoom}
use Rattle.hb_ready.specs.declared.link.Place.{Place}
use Rattle.hb_ready.proofs.Lists.{off-at_most, marked_behind}
use Rattle.hb_ready.proofs.links.Links.born.Goals as goal

pub invariant_of-self-clause-marked : goal.invariant_of-self-clause-marked
invariant_of-self-clause-marked c = λ l marked.
    let old = c.args.self.now in
    subst (λ (xs : List ℕ). has xs l ≡ true) (sym c.push_back_reserved.ensures.items)
    (marked_behind c.args.link l (get nat_eq old.places l) _ old.list.items (c.args.link == l) refl (old.marked l)
    (subst (λ (o : Option Place). is_marked o ≡ true) (c.in-Ok.ensures.updates.0 l) marked))

pub invariant_of-self-clause-room : goal.invariant_of-self-clause-room
unfolding HasRoom
invariant_of-self-clause-room c =
    let old = c.args.self.now in
    let put = sum_by_puts_entry off_list nat_eq old.places c.insert.new.self c.args.link _ c.in-Ok.field-0
    c.in-Ok.ensures.old c.in-Ok.ensures.entries in
    let most = off-at_most old.places.entries in
    omega (arith, c.requires.1, c.push_back_reserved.ensures.len, c.push_back_reserved.ensures.capacity)
