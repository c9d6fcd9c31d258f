use Rattle.std.proofs.Common.{◌≡◌, ℕ, List, Option, true, arith, subst, sym}
use Rattle.std.proofs.lemmas.Map.Entries.{sum_by_values_permutation}
use Rattle.hb_ready.specs.Kept.{is_marked, has, off_list}
use Rattle.hb_ready.specs.declared.link.Place.{Place}
use Rattle.hb_ready.proofs.links.Links.reserve.Goals as goal

pub invariant_of-self-2-clause-marked : goal.invariant_of-self-2-clause-marked
invariant_of-self-2-clause-marked c = λ l marked.
    subst (λ (xs : List ℕ). has xs l ≡ true) (sym {A = List ℕ} c.reserve-2.ensures.items)
    (c.args.self.now.marked l (subst (λ (o : Option Place). is_marked o ≡ true) (c.reserve.ensures.entries.2 l) marked))

pub invariant_of-self-2-clause-room : goal.invariant_of-self-2-clause-room
invariant_of-self-2-clause-room c =
    let old = c.args.self.now in
    let as_many = sum_by_values_permutation off_list old.places.entries c.reserve.new.self.entries c.reserve.ensures.entries.0 in
    omega (arith, old.room, c.reserve-2.ensures.len, c.reserve-2.ensures.capacity)
