-- A packed field is taken apart number by number.
use Rattle.std.proofs.Common.{◌≡◌, ℕ, zero, suc, ◌≤◌, List, length, Option, Some, None, Result, Ok, Err, refl, sym, ◌∙◌, arith}
use Rattle.hb_wire.specs.declared.fault.WireFault.{WireFault}
use Rattle.hb_wire.specs.Field.{Unread, next_number_in}
use Rattle.hb_wire.specs.Message.{and_then}
use Rattle.hb_wire.proofs.Messages.{number_is_shorter}
use Rattle.hb_records.specs.declared.fault.RecordFault.{RecordFault}
use Rattle.hb_records.specs.declared.fault.RecordFault.TheVariants.{Wire}
use Rattle.hb_base.specs.declared.or.Or.{Or}
use Rattle.hb_base.specs.declared.or.Or.TheVariants.{Fault, NoMemory}
use Rattle.hb_base.specs.Outcome.{Fails}
use Rattle.hb_records.specs.Entries.{one_more, room_in}
use Rattle.hb_records.specs.Numbers.{with_number, numbers_from, numbers_within, packed_in}

-- an empty rest is the end
at_end : (u : Unread) → length u.left ≤ 0 → next_number_in u ≡ Ok None
at_end u le = let e : length u.left ≡ 0 = omega arith in rw e refl

same_behind : (r : Result (List ℕ) RecordFault) (f g : List ℕ → Result (List ℕ) RecordFault) → ((ns : List ℕ) → f ns ≡ g ns)
    → and_then r f ≡ and_then r g
same_behind (Ok ns) f g same = same ns
same_behind (Err d) f g same = refl

same_from : (n m field : ℕ) (ns : List ℕ) (r : Result (Option (ℕ × Unread)) WireFault)
    → ((k : ℕ) (v : Unread) → r ≡ Ok (Some (k, v)) → (more : List ℕ) → numbers_within n field more v ≡ numbers_within m field more v)
    → numbers_from field ns (λ more rest. numbers_within n field more rest) r
    ≡ numbers_from field ns (λ more rest. numbers_within m field more rest) r
same_from n m field ns (Ok None) same = refl
same_from n m field ns (Ok (Some p)) same = same_behind (with_number field ns p.0) _ _ (λ more. same p.0 p.1 refl more)
same_from n m field ns (Err d) same = refl

-- how many numbers may stand in front makes no difference, where it is at least the number of bytes
enough : (n m field : ℕ) (ns : List ℕ) (u : Unread) → length u.left ≤ n → length u.left ≤ m
    → numbers_within n field ns u ≡ numbers_within m field ns u
unfolding numbers_within
enough zero zero field ns u p q = refl
enough zero (suc m) field ns u p q = rw (at_end u p) refl
enough (suc n) zero field ns u p q = rw (at_end u q) refl
enough (suc n) (suc m) field ns u p q = same_from n m field ns (next_number_in u) (λ k v e more. let lt = number_is_shorter u v k e in
    enough n m field more v (omega arith) (omega arith))

step : (field : ℕ) (ns : List ℕ) (u : Unread) → packed_in field ns u
    ≡ numbers_from field ns (λ more rest. numbers_within (length u.left) field more rest) (next_number_in u)
unfolding packed_in numbers_within
step field ns u = enough (length u.left) (suc (length u.left)) field ns u (omega arith) (omega arith)

pub packed_end : (field : ℕ) (ns : List ℕ) (u : Unread) → next_number_in u ≡ Ok None → packed_in field ns u ≡ Ok ns
packed_end field ns u e = step field ns u ∙ rw e refl

pub packed_fault : (field : ℕ) (ns : List ℕ) (u : Unread) (d : WireFault) → next_number_in u ≡ Err d
    → packed_in field ns u ≡ one_more field ns (Err (Wire d))
packed_fault field ns u d e = step field ns u ∙ rw e refl

pub packed_more : (field : ℕ) (ns more : List ℕ) (u v : Unread) (k : ℕ) → next_number_in u ≡ Ok (Some (k, v))
    → with_number field ns k ≡ Ok more → packed_in field ns u ≡ packed_in field more v
unfolding packed_in
packed_more field ns more u v k e taken =
    let lt = number_is_shorter u v k e in
    step field ns u ∙ rw e (rw taken (enough (length u.left) (length v.left) field more v (omega arith) (omega arith)))

pub packed_refused : (field : ℕ) (ns : List ℕ) (u v : Unread) (k : ℕ) (d : RecordFault) → next_number_in u ≡ Ok (Some (k, v))
    → with_number field ns k ≡ Err d → packed_in field ns u ≡ Err d
packed_refused field ns u v k d e refused = step field ns u ∙ rw e (rw refused refl)

-- a step that stops or goes on
stops : {A B : Type 0} (r : Result A RecordFault) (f : A → Result B RecordFault) (e : RecordFault) → r ≡ Err e → and_then r f ≡ Err e
stops r f e h = rw h refl

goes : {A B : Type 0} (r : Result A RecordFault) (f : A → Result B RecordFault) (x : A) → r ≡ Ok x → and_then r f ≡ f x
goes r f x h = rw h refl

-- a number was refused
pub refused : (field : ℕ) (ns : List ℕ) (u v : Unread) (k : ℕ) (why : Or RecordFault) (total : Result (List ℕ) RecordFault)
    → Ok (Some (k, v)) ≡ next_number_in u → Fails (with_number field ns k) why → packed_in field ns u ≡ total → Fails total why
refused field ns u v k (Fault d) total found fails so_far = sym so_far ∙ packed_refused field ns u v k d (sym found) fails
refused field ns u v k NoMemory total found fails so_far = tt

-- a number that is broken is one too many
pub full : (field : ℕ) (ns : List ℕ) (u : Unread) (d : WireFault) (why : Or RecordFault) (total : Result (List ℕ) RecordFault)
    → Err d ≡ next_number_in u → Fails (room_in field ns) why → packed_in field ns u ≡ total → Fails total why
full field ns u d (Fault e) total found fails so_far =
    sym so_far ∙ packed_fault field ns u d (sym found) ∙ stops (room_in field ns) _ e fails
full field ns u d NoMemory total found fails so_far = tt

-- a number is broken
pub broken : (field : ℕ) (ns : List ℕ) (u : Unread) (d : WireFault) → Err d ≡ next_number_in u → room_in field ns ≡ Ok tt
    → packed_in field ns u ≡ Err (Wire d)
broken field ns u d found room = packed_fault field ns u d (sym found) ∙ goes (room_in field ns) _ tt room
