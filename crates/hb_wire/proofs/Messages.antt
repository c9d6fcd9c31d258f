-- A message is taken apart field by field, and so is what it makes of a value.
use Rattle.std.proofs.Common.{◌≡◌, ℕ, zero, suc, ◌<◌, ◌≤◌, Bool, true, false, cond, ◌==◌, List, [], ◌∷◌, length, Option, Some, None, Result, Ok, Err, refl, ap, ◌∙◌, arith}
use Rattle.hb_wire.specs.declared.fault.WireFault.{WireFault}
use Rattle.hb_wire.specs.Field.{Unread, Content, next_in, next_number_in, field_in, varint_in, ◌>>=◌}
use Rattle.hb_wire.proofs.Takes.{field_takes, varint_shortens}
use Rattle.hb_wire.specs.Message.{with_first, message_from, message_within, message_of, and_then, fault_or, fold_fields, fold_message}

some_left : (bytes : List ℕ) → (length bytes == 0) ≡ false → 0 < length bytes
some_left [] e = absurd cc
some_left (byte ∷ bytes) e = omega arith

pub next_cases : {A : Type 0} (b : Bool) (r : Result A WireFault) (p : A) → cond b (Ok None) (r >>= λ f. Ok (Some f)) ≡ Ok (Some p)
    → (b ≡ false) × (r ≡ Ok p)
next_cases true r p e = absurd cc
next_cases false (Ok q) p e = (refl, cc)
next_cases false (Err d) p e = absurd cc

pub next_is_shorter : (u v : Unread) (f : Content) → next_in u ≡ Ok (Some (f, v)) → length v.left < length u.left
next_is_shorter u v f e = let c = next_cases (length u.left == 0) (field_in u) (f, v) e in field_takes u v f (some_left u.left c.0) c.1

-- a number of a packed field takes a byte
pub number_is_shorter : (u v : Unread) (n : ℕ) → next_number_in u ≡ Ok (Some (n, v)) → length v.left < length u.left
number_is_shorter u v n e = let c = next_cases (length u.left == 0) (varint_in u) (n, v) e in
    varint_shortens u v n (some_left u.left c.0) c.1

-- an empty rest is the end
at_end : (u : Unread) → length u.left ≤ 0 → next_in u ≡ Ok None
at_end u le = let e : length u.left ≡ 0 = omega arith in rw e refl

mutual_within : (n m : ℕ) (r : Result (Option (Content × Unread)) WireFault)
    → ((f : Content) (v : Unread) → r ≡ Ok (Some (f, v)) → message_within n v ≡ message_within m v)
    → message_from (λ v. message_within n v) r ≡ message_from (λ v. message_within m v) r
mutual_within n m (Ok None) same = refl
mutual_within n m (Ok (Some f)) same = ap (with_first f.0) (same f.0 f.1 refl)
mutual_within n m (Err e) same = refl

-- how many fields may stand in front makes no difference, where it is at least the number of bytes
pub enough : (n m : ℕ) (u : Unread) → length u.left ≤ n → length u.left ≤ m → message_within n u ≡ message_within m u
unfolding message_within
enough zero zero u p q = refl
enough zero (suc m) u p q = rw (at_end u p) refl
enough (suc n) zero u p q = rw (at_end u q) refl
enough (suc n) (suc m) u p q = mutual_within n m (next_in u) (λ f v e. let lt = next_is_shorter u v f e in
    enough n m v (omega arith) (omega arith))

-- one step
step : (u : Unread) → message_of u ≡ message_from (λ v. message_within (length u.left) v) (next_in u)
unfolding message_of message_within
step u = enough (length u.left) (suc (length u.left)) u (omega arith) (omega arith)

pub message-end : (u : Unread) → next_in u ≡ Ok None → message_of u ≡ record { fields = []; fault = None }
message-end u e = step u ∙ rw e refl

pub message-fault : (u : Unread) (d : WireFault) → next_in u ≡ Err d → message_of u ≡ record { fields = []; fault = Some d }
message-fault u d e = step u ∙ rw e refl

pub message-field : (u v : Unread) (f : Content) → next_in u ≡ Ok (Some (f, v)) → message_of u ≡ with_first f (message_of v)
unfolding message_of
message-field u v f e = step u
    ∙ rw e (ap (with_first f) (let lt = next_is_shorter u v f e in enough (length u.left) (length v.left) v (omega arith) (omega arith)))

pub fold-end : {S F : Type 0} (merge : S → Content → Result S F) (wire : WireFault → F) (s : S) (u : Unread) → next_in u ≡ Ok None
    → fold_message merge wire s (message_of u) ≡ Ok s
unfolding fold_message
fold-end merge wire s u e = rw (message-end u e) refl

pub fold-fault : {S F : Type 0} (merge : S → Content → Result S F) (wire : WireFault → F) (s : S) (u : Unread) (d : WireFault)
    → next_in u ≡ Err d → fold_message merge wire s (message_of u) ≡ Err (wire d)
unfolding fold_message
fold-fault merge wire s u d e = rw (message-fault u d e) refl

and_then-and_then : {A B C F : Type 0} (r : Result A F) (f : A → Result B F) (g : B → Result C F) → and_then (and_then r f) g
    ≡ and_then r (λ x. and_then (f x) g)
and_then-and_then (Ok x) f g = refl
and_then-and_then (Err e) f g = refl

pub fold-field : {S F : Type 0} (merge : S → Content → Result S F) (wire : WireFault → F) (s : S) (u v : Unread) (f : Content)
    → next_in u ≡ Ok (Some (f, v))
    → fold_message merge wire s (message_of u) ≡ and_then (merge s f) (λ t. fold_message merge wire t (message_of v))
unfolding fold_message
fold-field merge wire s u v f e =
    rw (message-field u v f e) (and_then-and_then (merge s f) (λ t. fold_fields merge t (message_of v).fields)
    (fault_or wire (message_of v).fault))
