-- What bytes make of a value, wherever they stand: their fields, one after the other.
use Rattle.std.proofs.Common.{◌≡◌, ℕ, zero, suc, ◌+◌, true, ◌^◌, ◌<◌, ◌≤◌, List, [], ◌∷◌, ◌++◌, length, None, Result, Ok, Err, refl, sym, ap, ◌∙◌, subst, arith, append_assoc, length-append}
use Rattle.std.specs.Prelude.{nat_lt}
use Rattle.std.proofs.lemmas.Bool.{ltb-true, and_parts}
use Rattle.std.proofs.lemmas.List.{append-nil}
use Rattle.hb_wire.specs.declared.fault.WireFault.{WireFault}
use Rattle.hb_wire.specs.Field.{Content, varint, span, is_number}
use Rattle.hb_wire.specs.Message.{and_then, fold_fields, fold_message}
use Rattle.hb_wire.specs.Spelling.{SpellsField, SpellsMessage}
use Rattle.hb_wire.specs.WireType.{span_type}
use Rattle.hb_wire.specs.Writing.{varint_of, tag_of, number_of, bytes_of}
use Rattle.hb_wire.proofs.Exact.{message_read, up_to_its_end}
use Rattle.hb_wire.proofs.Written.{number_spelled, bytes_spelled}
use Rattle.hb_message.specs.Reading.{read_into}

-- these bytes, wherever they stand, are fields that make the one value of the other
pub record Makes {S F : Type 0} (merge : S → Content → Result S F) (s : S) (bytes : List ℕ) (t : S) : Type 0 where
  pub fields : length bytes < 2 ^ 64 → (at : ℕ) → (fs : List Content) × SpellsMessage at bytes fs × (fold_fields merge s fs ≡ Ok t)

pub makes_nothing : {S F : Type 0} (merge : S → Content → Result S F) (s : S) → Makes merge s [] s
makes_nothing merge s = record { fields = λ small at. ([], refl, refl) }

both_spelled : (fs gs : List Content) (at : ℕ) (a b : List ℕ) → SpellsMessage at a fs → SpellsMessage (at + length a) b gs
    → SpellsMessage at (a ++ b) (fs ++ gs)
both_spelled [] gs at a b none s = subst (λ (l : List ℕ). SpellsMessage at (l ++ b) gs) (sym none)
    (subst (λ (k : ℕ). SpellsMessage k b gs) (ap (λ (l : List ℕ). at + length l) none ∙ omega arith) s)
both_spelled (f ∷ fs) gs at a b (front, behind, cut, first, rest) s =
    let on : at + length a ≡ at + length front + length behind = omega (arith, ap length cut, length-append front behind) in (
      front,
      behind ++ b,
      ap (λ (l : List ℕ). l ++ b) cut ∙ append_assoc front behind b,
      first,
      both_spelled fs gs (at + length front) behind b rest (subst (λ (k : ℕ). SpellsMessage k b gs) on s),
    )

-- a value that came through a step
came_through : {S T F : Type 0} (r : Result S F) (f : S → Result T F) (t : T) → and_then r f ≡ Ok t
    → (s : S) × (r ≡ Ok s) × (f s ≡ Ok t)
came_through (Ok s) f t e = (s, refl, e)
came_through (Err d) f t e = absurd cc

pub goes_through : {S T F : Type 0} (r : Result S F) (f : S → Result T F) (s : S) → r ≡ Ok s → and_then r f ≡ f s
goes_through r f s e = ap (λ (x : Result _ _). and_then x f) e

-- what is put into what is put into a place
pub put_twice : {L W S F : Type 0} (r : Result L F) (f : L → W) (g : W → S) → and_then (and_then r (λ l. Ok (f l))) (λ w. Ok (g w))
    ≡ and_then r (λ l. Ok (g (f l)))
put_twice (Ok l) f g = refl
put_twice (Err e) f g = refl

both_made : {S F : Type 0} (merge : S → Content → Result S F) (fs gs : List Content) (s t u : S)
    → fold_fields merge s fs ≡ Ok t → fold_fields merge t gs ≡ Ok u → fold_fields merge s (fs ++ gs) ≡ Ok u
both_made merge [] gs s t u p q = let same : s ≡ t = cc in rw same q
both_made merge (f ∷ fs) gs s t u p q =
    let (x, one, more) = came_through (merge s f) _ t p in
    goes_through (merge s f) _ x one ∙ both_made merge fs gs x t u more q

pub makes_both : {S F : Type 0} (merge : S → Content → Result S F) (s t u : S) (a b : List ℕ) → Makes merge s a t → Makes merge t b u
    → Makes merge s (a ++ b) u
makes_both merge s t u a b p q = record {
  fields = λ small at.
      let (fs, spelled, made) = p.fields (omega (arith, length-append a b)) at in
      let (gs, also, also_made) = q.fields (omega (arith, length-append a b)) (at + length a) in
      (fs ++ gs, both_spelled fs gs at a b spelled also, both_made merge fs gs s t u made also_made);
}

one_field : {S F : Type 0} (merge : S → Content → Result S F) (s t : S) (at : ℕ) (bytes : List ℕ) (f : Content) → SpellsField at bytes f
    → merge s f ≡ Ok t → (fs : List Content) × SpellsMessage at bytes fs × (fold_fields merge s fs ≡ Ok t)
one_field merge s t at bytes f spelled made = (
  f ∷ [],
  (bytes, [], sym (append-nil bytes), spelled, refl),
  goes_through
      (merge s f) _ t made,
)

number_some : (number : ℕ) → is_number number ≡ true → 0 < number
number_some number is = ltb-true 0 number (and_parts _ _ is).0

number_few : (number : ℕ) → is_number number ≡ true → number < 2 ^ 29
number_few number is = let parts = and_parts (nat_lt 0 number) (nat_lt number 536870912) is in
    let few : number < 536870912 = ltb-true number 536870912 parts.1 in omega arith

within_bytes : (number : ℕ) (own : List ℕ) → length own ≤ length (bytes_of number own)
within_bytes number own =
    omega (arith, length-append (tag_of number span_type) (varint_of (length own) ++ own), length-append (varint_of (length own)) own)

-- bytes of their own, as a field
pub makes_bytes : {S F : Type 0} (merge : S → Content → Result S F) (s t : S) (number : ℕ) (own : List ℕ) → is_number number ≡ true
    → (length own < 2 ^ 64 → (at : ℕ) → merge s (record { number = number; at = at; value = span own }) ≡ Ok t)
    → Makes merge s (bytes_of number own) t
makes_bytes merge s t number own is made = record {
  fields = λ small at.
      let fits : length own < 2 ^ 64 = omega (arith, within_bytes number own) in
      one_field merge s t at (bytes_of number own) _ (bytes_spelled at number own (number_some number is) (number_few number is) fits)
      (made fits _);
}

-- a number other than the default, as a field
pub makes_some : {S F : Type 0} (merge : S → Content → Result S F) (s t : S) (number v : ℕ) → is_number number ≡ true → 0 < v → v < 2 ^ 64
    → ((at : ℕ) → merge s (record { number = number; at = at; value = varint v }) ≡ Ok t) → Makes merge s (number_of number v) t
makes_some merge s t number v is some small made = record {
  fields = λ fits at. one_field merge s t at (number_of number v) _
      (number_spelled at number v (number_some number is) (number_few number is) some small) (made _);
}

-- a number as a field: the default makes nothing
pub makes_number : {S F : Type 0} (merge : S → Content → Result S F) (put : ℕ → S) (number v : ℕ) → is_number number ≡ true → v < 2 ^ 64
    → ((at : ℕ) → merge (put 0) (record { number = number; at = at; value = varint v }) ≡ Ok (put v))
    → Makes merge (put 0) (number_of number v) (put v)
makes_number merge put number zero is small made = makes_nothing merge (put 0)
makes_number merge put number (suc v) is small made = makes_some merge (put 0) (put (suc v)) number (suc v) is (omega arith) small made

-- what bytes make of a value is what reading them into it gives
pub made_is_read : {S F : Type 0} (merge : S → Content → Result S F) (wire : WireFault → F) (s t : S) (at : ℕ) (bytes : List ℕ)
    → length bytes < 2 ^ 64 → Makes merge s bytes t → read_into merge wire s at bytes ≡ Ok t
unfolding fold_message
made_is_read merge wire s t at bytes small m =
    let (fs, spelled, made) = m.fields small at in
    rw (message_read at bytes fs None (up_to_its_end at bytes fs spelled), made) refl
