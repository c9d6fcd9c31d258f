-- The longest front that fits, as the oldest entries leave.
use Rattle.std.proofs.Common.{◌≡◌, ℕ, ◌+◌, ◌-◌, ◌<◌, ◌≤◌, List, [], ◌∷◌, ◌++◌, refl, sym, ap, ◌∙◌, arith, inl, inr}
use Rattle.std.proofs.lemmas.Bool.{cases_lt, le-leb, lt-leb}
use Rattle.hb_hpack.specs.declared.header.Header.{Header}
use Rattle.hb_hpack.specs.Table.{size_of, total, fitting}

pub total-append : (xs ys : List Header) → total (xs ++ ys) ≡ total xs + total ys
total-append [] ys = omega arith
total-append (x ∷ xs) ys = omega (arith, total-append xs ys)

pub fitting_more : (room : ℕ) (h : Header) (hs : List Header) → size_of h ≤ room → fitting room (h ∷ hs) ≡ h ∷ fitting (room - size_of h) hs
unfolding fitting
fitting_more room h hs le = rw (le-leb (size_of h) room le, fitting) refl

pub fitting_none : (room : ℕ) (h : Header) (hs : List Header) → room < size_of h → fitting room (h ∷ hs) ≡ []
unfolding fitting
fitting_none room h hs lt = rw (lt-leb (size_of h) room lt, fitting) refl

-- what fits whole
pub fitting_all : (room : ℕ) (hs : List Header) → total hs ≤ room → fitting room hs ≡ hs
unfolding fitting
fitting_all room [] le = refl
fitting_all room (h ∷ hs) le = fitting_more room h hs (omega arith)
    ∙ ap (λ (xs : List Header). h ∷ xs) (fitting_all (room - size_of h) hs (omega arith))

-- the oldest entry of a list that doesn't fit
pub fitting_push : (room : ℕ) (hs : List Header) (h : Header) → room < total (hs ++ h ∷ []) → fitting room (hs ++ h ∷ []) ≡ fitting room hs
unfolding fitting
fitting_push room [] h lt = fitting_none room h [] (omega arith)
fitting_push room (x ∷ hs) h lt =
    elim (cases_lt room (size_of x)) [
      | inl small ↦ fitting_none room x (hs ++ h ∷ []) small ∙ sym (fitting_none room x hs small)
      | inr le ↦
          fitting_more room x (hs ++ h ∷ []) le
          ∙ ap (λ (xs : List Header). x ∷ xs) (fitting_push (room - size_of x) hs h (omega arith))
          ∙ sym (fitting_more room x hs le)
    ]

-- what fits sums to no more than the room
pub fitting_small : (room : ℕ) (hs : List Header) → total (fitting room hs) ≤ room
unfolding fitting
fitting_small room [] = omega arith
fitting_small room (h ∷ hs) =
    elim (cases_lt room (size_of h)) [
      | inl small ↦ rw (fitting_none room h hs small) (omega arith)
      | inr le ↦ rw (fitting_more room h hs le) (omega (arith, fitting_small (room - size_of h) hs))
    ]

pub fitting_zero : (hs : List Header) → fitting 0 hs ≡ []
unfolding fitting
fitting_zero [] = refl
fitting_zero (h ∷ hs) = fitting_none 0 h hs (omega arith)

-- one header more in a list
pub kept_more : (headers : List Header) (h : Header) → total (headers ++ h ∷ []) ≤ 16384
    → fitting 16384 (headers ++ h ∷ []) ≡ fitting 16384 headers ++ h ∷ []
kept_more headers h le =
    let sum : total (headers ++ h ∷ []) ≡ total headers + (size_of h + 0) = total-append headers (h ∷ []) in
    fitting_all 16384 (headers ++ h ∷ []) le ∙ ap (λ (hs : List Header). hs ++ h ∷ []) (sym (fitting_all 16384 headers (omega arith)))
