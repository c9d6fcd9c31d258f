-- The parts of a text and its first cut.
use Rattle.std.proofs.Common.{◌≡◌, ℕ, ◌<◌, ◌≤◌, List, [], ◌∷◌, ◌++◌, length, Bool, true, false, Option, Some, None, nat_eq, nat_lt, eq-eqb, if◌then◌else◌, refl, sym, ◌∙◌, ap, arith}
use Rattle.std.specs.List.{All, position_or_len, onto_first, before_first, after_first}
use Rattle.std.proofs.lemmas.List.Splits.{slice_split_at, slice_split_first, slice_split_none}
use Rattle.std.proofs.lemmas.List.Sums.{fails_before_first}
use Rattle.std.proofs.lemmas.List.Elements.{All-from_get_or}
use Rattle.std.proofs.lemmas.Bool.Decides.{nat_tests}
use Rattle.std.specs.Borrow.{Bor}
use Rattle.std.specs.Option.{is_some}
use Rattle.hb_base.specs.Parts.{parts, cut_first, cut_lists}

-- this byte stands nowhere in the text
abbrev pub Lacks : ℕ → List ℕ → Type 0
Lacks c text = All (λ b. nat_eq b c ≡ false) text

-- a part, a separator and more parts
pub parts_at : (c : ℕ) (part more : List ℕ) → Lacks c part → parts c (part ++ c ∷ more) ≡ part ∷ parts c more
parts_at c part more lacks = slice_split_at (λ b. nat_eq b c) part c more lacks (eq-eqb c c refl)

-- one part
pub parts_end : (c : ℕ) (part : List ℕ) → Lacks c part → parts c part ≡ part ∷ []
parts_end c part lacks = slice_split_none (λ b. nat_eq b c) part lacks

-- the parts, by the first cut
abbrev pub parts_of_cut : ℕ → List ℕ → Option (List ℕ × List ℕ) → List (List ℕ)
parts_of_cut separator text None = text ∷ []
parts_of_cut separator text (Some cut) = cut.0 ∷ parts separator cut.1

module _ (separator : ℕ) (text : List ℕ) where
  abbrev is_separator : ℕ → Bool
  is_separator b = nat_eq b separator

  cut_within : position_or_len is_separator text < length text → parts separator text ≡ before_first is_separator text ∷ parts separator
      (after_first is_separator text)
  cut_within h = slice_split_first is_separator text 0 h

  cut_nowhere : length text ≤ position_or_len is_separator text → parts separator text ≡ text ∷ []
  cut_nowhere h = slice_split_none is_separator text
      (All-from_get_or (λ b. is_separator b ≡ false) text 0 (λ i below. fails_before_first is_separator text i 0 (omega arith)))

  by_test : (b : Bool) → nat_lt (position_or_len is_separator text) (length text) ≡ b → parts separator text
      ≡ parts_of_cut separator text (cut_first separator text)
  by_test true h = rw h (cut_within (grind (arith, nat_tests)))
  by_test false h = rw h (cut_nowhere (grind (arith, nat_tests)))

  pub parts-first : parts separator text ≡ parts_of_cut separator text (cut_first separator text)
  parts-first = by_test (nat_lt (position_or_len is_separator text) (length text)) refl

-- the parts of a text that has no separator, and of one that has one
pub uncut : (separator : ℕ) (text : List ℕ) → None ≡ cut_first separator text → parts separator text ≡ text ∷ []
uncut separator text h = parts-first separator text ∙ ap (parts_of_cut separator text) (sym h)

pub cut : (separator : ℕ) (text first rest : List ℕ) → Some (first, rest) ≡ cut_first separator text
    → parts separator text ≡ first ∷ parts separator rest
cut separator text first rest h = parts-first separator text ∙ ap (parts_of_cut separator text) (sym h)

-- a text has a first part
some_part : (separator : ℕ) (text : List ℕ) → 0 < length (parts separator text)
some_part separator [] = omega arith
some_part separator (b ∷ more) = starts (nat_eq b separator) (parts separator more)
  where
    starts : (at : Bool) (ps : List (List ℕ)) → 0 < length (if at then ([] ∷ ps) else onto_first b ps)
    starts true ps = omega arith
    starts false [] = omega arith
    starts false (p ∷ ps) = omega arith

-- the same, by whether there is a cut
pub cut_makes_two : (separator : ℕ) (text : List ℕ) (two : Option (Bor (List ℕ) × Bor (List ℕ)))
    → cut_lists two ≡ cut_first separator text → is_some two ≡ true → 1 < length (parts separator text)
cut_makes_two separator text None h is = cc
cut_makes_two separator text (Some two) h is =
    let more : 0 < length (parts separator two.1.now) = some_part separator two.1.now in
    rw (cut separator text two.0.now two.1.now h) (omega arith)

pub no_cut_makes_one : (separator : ℕ) (text : List ℕ) (two : Option (Bor (List ℕ) × Bor (List ℕ)))
    → cut_lists two ≡ cut_first separator text → is_some two ≡ false → parts separator text ≡ text ∷ []
no_cut_makes_one separator text None h is = uncut separator text h
no_cut_makes_one separator text (Some two) h is = cc
