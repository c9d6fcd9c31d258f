use Rattle.std.proofs.Common.{◌≡◌, ℕ, List, [], ◌∷◌, ◌++◌, drop, get_or, append-nil, refl, sym, ap, ◌∙◌, inl, inr, arith}
use Rattle.hb_line_audit.specs.Lines.{lost_line}
use Rattle.hb_line_audit.specs.Notes.{AreLines}
use Rattle.hb_line_audit.specs.Refused.{another, LineIsMissing, LinesChangePlaces, LineIsCut, LostIsHidden}
use Rattle.hb_line_audit.proofs.laws.texts_of_lines_are_told_apart.Goals as goal

-- the first octet
abbrev head : List ℕ → ℕ
head text = get_or text 0 0

-- the octets of a line, of the other one and of the one that tells of those that were lost, and counts, are apart
other : ◌≡◌ {A = ℕ} 98 97 → ⊥
other same = omega (arith, same)

told : ◌≡◌ {A = ℕ} 97 104 → ⊥
told same = omega (arith, same)

other_told : ◌≡◌ {A = ℕ} 98 104 → ⊥
other_told same = omega (arith, same)

empty : ◌≡◌ {A = ℕ} 0 98 → ⊥
empty same = omega (arith, same)

one : ◌≡◌ {A = ℕ} 0 1 → ⊥
one same = omega (arith, same)

two : ◌≡◌ {A = ℕ} 0 2 → ⊥
two same = omega (arith, same)

three : ◌≡◌ {A = ℕ} 0 3 → ⊥
three same = omega (arith, same)

missing : LineIsMissing
missing (inl on) = other (ap head on.1)
missing (inr (inl on)) = other_told (ap head on.1)
missing (inr (inr on)) = two on.1

swapped : LinesChangePlaces
swapped (inl on) = other (ap head on.1)
swapped (inr (inl on)) = other_told (ap head on.1)
swapped (inr (inr on)) = two on.1

-- the second line behind the first one
behind : (rest : List ℕ) → [] ≡ rest → AreLines (another ∷ []) 0 rest 0 → ⊥
behind rest none (inl on) = empty (ap head (none ∙ on.1))
behind rest none (inr on) = one on.1

cut : LineIsCut
cut (inl on) = behind on.0 (ap (drop 2) on.1) on.2
cut (inr (inl on)) = told (ap head on.1)
cut (inr (inr on)) = two on.1

hidden : LostIsHidden
hidden (inl on) = told (ap head on.1)
hidden (inr (inl on)) = told (ap head on.1)
hidden (inr (inr on)) = three on.1

pub returns-clause-whole : goal.returns-clause-whole
returns-clause-whole c = inl (another, refl, inl ([], refl, (refl, refl)))

pub returns-clause-lost : goal.returns-clause-lost
returns-clause-lost c = inr (inl ([], sym (append-nil (lost_line 1 ++ another)), (refl, refl)))

pub returns-clause-missing : goal.returns-clause-missing
returns-clause-missing c = missing

pub returns-clause-places : goal.returns-clause-places
returns-clause-places c = swapped

pub returns-clause-cut : goal.returns-clause-cut
returns-clause-cut c = cut

pub returns-clause-hidden : goal.returns-clause-hidden
returns-clause-hidden c = hidden
