-- What is appended, one piece after another.
use Rattle.std.proofs.Common.{◌≡◌, ℕ, List, [], ◌++◌, refl, sym, ap, ◌∙◌, append_assoc}
use Rattle.std.proofs.lemmas.List.{append-nil}
use Rattle.hb_base.specs.Groups.{AppendsFront}

-- nothing is a front of any bytes
pub front_none : (old bytes : List ℕ) → AppendsFront old old bytes
front_none old bytes = ([], bytes, refl, sym (append-nil old))

-- all of the bytes are
pub front_all : (old new bytes : List ℕ) → new ≡ old ++ bytes → AppendsFront old new bytes
front_all old new bytes e = (bytes, [], sym (append-nil bytes), e)

-- a front of the first piece is one of both
pub front_first : (old new first second : List ℕ) → AppendsFront old new first → AppendsFront old new (first ++ second)
front_first old new first second f =
    let (front, rest, is, then) = f in
    (front, rest ++ second, ap (λ (xs : List ℕ). xs ++ second) is ∙ append_assoc front rest second, then)

-- the first piece, and a front of the second
pub front_then : (old mid new first second : List ℕ) → mid ≡ old ++ first → AppendsFront mid new second
    → AppendsFront old new (first ++ second)
front_then old mid new first second e f =
    let (front, rest, is, then) = f in (
      first ++ front,
      rest,
      ap (λ (xs : List ℕ). first ++ xs) is ∙ sym (append_assoc first front rest),
      then ∙ ap (λ (xs : List ℕ). xs ++ front) e ∙ append_assoc old first front,
    )

-- both pieces
pub both : (old mid new first second : List ℕ) → mid ≡ old ++ first → new ≡ mid ++ second → new ≡ old ++ (first ++ second)
both old mid new first second e f = f ∙ ap (λ (xs : List ℕ). xs ++ second) e ∙ append_assoc old first second
