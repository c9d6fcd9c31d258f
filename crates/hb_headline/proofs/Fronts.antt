-- The front of a run's points that a front of its trace has.
use Rattle.std.proofs.Common.{◌≡◌, ◌⊎◌, inl, inr, ⊎_elim, ℕ, ◌-◌, ◌≤◌, Bool, true, false, cond, List, [], ◌∷◌, ◌++◌, length, refl, ap, sym, ◌∙◌, arith, length-append}
use Rattle.std.specs.Prelude.{nat_le}
use Rattle.std.proofs.lemmas.Bool.Decides.{nat_tests}
use Rattle.hb_proxy.proofs.Places.{short}
use Rattle.hb_proxy.specs.Points.{Point, entry_in, entries}
use Rattle.hb_world.specs.declared.entry.Entry.{Entry}

-- the longest front of these points that has at most so many entries
abbrev pub front_at : ℕ → List Point → List Point
front_at n [] = []
front_at n (p ∷ points) = cond (nat_le (length (entry_in p)) n) (p ∷ front_at (n - length (entry_in p)) points) []

-- it is a front of them
pub record Splits (points front : List Point) : Type 0 where
  pub back : List Point
  pub is : points ≡ front ++ back

pub split_at : (n : ℕ) (points : List Point) → Splits points (front_at n points)
split_at n [] = record { back = []; is = refl }
split_at n (p ∷ points) = by (nat_le (length (entry_in p)) n) (split_at (n - length (entry_in p)) points)
  where
    by : (b : Bool) → Splits points (front_at (n - length (entry_in p)) points)
        → Splits (p ∷ points) (cond b (p ∷ front_at (n - length (entry_in p)) points) [])
    by true rest = record { back = rest.back; is = ap (λ (ps : List Point). p ∷ ps) rest.is }
    by false rest = record { back = p ∷ points; is = refl }

-- so it is of one with more entries
pub grows_at : (n m : ℕ) → n ≤ m → (points : List Point) → Splits (front_at m points) (front_at n points)
grows_at n m most [] = record { back = []; is = refl }
grows_at n m most (p ∷ points) =
    by (nat_le k n) refl (grows_at (n - k) (m - k) (omega (arith, most)) points)
  where
    k : ℕ
    k = length (entry_in p)

    by : (b : Bool) → nat_le k n ≡ b → Splits (front_at (m - k) points) (front_at (n - k) points)
        → Splits (front_at m (p ∷ points)) (cond b (p ∷ front_at (n - k) points) [])
    by true is rest = record {
      back = rest.back;
      is = ap (λ (b : Bool). cond b (p ∷ front_at (m - k) points) [])
          (let fits : nat_le k m ≡ true = grind (arith, nat_tests, is, most) in fits)
          ∙ ap (λ (ps : List Point). p ∷ ps) rest.is;
    }
    by false is rest = record { back = front_at m (p ∷ points); is = refl }

-- where the first point's entries fit it goes on behind it
goes_on_at : (n : ℕ) (p : Point) (points : List Point) → length (entry_in p) ≤ n
    → front_at n (p ∷ points) ≡ p ∷ front_at (n - length (entry_in p)) points
goes_on_at n p points most =
    ap (λ (b : Bool). cond b (p ∷ front_at (n - length (entry_in p)) points) [])
    (let fits : nat_le (length (entry_in p)) n ≡ true = grind (arith, nat_tests, most) in fits)

stops_at : (p : Point) (points : List Point) (z : Entry) → entry_in p ≡ z ∷ [] → front_at 0 (p ∷ points) ≡ []
stops_at p points z told =
    ap (λ (b : Bool). cond b (p ∷ front_at (0 - length (entry_in p)) points) [])
    (ap (λ (es : List Entry). nat_le (length es) 0) told)

-- it has as many entries as it may
pub entries_at : (points : List Point) (before after : List Entry) → entries points ≡ before ++ after
    → entries (front_at (length before) points) ≡ before
entries_at [] [] after is = refl
entries_at [] (b ∷ before) after is = absurd cc
entries_at (p ∷ points) before after is = by (short p) (λ front. entries_at points front after)
  where
    one : (z : Entry) → entry_in p ≡ z ∷ [] → (front : List Entry) → z ∷ entries points ≡ front ++ after
        → ((front : List Entry) → entries points ≡ front ++ after → entries (front_at (length front) points) ≡ front)
        → entries (front_at (length front) (p ∷ points)) ≡ front
    one z told [] same again = ap entries (stops_at p points z told)
    one z told (b ∷ front) same again =
        let first : z ≡ b = cc in
        let others : entries points ≡ front ++ after = cc in
        let size : length (entry_in p) ≡ 1 = ap length told in
        ap entries (goes_on_at (length (b ∷ front)) p points (omega (arith, size)))
        ∙ ap (λ (n : ℕ). entry_in p ++ entries (front_at n points))
        (let less : length (b ∷ front) - length (entry_in p) ≡ length front = omega (arith, size) in less)
        ∙ ap (λ (es : List Entry). es ++ entries (front_at (length front) points)) told
        ∙ ap (λ (es : List Entry). z ∷ es) (again front others)
        ∙ ap (λ (x : Entry). x ∷ front) first

    by : (entry_in p ≡ []) ⊎ ((z : Entry) × (entry_in p ≡ z ∷ []))
        → ((front : List Entry) → entries points ≡ front ++ after → entries (front_at (length front) points) ≡ front)
        → entries (front_at (length before) (p ∷ points)) ≡ before
    by (inl none) again =
        let size : length (entry_in p) ≡ 0 = ap length none in
        ap entries (goes_on_at (length before) p points (omega (arith, size)))
        ∙ ap (λ (n : ℕ). entry_in p ++ entries (front_at n points))
        (let less : length before - length (entry_in p) ≡ length before = omega (arith, size) in less)
        ∙ ap (λ (es : List Entry). es ++ entries (front_at (length before) points)) none
        ∙ again before (sym (ap (λ (es : List Entry). es ++ entries points) none) ∙ is)
    by (inr (z, told)) again = one z told before (sym (ap (λ (es : List Entry). es ++ entries points) told) ∙ is) again

-- in front of a point with an entry it is what stands there
pub place_at : (front : List Point) (p : Point) (rest : List Point) (z : Entry) → entry_in p ≡ z ∷ []
    → front_at (length (entries front)) (front ++ p ∷ rest) ≡ front
place_at [] p rest z told = stops_at p rest z told
place_at (q ∷ front) p rest z told =
    let n = length (entries (q ∷ front)) in
    let size = length-append (entry_in q) (entries front) in
    goes_on_at n q (front ++ p ∷ rest) (omega (arith, size))
    ∙ ap (λ (m : ℕ). q ∷ front_at m (front ++ p ∷ rest))
    (let less : n - length (entry_in q) ≡ length (entries front) = omega (arith, size) in less)
    ∙ ap (λ (ps : List Point). q ∷ ps) (place_at front p rest z told)

-- two parts of one list: all of it, or in front of its last
pub split_last : {A : Type 0} (body : List A) (z : A) (before after : List A) → body ++ z ∷ [] ≡ before ++ after
    → (before ≡ body ++ z ∷ []) ⊎ ((more : List A) × (body ≡ before ++ more))
split_last body z [] after is = inr (body, refl)
split_last [] z (b ∷ []) after is = inl (let same : b ≡ z = cc in ap (λ x. x ∷ []) same)
split_last [] z (b ∷ c ∷ before) after is = absurd cc
split_last (x ∷ body) z (b ∷ before) after is =
    let first : x ≡ b = cc in
    let others : body ++ z ∷ [] ≡ before ++ after = cc in
    ⊎_elim
    (λ (all : before ≡ body ++ z ∷ []). inl (let same : b ∷ before ≡ x ∷ (body ++ z ∷ []) = cc in same))
    (λ (part : (more : List _) × (body ≡ before ++ more)). inr (part.0, (let same : body ≡ before ++ part.0 = part.1 in cc)))
    (split_last body z before after others)
