-- Links are touched, and taken out.
use Rattle.std.proofs.Common.{◌≡◌, ◌≢◌, ⊎_elim, ◌==◌, ◌||◌, ◌&&◌, not, ℕ, Bool, true, false, cond, nat_le, nat_lt, min, Option, Some, None, is_some, List, [], ◌∷◌, ◌++◌, length, refl, ap, sym, ◌∙◌, arith}
use Rattle.std.proofs.lemmas.Bool.{and_parts, or_parts, or_from, eqb-false, eqb-true, leb-false, lt-leb, false≢true}
use Rattle.std.proofs.lemmas.List.Folds.{list_any-append}
use Rattle.std.specs.FinMap.{FinMap}
use Rattle.std.specs.Ordering.{nat_cmp}
use Rattle.hb_relays.specs.Touched.{is_listed, is_from, is_touched, is_idle, least, listed_too, touched, TakesOut}
use Rattle.hb_relays.specs.declared.touched.Touched.{Touched}

-- ONE IS TOUCHED

-- a number is below the least of two
below_least : (from : Option ℕ) (l m : ℕ) → nat_le (least from l) m ≡ false → (m ≢ l) × (is_from from m ≡ false)
below_least None l m is = let below = leb-false l m is in (λ same. omega (arith, below, same), refl)
below_least (Some n) l m is =
    let below = leb-false (min n l) m is in
    (λ same. omega (arith, below, same), lt-leb n m (omega (arith, below)))

-- one that isn't listed behind another is another one, and wasn't listed before
unlisted : (ns : List ℕ) (l m : ℕ) → is_listed (ns ++ l ∷ []) m ≡ false → (m ≢ l) × (is_listed ns m ≡ false)
unlisted ns l m is =
    let parts = or_parts (is_listed ns m) ((l == m) || false) (sym (list_any-append (λ n. n == m) ns (l ∷ [])) ∙ is) in
    (λ same. eqb-false l m (or_parts (l == m) false parts.1).0 (sym same), parts.0)

-- the same where it is listed, or else all from its number on are touched
unlisted_by : (l : ℕ) (t : Touched) (m : ℕ) (room : Bool)
    → is_touched (cond room (record t { listed = t.listed ++ l ∷ [] }) (record t { from = Some (least t.from l) })) m ≡ false
    → (m ≢ l) × (is_touched t m ≡ false)
unlisted_by l t m true is =
    let parts = or_parts (is_listed (t.listed ++ l ∷ []) m) (is_from t.from m) is in
    let before = unlisted t.listed l m parts.0 in
    (before.0, or_from (is_listed t.listed m) (is_from t.from m) before.1 parts.1)
unlisted_by l t m false is =
    let parts = or_parts (is_listed t.listed m) (nat_le (least t.from l) m) is in
    let before = below_least t.from l m parts.1 in
    (before.0, or_from (is_listed t.listed m) (is_from t.from m) parts.0 before.1)

-- what isn't touched then is another one, and wasn't before
pub untouched : (l : ℕ) (t : Touched) (m : ℕ) → is_touched (touched l t) m ≡ false → (m ≢ l) × (is_touched t m ≡ false)
untouched l t m is = by (is_listed t.listed l) refl
  where
    by : (b : Bool) → is_listed t.listed l ≡ b → (m ≢ l) × (is_touched t m ≡ false)
    by true here =
        let before : is_touched t m ≡ false = ap (λ (b : Bool). is_touched (cond b t (listed_too l t)) m) (sym here) ∙ is in
        let not_listed = (or_parts (is_listed t.listed m) (is_from t.from m) before).0 in
        (λ same. false≢true (sym not_listed ∙ ap (is_listed t.listed) same ∙ here), before)
    by false there =
        unlisted_by l t m (nat_lt (length t.listed) 32)
        (ap (λ (b : Bool). is_touched (cond b t (listed_too l t)) m) (sym there) ∙ is)

pub touched_here : (l : ℕ) (t : Touched) → is_touched (touched l t) l ≡ true
touched_here l t = by (is_touched (touched l t) l) refl
  where
    by : (b : Bool) → is_touched (touched l t) l ≡ b → b ≡ true
    by true is = refl
    by false is = absurd ((untouched l t l is).0 refl)

-- those that were touched stay so
pub touched_still : (l : ℕ) (t : Touched) (m : ℕ) → is_touched t m ≡ true → is_touched (touched l t) m ≡ true
touched_still l t m was = by (is_touched (touched l t) m) refl
  where
    by : (b : Bool) → is_touched (touched l t) m ≡ b → b ≡ true
    by true is = refl
    by false is = absurd (false≢true (sym (untouched l t m is).1 ∙ was))

-- where those that were touched stay so, one that isn't wasn't
pub untouched_before : (a b : Touched) (l : ℕ) → (is_touched a l ≡ true → is_touched b l ≡ true) → is_touched b l ≡ false
    → is_touched a l ≡ false
untouched_before a b l still none = by (is_touched a l) refl
  where
    by : (c : Bool) → is_touched a l ≡ c → is_touched a l ≡ false
    by false was = was
    by true was = absurd (false≢true (sym none ∙ still was))

-- where none is left none is touched
idle_by : (ns : List ℕ) (from : Option ℕ) (l : ℕ) → ((length ns == 0) && not (is_some from)) ≡ true
    → (is_listed ns l || is_from from l) ≡ false
idle_by [] None l is = refl
idle_by [] (Some n) l is = absurd (false≢true is)
idle_by (n ∷ ns) from l is =
    let none = eqb-true (length (n ∷ ns)) 0 (and_parts (length (n ∷ ns) == 0) (not (is_some from)) is).0 in absurd (omega arith)

pub none_touched : (t : Touched) → is_idle t ≡ true → (l : ℕ) → is_touched t l ≡ false
none_touched t is l = idle_by t.listed t.from l is

-- none is taken out, and then one or none
pub takes_then : {T : Type 0} (relays : FinMap nat_cmp T) (next : Option ℕ) (a b c : Touched)
    → TakesOut relays None a b → TakesOut relays next b c → TakesOut relays next a c
takes_then relays next a b c first more = record {
  there = more.there;
  others = λ l few some was. ⊎_elim (λ still. more.others l few some still) (λ at. absurd (cc at)) (first.others l few some was);
  nearer = λ l is. (let second = more.nearer l is in let one = first.no_farther in omega (arith, second, one));
  no_farther = (let second = more.no_farther in let one = first.no_farther in omega (arith, second, one));
}
