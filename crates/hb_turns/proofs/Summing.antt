-- What is counted of a run, behind one more entry or note.
use Rattle.std.proofs.Common.{◌≡◌, ℕ, ◌+◌, Bool, true, false, if◌then◌else◌, List, [], ◌∷◌, ◌++◌, Option, refl, ap, sym, ◌∙◌, arith, append_assoc}
use Rattle.std.proofs.lemmas.List.{append-nil}
use Rattle.hb_base.specs.declared.cause.Cause.TheVariants.{Revoked}
use Rattle.hb_ready.specs.Sight.{known}
use Rattle.hb_ready.specs.declared.link.Link.{Link}
use Rattle.hb_world.specs.declared.entry.Entry.{Entry}
use Rattle.hb_world.specs.declared.entry.Entry.TheVariants as e
use Rattle.hb_turns.specs.Totals.{counted, count_at, is_revocation, revoked, revokes, was_dialled}
use Rattle.hb_turns.specs.declared.served.Totals.{Totals}
use Rattle.hb_turns.specs.declared.sums.Sums.{Sums}

-- one more, and no more
counted-suc : (n m : ℕ) → n ≡ counted m → counted (n + 1) ≡ counted (m + 1)
counted-suc n m is = omega (arith, is)

-- the entry at the end is counted by those before it
pub count_at-grows : (P : List Entry → Entry → Bool) (before trace : List Entry) (x : Entry)
    → count_at P before (trace ++ x ∷ []) ≡ count_at P before trace + (if P (before ++ trace) x then 1 else 0)
count_at-grows P before [] x =
    ap (λ (es : List Entry). (if P es x then 1 else 0) + 0) (sym (append-nil before)) ∙ omega arith
count_at-grows P before (y ∷ ys) x =
    ap (λ (n : ℕ). (if P before y then 1 else 0) + n)
    (count_at-grows P (before ++ y ∷ []) ys x
    ∙ ap (λ (es : List Entry). count_at P (before ++ y ∷ []) ys + (if P es x then 1 else 0)) (append_assoc before (y ∷ []) ys))
    ∙ omega arith

-- the links that live are those that the trace tells
revokes-same : (f g : ℕ → Option Link) (x : Entry) → ((l : ℕ) → f l ≡ g l) → revokes f x ≡ revokes g x
revokes-same f g (e.Closed l Revoked) same = ap was_dialled (same l)
revokes-same f g _ same = refl

-- one more entry
pub revoked-grows : (links : ℕ → Option Link) (n : ℕ) (trace : List Entry) (x : Entry) → ((l : ℕ) → links l ≡ known l trace)
    → n ≡ counted (revoked trace)
    → (if revokes links x then counted (n + 1) else n) ≡ counted (revoked (trace ++ x ∷ []))
revoked-grows links n trace x same is =
    by (revokes links x) (is_revocation trace x) (revokes-same links (λ l. known l trace) x same)
    ∙ ap counted (sym (count_at-grows is_revocation [] trace x))
  where
    by : (b c : Bool) → b ≡ c → (if b then counted (n + 1) else n) ≡ counted (revoked trace + (if c then 1 else 0))
    by true true same = counted-suc n (revoked trace) is
    by false false same = omega (arith, is)
    by true false same = absurd cc
    by false true same = absurd cc

-- the totals, from what is counted
abbrev pub totals_in : ℕ → ℕ → Sums → Totals
totals_in links revoked sums =
    record { links = links; accepted = sums.accepted; revoked = revoked; up = sums.up; down = sums.down; lacked = sums.lacked }

pub totals_same : (l m r q : ℕ) (s t : Sums) → l ≡ m → r ≡ q → s ≡ t → totals_in l r s ≡ totals_in m q t
totals_same l m r q s t links revoked sums =
    ap (λ (x : ℕ). totals_in x r s) links ∙ ap (λ (x : ℕ). totals_in m x s) revoked ∙ ap (λ (x : Sums). totals_in m q x) sums
