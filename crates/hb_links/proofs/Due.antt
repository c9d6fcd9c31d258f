-- A link that is touched may have an act due, and the others as before.
use Rattle.std.proofs.Common.{◌≡◌, ◌≢◌, ◌==◌, ◌||◌, ◌&&◌, not, ℕ, Bool, true, false, cond, nat_le, min, Option, Some, None, is_some, refl, ap, sym, ◌∙◌, arith}
use Rattle.std.proofs.lemmas.Bool.{or_parts, or_from, eqb-false, eqb-true, leb-false, lt-leb, false≢true}
use Rattle.hb_inbound.specs.Inbound.{Inbound}
use Rattle.hb_link.specs.Acts.{NoneIsDue}
use Rattle.hb_links.specs.declared.links.Links.{Links}
use Rattle.hb_links.specs.Busy.{is_at, is_from, may_be_due, is_idle, busy_after, least, from_after, touched}
use Rattle.hb_links.specs.Shows.{ShowsAll}

-- a number is below the least of two
pub below_least : (from : Option ℕ) (l m : ℕ) → nat_le (least from l) m ≡ false → (m ≢ l) × (is_from from m ≡ false)
below_least None l m is = let below = leb-false l m is in (λ same. omega (arith, below, same), refl)
below_least (Some n) l m is =
    let below = leb-false (min n l) m is in
    (λ same. omega (arith, below, same), lt-leb n m (omega (arith, below)))

due_by : (busy from : Option ℕ) (l m : ℕ) → (is_at (busy_after busy l) m || is_from (from_after busy from l) m) ≡ false
    → (m ≢ l) × ((is_at busy m || is_from from m) ≡ false)
due_by None from l m is =
    let parts = or_parts (l == m) (is_from from m) is in (λ same. eqb-false l m parts.0 (sym same), parts.1)
due_by (Some n) from l m is = by (n == l) refl
  where
    by : (b : Bool) → (n == l) ≡ b → (m ≢ l) × (((n == m) || is_from from m) ≡ false)
    by true here =
        let parts = or_parts (n == m) (is_from from m)
        (ap (λ (b : Bool). (n == m) || is_from (cond b from (Some (least from l))) m) (sym here) ∙ is) in
        (λ same. eqb-false n m parts.0 (eqb-true n l here ∙ sym same), or_from (n == m) (is_from from m) parts.0 parts.1)
    by false there =
        let parts = or_parts (n == m) (nat_le (least from l) m)
        (ap (λ (b : Bool). (n == m) || is_from (cond b from (Some (least from l))) m) (sym there) ∙ is) in
        let below = below_least from l m parts.1 in
        (below.0, or_from (n == m) (is_from from m) parts.0 below.1)

pub due_then : (k : Links) (l before m : ℕ) → may_be_due (touched l before k) m ≡ false → (m ≢ l) × (may_be_due k m ≡ false)
due_then k l before m is = due_by k.busy k.from l m is

-- where none may have one, none has
idle_by : (busy from : Option ℕ) (l : ℕ) → (not (is_some busy) && not (is_some from)) ≡ true → (is_at busy l || is_from from l) ≡ false
idle_by None None l is = refl
idle_by None (Some n) l is = absurd (false≢true is)
idle_by (Some n) from l is = absurd (false≢true is)

pub none_is_due : (k : Links) (f : ℕ → Inbound) → is_idle k ≡ true → ShowsAll k f → (l : ℕ) → NoneIsDue (f l)
none_is_due k f is shows l = shows.idle l (idle_by k.busy k.from l is)
