-- What a trace says once one more entry stands at its end.
use Rattle.std.proofs.Common.{◌≡◌, ◌⊎◌, ℕ, ◌+◌, Bool, true, false, not, ◌&&◌, ◌||◌, cond, List, [], ◌∷◌, ◌++◌, refl, ap, ◌∙◌, sym, subst, inl, inr, ⊎_elim, zero-add}
use Rattle.std.proofs.lemmas.List.{append-nil, append_assoc}
use Rattle.std.proofs.lemmas.List.Concat.{flat_map-append}
use Rattle.std.proofs.lemmas.List.Folds.{list_any-append}
use Rattle.std.proofs.lemmas.List.Sums.{sum_by-append}
use Rattle.std.specs.List.{list_any}
use Rattle.std.specs.Prelude.{if◌then◌else◌}
use Rattle.hb_base.specs.declared.door.Door.{Door}
use Rattle.hb_world.specs.declared.entry.Entry.{Entry}
use Rattle.hb_world.specs.Trace.{came_on, went_on, recv, sent, is_birth, births, is_birth_of, is_close_of, is_shut_of, is_listen_at, was_born, was_closed, was_shut, lives, listens, AtEach}

pub recv-grows : (link : ℕ) (trace : List Entry) (e : Entry) → recv link (trace ++ e ∷ []) ≡ recv link trace ++ came_on link e
recv-grows link trace e =
    flat_map-append (came_on link) trace (e ∷ []) ∙ ap (λ (xs : List ℕ). recv link trace ++ xs) (append-nil (came_on link e))

pub sent-grows : (link : ℕ) (trace : List Entry) (e : Entry) → sent link (trace ++ e ∷ []) ≡ sent link trace ++ went_on link e
sent-grows link trace e =
    flat_map-append (went_on link) trace (e ∷ []) ∙ ap (λ (xs : List ℕ). sent link trace ++ xs) (append-nil (went_on link e))

pub any-grows : {X : Type 0} (p : X → Bool) (xs : List X) (x : X) → list_any p (xs ++ x ∷ []) ≡ (list_any p xs || p x)
any-grows p xs x = list_any-append p xs (x ∷ []) ∙ ap (λ (b : Bool). list_any p xs || b) (or-false (p x))
  where
    or-false : (b : Bool) → (b || false) ≡ b
    or-false true = refl
    or-false false = refl

pub was_born-grows : (link : ℕ) (trace : List Entry) (e : Entry)
    → was_born link (trace ++ e ∷ []) ≡ (was_born link trace || is_birth_of link e)
was_born-grows link trace e = any-grows (is_birth_of link) trace e

pub was_closed-grows : (link : ℕ) (trace : List Entry) (e : Entry)
    → was_closed link (trace ++ e ∷ []) ≡ (was_closed link trace || is_close_of link e)
was_closed-grows link trace e = any-grows (is_close_of link) trace e

pub was_shut-grows : (link : ℕ) (trace : List Entry) (e : Entry)
    → was_shut link (trace ++ e ∷ []) ≡ (was_shut link trace || is_shut_of link e)
was_shut-grows link trace e = any-grows (is_shut_of link) trace e

pub listens-grows : (door : Door) (trace : List Entry) (e : Entry)
    → listens door (trace ++ e ∷ []) ≡ (listens door trace || is_listen_at door e)
listens-grows door trace e = any-grows (is_listen_at door) trace e

pub lives-grows : (link : ℕ) (trace : List Entry) (e : Entry) → lives link (trace ++ e ∷ [])
    ≡ ((was_born link trace || is_birth_of link e) && not (was_closed link trace || is_close_of link e))
lives-grows link trace e =
    ap (λ (b : Bool). b && not (was_closed link (trace ++ e ∷ []))) (was_born-grows link trace e)
    ∙ ap (λ (b : Bool). (was_born link trace || is_birth_of link e) && not b) (was_closed-grows link trace e)

pub births-grow : (trace : List Entry) (e : Entry) → births (trace ++ e ∷ []) ≡ births trace + (if is_birth e then 1 else 0)
births-grow trace e = sum_by-append (λ (x : Entry). cond (is_birth x) 1 0) trace (e ∷ []) ∙ ap (λ (n : ℕ). births trace + n) (zero-add _)

-- a place of a longer trace is its end, or a place of the trace
pub Place : List Entry → Entry → List Entry → Entry → List Entry → Type 0
Place trace e before x after =
    ((before ≡ trace) × (x ≡ e)) ⊎ ((more : List Entry) × (trace ≡ before ++ x ∷ more))

pub place_of : (trace : List Entry) (e : Entry) (before : List Entry) (x : Entry) (after : List Entry)
    → trace ++ e ∷ [] ≡ before ++ x ∷ after → Place trace e before x after
unfolding Place
place_of [] e [] x after is = inl (refl, cc)
place_of [] e (b ∷ []) x after is = absurd (cc)
place_of [] e (b ∷ c ∷ bs) x after is = absurd (cc)
place_of (t ∷ ts) e [] x after is = inr (ts, cc)
place_of (t ∷ ts) e (b ∷ bs) x after is =
    ⊎_elim (λ h. inl (let p : bs ≡ ts = h.0 in cc, h.1)) (λ h. inr (h.0, let p : ts ≡ bs ++ x ∷ h.0 = h.1 in cc))
    (place_of ts e bs x after (cc))

-- what holds at each place of a longer trace holds at each place of the trace and at its end
pub AtEach-grows : (P : List Entry → Entry → Type 0) (trace : List Entry) (e : Entry)
    → AtEach P trace → P trace e → AtEach P (trace ++ e ∷ [])
unfolding Place
AtEach-grows P trace e each here before x after is =
    ⊎_elim (λ h. subst (λ (y : Entry). P before y) (sym h.1) (subst (λ (xs : List Entry). P xs e) (sym h.0) here))
    (λ h. each before x h.0 h.1) (place_of trace e before x after is)

pub AtEach-before : (P : List Entry → Entry → Type 0) (trace : List Entry) (e : Entry) → AtEach P (trace ++ e ∷ []) → AtEach P trace
AtEach-before P trace e each before x after is =
    each before x (after ++ e ∷ []) (ap (λ (xs : List Entry). xs ++ e ∷ []) is ∙ append_assoc before (x ∷ after) (e ∷ []))

pub AtEach-last : (P : List Entry → Entry → Type 0) (trace : List Entry) (e : Entry) → AtEach P (trace ++ e ∷ []) → P trace e
AtEach-last P trace e each = each trace e [] refl
