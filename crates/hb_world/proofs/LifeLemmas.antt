-- The lives of links once one more entry stands in the trace.
use Rattle.std.proofs.Common.{◌≡◌, ℕ, ◌+◌, ◌-◌, ◌<◌, ◌≤◌, Bool, true, false, IsTrue, ◌&&◌, ◌||◌, cond, eqb, suc, zero, List, [], ◌∷◌, ◌++◌, length, set, refl, ap, ap₂, ◌∙◌, sym, subst, arith, Option, Some, None, ⊎_elim, add-zero}
use Rattle.std.proofs.lemmas.Bool.{eq-eqb, ne_eqb, cond-true, cond-false, cond_both, cases_eq}
use Rattle.std.proofs.lemmas.List.{length-append, length-set}
use Rattle.std.proofs.lemmas.List.Sums.{sum_by-append, sum_by-set}
use Rattle.std.proofs.lemmas.Option.{slice_get_within, slice_get_past, get_or_from_slice_get}
use Rattle.std.specs.List.{slice_get}
use Rattle.std.specs.Option.{is_some}
use Rattle.hb_world.specs.declared.entry.Entry.{Entry}
use Rattle.hb_world.specs.declared.trace.Life.{Life}
use Rattle.hb_world.specs.declared.entry.Entry.TheVariants as v
use Rattle.hb_world.specs.LifeEntries.{IsBirth, fresh, is_plain}
use Rattle.hb_world.specs.Lives.{life_of, shut_in, closed_in, owed_by, AreLives}
use Rattle.hb_world.specs.Trace.{is_birth, is_birth_of, is_close_of, is_shut_of}
use Rattle.hb_world.proofs.TraceLemmas.{births-grow, was_born-grows, was_closed-grows, was_shut-grows}

get-push : {X : Type 0} (xs : List X) (x : X) (k : ℕ) → slice_get (xs ++ x ∷ []) k ≡ cond (eqb k (length xs)) (Some x) (slice_get xs k)
get-push [] x zero = refl
get-push [] x (suc k) = sym (cond-false _ _ _ (ne_eqb (suc k) 0 (λ e. omega (arith, e))))
get-push (y ∷ xs) x zero = sym (cond-false _ _ _ (ne_eqb 0 (suc (length xs)) (λ e. omega (arith, e))))
get-push (y ∷ xs) x (suc k) =
    get-push xs x k
    ∙ ap (λ (b : Bool). cond b (Some x) (slice_get xs k))
    (⊎_elim (λ e. eq-eqb k (length xs) e ∙ sym (eq-eqb (suc k) (suc (length xs)) (ap suc e)))
    (λ n. ne_eqb k (length xs) n ∙ sym (ne_eqb (suc k) (suc (length xs)) (λ e. n (let h : suc k ≡ suc (length xs) = e in omega
    (arith, h))))) (cases_eq k (length xs)))

get-set : {X : Type 0} (xs : List X) (i : ℕ) (x : X) (k : ℕ) → i < length xs → slice_get (set xs i x) k ≡ cond (eqb k i) (Some x)
    (slice_get xs k)
get-set [] i x k h = absurd (omega (arith, h))
get-set (y ∷ xs) zero x zero h = refl
get-set (y ∷ xs) zero x (suc k) h = sym (cond-false _ _ _ (ne_eqb (suc k) 0 (λ e. omega (arith, e))))
get-set (y ∷ xs) (suc i) x zero h = sym (cond-false _ _ _ (ne_eqb 0 (suc i) (λ e. omega (arith, e))))
get-set (y ∷ xs) (suc i) x (suc k) h =
    get-set xs i x k (omega (arith, h))
    ∙ ap (λ (b : Bool). cond b (Some x) (slice_get xs k))
    (⊎_elim (λ e. eq-eqb k i e ∙ sym (eq-eqb (suc k) (suc i) (ap suc e)))
    (λ n. ne_eqb k i n ∙ sym (ne_eqb (suc k) (suc i) (λ e. n (let h : suc k ≡ suc i = e in omega (arith, h))))) (cases_eq k i))

life-zero : (ls : List Life) → life_of ls 0 ≡ None
life-zero ls = refl

life-suc : (ls : List Life) (k : ℕ) → life_of ls (suc k) ≡ slice_get ls k
life-suc ls k =
    cond-false _ _ _ (ne_eqb (suc k) 0 (λ e. omega (arith, e))) ∙ ap (λ (n : ℕ). slice_get ls n) (let e : suc k - 1
    ≡ k = omega arith in e)

pub life-push : (ls : List Life) (x : Life) (k : ℕ) → life_of (ls ++ x ∷ []) k ≡ cond (eqb (length ls + 1) k) (Some x) (life_of ls k)
life-push ls x zero = sym (cond-false _ _ _ (ne_eqb (length ls + 1) 0 (λ e. omega (arith, e))))
life-push ls x (suc k) =
    life-suc (ls ++ x ∷ []) k ∙ get-push ls x k
    ∙ ap₂ (λ (b : Bool) (o : Option Life). cond b (Some x) o)
    (⊎_elim (λ e. eq-eqb k (length ls) e ∙ sym (eq-eqb (length ls + 1) (suc k) (let h : k ≡ length ls = e in omega (arith, h))))
    (λ n. ne_eqb k (length ls) n ∙ sym (ne_eqb (length ls + 1) (suc k) (λ e. n (let h : length ls + 1 ≡ suc k = e in omega
    (arith, h))))) (cases_eq k (length ls)))
    (sym (life-suc ls k))

pub life-set : (ls : List Life) (link : ℕ) (x : Life) (k : ℕ) → 0 < link → link - 1 < length ls
    → life_of (set ls (link - 1) x) k ≡ cond (eqb link k) (Some x) (life_of ls k)
life-set ls link x zero some fits = sym (cond-false _ _ _ (ne_eqb link 0 (λ e. omega (arith, e, some))))
life-set ls link x (suc k) some fits =
    life-suc (set ls (link - 1) x) k ∙ get-set ls (link - 1) x k fits
    ∙ ap₂ (λ (b : Bool) (o : Option Life). cond b (Some x) o)
    (⊎_elim (λ e. eq-eqb k (link - 1) e ∙ sym (eq-eqb link (suc k) (let h : k ≡ link - 1 = e in omega (arith, h, some))))
    (λ n. ne_eqb k (link - 1) n ∙ sym (ne_eqb link (suc k) (λ e. n (let h : link ≡ suc k = e in omega (arith, h))))) (cases_eq k
    (link - 1)))
    (sym (life-suc ls k))

-- where a link has a life
pub life-place : (ls : List Life) (link : ℕ) (l : Life) → life_of ls link ≡ Some l → (0 < link) × (slice_get ls (link - 1)
    ≡ Some l) × (link - 1 < length ls)
life-place ls zero l is = absurd (cc)
life-place ls (suc k) l is =
    let at : slice_get ls k ≡ Some l = sym (life-suc ls k) ∙ is in
    let e : suc k - 1 ≡ k = omega arith in
    (omega arith, ap (λ (n : ℕ). slice_get ls n) e ∙ at, let h : k < length ls = slice_get_within ls k l at in omega (arith, h))

-- the next link has none yet
life-next : (ls : List Life) → life_of ls (length ls + 1) ≡ None
life-next ls =
    cond-false _ _ _ (ne_eqb (length ls + 1) 0 (λ e. omega (arith, e)))
    ∙ slice_get_past ls (length ls + 1 - 1) (omega arith)

pub or-false : (b : Bool) → (b || false) ≡ b
or-false true = refl
or-false false = refl

pub or-true : (b : Bool) → (b || true) ≡ true
or-true true = refl
or-true false = refl

pub lives-birth : (ls : List Life) (owed : ℕ) (trace : List Entry) (e : Entry) → AreLives ls owed trace → IsBirth (length ls + 1) e
    → AreLives (ls ++ fresh ∷ []) (owed + 2) (trace ++ e ∷ [])
lives-birth ls owed trace e are birth = record {
  count = births-grow trace e
      ∙ ap₂ (λ (n : ℕ) (b : Bool). n + cond b 1 0) are.count birth.counts ∙ sym (length-append ls (fresh ∷ []));
  born = λ link. was_born-grows link trace e
      ∙ ap₂ (λ (a b : Bool). a || b) (are.born link) (birth.born link)
      ∙ ⊎_elim (λ (is : length ls + 1 ≡ link). rw (eq-eqb (length ls + 1) link is) (or-true _ ∙ sym (ap is_some (found link is))))
      (λ (differs : length ls + 1 ≡ link → ⊥). rw (ne_eqb (length ls + 1) link differs) (or-false _ ∙ sym (ap is_some
      (other link differs))))
      (cases_eq (length ls + 1) link);
  shut = λ link. was_shut-grows link trace e
      ∙ ap₂ (λ (a b : Bool). a || b) (are.shut link) (birth.shut link) ∙ or-false _
      ∙ ⊎_elim (λ (is : length ls + 1 ≡ link). ap shut_in (past link is) ∙ sym (ap shut_in (found link is)))
      (λ (differs : length ls + 1 ≡ link → ⊥). sym (ap shut_in (other link differs))) (cases_eq (length ls + 1) link);
  closed = λ link. was_closed-grows link trace e
      ∙ ap₂ (λ (a b : Bool). a || b) (are.closed link) (birth.closed link) ∙ or-false _
      ∙ ⊎_elim (λ (is : length ls + 1 ≡ link). ap closed_in (past link is) ∙ sym (ap closed_in (found link is)))
      (λ (differs : length ls + 1 ≡ link → ⊥). sym (ap closed_in (other link differs))) (cases_eq (length ls + 1) link);
  owes = ap (λ (n : ℕ). n + 2) are.owes ∙ sym (sum_by-append owed_by ls (fresh ∷ []));
}
  where
    found : (link : ℕ) → length ls + 1 ≡ link → life_of (ls ++ fresh ∷ []) link ≡ Some fresh
    found link is = life-push ls fresh link ∙ cond-true _ _ _ (eq-eqb (length ls + 1) link is)

    other : (link : ℕ) → (length ls + 1 ≡ link → ⊥) → life_of (ls ++ fresh ∷ []) link ≡ life_of ls link
    other link differs = life-push ls fresh link ∙ cond-false _ _ _ (ne_eqb (length ls + 1) link differs)

    past : (link : ℕ) → length ls + 1 ≡ link → life_of ls link ≡ None
    past link is = subst (λ (n : ℕ). life_of ls n ≡ None) is (life-next ls)

-- an entry at the end of the life of a link, or of its sending
pub lives-change : (ls : List Life) (owed settled : ℕ) (trace : List Entry) (e : Entry) (link : ℕ) (l m : Life) (s k : Bool)
    → AreLives ls owed trace → life_of ls link ≡ Some l → is_birth e ≡ false → ((other : ℕ) → is_birth_of other e ≡ false)
    → ((other : ℕ) → is_shut_of other e ≡ (eqb link other && s)) → ((other : ℕ) → is_close_of other e ≡ (eqb link other && k))
    → m.shut ≡ (l.shut || s) → m.closed ≡ (l.closed || k) → owed_by l ≡ owed_by m + settled
    → AreLives (set ls (link - 1) m) (owed - settled) (trace ++ e ∷ [])
lives-change ls owed settled trace e link l m s k are is no_birth unborn shuts closes shut closed settles =
    let at = life-place ls link l is in record {
      count = births-grow trace e ∙ ap₂ (λ (n : ℕ) (b : Bool). n + cond b 1 0) are.count no_birth ∙ add-zero _
          ∙ sym (length-set ls (link - 1) m);
      born = λ other. was_born-grows other trace e ∙ ap₂ (λ (a b : Bool). a || b) (are.born other) (unborn other) ∙ or-false _
          ∙ ⊎_elim (λ (same : link ≡ other). ap is_some (old other same) ∙ sym (ap is_some (new at other same)))
          (λ (differs : link ≡ other → ⊥). sym (ap is_some (kept at other differs))) (cases_eq link other);
      shut = λ other. was_shut-grows other trace e ∙ ap₂ (λ (a b : Bool). a || b) (are.shut other) (shuts other)
          ∙ ⊎_elim (λ (same : link ≡ other). ap₂ (λ (a b : Bool). a || (b && s)) (ap shut_in (old other same)) (eq-eqb link other same)
          ∙ sym shut ∙ sym (ap shut_in (new at other same)))
          (λ (differs : link ≡ other → ⊥). ap (λ (b : Bool). shut_in (life_of ls other) || (b && s)) (ne_eqb link other differs)
          ∙ or-false _
          ∙ sym (ap shut_in (kept at other differs))) (cases_eq link other);
      closed = λ other. was_closed-grows other trace e ∙ ap₂ (λ (a b : Bool). a || b) (are.closed other) (closes other)
          ∙ ⊎_elim (λ (same : link ≡ other). ap₂ (λ (a b : Bool). a || (b && k)) (ap closed_in (old other same)) (eq-eqb link other same)
          ∙ sym closed ∙ sym (ap closed_in (new at other same)))
          (λ (differs : link ≡ other → ⊥). ap (λ (b : Bool). closed_in (life_of ls other) || (b && k)) (ne_eqb link other differs)
          ∙ or-false _
          ∙ sym (ap closed_in (kept at other differs))) (cases_eq link other);
      owes =
          let sum = sum_by-set owed_by ls (link - 1) m m at.2 in
          let got = ap owed_by (get_or_from_slice_get ls (link - 1) l m at.1) in
          omega (arith, are.owes, sum, got, settles);
    }
  where
    old : (other : ℕ) → link ≡ other → life_of ls other ≡ Some l
    old other same = subst (λ (n : ℕ). life_of ls n ≡ Some l) same is

    new : (0 < link) × (slice_get ls (link - 1) ≡ Some l) × (link - 1 < length ls) → (other : ℕ) → link ≡ other
        → life_of (set ls (link - 1) m) other ≡ Some m
    new at other same = life-set ls link m other at.0 at.2 ∙ cond-true _ _ _ (eq-eqb link other same)

    kept : (0 < link) × (slice_get ls (link - 1) ≡ Some l) × (link - 1 < length ls) → (other : ℕ) → (link ≡ other → ⊥)
        → life_of (set ls (link - 1) m) other ≡ life_of ls other
    kept at other differs = life-set ls link m other at.0 at.2 ∙ cond-false _ _ _ (ne_eqb link other differs)

-- a link's entries are among those that are owed
pub owed-some : (ls : List Life) (owed : ℕ) (trace : List Entry) (link : ℕ) (l : Life) → AreLives ls owed trace → life_of ls link ≡ Some l
    → owed_by l ≤ owed
owed-some ls owed trace link l are is =
    let at = life-place ls link l is in
    let gone : Life = record { shut = false; closed = true } in
    let sum = sum_by-set owed_by ls (link - 1) gone gone at.2 in
    let got = ap owed_by (get_or_from_slice_get ls (link - 1) l gone at.1) in
    omega (arith, are.owes, sum, got)

-- an entry that changes no life
pub record Plain (e : Entry) : Type 0 where
  pub births : is_birth e ≡ false
  pub born : (link : ℕ) → is_birth_of link e ≡ false
  pub shut : (link : ℕ) → is_shut_of link e ≡ false
  pub closed : (link : ℕ) → is_close_of link e ≡ false

pub plain : (e : Entry) → IsTrue (is_plain e) → Plain e
plain (v.Accepted l door) p = absurd (cc)
plain (v.Dialled l to why) p = absurd (cc)
plain (v.DialFailed to why) p = record { births = refl; born = λ k. refl; shut = λ k. refl; closed = λ k. refl }
plain (v.Opened l) p = record { births = refl; born = λ k. refl; shut = λ k. refl; closed = λ k. refl }
plain (v.Came l bytes) p = record { births = refl; born = λ k. refl; shut = λ k. refl; closed = λ k. refl }
plain (v.Ended l) p = record { births = refl; born = λ k. refl; shut = λ k. refl; closed = λ k. refl }
plain (v.Broke l) p = record { births = refl; born = λ k. refl; shut = λ k. refl; closed = λ k. refl }
plain (v.Went l bytes) p = record { births = refl; born = λ k. refl; shut = λ k. refl; closed = λ k. refl }
plain (v.Balked way) p = record { births = refl; born = λ k. refl; shut = λ k. refl; closed = λ k. refl }
plain (v.Shut l) p = absurd (cc)
plain (v.Closed l cause) p = absurd (cc)
plain v.Tick p = record { births = refl; born = λ k. refl; shut = λ k. refl; closed = λ k. refl }
plain (v.Wait ready answer) p = record { births = refl; born = λ k. refl; shut = λ k. refl; closed = λ k. refl }

pub lives-plain : (ls : List Life) (owed : ℕ) (trace : List Entry) (e : Entry) → AreLives ls owed trace → IsTrue (is_plain e)
    → AreLives ls owed (trace ++ e ∷ [])
lives-plain ls owed trace e are is = let p = plain e is in record {
  count = births-grow trace e ∙ ap₂ (λ (n : ℕ) (b : Bool). n + cond b 1 0) are.count p.births ∙ add-zero _;
  born = λ link. was_born-grows link trace e ∙ ap₂ (λ (a b : Bool). a || b) (are.born link) (p.born link) ∙ or-false _;
  shut = λ link. was_shut-grows link trace e ∙ ap₂ (λ (a b : Bool). a || b) (are.shut link) (p.shut link) ∙ or-false _;
  closed = λ link. was_closed-grows link trace e ∙ ap₂ (λ (a b : Bool). a || b) (are.closed link) (p.closed link) ∙ or-false _;
  owes = are.owes;
}

pub owed-open : (l : Life) → l.closed ≡ false → l.shut ≡ false → owed_by l ≡ 2
owed-open l closed shut = rw (closed, shut) refl

pub owed-live : (l m : Life) → l.closed ≡ false → m.shut ≡ l.shut → m.closed ≡ true → owed_by l ≡ owed_by m + owed_by l
owed-live l m closed same gone = let none : owed_by m ≡ 0 = rw gone refl in omega (arith, none)

pub and-true : (b : Bool) → (b && true) ≡ b
and-true true = refl
and-true false = refl

pub and-false : (b : Bool) → (b && false) ≡ false
and-false true = refl
and-false false = refl

pub owed-positive : (l : Life) → l.closed ≡ false → 0 < owed_by l
owed-positive l closed = rw closed (cond_both l.shut 1 2 (λ (n : ℕ). 0 < n) (λ _. omega arith) (λ _. omega arith))
