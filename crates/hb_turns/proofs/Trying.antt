-- Tries, one behind another.
use Rattle.std.proofs.Common.{◌≡◌, ℕ, ◌+◌, ◌≤◌, Bool, true, false, ◌||◌, not, ◌==◌, if◌then◌else◌, List, Option, Result, Ok, Err, IfOk, refl, ap, sym, ◌∙◌, subst, arith, ne_eqb}
use Rattle.hb_base.specs.declared.note.Note.{Note}
use Rattle.hb_world.specs.declared.entry.Entry.{Entry}
use Rattle.hb_turns.specs.Looks.{gained}
use Rattle.hb_turns.specs.Reckons.{Adds, Tried, moved_by, some_by, made_by}
use Rattle.hb_turns.specs.Shown.{Shown}
use Rattle.hb_turns.specs.Stands.{Stands, IsIdle}
use Rattle.hb_turns.specs.declared.run.Run.{Run}
use Rattle.hb_turns.proofs.Adding.{adds_none, adds_both, adds_false, adds_within}
use Rattle.hb_turns.proofs.Holding.{each}

-- no try was made
pub tried_none : {A E N : Type 0} (stands : List Note → N → List Entry → Type 0) (shown : N → Shown) (x : A) (run : Run N)
    (told : Option (List Entry)) → Tried {A = A} {E = E} stands shown false 0 (Ok x) run told run told
tried_none stands shown x run told = record { keeps = λ idle had. had; idle = λ idle. idle; adds = adds_none told }

module _ {N : Type 0} (stands : List Note → N → List Entry → Type 0) (shown : N → Shown) (a b : Run N)
    (before behind : Option (List Entry)) where
  -- memory lacked in the first
  pub lacked_first : {A B E : Type 0} {n : ℕ} {x : Bool} (z : Bool) (m : ℕ) (why : E) (r : Result B E) → IfOk r (λ y. ⊥) → z ≡ false → n ≤ m
      → Tried {A = A} {E = E} stands shown x n (Err why) a before b behind → Tried {A = B} {E = E} stands shown z m r a before b behind
  lacked_first z m why (Ok y) none is within first = absurd none
  lacked_first z m why (Err other) none is within first =
      record { keeps = first.keeps; idle = tt; adds = adds_false z m before behind is within first.adds }

  -- counted otherwise: no fewer, and no other thing is said of what moved
  pub tried_as : {A B E : Type 0} {n : ℕ} {x : Bool} {p : A} (y : Bool) (m : ℕ) (q : B) → x ≡ y → n ≤ m
      → Tried {A = A} {E = E} stands shown x n (Ok p) a before b behind → Tried {A = B} {E = E} stands shown y m (Ok q) a before b behind
  tried_as {n = n} {x = x} y m q same within tried = record {
    keeps = tried.keeps;
    idle = tried.idle;
    adds = subst (λ (z : Bool). Adds z m before behind) same (adds_within n m before behind within tried.adds);
  }

module _ {N : Type 0} (stands : List Note → N → List Entry → Type 0) (shown : N → Shown) (a b c : Run N)
    (before mid behind : Option (List Entry)) where
  -- one behind another
  pub tried_both : {A B C E : Type 0} {n m : ℕ} {x y : Bool} {p : A} {q : B} (r : C)
      → Tried {A = A} {E = E} stands shown x n (Ok p) a before b mid → Tried {A = B} {E = E} stands shown y m (Ok q) b mid c behind
      → Tried {A = C} {E = E} stands shown (x || y) (n + m) (Ok r) a before c behind
  tried_both {x = x} {y = y} r first second = record {
    keeps = λ idle had. second.keeps (first.idle idle) (first.keeps idle had);
    idle = λ idle. second.idle (first.idle idle);
    adds = adds_both x y before mid behind first.adds second.adds;
  }

  -- in the second memory lacked
  pub tried_err : {A B C E : Type 0} {n m : ℕ} {x y : Bool} {p : A} (z : Bool) (most : ℕ) (why : E) (r : Result C E) → IfOk r (λ z. ⊥)
      → z ≡ false → n + m ≤ most → Tried {A = A} {E = E} stands shown x n (Ok p) a before b mid
      → Tried {A = B} {E = E} stands shown y m (Err why) b mid c behind → Tried {A = C} {E = E} stands shown z most r a before c behind
  tried_err z most why (Ok other) none is within first second = absurd none
  tried_err {x = x} {y = y} z most why (Err other) none is within first second = record {
    keeps = λ idle had. second.keeps (first.idle idle) (first.keeps idle had);
    idle = tt;
    adds = adds_false z most before behind is within (adds_both x y before mid behind first.adds second.adds);
  }

-- the list changed alone behind it
pub tried_settled : {A E N : Type 0} {n : ℕ} {moved : Bool} (stands : List Note → N → List Entry → Type 0) (shown : N → Shown) (a b c : Run N)
    (before behind : Option (List Entry)) (x : A) → ((trace : List Entry) → Stands stands shown b trace → Stands stands shown c trace)
    → c.node ≡ b.node → Tried {A = A} {E = E} stands shown moved n (Ok x) a before b behind
    → Tried {A = A} {E = E} stands shown moved n (Ok x) a before c behind
tried_settled stands shown a b c before behind x settles node tried = record {
  keeps = λ idle had. each (Stands stands shown b) (Stands stands shown c) behind settles (tried.keeps idle had);
  idle = λ idle. subst (λ n. IsIdle (shown n)) (sym node) (tried.idle idle);
  adds = tried.adds;
}

-- where memory lacked it isn't told whether anything moved
pub err_moves : {E : Type 0} (r : Result Bool E) → IfOk r (λ moved. ⊥) → moved_by r ≡ false
err_moves (Ok moved) none = absurd none
err_moves (Err why) none = refl

pub err_gains : {E : Type 0} (r : Result Bool E) → IfOk r (λ moved. ⊥) → 1 ≤ gained r
err_gains (Ok moved) none = absurd none
err_gains (Err why) none = omega arith

pub err_some : {E : Type 0} (r : Result ℕ E) → IfOk r (λ made. ⊥) → some_by r ≡ false
err_some (Ok made) none = absurd none
err_some (Err why) none = refl

pub err_made : {E : Type 0} (most : ℕ) (r : Result ℕ E) → IfOk r (λ made. ⊥) → most ≤ made_by most r
err_made most (Ok made) none = absurd none
err_made most (Err why) none = omega arith

-- a link's read alone gives bytes
pub link_gains : (a b c d f : Bool) → ((((0 + (if b then 1 else 0)) + 0) + 0) + 0) ≤ (if (((a || b) || c) || d) || f then 1 else 0)
link_gains a false c d f = omega arith
link_gains true true c d f = omega arith
link_gains false true c d f = omega arith

or_none : (b : Bool) → (b || false) ≡ b
or_none true = refl
or_none false = refl

or_some : (b : Bool) → (b || true) ≡ true
or_some true = refl
or_some false = refl

-- one more try
pub some_more : (n m : ℕ) (b : Bool) → m ≡ (if b then 1 else 0) → (not (n == 0) || b) ≡ not (n + m == 0)
some_more n m false is = let same : n ≡ n + m = omega (arith, is) in
    or_none (not (n == 0)) ∙ ap (λ (k : ℕ). not (k == 0)) same
some_more n m true is = or_some (not (n == 0)) ∙ sym (ap not (ne_eqb (n + m) 0 (λ none. omega (arith, none, is))))

pub once_few : (b : Bool) → (if b then 1 else 0) ≤ 1
once_few true = omega arith
once_few false = omega arith

pub none_once : (b : Bool) → ◌≡◌ {A = ℕ} (if b then 1 else 0) 0 → b ≡ false
none_once true none = absurd cc
none_once false none = refl

-- a read of the link that goes first, tries at three doors, and those of the links
pub some_all : (n : ℕ) (a b d f : Bool) (i j k m : ℕ) → i ≡ (if a then 1 else 0) → j ≡ (if b then 1 else 0) → k ≡ (if d then 1 else 0)
    → m ≡ (if f then 1 else 0) → ((((a || b) || d) || f) || not (n == 0)) ≡ not ((((i + j) + k) + m) + n == 0)
some_all n true b d f i j k m one two three four = sym (ap not (ne_eqb ((((i + j) + k) + m) + n) 0 (λ none. omega (arith, none, one))))
some_all n false true d f i j k m one two three four = sym (ap not (ne_eqb ((((i + j) + k) + m) + n) 0 (λ none. omega (arith, none, two))))
some_all n false false true f i j k m one two three four =
    sym (ap not (ne_eqb ((((i + j) + k) + m) + n) 0 (λ none. omega (arith, none, three))))
some_all n false false false true i j k m one two three four =
    sym (ap not (ne_eqb ((((i + j) + k) + m) + n) 0 (λ none. omega (arith, none, four))))
some_all n false false false false i j k m one two three four =
    let same : n ≡ (((i + j) + k) + m) + n = omega (arith, one, two, three, four) in ap (λ (l : ℕ). not (l == 0)) same
