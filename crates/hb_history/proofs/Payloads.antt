-- The payload octets of DATA frames among others.
use Rattle.std.proofs.Common.{◌≡◌, ◌≢◌, ℕ, ◌+◌, ◌≤◌, ◌==◌, ◌&&◌, not, Bool, true, false, cond, List, [], ◌∷◌, ◌++◌, length, drop, Option, Some, None, inl, inr, refl, ap, sym, ◌∙◌, subst, arith}
use Rattle.std.specs.List.{AllByRecursion, filter}
use Rattle.std.proofs.lemmas.Bool.{false≢true, cases_eq, eq-eqb, ne_eqb}
use Rattle.std.proofs.lemmas.Bool.Decides.{nat_tests}
use Rattle.hb_frames.specs.RawFrame.{RawFrame}
use Rattle.hb_frames.specs.Numbers.{data_kind}
use Rattle.hb_flow.specs.Sizes.{unbegun_on}
use Rattle.hb_outgoing.specs.Selected.{is_meant, is_data_of, is_kept, data_size, has_data, first_data}
use Rattle.hb_outgoing.specs.Written.{begun_in}
use Rattle.hb_outgoing.specs.declared.unbegun.Unbegun.{Unbegun}
use Rattle.hb_outgoing.proofs.Walks.{kept_more, taken_more}
use Rattle.hb_outgoing.proofs.Sent.{begun_and_left}
use Rattle.hb_conn.specs.Windows.{unbegun_by}
use Rattle.hb_history.specs.Waits.{IsFirstBy}

-- what one frame adds
abbrev pub size_on : Option ℕ → RawFrame → ℕ
size_on x f = cond (is_data_of x f) (length f.payload) 0

pub size_cons : (x : Option ℕ) (f : RawFrame) (fs : List RawFrame) → data_size x (f ∷ fs) ≡ size_on x f + data_size x fs
size_cons x f fs = by (is_data_of x f) refl
  where
    by : (b : Bool) → is_data_of x f ≡ b → data_size x (f ∷ fs) ≡ size_on x f + data_size x fs
    by true test = let is = (taken_more x f fs test).1 in
        let one : size_on x f ≡ length f.payload = ap (λ b. cond b (length f.payload) 0) test in omega (arith, is, one)
    by false test = let is = (kept_more x f fs test).1 in
        let one : size_on x f ≡ 0 = ap (λ b. cond b (length f.payload) 0) test in omega (arith, is, one)

pub size_append : (x : Option ℕ) (fs gs : List RawFrame) → data_size x (fs ++ gs) ≡ data_size x fs + data_size x gs
size_append x [] gs = omega arith
size_append x (f ∷ fs) gs = omega (arith, size_cons x f fs, size_cons x f (fs ++ gs), size_append x fs gs)

pub size_push : (x : Option ℕ) (fs : List RawFrame) (f : RawFrame) → data_size x (fs ++ f ∷ []) ≡ data_size x fs + size_on x f
size_push x fs f = omega (arith, size_append x fs (f ∷ []), size_cons x f [])

none_by : (a m : Bool) (n : ℕ) → (a && not (n == 0)) ≡ false → cond (a && m) n 0 ≡ 0
none_by true true n none = grind (arith, nat_tests, none)
none_by true false n none = refl
none_by false m n none = refl

-- a frame without payload that windows count
pub no_size : (x : Option ℕ) (f : RawFrame) → has_data f ≡ false → size_on x f ≡ 0
no_size x f none = none_by (f.kind == data_kind) (is_meant x f.stream) (length f.payload) none

pub no_sizes : (x : Option ℕ) (fs : List RawFrame) → AllByRecursion (λ g. has_data g ≡ false) fs → data_size x fs ≡ 0
no_sizes x [] none = refl
no_sizes x (f ∷ fs) none = omega (arith, size_cons x f fs, no_size x f none.0, no_sizes x fs none.1)

-- what is taken back of one stream, and what is left

size_filtered : (x : Option ℕ) (p : RawFrame → Bool) (fs : List RawFrame) → data_size x (filter p fs) ≤ data_size x fs
size_filtered x p [] = omega arith
size_filtered x p (f ∷ fs) = by (p f) (size_filtered x p fs)
  where
    by : (b : Bool) → data_size x (filter p fs) ≤ data_size x fs
        → data_size x (cond b (f ∷ filter p fs) (filter p fs)) ≤ data_size x (f ∷ fs)
    by true less = omega (arith, less, size_cons x f fs, size_cons x f (filter p fs))
    by false less = omega (arith, less, size_cons x f fs)

pub size_left : (x : Option ℕ) (s : ℕ) (fs : List RawFrame) → data_size x (filter (is_kept (Some s)) fs) ≤ data_size x fs
size_left x s fs = size_filtered x (is_kept (Some s)) fs

all_by : (a m : Bool) (n : ℕ) → (a && m) ≡ true → cond (a && true) n 0 ≡ n
all_by true true n is = refl
all_by true false n is = absurd (false≢true is)
all_by false m n is = absurd (false≢true is)

pub size_split : (s : ℕ) (fs : List RawFrame)
    → data_size None (filter (is_kept (Some s)) fs) + data_size (Some s) fs ≡ data_size None fs
size_split s [] = omega arith
size_split s (f ∷ fs) = by (is_data_of (Some s) f) refl (size_split s fs)
  where
    by : (b : Bool) → is_data_of (Some s) f ≡ b → data_size None (filter (is_kept (Some s)) fs) + data_size (Some s) fs ≡ data_size None fs
        → data_size None (filter (is_kept (Some s)) (f ∷ fs)) + data_size (Some s) (f ∷ fs) ≡ data_size None (f ∷ fs)
    by true test rest =
        let gone : filter (is_kept (Some s)) (f ∷ fs) ≡ filter (is_kept (Some s)) fs =
        ap (λ b. cond (not b) (f ∷ filter (is_kept (Some s)) fs) (filter (is_kept (Some s)) fs)) test in
        let one : size_on (Some s) f ≡ length f.payload = ap (λ b. cond b (length f.payload) 0) test in
        let all : size_on None f ≡ length f.payload = all_by (f.kind == data_kind) (f.stream == s) (length f.payload) test in
        omega (arith, ap (data_size None) gone, one, all, size_cons None f fs, size_cons (Some s) f fs, rest)
    by false test rest =
        let kept : filter (is_kept (Some s)) (f ∷ fs) ≡ f ∷ filter (is_kept (Some s)) fs =
        ap (λ b. cond (not b) (f ∷ filter (is_kept (Some s)) fs) (filter (is_kept (Some s)) fs)) test in
        let one : size_on (Some s) f ≡ 0 = ap (λ b. cond b (length f.payload) 0) test in
        omega (
          arith,
          ap (data_size None) kept,
          one,
          size_cons None f fs,
          size_cons (Some s) f fs,
          size_cons None f (filter (is_kept (Some s)) fs),
          rest,
        )

other_by : (a : Bool) (q n s m : ℕ) → n ≢ s → (a && (q == s)) ≡ true → cond (a && (q == n)) m 0 ≡ 0
other_by true q n s m apart is =
    let there : q ≡ s = grind (arith, nat_tests, is) in
    let off : (q == n) ≡ false = ne_eqb q n (λ e. apart (sym e ∙ there)) in
    ap (λ b. cond b m 0) off
other_by false q n s m apart is = refl

pub size_others : (n s : ℕ) → n ≢ s → (fs : List RawFrame) → data_size (Some n) (filter (is_kept (Some s)) fs) ≡ data_size (Some n) fs
size_others n s apart [] = refl
size_others n s apart (f ∷ fs) = by (is_data_of (Some s) f) refl (size_others n s apart fs)
  where
    by : (b : Bool) → is_data_of (Some s) f ≡ b → data_size (Some n) (filter (is_kept (Some s)) fs) ≡ data_size (Some n) fs
        → data_size (Some n) (filter (is_kept (Some s)) (f ∷ fs)) ≡ data_size (Some n) (f ∷ fs)
    by true test rest =
        let gone : filter (is_kept (Some s)) (f ∷ fs) ≡ filter (is_kept (Some s)) fs =
        ap (λ b. cond (not b) (f ∷ filter (is_kept (Some s)) fs) (filter (is_kept (Some s)) fs)) test in
        let one : size_on (Some n) f ≡ 0 = other_by (f.kind == data_kind) f.stream n s (length f.payload) apart test in
        omega (arith, ap (data_size (Some n)) gone, one, size_cons (Some n) f fs, rest)
    by false test rest =
        let kept : filter (is_kept (Some s)) (f ∷ fs) ≡ f ∷ filter (is_kept (Some s)) fs =
        ap (λ b. cond (not b) (f ∷ filter (is_kept (Some s)) fs) (filter (is_kept (Some s)) fs)) test in
        omega (arith, ap (data_size (Some n)) kept, size_cons (Some n) f fs, size_cons (Some n) f (filter (is_kept (Some s)) fs), rest)

one_by : (a : Bool) (q n m : ℕ) → cond (a && (q == n)) m 0 ≤ cond (a && true) m 0
one_by true q n m = by (q == n)
  where
    by : (b : Bool) → cond b m 0 ≤ m
    by true = omega arith
    by false = omega arith
one_by false q n m = omega arith

-- a stream's octets are among all
pub size_of_one : (n : ℕ) (fs : List RawFrame) → data_size (Some n) fs ≤ data_size None fs
size_of_one n [] = omega arith
size_of_one n (f ∷ fs) =
    omega (
      arith,
      size_cons (Some n) f fs,
      size_cons None f fs,
      size_of_one n fs,
      one_by (f.kind == data_kind) f.stream n
          (length f.payload),
    )

-- frames that begin go on to be counted

pub size_begun : (x : Option ℕ) (m : ℕ) (fs : List RawFrame)
    → data_size x (begun_in m fs) + data_size x (drop (length (begun_in m fs)) fs) ≡ data_size x fs
size_begun x m fs =
    omega (arith, size_append x (begun_in m fs) (drop (length (begun_in m fs)) fs), ap (data_size x) (begun_and_left m fs))

-- where DATA with payload may only stand first, the payload that hasn't begun is all there is

no_first : (fs : List RawFrame) → AllByRecursion (λ g. has_data g ≡ false) fs → first_data fs ≡ None
no_first [] none = refl
no_first (f ∷ fs) none =
    ap (λ b. cond b (Some (record { stream = f.stream; size = length f.payload })) (first_data fs)) none.0 ∙ no_first fs none.1

nothing_on : (n : ℕ) → unbegun_on 0 0 n ≡ 0
nothing_on n = by (n == 0)
  where
    by : (b : Bool) → cond {A = ℕ} b 0 0 ≡ 0
    by true = refl
    by false = refl

data_by : (a : Bool) (n : ℕ) → (a && not (n == 0)) ≡ true → a ≡ true
data_by true n is = refl
data_by false n is = absurd (false≢true is)

same_test : (q n : ℕ) → (q == n) ≡ (n == q)
same_test q n = elim (cases_eq q n) [
  | inl same ↦ eq-eqb q n same ∙ sym (eq-eqb n q (sym same))
  | inr apart ↦ ne_eqb q n apart ∙ sym (ne_eqb n q (λ e. apart (sym e)))
]

pub record IsAll (queue : List RawFrame) (u : Unbegun) : Type 0 where
  pub whole : data_size None queue ≡ u.size
  pub one : (n : ℕ) → data_size (Some n) queue ≡ unbegun_on u.stream u.size n

all_there : (f : RawFrame) (fs : List RawFrame) → AllByRecursion (λ g. has_data g ≡ false) fs → (b : Bool) → has_data f ≡ b
    → IsAll (f ∷ fs) (unbegun_by (cond b (Some (record { stream = f.stream; size = length f.payload })) (first_data fs)))
all_there f fs none true test =
    let data_frame : (f.kind == data_kind) ≡ true = data_by (f.kind == data_kind) (length f.payload) test in
    record {
      whole =
          let one : size_on None f ≡ length f.payload = ap (λ b. cond (b && true) (length f.payload) 0) data_frame in
          omega (arith, size_cons None f fs, no_sizes None fs none, one);
      one = λ n.
          let one : size_on (Some n) f ≡ unbegun_on f.stream (length f.payload) n =
          ap (λ b. cond (b && (f.stream == n)) (length f.payload) 0) data_frame
          ∙ ap (λ b. cond b (length f.payload) 0) (same_test f.stream n) in
          omega (arith, size_cons (Some n) f fs, no_sizes (Some n) fs none, one);
    }
all_there f fs none false test =
    subst (λ (o : Option Unbegun). IsAll (f ∷ fs) (unbegun_by o)) (sym (no_first fs none)) (record {
      whole = omega (arith, size_cons None f fs, no_sizes None fs none, no_size None f test);
      one = λ n. omega (arith, size_cons (Some n) f fs, no_sizes (Some n) fs none, no_size (Some n) f test, nothing_on n);
    })

pub is_all : (rest : List ℕ) (queue : List RawFrame) → IsFirstBy rest queue → IsAll queue (unbegun_by (first_data queue))
is_all rest [] first = record { whole = refl; one = λ n. sym (nothing_on n) }
is_all rest (f ∷ fs) first = all_there f fs first.1 (has_data f) refl
