-- Entries of a map stand by their keys: what one more leaves, and one behind all others.
use Rattle.std.proofs.Common.{◌≡◌, ℕ, true, false, List, [], ◌∷◌, ◌++◌, refl, sym, ap, ◌∙◌, subst, Ordering, Less, Equal, Greater}
use Rattle.std.specs.Cmp.Lexicographic.{slice_cmp}
use Rattle.std.specs.Ordering.{nat_cmp, is_lt, is_eq, ordering_reverse}
use Rattle.std.specs.Str.{bytes_eq}
use Rattle.std.proofs.lemmas.Bool.{false≢true}
use Rattle.std.proofs.lemmas.Cmp.{nat_list_cmp_total}
use Rattle.std.proofs.lemmas.Map.Text.{is_eq-slice_cmp}
use Rattle.std.proofs.lemmas.Slice.Eq.{bytes_eq-Decides}
use Rattle.hb_records.specs.declared.port.ServicePorts.{ServicePorts}
use Rattle.hb_records.specs.Ports.{is_before, with_entry}
use Rattle.hb_canonical.proofs.Kept.{by_test}

-- a key stands before another
abbrev Before : List ℕ → List ℕ → Type 0
Before a b = is_lt (slice_cmp nat_cmp a b) ≡ true

-- a key stands before those of all entries
abbrev BeforeEach : List ℕ → List ServicePorts → Type 0
BeforeEach key [] = Unit {0}
BeforeEach key (x ∷ xs) = Before key x.key × BeforeEach key xs

-- each key stands before those of all entries behind it
abbrev pub IsSorted : List ServicePorts → Type 0
IsSorted [] = Unit {0}
IsSorted (x ∷ xs) = BeforeEach x.key xs × IsSorted xs

less : (o : Ordering) → is_lt o ≡ true → o ≡ Less
less Less e = refl
less Equal e = absurd cc
less Greater e = absurd cc

before_trans : (a b c : List ℕ) → Before a b → Before b c → Before a c
before_trans a b c p q = ap is_lt (nat_list_cmp_total.trans a b c (less _ p) (less _ q))

before_all : (a b : List ℕ) (xs : List ServicePorts) → Before a b → BeforeEach b xs → BeforeEach a xs
before_all a b [] first each = tt
before_all a b (x ∷ xs) first (one, each) = (before_trans a b x.key first one, before_all a b xs first each)

turned : (a b : List ℕ) → is_lt (slice_cmp nat_cmp a b) ≡ false → bytes_eq a b ≡ false → Before b a
turned a b later differ = by_order (slice_cmp nat_cmp a b) refl
  where
    by_order : (o : Ordering) → slice_cmp nat_cmp a b ≡ o → Before b a
    by_order Less e = absurd (false≢true (sym later ∙ ap is_lt e))
    by_order Equal e = absurd (false≢true (sym differ ∙ sym (is_eq-slice_cmp a b) ∙ ap is_eq e))
    by_order Greater e = ap is_lt (nat_list_cmp_total.antisymm b a ∙ ap ordering_reverse e)

same : (a b : List ℕ) → bytes_eq a b ≡ true → a ≡ b
same a b e = (bytes_eq-Decides a b).0 e

each_with : (key : List ℕ) (xs : List ServicePorts) (e : ServicePorts) → BeforeEach key xs → Before key e.key
    → BeforeEach key (with_entry xs e)
each_with key [] e each first = (first, tt)
each_with key (x ∷ xs) e (one, each) first =
    by_test (BeforeEach key) (is_before x e) _ _ (λ _. (one, each_with key xs e each first))
    (λ _. by_test (BeforeEach key) (bytes_eq x.key e.key) _ _ (λ _. (first, each)) (λ _. (first, (one, each))))

-- one more entry stands where its key does
pub sorted_with : (xs : List ServicePorts) (e : ServicePorts) → IsSorted xs → IsSorted (with_entry xs e)
sorted_with [] e p = (tt, tt)
sorted_with (x ∷ xs) e (each, p) =
    by_test IsSorted (is_before x e) _ _ (λ before. (each_with x.key xs e each before, sorted_with xs e p))
    (λ later. by_test IsSorted (bytes_eq x.key e.key) _ _
    (λ equal. (subst (λ (k : List ℕ). BeforeEach k xs) (same x.key e.key equal) each, p))
    (λ differ. let first = turned x.key e.key later differ in ((first, before_all e.key x.key xs first each), (each, p))))

at_seam : (key : List ℕ) (done rest : List ServicePorts) (e : ServicePorts) → BeforeEach key (done ++ e ∷ rest) → Before key e.key
at_seam key [] rest e (one, each) = one
at_seam key (x ∷ done) rest e (one, each) = at_seam key done rest e each

-- an entry behind all others is put there
pub put_last : (done rest : List ServicePorts) (e : ServicePorts) → IsSorted (done ++ e ∷ rest) → with_entry done e ≡ done ++ e ∷ []
put_last [] rest e p = refl
put_last (x ∷ done) rest e (each, p) =
    let before : is_before x e ≡ true = at_seam x.key done rest e each in
    rw before (ap (λ (l : List ServicePorts). x ∷ l) (put_last done rest e p))
