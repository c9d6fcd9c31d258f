-- The rules that clap makes of the parts of a command, and which of them a name or a position finds.
use Rattle.std.proofs.Common.{◌≡◌, ◌+◌, ◌-◌, ◌<◌, ◌⊎◌, inl, inr, ◌==◌, ◌&&◌, ◌||◌, not, ℕ, zero, suc, min, Bool, cond, true, false, true≢false, List, [], ◌∷◌, map, length, Option, Some, None, option_map, slice_get, filter, find, bytes_eq, refl, sym, subst, ap, ◌∙◌, arith, nat_lt}
use Rattle.std.specs.List.{list_all, list_any}
use Rattle.std.specs.Option.{option_map_or}
use Rattle.std.proofs.lemmas.Bool.Decides.{nat_tests}
use Rattle.std.proofs.lemmas.Slice.Eq.{bytes_eq-Decides}
use Rattle.clap.specs.Lexer.{usize_max}
use Rattle.clap.specs.Walk.{Rule, Text, arg_by_id, arg_by_index, arg_by_long}
use Rattle.clap.specs.Simple.{filled, filled_from, index_after, with_index}
use Rattle.clap.proofs.WalkLemmas.{both}
use Rattle.hb_options.specs.Items.{Part, option, flag, place, name_of, is_option, is_flag, is_place, rule, is_named, is_name, has, stands_at, each_named_once, is_proper}

pub same_text : (t : Text) → bytes_eq t t ≡ true
same_text t = (bytes_eq-Decides t t).1 refl

-- the rules of the parts, of which the first place has the index i
abbrev pub rules_from : ℕ → List Part → List Rule
rules_from i parts = filled_from i (map rule parts)

abbrev pub filled_at : ℕ → Part → Rule
filled_at i p = with_index i (filled (rule p))

pub id_of : (i : ℕ) (p : Part) → (filled_at i p).id ≡ name_of p
id_of i (option name wanted) = refl
id_of i (flag name) = refl
id_of i (place name wanted) = refl

-- ---- parts that are found

abbrev pub is_long : Part → Bool
is_long p = not (is_place p)

-- a part of a kind that has the name
abbrev pub is_named_kind : (Part → Bool) → Text → Part → Bool
is_named_kind kind name p = kind p && is_named name p

abbrev pub is_long_named : Text → Part → Bool
is_long_named = is_named_kind is_long

abbrev pub Among : Part → List Part → Type 0
Among p [] = ⊥
Among p (x ∷ parts) = (x ≡ p) ⊎ Among p parts

among_step : (test : Part → Bool) (x p : Part) (parts : List Part) (b : Bool) → test x ≡ b
    → (find test parts ≡ Some p → Among p parts × (test p ≡ true))
    → cond b (Some x) (find test parts) ≡ Some p → Among p (x ∷ parts) × (test p ≡ true)
among_step test x p parts true passes next is = let e : x ≡ p = cc in (inl e, ap test (sym e) ∙ passes)
among_step test x p parts false passes next is = let found = next is in (inr found.0, found.1)

pub found_among : (test : Part → Bool) (parts : List Part) (p : Part) → find test parts ≡ Some p → Among p parts × (test p ≡ true)
found_among test [] p is = cc
found_among test (x ∷ parts) p is = among_step test x p parts (test x) refl (found_among test parts p) is

-- the part of a name has the name
pub part_found : (parts : List Part) (name : Text) (p : Part) → find (is_named name) parts ≡ Some p → name_of p ≡ name
part_found parts name p is = (bytes_eq-Decides (name_of p) name).0 (found_among (is_named name) parts p is).1

pub place_among : (parts : List Part) (k : ℕ) (p : Part) → slice_get (filter is_place parts) k ≡ Some p
    → Among p parts × (is_place p ≡ true) × (k < length parts)
place_among [] k p is = cc
place_among (option name wanted ∷ parts) k p is = let found = place_among parts k p is in (inr found.0, found.1, omega (arith, found.2))
place_among (flag name ∷ parts) k p is = let found = place_among parts k p is in (inr found.0, found.1, omega (arith, found.2))
place_among (place name wanted ∷ parts) zero p is =
    let e : place name wanted ≡ p = cc in (inl e, ap is_place (sym e), omega arith)
place_among (place name wanted ∷ parts) (suc k) p is =
    let found = place_among parts k p is in (inr found.0, found.1, omega (arith, found.2))

any_of : (test : Part → Bool) (parts : List Part) (p : Part) → Among p parts → test p ≡ true → list_any test parts ≡ true
any_of test [] p among passes = absurd among
any_of test (x ∷ parts) p (inl e) passes = rw (ap test e ∙ passes) refl
any_of test (x ∷ parts) p (inr among) passes = or_true (test x) (any_of test parts p among passes) where
  or_true : (a : Bool) → list_any test parts ≡ true → (a || list_any test parts) ≡ true
  or_true true e = refl
  or_true false e = e

not_true : (b : Bool) → not b ≡ true → b ≡ true → ⊥
not_true true e t = true≢false (sym e)
not_true false e t = true≢false (sym t)

-- a part is the first of its name
pub named_once : (parts : List Part) (p : Part) → each_named_once parts ≡ true → Among p parts → find (is_named (name_of p)) parts ≡ Some p
named_once [] p once among = absurd among
named_once (x ∷ parts) p once (inl e) = subst (λ (q : Part). find (is_named (name_of q)) (x ∷ parts)
    ≡ Some q) e (first (bytes_eq (name_of x) (name_of x)) (same_text (name_of x)))
  where
    first : (b : Bool) → b ≡ true → cond b (Some x) (find (is_named (name_of x)) parts) ≡ Some x
    first b e = rw e refl
named_once (x ∷ parts) p once (inr among) =
    let parts_once = both (not (list_any (is_named (name_of x)) parts)) _ once in
    later (bytes_eq (name_of x) (name_of p)) refl parts_once.0 (named_once parts p parts_once.1 among)
  where
    later : (b : Bool) → bytes_eq (name_of x) (name_of p) ≡ b → not (list_any (is_named (name_of x)) parts) ≡ true
        → find (is_named (name_of p)) parts ≡ Some p → cond b (Some x) (find (is_named (name_of p)) parts) ≡ Some p
    later true same none found =
        absurd (not_true _ none (any_of (is_named (name_of x)) parts p among
        (ap (λ (t : Text). bytes_eq t (name_of x)) (sym ((bytes_eq-Decides (name_of x) (name_of p)).0 same)) ∙ same_text (name_of x))))
    later false same none found = found

-- the first of a name is the first of its kind that has it
pub kind_found : (kind : Part → Bool) (parts : List Part) (name : Text) (p : Part) → find (is_named name) parts ≡ Some p → kind p ≡ true
    → find (is_named_kind kind name) parts ≡ Some p
kind_found kind [] name p is has_kind = is
kind_found kind (x ∷ parts) name p is has_kind = step (is_named name x) is (λ e. kind_found kind parts name p e has_kind) where
  step : (b : Bool) → cond b (Some x) (find (is_named name) parts) ≡ Some p
      → (find (is_named name) parts ≡ Some p → find (is_named_kind kind name) parts ≡ Some p)
      → cond (kind x && b) (Some x) (find (is_named_kind kind name) parts) ≡ Some p
  step true here next = let e : x ≡ p = cc in rw (ap kind e ∙ has_kind) here
  step false here next = skip (kind x) (next here) where
    skip : (a : Bool) → find (is_named_kind kind name) parts ≡ Some p
        → cond (a && false) (Some x) (find (is_named_kind kind name) parts) ≡ Some p
    skip true e = e
    skip false e = e

-- and where it is of another kind, none of the kind has the name
pub kind_missing : (kind : Part → Bool) (parts : List Part) (name : Text) (p : Part) → each_named_once parts ≡ true
    → find (is_named name) parts ≡ Some p → kind p ≡ false → find (is_named_kind kind name) parts ≡ None
kind_missing kind parts name p once is no_kind = go (find (is_named_kind kind name) parts) refl where
  go : (o : Option Part) → find (is_named_kind kind name) parts ≡ o → o ≡ None
  go None found = refl
  go (Some q) found =
      let there = found_among (is_named_kind kind name) parts q found in
      let tests = both (kind q) _ there.1 in
      let same : name_of q ≡ name = (bytes_eq-Decides (name_of q) name).0 tests.1 in
      let first : Some q ≡ Some p = sym (subst (λ (t : Text). find (is_named t) parts ≡ Some q) same (named_once parts q once there.0))
      ∙ is in
      let e : q ≡ p = cc in
      absurd (true≢false (sym tests.0 ∙ ap kind e ∙ no_kind))

-- ---- rules that are found

pub taken : {A : Type 0} (b : Bool) (x y : A) → b ≡ true → cond b x y ≡ x
taken b x y e = rw e refl

pub passed : {A : Type 0} (b : Bool) (x y : A) → b ≡ false → cond b x y ≡ y
passed b x y e = rw e refl

found_step : {A B : Type 0} (f : A → B) (x : A) (y : B) (o : Option B) (q : Option A) (b : Bool) → y ≡ f x → o ≡ option_map f q
    → cond (b || false) (Some y) o ≡ option_map f (cond b (Some x) q)
found_step f x y o q true is rest = ap Some is
found_step f x y o q false is rest = rest

pub by_long : (parts : List Part) (i : ℕ) (name : Text)
    → arg_by_long (rules_from i parts) name ≡ option_map (filled_at 0) (find (is_long_named name) parts)
by_long [] i name = refl
by_long (option n wanted ∷ parts) i name =
    found_step (filled_at 0) (option n wanted) (filled_at i (option n wanted)) _ (find (is_long_named name) parts) (bytes_eq n name) refl (by_long parts i name)
by_long (flag n ∷ parts) i name =
    found_step (filled_at 0) (flag n) (filled_at i (flag n)) _ (find (is_long_named name) parts) (bytes_eq n name) refl (by_long parts i name)
by_long (place n wanted ∷ parts) i name = by_long parts (min (i + 1) usize_max) name

-- the rule of an id is that of the first part of the name
abbrev pub HasId : ℕ → List Part → Text → Part → Type 0
HasId i parts name p = (j : ℕ) × (arg_by_id (rules_from i parts) name ≡ Some (filled_at j p))

id_step : (x p : Part) (parts : List Part) (i : ℕ) (name : Text) (b : Bool) → is_named name x ≡ b
    → (find (is_named name) parts ≡ Some p → HasId (index_after i (rule x)) parts name p)
    → cond b (Some x) (find (is_named name) parts) ≡ Some p → HasId i (x ∷ parts) name p
id_step x p parts i name true same next is =
    (i, taken _ _ _ (ap (λ (t : Text). bytes_eq t name) (id_of i x) ∙ same) ∙ ap (option_map (filled_at i)) is)
id_step x p parts i name false same next is =
    let found = next is in (found.0, passed _ _ _ (ap (λ (t : Text). bytes_eq t name) (id_of i x) ∙ same) ∙ found.1)

pub by_id : (parts : List Part) (i : ℕ) (name : Text) (p : Part) → find (is_named name) parts ≡ Some p → HasId i parts name p
by_id [] i name p is = cc
by_id (x ∷ parts) i name p is = id_step x p parts i name (is_named name x) refl (by_id parts (index_after i (rule x)) name p) is

-- the rule of a position is that of the place behind as many others
pub by_index : (parts : List Part) (i k at : ℕ) → at ≡ i + k → i + length parts < usize_max
    → arg_by_index (rules_from i parts) at ≡ option_map (filled_at at) (slice_get (filter is_place parts) k)
by_index [] i k at is below = refl
by_index (option n wanted ∷ parts) i k at is below = by_index parts i k at is (omega arith)
by_index (flag n ∷ parts) i k at is below = by_index parts i k at is (omega arith)
by_index (place n wanted ∷ parts) i zero at is below =
    let here : (i == at) ≡ true = grind (arith, nat_tests) in
    let e : i ≡ at = omega arith in
    rw here (ap (λ (j : ℕ). Some (filled_at j (place n wanted))) e)
by_index (place n wanted ∷ parts) i (suc k) at is below =
    let later : (i == at) ≡ false = grind (arith, nat_tests) in
    let next : min (i + 1) usize_max ≡ i + 1 = omega arith in
    rw (later, next) (by_index parts (i + 1) k at (omega arith) (omega arith))

-- ---- the parts of a command

module _ (parts : List Part) (proper : is_proper parts ≡ true) where
  abbrev rules_of : List Rule
  rules_of = rules_from 1 parts

  pub counted : 1 + length parts < usize_max
  counted = let e = (both (nat_lt (length parts) (usize_max - 1)) _ proper).0 in grind (arith, nat_tests)

  pub once : each_named_once parts ≡ true
  once = (both _ _ (both (nat_lt (length parts) (usize_max - 1)) _ proper).1).1

  is_name_among : (ps : List Part) (p : Part) → list_all (λ q. is_name (name_of q)) ps ≡ true → Among p ps → is_name (name_of p) ≡ true
  is_name_among [] p each among = absurd among
  is_name_among (x ∷ ps) p each (inl e) = ap (λ (q : Part). is_name (name_of q)) (sym e) ∙ (both (is_name (name_of x)) _ each).0
  is_name_among (x ∷ ps) p each (inr among) = is_name_among ps p (both (is_name (name_of x)) _ each).1 among

  -- the part of a name, by a test that it passes
  abbrev IsKind : (Part → Bool) → Text → Type 0
  IsKind kind name = (p : Part) × (find (is_named name) parts ≡ Some p) × (kind p ≡ true) × (name_of p ≡ name) × (is_name name ≡ true)

  kind_of : (kind : Part → Bool) (name : Text) (o : Option Part) → find (is_named name) parts ≡ o → option_map_or kind o false ≡ true
      → IsKind kind name
  kind_of kind name None found is = absurd (true≢false (sym is))
  kind_of kind name (Some p) found is =
      let there = found_among (is_named name) parts p found in
      let same : name_of p ≡ name = (bytes_eq-Decides (name_of p) name).0 there.1 in (
        p,
        found,
        is,
        same,
        ap is_name (sym same)
            ∙ is_name_among parts p (both _ _ (both (nat_lt (length parts) (usize_max - 1)) _ proper).1).0 there.0,
      )

  pub has_kind : (kind : Part → Bool) (name : Text) → has parts kind name ≡ true → IsKind kind name
  has_kind kind name is = kind_of kind name (find (is_named name) parts) refl is

  -- what is found of an option, of a flag and of a place
  abbrev pub Finds : Part → Text → Type 0
  Finds p name = (arg_by_long rules_of name ≡ Some (filled_at 0 p)) × HasId 1 parts name p × (is_name name ≡ true)

  finds : (kind : Part → Bool) (name : Text) (k : IsKind kind name) → is_long k.0 ≡ true → Finds k.0 name
  finds kind name k long =
      (by_long parts 1 name ∙ ap (option_map (filled_at 0)) (kind_found is_long parts name k.0 k.1 long), by_id parts 1 name k.0 k.1, k.4)

  option_here : (name : Text) (p : Part) → is_option p ≡ true → name_of p ≡ name → (is_long p ≡ true → Finds p name)
      → (wanted : Bool) × Finds (option name wanted) name
  option_here name (option n wanted) is same found = (wanted, subst (λ (t : Text). Finds (option t wanted) name) same (found refl))
  option_here name (flag n) is same found = absurd (true≢false (sym is))
  option_here name (place n wanted) is same found = absurd (true≢false (sym is))

  pub finds_option : (name : Text) → has parts is_option name ≡ true → (wanted : Bool) × Finds (option name wanted) name
  finds_option name is = let k = has_kind is_option name is in option_here name k.0 k.2 k.3 (finds is_option name k)

  flag_here : (name : Text) (p : Part) → is_flag p ≡ true → name_of p ≡ name → (is_long p ≡ true → Finds p name) → Finds (flag name) name
  flag_here name (option n wanted) is same found = absurd (true≢false (sym is))
  flag_here name (flag n) is same found = subst (λ (t : Text). Finds (flag t) name) same (found refl)
  flag_here name (place n wanted) is same found = absurd (true≢false (sym is))

  pub finds_flag : (name : Text) → has parts is_flag name ≡ true → Finds (flag name) name
  finds_flag name is = let k = has_kind is_flag name is in flag_here name k.0 k.2 k.3 (finds is_flag name k)

  pub at_position : (k : ℕ) → arg_by_index rules_of (suc k) ≡ option_map (filled_at (suc k)) (slice_get (filter is_place parts) k)
  at_position k = by_index parts 1 k (suc k) (omega arith) counted

  abbrev pub FindsPlace : ℕ → Text → Type 0
  FindsPlace k name = (wanted : Bool) × (arg_by_index rules_of (suc k) ≡ Some (filled_at (suc k) (place name wanted)))
      × HasId 1 parts name (place name wanted) × (k < length parts)

  place_here : (k : ℕ) (name : Text) (p : Part) → slice_get (filter is_place parts) k ≡ Some p → is_place p ≡ true → name_of p ≡ name
      → k < length parts → HasId 1 parts (name_of p) p → FindsPlace k name
  place_here k name (option n wanted) at is same below id = absurd (true≢false (sym is))
  place_here k name (flag n) at is same below id = absurd (true≢false (sym is))
  place_here k name (place n wanted) at is same below id =
      subst (FindsPlace k) same
      (wanted, at_position k ∙ ap (option_map (filled_at (suc k))) at, id, below)

  finds_at : (k : ℕ) (name : Text) (o : Option Part) → slice_get (filter is_place parts) k ≡ o
      → option_map_or (is_named name) o false ≡ true
      → FindsPlace k name
  finds_at k name None at is = absurd (true≢false (sym is))
  finds_at k name (Some p) at is =
      let there = place_among parts k p at in
      place_here k name p at there.1 ((bytes_eq-Decides (name_of p) name).0 is) there.2
      (by_id parts 1 (name_of p) p (named_once parts p once there.0))

  pub finds_place : (k : ℕ) (name : Text) → stands_at parts k name ≡ true → FindsPlace k name
  finds_place k name is = finds_at k name (slice_get (filter is_place parts) k) refl is

  -- the other way about: what a name finds has the name, and no part before it has
  pub long_part : (name : Text) (p : Part) → find (is_long_named name) parts ≡ Some p
      → (name_of p ≡ name) × (find (is_named name) parts ≡ Some p) × (is_long p ≡ true)
  long_part name p found =
      let there = found_among (is_long_named name) parts p found in
      let tests = both (is_long p) _ there.1 in
      let same : name_of p ≡ name = (bytes_eq-Decides (name_of p) name).0 tests.1 in
      (same, subst (λ (t : Text). find (is_named t) parts ≡ Some p) same (named_once parts p once there.0), tests.0)
