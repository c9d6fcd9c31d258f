-- The rows that items leave, and what defaults add to them.
use Rattle.std.proofs.Common.{◌≡◌, ◌&&◌, ◌||◌, not, ℕ, Bool, cond, true, false, true≢false, List, [], ◌∷◌, ◌++◌, map, fold, Option, Some, None, option_map, find, bytes_eq, codes, append_assoc, append-nil, refl, sym, ap, ap₂, ◌∙◌}
use Rattle.std.specs.List.{list_all}
use Rattle.std.specs.Option.{option_map_or}
use Rattle.std.proofs.lemmas.Slice.Eq.{bytes_eq-Decides}
use Rattle.clap.specs.Facts.{explicit_source}
use Rattle.clap.specs.declared.builder.value_parser.Reading.TheVariants.{AsWritten}
use Rattle.clap.specs.declared.parser.matches.ValueSource.TheVariants.{CommandLine, DefaultValue}
use Rattle.clap.specs.Simple.{index_after}
use Rattle.clap.specs.Takes.{is_given}
use Rattle.clap.specs.Walk.{Row, Text, at_row, has_row, more_values, with_default}
use Rattle.hb_options.specs.Items.{Part, option, flag, place, name_of, is_flag, rule, Item, item_name, item_value, is_said, each_once}
use Rattle.hb_options.proofs.Rules.{rules_from, filled_at, is_named_kind, same_text}
use Rattle.hb_options.proofs.Steps.{added}
use Rattle.hb_options.proofs.Walks.{all_pass, all_added}

abbrev pub row_for : Item → Row
row_for i = record {
  id = item_name i;
  values = item_value i ∷ [];
  count = None;
  source = Some CommandLine;
  reading = AsWritten;
}

-- ---- a row of a new name is added at the end

at_no_row : (id : Text) (change : Row → List Row) (missing rs : List Row) → has_row id rs ≡ false
    → at_row id change missing rs ≡ rs ++ missing
at_no_row id change missing [] none = refl
at_no_row id change missing (r ∷ rs) none = step (bytes_eq r.id id) none (at_no_row id change missing rs) where
  step : (b : Bool) → (b || has_row id rs) ≡ false → (has_row id rs ≡ false → at_row id change missing rs ≡ rs ++ missing)
      → cond b (change r ++ rs) (r ∷ at_row id change missing rs) ≡ r ∷ (rs ++ missing)
  step true none next = absurd (true≢false none)
  step false none next = ap (λ (l : List Row). r ∷ l) (next none)

added_row : (i : Item) (rs : List Row) → has_row (item_name i) rs ≡ false → added (item_name i) (item_value i) rs ≡ rs ++ row_for i ∷ []
added_row i rs none =
    let kept = at_no_row (item_name i) (λ _. []) [] rs none ∙ append-nil rs in
    ap (at_row (item_name i) (more_values CommandLine (item_value i ∷ [])) (row_for i ∷ [])) kept
    ∙ at_no_row (item_name i) (more_values CommandLine (item_value i ∷ [])) (row_for i ∷ []) rs none

-- ---- uses pass exactly where no name comes twice

bytes_sym : (a b : Text) → bytes_eq a b ≡ bytes_eq b a
bytes_sym a b = go (bytes_eq a b) (bytes_eq b a) refl refl where
  go : (s t : Bool) → bytes_eq a b ≡ s → bytes_eq b a ≡ t → s ≡ t
  go true true e f = refl
  go true false e f = absurd (true≢false (sym (same_text a) ∙ ap (λ (x : Text). bytes_eq x a) ((bytes_eq-Decides a b).0 e) ∙ f))
  go false true e f = absurd (true≢false (sym (same_text b) ∙ ap (λ (x : Text). bytes_eq x b) ((bytes_eq-Decides b a).0 f) ∙ e))
  go false false e f = refl

has_row_push : (id : Text) (i : Item) (rs : List Row) → has_row id (rs ++ row_for i ∷ []) ≡ (has_row id rs || bytes_eq (item_name i) id)
has_row_push id i [] = go (bytes_eq (item_name i) id) where
  go : (b : Bool) → (b || false) ≡ b
  go true = refl
  go false = refl
has_row_push id i (r ∷ rs) = ap (λ (b : Bool). bytes_eq r.id id || b) (has_row_push id i rs) ∙ assoc (bytes_eq r.id id) _ _ where
  assoc : (a b d : Bool) → (a || (b || d)) ≡ ((a || b) || d)
  assoc true b d = refl
  assoc false b d = refl

-- no item has a row
abbrev pub none_had : List Item → List Row → Bool
none_had items rs = list_all (λ i. not (has_row (item_name i) rs)) items

swap : (a b s l : Bool) → (not (a || b) && (not s && l)) ≡ (not (b || s) && (not a && l))
swap true true s l = refl
swap true false true l = refl
swap true false false l = refl
swap false true s l = refl
swap false false true l = refl
swap false false false l = refl

none_had_push : (items : List Item) (i : Item) (rs : List Row)
    → none_had items (rs ++ row_for i ∷ []) ≡ (not (is_said (item_name i) items) && none_had items rs)
none_had_push [] i rs = refl
none_had_push (j ∷ items) i rs =
    ap₂ (λ (a b : Bool). not a && b) (has_row_push (item_name j) i rs
    ∙ ap (λ (b : Bool). has_row (item_name j) rs || b) (bytes_sym (item_name i) (item_name j)))
    (none_had_push items i rs)
    ∙ swap (has_row (item_name j) rs) (bytes_eq (item_name j) (item_name i)) (is_said (item_name i) items) (none_had items rs)

pub all_pass_once : (items : List Item) (rs : List Row) → all_pass items rs ≡ (each_once items && none_had items rs)
all_pass_once [] rs = refl
all_pass_once (i ∷ items) rs = step (has_row (item_name i) rs) refl (λ next. all_pass_once items next) where
  step : (b : Bool) → has_row (item_name i) rs ≡ b → ((next : List Row) → all_pass items next ≡ (each_once items && none_had items next))
      → (not b && all_pass items (added (item_name i) (item_value i) rs))
      ≡ ((not (is_said (item_name i) items) && each_once items) && (not b && none_had items rs))
  step true is next = ends (not (is_said (item_name i) items) && each_once items) where
    ends : (a : Bool) → false ≡ (a && false)
    ends true = refl
    ends false = refl
  step false is next =
      ap (all_pass items) (added_row i rs is) ∙ next (rs ++ row_for i ∷ [])
      ∙ ap (λ (b : Bool). each_once items && b) (none_had_push items i rs)
      ∙ turn (each_once items) (not (is_said (item_name i) items)) (none_had items rs)
    where
      turn : (a b d : Bool) → (a && (b && d)) ≡ ((b && a) && d)
      turn true true d = refl
      turn true false d = refl
      turn false true d = refl
      turn false false d = refl

pub all_had : (items : List Item) → none_had items [] ≡ true
all_had [] = refl
all_had (i ∷ items) = all_had items

is_false : (b : Bool) → not b ≡ true → b ≡ false
is_false true e = absurd (true≢false (sym e))
is_false false e = refl

pub added_rows : (items : List Item) (rs : List Row) → all_pass items rs ≡ true → all_added items rs ≡ rs ++ map row_for items
added_rows [] rs pass = sym (append-nil rs)
added_rows (i ∷ items) rs pass = step (has_row (item_name i) rs) refl pass (λ next more. added_rows items next more) where
  step : (b : Bool) → has_row (item_name i) rs ≡ b → (not b && all_pass items (added (item_name i) (item_value i) rs)) ≡ true
      → ((next : List Row) → all_pass items next ≡ true → all_added items next ≡ next ++ map row_for items)
      → all_added items (added (item_name i) (item_value i) rs) ≡ rs ++ row_for i ∷ map row_for items
  step true is more next = absurd (true≢false (sym more))
  step false is more next =
      next (added (item_name i) (item_value i) rs) more
      ∙ ap (λ (l : List Row). l ++ map row_for items) (added_row i rs is) ∙ append_assoc rs (row_for i ∷ []) (map row_for items)

-- ---- what is found among them

abbrev pub row_named : Text → List Row → Option Row
row_named id = find (λ r. bytes_eq r.id id)

abbrev pub item_named : Text → List Item → Option Item
item_named name = find (λ i. bytes_eq (item_name i) name)

pub row_of_item : (id : Text) (items : List Item) → row_named id (map row_for items) ≡ option_map row_for (item_named id items)
row_of_item id [] = refl
row_of_item id (i ∷ items) = step (bytes_eq (item_name i) id) (row_of_item id items) where
  step : (b : Bool) → row_named id (map row_for items) ≡ option_map row_for (item_named id items)
      → cond b (Some (row_for i)) (row_named id (map row_for items)) ≡ option_map row_for (cond b (Some i) (item_named id items))
  step true e = refl
  step false e = e

pub given_said : (id : Text) (items : List Item) → is_given id (map row_for items) ≡ is_said id items
given_said id [] = refl
given_said id (i ∷ items) = step (bytes_eq (item_name i) id) (given_said id items) where
  step : (b : Bool) → is_given id (map row_for items) ≡ is_said id items
      → option_map_or (λ r. explicit_source r.source) (cond b (Some (row_for i)) (row_named id (map row_for items))) false
      ≡ (b || is_said id items)
  step true e = refl
  step false e = e

-- ---- defaults

-- the row that a flag has where it wasn't given
abbrev pub unsaid : Text → Row
unsaid name = record {
  id = name;
  values = codes "false" ∷ [];
  count = None;
  source = Some DefaultValue;
  reading = AsWritten;
}

-- what was found, or else the row of a flag
abbrev pub or_unsaid : Option Row → Option Part → Option Row
or_unsaid (Some r) o = Some r
or_unsaid None None = None
or_unsaid None (Some p) = Some (unsaid (name_of p))

row_named_none : (id : Text) (rs : List Row) → has_row id rs ≡ false → row_named id rs ≡ None
row_named_none id [] none = refl
row_named_none id (r ∷ rs) none = step (bytes_eq r.id id) none (row_named_none id rs) where
  step : (b : Bool) → (b || has_row id rs) ≡ false → (has_row id rs ≡ false → row_named id rs ≡ None)
      → cond b (Some r) (row_named id rs) ≡ None
  step true none next = absurd (true≢false none)
  step false none next = next none

row_named_some : (id : Text) (rs : List Row) (o : Option Row) → has_row id rs ≡ true → row_named id rs ≡ o → (r : Row) × (o ≡ Some r)
row_named_some id [] o has is = absurd (true≢false (sym has))
row_named_some id (r ∷ rs) o has is = step (bytes_eq r.id id) has is (row_named_some id rs o) where
  step : (b : Bool) → (b || has_row id rs) ≡ true → cond b (Some r) (row_named id rs) ≡ o
      → (has_row id rs ≡ true → row_named id rs ≡ o → (r : Row) × (o ≡ Some r)) → (r : Row) × (o ≡ Some r)
  step true has is next = (r, sym is)
  step false has is next = next has is

row_named_push : (id name : Text) (rs : List Row)
    → row_named id (rs ++ unsaid name ∷ []) ≡ or_unsaid (row_named id rs) (cond (bytes_eq name id) (Some (flag name)) None)
row_named_push id name [] = go (bytes_eq name id) where
  go : (b : Bool) → cond b (Some (unsaid name)) None ≡ or_unsaid None (cond b (Some (flag name)) None)
  go true = refl
  go false = refl
row_named_push id name (r ∷ rs) = step (bytes_eq r.id id) (row_named_push id name rs) where
  step : (b : Bool) → row_named id (rs ++ unsaid name ∷ []) ≡ or_unsaid (row_named id rs) (cond (bytes_eq name id) (Some (flag name)) None)
      → cond b (Some r) (row_named id (rs ++ unsaid name ∷ []))
      ≡ or_unsaid (cond b (Some r) (row_named id rs)) (cond (bytes_eq name id) (Some (flag name)) None)
  step true e = refl
  step false e = e

-- a flag's default, where it has no row
abbrev with_unsaid : Text → List Row → List Row
with_unsaid name rs = cond (has_row name rs) rs (rs ++ unsaid name ∷ [])

default_is : (j : ℕ) (name : Text) (rs : List Row) → with_default rs (filled_at j (flag name)) ≡ with_unsaid name rs
default_is j name rs = go (has_row name rs) refl where
  go : (b : Bool) → has_row name rs ≡ b
      → cond b rs (at_row name (more_values DefaultValue (codes "false" ∷ [])) (unsaid name ∷ []) rs) ≡ cond b rs (rs ++ unsaid name ∷ [])
  go true e = refl
  go false e = at_no_row name (more_values DefaultValue (codes "false" ∷ [])) (unsaid name ∷ []) rs e

no_default : (b : Bool) (rs : List Row) → cond b rs rs ≡ rs
no_default true rs = refl
no_default false rs = refl

or_none : (o : Option Row) → or_unsaid o None ≡ o
or_none None = refl
or_none (Some r) = refl

flag_found : (id name : Text) (rs : List Row) (b : Bool) → has_row name rs ≡ b
    → row_named id (cond b rs (rs ++ unsaid name ∷ [])) ≡ or_unsaid (row_named id rs) (cond (bytes_eq name id) (Some (flag name)) None)
flag_found id name rs false none = row_named_push id name rs
flag_found id name rs true has = same (bytes_eq name id) refl where
  same : (t : Bool) → bytes_eq name id ≡ t → row_named id rs ≡ or_unsaid (row_named id rs) (cond t (Some (flag name)) None)
  same false e = sym (or_none _)
  same true e =
      let found = row_named_some id rs (row_named id rs) (ap (λ (t : Text). has_row t rs) (sym ((bytes_eq-Decides name id).0 e))
      ∙ has) refl in
      rw found.1 refl

or_again : (o : Option Row) (t : Bool) (name : Text) (q : Option Part)
    → or_unsaid (or_unsaid o (cond t (Some (flag name)) None)) q ≡ or_unsaid o (cond t (Some (flag name)) q)
or_again (Some r) t name q = refl
or_again None true name q = refl
or_again None false name q = refl

-- what is found when the defaults were added
pub found_finished : (id : Text) (parts : List Part) (i : ℕ) (rs : List Row)
    → row_named id (fold with_default rs (rules_from i parts)) ≡ or_unsaid (row_named id rs) (find (is_named_kind is_flag id) parts)
found_finished id [] i rs = sym (or_none _)
found_finished id (option name wanted ∷ parts) i rs =
    ap (λ (l : List Row). row_named id (fold with_default l (rules_from i parts))) (no_default (has_row name rs) rs)
    ∙ found_finished id parts i rs
found_finished id (place name wanted ∷ parts) i rs =
    ap (λ (l : List Row). row_named id (fold with_default l (rules_from (index_after i (rule (place name wanted))) parts))) (no_default (has_row name rs) rs)
    ∙ found_finished id parts (index_after i (rule (place name wanted))) rs
found_finished id (flag name ∷ parts) i rs =
    ap (λ (l : List Row). row_named id (fold with_default l (rules_from i parts))) (default_is i name rs)
    ∙ found_finished id parts i (with_unsaid name rs)
    ∙ ap (λ (o : Option Row). or_unsaid o (find (is_named_kind is_flag id) parts)) (flag_found id name rs (has_row name rs) refl)
    ∙ or_again (row_named id rs) (bytes_eq name id) name (find (is_named_kind is_flag id) parts)

-- no default makes an argument given
pub given_finished : (id : Text) (parts : List Part) (rs : List Row)
    → is_given id (fold with_default rs (rules_from 1 parts)) ≡ is_given id rs
given_finished id parts rs =
    ap (λ (o : Option Row). option_map_or (λ r. explicit_source r.source) o false) (found_finished id parts 1 rs)
    ∙ go (row_named id rs) (find (is_named_kind is_flag id) parts)
  where
    go : (o : Option Row) (q : Option Part)
        → option_map_or (λ r. explicit_source r.source) (or_unsaid o q) false ≡ option_map_or (λ r. explicit_source r.source) o false
    go (Some r) q = refl
    go None None = refl
    go None (Some p) = refl
