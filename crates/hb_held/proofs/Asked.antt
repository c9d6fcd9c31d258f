-- What a workload asks for, over the index.
use Rattle.std.proofs.Common.{◌≡◌, ℕ, Bool, true, false, cond, List, [], ◌∷◌, ◌++◌, Option, Some, None, is_some, refl, ap, sym, ◌∙◌, subst, eq-eqb}
use Rattle.std.specs.Prelude.{◌||◌, filter, map}
use Rattle.std.specs.List.{list_any}
use Rattle.std.specs.Ordering.{is_lt, ordering_reverse}
use Rattle.std.specs.declared.cmp.Ordering.{Ordering}
use Rattle.std.specs.declared.cmp.Ordering.TheVariants.{Less, Equal, Greater}
use Rattle.std.specs.Cmp.Lexicographic.{nat_list_cmp_total}
use Rattle.std.specs.Str.{bytes_eq}
use Rattle.std.specs.FinMap.{get, entries, contains_key}
use Rattle.std.proofs.lemmas.Slice.Eq.{bytes_eq-Decides}
use Rattle.hb_index.specs.Index.{is_among}
use Rattle.hb_index.specs.Indexed.{numbers_in, has_number}
use Rattle.hb_index.specs.Named.{Named, is_behind, IsFirstBehind}
use Rattle.hb_index.proofs.Alike.{passed}
use Rattle.hb_index.proofs.Behind.{behind, none_left, passed_over, next_left}
use Rattle.hb_index.proofs.Entries.{by_bytes, differ}
use Rattle.hb_index.proofs.Rising.{same}
use Rattle.hb_index.proofs.Undone.{never, or_left, or_right}
use Rattle.hb_records.specs.declared.authorization.Authorization.{Authorization as Policy}
use Rattle.hb_records.specs.declared.authorization.Reach.{Reach}
use Rattle.hb_records.specs.declared.authorization.Reach.TheVariants.{Global, Namespace, Selector}
use Rattle.hb_records.specs.declared.workload.Workload.{Workload}
use Rattle.hb_held.specs.declared.versioned.Versioned.{Versioned}
use Rattle.hb_held.specs.Asked.{keys_for, has_key, asks_for, lesser_name}
use Rattle.hb_held.specs.Numbers.{with_byte, with_bytes, text_number, policy_numbers}
use Rattle.hb_held.specs.Policies.{selector_name, reaches, is_for, key_of, policy_key, policy_for, policies_in}

-- a text in two parts
pub with_bytes-append : (n : ℕ) (xs ys : List ℕ) → with_bytes n (xs ++ ys) ≡ with_bytes (with_bytes n xs) ys
with_bytes-append n [] ys = refl
with_bytes-append n (x ∷ xs) ys = with_bytes-append (with_byte n x) xs ys

or_none : (b : Bool) → (b || false) ≡ b
or_none true = refl
or_none false = refl

pub any_more : {X : Type 0} (p : X → Bool) (xs : List X) (x : X) → list_any p (xs ++ x ∷ []) ≡ (list_any p xs || p x)
any_more p [] x = or_none (p x)
any_more p (y ∷ xs) x =
    elim (p y) as (λ b. (b || list_any p (xs ++ x ∷ [])) ≡ ((b || list_any p xs) || p x)) [
      | true ↦ refl
      | false ↦ any_more p xs x
    ]

pub any_of_both : {X : Type 0} (p : X → Bool) (xs ys : List X) → list_any p (xs ++ ys) ≡ (list_any p xs || list_any p ys)
any_of_both p [] ys = refl
any_of_both p (x ∷ xs) ys =
    elim (p x) as (λ b. (b || list_any p (xs ++ ys)) ≡ ((b || list_any p xs) || list_any p ys)) [
      | true ↦ refl
      | false ↦ any_of_both p xs ys
    ]

either_is : (a b : Bool) → (a || b) ≡ true → (P : Type 0) → (a ≡ true → P) → (b ≡ true → P) → P
either_is true b h P f g = f refl
either_is false b h P f g = g h

is_less : (o : Ordering) → is_lt o ≡ true → o ≡ Less
is_less Less h = refl
is_less Equal h = absurd cc
is_less Greater h = absurd cc

-- neither b before a, nor the name before b
far_enough : (name a b : List ℕ) → is_lt (by_bytes b a) ≡ false → is_lt (by_bytes name b) ≡ false → is_lt (by_bytes name a) ≡ false
far_enough name a b h k =
    elim (is_lt (by_bytes name a)) as (λ t. is_lt (by_bytes name a) ≡ t → t ≡ false) [
      | true ↦ λ less. elim (by_bytes a b) as (λ o. by_bytes a b ≡ o → true ≡ false) [
        | Less ↦ λ e. sym (ap is_lt (nat_list_cmp_total.trans name a b (is_less _ less) e)) ∙ k
        | Equal ↦ λ e. sym (ap is_lt (ap (by_bytes name) (sym (differ a b e)) ∙ is_less _ less)) ∙ k
        | Greater ↦ λ e. sym (ap is_lt (nat_list_cmp_total.antisymm b a ∙ ap ordering_reverse e)) ∙ h
      ] refl
      | false ↦ λ _. refl
    ] refl

not_less : (a b c : List ℕ) → is_lt (by_bytes a b) ≡ false → is_lt (by_bytes c b) ≡ true → is_lt (by_bytes a c) ≡ false
not_less a b c far near =
    elim (is_lt (by_bytes a c)) as (λ t. is_lt (by_bytes a c) ≡ t → t ≡ false) [
      | true ↦ λ less. sym (ap is_lt (nat_list_cmp_total.trans a c b (is_less _ less) (is_less _ near))) ∙ far
      | false ↦ λ _. refl
    ] refl

-- of two firsts the lesser one is the first of both
module _ (p q : List ℕ → Bool) (other : Option (List ℕ)) where
  pub first_of_both : (a b : Option (List ℕ)) → IsFirstBehind p other a → IsFirstBehind q other b
      → IsFirstBehind (λ name. p name || q name) other (lesser_name a b)
  first_of_both None None none_p none_q = λ name has.
      either_is (p name) (q name) has (is_behind other name ≡ false) (none_p name) (none_q name)
  first_of_both None (Some b) none_p first_q = (
    or_right (p b) (q b) first_q.0,
    first_q.1,
    λ name has after. either_is (p name) (q name) has (is_lt (by_bytes name b) ≡ false)
        (λ in_p. absurd (never (sym (none_p name in_p) ∙ after))) (λ in_q. first_q.2 name in_q after),
  )
  first_of_both (Some a) None first_p none_q = (
    or_left (p a) (q a) first_p.0,
    first_p.1,
    λ name has after. either_is (p name) (q name) has (is_lt (by_bytes name a) ≡ false)
        (λ in_p. first_p.2 name in_p after) (λ in_q. absurd (never (sym (none_q name in_q) ∙ after))),
  )
  first_of_both (Some a) (Some b) first_p first_q =
      elim (is_lt (by_bytes b a)) as (λ t. is_lt (by_bytes b a) ≡ t
      → IsFirstBehind (λ name. p name || q name) other (cond t (Some b) (Some a))) [
        | true ↦ λ less. (
          or_right (p b) (q b) first_q.0,
          first_q.1,
          λ name has after. either_is (p name) (q name) has (is_lt (by_bytes name b) ≡ false)
              (λ in_p. not_less name a b (first_p.2 name in_p after) less) (λ in_q. first_q.2 name in_q after),
        )
        | false ↦ λ not. (
          or_left (p a) (q a) first_p.0,
          first_p.1,
          λ name has after. either_is (p name) (q name) has (is_lt (by_bytes name a) ≡ false)
              (λ in_p. first_p.2 name in_p after) (λ in_q. far_enough name a b not (first_q.2 name in_q after)),
        )
      ] refl

pub first_alike : (p q : List ℕ → Bool) → ((name : List ℕ) → p name ≡ q name) → (other found : Option (List ℕ))
    → IsFirstBehind p other found → IsFirstBehind q other found
first_alike p q alike other None first = λ name has. first name (alike name ∙ has)
first_alike p q alike other (Some n) first = (
  sym (alike n) ∙ first.0,
  first.1,
  λ name has after. first.2 name (alike name ∙ has) after,
)

module _ (w : Workload) (m : Named (Versioned Policy)) where
  own_key : (name : List ℕ) (v : Versioned Policy) → get m name ≡ Some v
      → has_number policy_numbers m (text_number (policy_key v.content)) name ≡ true
  own_key name v is =
      ap (λ o. is_among (numbers_in policy_numbers o) (text_number (policy_key v.content))) is
      ∙ or_left _ false (eq-eqb (text_number (policy_key v.content)) _ refl)

  keyed : (keys : List (List ℕ)) (key : List ℕ) (name : List ℕ) → has_number policy_numbers m (text_number key) name ≡ true
      → list_any (λ k. bytes_eq k key) keys ≡ true → has_key m keys name ≡ true
  keyed [] key name has any = absurd cc
  keyed (k ∷ keys) key name has any =
      elim (bytes_eq k key) as (λ b. bytes_eq k key ≡ b → (b || list_any (λ k. bytes_eq k key) keys) ≡ true
      → has_key m (k ∷ keys) name ≡ true) [
        | true ↦ λ same _. or_left _ (has_key m keys name)
            (ap (λ t. has_number policy_numbers m (text_number t) name) ((bytes_eq-Decides k key).0 same) ∙ has)
        | false ↦ λ _ there. or_right (has_number policy_numbers m (text_number k) name) _ (keyed keys key name has there)
      ] refl any

  asked_key : (r : Reach) (a : Policy) → reaches r a w ≡ true → list_any (λ k. bytes_eq k (key_of r a)) (keys_for w) ≡ true
  asked_key Global a for_it = refl
  asked_key Namespace a for_it =
      or_right (bytes_eq [] a.namespace) _ (or_left (bytes_eq w.namespace a.namespace) _
      ((bytes_eq-Decides w.namespace a.namespace).1 (sym ((bytes_eq-Decides a.namespace w.namespace).0 for_it))))
  asked_key Selector a for_it =
      or_right (bytes_eq [] (selector_name a)) _ (or_right (bytes_eq w.namespace (selector_name a)) _ for_it)

  -- a policy that is for the workload has the number of a key by which it asks
  pub asked : (name : List ℕ) (v : Versioned Policy) → get m name ≡ Some v → is_for w v.content ≡ true → asks_for w m name ≡ true
  asked name v is for_it = keyed (keys_for w) (policy_key v.content) name (own_key name v is) (asked_key v.content.scope v.content for_it)

  abbrev pub for_it : List ℕ × Versioned Policy → Bool
  for_it e = is_for w e.1.content

  pub contents : (es : List (List ℕ × Versioned Policy)) → policies_in es w ≡ map (λ e. e.1.content) (filter for_it es)
  contents [] = refl
  contents (e ∷ es) =
      elim (is_for w e.1.content) as (λ b.
      cond b (e.1.content ∷ policies_in es w) (policies_in es w) ≡ map (λ e. e.1.content)
      (cond b (e ∷ filter for_it es) (filter for_it es))) [
        | true ↦ ap (λ ps. e.1.content ∷ ps) (contents es)
        | false ↦ contents es
      ]

  -- the policies for the workload behind a name
  abbrev pub behind_for : Option (List ℕ) → List Policy
  behind_for other = policies_in (behind m other) w

  pub none_for : (other : Option (List ℕ)) → IsFirstBehind (asks_for w m) other None → behind_for other ≡ []
  none_for other none = contents (behind m other) ∙ ap (map (λ e. e.1.content)) (none_left m for_it (asks_for w m) asked other none)

  stands : (name : List ℕ) (o : Option (Versioned Policy)) → policy_for w o ≡ None → passed for_it name o ≡ None
  stands name None is = refl
  stands name (Some v) is =
      elim (is_for w v.content) as (λ b. cond b (Some v.content) None ≡ None → cond b (Some v) None ≡ None) [
        | true ↦ λ some. absurd cc
        | false ↦ λ _. refl
      ] is

  pub not_for : (other : Option (List ℕ)) (name : List ℕ) → IsFirstBehind (asks_for w m) other (Some name)
      → policy_for w (get m name) ≡ None
      → behind_for other ≡ behind_for (Some name)
  not_for other name first is =
      contents (behind m other)
      ∙ ap (map (λ e. e.1.content)) (passed_over m for_it (asks_for w m) asked other name first (stands name (get m name) is))
      ∙ sym (contents (behind m (Some name)))

  stands_there : (name : List ℕ) (o : Option (Versioned Policy)) (p : Policy) → policy_for w o ≡ Some p
      → (v : Versioned Policy) × (passed for_it name o ≡ Some v) × (v.content ≡ p)
  stands_there name None p is = absurd cc
  stands_there name (Some v) p is =
      elim (is_for w v.content) as (λ b. cond b (Some v.content) None ≡ Some p
      → (u : Versioned Policy) × (cond b (Some v) None ≡ Some u) × (u.content ≡ p)) [
        | true ↦ λ there. (v, refl, same v.content p there)
        | false ↦ λ none. absurd cc
      ] is

  pub is_next : (other : Option (List ℕ)) (name : List ℕ) (p : Policy) → IsFirstBehind (asks_for w m) other (Some name)
      → policy_for w (get m name) ≡ Some p → behind_for other ≡ p ∷ behind_for (Some name)
  is_next other name p first is =
      let there = stands_there name (get m name) p is in
      contents (behind m other)
      ∙ ap (map (λ e. e.1.content)) (next_left m for_it (asks_for w m) asked other name first there.0 there.1)
      ∙ ap (λ q. q ∷ map (λ e. e.1.content) (filter for_it (behind m (Some name)))) there.2
      ∙ ap (λ ps. p ∷ ps) (sym (contents (behind m (Some name))))

every : {X : Type 0} (es : List (List ℕ × X)) → filter (λ e. is_behind None e.0) es ≡ es
every [] = refl
every (e ∷ es) = ap (λ fs. e ∷ fs) (every es)

-- behind no name are all
pub all_for : (w : Workload) (m : Named (Versioned Policy)) → behind_for w m None ≡ policies_in (entries m) w
all_for w m = ap (λ es. policies_in es w) (every (entries m))

-- one key more
module _ (m : Named (Versioned Policy)) (other : Option (List ℕ)) where
  abbrev numbered : ℕ → List ℕ → Bool
  numbered k name = has_number policy_numbers m k name

  pub one_more : (keys : List (List ℕ)) (key : List ℕ) (k : ℕ) (a b found : Option (List ℕ)) → k ≡ text_number key
      → IsFirstBehind (has_key m keys) other a → IsFirstBehind (numbered k) other b → found ≡ lesser_name a b
      → IsFirstBehind (has_key m (keys ++ key ∷ [])) other found
  one_more keys key k a b found is first_a first_b least =
      subst (IsFirstBehind (has_key m (keys ++ key ∷ [])) other) (sym least)
      (first_alike (λ name. has_key m keys name || numbered k name) (has_key m (keys ++ key ∷ []))
      (λ name. ap (λ n. has_key m keys name || numbered n name) is ∙ sym (any_more (λ q. numbered (text_number q) name) keys key))
      other (lesser_name a b) (first_of_both (has_key m keys) (numbered k) other a b first_a first_b))

  pub one_key : (key : List ℕ) (k : ℕ) (a : Option (List ℕ)) → k ≡ text_number key → IsFirstBehind (numbered k) other a
      → IsFirstBehind (has_key m (key ∷ [])) other a
  one_key key k a is first =
      first_alike (numbered k) (has_key m (key ∷ [])) (λ name. ap (λ n. numbered n name) is
      ∙ sym (or_none (numbered (text_number key) name)))
      other a first

none_has : (keys : List (List ℕ)) → list_any (λ key. is_among (numbers_in policy_numbers None) (text_number key)) keys ≡ false
none_has [] = refl
none_has (k ∷ keys) = none_has keys

pub asked_is_held : (w : Workload) (m : Named (Versioned Policy)) (name : List ℕ) → asks_for w m name ≡ true → contains_key m name ≡ true
asked_is_held w m name has =
    elim (get m name) as (λ o. list_any (λ key. is_among (numbers_in policy_numbers o) (text_number key)) (keys_for w) ≡ true
    → is_some o ≡ true) [
      | None ↦ λ any. absurd (never (sym (none_has (keys_for w)) ∙ any))
      | Some v ↦ λ _. refl
    ] has
