-- The reason of a refusal holds of the policies that refuse.
use Rattle.std.proofs.Common.{◌≡◌, ◌<◌, ◌≤◌, ◌+◌, ◌||◌, ℕ, Bool, true, false, cond, length, List, [], ◌∷◌, ◌++◌, Option, Some, None}
use Rattle.std.proofs.Common.{refl, sym, ap, ap₂, subst, ◌∙◌, arith}
use Rattle.std.specs.Prelude.{◌&&◌, not, if◌then◌else◌, filter, map}
use Rattle.std.specs.FinMap.{entries, len-entries}
use Rattle.std.specs.List.{find, list_any}
use Rattle.std.proofs.lemmas.List.{length-map}
use Rattle.std.proofs.lemmas.List.Folds.{list_any-append}
use Rattle.hb_audit.specs.Told.{Reason, denied_by, none_allows}
use Rattle.hb_base.specs.declared.peer.Peer.{Peer}
use Rattle.hb_base.specs.declared.target.Target.{Target}
use Rattle.hb_held.specs.Held.{Resources, count}
use Rattle.hb_held.specs.Lookup.{known}
use Rattle.hb_held.specs.Policies.{is_for, policies_for}
use Rattle.hb_held.specs.declared.versioned.Versioned.{Versioned}
use Rattle.hb_policy.specs.Connection.{Connection}
use Rattle.hb_policy.specs.Policy.{fires, is_deny, admitted_by}
use Rattle.hb_records.specs.declared.authorization.Action.{Action}
use Rattle.hb_records.specs.declared.authorization.Action.TheVariants.{Allow, Deny}
use Rattle.hb_records.specs.declared.authorization.Authorization.{Authorization}
use Rattle.hb_records.specs.declared.workload.Workload.{Workload}
use Rattle.hb_table.specs.Judgement.{judged, judged_at}
use Rattle.hb_table.specs.declared.judgement.Judged.{Judged}
use Rattle.hb_table.specs.declared.judgement.Judged.TheVariants.{Admitted, Unknown, Denied}
use Rattle.hb_reason.specs.Denial.{denies, allows, reason_by, reason_in, denial_by, denial}
use Rattle.hb_reason.specs.DenialLaws.{IsFirstDenial, Holds, HasReason}

-- BOOLEANS

and_both : (x y : Bool) → (x && y) ≡ true → (x ≡ true) × (y ≡ true)
and_both true y so = (refl, so)
and_both false y so = absurd cc

pub or_neither : (x y : Bool) → (x || y) ≡ false → (x ≡ false) × (y ≡ false)
or_neither true y so = absurd cc
or_neither false y so = (refl, so)

-- one that allows is there, and none lets in
by_none : (guarded allowed : Bool) → (not guarded || allowed) ≡ false → (guarded ≡ true) × (allowed ≡ false)
by_none true true so = absurd cc
by_none true false so = (refl, refl)
by_none false allowed so = absurd cc

-- THE FIRST THAT PASSES

module _ {X : Type 0} (p : X → Bool) where
  -- it stands behind some that don't
  record First (xs : List X) (x : X) : Type 0 where
    pub front : List X
    pub rest : List X
    pub is : xs ≡ front ++ x ∷ rest
    pub none_before : list_any p front ≡ false
    pub passes : p x ≡ true

  first : (xs : List X) (x : X) → find p xs ≡ Some x → First xs x
  first [] x is = absurd cc
  first (y ∷ xs) x is =
      elim (p y) as (λ b. p y ≡ b → cond b (Some y) (find p xs) ≡ Some x → First (y ∷ xs) x) [
        | true ↦ λ yes same. let it : y ≡ x = cc in
            record { front = []; rest = xs; is = ap (λ (z : X). z ∷ xs) it; none_before = refl; passes = ap p (sym it) ∙ yes }
        | false ↦ λ no same. let next = first xs x same in
            record {
              front = y ∷ next.front;
              rest = next.rest;
              is = ap (λ (l : List X). y ∷ l) next.is;
              none_before = ap (λ (b : Bool). b || list_any p next.front) no ∙ next.none_before;
              passes = next.passes;
            }
      ] refl is

  none : (xs : List X) → find p xs ≡ None → list_any p xs ≡ false
  none [] is = refl
  none (y ∷ xs) is =
      elim (p y) as (λ b. cond b (Some y) (find p xs) ≡ None → (b || list_any p xs) ≡ false) [
        | true ↦ λ same. absurd cc
        | false ↦ λ same. none xs same
      ] is

  found : (front : List X) (x : X) (rest : List X) → list_any p front ≡ false → p x ≡ true → find p (front ++ x ∷ rest) ≡ Some x
  found [] x rest none passes = ap (λ (b : Bool). cond b (Some x) (find p rest)) passes
  found (y ∷ front) x rest none passes =
      let both = or_neither (p y) (list_any p front) none in
      ap (λ (b : Bool). cond b (Some y) (find p (front ++ x ∷ rest))) both.0 ∙ found front x rest both.1 passes

  not_found : (xs : List X) → list_any p xs ≡ false → find p xs ≡ None
  not_found [] none = refl
  not_found (y ∷ xs) none =
      let both = or_neither (p y) (list_any p xs) none in
      ap (λ (b : Bool). cond b (Some y) (find p xs)) both.0 ∙ not_found xs both.1

  -- how many pass
  some : (xs : List X) → list_any p xs ≡ true → 0 < length (filter p xs)
  some [] any = absurd cc
  some (y ∷ xs) any =
      elim (p y) as (λ b. (b || list_any p xs) ≡ true → 0 < length (cond b (y ∷ filter p xs) (filter p xs))) [
        | true ↦ λ _. omega arith
        | false ↦ λ rest. some xs rest
      ] any

  -- no more than there are
  few : (xs : List X) → length (filter p xs) ≤ length xs
  few [] = omega arith
  few (x ∷ xs) =
      let rest = few xs in
      elim (p x) as (λ b. length (cond b (x ∷ filter p xs) (filter p xs)) ≤ length (x ∷ xs)) [
        | true ↦ omega (arith, rest)
        | false ↦ omega (arith, rest)
      ]

  any : (xs : List X) → 0 < length (filter p xs) → list_any p xs ≡ true
  any [] many = absurd (omega (arith, many))
  any (y ∷ xs) many =
      elim (p y) as (λ b. 0 < length (cond b (y ∷ filter p xs) (filter p xs)) → (b || list_any p xs) ≡ true) [
        | true ↦ λ _. refl
        | false ↦ λ rest. any xs rest
      ] many

-- REASONS

is_denial : (action : Action) → is_deny action ≡ true → action ≡ Deny
is_denial Allow so = absurd cc
is_denial Deny so = refl

module _ (c : Connection) (policies : List Authorization) where
  by_first : (a : Authorization) → First (denies c) policies a → Holds c policies (denied_by a.namespace a.name)
  by_first a is =
      let both = and_both (is_deny a.action) (fires c a) is.passes in
      record {
        front = is.front;
        policy = a;
        rest = is.rest;
        policies_are = is.is;
        none_before = is.none_before;
        action = is_denial a.action both.0;
        fires = both.1;
        namespace_is = refl;
        name_is = refl;
      }

  pub has_reason : admitted_by c policies ≡ false → Holds c policies (reason_in c policies)
  has_reason refused =
      elim (find (denies c) policies) as (λ o. find (denies c) policies ≡ o
      → Holds c policies (reason_by o (length (filter allows policies)))) [
        | Some a ↦ λ is. by_first a (first (denies c) policies a is)
        | None ↦ λ is.
            let none_denies = none (denies c) policies is in
            let left : (not (list_any allows policies) || list_any (λ a. allows a && fires c a) policies) ≡ false =
            ap (λ (b : Bool). not b && (not (list_any allows policies) || list_any (λ a. allows a && fires c a) policies))
            (sym none_denies) ∙ refused in
            let both = by_none (list_any allows policies) (list_any (λ a. allows a && fires c a) policies) left in
            record { none_denies = none_denies; none_fires = both.1; many_are = refl; some = some allows policies both.0 }
      ] refl

  denies_so : (namespace name : List ℕ) → (is : IsFirstDenial c policies namespace name) → denies c is.policy ≡ true
  denies_so namespace name is = ap₂ (λ (action : Action) (b : Bool). is_deny action && b) is.action is.fires

  pub deny : (r : Reason) → Holds c policies r → admitted_by c policies ≡ false
  deny (denied_by namespace name) is =
      let one : list_any (denies c) (is.front ++ is.policy ∷ is.rest) ≡ true =
      list_any-append (denies c) is.front (is.policy ∷ is.rest)
      ∙ ap₂ (λ (x y : Bool). x || (y || list_any (denies c) is.rest)) is.none_before (denies_so namespace name is) in
      let all : list_any (denies c) policies ≡ true = ap (list_any (denies c)) is.policies_are ∙ one in
      ap (λ (b : Bool). not b && (not (list_any allows policies) || list_any (λ a. allows a && fires c a) policies)) all
  deny (none_allows many) is =
      let guarded : list_any allows policies ≡ true = any allows policies (subst (λ (n : ℕ). 0 < n) (sym is.many_are) is.some) in
      ap (λ (b : Bool). not b && (not (list_any allows policies) || list_any (λ a. allows a && fires c a) policies)) is.none_denies
      ∙ ap₂ (λ (x y : Bool). not x || y) guarded is.none_fires

  pub alone : (r : Reason) → Holds c policies r → r ≡ reason_in c policies
  alone (denied_by namespace name) is =
      let at : find (denies c) policies ≡ Some is.policy =
      ap (find (denies c)) is.policies_are ∙ found (denies c) is.front is.policy is.rest is.none_before (denies_so namespace name is) in
      ap₂ denied_by (sym is.namespace_is) (sym is.name_is)
      ∙ ap (λ (o : Option Authorization). reason_by o (length (filter allows policies))) (sym at)
  alone (none_allows many) is =
      ap none_allows (sym is.many_are)
      ∙ ap (λ (o : Option Authorization). reason_by o (length (filter allows policies)))
      (sym (not_found (denies c) policies is.none_denies))

-- no more of those for a workload allow than are held
pub few_allow : (h : Resources) (w : Workload) → length (filter allows (policies_for h w)) ≤ count h
few_allow h w =
    let those = few allows (policies_for h w) in
    let of_all = few (is_for w) (map (λ (e : List ℕ × Versioned Authorization). e.1.content) (entries h.policies)) in
    let all = length-map (entries h.policies) (λ (e : List ℕ × Versioned Authorization). e.1.content) in
    let held = len-entries h.policies in
    omega (arith, those, of_all, all, held)

-- one more does
pub one_allows : (a : Authorization) (policies : List Authorization) → allows a ≡ true
    → length (filter allows (a ∷ policies)) ≡ length (filter allows policies) + 1
one_allows a policies so = ap (λ (b : Bool). length (cond b (a ∷ filter allows policies) (filter allows policies))) so ∙ omega arith

module _ (h : Resources) (peer : Peer) (target : Target) where
  abbrev connection : Connection
  connection = record { peer = peer; target = target }

  refused : (b : Bool) → (if b then Admitted else Denied) ≡ Denied → b ≡ false
  refused true so = absurd cc
  refused false so = refl

  pub denied_has : judged h peer target ≡ Denied → (r : Reason) × (denial h peer target ≡ Some r) × HasReason h peer target r
  denied_has denied =
      elim (known h target.ip) as (λ o. known h target.ip ≡ o → judged_at h o connection ≡ Denied
      → (r : Reason) × (denial h peer target ≡ Some r) × HasReason h peer target r) [
        | None ↦ λ is so. absurd cc
        | Some e ↦ λ is so. (
          reason_in connection (policies_for h e.1),
          ap₂ (λ (j : Judged) (o : Option (List ℕ × Workload)). denial_by j o h connection) denied is,
          record {
            found = e;
            known_is = is;
            holds = has_reason connection (policies_for h e.1) (refused (admitted_by connection (policies_for h e.1)) so);
          },
        )
      ] refl denied

  pub judged_so : (r : Reason) → denial h peer target ≡ Some r → judged h peer target ≡ Denied
  judged_so r is =
      elim (judged h peer target) as (λ j. denial_by j (known h target.ip) h connection ≡ Some r → j ≡ Denied) [
        | Admitted ↦ λ same. absurd cc
        | Unknown ↦ λ same. absurd cc
        | Denied ↦ λ same. refl
      ] is
