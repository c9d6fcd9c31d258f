-- The lines that `check --explain` prints tell each policy, and decide the answer.
use Rattle.std.proofs.Common.{◌≡◌, ℕ, ◌+◌, zero, suc, Bool, true, false, true≢false, cond, nat_eq, not, ◌&&◌, ◌||◌, length, List, []}
use Rattle.std.proofs.Common.{◌∷◌, map, Option, Some, None, option_map, is_some, codes, refl, sym, ap, ap₂, subst, ◌∙◌, arith}
use Rattle.std.specs.Prelude.{◌↔◌, IsTrue, nat_lt, if◌then◌else◌}
use Rattle.std.specs.Fmt.{digits}
use Rattle.std.specs.List.{list_any, position, position_or_len, starts_with}
use Rattle.std.proofs.lemmas.Bool.Decides.{nat_tests}
use Rattle.hb_base.specs.declared.ip.Ip.TheVariants.{V4}
use Rattle.hb_held.specs.Held.{Resources}
use Rattle.hb_held.specs.Lookup.{known}
use Rattle.hb_held.specs.Policies.{policies_for}
use Rattle.json.specs.Print.{escape_byte}
use Rattle.hb_lines.specs.Explained.{explained_text}
use Rattle.hb_policy.specs.Connection.{Connection}
use Rattle.hb_policy.specs.Policy.{rule_met, fires, first_rule, is_deny, admitted_by}
use Rattle.hb_records.specs.declared.authorization.Action.{Action}
use Rattle.hb_records.specs.declared.authorization.Action.TheVariants.{Allow, Deny}
use Rattle.hb_records.specs.declared.authorization.Authorization.{Authorization}
use Rattle.hb_records.specs.declared.authorization.Reach.TheVariants.{Global}
use Rattle.hb_records.specs.declared.workload.Workload.{Workload}
use Rattle.hb_table.specs.declared.judgement.Judged.{Judged}
use Rattle.hb_table.specs.declared.judgement.Judged.TheVariants.{Admitted, Denied}
use Rattle.hb_table.specs.Judgement.{judged, judged_at}
use Rattle.hb_cli.specs.Judge.{policy_line}
use Rattle.hb_cli.specs.Explaining.{denies, may_allow, allows, admits, IsFirst, TellsEach, Explains, told_lines, by_next_rule}
use Rattle.hb_cli.specs.Explaining.{all_but_first}

-- ---- the first that passes

module _ {X : Type 0} (p : X → Bool) where
  -- the place in a list is that of its first item, or one more than in the others
  position_step : (x : X) (xs : List X) → position p (x ∷ xs) ≡ cond (p x) (Some 0) (option_map suc (position p xs))
  position_step x xs = by (p x) (position_or_len p xs) (length xs) where
    by : (b : Bool) (at len : ℕ)
        → cond (nat_lt (cond (not b) (1 + at) 0) (suc len)) (Some (cond (not b) (1 + at) 0)) None
        ≡ cond b (Some 0) (option_map suc (cond (nat_lt at len) (Some at) None))
    by true at len = grind (arith, nat_tests)
    by false at len = grind (arith, nat_tests)

  first_behind : (x : X) (xs : List X) (o : Option ℕ) → p x ≡ false → IsFirst p xs o → IsFirst p (x ∷ xs) (option_map suc o)
  first_behind x xs None fails first = rw fails first
  first_behind x xs (Some n) fails first = (rw fails first.0, first.1)

  first_is : (xs : List X) → IsFirst p xs (position p xs)
  first_is [] = refl
  first_is (x ∷ xs) = subst (IsFirst p (x ∷ xs)) (sym (position_step x xs)) (by (p x) refl (first_is xs)) where
    by : (b : Bool) → p x ≡ b → IsFirst p xs (position p xs) → IsFirst p (x ∷ xs) (cond b (Some 0) (option_map suc (position p xs)))
    by true passes first = (refl, ap Some passes)
    by false fails first = first_behind x xs (position p xs) fails first

  -- some place is found where one passes
  found_is : (xs : List X) → is_some (position p xs) ≡ list_any p xs
  found_is [] = refl
  found_is (x ∷ xs) = ap is_some (position_step x xs) ∙ by (p x) (position p xs) (found_is xs) where
    by : (b : Bool) (o : Option ℕ) → is_some o ≡ list_any p xs
        → is_some (cond b (Some 0) (option_map suc o)) ≡ (b || list_any p xs)
    by true o found = refl
    by false None found = found
    by false (Some n) found = found

-- ---- what the lines tell

tells_each : (c : Connection) (policies : List Authorization) → TellsEach c policies (told_lines c policies)
tells_each c [] = tt
tells_each c (a ∷ policies) = ((first_rule c a, first_is (rule_met c) a.rules, refl), tells_each c policies)

-- how the line of a policy begins
module _ (a : Authorization) where
  line_denies : (action : Action) (rule : Option ℕ) → a.action ≡ action
      → denies (explained_text a rule) ≡ (is_deny action && is_some rule)
  unfolding explained_text escape_byte
  line_denies Allow None is = rw is refl
  line_denies Allow (Some n) is = rw is refl
  line_denies Deny None is = rw is refl
  line_denies Deny (Some n) is = rw is refl

  line_may_allow : (action : Action) (rule : Option ℕ) → a.action ≡ action → may_allow (explained_text a rule) ≡ not (is_deny action)
  unfolding explained_text escape_byte
  line_may_allow Allow None is = rw is refl
  line_may_allow Allow (Some n) is = rw is refl
  line_may_allow Deny None is = rw is refl
  line_may_allow Deny (Some n) is = rw is refl

  line_allows : (action : Action) (rule : Option ℕ) → a.action ≡ action
      → allows (explained_text a rule) ≡ (not (is_deny action) && is_some rule)
  unfolding explained_text escape_byte
  line_allows Allow None is = rw is refl
  line_allows Allow (Some n) is = rw is refl
  line_allows Deny None is = rw is refl
  line_allows Deny (Some n) is = rw is refl

any_alike : {X Y : Type 0} (p : Y → Bool) (f : X → Y) (q : X → Bool) → ((x : X) → p (f x) ≡ q x) → (xs : List X)
    → list_any p (map f xs) ≡ list_any q xs
any_alike p f q same [] = refl
any_alike p f q same (x ∷ xs) = ap₂ (λ (a b : Bool). a || b) (same x) (any_alike p f q same xs)

-- the lines decide as the policies do
module _ (c : Connection) where
  fires_by : (a : Authorization) → is_some (first_rule c a) ≡ fires c a
  fires_by a = found_is (rule_met c) a.rules

  admits_as : (policies : List Authorization) → admits (told_lines c policies) ≡ admitted_by c policies
  admits_as policies =
      let deny = any_alike denies (policy_line c) (λ a. is_deny a.action && fires c a)
      (λ a. line_denies a a.action (first_rule c a) refl ∙ ap (λ b. is_deny a.action && b) (fires_by a)) policies in
      let may = any_alike may_allow (policy_line c) (λ a. not (is_deny a.action))
      (λ a. line_may_allow a a.action (first_rule c a) refl) policies in
      let allow = any_alike allows (policy_line c) (λ a. not (is_deny a.action) && fires c a)
      (λ a. line_allows a a.action (first_rule c a) refl ∙ ap (λ b. not (is_deny a.action) && b) (fires_by a)) policies in
      rw (deny, may, allow) refl

  is_admitted : (b : Bool) → ((if b then Admitted else Denied) ≡ Admitted) ↔ IsTrue b
  is_admitted true = (λ _. refl, λ _. refl)
  is_admitted false = (λ is. absurd cc, λ is. absurd cc)

  decides : (h : Resources) (e : List ℕ × Workload) → known h c.target.ip ≡ Some e
      → (judged h c.peer c.target ≡ Admitted) ↔ IsTrue (admits (told_lines c (policies_for h e.1)))
  decides h e is =
      let same : judged h c.peer c.target ≡ (if admitted_by c (policies_for h e.1) then Admitted else Denied) =
      ap (λ found. judged_at h found c) is in
      subst (λ (j : Judged). (j ≡ Admitted) ↔ IsTrue (admits (told_lines c (policies_for h e.1)))) (sym same)
      (subst (λ (b : Bool). ((if admitted_by c (policies_for h e.1) then Admitted else Denied) ≡ Admitted) ↔ IsTrue b)
      (sym (admits_as (policies_for h e.1))) (is_admitted (admitted_by c (policies_for h e.1))))

pub explains : Explains told_lines
explains = record { tells = tells_each; decides = λ h c e is. decides c h e is }

-- ---- lines that explain nothing

-- a connection, and a policy with one rule, which any connection meets
abbrev someone : Connection
someone = record { peer = record { ip = V4 0; identity = None }; target = record { ip = V4 0; port = 80 } }

abbrev anyone : Authorization
anyone = record { name = []; namespace = []; scope = Global; action = Deny; rules = record { clauses = [] } ∷ [] }

pub fewer_explain_nothing : Explains all_but_first → ⊥
fewer_explain_nothing explains = explains.tells someone (anyone ∷ [])

told_by_next : (rule : Option ℕ) → IsFirst (rule_met someone) anyone.rules rule
    → explained_text anyone (Some 1) ≡ explained_text anyone rule
    → ⊥
unfolding explained_text escape_byte digits
told_by_next None first is = true≢false first
told_by_next (Some zero) first is =
    true≢false (ap (λ line. starts_with nat_eq line (codes "{\"action\":\"deny\",\"fires\":true,\"policy\":\"/\",\"rule\":1")) is)
told_by_next (Some (suc n)) first is = true≢false first.0

pub next_explains_nothing : Explains by_next_rule → ⊥
next_explains_nothing explains = let told = (explains.tells someone (anyone ∷ [])).0 in told_by_next told.0 told.1 told.2
