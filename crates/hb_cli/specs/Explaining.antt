-- What `check --explain` prints decides its answer.
use Rattle.std.specs.Prelude.{⊤, ◌≡◌, ◌↔◌, ℕ, suc, Bool, true, false, IsTrue, not, ◌&&◌, ◌||◌, nat_eq, List, [], ◌∷◌, map, take, drop}
use Rattle.std.specs.Prelude.{slice_get, Option, Some, None, option_map, codes}
use Rattle.std.specs.List.{list_any, starts_with}
use Rattle.hb_held.specs.Held.{Resources}
use Rattle.hb_held.specs.Lookup.{known}
use Rattle.hb_held.specs.Policies.{policies_for}
use Rattle.hb_lines.specs.Explained.{explained_text}
use Rattle.hb_policy.specs.Connection.{Connection}
use Rattle.hb_policy.specs.Policy.{rule_met, first_rule}
use Rattle.hb_records.specs.declared.authorization.Authorization.{Authorization}
use Rattle.hb_records.specs.declared.workload.Workload.{Workload}
use Rattle.hb_table.specs.Judgement.{judged}
use Rattle.hb_table.specs.declared.judgement.Judged.TheVariants.{Admitted}
use Rattle.hb_cli.specs.Judge.{policy_line}

-- how lines begin: of a policy that denies and fires, of one that allows, and of one that allows and fires
abbrev pub denies : List ℕ → Bool
denies line = starts_with nat_eq line (codes "{\"action\":\"deny\",\"fires\":true,")

abbrev pub may_allow : List ℕ → Bool
may_allow line = starts_with nat_eq line (codes "{\"action\":\"allow\",")

abbrev pub allows : List ℕ → Bool
allows line = starts_with nat_eq line (codes "{\"action\":\"allow\",\"fires\":true,")

-- what lines decide: none denies, and there is none that may allow or one allows
abbrev pub admits : List (List ℕ) → Bool
admits lines = not (list_any denies lines) && (not (list_any may_allow lines) || list_any allows lines)

-- the first that passes is the one at this place, or none passes
abbrev pub IsFirst : {X : Type 0} → (X → Bool) → List X → Option ℕ → Type 0
IsFirst p xs None = list_any p xs ≡ false
IsFirst p xs (Some n) = (list_any p (take n xs) ≡ false) × (option_map p (slice_get xs n) ≡ Some true)

-- the line of a policy, by the first of its rules that the connection meets
abbrev pub Tells : Connection → Authorization → List ℕ → Type 0
Tells c a line = (rule : Option ℕ) × IsFirst (rule_met c) a.rules rule × (line ≡ explained_text a rule)

-- a line of each policy, in their order, and no other
abbrev pub TellsEach : Connection → List Authorization → List (List ℕ) → Type 0
TellsEach c [] [] = ⊤
TellsEach c (a ∷ policies) (line ∷ lines) = Tells c a line × TellsEach c policies lines
TellsEach c _ _ = ⊥

-- the lines of a connection, by the policies that count
abbrev pub Lines : Type 0
Lines = Connection → List Authorization → List (List ℕ)

-- Lines explain the answer: they tell each policy that counts, and the peer is admitted exactly where they decide so
pub record Explains (lines : Lines) : Type 0 where
  pub tells : (c : Connection) (policies : List Authorization) → TellsEach c policies (lines c policies)
  pub decides : (h : Resources) (c : Connection) (e : List ℕ × Workload) → known h c.target.ip ≡ Some e
      → (judged h c.peer c.target ≡ Admitted) ↔ IsTrue (admits (lines c (policies_for h e.1)))

-- those that `check --explain` prints; and two that explain nothing: each rule is told as the one behind it; the first policy is left out
abbrev pub told_lines : Lines
told_lines c policies = map (policy_line c) policies

abbrev pub by_next_rule : Lines
by_next_rule c policies = map (λ a. explained_text a (option_map suc (first_rule c a))) policies

abbrev pub all_but_first : Lines
all_but_first c policies = drop 1 (told_lines c policies)
