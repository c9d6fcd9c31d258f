-- Which policies are for a workload.
use Rattle.std.specs.Prelude.{ℕ, Bool, true, if◌then◌else◌, List, [], filter, map, Option, Some, None}
use Rattle.std.specs.List.{list_any}
use Rattle.std.specs.Option.{option_copied}
use Rattle.std.specs.Str.{bytes_eq}
use Rattle.std.specs.FinMap.{entries}
use Rattle.hb_index.specs.Named.{is_behind}
use Rattle.hb_records.specs.declared.authorization.Reach.{Reach}
use Rattle.hb_records.specs.declared.authorization.Reach.TheVariants.{Global, Namespace, Selector}
use Rattle.hb_records.specs.declared.authorization.Authorization.{Authorization}
use Rattle.hb_records.specs.declared.workload.Workload.{Workload}
use Rattle.hb_held.specs.declared.versioned.Versioned.{Versioned}
use Rattle.hb_held.specs.declared.policies.Policies.{Policies}
use Rattle.hb_held.specs.Held.{Resources}
use Rattle.hb_held.specs.Endpoints.{joined}

-- the name by which a workload asks for a policy
abbrev pub selector_name : Authorization → List ℕ
selector_name a = joined a.namespace a.name

-- a policy of this reach is for a workload
abbrev pub reaches : Reach → Authorization → Workload → Bool
reaches Global a w = true
reaches Namespace a w = bytes_eq a.namespace w.namespace
reaches Selector a w = list_any (λ name. bytes_eq name (selector_name a)) w.authorization_policies

-- a policy is for a workload: for all; for those of its namespace; for those that ask for it
abbrev pub is_for : Workload → Authorization → Bool
is_for w a = reaches a.scope a w

-- the key by which workloads ask for a policy; all ask by the empty one
abbrev pub key_of : Reach → Authorization → List ℕ
key_of Global a = []
key_of Namespace a = a.namespace
key_of Selector a = selector_name a

abbrev pub policy_key : Authorization → List ℕ
policy_key a = key_of a.scope a

-- what stands under a name, where it is for a workload
abbrev pub policy_for : Workload → Option (Versioned Authorization) → Option Authorization
policy_for w None = None
policy_for w (Some v) = if is_for w v.content then Some v.content else None

-- of policies under names the ones that are for a workload
abbrev pub policies_in : List (List ℕ × Versioned Authorization) → Workload → List Authorization
policies_in es w = filter (is_for w) (map (λ e. e.1.content) es)

-- the policies held that are for a workload, by their resources' names
abbrev pub policies_for : Resources → Workload → List Authorization
policies_for h w = policies_in (entries h.policies) w

-- those that an iterator has still to give: those behind the name that it looked at last
abbrev pub policies_left : Policies → List Authorization
policies_left s = policies_in (filter (λ e. is_behind (option_copied s.last) e.0) (entries s.policies.now.now)) s.workload.now
