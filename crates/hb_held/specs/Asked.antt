-- The names of policies that a workload may ask for, which the index finds.
use Rattle.std.specs.Prelude.{ℕ, Bool, if◌then◌else◌, List, [], ◌∷◌, Option, Some, None}
use Rattle.std.specs.List.{list_any}
use Rattle.std.specs.Cmp.Lexicographic.{slice_cmp}
use Rattle.std.specs.Ordering.{nat_cmp, is_lt}
use Rattle.hb_index.specs.Indexed.{has_number}
use Rattle.hb_index.specs.Named.{Named}
use Rattle.hb_records.specs.declared.authorization.Authorization.{Authorization}
use Rattle.hb_records.specs.declared.workload.Workload.{Workload}
use Rattle.hb_held.specs.declared.versioned.Versioned.{Versioned}
use Rattle.hb_held.specs.Numbers.{text_number, policy_numbers}

-- the keys by which a workload asks for policies
abbrev pub keys_for : Workload → List (List ℕ)
keys_for w = [] ∷ w.namespace ∷ w.authorization_policies

-- what stands under a name has the number of one of these keys
abbrev pub has_key : Named (Versioned Authorization) → List (List ℕ) → List ℕ → Bool
has_key m keys name = list_any (λ key. has_number policy_numbers m (text_number key) name) keys

-- the workload may ask for what stands under a name
abbrev pub asks_for : Workload → Named (Versioned Authorization) → List ℕ → Bool
asks_for w m name = has_key m (keys_for w) name

-- the one of two names that goes first, by bytes
abbrev pub lesser_name : Option (List ℕ) → Option (List ℕ) → Option (List ℕ)
lesser_name None b = b
lesser_name (Some a) None = Some a
lesser_name (Some a) (Some b) = if is_lt (slice_cmp nat_cmp b a) then Some b else Some a
