-- What a response leaves of the resources held, and what it tells: removals go first, then its resources, in order.
use Rattle.std.specs.Prelude.{◌≡◌, ℕ, ◌==◌, List, [], ◌∷◌, ◌++◌, length, map, take, Result, Ok, Err, if◌then◌else◌, ◌⊎◌}
use Rattle.std.specs.Result.{result_unwrap_or}
use Rattle.std.specs.Str.{bytes_eq}
use Rattle.hb_base.specs.declared.or.Or.{Or}
use Rattle.hb_base.specs.declared.or.Or.TheVariants.{Fault, NoMemory}
use Rattle.hb_disco.specs.Kind.{type_url}
use Rattle.hb_disco.specs.declared.kind.Kind.{Kind}
use Rattle.hb_disco.specs.declared.kind.Kind.TheVariants.{Address, Authorization}
use Rattle.hb_disco.specs.declared.response.Resource.{Resource}
use Rattle.hb_disco.specs.declared.response.Response.{Response}
use Rattle.hb_records.specs.declared.fault.RecordFault.{RecordFault}
use Rattle.hb_records.specs.declared.address.AddressRecord.{AddressRecord}
use Rattle.hb_records.specs.declared.authorization.Authorization.{Authorization as Policy}
use Rattle.hb_records.specs.Address.{address_of}
use Rattle.hb_records.specs.Authorization.{authorization_of}
use Rattle.hb_held.specs.declared.outcome.Changed.{Changed}
use Rattle.hb_held.specs.declared.outcome.Outcome.{Outcome}
use Rattle.hb_held.specs.declared.outcome.Refusal.{Refusal}
use Rattle.hb_held.specs.declared.outcome.RefusedWhy.{RefusedWhy}
use Rattle.hb_held.specs.declared.outcome.RefusedWhy.TheVariants.{NoName, WrongType, Record, Full}
use Rattle.hb_held.specs.Held.{Resources, holds, fits, begun, without, with_address, with_policy, with_came}

-- a resource is refused for the fault of its record
abbrev pub refusing : Or RecordFault → Or RefusedWhy
refusing (Fault fault) = Fault (Record fault)
refusing NoMemory = NoMemory

-- what is held with the record that was read of a resource, or why it is refused
abbrev pub with_read_address : Resources → Resource → Result AddressRecord RecordFault → Result Resources RefusedWhy
with_read_address h r (Err fault) = Err (Record fault)
with_read_address h r (Ok a) = if fits h Address r.name then Ok (with_address h r.name r.version a) else Err Full

abbrev pub with_read_policy : Resources → Resource → Result Policy RecordFault → Result Resources RefusedWhy
with_read_policy h r (Err fault) = Err (Record fault)
with_read_policy h r (Ok p) = if fits h Authorization r.name then Ok (with_policy h r.name r.version p) else Err Full

-- what is held with the record of a resource, which is one of this kind
abbrev pub with_record : Resources → Kind → Resource → Result Resources RefusedWhy
with_record h Address r = with_read_address h r (address_of r.value)
with_record h Authorization r = with_read_policy h r (authorization_of r.value)

-- what is held with a resource of a response of this kind, or why it is refused: the first reason that applies
unfoldable pub with_resource : Resources → Kind → Resource → Result Resources RefusedWhy
with_resource h kind r =
    if length r.name == 0 then Err NoName
    else (if bytes_eq r.type_url (type_url kind) then with_record h kind r else Err WrongType)

-- a refused resource leaves what is held
abbrev pub after_resource : Resources → Kind → Resource → Resources
after_resource h kind r = result_unwrap_or (with_resource h kind r) h

-- what is held after some names are removed, and after some resources, in order
abbrev pub after_removals : Resources → Kind → List (List ℕ) → Resources
after_removals h kind [] = h
after_removals h kind (name ∷ names) = after_removals (without h kind name) kind names

abbrev pub after_resources : Resources → Kind → List Resource → Resources
after_resources h kind [] = h
after_resources h kind (r ∷ rs) = after_resources (after_resource h kind r) kind rs

-- the name, where it is held
abbrev pub removed_name : Resources → Kind → List ℕ → List (List ℕ)
removed_name h kind name = if holds h kind name then name ∷ [] else []

-- of some names the ones that are held when their turn comes to be removed
abbrev pub removed_names : Resources → Kind → List (List ℕ) → List (List ℕ)
removed_names h kind [] = []
removed_names h kind (name ∷ names) = removed_name h kind name ++ removed_names (without h kind name) kind names

-- the name of a resource that isn't refused, and the refusal of one that is
abbrev pub applied_as : Resource → Result Resources RefusedWhy → List (List ℕ)
applied_as r (Ok next) = r.name ∷ []
applied_as r (Err why) = []

abbrev pub refused_for : Resource → Result Resources RefusedWhy → List Refusal
refused_for r (Ok next) = []
refused_for r (Err why) = record { name = r.name; why = why } ∷ []

-- the names of the resources that aren't refused, and the refusals of those that are, in order
abbrev pub applied_names : Resources → Kind → List Resource → List (List ℕ)
applied_names h kind [] = []
applied_names h kind (r ∷ rs) = applied_as r (with_resource h kind r) ++ applied_names (after_resource h kind r) kind rs

abbrev pub refusals : Resources → Kind → List Resource → List Refusal
refusals h kind [] = []
refusals h kind (r ∷ rs) = refused_for r (with_resource h kind r) ++ refusals (after_resource h kind r) kind rs

abbrev pub changes : Kind → List (List ℕ) → List Changed
changes kind names = map (λ name. record { kind = kind; name = name }) names

-- what is held after a response
abbrev pub after_response : Resources → Response → Resources
after_response h r = with_came (after_resources (after_removals (begun h) r.kind r.removed) r.kind r.resources) r.kind

-- what a response tells
abbrev pub outcome_at : Resources → List (List ℕ) → Response → Outcome
outcome_at h removed r =
    record {
      refused = refusals h r.kind r.resources;
      changed = changes r.kind removed ++ changes r.kind (applied_names h r.kind r.resources);
      applied = length (applied_names h r.kind r.resources);
      removed = length removed;
    }

abbrev pub outcome_of : Resources → Response → Outcome
outcome_of h r = outcome_at (after_removals (begun h) r.kind r.removed) (removed_names (begun h) r.kind r.removed) r

-- h' is what h becomes by some first names of those to be removed
abbrev pub AfterSomeRemovals : Resources → Kind → List (List ℕ) → Resources → Type 0
AfterSomeRemovals h kind names h' = (n : ℕ) × (h' ≡ after_removals h kind (take n names))

-- h' is what h becomes by some first resources
abbrev pub AfterSomeResources : Resources → Kind → List Resource → Resources → Type 0
AfterSomeResources h kind rs h' = (n : ℕ) × (h' ≡ after_resources h kind (take n rs))

-- h' is what h becomes by a front of a response's changes: by some first removals, or by all of these and some first
-- resources
abbrev pub AfterFront : Resources → Response → Resources → Type 0
AfterFront h r h' =
    AfterSomeRemovals (begun h) r.kind r.removed h'
    ⊎ AfterSomeResources (after_removals (begun h) r.kind r.removed) r.kind r.resources h'
