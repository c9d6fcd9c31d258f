-- The workloads that serve a service.
use Rattle.std.specs.Prelude.{◌≡◌, ℕ, Bool, ◌&&◌, List, [], ◌∷◌, ◌++◌, filter, Option, Some, None}
use Rattle.std.specs.FinMap.{get}
use Rattle.std.specs.List.{list_any, filter_map}
use Rattle.std.specs.Option.{option_map}
use Rattle.std.specs.Str.{bytes_eq}
use Rattle.hb_index.specs.Named.{Named}
use Rattle.hb_records.specs.declared.address.AddressRecord.{AddressRecord}
use Rattle.hb_records.specs.declared.workload.Workload.{Workload}
use Rattle.hb_held.specs.declared.endpoints.Endpoints.{Endpoints}
use Rattle.hb_held.specs.declared.versioned.Versioned.{Versioned}
use Rattle.hb_held.specs.Held.{Resources}
use Rattle.hb_held.specs.Lookup.{workloads, workload_in, found_by}

-- the key by which a workload names a service, and by which it asks for a policy: namespace and name, joined by a slash
abbrev pub joined : List ℕ → List ℕ → List ℕ
joined namespace name = namespace ++ (47 ∷ []) ++ name

-- a workload of this network serves the service
abbrev pub serves : List ℕ → List ℕ → List ℕ → Workload → Bool
serves network namespace hostname w =
    bytes_eq w.network network && list_any (λ s. bytes_eq s.key (joined namespace hostname)) w.services

-- the workloads of this network that serve the service, by their resources' names
abbrev pub endpoints : Resources → List ℕ → List ℕ → List (List ℕ × Workload)
endpoints h namespace hostname = filter (λ e. serves h.network namespace hostname e.1) (workloads h)

-- the names that an iterator has not looked at
abbrev pub entries_left : Option (List (List ℕ × Unit {0})) → List (List ℕ × Unit {0})
entries_left None = []
entries_left (Some es) = es

-- the first of some names was taken; none exactly where there was none
abbrev pub TakesNext : List (List ℕ × Unit {0}) → List (List ℕ × Unit {0}) → Option (List ℕ) → Type 0
TakesNext before after None = (before ≡ []) × (after ≡ [])
TakesNext before after (Some name) = before ≡ (name, tt) ∷ after

-- the workload under a name, where it passes, with its name
abbrev pub endpoint_at : Named (Versioned AddressRecord) → (Workload → Bool) → List ℕ × Unit {0} → Option (List ℕ × Workload)
endpoint_at m passes e = option_map (λ w. (e.0, w)) (found_by workload_in passes (get m e.0))

-- of these names the workloads that pass
abbrev pub endpoints_at : Named (Versioned AddressRecord) → (Workload → Bool) → List (List ℕ × Unit {0}) → List (List ℕ × Workload)
endpoints_at m passes es = filter_map (endpoint_at m passes) es

-- those that an iterator has still to give
abbrev pub endpoints_left : Endpoints → List (List ℕ × Workload)
endpoints_left s = endpoints_at s.addresses.now (serves s.network.now s.namespace.now s.hostname.now) (entries_left s.names)
