-- Which workload and which service have an address.
use Rattle.std.specs.Prelude.{ℕ, Bool, false, ◌==◌, ◌&&◌, if◌then◌else◌, List, [], ◌∷◌, filter, Option, Some, None, option_and_then}
use Rattle.std.specs.Option.{option_map}
use Rattle.std.specs.List.{list_any, filter_map}
use Rattle.std.specs.Cmp.Lexicographic.{slice_cmp}
use Rattle.std.specs.Ordering.{nat_cmp, is_lt}
use Rattle.std.specs.Str.{bytes_eq}
use Rattle.std.specs.FinMap.{entries}
use Rattle.hb_base.specs.declared.ip.Ip.{Ip}
use Rattle.hb_base.specs.declared.ip.Ip.TheVariants as ips
use Rattle.hb_records.specs.declared.address.AddressRecord.{AddressRecord}
use Rattle.hb_records.specs.declared.address.AddressRecord.TheVariants as addresses
use Rattle.hb_records.specs.declared.network_address.NetworkAddress.{NetworkAddress}
use Rattle.hb_records.specs.declared.service.Service.{Service}
use Rattle.hb_records.specs.declared.workload.Workload.{Workload}
use Rattle.hb_held.specs.declared.versioned.Versioned.{Versioned}
use Rattle.hb_held.specs.declared.found.Found.{Found}
use Rattle.hb_held.specs.declared.found.FoundService.{FoundService}
use Rattle.hb_held.specs.Held.{Resources}

-- the workload of an address record, and the service
abbrev pub workload_of : AddressRecord → Option Workload
workload_of (addresses.Workload w) = Some w
workload_of (addresses.Service s) = None

abbrev pub service_of : AddressRecord → Option Service
service_of (addresses.Workload w) = None
service_of (addresses.Service s) = Some s

abbrev pub workload_in : Versioned AddressRecord → Option Workload
workload_in v = workload_of v.content

abbrev pub service_in : Versioned AddressRecord → Option Service
service_in v = service_of v.content

-- a value, where it passes
abbrev pub kept_if : {X : Type 0} → (X → Bool) → Option X → Option X
kept_if p None = None
kept_if p (Some x) = if p x then Some x else None

-- what g finds in what stands there, where it passes
abbrev pub found_by : {X : Type 0} → (Versioned AddressRecord → Option X) → (X → Bool) → Option (Versioned AddressRecord) → Option X
found_by g p None = None
found_by g p (Some v) = kept_if p (g v)

-- the workload of what is held under a name, with this name, and the service
abbrev pub named_workload : List ℕ × Versioned AddressRecord → Option (List ℕ × Workload)
named_workload e = option_map (λ w. (e.0, w)) (workload_of e.1.content)

abbrev pub named_service : List ℕ × Versioned AddressRecord → Option (List ℕ × Service)
named_service e = option_map (λ s. (e.0, s)) (service_of e.1.content)

-- the workloads held, by their resources' names, and the services
abbrev pub workloads : Resources → List (List ℕ × Workload)
workloads h = filter_map named_workload (entries h.addresses)

abbrev pub services : Resources → List (List ℕ × Service)
services h = filter_map named_service (entries h.addresses)

abbrev pub ip_eq : Ip → Ip → Bool
ip_eq (ips.V4 a) (ips.V4 b) = a == b
ip_eq (ips.V4 a) (ips.V6 b) = false
ip_eq (ips.V6 a) (ips.V4 b) = false
ip_eq (ips.V6 a) (ips.V6 b) = a == b

-- a workload of this network has the address
abbrev pub has_address : List ℕ → Ip → Workload → Bool
has_address network ip w = bytes_eq w.network network && list_any (λ a. ip_eq a ip) w.addresses

-- an address is this one of this network
abbrev pub is_address : List ℕ → Ip → NetworkAddress → Bool
is_address network ip a = bytes_eq a.network network && ip_eq a.address ip

-- one of a service's addresses is this one of this network
abbrev pub serves_at : List ℕ → Ip → Service → Bool
serves_at network ip s = list_any (is_address network ip) s.addresses

-- the one of the smaller name, by its bytes
abbrev pub lesser : {X : Type 0} → List ℕ × X → Option (List ℕ × X) → List ℕ × X
lesser e None = e
lesser e (Some other) = if is_lt (slice_cmp nat_cmp other.0 e.0) then other else e

-- the one of the smallest name
abbrev pub least : {X : Type 0} → List (List ℕ × X) → Option (List ℕ × X)
least [] = None
least (e ∷ es) = Some (lesser e (least es))

-- of the workloads of this network with the address, the one of the smallest resource name
unfoldable pub workload_at : Resources → Ip → Option (List ℕ × Workload)
workload_at h ip = least (filter (λ e. has_address h.network ip e.1) (workloads h))

-- the same, where its node is this node
abbrev pub known : Resources → Ip → Option (List ℕ × Workload)
known h ip = option_and_then (λ e. if bytes_eq e.1.node h.node then Some e else None) (workload_at h ip)

-- of the services with the address in this network, the one of the smallest resource name
unfoldable pub service_at : Resources → Ip → Option (List ℕ × Service)
service_at h ip = least (filter (λ e. serves_at h.network ip e.1) (services h))

-- what was found, by value
abbrev pub found_as : Found → List ℕ × Workload
found_as f = (f.name.now, f.workload.now)

abbrev pub found_service_as : FoundService → List ℕ × Service
found_service_as f = (f.name.now, f.service.now)
