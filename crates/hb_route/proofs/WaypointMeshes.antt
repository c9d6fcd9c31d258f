-- The ways through small meshes with waypoints, computed.
use Rattle.std.proofs.Common.{◌≡◌, ℕ, List, [], ◌∷◌, Some, Option, None, refl, sym, ap, ◌∙◌, ◌+◌, codes, map, arith}
use Rattle.std.specs.Cmp.Lexicographic.{nat_list_cmp_total}
use Rattle.std.specs.FinMap.{entries, entries-from_sorted, empty, insert, get, get-insert}
use Rattle.hb_index.proofs.Entries.{by_bytes}
use Rattle.hb_held.specs.Lookup.{workload_at, service_at}
use Rattle.hb_held.specs.Numbers.{number_of}
use Rattle.hb_held.specs.declared.versioned.Versioned.{Versioned}
use Rattle.hb_records.specs.declared.address.AddressRecord.{AddressRecord}
use Rattle.hb_records.specs.declared.address.AddressRecord.TheVariants as records
use Rattle.hb_records.specs.declared.gateway.GatewayAddress.{GatewayAddress}
use Rattle.hb_records.specs.declared.service.Service.{Service}
use Rattle.hb_records.specs.declared.workload.Workload.{Workload}
use Rattle.hb_route.specs.Answer.{Way, by_gateway, straight, no_way}
use Rattle.hb_route.specs.Laws.{w9, u1, web, sick}
use Rattle.hb_route.specs.WaypointLaws.{p1, p2, way_service, behind, passing, named, addressed}
use Rattle.hb_route.specs.WaypointLaws.{FewerIsGoneThrough, SmallerNameIsGoneThrough, ServiceIsGoneThrough, WorkloadIsGoneThrough, WorkloadIsBehindItsOwn}
use Rattle.hb_route.specs.WaypointLaws.{ServiceGoesWithoutWorkloads, WorkloadGoesWithoutServices, SickWaypointIsPassedOver, NoWaypointIsHealthy}
use Rattle.hb_route.specs.WaypointLaws.{WaypointsPortIsTooLarge, HostnameIsUnknown, AddressIsUnknown, NetworkIsAnother}
use Rattle.hb_route.specs.WaypointLaws.{WaypointIsPassedBy, SickWaypointIsPassedBy, SickWaypointIsGoneStraight, WaypointIsTheAuthority}
use Rattle.hb_route.specs.WaypointLaws.{NamedPortIsPassedBy, BusierIsGoneThrough, OtherNetworkIsGoneThrough, WorkloadsWaypointIsAsked, ServicesWaypointIsAsked}

abbrev listed : Workload → Workload → Workload → Service → List (List ℕ × Versioned AddressRecord)
listed one two target s =
    map (λ (r : List ℕ × AddressRecord). (r.0, record { version = codes "1"; content = r.1 }))
    ((codes "p1", records.Workload one) ∷ (codes "p2", records.Workload two) ∷ (codes "u1", records.Workload target)
    ∷ (codes "w9", records.Workload w9) ∷ (codes "way", records.Service way_service) ∷ (codes "web", records.Service s) ∷ [])

-- what a small mesh holds
abbrev are : (one two target : Workload) (s : Service) → entries (behind one two target s).addresses ≡ listed one two target s
are one two target s = entries-from_sorted by_bytes (listed one two target s) tt

-- what one holds with these waypoints
abbrev hold : (one two : Workload) (of_service of_workload : Option GatewayAddress)
    → entries (behind one two (record u1 { waypoint = of_workload }) (record web { waypoint = of_service })).addresses
    ≡ listed one two (record u1 { waypoint = of_workload }) (record web { waypoint = of_service })
hold one two of_service of_workload = are one two (record u1 { waypoint = of_workload }) (record web { waypoint = of_service })

of_p1 : (one two : ℕ) → get (passing one two) (codes "p1") ≡ Some one
of_p1 one two = get-insert nat_list_cmp_total (insert empty (codes "p2") two) (codes "p1") one (codes "p1")

of_p2 : (one two : ℕ) → get (passing one two) (codes "p2") ≡ Some two
of_p2 one two =
    get-insert nat_list_cmp_total (insert empty (codes "p2") two) (codes "p1") one (codes "p2")
    ∙ get-insert nat_list_cmp_total empty (codes "p2") two (codes "p2")

pub fewer : FewerIsGoneThrough
unfolding workload_at service_at
fewer = rw (hold p1 p2 (named (codes "way.a") 15009) None) (rw (hold p1 p2 (named (codes "way.a") 15009) None) (rw (of_p1 1 0) (rw (of_p2 1 0) refl)))

pub smaller_name : SmallerNameIsGoneThrough
unfolding workload_at service_at
smaller_name = rw (hold p1 p2 (named (codes "way.a") 0) None) (rw (hold p1 p2 (named (codes "way.a") 0) None) (rw (of_p1 1 1) (rw (of_p2 1 1) refl)))

pub by_service : ServiceIsGoneThrough
unfolding workload_at service_at
by_service = rw (hold p1 p2 (addressed (codes "net") 167837698) None) (rw (hold p1 p2 (addressed (codes "net") 167837698) None) (rw (hold p1 p2 (addressed (codes "net") 167837698) None) (rw (of_p1 1 0) (rw (of_p2 1 0) refl))))

pub by_workload : WorkloadIsGoneThrough
unfolding workload_at service_at
by_workload = rw (hold p1 p2 (addressed (codes "net") 167772177) None) (rw (hold p1 p2 (addressed (codes "net") 167772177) None) (rw (hold p1 p2 (addressed (codes "net") 167772177) None) refl))

pub its_own : WorkloadIsBehindItsOwn
unfolding workload_at service_at
its_own = rw (hold p1 p2 None (named (codes "way.a") 0)) (rw (hold p1 p2 None (named (codes "way.a") 0)) (rw (hold p1 p2 None (named (codes "way.a") 0)) (rw (of_p1 0 0) (rw (of_p2 0 0) refl))))

pub without_workloads : ServiceGoesWithoutWorkloads
unfolding workload_at service_at
without_workloads = rw (hold p1 p2 None (named (codes "way.a") 0)) (rw (hold p1 p2 None (named (codes "way.a") 0)) refl)

pub without_services : WorkloadGoesWithoutServices
unfolding workload_at service_at
without_services = rw (hold p1 p2 (named (codes "way.a") 0) None) (rw (hold p1 p2 (named (codes "way.a") 0) None) refl)

pub sick_passed_over : SickWaypointIsPassedOver
unfolding workload_at service_at
sick_passed_over = rw (hold (sick p1) p2 (named (codes "way.a") 0) None) (rw (hold (sick p1) p2 (named (codes "way.a") 0) None) refl)

pub none_healthy : NoWaypointIsHealthy
unfolding workload_at service_at
none_healthy = rw (hold (sick p1) (sick p2) (named (codes "way.a") 0) None) (rw (hold (sick p1) (sick p2) (named (codes "way.a") 0) None) refl)

pub port_too_large : WaypointsPortIsTooLarge
unfolding workload_at service_at
port_too_large = rw (hold p1 p2 (named (codes "way.a") 70000) None) (rw (hold p1 p2 (named (codes "way.a") 70000) None) refl)

pub hostname_unknown : HostnameIsUnknown
unfolding workload_at service_at
hostname_unknown = rw (hold p1 p2 (named (codes "far.a") 0) None) (rw (hold p1 p2 (named (codes "far.a") 0) None) refl)

pub address_unknown : AddressIsUnknown
unfolding workload_at service_at
address_unknown = rw (hold p1 p2 (addressed (codes "net") 167772179) None) (rw (hold p1 p2 (addressed (codes "net") 167772179) None) (rw (hold p1 p2 (addressed (codes "net") 167772179) None) refl))

pub another_network : NetworkIsAnother
unfolding workload_at service_at
another_network = rw (hold p1 p2 (addressed (codes "far") 167772177) None) refl

-- the address and the port of the gateway and of the authority that it is asked for, in one number
abbrev asked : Way → ℕ
asked (by_gateway gateway authority name) =
    number_of gateway.ip + number_of gateway.ip + gateway.port + gateway.port + number_of authority.ip + authority.port
asked (straight address name) = 1
asked (no_way why) = 0

-- each goes another way
pub passed_by : WaypointIsPassedBy → ⊥
passed_by wrong = absurd (omega (arith, ap asked (sym fewer ∙ wrong)))

pub sick_passed_by : SickWaypointIsPassedBy → ⊥
sick_passed_by wrong = absurd (omega (arith, ap asked (sym none_healthy ∙ wrong)))

pub gone_straight : SickWaypointIsGoneStraight → ⊥
gone_straight wrong = absurd (omega (arith, ap asked (sym none_healthy ∙ wrong)))

pub waypoint_asked_for : WaypointIsTheAuthority → ⊥
waypoint_asked_for wrong = absurd (omega (arith, ap asked (sym fewer ∙ wrong)))

pub named_port : NamedPortIsPassedBy → ⊥
named_port wrong = absurd (omega (arith, ap asked (sym fewer ∙ wrong)))

pub busier : BusierIsGoneThrough → ⊥
busier wrong = absurd (omega (arith, ap asked (sym fewer ∙ wrong)))

pub other_network : OtherNetworkIsGoneThrough → ⊥
other_network wrong = absurd (omega (arith, ap asked (sym another_network ∙ wrong)))

pub workloads_asked : WorkloadsWaypointIsAsked → ⊥
workloads_asked wrong = absurd (omega (arith, ap asked (sym without_workloads ∙ wrong)))

pub services_asked : ServicesWaypointIsAsked → ⊥
services_asked wrong = absurd (omega (arith, ap asked (sym without_services ∙ wrong)))
