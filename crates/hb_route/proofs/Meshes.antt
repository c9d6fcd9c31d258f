-- The ways through small meshes, computed.
use Rattle.std.proofs.Common.{◌≡◌, ℕ, List, [], ◌∷◌, Some, refl, sym, ap, ◌∙◌, ◌+◌, codes, map, arith}
use Rattle.std.specs.Cmp.Lexicographic.{nat_list_cmp_total}
use Rattle.std.specs.FinMap.{entries, entries-from_sorted, empty, insert, get, get-insert}
use Rattle.hb_index.proofs.Entries.{by_bytes}
use Rattle.hb_held.specs.Lookup.{workload_at, service_at}
use Rattle.hb_held.specs.Numbers.{number_of}
use Rattle.hb_held.specs.declared.versioned.Versioned.{Versioned}
use Rattle.hb_records.specs.declared.address.AddressRecord.{AddressRecord}
use Rattle.hb_records.specs.declared.address.AddressRecord.TheVariants as records
use Rattle.hb_records.specs.declared.service.Service.{Service}
use Rattle.hb_records.specs.declared.workload.Workload.{Workload}
use Rattle.hb_route.specs.Answer.{Way, by_gateway, straight, no_way}
use Rattle.hb_route.specs.Laws.{w9, u1, u2, web, sick, plain, unled, mesh, opened}
use Rattle.hb_route.specs.Laws.{FewerGoesFirst, SmallerNameGoesFirst, PlainGoesStraight, SickIsPassedOver, NoneIsHealthy}
use Rattle.hb_route.specs.Laws.{OtherPortIsRefused, UnledPortIsRefused, StrangerIsRefused}
use Rattle.hb_route.specs.Laws.{WorkloadIsReached, PlainWorkloadIsReached, ElsewhereGoesStraight}
use Rattle.hb_route.specs.Laws.{BusierGoesFirst, SickIsReached, GatewayIsPassedBy, ServicePortIsReached, UnledPortIsReached}

abbrev listed : Workload → Workload → Service → List (List ℕ × Versioned AddressRecord)
listed one two s =
    map (λ (r : List ℕ × AddressRecord). (r.0, record { version = codes "1"; content = r.1 }))
    ((codes "u1", records.Workload one) ∷ (codes "u2", records.Workload two) ∷ (codes "w9", records.Workload w9)
    ∷ (codes "web", records.Service s) ∷ [])

-- what a small mesh holds
abbrev are : (one two : Workload) (s : Service) → entries (mesh one two s).addresses ≡ listed one two s
are one two s = entries-from_sorted by_bytes (listed one two s) tt

of_u1 : (one two : ℕ) → get (opened one two) (codes "u1") ≡ Some one
of_u1 one two = get-insert nat_list_cmp_total (insert empty (codes "u2") two) (codes "u1") one (codes "u1")

of_u2 : (one two : ℕ) → get (opened one two) (codes "u2") ≡ Some two
of_u2 one two =
    get-insert nat_list_cmp_total (insert empty (codes "u2") two) (codes "u1") one (codes "u2")
    ∙ get-insert nat_list_cmp_total empty (codes "u2") two (codes "u2")

pub fewer : FewerGoesFirst
unfolding workload_at service_at
fewer = rw (are u1 u2 web) (rw (are u1 u2 web) (rw (of_u1 1 0) (rw (of_u2 1 0) refl)))

pub smaller_name : SmallerNameGoesFirst
unfolding workload_at service_at
smaller_name = rw (are u1 u2 web) (rw (are u1 u2 web) (rw (of_u1 1 1) (rw (of_u2 1 1) refl)))

pub plain_straight : PlainGoesStraight
unfolding workload_at service_at
plain_straight = rw (are (plain u1) u2 web) (rw (are (plain u1) u2 web) (rw (of_u1 0 0) (rw (of_u2 0 0) refl)))

pub sick_passed_over : SickIsPassedOver
unfolding workload_at service_at
sick_passed_over = rw (are (sick u1) u2 web) (rw (are (sick u1) u2 web) refl)

pub none_healthy : NoneIsHealthy
unfolding workload_at service_at
none_healthy = rw (are (sick u1) (sick u2) web) (rw (are (sick u1) (sick u2) web) refl)

pub other_port : OtherPortIsRefused
unfolding workload_at service_at
other_port = rw (are u1 u2 web) refl

pub unled_port : UnledPortIsRefused
unfolding workload_at service_at
unled_port = rw (are u1 u2 unled) (rw (are u1 u2 unled) refl)

pub stranger : StrangerIsRefused
unfolding workload_at service_at
stranger = rw (are u1 u2 web) refl

pub workload_reached : WorkloadIsReached
unfolding workload_at service_at
workload_reached = rw (are u1 u2 web) (rw (are u1 u2 web) refl)

pub plain_workload : PlainWorkloadIsReached
unfolding workload_at service_at
plain_workload = rw (are (plain u1) u2 web) (rw (are (plain u1) u2 web) refl)

pub elsewhere : ElsewhereGoesStraight
unfolding workload_at service_at
elsewhere = rw (are u1 u2 web) (rw (are u1 u2 web) refl)

-- the address and the port of the authority that a gateway is asked for, in one number
abbrev asked : Way → ℕ
asked (by_gateway gateway authority name) = number_of authority.ip + authority.port
asked (straight address name) = 0
asked (no_way why) = 0

-- each goes another way
pub busier : BusierGoesFirst → ⊥
busier wrong = absurd (omega (arith, ap asked (sym fewer ∙ wrong)))

pub sick_reached : SickIsReached → ⊥
sick_reached wrong = absurd (omega (arith, ap asked (sym sick_passed_over ∙ wrong)))

pub gateway_passed_by : GatewayIsPassedBy → ⊥
gateway_passed_by wrong = absurd (omega (arith, ap asked (sym fewer ∙ wrong)))

pub service_port : ServicePortIsReached → ⊥
service_port wrong = absurd (omega (arith, ap asked (sym fewer ∙ wrong)))

pub unled_reached : UnledPortIsReached → ⊥
unled_reached wrong = absurd (omega (arith, ap asked (sym unled_port ∙ wrong)))
