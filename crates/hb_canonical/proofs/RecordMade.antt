-- Services and address records are read from their canonical spelling.
use Rattle.std.proofs.Common.{◌≡◌, ℕ, ◌^◌, ◌<◌, List, length, Option, Some, None, IfSome, Result, Ok, refl, ap}
use Rattle.std.specs.List.{All}
use Rattle.hb_wire.specs.Message.{and_then}
use Rattle.hb_wire.specs.Spelling.{IsOctet}
use Rattle.hb_wire.specs.Writing.{bytes_of}
use Rattle.hb_records.specs.declared.fault.RecordFault.TheVariants.{Wire}
use Rattle.hb_records.specs.declared.address.AddressRecord.{AddressRecord}
use Rattle.hb_records.specs.declared.address.AddressRecord.TheVariants as records
use Rattle.hb_records.specs.declared.gateway.GatewayAddress.{GatewayAddress}
use Rattle.hb_records.specs.declared.service.Service.{Service}
use Rattle.hb_records.specs.Network.{no_network, network_with}
use Rattle.hb_records.specs.Ports.{port_in}
use Rattle.hb_records.specs.Gateway.{gateway_with}
use Rattle.hb_records.specs.Service.{service_merged, no_service, service_with}
use Rattle.hb_records.specs.Workload.{no_parts, workload_with}
use Rattle.hb_records.specs.Address.{address_merged, no_address, record_or, address_of}
use Rattle.hb_canonical.specs.Ports.{port_of}
use Rattle.hb_canonical.specs.Gateway.{network_of, gateway_of, gateway_field}
use Rattle.hb_canonical.specs.Address.{workload_of, service_of, canonical_address}
use Rattle.hb_canonical.proofs.Makes.{Makes, makes_nothing, makes_both, makes_bytes, made_is_read, goes_through}
use Rattle.hb_canonical.proofs.Kept.{Taker}
use Rattle.hb_canonical.proofs.Pieces.{makes_text, makes_list}
use Rattle.hb_canonical.proofs.PlacesKept.{IsNetworkAddress, IsPort, IsGateway}
use Rattle.hb_canonical.proofs.PlacesMade.{network_made, port_made, gateway_made}
use Rattle.hb_canonical.proofs.RecordKept.{IsService, IsRecord, address_kept}
use Rattle.hb_canonical.proofs.WorkloadMade.{served, workload_made}

waypoint_made : (s : Service) (g : Option GatewayAddress) → IfSome g IsGateway
    → Makes service_merged (record s { waypoint = None }) (gateway_field 7 g) (record s { waypoint = g })
waypoint_made s None p = makes_nothing service_merged (record s { waypoint = None })
waypoint_made s (Some g) p = makes_bytes service_merged _ (record s { waypoint = Some g }) 7 (gateway_of g) refl (λ fits at.
    goes_through (gateway_with 7 None at (gateway_of g)) _ g (gateway_made 7 at g p fits))

fields_made : (s : Service) → IsService s → Makes service_merged no_service (service_of s) s
unfolding service_of
fields_made s p =
    let s1 : Service = record no_service { name = s.name } in
    let s2 : Service = record s1 { namespace = s.namespace } in
    let s3 : Service = record s2 { hostname = s.hostname } in
    let s4 : Service = record s3 { addresses = s.addresses } in
    let s5 : Service = record s4 { ports = s.ports } in
    makes_both service_merged no_service s1 s _ _
    (makes_text service_merged (λ t. record no_service { name = t }) 1 refl (λ at bytes. refl) s.name p.name)
    (makes_both service_merged s1 s2 s _ _
    (makes_text service_merged (λ t. record s1 { namespace = t }) 2 refl (λ at bytes. refl) s.namespace p.namespace)
    (makes_both service_merged s2 s3 s _ _
    (makes_text service_merged (λ t. record s2 { hostname = t }) 3 refl (λ at bytes. refl) s.hostname p.hostname)
    (makes_both service_merged s3 s4 s _ _
    (makes_list service_merged (λ l. record s3 { addresses = l }) 4 network_of IsNetworkAddress (network_with no_network) refl
    (λ done at bytes. refl) network_made s.addresses p.addresses)
    (makes_both service_merged s4 s5 s _ _
    (makes_list service_merged (λ l. record s4 { ports = l }) 5 port_of IsPort port_in refl
    (λ done at bytes. refl) port_made s.ports p.ports)
    (waypoint_made s5 s.waypoint p.waypoint)))))

service_made : (at : ℕ) (s : Service) → IsService s → length (service_of s) < 2 ^ 64 → service_with no_service at (service_of s) ≡ Ok s
unfolding service_with
service_made at s p small = made_is_read service_merged Wire no_service s at (service_of s) small (fields_made s p)

-- a record is read from its canonical spelling
record_made : (r : AddressRecord) → IsRecord r → length (canonical_address r) < 2 ^ 64 → address_of (canonical_address r) ≡ Ok r
unfolding address_of canonical_address
record_made (records.Workload w) p small =
    ap (λ (x : Result (Taker address_merged) _). and_then x (λ a. record_or a.workload a.service))
    (made_is_read address_merged Wire no_address _ 0 (bytes_of 1 (workload_of w)) small
    (makes_bytes address_merged no_address _ 1 (workload_of w) refl (λ fits at.
    goes_through (workload_with no_parts at (workload_of w)) _ (served w w.services) (workload_made at w p fits))))
record_made (records.Service s) p small =
    ap (λ (x : Result (Taker address_merged) _). and_then x (λ a. record_or a.workload a.service))
    (made_is_read address_merged Wire no_address _ 0 (bytes_of 2 (service_of s)) small
    (makes_bytes address_merged no_address _ 2 (service_of s) refl (λ fits at.
    goes_through (service_with no_service at (service_of s)) _ s (service_made at s p fits))))

-- what octets give is read from its canonical spelling
pub address_back : (r : AddressRecord) (bytes : List ℕ) → length (canonical_address r) < 2 ^ 64 → All IsOctet bytes
    → address_of bytes ≡ Ok r
    → address_of (canonical_address r) ≡ Ok r
address_back r bytes small octets is = record_made r (address_kept bytes r octets is) small
