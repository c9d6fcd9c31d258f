-- What services and address records are, where reading gives them.
use Rattle.std.proofs.Common.{◌≡◌, ℕ, ◌==◌, List, length, ◌≤◌, Option, Some, None, IfSome, Ok, IfOk, arith}
use Rattle.std.specs.List.{All}
use Rattle.hb_wire.specs.Field.{Content}
use Rattle.hb_wire.specs.Spelling.{IsOctet}
use Rattle.hb_records.specs.declared.fault.RecordFault.TheVariants.{Wire}
use Rattle.hb_records.specs.declared.address.AddressRecord.{AddressRecord}
use Rattle.hb_records.specs.declared.address.AddressRecord.TheVariants as records
use Rattle.hb_records.specs.declared.service.Service.{Service}
use Rattle.hb_records.specs.declared.workload.Workload.{Workload}
use Rattle.hb_records.specs.Entries.{most_entries}
use Rattle.hb_records.specs.Network.{no_network, network_with}
use Rattle.hb_records.specs.Ports.{port_in}
use Rattle.hb_records.specs.Gateway.{gateway_with}
use Rattle.hb_records.specs.Service.{service_span, service_merged, no_service, service_with}
use Rattle.hb_records.specs.Workload.{parts_merged, workload_with}
use Rattle.hb_records.specs.Address.{workload_there, service_there, address_span, address_merged, no_address, record_or, address_of}
use Rattle.hb_canonical.proofs.Kept.{ok_cond, ok_then, ok_at, set_kept, span_kept, read_keeps, HasOctets, Taker}
use Rattle.hb_canonical.proofs.Pieces.{IsText, IsList, no_text, no_list}
use Rattle.hb_canonical.proofs.PiecesKept.{text_put, more_put}
use Rattle.hb_canonical.proofs.PlacesKept.{IsNetworkAddress, network_kept, IsPort, port_kept, IsGateway, gateway_kept}
use Rattle.hb_canonical.proofs.WorkloadKept.{IsWorkload, AreParts, none_kept, workload_kept}

pub record IsService (s : Service) : Type 0 where
  pub name : IsText s.name
  pub namespace : IsText s.namespace
  pub hostname : IsText s.hostname
  pub addresses : IsList IsNetworkAddress s.addresses
  pub ports : IsList IsPort s.ports
  pub waypoint : IfSome s.waypoint IsGateway

service_span_kept : (s : Service) (number at : ℕ) (bytes : List ℕ) → IsService s → All IsOctet bytes
    → IfOk (service_span s number at bytes) IsService
service_span_kept s number at bytes p octets =
    ok_cond (number == 1) _ _ _
    (text_put 1 bytes (λ t. record s { name = t }) IsService (λ t q. assumption))
    (ok_cond (number == 2) _ _ _
    (text_put 2 bytes (λ t. record s { namespace = t }) IsService (λ t q. assumption))
    (ok_cond (number == 3) _ _ _
    (text_put 3 bytes (λ t. record s { hostname = t }) IsService (λ t q. assumption))
    (ok_cond (number == 4) _ _ _
    (more_put 4 s.addresses (network_with no_network at bytes) (λ l. record s { addresses = l }) IsNetworkAddress IsService
    (network_kept no_network at bytes (no_text, tt) octets) p.addresses (λ l q. assumption))
    (ok_cond (number == 5) _ _ _
    (more_put 5 s.ports (port_in at bytes) (λ l. record s { ports = l }) IsPort IsService
    (port_kept at bytes octets) p.ports (λ l q. assumption))
    (ok_cond (number == 7) _ _ _
    (set_kept (gateway_with 7 s.waypoint at bytes) (λ g. record s { waypoint = Some g }) IsGateway IsService
    (gateway_kept 7 s.waypoint at bytes p.waypoint octets) (λ g q. assumption)) p)))))

service_part_kept : (s : Service) (f : Content) → IsService s → HasOctets f.value → IfOk (service_merged s f) IsService
service_part_kept s f p octets = span_kept s f.value (λ bytes. service_span s f.number f.at bytes) IsService p octets
    (λ bytes o. service_span_kept s f.number f.at bytes p o)

service_kept : (s : Service) (at : ℕ) (bytes : List ℕ) → IsService s → All IsOctet bytes → IfOk (service_with s at bytes) IsService
unfolding service_with
service_kept s at bytes p octets = read_keeps service_merged Wire IsService service_part_kept s at bytes p octets

no_service_kept : IsService no_service
no_service_kept = record {
  name = no_text;
  namespace = no_text;
  hostname = no_text;
  addresses = no_list IsNetworkAddress;
  ports = no_list IsPort;
  waypoint = tt;
}

-- an address record as far as its fields were read
abbrev IsAddress : Taker address_merged → Type 0
IsAddress a = IfSome a.workload AreParts × IfSome a.service IsService

parts_are_there : (o : Option (Taker parts_merged)) → IfSome o AreParts → AreParts (workload_there o)
parts_are_there (Some p) are = are
parts_are_there None are = none_kept

service_is_there : (o : Option Service) → IfSome o IsService → IsService (service_there o)
service_is_there (Some s) is = is
service_is_there None is = no_service_kept

address_span_kept : (a : Taker address_merged) (number at : ℕ) (bytes : List ℕ) → IsAddress a → All IsOctet bytes
    → IfOk (address_span a number at bytes) IsAddress
address_span_kept a number at bytes (parts, service) octets =
    ok_cond (number == 1) _ _ _
    (ok_then (workload_with (workload_there a.workload) at bytes) _ AreParts IsAddress
    (workload_kept (workload_there a.workload) at bytes (parts_are_there a.workload parts) octets) (λ p q. (q, tt)))
    (ok_cond (number == 2) _ _ _
    (ok_then (service_with (service_there a.service) at bytes) _ IsService IsAddress
    (service_kept (service_there a.service) at bytes (service_is_there a.service service) octets) (λ s q. (tt, q)))
    (parts, service))

address_part_kept : (a : Taker address_merged) (f : Content) → IsAddress a → HasOctets f.value → IfOk (address_merged a f) IsAddress
address_part_kept a f p octets = span_kept a f.value (λ bytes. address_span a f.number f.at bytes) IsAddress p octets
    (λ bytes o. address_span_kept a f.number f.at bytes p o)

abbrev pub IsRecord : AddressRecord → Type 0
IsRecord (records.Workload w) = IsWorkload most_entries w
IsRecord (records.Service s) = IsService s

enough : (few most : ℕ) (w : Workload) → few ≤ most → IsWorkload few w → IsWorkload most w
enough few most w le p = let least : length w.services ≤ most = let had = p.few in omega arith in assumption

record_kept : (o : Option (Taker parts_merged)) (service : Option Service) → IfSome o AreParts → IfSome service IsService
    → IfOk (record_or o service) IsRecord
record_kept (Some p) service parts is = enough p.entries most_entries p.workload parts.1 parts.0
record_kept None (Some s) parts is = is
record_kept None None parts is = tt

-- an address record that octets are
pub address_kept : (bytes : List ℕ) (r : AddressRecord) → All IsOctet bytes → address_of bytes ≡ Ok r → IsRecord r
unfolding address_of
address_kept bytes r octets is =
    ok_at (address_of bytes) IsRecord r
    (ok_then _ _ IsAddress IsRecord (read_keeps address_merged Wire IsAddress address_part_kept no_address 0 bytes (tt, tt) octets)
    (λ a p. record_kept a.workload a.service p.0 p.1)) is
