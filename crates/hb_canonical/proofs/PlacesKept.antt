-- What ports, addresses of a network and gateways are, where reading gives them.
use Rattle.std.proofs.Common.{ℕ, ◌==◌, List, Option, Some, None, IfSome, IfOk, arith}
use Rattle.std.specs.List.{All}
use Rattle.hb_base.specs.Octets.{IsGiven}
use Rattle.hb_wire.specs.Field.{Content, Value, varint, eight, span, four}
use Rattle.hb_wire.specs.Spelling.{IsOctet}
use Rattle.hb_records.specs.declared.fault.RecordFault.TheVariants.{Wire}
use Rattle.hb_records.specs.declared.gateway.GatewayAddress.{GatewayAddress}
use Rattle.hb_records.specs.declared.gateway.Waypoint.{Waypoint}
use Rattle.hb_records.specs.declared.gateway.Waypoint.TheVariants.{Hostname, Address}
use Rattle.hb_records.specs.declared.network_address.NetworkAddress.{NetworkAddress}
use Rattle.hb_records.specs.declared.port.Port.{Port}
use Rattle.hb_records.specs.declared.port.ServicePorts.{ServicePorts}
use Rattle.hb_records.specs.Entries.{octets_in}
use Rattle.hb_records.specs.Network.{network_merged, address_or, network_with}
use Rattle.hb_records.specs.Gateway.{hostname_merged, hostname_there, hostname_with, network_there, gateway_span, gateway_value, gateway_merged, gateway_there, to_or, gateway_with}
use Rattle.hb_records.specs.Ports.{port_value, port_merged, port_in, ports_merged, ports_with, entry_merged, no_entry, entry_in}
use Rattle.hb_canonical.proofs.Kept.{by_test, ok_cond, ok_then, set_kept, span_kept, read_keeps, HasOctets, Taker}
use Rattle.hb_canonical.proofs.Pieces.{IsText, IsList, IsNumber, no_text, no_list}
use Rattle.hb_canonical.proofs.PiecesKept.{text_put, more_put, low_kept}
use Rattle.hb_canonical.proofs.AddressesKept.{ip_kept}

pub record IsPort (p : Port) : Type 0 where
  pub service_port : IsNumber p.service_port
  pub target_port : IsNumber p.target_port

port_value_kept : (p : Port) (number : ℕ) (v : Value) → IsPort p → IfOk (port_value p number v) IsPort
port_value_kept p number (varint n) q =
    by_test IsPort (number == 1) _ _ (λ _. record { service_port = low_kept n; target_port = q.target_port })
    (λ _. by_test IsPort (number == 2) _ _ (λ _. record { service_port = q.service_port; target_port = low_kept n }) (λ _. q))
port_value_kept p number (eight n) q = q
port_value_kept p number (span bytes) q = q
port_value_kept p number (four n) q = q

pub port_kept : (at : ℕ) (bytes : List ℕ) → All IsOctet bytes → IfOk (port_in at bytes) IsPort
unfolding port_in
port_kept at bytes octets =
    read_keeps port_merged Wire IsPort (λ p f q _. port_value_kept p f.number f.value q) _ at bytes
    (record { service_port = omega arith; target_port = omega arith }) octets

abbrev ArePorts : Taker ports_merged → Type 0
ArePorts l = IsList IsPort l.ports

ports_part_kept : (l : Taker ports_merged) (f : Content) → ArePorts l → HasOctets f.value → IfOk (ports_merged l f) ArePorts
ports_part_kept l f p octets = span_kept l f.value _ ArePorts p octets (λ bytes o.
    ok_cond (f.number == 1) _ _ _
    (more_put 1 l.ports (port_in f.at bytes) (λ ports. record { ports = ports }) IsPort ArePorts
    (port_kept f.at bytes o) p (λ ports q. q)) p)

ports_kept : (l : Taker ports_merged) (at : ℕ) (bytes : List ℕ) → ArePorts l → All IsOctet bytes → IfOk (ports_with l at bytes) ArePorts
unfolding ports_with
ports_kept l at bytes p octets = read_keeps ports_merged Wire ArePorts ports_part_kept l at bytes p octets

-- the ports under which a workload serves a service
pub record AreServicePorts (e : ServicePorts) : Type 0 where
  pub key : IsText e.key
  pub ports : IsList IsPort e.ports

abbrev IsEntry : Taker entry_merged → Type 0
IsEntry e = IsText e.key × IsList IsPort e.value.ports

entry_part_kept : (e : Taker entry_merged) (f : Content) → IsEntry e → HasOctets f.value → IfOk (entry_merged e f) IsEntry
entry_part_kept e f (key, ports) octets = span_kept e f.value _ IsEntry (key, ports) octets (λ bytes o.
    ok_cond (f.number == 1) _ _ _
    (text_put 1 bytes (λ t. record e { key = t }) IsEntry (λ t q. (q, ports)))
    (ok_cond (f.number == 2) _ _ _
    (set_kept (ports_with e.value f.at bytes) (λ l. record e { value = l }) ArePorts IsEntry (ports_kept e.value f.at bytes ports o)
    (λ l q. (key, q))) (key, ports)))

pub entry_kept : (at : ℕ) (bytes : List ℕ) → All IsOctet bytes → IfOk (entry_in at bytes) AreServicePorts
unfolding entry_in
entry_kept at bytes octets =
    ok_then _ _ IsEntry AreServicePorts
    (read_keeps entry_merged Wire IsEntry entry_part_kept no_entry at bytes (no_text, no_list IsPort) octets)
    (λ e q. record { key = q.0; ports = q.1 })

pub record IsNetworkAddress (n : NetworkAddress) : Type 0 where
  pub network : IsText n.network
  pub address : IsGiven n.address

abbrev AreNetworkParts : Taker network_merged → Type 0
AreNetworkParts p = IsText p.network × IfSome p.address IsGiven

network_part_kept : (p : Taker network_merged) (f : Content) → AreNetworkParts p → HasOctets f.value
    → IfOk (network_merged p f) AreNetworkParts
network_part_kept p f (network, address) octets = span_kept p f.value _ AreNetworkParts (network, address) octets (λ bytes o.
    ok_cond (f.number == 1) _ _ _
    (text_put 1 bytes (λ t. record p { network = t }) AreNetworkParts (λ t q. (q, address)))
    (ok_cond (f.number == 2) _ _ _
    (set_kept (octets_in 2 bytes) (λ ip. record p { address = Some ip }) IsGiven AreNetworkParts (ip_kept 2 bytes o)
    (λ ip q. (network, q))) (network, address)))

address_kept : (network : List ℕ) (o : _) → IsText network → IfSome o IsGiven → IfOk (address_or network o) IsNetworkAddress
address_kept network None t p = tt
address_kept network (Some ip) t p = record { network = t; address = p }

pub network_kept : (p : Taker network_merged) (at : ℕ) (bytes : List ℕ) → AreNetworkParts p → All IsOctet bytes
    → IfOk (network_with p at bytes) IsNetworkAddress
unfolding network_with
network_kept p at bytes q octets =
    ok_then _ _ AreNetworkParts IsNetworkAddress (read_keeps network_merged Wire AreNetworkParts network_part_kept p at bytes q octets)
    (λ p q. address_kept p.network p.address q.0 q.1)

abbrev AreNames : Taker hostname_merged → Type 0
AreNames h = IsText h.namespace × IsText h.hostname

hostname_part_kept : (h : Taker hostname_merged) (f : Content) → AreNames h → HasOctets f.value → IfOk (hostname_merged h f) AreNames
hostname_part_kept h f (namespace, hostname) octets = span_kept h f.value _ AreNames (namespace, hostname) octets (λ bytes o.
    ok_cond (f.number == 1) _ _ _
    (text_put 1 bytes (λ t. record h { namespace = t }) AreNames (λ t q. (q, hostname)))
    (ok_cond (f.number == 2) _ _ _
    (text_put 2 bytes (λ t. record h { hostname = t }) AreNames (λ t q. (namespace, q)))
    (namespace, hostname)))

hostname_kept : (h : Taker hostname_merged) (at : ℕ) (bytes : List ℕ) → AreNames h → All IsOctet bytes
    → IfOk (hostname_with h at bytes) AreNames
unfolding hostname_with
hostname_kept h at bytes p octets = read_keeps hostname_merged Wire AreNames hostname_part_kept h at bytes p octets

abbrev pub IsWaypoint : Waypoint → Type 0
IsWaypoint (Hostname namespace hostname) = IsText namespace × IsText hostname
IsWaypoint (Address n) = IsNetworkAddress n

pub record IsGateway (g : GatewayAddress) : Type 0 where
  pub to : IsWaypoint g.to
  pub port : IsNumber g.hbone_mtls_port

names_there : (to : Option Waypoint) → IfSome to IsWaypoint → AreNames (hostname_there to)
names_there None p = (no_text, no_text)
names_there (Some (Hostname namespace hostname)) p = p
names_there (Some (Address n)) p = (no_text, no_text)

network_is_there : (to : Option Waypoint) → IfSome to IsWaypoint → AreNetworkParts (network_there to)
network_is_there None p = (no_text, tt)
network_is_there (Some (Hostname namespace hostname)) p = (no_text, tt)
network_is_there (Some (Address n)) p = (p.network, p.address)

abbrev AreGatewayParts : Taker gateway_merged → Type 0
AreGatewayParts p = IfSome p.to IsWaypoint × IsNumber p.hbone_mtls_port

gateway_span_kept : (p : Taker gateway_merged) (number at : ℕ) (bytes : List ℕ) → AreGatewayParts p → All IsOctet bytes
    → IfOk (gateway_span p number at bytes) AreGatewayParts
gateway_span_kept p number at bytes (to, port) octets =
    ok_cond (number == 1) _ _ _
    (set_kept (hostname_with (hostname_there p.to) at bytes) (λ h. record p { to = Some (Hostname h.namespace h.hostname) }) AreNames
    AreGatewayParts (hostname_kept (hostname_there p.to) at bytes (names_there p.to to) octets) (λ h q. (q, port)))
    (ok_cond (number == 2) _ _ _
    (set_kept (network_with (network_there p.to) at bytes) (λ n. record p { to = Some (Address n) }) IsNetworkAddress AreGatewayParts
    (network_kept (network_there p.to) at bytes (network_is_there p.to to) octets) (λ n q. (q, port))) (to, port))

gateway_value_kept : (p : Taker gateway_merged) (number at : ℕ) (v : Value) → AreGatewayParts p → HasOctets v
    → IfOk (gateway_value p number at v) AreGatewayParts
gateway_value_kept p number at (span bytes) q octets = gateway_span_kept p number at bytes q octets
gateway_value_kept p number at (varint n) q octets = by_test AreGatewayParts (number == 3) _ _ (λ _. (q.0, low_kept n)) (λ _. q)
gateway_value_kept p number at (eight n) q octets = q
gateway_value_kept p number at (four n) q octets = q

gateway_is_there : (g : Option GatewayAddress) → IfSome g IsGateway → AreGatewayParts (gateway_there g)
gateway_is_there None p = (tt, omega arith)
gateway_is_there (Some g) p = (p.to, p.port)

to_kept : (field port : ℕ) (to : Option Waypoint) → IsNumber port → IfSome to IsWaypoint → IfOk (to_or field port to) IsGateway
to_kept field port None small p = tt
to_kept field port (Some to) small p = record { to = p; port = small }

pub gateway_kept : (field : ℕ) (g : Option GatewayAddress) (at : ℕ) (bytes : List ℕ) → IfSome g IsGateway → All IsOctet bytes
    → IfOk (gateway_with field g at bytes) IsGateway
unfolding gateway_with
gateway_kept field g at bytes p octets =
    ok_then _ _ AreGatewayParts IsGateway
    (read_keeps gateway_merged Wire AreGatewayParts (λ p f q o. gateway_value_kept p f.number f.at f.value q o) (gateway_there g) at bytes
    (gateway_is_there g p) octets) (λ p q. to_kept field p.hbone_mtls_port p.to q.1 q.0)
