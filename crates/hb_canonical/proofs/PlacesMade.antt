-- Ports, addresses of a network and gateways are read from their canonical spelling.
use Rattle.std.proofs.Common.{◌≡◌, ℕ, ◌^◌, ◌<◌, List, [], length, Option, Some, None, Result, Ok, refl, ap}
use Rattle.hb_base.specs.declared.ip.Ip.{Ip}
use Rattle.hb_wire.specs.Message.{and_then}
use Rattle.hb_records.specs.declared.fault.RecordFault.TheVariants.{Wire}
use Rattle.hb_records.specs.declared.gateway.GatewayAddress.{GatewayAddress}
use Rattle.hb_records.specs.declared.gateway.Waypoint.{Waypoint}
use Rattle.hb_records.specs.declared.gateway.Waypoint.TheVariants.{Hostname, Address}
use Rattle.hb_records.specs.declared.network_address.NetworkAddress.{NetworkAddress}
use Rattle.hb_records.specs.declared.port.Port.{Port}
use Rattle.hb_records.specs.declared.port.ServicePorts.{ServicePorts}
use Rattle.hb_records.specs.Entries.{ip_or}
use Rattle.hb_records.specs.Network.{network_merged, no_network, address_or, network_with}
use Rattle.hb_records.specs.Gateway.{hostname_merged, hostname_there, hostname_with, gateway_merged, gateway_there, to_or, gateway_with}
use Rattle.hb_records.specs.Ports.{port_merged, port_in, ports_merged, ports_with, entry_merged, no_entry, entry_in}
use Rattle.hb_canonical.specs.Fields.{octets_of}
use Rattle.hb_canonical.specs.Ports.{port_of, ports_of, service_entry_of}
use Rattle.hb_canonical.specs.Gateway.{network_of, hostname_of, waypoint_of, gateway_of}
use Rattle.hb_canonical.proofs.Makes.{Makes, makes_both, makes_bytes, made_is_read, goes_through}
use Rattle.hb_canonical.proofs.Kept.{Taker}
use Rattle.hb_canonical.proofs.Pieces.{IsText, makes_text, makes_low, makes_list}
use Rattle.hb_canonical.proofs.Readable.{ip_back}
use Rattle.hb_canonical.proofs.PlacesKept.{IsPort, AreServicePorts, IsNetworkAddress, IsWaypoint, IsGateway}

pub port_made : (at : ℕ) (p : Port) → IsPort p → length (port_of p) < 2 ^ 64 → port_in at (port_of p) ≡ Ok p
unfolding port_in port_of
port_made at p q small =
    let none : Port = record { service_port = 0; target_port = 0 } in
    let one : Port = record none { service_port = p.service_port } in
    made_is_read port_merged Wire none p at (port_of p) small
    (makes_both port_merged none one p _ _
    (makes_low port_merged (λ n. record none { service_port = n }) 1 refl (λ at n. refl) p.service_port q.service_port)
    (makes_low port_merged (λ n. record one { target_port = n }) 2 refl (λ at n. refl) p.target_port q.target_port))

key_put : List ℕ → Taker entry_merged
key_put key = record no_entry { key = key }

ports_put : ServicePorts → Taker ports_merged
ports_put e = record { ports = e.ports }

entry_put : ServicePorts → Taker entry_merged
entry_put e = record { key = e.key; value = ports_put e }

ports_made : (at : ℕ) (e : ServicePorts) → AreServicePorts e → length (ports_of e.ports) < 2 ^ 64
    → ports_with (record { ports = [] }) at (ports_of e.ports) ≡ Ok (ports_put e)
unfolding ports_with ports_of ports_put
ports_made at e q small =
    made_is_read ports_merged Wire _ (ports_put e) at (ports_of e.ports) small
    (makes_list ports_merged (λ l. record { ports = l }) 1 port_of IsPort port_in refl (λ done at bytes. refl) port_made e.ports q.ports)

pub entry_made : (at : ℕ) (e : ServicePorts) → AreServicePorts e → length (service_entry_of e) < 2 ^ 64
    → entry_in at (service_entry_of e) ≡ Ok e
unfolding entry_in service_entry_of key_put entry_put ports_put
entry_made at e q small =
    ap (λ (r : Result (Taker entry_merged) _). and_then r (λ e. Ok (record { key = e.key; ports = e.value.ports })))
    (made_is_read entry_merged Wire no_entry (entry_put e) at (service_entry_of e) small
    (makes_both entry_merged no_entry (key_put e.key) (entry_put e) _ _
    (makes_text entry_merged key_put 1 refl (λ at bytes. refl) e.key q.key)
    (makes_bytes entry_merged (key_put e.key) (entry_put e) 2 (ports_of e.ports) refl (λ fits at.
    goes_through (ports_with (record { ports = [] }) at (ports_of e.ports)) _ (ports_put e) (ports_made at e q fits)))))

network_parts_made : (n : NetworkAddress) → IsNetworkAddress n
    → Makes network_merged no_network (network_of n) (record { network = n.network; address = Some n.address })
unfolding network_of
network_parts_made n p =
    makes_both network_merged no_network (record no_network { network = n.network }) _ _ _
    (makes_text network_merged (λ t. record no_network { network = t }) 1 refl (λ at bytes. refl) n.network p.network)
    (makes_bytes network_merged (record no_network { network = n.network }) _ 2 (octets_of n.address) refl (λ _ at.
    ap (λ (o : Option Ip). and_then (ip_or 2 o) (λ ip. Ok (record { network = n.network; address = Some ip })))
    (ip_back n.address p.address)))

pub network_made : (at : ℕ) (n : NetworkAddress) → IsNetworkAddress n → length (network_of n) < 2 ^ 64
    → network_with no_network at (network_of n) ≡ Ok n
unfolding network_with
network_made at n p small = ap (λ (r : Result (Taker network_merged) _). and_then r (λ p. address_or p.network p.address))
    (made_is_read network_merged Wire no_network _ at (network_of n) small (network_parts_made n p))

names : List ℕ → List ℕ → Taker hostname_merged
names namespace hostname = record { namespace = namespace; hostname = hostname }

hostname_made : (at : ℕ) (namespace hostname : List ℕ) → IsText namespace → IsText hostname → length
    (hostname_of namespace hostname) < 2 ^ 64
    → hostname_with (hostname_there None) at (hostname_of namespace hostname) ≡ Ok (names namespace hostname)
unfolding hostname_with hostname_of names
hostname_made at namespace hostname p q small =
    made_is_read hostname_merged Wire (names [] []) (names namespace hostname) at (hostname_of namespace hostname) small
    (makes_both hostname_merged (names [] []) (names namespace []) (names namespace hostname) _ _
    (makes_text hostname_merged (λ t. names t []) 1 refl (λ at bytes. refl) namespace p)
    (makes_text hostname_merged (λ t. names namespace t) 2 refl (λ at bytes. refl) hostname q))

waypoint_made : (to : Waypoint) → IsWaypoint to
    → Makes gateway_merged (gateway_there None) (waypoint_of to) (record { to = Some to; hbone_mtls_port = 0 })
unfolding waypoint_of names
waypoint_made (Hostname namespace hostname) (p, q) =
    makes_bytes gateway_merged (gateway_there None) _ 1 (hostname_of namespace hostname) refl (λ fits at.
    goes_through (hostname_with (hostname_there None) at (hostname_of namespace hostname)) _ (names namespace hostname)
    (hostname_made at namespace hostname p q fits))
waypoint_made (Address n) p =
    makes_bytes gateway_merged (gateway_there None) _ 2 (network_of n) refl (λ fits at.
    goes_through (network_with no_network at (network_of n)) _ n (network_made at n p fits))

pub gateway_made : (field at : ℕ) (g : GatewayAddress) → IsGateway g → length (gateway_of g) < 2 ^ 64
    → gateway_with field None at (gateway_of g) ≡ Ok g
unfolding gateway_with gateway_of
gateway_made field at g p small =
    ap (λ (r : Result (Taker gateway_merged) _). and_then r (λ p. to_or field p.hbone_mtls_port p.to))
    (made_is_read gateway_merged Wire (gateway_there None) (record { to = Some g.to; hbone_mtls_port = g.hbone_mtls_port }) at
    (gateway_of g)
    small
    (makes_both gateway_merged (gateway_there None) (record { to = Some g.to; hbone_mtls_port = 0 }) _ _ _ (waypoint_made g.to p.to)
    (makes_low gateway_merged (λ n. record { to = Some g.to; hbone_mtls_port = n }) 3 refl (λ at n. refl) g.hbone_mtls_port p.port)))
