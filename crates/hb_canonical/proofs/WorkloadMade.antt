-- A workload is read from its canonical spelling.
use Rattle.std.proofs.Common.{◌≡◌, ℕ, ◌+◌, ◌^◌, ◌<◌, ◌≤◌, Bool, true, false, List, [], ◌∷◌, ◌++◌, length, Option, Some, None, IfSome, Result, Ok, refl, ap, ◌∙◌, arith, length-append}
use Rattle.std.specs.List.{All}
use Rattle.std.proofs.lemmas.Bool.{lt-ltb}
use Rattle.std.proofs.lemmas.List.Elements.{All-head}
use Rattle.hb_base.specs.declared.ip.Ip.{Ip}
use Rattle.hb_base.specs.Octets.{IsGiven}
use Rattle.hb_wire.specs.Field.{span, is_number}
use Rattle.hb_wire.specs.Message.{and_then}
use Rattle.hb_wire.specs.Writing.{number_of}
use Rattle.hb_records.specs.declared.fault.RecordFault.{RecordFault}
use Rattle.hb_records.specs.declared.fault.RecordFault.TheVariants.{Wire}
use Rattle.hb_records.specs.declared.gateway.GatewayAddress.{GatewayAddress}
use Rattle.hb_records.specs.declared.port.ServicePorts.{ServicePorts}
use Rattle.hb_records.specs.declared.workload.Workload.{Workload}
use Rattle.hb_records.specs.Entries.{text_in, ip_or, octets_in, one_more, most_entries}
use Rattle.hb_records.specs.Gateway.{gateway_with}
use Rattle.hb_records.specs.Workload.{parts_merged, no_workload, no_parts, workload_with}
use Rattle.hb_canonical.specs.Fields.{text_field, entries_of, octets_of}
use Rattle.hb_canonical.specs.Ports.{service_entry_of}
use Rattle.hb_canonical.specs.Gateway.{gateway_of, gateway_field}
use Rattle.hb_canonical.specs.Address.{protocol_number, status_number, workload_of}
use Rattle.hb_canonical.proofs.Makes.{Makes, makes_nothing, makes_both, makes_bytes, makes_some, made_is_read, goes_through, put_twice}
use Rattle.hb_canonical.proofs.Kept.{Taker, both_all}
use Rattle.hb_canonical.proofs.Pieces.{IsText, IsList, makes_text, makes_list, entries_made}
use Rattle.hb_canonical.proofs.Readable.{ip_back}
use Rattle.hb_canonical.proofs.Sorted.{IsSorted, put_last}
use Rattle.hb_canonical.proofs.PlacesKept.{AreServicePorts, IsGateway}
use Rattle.hb_canonical.proofs.PlacesMade.{entry_made, gateway_made}
use Rattle.hb_canonical.proofs.WorkloadKept.{IsWorkload}

-- a workload before its services are read, and with these services
abbrev parts : Workload → Taker parts_merged
parts w = record { workload = w; entries = 0 }

abbrev pub served : Workload → List ServicePorts → Taker parts_merged
served w services = record { workload = record w { services = services }; entries = length services }

text_made : (put : List ℕ → Workload) (number : ℕ) → is_number number ≡ true
    → ((at : ℕ) (bytes : List ℕ) → parts_merged (parts (put [])) (record { number = number; at = at; value = span bytes })
    ≡ and_then (and_then (text_in number bytes) (λ t. Ok (put t))) (λ w. Ok (parts w)))
    → (text : List ℕ) → IsText text → Makes parts_merged (parts (put [])) (text_field number text) (parts (put text))
text_made put number is takes =
    makes_text parts_merged (λ t. parts (put t)) number is (λ at bytes. takes at bytes ∙ put_twice (text_in number bytes) put parts)

list_made : {E : Type 0} (put : List E → Workload) (number : ℕ) (spelled : E → List ℕ) (P : E → Type 0)
    (entry : ℕ → List ℕ → Result E RecordFault) → is_number number ≡ true
    → ((done : List E) (at : ℕ) (bytes : List ℕ) → parts_merged (parts (put done))
    (record { number = number; at = at; value = span bytes })
    ≡ and_then (and_then (one_more number done (entry at bytes)) (λ l. Ok (put l))) (λ w. Ok (parts w)))
    → ((at : ℕ) (e : E) → P e → length (spelled e) < 2 ^ 64 → entry at (spelled e) ≡ Ok e)
    → (entries : List E) → IsList P entries → Makes parts_merged (parts (put [])) (entries_of number spelled entries)
    (parts (put entries))
list_made put number spelled P entry is takes reads =
    makes_list parts_merged (λ l. parts (put l)) number spelled P entry is
    (λ done at bytes. takes done at bytes ∙ put_twice (one_more number done (entry at bytes)) put parts) reads

address_made : (ip : Ip) → IsGiven ip → octets_in 3 (octets_of ip) ≡ Ok ip
address_made ip p = ap (ip_or 3) (ip_back ip p)

hbone_made : (w : Workload) (b : Bool)
    → Makes parts_merged (parts (record w { hbone = false })) (number_of 5 (protocol_number b)) (parts (record w { hbone = b }))
hbone_made w true = makes_some parts_merged _ (parts (record w { hbone = true })) 5 1 refl (omega arith) (omega arith) (λ at. refl)
hbone_made w false = makes_nothing parts_merged (parts (record w { hbone = false }))

healthy_made : (w : Workload) (b : Bool)
    → Makes parts_merged (parts (record w { healthy = true })) (number_of 17 (status_number b)) (parts (record w { healthy = b }))
healthy_made w true = makes_nothing parts_merged (parts (record w { healthy = true }))
healthy_made w false = makes_some parts_merged _ (parts (record w { healthy = false })) 17 1 refl (omega arith) (omega arith) (λ at. refl)

waypoint_made : (w : Workload) (g : Option GatewayAddress) → IfSome g IsGateway
    → Makes parts_merged (parts (record w { waypoint = None })) (gateway_field 8 g) (parts (record w { waypoint = g }))
waypoint_made w None p = makes_nothing parts_merged (parts (record w { waypoint = None }))
waypoint_made w (Some g) p =
    let put : GatewayAddress → Workload = λ x. record w { waypoint = Some x } in
    makes_bytes parts_merged _ (parts (put g)) 8 (gateway_of g) refl (λ fits at.
    put_twice (gateway_with 8 None at (gateway_of g)) put parts
    ∙ goes_through (gateway_with 8 None at (gateway_of g)) (λ x. Ok (parts (put x))) g (gateway_made 8 at g p fits))

abbrev AreServices : List ServicePorts → Type 0
AreServices l = (length l ≤ most_entries) × All AreServicePorts l × IsSorted l

services_made : (w : Workload) (services : List ServicePorts) → AreServices services
    → Makes parts_merged (served w []) (entries_of 22 service_entry_of services) (served w services)
services_made w services are =
    entries_made parts_merged (served w) 22 service_entry_of AreServices refl
    (λ done rest e at (few, all, sorted) fits.
    let room : length done < most_entries = omega (arith, length-append done (e ∷ rest)) in
    let size : length done + 1 ≡ length (done ++ e ∷ []) = omega (arith, length-append done (e ∷ [])) in
    rw (
      lt-ltb (length done) most_entries room,
      entry_made at e (All-head AreServicePorts e rest (both_all AreServicePorts done (e ∷ rest) all).1) fits,
      put_last done rest e sorted,
      size,
    ) refl) services [] are

fields_made : (w : Workload) → IsWorkload most_entries w → Makes parts_merged no_parts (workload_of w) (served w w.services)
unfolding workload_of
fields_made w p =
    let w0 : Workload = no_workload in
    let w1 : Workload = record w0 { name = w.name } in
    let w2 : Workload = record w1 { namespace = w.namespace } in
    let w3 : Workload = record w2 { addresses = w.addresses } in
    let w4 : Workload = record w3 { network = w.network } in
    let w5 : Workload = record w4 { hbone = w.hbone } in
    let w6 : Workload = record w5 { trust_domain = w.trust_domain } in
    let w7 : Workload = record w6 { service_account = w.service_account } in
    let w8 : Workload = record w7 { waypoint = w.waypoint } in
    let w9 : Workload = record w8 { node = w.node } in
    let w10 : Workload = record w9 { authorization_policies = w.authorization_policies } in
    let w11 : Workload = record w10 { healthy = w.healthy } in
    let w12 : Workload = record w11 { uid = w.uid } in
    let w13 : Workload = record w12 { hostname = w.hostname } in
    makes_both parts_merged (parts w0) (parts w1) (served w w.services) _ _
    (text_made (λ t. record w0 { name = t }) 1 refl (λ at bytes. refl) w.name p.name)
    (makes_both parts_merged (parts w1) (parts w2) (served w w.services) _ _
    (text_made (λ t. record w1 { namespace = t }) 2 refl (λ at bytes. refl) w.namespace p.namespace)
    (makes_both parts_merged (parts w2) (parts w3) (served w w.services) _ _
    (list_made (λ l. record w2 { addresses = l }) 3 octets_of IsGiven (λ at bytes. octets_in 3 bytes) refl (λ done at bytes. refl)
    (λ at ip q _. address_made ip q) w.addresses p.addresses)
    (makes_both parts_merged (parts w3) (parts w4) (served w w.services) _ _
    (text_made (λ t. record w3 { network = t }) 4 refl (λ at bytes. refl) w.network p.network)
    (makes_both parts_merged (parts w4) (parts w5) (served w w.services) _ _
    (hbone_made w4 w.hbone)
    (makes_both parts_merged (parts w5) (parts w6) (served w w.services) _ _
    (text_made (λ t. record w5 { trust_domain = t }) 6 refl (λ at bytes. refl) w.trust_domain p.trust_domain)
    (makes_both parts_merged (parts w6) (parts w7) (served w w.services) _ _
    (text_made (λ t. record w6 { service_account = t }) 7 refl (λ at bytes. refl) w.service_account p.service_account)
    (makes_both parts_merged (parts w7) (parts w8) (served w w.services) _ _
    (waypoint_made w7 w.waypoint p.waypoint)
    (makes_both parts_merged (parts w8) (parts w9) (served w w.services) _ _
    (text_made (λ t. record w8 { node = t }) 9 refl (λ at bytes. refl) w.node p.node)
    (makes_both parts_merged (parts w9) (parts w10) (served w w.services) _ _
    (list_made (λ l. record w9 { authorization_policies = l }) 16 (λ name. name) IsText (λ at bytes. text_in 16 bytes) refl
    (λ done at bytes. refl) (λ at t u _. rw u refl) w.authorization_policies p.authorization_policies)
    (makes_both parts_merged (parts w10) (parts w11) (served w w.services) _ _
    (healthy_made w10 w.healthy)
    (makes_both parts_merged (parts w11) (parts w12) (served w w.services) _ _
    (text_made (λ t. record w11 { uid = t }) 20 refl (λ at bytes. refl) w.uid p.uid)
    (makes_both parts_merged (parts w12) (parts w13) (served w w.services) _ _
    (text_made (λ t. record w12 { hostname = t }) 21 refl (λ at bytes. refl) w.hostname p.hostname)
    (services_made w w.services (p.few, p.services, p.sorted))))))))))))))

pub workload_made : (at : ℕ) (w : Workload) → IsWorkload most_entries w → length (workload_of w) < 2 ^ 64
    → workload_with no_parts at (workload_of w) ≡ Ok (served w w.services)
unfolding workload_with
workload_made at w p small = made_is_read parts_merged Wire no_parts (served w w.services) at (workload_of w) small (fields_made w p)
