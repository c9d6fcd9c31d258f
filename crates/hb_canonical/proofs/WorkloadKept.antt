-- What workloads, services and address records are, where reading gives them.
use Rattle.std.proofs.Common.{ℕ, ◌+◌, ◌<◌, ◌≤◌, ◌==◌, List, [], ◌∷◌, length, Some, IfSome, Result, IfOk, if◌then◌else◌, arith}
use Rattle.std.specs.Prelude.{nat_lt}
use Rattle.std.specs.List.{All}
use Rattle.std.specs.Str.{bytes_eq}
use Rattle.std.proofs.lemmas.Bool.{ltb-true}
use Rattle.std.proofs.lemmas.List.Elements.{All-nil, All-cons, All-head, All-tail}
use Rattle.hb_base.specs.Octets.{IsGiven}
use Rattle.hb_wire.specs.Field.{Value, varint, eight, span, four}
use Rattle.hb_wire.specs.Spelling.{IsOctet}
use Rattle.hb_records.specs.declared.fault.RecordFault.{RecordFault}
use Rattle.hb_records.specs.declared.fault.RecordFault.TheVariants.{Wire}
use Rattle.hb_records.specs.declared.port.ServicePorts.{ServicePorts}
use Rattle.hb_records.specs.declared.workload.Workload.{Workload}
use Rattle.hb_records.specs.Entries.{text_in, octets_in, most_entries, too_many}
use Rattle.hb_records.specs.Ports.{is_before, with_entry, entry_in}
use Rattle.hb_records.specs.Gateway.{gateway_with}
use Rattle.hb_records.specs.Workload.{workload_text, workload_span, workload_number, with_service, service_entry, parts_span, parts_value, parts_merged, no_parts, workload_with}
use Rattle.hb_canonical.proofs.Kept.{by_test, ok_cond, set_kept, read_keeps, HasOctets, Taker}
use Rattle.hb_canonical.proofs.Pieces.{IsText, IsList, no_text, no_list}
use Rattle.hb_canonical.proofs.PiecesKept.{text_put, more_put, text_kept}
use Rattle.hb_canonical.proofs.AddressesKept.{ip_kept}
use Rattle.hb_canonical.proofs.PlacesKept.{AreServicePorts, entry_kept, IsGateway, gateway_kept}
use Rattle.hb_canonical.proofs.Sorted.{IsSorted, sorted_with}

-- a workload that has at most so many services
pub record IsWorkload (most : ℕ) (w : Workload) : Type 0 where
  pub name : IsText w.name
  pub namespace : IsText w.namespace
  pub addresses : IsList IsGiven w.addresses
  pub network : IsText w.network
  pub trust_domain : IsText w.trust_domain
  pub service_account : IsText w.service_account
  pub waypoint : IfSome w.waypoint IsGateway
  pub node : IsText w.node
  pub authorization_policies : IsList IsText w.authorization_policies
  pub uid : IsText w.uid
  pub hostname : IsText w.hostname
  pub services : All AreServicePorts w.services
  pub sorted : IsSorted w.services
  pub few : length w.services ≤ most

workload_text_kept : (most : ℕ) (w : Workload) (number : ℕ) (bytes : List ℕ) → IsWorkload most w → IfOk (workload_text w number bytes)
    (IsWorkload most)
workload_text_kept most w number bytes p =
    ok_cond (number == 1) _ _ _
    (text_put 1 bytes (λ t. record w { name = t }) (IsWorkload most) (λ t q. assumption))
    (ok_cond (number == 2) _ _ _
    (text_put 2 bytes (λ t. record w { namespace = t }) (IsWorkload most) (λ t q. assumption))
    (ok_cond (number == 4) _ _ _
    (text_put 4 bytes (λ t. record w { network = t }) (IsWorkload most) (λ t q. assumption))
    (ok_cond (number == 6) _ _ _
    (text_put 6 bytes (λ t. record w { trust_domain = t }) (IsWorkload most) (λ t q. assumption))
    (ok_cond (number == 7) _ _ _
    (text_put 7 bytes (λ t. record w { service_account = t }) (IsWorkload most) (λ t q. assumption))
    (ok_cond (number == 9) _ _ _
    (text_put 9 bytes (λ t. record w { node = t }) (IsWorkload most) (λ t q. assumption))
    (ok_cond (number == 20) _ _ _
    (text_put 20 bytes (λ t. record w { uid = t }) (IsWorkload most) (λ t q. assumption))
    (ok_cond (number == 21) _ _ _
    (text_put 21 bytes (λ t. record w { hostname = t }) (IsWorkload most) (λ t q. assumption)) p)))))))

workload_span_kept : (most : ℕ) (w : Workload) (number at : ℕ) (bytes : List ℕ) → IsWorkload most w → All IsOctet bytes
    → IfOk (workload_span w number at bytes) (IsWorkload most)
workload_span_kept most w number at bytes p octets =
    ok_cond (number == 3) _ _ _
    (more_put 3 w.addresses (octets_in 3 bytes) (λ l. record w { addresses = l }) IsGiven (IsWorkload most)
    (ip_kept 3 bytes octets) p.addresses (λ l q. assumption))
    (ok_cond (number == 8) _ _ _
    (set_kept (gateway_with 8 w.waypoint at bytes) (λ g. record w { waypoint = Some g }) IsGateway (IsWorkload most)
    (gateway_kept 8 w.waypoint at bytes p.waypoint octets) (λ g q. assumption))
    (ok_cond (number == 16) _ _ _
    (more_put 16 w.authorization_policies (text_in 16 bytes) (λ l. record w { authorization_policies = l }) IsText (IsWorkload most)
    (text_kept 16 bytes) p.authorization_policies (λ l q. assumption))
    (workload_text_kept most w number bytes p)))

workload_number_kept : (most : ℕ) (w : Workload) (number n : ℕ) → IsWorkload most w → IsWorkload most (workload_number w number n)
workload_number_kept most w number n p =
    by_test (IsWorkload most) (number == 5) _ _ (λ _. assumption)
    (λ _. by_test (IsWorkload most) (number == 17) _ _ (λ _. assumption) (λ _. p))

each_with : (xs : List ServicePorts) (e : ServicePorts) → All AreServicePorts xs → AreServicePorts e → All AreServicePorts
    (with_entry xs e)
each_with [] e all one = All-cons AreServicePorts e [] one all
each_with (x ∷ xs) e all one =
    let first = All-head AreServicePorts x xs all in
    let rest = All-tail AreServicePorts x xs all in
    by_test (All AreServicePorts) (is_before x e) _ _ (λ _. All-cons AreServicePorts x _ first (each_with xs e rest one))
    (λ _. by_test (All AreServicePorts) (bytes_eq x.key e.key) _ _ (λ _. All-cons AreServicePorts e xs one rest)
    (λ _. All-cons AreServicePorts e (x ∷ xs) one all))

one_longer : (xs : List ServicePorts) (e : ServicePorts) → length (with_entry xs e) ≤ length xs + 1
one_longer [] e = omega arith
one_longer (x ∷ xs) e =
    by_test (λ (l : List ServicePorts). length l ≤ length (x ∷ xs) + 1) (is_before x e) _ _
    (λ _. let more = one_longer xs e in omega arith)
    (λ _. by_test (λ (l : List ServicePorts). length l ≤ length (x ∷ xs) + 1) (bytes_eq x.key e.key) _ _ (λ _. omega arith)
    (λ _. omega arith))

-- a workload as far as its fields were read
abbrev pub AreParts : Taker parts_merged → Type 0
AreParts p = IsWorkload p.entries p.workload × (p.entries ≤ most_entries)

with_service_kept : (p : Taker parts_merged) (e : ServicePorts) → AreParts p → p.entries < most_entries → AreServicePorts e
    → AreParts (with_service p e)
with_service_kept p e (q, few) room one =
    let w = p.workload in
    let services = each_with w.services e q.services one in
    let sorted = sorted_with w.services e q.sorted in
    let counted : length (with_entry w.services e) ≤ p.entries + 1 =
    let longer = one_longer w.services e in let had = q.few in omega arith in
    (assumption, omega arith)

room_there : {S : Type 0} (entries : ℕ) (r : Result S RecordFault) (P : S → Type 0) → (entries < most_entries → IfOk r P)
    → IfOk (if nat_lt entries most_entries then r else too_many 22) P
room_there entries r P p = by_test (λ (x : Result _ RecordFault). IfOk x P) (nat_lt entries most_entries) r (too_many 22)
    (λ lt. p (ltb-true entries most_entries lt)) (λ _. tt)

service_kept : (p : Taker parts_merged) (at : ℕ) (bytes : List ℕ) → AreParts p → All IsOctet bytes
    → IfOk (service_entry p at bytes) AreParts
service_kept p at bytes q octets = room_there p.entries _ AreParts (λ room.
    set_kept (entry_in at bytes) (λ e. with_service p e) AreServicePorts AreParts (entry_kept at bytes octets)
    (λ e one. with_service_kept p e q room one))

parts_span_kept : (p : Taker parts_merged) (number at : ℕ) (bytes : List ℕ) → AreParts p → All IsOctet bytes
    → IfOk (parts_span p number at bytes) AreParts
parts_span_kept p number at bytes q octets =
    ok_cond (number == 22) _ _ _ (service_kept p at bytes q octets)
    (set_kept (workload_span p.workload number at bytes) (λ w. record p { workload = w }) (IsWorkload p.entries) AreParts
    (workload_span_kept p.entries p.workload number at bytes q.0 octets) (λ w r. (r, q.1)))

parts_value_kept : (p : Taker parts_merged) (number at : ℕ) (v : Value) → AreParts p → HasOctets v
    → IfOk (parts_value p number at v) AreParts
parts_value_kept p number at (span bytes) q octets = parts_span_kept p number at bytes q octets
parts_value_kept p number at (varint n) q octets = (workload_number_kept p.entries p.workload number n q.0, q.1)
parts_value_kept p number at (eight n) q octets = q
parts_value_kept p number at (four n) q octets = q

pub none_kept : AreParts no_parts
none_kept = (
  record {
    name = no_text;
    namespace = no_text;
    addresses = no_list IsGiven;
    network = no_text;
    trust_domain = no_text;
    service_account = no_text;
    waypoint = tt;
    node = no_text;
    authorization_policies = no_list IsText;
    uid = no_text;
    hostname = no_text;
    services = All-nil AreServicePorts;
    sorted = tt;
    few = omega arith;
  },
  omega arith,
)

pub workload_kept : (p : Taker parts_merged) (at : ℕ) (bytes : List ℕ) → AreParts p → All IsOctet bytes
    → IfOk (workload_with p at bytes) AreParts
unfolding workload_with
workload_kept p at bytes q octets =
    read_keeps parts_merged Wire AreParts (λ p f q o. parts_value_kept p f.number f.at f.value q o) p at bytes q octets
