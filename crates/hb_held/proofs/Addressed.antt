-- What the index of addresses finds.
use Rattle.std.proofs.Common.{◌≡◌, ℕ, Bool, true, false, List, [], ◌∷◌, Option, Some, None, is_some, refl, ap, sym, ◌∙◌, eq-eqb}
use Rattle.std.specs.Prelude.{◌==◌, ◌||◌, map}
use Rattle.std.specs.List.{list_any}
use Rattle.std.specs.Str.{bytes_eq}
use Rattle.std.specs.FinMap.{empty, find, get, entries, get-empty, get-entries}
use Rattle.std.proofs.lemmas.Slice.Eq.{bytes_eq-Decides}
use Rattle.hb_base.specs.declared.ip.Ip.{Ip}
use Rattle.hb_base.specs.declared.ip.Ip.TheVariants as ips
use Rattle.hb_index.specs.Index.{Names, names_or_none, is_among}
use Rattle.hb_index.specs.Indexed.{numbers_in, AreNamesAt}
use Rattle.hb_index.specs.Named.{Named}
use Rattle.hb_index.proofs.Entries.{by_bytes}
use Rattle.hb_index.proofs.Rising.{same}
use Rattle.hb_index.proofs.Undone.{never, or_left, or_right, and_right}
use Rattle.hb_records.specs.declared.address.AddressRecord.{AddressRecord}
use Rattle.hb_records.specs.declared.address.AddressRecord.TheVariants as addresses
use Rattle.hb_records.specs.declared.service.Service.{Service}
use Rattle.hb_records.specs.declared.workload.Workload.{Workload}
use Rattle.hb_held.specs.declared.versioned.Versioned.{Versioned}
use Rattle.hb_held.specs.Lookup.{workload_in, workload_of, service_in, service_of, ip_eq, has_address, is_address, serves_at}
use Rattle.hb_held.specs.Endpoints.{joined, serves}
use Rattle.hb_held.specs.Numbers.{number_of, text_number, service_number, numbers_of, address_numbers}
use Rattle.hb_held.proofs.Asked.{any_of_both}
use Rattle.hb_held.proofs.LeastLaw.{nothing, MissesNone, IsLeastBy}

ip_same : (a b : Ip) → ip_eq a b ≡ true → (number_of a == number_of b) ≡ true
ip_same (ips.V4 a) (ips.V4 b) h = h
ip_same (ips.V4 a) (ips.V6 b) h = absurd (never h)
ip_same (ips.V6 a) (ips.V4 b) h = absurd (never h)
ip_same (ips.V6 a) (ips.V6 b) h = h

among_map : {A : Type 0} (f : A → ℕ) (test : A → Bool) (n : ℕ) → ((a : A) → test a ≡ true → (f a == n) ≡ true) → (xs : List A)
    → list_any test xs ≡ true → is_among (map f xs) n ≡ true
among_map f test n alike [] h = absurd (never h)
among_map f test n alike (x ∷ xs) h =
    elim (test x) as (λ b. test x ≡ b → (b || list_any test xs) ≡ true → ((f x == n) || is_among (map f xs) n) ≡ true) [
      | true ↦ λ yes _. or_left _ _ (alike x yes)
      | false ↦ λ _ there. or_right (f x == n) _ (among_map f test n alike xs there)
    ] refl h

workload_number : (network : List ℕ) (ip : Ip) (r : AddressRecord) (w : Workload) → workload_of r ≡ Some w
    → has_address network ip w ≡ true → is_among (numbers_of r) (number_of ip) ≡ true
workload_number network ip (addresses.Workload v) w is at =
    any_of_both (λ n. n == number_of ip) (map number_of v.addresses) (map service_number v.services)
    ∙ or_left _ _ (among_map number_of (λ a. ip_eq a ip) (number_of ip) (λ a. ip_same a ip) v.addresses
    (and_right (bytes_eq v.network network) _ (ap (has_address network ip) (same v w is) ∙ at)))
workload_number network ip (addresses.Service s) w is at = nothing w is

endpoint_number : (network namespace hostname : List ℕ) (r : AddressRecord) (w : Workload) → workload_of r ≡ Some w
    → serves network namespace hostname w ≡ true → is_among (numbers_of r) (text_number (joined namespace hostname)) ≡ true
endpoint_number network namespace hostname (addresses.Workload v) w is at =
    let key = joined namespace hostname in
    any_of_both (λ n. n == text_number key) (map number_of v.addresses) (map service_number v.services)
    ∙ or_right (is_among (map number_of v.addresses) (text_number key)) _
    (among_map service_number (λ s. bytes_eq s.key key) (text_number key)
    (λ s yes. eq-eqb (service_number s) (text_number key) (ap text_number ((bytes_eq-Decides s.key key).0 yes))) v.services
    (and_right (bytes_eq v.network network) _ (ap (serves network namespace hostname) (same v w is) ∙ at)))
endpoint_number network namespace hostname (addresses.Service s) w is at = nothing w is

address_number : (network : List ℕ) (ip : Ip) (r : AddressRecord) (s : Service) → service_of r ≡ Some s
    → serves_at network ip s ≡ true → is_among (numbers_of r) (number_of ip) ≡ true
address_number network ip (addresses.Workload w) s is at = nothing s is
address_number network ip (addresses.Service t) s is at =
    among_map (λ a. number_of a.address) (is_address network ip) (number_of ip)
    (λ a yes. ip_same a.address ip (and_right (bytes_eq a.network network) _ yes)) t.addresses
    (ap (serves_at network ip) (same t s is) ∙ at)

module _ (m : Named (Versioned AddressRecord)) (network : List ℕ) (ip : Ip) where
  -- what stands under a name in some names or none
  abbrev find_in : Option Names → List ℕ → Option (Unit {0})
  find_in None name = get (empty {X = Unit {0}} {R = by_bytes}) name
  find_in (Some names) name = find by_bytes name (entries names)

  nothing_found : (name : List ℕ) → is_some (get (empty {X = Unit {0}} {R = by_bytes}) name) ≡ false
  nothing_found name = ap is_some (get-empty by_bytes name)

  named : (o : Option Names) → AreNamesAt address_numbers m (number_of ip) o → (name : List ℕ) (v : Versioned AddressRecord)
      → get m name ≡ Some v
      → is_among (numbers_of v.content) (number_of ip) ≡ true → is_some (find_in o name) ≡ true
  named None all name v is at = all name ∙ ap (λ o. is_among (numbers_in address_numbers o) (number_of ip)) is ∙ at
  named (Some names) all name v is at =
      ap is_some (sym (get-entries names name)) ∙ all name ∙ ap (λ o. is_among (numbers_in address_numbers o) (number_of ip)) is ∙ at

  pub workloads_named : (names : Names) → AreNamesAt address_numbers m (number_of ip) (Some names)
      → MissesNone workload_in (has_address network ip) m (entries names)
  workloads_named names all = λ name w at. named (Some names) all name at.0 at.1 (workload_number network ip at.0.content w at.2 at.3)

  pub services_named : (names : Names) → AreNamesAt address_numbers m (number_of ip) (Some names)
      → MissesNone service_in (serves_at network ip) m (entries names)
  services_named names all = λ name s at. named (Some names) all name at.0 at.1 (address_number network ip at.0.content s at.2 at.3)

  pub no_workload_named : AreNamesAt address_numbers m (number_of ip) None → IsLeastBy workload_in (has_address network ip) m None
  no_workload_named all = λ name w at. never (sym (nothing_found name)
      ∙ named None all name at.0 at.1 (workload_number network ip at.0.content w at.2 at.3))

  pub no_service_named : AreNamesAt address_numbers m (number_of ip) None → IsLeastBy service_in (serves_at network ip) m None
  no_service_named all = λ name s at. never (sym (nothing_found name)
      ∙ named None all name at.0 at.1 (address_number network ip at.0.content s at.2 at.3))

-- the workloads that serve a service are among those that the index has under the number of its key
pub endpoints_named : (m : Named (Versioned AddressRecord)) (network namespace hostname : List ℕ) (names : Option Names)
    → AreNamesAt address_numbers m (text_number (joined namespace hostname)) names
    → MissesNone workload_in (serves network namespace hostname) m (entries (names_or_none names))
endpoints_named m network namespace hostname names all = λ name w at.
    ap is_some (sym (get-entries (names_or_none names) name)) ∙ all name
    ∙ ap (λ o. is_among (numbers_in address_numbers o) (text_number (joined namespace hostname))) at.1
    ∙ endpoint_number network namespace hostname at.0.content w at.2 at.3
