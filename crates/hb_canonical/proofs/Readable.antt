-- What the parts of a record are, where reading gives it.
use Rattle.std.proofs.Common.{◌≡◌, ℕ, ◌^◌, ◌<◌, ◌≤◌, Bool, true, false, cond, ◌&&◌, Some, Result, refl, ap, ◌∙◌, arith}
use Rattle.std.specs.Prelude.{nat_le, nat_eq}
use Rattle.std.specs.Int.{w128, to_be_bytes}
use Rattle.std.specs.List.{starts_with}
use Rattle.std.proofs.lemmas.Bool.{le-leb}
use Rattle.std.proofs.lemmas.Nat.{from_be_bytes-to_be_bytes_4}
use Rattle.hb_base.specs.declared.ip.Ip.{Ip}
use Rattle.hb_base.specs.declared.ip.Ip.TheVariants.{V4, V6}
use Rattle.hb_base.specs.declared.cidr.Cidr.{Cidr}
use Rattle.hb_base.specs.Cidr.{within, cidr_of}
use Rattle.hb_base.specs.Octets.{mapped_prefix, ip_of_octets, IsGiven}
use Rattle.hb_base.proofs.OctetLemmas.{number_back}
use Rattle.hb_wire.specs.Message.{and_then}
use Rattle.hb_records.specs.declared.fault.RecordFault.{RecordFault}
use Rattle.hb_records.specs.Entries.{ip_or, octets_in}
use Rattle.hb_canonical.specs.Fields.{octets_of}

-- a prefix that octets and a length give
abbrev pub IsGivenPrefix : Ip → ℕ → Type 0
IsGivenPrefix (V4 n) front = (n < 2 ^ 32) × (front ≤ 32)
IsGivenPrefix (V6 n) front =
    (n < 2 ^ 128) × (front ≤ 128) × ((nat_le 96 front && starts_with nat_eq (to_be_bytes w128 n) mapped_prefix) ≡ false)

abbrev pub IsPrefix : Cidr → Type 0
IsPrefix c = IsGivenPrefix c.ip c.length

-- an address is read from its octets
pub ip_back : (ip : Ip) → IsGiven ip → ip_of_octets (octets_of ip) ≡ Some ip
ip_back (V4 n) small = ap (λ (m : ℕ). Some (V4 m)) (from_be_bytes-to_be_bytes_4 n small)
ip_back (V6 n) (small, unmapped) = rw unmapped (ap (λ (m : ℕ). Some (V6 m)) (number_back n small))

within_back : (bits : ℕ) (ip : Ip) (front : ℕ) → front ≤ bits → within bits ip front ≡ Some (record { ip = ip; length = front })
within_back bits ip front le = rw (le-leb front bits le) refl

-- and so is a prefix, with its length
pub prefix_back : (ip : Ip) (front : ℕ) → IsGivenPrefix ip front → cidr_of (octets_of ip) front ≡ Some
    (record { ip = ip; length = front })
prefix_back (V4 n) front (small, le) =
    ap (λ (m : ℕ). within 32 (V4 m) front) (from_be_bytes-to_be_bytes_4 n small) ∙ within_back 32 (V4 n) front le
prefix_back (V6 n) front (small, le, unmapped) =
    rw unmapped (ap (λ (m : ℕ). within 128 (V6 m) front) (number_back n small) ∙ within_back 128 (V6 n) front le)

pub prefix_short : (ip : Ip) (front : ℕ) → IsGivenPrefix ip front → front ≤ 128
prefix_short (V4 n) front (small, le) = omega arith
prefix_short (V6 n) front (small, le, unmapped) = le

either_address : {S : Type 0} (field : ℕ) (test : Bool) (x y : Ip) (r : Result S RecordFault)
    → and_then (ip_or field (cond test (Some x) (Some y))) (λ _. r) ≡ r
either_address field true x y r = refl
either_address field false x y r = refl

-- the octets of an address are those of some address
pub octets_taken : {S : Type 0} (field : ℕ) (ip : Ip) (r : Result S RecordFault) → and_then (octets_in field (octets_of ip)) (λ _. r) ≡ r
octets_taken field (V4 n) r = refl
octets_taken field (V6 n) r = either_address field (starts_with nat_eq (to_be_bytes w128 n) mapped_prefix) _ _ r
