-- What is written is read.
use Rattle.std.proofs.Common.{◌≡◌, ℕ, ◌+◌, ◌<◌, ◌≤◌, ◌^◌, Bool, false, cond, [], length, refl, ap, ◌∙◌, arith}
use Rattle.std.proofs.Common.{Option, Some, None, length-append}
use Rattle.std.specs.Prelude.{IsSome, IfSome}
use Rattle.std.specs.List.{AllByRecursion}
use Rattle.std.specs.Option.{option_map}
use Rattle.std.proofs.lemmas.Nat.{from_be_bytes-to_be_bytes_4}
use Rattle.hb_base.specs.IdentityText.{identity_of}
use Rattle.hb_base.specs.Octets.{ip_of_octets, IsGiven}
use Rattle.hb_base.specs.declared.identity.Identity.{Identity}
use Rattle.hb_base.specs.declared.ip.Ip.{Ip}
use Rattle.hb_base.specs.declared.ip.Ip.TheVariants.{V4, V6}
use Rattle.hb_base.proofs.IdentityLemmas.{identity_of-text}
use Rattle.hb_base.proofs.OctetLemmas.{number_back}
use Rattle.hb_front.specs.Header.{body, address_len}
use Rattle.hb_front.specs.Tlvs.{TlvFits, TellIdentity}
use Rattle.hb_front.specs.Written.{family_for, octets_in, identity_text, identity_tlvs, header_of, IsSent}
use Rattle.hb_front.specs.Laws.{WrittenIsRead}
use Rattle.hb_front.specs.declared.family.Family.{Family}
use Rattle.hb_front.specs.declared.family.Family.TheVariants.{Inet, Inet6}
use Rattle.hb_front.proofs.TlvLists.{texts}

-- an address and the octets in which it is written
pub record Octets (f : Family) (ip : Ip) : Type 0 where
  pub len : length (octets_in f ip) ≡ address_len f
  pub back : ip_of_octets (octets_in f ip) ≡ Some ip

not_so : (b : Bool) (x y : Option Ip) → b ≡ false → cond b x y ≡ y
not_so b x y is = rw is refl

v4_octets : (n : ℕ) → n < 2 ^ 32 → Octets Inet (V4 n)
v4_octets n fits = record { len = refl; back = ap (λ m. Some (V4 m)) (from_be_bytes-to_be_bytes_4 n fits) }

mapped_octets : (n : ℕ) → n < 2 ^ 32 → Octets Inet6 (V4 n)
mapped_octets n fits = record { len = refl; back = ap (λ m. Some (V4 m)) (from_be_bytes-to_be_bytes_4 n fits) }

v6_octets : (n : ℕ) → IsGiven (V6 n) → Octets Inet6 (V6 n)
v6_octets n (fits, unmapped) =
    record { len = refl; back = not_so _ _ _ unmapped ∙ ap (λ m. Some (V6 m)) (number_back n fits) }

six : (ip : Ip) → IsGiven ip → Octets Inet6 ip
six (V4 n) given = mapped_octets n given
six (V6 n) given = v6_octets n given

source_octets : (source destination : Ip) → IsGiven source → Octets (family_for source destination) source
source_octets (V4 n) (V4 m) given = v4_octets n given
source_octets (V4 n) (V6 m) given = mapped_octets n given
source_octets (V6 n) destination given = v6_octets n given

destination_octets : (source destination : Ip) → IsGiven destination → Octets (family_for source destination) destination
destination_octets (V4 n) (V4 m) given = v4_octets m given
destination_octets (V4 n) (V6 m) given = v6_octets m given
destination_octets (V6 n) destination given = six destination given

address_small : (f : Family) → address_len f ≤ 16
address_small Inet = omega arith
address_small Inet6 = omega arith

-- the TLVs of an identity that may be sent
pub record Sent (identity : Option Identity) : Type 0 where
  pub fit : AllByRecursion TlvFits (identity_tlvs identity)
  pub size : length (texts (identity_tlvs identity)) ≤ 4003
  pub tell : TellIdentity (identity_tlvs identity) (option_map identity_text identity)

sent : (identity : Option Identity) → IfSome identity IsSent → Sent identity
sent None is = record { fit = tt; size = omega arith; tell = refl }
sent (Some i) is =
    let known : identity_of (identity_text i) ≡ Some i = identity_of-text i is.trust_domain is.namespace is.service_account in
    record {
      fit = (record { kind = omega arith; value = omega (arith, is.size) }, tt);
      size = omega (arith, is.size, length-append (identity_text i) []);
      tell = (refl, some_identity known);
    }
  where
    some_identity : identity_of (identity_text i) ≡ Some i → IsSome (identity_of (identity_text i))
    some_identity e = rw e refl

pub written_is_read : WrittenIsRead
written_is_read source destination identity more source_given destination_given source_port destination_port sent_is =
    let f = family_for source.ip destination.ip in
    let h = header_of source destination identity in
    let a = source_octets source.ip destination.ip source_given in
    let b = destination_octets source.ip destination.ip destination_given in
    let s = sent identity sent_is in
    let small = address_small f in
    let size : length (body h) ≡ length h.source + (length h.destination + (4 + length (texts h.tlvs))) =
    omega (arith, length-append {A = ℕ}) in (
      h,
      record {
        source = a.len;
        destination = b.len;
        source_port = source_port;
        destination_port = destination_port;
        tlvs = s.fit;
        size = omega (arith, size, a.len, b.len, small, s.size);
      },
      record {
        source = a.back;
        source_port = refl;
        destination = b.back;
        destination_port = refl;
        identity = s.tell;
        size = refl;
      },
      more,
      refl,
    )
