-- The header that is written.
use Rattle.std.specs.Prelude.{ℕ, ◌≤◌, IsTrue, List, [], ◌∷◌, ◌++◌, length, Option, Some, None, codes}
use Rattle.std.specs.Borrow.{Bor}
use Rattle.std.specs.Int.{w32, w128, to_be_bytes}
use Rattle.hb_base.specs.IdentityText.{is_name, principal_of}
use Rattle.hb_base.specs.Octets.{mapped_prefix}
use Rattle.hb_base.specs.declared.identity.Identity.{Identity}
use Rattle.hb_base.specs.declared.ip.Ip.{Ip}
use Rattle.hb_base.specs.declared.ip.Ip.TheVariants.{V4, V6}
use Rattle.hb_base.specs.declared.target.Target.{Target}
use Rattle.hb_front.specs.Header.{Header, spelling}
use Rattle.hb_front.specs.Tlvs.{Tlv, identity_kind}
use Rattle.hb_front.specs.declared.family.Family.{Family}
use Rattle.hb_front.specs.declared.family.Family.TheVariants.{Inet, Inet6}

-- TCP over IPv4 where both addresses are of IPv4
abbrev pub family_for : Ip → Ip → Family
family_for (V4 _) (V4 _) = Inet
family_for (V4 _) (V6 _) = Inet6
family_for (V6 _) _ = Inet6

-- the octets of an address in a header of this family: an IPv4 address is mapped into IPv6
abbrev pub octets_in : Family → Ip → List ℕ
octets_in Inet (V4 n) = to_be_bytes w32 n
octets_in Inet6 (V4 n) = mapped_prefix ++ to_be_bytes w32 n
octets_in _ (V6 n) = to_be_bytes w128 n

-- the text of an identity
abbrev pub identity_text : Identity → List ℕ
identity_text i = codes "spiffe://" ++ principal_of i

-- one TLV of the identity's type, where there is an identity
abbrev pub identity_tlvs : Option Identity → List Tlv
identity_tlvs None = []
identity_tlvs (Some i) = record { kind = identity_kind; value = identity_text i } ∷ []

-- the header of these ends and this identity
abbrev pub header_of : Target → Target → Option Identity → Header
header_of source destination identity = record {
  family = family_for source.ip destination.ip;
  source = octets_in (family_for source.ip destination.ip) source.ip;
  destination = octets_in (family_for source.ip destination.ip) destination.ip;
  source_port = source.port;
  destination_port = destination.port;
  tlvs = identity_tlvs identity;
}

-- its bytes
abbrev pub front_text : Target → Target → Option Identity → List ℕ
front_text source destination identity = spelling (header_of source destination identity)

-- three names, and a text of at most 4,000 bytes
pub record IsSent (i : Identity) : Type 0 where
  pub trust_domain : IsTrue (is_name i.trust_domain)
  pub namespace : IsTrue (is_name i.namespace)
  pub service_account : IsTrue (is_name i.service_account)
  pub size : length (identity_text i) ≤ 4000

-- an identity that is lent
abbrev pub lent : Option (Bor Identity) → Option Identity
lent None = None
lent (Some identity) = Some identity.now
