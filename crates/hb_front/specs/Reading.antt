-- What bytes are that may not all be there yet.
use Rattle.std.specs.Prelude.{◌≡◌, ◌⊎◌, ℕ, ◌+◌, ◌<◌, ◌≤◌, ◌&&◌, ◌==◌, not, nat_lt, nat_eq, is_none, if◌then◌else◌, List, [], ◌∷◌, ◌++◌}
use Rattle.std.specs.Prelude.{length, take, drop, slice_index, Option, Some, None}
use Rattle.std.specs.Borrow.{Bor}
use Rattle.std.specs.Int.{w16, from_be_bytes}
use Rattle.std.specs.List.{starts_with}
use Rattle.hb_base.specs.Octets.{ip_of_octets}
use Rattle.hb_base.specs.declared.target.Target.{Target}
use Rattle.hb_front.specs.Tlvs.{Tlv, AreTlvs, TellIdentity}
use Rattle.hb_front.specs.Header.{Header, Fits, spelling, signature, family_of}
use Rattle.hb_front.specs.declared.fault.FrontFault.{FrontFault}
use Rattle.hb_front.specs.declared.fault.FrontFault.TheVariants.{BadSignature, BadVersion, BadFamily, BadLength, BadIdentity, TooLong}
use Rattle.hb_front.specs.declared.front.FrontRead.{FrontRead}
use Rattle.hb_front.specs.declared.front.FrontRead.TheVariants as reads

-- what is read of a header, and how many bytes it has
pub record Seen : Type 0 where
  pub source : Target
  pub destination : Target
  pub identity : Option (List ℕ)
  pub length : ℕ

-- a header stands in front; more bytes are wanted to tell; or no header can stand in front, and why
pub data Answer : Type 0 where
  Whole : Seen → Answer
  More : Answer
  Fault : FrontFault → Answer

abbrev pub text_of : Option (Bor (List ℕ)) → Option (List ℕ)
text_of None = None
text_of (Some text) = Some text.now

-- an answer without where its identity lies in memory
abbrev pub answer_of : FrontRead → Answer
answer_of (reads.Whole front) = Whole (record {
  source = front.source;
  destination = front.destination;
  identity = text_of front.identity;
  length = front.length;
})
answer_of reads.More = More
answer_of (reads.Fault fault) = Fault fault

-- what a header says of the two ends and the peer; an IPv4 address mapped into IPv6 is the IPv4 address
pub record Says (h : Header) (seen : Seen) : Type 0 where
  pub source : ip_of_octets h.source ≡ Some seen.source.ip
  pub source_port : h.source_port ≡ seen.source.port
  pub destination : ip_of_octets h.destination ≡ Some seen.destination.ip
  pub destination_port : h.destination_port ≡ seen.destination.port
  pub identity : TellIdentity h.tlvs seen.identity
  pub size : length (spelling h) ≡ seen.length

-- the number that two bytes spell, the most significant first
abbrev pub pair_at : List ℕ → ℕ → ℕ
pair_at bytes i = from_be_bytes w16 (slice_index bytes i ∷ slice_index bytes (i + 1) ∷ [])

-- the length field, of which a byte that isn't there counts as 0
abbrev pub size_at : List ℕ → ℕ
size_at bytes = pair_at bytes 14

-- the size of the addresses and ports of a family
abbrev pub least_size : ℕ → ℕ
least_size family = if family == 33 then 36 else 12

-- a length above 4,096, or with no room for addresses and ports
abbrev pub length_fault : ℕ → ℕ → Option FrontFault
length_fault size least = if nat_lt 4096 size then Some TooLong else if nat_lt size least then Some BadLength else None

-- The fault that the first 16 bytes make, as far as they are there: a byte of the signature, version and command, family,
-- and once both bytes of the length are there, this length.
abbrev pub head_fault : List ℕ → Option FrontFault
head_fault bytes =
    if not (starts_with nat_eq signature (take 12 bytes)) then Some BadSignature
    else if nat_lt 12 (length bytes) && not (slice_index bytes 12 == 33) then Some BadVersion
    else if nat_lt 13 (length bytes) && is_none (family_of (slice_index bytes 13)) then Some BadFamily
    else if nat_lt (length bytes) 16 then None
    else length_fault (size_at bytes) (least_size (slice_index bytes 13))

-- the bytes behind the ports, up to the length
abbrev pub tlv_bytes : List ℕ → List ℕ
tlv_bytes bytes = drop (least_size (slice_index bytes 13)) (take (size_at bytes) (drop 16 bytes))

-- a TLV passes the end, or all fit and tell no one identity
abbrev pub IsTlvFault : List ℕ → FrontFault → Type 0
IsTlvFault bytes BadLength = (tlvs : List Tlv) → AreTlvs bytes tlvs → ⊥
IsTlvFault bytes BadIdentity = (tlvs : List Tlv) × AreTlvs bytes tlvs × ((identity : Option (List ℕ)) → TellIdentity tlvs identity → ⊥)
IsTlvFault bytes BadSignature = ⊥
IsTlvFault bytes BadVersion = ⊥
IsTlvFault bytes BadFamily = ⊥
IsTlvFault bytes TooLong = ⊥

-- the header is whole, and its first fault is one of its TLVs
pub record IsWholeFault (bytes : List ℕ) (fault : FrontFault) : Type 0 where
  pub head : head_fault bytes ≡ None
  pub whole : 16 + size_at bytes ≤ length bytes
  pub tlvs : IsTlvFault (tlv_bytes bytes) fault

-- This is the answer. Whole: the bytes of a header stand in front, and it says what is read. More: the first 16 bytes, as
-- far as they are there, make no fault, and there are fewer bytes than these 16 and the length field say. A fault: that of
-- the first 16 bytes, or, once the header is whole, that of its TLVs.
abbrev pub IsAnswer : List ℕ → Answer → Type 0
IsAnswer bytes (Whole seen) = (h : Header) × Fits h × Says h seen × (rest : List ℕ) × (bytes ≡ spelling h ++ rest)
IsAnswer bytes More = (head_fault bytes ≡ None) × (length bytes < 16 + size_at bytes)
IsAnswer bytes (Fault fault) = (head_fault bytes ≡ Some fault) ⊎ IsWholeFault bytes fault

-- a whole header has no more bytes than are there
abbrev pub IsWithin : ℕ → FrontRead → Type 0
IsWithin size (reads.Whole front) = front.length ≤ size
IsWithin size reads.More = Unit {0}
IsWithin size (reads.Fault fault) = Unit {0}
