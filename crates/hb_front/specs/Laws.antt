-- Laws of what is read and written, and small bytes that are no header.
use Rattle.std.specs.Prelude.{◌≡◌, ◌+◌, ◌<◌, ◌≤◌, ◌^◌, ℕ, List, [], ◌∷◌, ◌++◌, length, codes, Option, IfSome}
use Rattle.std.specs.Option.{option_map}
use Rattle.hb_base.specs.Octets.{IsGiven}
use Rattle.hb_base.specs.declared.identity.Identity.{Identity}
use Rattle.hb_base.specs.declared.target.Target.{Target}
use Rattle.hb_front.specs.Tlvs.{Tlv, AreTlvs, identities}
use Rattle.hb_front.specs.Header.{Header, Fits, spelling, signature}
use Rattle.hb_front.specs.Reading.{Seen, Answer, IsAnswer, Whole, More, Fault, size_at}
use Rattle.hb_front.specs.Written.{front_text, identity_text, IsSent}
use Rattle.hb_front.specs.declared.fault.FrontFault.TheVariants.{BadSignature, BadVersion, BadIdentity}

-- bytes have one answer
abbrev pub OneAnswer : Type 0
OneAnswer = (bytes : List ℕ) (a b : Answer) → IsAnswer bytes a → IsAnswer bytes b → a ≡ b

-- in whatever pieces bytes come: an answer other than More stays the answer
abbrev pub AnswerStays : Type 0
AnswerStays = (bytes more : List ℕ) (a b : Answer) → IsAnswer bytes a → ¬ (a ≡ More) → IsAnswer (bytes ++ more) b → a ≡ b

-- what is written is read as what was put, whatever comes behind it
abbrev pub WrittenIsRead : Type 0
WrittenIsRead = (source destination : Target) (identity : Option Identity) (more : List ℕ) → IsGiven source.ip → IsGiven destination.ip
    → source.port < 2 ^ 16 → destination.port < 2 ^ 16 → IfSome identity IsSent
    → IsAnswer (front_text source destination identity ++ more) (Whole (record {
      source = source;
      destination = destination;
      identity = option_map identity_text identity;
      length = length (front_text source destination identity);
    }))

-- a header in which the identity's type stands twice or more has this fault, whatever its TLVs are
abbrev pub TwoIdentitiesAreRefused : Type 0
TwoIdentitiesAreRefused = (h : Header) (more : List ℕ) (a : Answer) → Fits h → 2 ≤ length (identities h.tlvs)
    → IsAnswer (spelling h ++ more) a → a ≡ Fault BadIdentity

-- the length of a header counts the first 16 bytes and all that the length field says, so all TLVs
abbrev pub LengthCountsAll : Type 0
LengthCountsAll = (bytes : List ℕ) (seen : Seen) → IsAnswer bytes (Whole seen) → seen.length ≡ 16 + size_at bytes

-- no bytes tell nothing; a request of another protocol is refused for its signature, and version 2 with command LOCAL for that
abbrev pub SmallAnswers : Type 0
SmallAnswers = IsAnswer [] More × IsAnswer signature More × IsAnswer (codes "GET / HTTP/1.1") (Fault BadSignature)
    × IsAnswer (signature ++ 32 ∷ []) (Fault BadVersion)

-- a fault that is there is not passed over for want of bytes
abbrev pub FaultIsNotMore : Type 0
FaultIsNotMore = (IsAnswer (codes "GET / HTTP/1.1") More → ⊥) × (IsAnswer (signature ++ 32 ∷ []) More → ⊥)

-- an empty TLV of type 4 is one, and one of two bytes that ends after its first is none
abbrev pub SmallTlvs : Type 0
SmallTlvs = AreTlvs (4 ∷ 0 ∷ 0 ∷ []) (record { kind = 4; value = [] } ∷ [])
    × ((tlvs : List Tlv) → AreTlvs (224 ∷ 0 ∷ 2 ∷ 97 ∷ []) tlvs → ⊥)
