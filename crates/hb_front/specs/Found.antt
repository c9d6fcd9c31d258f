-- How the identity is looked for.
use Rattle.std.specs.Prelude.{◌≡◌, ℕ, ◌<◌, ◌≤◌, List, [], ◌∷◌, ◌++◌, length, Option, Result, Ok, Err}
use Rattle.std.specs.Borrow.{Bor}
use Rattle.hb_front.specs.Tlvs.{Tlv, TlvFits, tlv_text, AreTlvs, TellIdentity}
use Rattle.hb_front.specs.Reading.{IsTlvFault, text_of}
use Rattle.hb_front.specs.declared.fault.FrontFault.{FrontFault}
use Rattle.hb_front.specs.declared.identity.Found.{Found}
use Rattle.hb_front.specs.declared.identity.Found.TheVariants.{Nothing, One, Several}

-- a TLV of this type and value stands in front, and this behind it
pub record IsFirstTlv (bytes : List ℕ) (kind : ℕ) (value behind : List ℕ) : Type 0 where
  pub fits : TlvFits (record { kind = kind; value = value })
  pub joined : bytes ≡ tlv_text (record { kind = kind; value = value }) ++ behind
  pub shorter : length behind < length bytes

-- no TLV stands in front
abbrev pub HasNoTlv : List ℕ → Type 0
HasNoTlv bytes = (t : Tlv) (behind : List ℕ) → TlvFits t → bytes ≡ tlv_text t ++ behind → ⊥

-- what is kept of these values: none, one, or that they are more
abbrev pub AreFound : Found → List (List ℕ) → Type 0
AreFound Nothing values = values ≡ []
AreFound (One value) values = values ≡ value.now ∷ []
AreFound Several values = 2 ≤ length values

-- the identity that the TLVs of these bytes tell, or their fault
abbrev pub ReadsIdentity : List ℕ → Result (Option (Bor (List ℕ))) FrontFault → Type 0
ReadsIdentity bytes (Ok identity) = (tlvs : List Tlv) × AreTlvs bytes tlvs × TellIdentity tlvs (text_of identity)
ReadsIdentity bytes (Err fault) = IsTlvFault bytes fault
