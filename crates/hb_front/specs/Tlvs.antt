-- Type-length-values, TLVs in short (PROXY protocol section 2.2).
use Rattle.std.specs.Prelude.{◌≡◌, ℕ, ◌<◌, ◌^◌, ◌==◌, List, [], ◌∷◌, ◌++◌, length, map, filter, Option, Some, None, IsSome}
use Rattle.std.specs.Int.{w16, to_be_bytes}
use Rattle.std.specs.List.{flat_map, AllByRecursion}
use Rattle.hb_base.specs.IdentityText.{identity_of}

-- a type and a value
pub record Tlv : Type 0 where
  pub kind : ℕ
  pub value : List ℕ

-- the type fits one byte, and the value's length two
pub record TlvFits (t : Tlv) : Type 0 where
  pub kind : t.kind < 256
  pub value : length t.value < 2 ^ 16

-- its bytes: the type, the value's length with the most significant byte first, and the value
abbrev pub tlv_text : Tlv → List ℕ
tlv_text t = t.kind ∷ (to_be_bytes w16 (length t.value) ++ t.value)

-- the bytes are these TLVs, one behind the other
pub record AreTlvs (bytes : List ℕ) (tlvs : List Tlv) : Type 0 where
  pub fit : AllByRecursion TlvFits tlvs
  pub joined : bytes ≡ flat_map tlv_text tlvs

-- the type of the identity, e0, the first of those for own use (section 2.2.8, PP2_TYPE_MIN_CUSTOM)
abbrev pub identity_kind : ℕ
identity_kind = 224

-- what the TLVs of the identity's type hold
abbrev pub identities : List Tlv → List (List ℕ)
identities tlvs = map (λ t. t.value) (filter (λ t. t.kind == identity_kind) tlvs)

-- the TLVs tell this identity: there is none of its type, or there is one alone, and it holds the text of an identity
abbrev pub TellIdentity : List Tlv → Option (List ℕ) → Type 0
TellIdentity tlvs None = identities tlvs ≡ []
TellIdentity tlvs (Some text) = (identities tlvs ≡ text ∷ []) × IsSome (identity_of text)
