-- The text of an identity (the SPIFFE ID specification, section 2).
use Rattle.std.specs.Prelude.{◌≡◌, ◌↔◌, IsTrue, ℕ, Bool, ◌&&◌, ◌||◌, ◌==◌, not, nat_le, nat_eq, if◌then◌else◌, List, [], ◌∷◌, ◌++◌, length, drop, Option, Some, None, codes}
use Rattle.std.specs.Borrow.{Bor}
use Rattle.std.specs.List.{list_all, starts_with}
use Rattle.std.specs.Str.{bytes_eq}
use Rattle.hb_base.specs.Decimal.{is_digit}
use Rattle.hb_base.specs.Parts.{parts}
use Rattle.hb_base.specs.declared.identity.Identity.{Identity}

-- a letter, a digit, a dot, an underscore or a dash
abbrev pub is_name_byte : ℕ → Bool
is_name_byte b =
    (nat_le 65 b && nat_le b 90) || (nat_le 97 b && nat_le b 122) || is_digit b
    || b == 46 || b == 95 || b == 45

-- one or more such bytes
abbrev pub is_name : List ℕ → Bool
is_name text = not (length text == 0) && list_all is_name_byte text

-- trust domain, `ns`, namespace, `sa`, service account
abbrev pub identity_of_parts : List (List ℕ) → Option Identity
identity_of_parts (td ∷ ns_word ∷ ns ∷ sa_word ∷ sa ∷ []) =
    if is_name td && bytes_eq ns_word (codes "ns") && is_name ns && bytes_eq sa_word (codes "sa") && is_name sa
    then Some (record { trust_domain = td; namespace = ns; service_account = sa }) else None
identity_of_parts _ = None

-- the three names of an identity, as slices
abbrev pub names_of : Option (Bor (List ℕ) × Bor (List ℕ) × Bor (List ℕ)) → Option Identity
names_of None = None
names_of (Some n) = Some (record { trust_domain = n.0.now; namespace = n.1.now; service_account = n.2.now })

-- the identity that this text spells
abbrev pub identity_of : List ℕ → Option Identity
identity_of text =
    if starts_with nat_eq text (codes "spiffe://") then identity_of_parts (parts 47 (drop 9 text)) else None

-- the principal of an identity: its text after `spiffe://`
abbrev pub principal_of : Identity → List ℕ
principal_of i = i.trust_domain ++ codes "/ns/" ++ i.namespace ++ codes "/sa/" ++ i.service_account

-- exactly `spiffe://` and a principal of three names is read as that principal's identity
abbrev pub ReadsPrincipalsAlone : Type 0
ReadsPrincipalsAlone = (text : List ℕ) (i : Identity) → (identity_of text ≡ Some i)
    ↔ ((text ≡ codes "spiffe://" ++ principal_of i) × IsTrue (is_name i.trust_domain) × IsTrue (is_name i.namespace)
    × IsTrue (is_name i.service_account))
