-- TLVs taken one by one.
use Rattle.std.proofs.Common.{◌≡◌, ℕ, ◌==◌, Bool, true, false, List, [], ◌∷◌, ◌++◌, length, map, filter, refl, sym, ap, subst, ◌∙◌}
use Rattle.std.proofs.Common.{append_assoc}
use Rattle.std.specs.List.{AllByRecursion}
use Rattle.std.proofs.lemmas.List.{append-nil, map-append}
use Rattle.std.proofs.lemmas.List.Elements.{filter-append}
use Rattle.std.proofs.lemmas.Grind.{flat_map-append}
use Rattle.hb_front.specs.Tlvs.{Tlv, TlvFits, tlv_text, AreTlvs, identities, identity_kind}
use Rattle.hb_front.specs.Found.{AreFound, IsFirstTlv, HasNoTlv}
use Rattle.hb_front.specs.declared.identity.Found.{Found}
use Rattle.hb_front.proofs.TlvLists.{texts, after_front}

-- the TLVs in front of the rest, and what was found among them
pub record Scanned (all rest : List ℕ) (found : Found) : Type 0 where
  pub front : List Tlv
  pub fit : AllByRecursion TlvFits front
  pub joined : all ≡ texts front ++ rest
  pub found_are : AreFound found (identities front)

fit_more : (ts : List Tlv) (t : Tlv) → AllByRecursion TlvFits ts → TlvFits t → AllByRecursion TlvFits (ts ++ t ∷ [])
fit_more [] t fit one = (one, tt)
fit_more (u ∷ ts) t fit one = (fit.0, fit_more ts t fit.1 one)

abbrev pub tlv : ℕ → List ℕ → Tlv
tlv kind value = record { kind = kind; value = value }

joined_more : (all rest behind : List ℕ) (front : List Tlv) (t : Tlv) → all ≡ texts front ++ rest → rest ≡ tlv_text t ++ behind
    → all ≡ texts (front ++ t ∷ []) ++ behind
joined_more all rest behind front t joined first =
    let one : texts (t ∷ []) ≡ tlv_text t = append-nil (tlv_text t) in
    joined ∙ ap (λ xs. texts front ++ xs) first ∙ sym (append_assoc (texts front) (tlv_text t) behind)
    ∙ ap (λ xs. (texts front ++ xs) ++ behind) (sym one)
    ∙ ap (λ xs. xs ++ behind) (sym (flat_map-append tlv_text front (t ∷ [])))

identities_more : (front : List Tlv) (t : Tlv) → identities (front ++ t ∷ []) ≡ identities front ++ identities (t ∷ [])
identities_more front t =
    ap (map (λ (u : Tlv). u.value)) (filter-append (λ (u : Tlv). u.kind == identity_kind) front (t ∷ []))
    ∙ map-append (λ (u : Tlv). u.value) (filter (λ (u : Tlv). u.kind == identity_kind) front)
    (filter (λ (u : Tlv). u.kind == identity_kind) (t ∷ []))

one_identity : (t : Tlv) (b : Bool) → (t.kind == identity_kind) ≡ b → b ≡ true → identities (t ∷ []) ≡ t.value ∷ []
one_identity t true is e = rw is refl
one_identity t false is e = absurd (cc)

no_identity : (t : Tlv) (b : Bool) → (t.kind == identity_kind) ≡ b → b ≡ false → identities (t ∷ []) ≡ []
no_identity t false is e = rw is refl
no_identity t true is e = absurd (cc)

pub scanned_identity : (all rest : List ℕ) (found with_it : Found) (kind : ℕ) (value behind : List ℕ) → Scanned all rest found
    → IsFirstTlv rest kind value behind → (kind == identity_kind) ≡ true
    → ((vs : List (List ℕ)) → AreFound found vs → AreFound with_it (vs ++ value ∷ [])) → Scanned all behind with_it
scanned_identity all rest found with_it kind value behind s first is adds = record {
  front = s.front ++ tlv kind value ∷ [];
  fit = fit_more s.front (tlv kind value) s.fit first.fits;
  joined = joined_more all rest behind s.front (tlv kind value) s.joined first.joined;
  found_are = subst (AreFound with_it)
      (sym (identities_more s.front (tlv kind value) ∙ ap (λ vs. identities s.front ++ vs) (one_identity (tlv kind value) _ refl is)))
      (adds (identities s.front) s.found_are);
}

pub scanned_other : (all rest : List ℕ) (found : Found) (kind : ℕ) (value behind : List ℕ) → Scanned all rest found
    → IsFirstTlv rest kind value behind → (kind == identity_kind) ≡ false → Scanned all behind found
scanned_other all rest found kind value behind s first is = record {
  front = s.front ++ tlv kind value ∷ [];
  fit = fit_more s.front (tlv kind value) s.fit first.fits;
  joined = joined_more all rest behind s.front (tlv kind value) s.joined first.joined;
  found_are = subst (AreFound found)
      (sym (identities_more s.front (tlv kind value) ∙ ap (λ vs. identities s.front ++ vs) (no_identity (tlv kind value) _ refl is)
      ∙ append-nil (identities s.front)))
      s.found_are;
}

-- all are taken
pub scanned_all : (all rest : List ℕ) (found : Found) → Scanned all rest found → rest ≡ []
    → (tlvs : List Tlv) × AreTlvs all tlvs × AreFound found (identities tlvs)
scanned_all all rest found s none =
    (s.front, record { fit = s.fit; joined = s.joined ∙ ap (λ xs. texts s.front ++ xs) none ∙ append-nil (texts s.front) }, s.found_are)

none_behind : (rest : List ℕ) (behind : List Tlv) → AreTlvs rest behind → HasNoTlv rest → rest ≡ []
none_behind rest [] are none = are.joined
none_behind rest (t ∷ behind) are none = absurd (none t (texts behind) are.fit.0 are.joined)

-- the next passes the end
pub scanned_short : (all rest : List ℕ) (found : Found) → Scanned all rest found → HasNoTlv rest → (length rest == 0) ≡ false
    → (tlvs : List Tlv) → AreTlvs all tlvs → ⊥
scanned_short all rest found s none some tlvs are =
    let after = after_front s.front tlvs rest s.fit are.fit (sym s.joined ∙ are.joined) in
    let gone : (length rest == 0) ≡ true = ap (λ xs. length xs == 0) (none_behind rest after.behind after.are none) in
    absurd (cc)

pub scanned_none : (all : List ℕ) (found : Found) → AreFound found [] → Scanned all all found
scanned_none all found is = record { front = []; fit = tt; joined = refl; found_are = is }
