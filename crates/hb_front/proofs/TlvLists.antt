-- Bytes are the TLVs of one list at most.
use Rattle.std.proofs.Common.{◌≡◌, ℕ, ◌<◌, ◌^◌, List, [], ◌∷◌, ◌++◌, length, take, drop, refl, sym, ap, ◌∙◌, append_assoc}
use Rattle.std.specs.Int.{w16, to_be_bytes, from_be_bytes}
use Rattle.std.specs.List.{flat_map, AllByRecursion}
use Rattle.std.proofs.lemmas.Nat.{from_be_bytes-to_be_bytes_2}
use Rattle.std.proofs.lemmas.List.{drop_at, append-nil}
use Rattle.std.proofs.Math.Seq.{take-append_seam}
use Rattle.hb_front.specs.Tlvs.{Tlv, TlvFits, tlv_text, AreTlvs}

abbrev pub texts : List Tlv → List ℕ
texts tlvs = flat_map tlv_text tlvs

-- two TLVs in front of the same bytes
pub record AreSame (t u : Tlv) (x y : List ℕ) : Type 0 where
  pub tlv : t ≡ u
  pub behind : x ≡ y

pub same_size : (n m : ℕ) → n < 2 ^ 16 → m < 2 ^ 16 → to_be_bytes w16 n ≡ to_be_bytes w16 m → n ≡ m
same_size n m n_lt m_lt e =
    sym (from_be_bytes-to_be_bytes_2 n n_lt) ∙ ap (from_be_bytes w16) e ∙ from_be_bytes-to_be_bytes_2 m m_lt

pub same_parts : (a b x y : List ℕ) → length a ≡ length b → a ++ x ≡ b ++ y → (a ≡ b) × (x ≡ y)
same_parts a b x y len e = (
  sym (take-append_seam a x) ∙ ap (take (length a)) e ∙ ap (λ n. take n (b ++ y)) len ∙ take-append_seam b y,
  sym (drop_at a x (length a) refl) ∙ ap (drop (length a)) e ∙ drop_at b y (length a) (sym len),
)

same_tlv : (t u : Tlv) → t.kind ≡ u.kind → t.value ≡ u.value → t ≡ u
same_tlv t u kind value = rw (kind, value) refl

pub one_tlv : (t u : Tlv) (x y : List ℕ) → TlvFits t → TlvFits u → tlv_text t ++ x ≡ tlv_text u ++ y → AreSame t u x y
one_tlv t u x y t_fits u_fits e =
    let kind : t.kind ≡ u.kind = cc in
    let sizes : to_be_bytes w16 (length t.value) ≡ to_be_bytes w16 (length u.value) = ap (λ xs. take 2 (drop 1 xs)) e in
    let size = same_size (length t.value) (length u.value) t_fits.value u_fits.value sizes in
    let values : t.value ++ x ≡ u.value ++ y = ap (drop 3) e in
    let parts = same_parts t.value u.value x y size values in
    record { tlv = same_tlv t u kind parts.0; behind = parts.1 }

-- what stands behind a front of the TLVs is the rest of them
pub record AreBehind (rest : List ℕ) (front tlvs : List Tlv) : Type 0 where
  pub behind : List Tlv
  pub are : AreTlvs rest behind
  pub split : tlvs ≡ front ++ behind

same_cons : (t u : Tlv) (ts us : List Tlv) → t ≡ u → ts ≡ us → (t ∷ ts) ≡ (u ∷ us)
same_cons t u ts us first rest = rw (first, rest) refl

pub after_front : (front tlvs : List Tlv) (rest : List ℕ) → AllByRecursion TlvFits front → AllByRecursion TlvFits tlvs
    → texts front ++ rest ≡ texts tlvs → AreBehind rest front tlvs
after_front [] tlvs rest front_fit fit e = record { behind = tlvs; are = record { fit = fit; joined = e }; split = refl }
after_front (t ∷ front) [] rest front_fit fit e = absurd (cc)
after_front (t ∷ front) (u ∷ tlvs) rest front_fit fit e =
    let joined : tlv_text t ++ (texts front ++ rest) ≡ tlv_text u ++ texts tlvs = sym (append_assoc (tlv_text t) (texts front) rest) ∙ e in
    let same = one_tlv t u (texts front ++ rest) (texts tlvs) front_fit.0 fit.0 joined in
    let later = after_front front tlvs rest front_fit.1 fit.1 same.behind in
    record { behind = later.behind; are = later.are; split = same_cons u t tlvs (front ++ later.behind) (sym same.tlv) later.split }

no_more : (behind : List Tlv) → AreTlvs [] behind → behind ≡ []
no_more [] are = refl
no_more (t ∷ behind) are = absurd (let e = are.joined in cc)

pub one_list : (bytes : List ℕ) (ts us : List Tlv) → AreTlvs bytes ts → AreTlvs bytes us → ts ≡ us
one_list bytes ts us t u =
    let after = after_front ts us [] t.fit u.fit (append-nil (texts ts) ∙ sym t.joined ∙ u.joined) in
    let none = no_more after.behind after.are in
    sym (after.split ∙ ap (λ xs. ts ++ xs) none ∙ append-nil ts)
