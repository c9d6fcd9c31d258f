-- A header that is spelled in front of bytes.
use Rattle.std.proofs.Common.{◌≡◌, ℕ, ◌+◌, ◌<◌, ◌≤◌, ◌^◌, Bool, true, false, ◌&&◌, nat_lt, List, ◌++◌, length, take, drop}
use Rattle.std.proofs.Common.{None, refl, sym, ap, ap₂, ◌∙◌, arith, length-append}
use Rattle.std.specs.Prelude.{slice_index, is_none}
use Rattle.std.specs.Int.{w16, to_be_bytes}
use Rattle.std.proofs.lemmas.Nat.{from_be_bytes-to_be_bytes_2}
use Rattle.std.proofs.lemmas.Bool.Decides.{nat_tests}
use Rattle.std.proofs.lemmas.List.{take_at, drop_at, drop-drop}
use Rattle.hb_front.specs.Header.{Header, Fits, body, spelling, signature, family_byte, family_of, address_len}
use Rattle.hb_front.specs.Reading.{head_fault, size_at, least_size, tlv_bytes}
use Rattle.hb_front.specs.Tlvs.{AreTlvs}
use Rattle.hb_front.specs.declared.family.Family.{Family}
use Rattle.hb_front.specs.declared.family.Family.TheVariants.{Inet, Inet6}
use Rattle.hb_front.proofs.Heads.{none_told, least_of}
use Rattle.hb_front.proofs.TlvLists.{texts, same_parts, same_size, one_list}
use Rattle.hb_front.proofs.Whole.{shape, body_at}

pub record InFront (h : Header) (bytes : List ℕ) : Type 0 where
  pub head : head_fault bytes ≡ None
  pub size : size_at bytes ≡ length (body h)
  pub whole : 16 + size_at bytes ≤ length bytes
  pub family : slice_index bytes 13 ≡ family_byte h.family
  pub body_is : body_at bytes ≡ body h
  pub tlvs_are : AreTlvs (tlv_bytes bytes) h.tlvs

and-false : (b c : Bool) → c ≡ false → (b && c) ≡ false
and-false true c e = e
and-false false c e = refl

known : (f : Family) → is_none (family_of (family_byte f)) ≡ false
known Inet = refl
known Inet6 = refl

-- the head of a header makes no fault
head_none : (f : Family) (n : ℕ) (tail : List ℕ) → n ≤ 4096 → address_len f + address_len f + 4 ≤ n
    → head_fault (shape signature 33 (family_byte f) (to_be_bytes w16 n) tail) ≡ None
head_none f n tail upper lower =
    let bytes = shape signature 33 (family_byte f) (to_be_bytes w16 n) tail in
    let small : n < 2 ^ 16 = omega (arith, upper) in
    let size : size_at bytes ≡ n = from_be_bytes-to_be_bytes_2 n small in
    let least = least_of f in
    let all : length bytes ≡ 16 + length tail = omega arith in
    let short : nat_lt (length bytes) 16 ≡ false = grind (arith, nat_tests, all) in
    let long : nat_lt 4096 (size_at bytes) ≡ false = grind (arith, nat_tests, size, upper) in
    let few : nat_lt (size_at bytes) (least_size (family_byte f)) ≡ false = grind (arith, nat_tests, size, lower, least) in
    none_told _ _ _ _ _ _
    (record {
      begins_is = refl;
      version_is = and-false (nat_lt 12 (length bytes)) false refl;
      family_is = and-false (nat_lt 13 (length bytes)) (is_none (family_of (family_byte f))) (known f);
      long_is = long;
      few_is = few;
    }) short

pub body_len : (h : Header) → Fits h → length (body h) ≡ address_len h.family + address_len h.family + 4 + length (texts h.tlvs)
body_len h fits =
    let behind : length (body h) ≡ length h.source + (length h.destination + (4 + length (texts h.tlvs))) =
    omega (arith, length-append {A = ℕ}) in
    omega (arith, behind, fits.source, fits.destination)

-- what stands behind the ports
tail_is : (h : Header) → Fits h → drop (address_len h.family + address_len h.family + 4) (body h) ≡ texts h.tlvs
tail_is h fits =
    let k = address_len h.family in
    let sum : k + k + 4 ≡ k + (k + 4) = omega arith in
    ap (λ n. drop n (body h)) sum ∙ sym (drop-drop (k + 4) k (body h))
    ∙ ap (drop (k + 4)) (drop_at h.source _ k fits.source)
    ∙ sym (drop-drop 4 k _) ∙ ap (drop 4) (drop_at h.destination _ k fits.destination)

pub in_front : (h : Header) (rest : List ℕ) → Fits h → InFront h (spelling h ++ rest)
in_front h rest fits =
    let k = address_len h.family in
    let n = length (body h) in
    let bytes = spelling h ++ rest in
    let len = body_len h fits in
    let lower : k + k + 4 ≤ n = omega (arith, len) in
    let small : n < 2 ^ 16 = omega (arith, fits.size) in
    let size : size_at bytes ≡ n = from_be_bytes-to_be_bytes_2 n small in
    let front : body_at bytes ≡ body h = ap (λ m. take m (body h ++ rest)) size ∙ take_at (body h) rest n refl in
    let least = least_of h.family in
    record {
      head = head_none h.family n (body h ++ rest) fits.size lower;
      size = size;
      whole = omega (arith, size, length-append (body h) rest);
      family = refl;
      body_is = front;
      tlvs_are = record { fit = fits.tlvs; joined = ap₂ drop least front ∙ tail_is h fits };
    }

-- bytes are those of one header
same_family : (f g : Family) → family_byte f ≡ family_byte g → f ≡ g
same_family Inet Inet e = refl
same_family Inet Inet6 e = absurd (omega (arith, e))
same_family Inet6 Inet e = absurd (omega (arith, e))
same_family Inet6 Inet6 e = refl

same_fields : (h g : Header) → h.family ≡ g.family → h.source ≡ g.source → h.destination ≡ g.destination
    → h.source_port ≡ g.source_port → h.destination_port ≡ g.destination_port → h.tlvs ≡ g.tlvs → h ≡ g
same_fields h g a b c d e f = rw (a, b, c, d, e, f) refl

pub one_header : (h g : Header) (bytes : List ℕ) → Fits h → Fits g → InFront h bytes → InFront g bytes → h ≡ g
one_header h g bytes h_fits g_fits a b =
    let family = same_family h.family g.family (sym a.family ∙ b.family) in
    let len : address_len h.family ≡ address_len g.family = ap address_len family in
    let bodies : body h ≡ body g = sym a.body_is ∙ b.body_is in
    let first = same_parts h.source g.source _ _ (h_fits.source ∙ len ∙ sym g_fits.source) bodies in
    let second = same_parts h.destination g.destination _ _ (h_fits.destination ∙ len ∙ sym g_fits.destination) first.1 in
    let third = same_parts (to_be_bytes w16 h.source_port) (to_be_bytes w16 g.source_port) _ _ refl second.1 in
    let fourth = same_parts (to_be_bytes w16 h.destination_port) (to_be_bytes w16 g.destination_port) _ _ refl third.1 in
    same_fields h g family first.0 second.0 (same_size h.source_port g.source_port h_fits.source_port g_fits.source_port third.0)
    (same_size h.destination_port g.destination_port h_fits.destination_port g_fits.destination_port fourth.0)
    (one_list (tlv_bytes bytes) h.tlvs g.tlvs a.tlvs_are b.tlvs_are)
