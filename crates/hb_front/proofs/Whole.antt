-- A header that is whole, from its bytes.
use Rattle.std.proofs.Common.{◌≡◌, ℕ, ◌+◌, ◌-◌, ◌/◌, ◌%◌, ◌<◌, ◌≤◌, ◌^◌, List, [], ◌∷◌, ◌++◌, length, take, drop, get_or}
use Rattle.std.proofs.Common.{Option, Some, None, refl, sym, ap, ap₂, subst, ◌∙◌, inl, inr, arith, length-take, length-drop}
use Rattle.std.specs.Prelude.{slice_index, slice_range}
use Rattle.std.specs.Int.{w16, to_be_bytes, from_be_bytes}
use Rattle.std.proofs.lemmas.Bool.{cases_lt}
use Rattle.std.proofs.lemmas.List.{take-append-drop, get_or-drop, get_or-take, get_or_past, drop-drop}
use Rattle.hb_base.specs.Octets.{ip_of_octets}
use Rattle.hb_base.specs.declared.ip.Ip.{Ip}
use Rattle.hb_front.specs.Header.{Header, Fits, body, spelling, address_len}
use Rattle.hb_front.specs.Reading.{Seen, IsAnswer, IsTlvFault, Whole, Fault, head_fault, size_at, pair_at, least_size, tlv_bytes}
use Rattle.hb_front.specs.declared.fault.FrontFault.{FrontFault}
use Rattle.hb_front.specs.Tlvs.{Tlv, AreTlvs, TellIdentity}
use Rattle.hb_front.specs.declared.family.Family.{Family}
use Rattle.hb_front.proofs.Heads.{Clean}

abbrev pub AreBytes : List ℕ → Type 0
AreBytes bytes = (i : ℕ) → get_or bytes i 0 < 256

pub bytes_drop : (n : ℕ) (xs : List ℕ) → AreBytes xs → AreBytes (drop n xs)
bytes_drop n xs p i = rw (get_or-drop n xs i 0) (p (n + i))

pub bytes_take : (n : ℕ) (xs : List ℕ) → AreBytes xs → AreBytes (take n xs)
bytes_take n xs p i =
    elim (cases_lt i n) [
      | inl lt ↦ rw (get_or-take n xs i 0 lt) (p i)
      | inr le ↦ rw (get_or_past (take n xs) i 0 (omega (arith, length-take n xs))) (omega arith)
    ]

pub pair_back : (a b : ℕ) → a < 256 → b < 256 → to_be_bytes w16 (from_be_bytes w16 (a ∷ b ∷ [])) ≡ a ∷ b ∷ []
pair_back a b a_lt b_lt =
    let m = from_be_bytes w16 (a ∷ b ∷ []) in
    let high : m / 256 % 256 ≡ a = omega arith in
    let low : m % 256 ≡ b = omega arith in
    rw (high, low) refl

pub pair_below : (a b : ℕ) → a < 256 → b < 256 → from_be_bytes w16 (a ∷ b ∷ []) < 2 ^ 16
pair_below a b a_lt b_lt = omega arith

-- the two ports in front, and what stands behind them
pub ports_split : (r : List ℕ) → AreBytes r → 4 ≤ length r
    → r ≡ to_be_bytes w16 (pair_at r 0) ++ (to_be_bytes w16 (pair_at r 2) ++ drop 4 r)
ports_split [] p h = absurd (omega arith)
ports_split (a ∷ []) p h = absurd (omega arith)
ports_split (a ∷ b ∷ []) p h = absurd (omega arith)
ports_split (a ∷ b ∷ c ∷ []) p h = absurd (omega arith)
ports_split (a ∷ b ∷ c ∷ d ∷ r) p h =
    sym (ap₂ (λ (xs ys : List ℕ). xs ++ (ys ++ r)) (pair_back a b (p 0) (p 1)) (pair_back c d (p 2) (p 3)))

-- addresses of k octets, ports, and what stands behind them
pub body_split : (k : ℕ) (b : List ℕ) → AreBytes b → k + k + 4 ≤ length b
    → let r = drop k (drop k b) in
    b ≡ take k b ++ (take k (drop k b) ++ (to_be_bytes w16 (pair_at r 0) ++ (to_be_bytes w16 (pair_at r 2) ++ drop 4 r)))
body_split k b p h =
    let r = drop k (drop k b) in
    let long : 4 ≤ length r = omega (arith, h, length-drop k (drop k b), length-drop k b) in
    let ports = ports_split r (bytes_drop k (drop k b) (bytes_drop k b p)) long in
    sym (take-append-drop k b) ∙ ap (λ xs. take k b ++ xs) (sym (take-append-drop k (drop k b)))
    ∙ ap (λ xs. take k b ++ (take k (drop k b) ++ xs)) ports

abbrev pub shape : (begins : List ℕ) (version family : ℕ) (size rest : List ℕ) → List ℕ
shape begins version family size rest = begins ++ (version ∷ family ∷ (size ++ rest))

same_shape : (a b : List ℕ) (v w f g : ℕ) (s t x y : List ℕ) → a ≡ b → v ≡ w → f ≡ g → s ≡ t → x ≡ y
    → shape a v f s x ≡ shape b w g t y
same_shape a b v w f g s t x y p q r u z = rw (p, q, r, u, z) refl

-- the first 16 bytes
pub sixteen : (bytes : List ℕ) → 16 ≤ length bytes
    → bytes ≡ shape (take 12 bytes) (slice_index bytes 12) (slice_index bytes 13)
    (slice_index bytes 14 ∷ slice_index bytes 15 ∷ []) (drop 16 bytes)
sixteen [] h = absurd (omega arith)
sixteen (a ∷ []) h = absurd (omega arith)
sixteen (a ∷ b ∷ []) h = absurd (omega arith)
sixteen (a ∷ b ∷ c ∷ []) h = absurd (omega arith)
sixteen (a ∷ b ∷ c ∷ d ∷ []) h = absurd (omega arith)
sixteen (a ∷ b ∷ c ∷ d ∷ e ∷ []) h = absurd (omega arith)
sixteen (a ∷ b ∷ c ∷ d ∷ e ∷ f ∷ []) h = absurd (omega arith)
sixteen (a ∷ b ∷ c ∷ d ∷ e ∷ f ∷ g ∷ []) h = absurd (omega arith)
sixteen (a ∷ b ∷ c ∷ d ∷ e ∷ f ∷ g ∷ i ∷ []) h = absurd (omega arith)
sixteen (a ∷ b ∷ c ∷ d ∷ e ∷ f ∷ g ∷ i ∷ j ∷ []) h = absurd (omega arith)
sixteen (a ∷ b ∷ c ∷ d ∷ e ∷ f ∷ g ∷ i ∷ j ∷ k ∷ []) h = absurd (omega arith)
sixteen (a ∷ b ∷ c ∷ d ∷ e ∷ f ∷ g ∷ i ∷ j ∷ k ∷ l ∷ []) h = absurd (omega arith)
sixteen (a ∷ b ∷ c ∷ d ∷ e ∷ f ∷ g ∷ i ∷ j ∷ k ∷ l ∷ m ∷ []) h = absurd (omega arith)
sixteen (a ∷ b ∷ c ∷ d ∷ e ∷ f ∷ g ∷ i ∷ j ∷ k ∷ l ∷ m ∷ n ∷ []) h = absurd (omega arith)
sixteen (a ∷ b ∷ c ∷ d ∷ e ∷ f ∷ g ∷ i ∷ j ∷ k ∷ l ∷ m ∷ n ∷ o ∷ []) h = absurd (omega arith)
sixteen (a ∷ b ∷ c ∷ d ∷ e ∷ f ∷ g ∷ i ∷ j ∷ k ∷ l ∷ m ∷ n ∷ o ∷ p ∷ []) h = absurd (omega arith)
sixteen (a ∷ b ∷ c ∷ d ∷ e ∷ f ∷ g ∷ i ∷ j ∷ k ∷ l ∷ m ∷ n ∷ o ∷ p ∷ q ∷ rest) h = refl

-- what stands behind the first 16 bytes, as far as the length says
abbrev pub body_at : List ℕ → List ℕ
body_at bytes = take (size_at bytes) (drop 16 bytes)

abbrev pub ports_at : ℕ → List ℕ → List ℕ
ports_at k bytes = drop k (drop k (body_at bytes))

-- the header of these bytes, with these TLVs
abbrev pub header_at : Family → List ℕ → List Tlv → Header
header_at f bytes tlvs = record {
  family = f;
  source = take (address_len f) (body_at bytes);
  destination = take (address_len f) (drop (address_len f) (body_at bytes));
  source_port = pair_at (ports_at (address_len f) bytes) 0;
  destination_port = pair_at (ports_at (address_len f) bytes) 2;
  tlvs = tlvs;
}

pub record Spelled (f : Family) (bytes : List ℕ) (tlvs : List Tlv) : Type 0 where
  pub fits : Fits (header_at f bytes tlvs)
  pub size : length (body (header_at f bytes tlvs)) ≡ size_at bytes
  pub whole : bytes ≡ spelling (header_at f bytes tlvs) ++ drop (size_at bytes) (drop 16 bytes)

body_len : (bytes : List ℕ) → 16 + size_at bytes ≤ length bytes → length (body_at bytes) ≡ size_at bytes
body_len bytes whole = omega (arith, whole, length-take (size_at bytes) (drop 16 bytes), length-drop 16 bytes)

pub is_spelled : (bytes : List ℕ) (f : Family) (tlvs : List Tlv) → AreBytes bytes → Clean f bytes → 16 + size_at bytes ≤ length bytes
    → AreTlvs (drop 4 (ports_at (address_len f) bytes)) tlvs → Spelled f bytes tlvs
is_spelled bytes f tlvs octets c whole are =
    let k = address_len f in
    let b = body_at bytes in
    let r = ports_at k bytes in
    let h = header_at f bytes tlvs in
    let len : length b ≡ size_at bytes = body_len bytes whole in
    let b_octets = bytes_take (size_at bytes) (drop 16 bytes) (bytes_drop 16 bytes octets) in
    let r_octets = bytes_drop k (drop k b) (bytes_drop k b b_octets) in
    let enough : k + k + 4 ≤ length b = omega (arith, len, c.least) in
    let body_is : b ≡ body h = body_split k b b_octets enough
    ∙ ap (λ xs. take k b ++ (take k (drop k b) ++ (to_be_bytes w16 (pair_at r 0) ++ (to_be_bytes w16 (pair_at r 2) ++ xs)))) are.joined in
    let size : length (body h) ≡ size_at bytes = sym (ap length body_is) ∙ len in
    let size_bytes : slice_index bytes 14 ∷ slice_index bytes 15 ∷ [] ≡ to_be_bytes w16 (length (body h)) =
    sym (ap (to_be_bytes w16) size ∙ pair_back (slice_index bytes 14) (slice_index bytes 15) (octets 14) (octets 15)) in
    let behind : drop 16 bytes ≡ body h ++ drop (size_at bytes) (drop 16 bytes) =
    sym (take-append-drop (size_at bytes) (drop 16 bytes)) ∙ ap (λ xs. xs ++ drop (size_at bytes) (drop 16 bytes)) body_is in
    record {
      fits = record {
        source = omega (arith, enough, length-take k b);
        destination = omega (arith, enough, length-take k (drop k b), length-drop k b);
        source_port = pair_below (slice_index r 0) (slice_index r 1) (r_octets 0) (r_octets 1);
        destination_port = pair_below (slice_index r 2) (slice_index r 3) (r_octets 2) (r_octets 3);
        tlvs = are.fit;
        size = omega (arith, size, c.size);
      };
      size = size;
      whole = sixteen bytes (omega (arith, whole))
          ∙ same_shape _ _ _ _ _ _ _ _ _ _ c.begins c.version c.family_is size_bytes behind;
    }

-- what is read of it
abbrev pub seen : (source destination : Ip) (source_port destination_port : ℕ) (identity : Option (List ℕ)) (size : ℕ) → Seen
seen source destination source_port destination_port identity size = record {
  source = record { ip = source; port = source_port };
  destination = record { ip = destination; port = destination_port };
  identity = identity;
  length = size;
}

-- the parts that the code takes
pub record AreParts (f : Family) (bytes source destination ports tlvs : List ℕ) : Type 0 where
  pub source_is : source ≡ take (address_len f) (body_at bytes)
  pub destination_is : destination ≡ take (address_len f) (drop (address_len f) (body_at bytes))
  pub ports_are : ports ≡ take 4 (ports_at (address_len f) bytes)
  pub tlvs_are : tlvs ≡ drop 4 (ports_at (address_len f) bytes)
  pub behind : tlvs ≡ tlv_bytes bytes

pub parts_are : (f : Family) (bytes : List ℕ) (n k l : ℕ) (source rest destination more ports tlvs : List ℕ) → Clean f bytes
    → n ≡ size_at bytes → k ≡ address_len f → l ≡ address_len f
    → source ≡ take k (slice_range bytes 16 (16 + n)) → rest ≡ drop k (slice_range bytes 16 (16 + n))
    → destination ≡ take l rest → more ≡ drop l rest → ports ≡ take 4 more → tlvs ≡ drop 4 more
    → AreParts f bytes source destination ports tlvs
parts_are f bytes n k l source rest destination more ports tlvs c size first second source_is rest_is destination_is more_is ports_is
    tlvs_is =
    let j = address_len f in
    let gone : 16 + n - 16 ≡ size_at bytes = omega (arith, size) in
    let range : slice_range bytes 16 (16 + n) ≡ body_at bytes = ap (λ m. take m (drop 16 bytes)) gone in
    let rest_at : rest ≡ drop j (body_at bytes) = rest_is ∙ ap₂ drop first range in
    let more_at : more ≡ ports_at j bytes = more_is ∙ ap₂ drop second rest_at in
    let tlvs_at : tlvs ≡ drop 4 (ports_at j bytes) = tlvs_is ∙ ap (drop 4) more_at in
    let sum : j + (j + 4) ≡ least_size (slice_index bytes 13) = omega (arith, c.least_is) in
    record {
      source_is = source_is ∙ ap₂ take first range;
      destination_is = destination_is ∙ ap₂ take second rest_at;
      ports_are = ports_is ∙ ap (take 4) more_at;
      tlvs_are = tlvs_at;
      behind = tlvs_at ∙ drop-drop 4 j (drop j (body_at bytes)) ∙ drop-drop (j + 4) j (body_at bytes)
          ∙ ap (λ m. drop m (body_at bytes)) sum;
    }

pair_front : (r : List ℕ) (i : ℕ) → i + 1 < 4 → pair_at (take 4 r) i ≡ pair_at r i
pair_front r i lt =
    ap₂ (λ a b. from_be_bytes w16 (a ∷ b ∷ [])) (get_or-take 4 r i 0 (omega arith)) (get_or-take 4 r (i + 1) 0 lt)

pub whole_read : (f : Family) (bytes source destination ports tlvs : List ℕ) (source_ip destination_ip : Ip)
    (source_port destination_port size : ℕ) (identity : Option (List ℕ)) (all : List Tlv) → AreBytes bytes
    → Clean f bytes → 16 + size_at bytes ≤ length bytes → AreParts f bytes source destination ports tlvs
    → AreTlvs tlvs all → TellIdentity all identity
    → ip_of_octets source ≡ Some source_ip → ip_of_octets destination ≡ Some destination_ip
    → source_port ≡ pair_at ports 0 → destination_port ≡ pair_at ports 2 → size ≡ size_at bytes
    → IsAnswer bytes (Whole (seen source_ip destination_ip source_port destination_port identity (16 + size)))
whole_read f bytes source destination ports tlvs source_ip destination_ip source_port destination_port size identity all octets c whole
    parts are tell source_is destination_is source_port_is destination_port_is size_is =
    let r = ports_at (address_len f) bytes in
    let s = is_spelled bytes f all octets c whole (subst (λ xs. AreTlvs xs all) parts.tlvs_are are) in
    let h = header_at f bytes all in
    let first : source_port ≡ pair_at r 0 = source_port_is ∙ ap (λ xs. pair_at xs 0) parts.ports_are ∙ pair_front r 0 (omega arith) in
    let second : destination_port ≡ pair_at r 2 =
    destination_port_is ∙ ap (λ xs. pair_at xs 2) parts.ports_are ∙ pair_front r 2 (omega arith) in
    let len : length (spelling h) ≡ 16 + size = omega (arith, s.size, size_is) in (
      h,
      s.fits,
      record {
        source = ap ip_of_octets (sym parts.source_is) ∙ source_is;
        source_port = sym first;
        destination = ap ip_of_octets (sym parts.destination_is) ∙ destination_is;
        destination_port = sym second;
        identity = tell;
        size = len;
      },
      drop (size_at bytes) (drop 16 bytes),
      s.whole,
    )

pub whole_fault : (f : Family) (bytes source destination ports tlvs : List ℕ) (fault : FrontFault) → head_fault bytes ≡ None
    → 16 + size_at bytes ≤ length bytes → AreParts f bytes source destination ports tlvs → IsTlvFault tlvs fault
    → IsAnswer bytes (Fault fault)
whole_fault f bytes source destination ports tlvs fault clear whole parts is =
    inr (record { head = clear; whole = whole; tlvs = subst (λ xs. IsTlvFault xs fault) parts.behind is })
