-- A frame and its octets, in both directions.
use Rattle.std.proofs.Common.{◌≡◌, ℕ, ◌+◌, ◌-◌, ◌*◌, ◌/◌, ◌%◌, ◌≤◌, ◌<◌, List, [], ◌∷◌, ◌++◌, length, take, drop, refl, ap, ◌∙◌}
use Rattle.std.proofs.Common.{sym, subst, arith, length-append}
use Rattle.std.specs.Prelude.{slice_index, slice_range}
use Rattle.std.proofs.Math.Seq.{take-add, take-append_seam, drop-append_seam}
use Rattle.std.proofs.lemmas.List.{drop-drop}
use Rattle.std.proofs.lemmas.List.Edits.{length-between}
use Rattle.hb_frames.specs.Octets.{three, four, four_at}
use Rattle.hb_frames.specs.RawFrame.{RawFrame, Spells, header, raw_at, size_at}
use Rattle.hb_frames.specs.Frames.{AreOctets}
use Rattle.hb_frames.proofs.Records.{raw}

pub three_digits : (a b c : ℕ) → a < 256 → b < 256 → c < 256 → three (a * 65536 + b * 256 + c) ≡ a ∷ b ∷ c ∷ []
three_digits a b c a_lt b_lt c_lt =
    let n = a * 65536 + b * 256 + c in
    let first : n / 65536 ≡ a = omega arith in
    let second : n / 256 % 256 ≡ b = omega arith in
    let third : n % 256 ≡ c = omega arith in
    rw (first, second, third) refl

pub four_digits : (a b c d : ℕ) → a < 256 → b < 256 → c < 256 → d < 256 → four (a * 16777216 + b * 65536 + c * 256 + d) ≡ a ∷ b ∷ c ∷ d ∷ []
four_digits a b c d a_lt b_lt c_lt d_lt =
    let n = a * 16777216 + b * 65536 + c * 256 + d in
    let first : n / 16777216 ≡ a = omega arith in
    let second : n / 65536 % 256 ≡ b = omega arith in
    let third : n / 256 % 256 ≡ c = omega arith in
    let fourth : n % 256 ≡ d = omega arith in
    rw (first, second, third, fourth) refl

-- the first nine octets
pub nine : (bytes : List ℕ) → 9 ≤ length bytes
    → take 9 bytes ≡ slice_index bytes 0 ∷ slice_index bytes 1 ∷ slice_index bytes 2 ∷ slice_index bytes 3 ∷ slice_index bytes 4
    ∷ slice_index bytes 5 ∷ slice_index bytes 6 ∷ slice_index bytes 7 ∷ slice_index bytes 8 ∷ []
nine [] h = absurd (omega arith)
nine (a ∷ []) h = absurd (omega arith)
nine (a ∷ b ∷ []) h = absurd (omega arith)
nine (a ∷ b ∷ c ∷ []) h = absurd (omega arith)
nine (a ∷ b ∷ c ∷ d ∷ []) h = absurd (omega arith)
nine (a ∷ b ∷ c ∷ d ∷ e ∷ []) h = absurd (omega arith)
nine (a ∷ b ∷ c ∷ d ∷ e ∷ f ∷ []) h = absurd (omega arith)
nine (a ∷ b ∷ c ∷ d ∷ e ∷ f ∷ g ∷ []) h = absurd (omega arith)
nine (a ∷ b ∷ c ∷ d ∷ e ∷ f ∷ g ∷ i ∷ []) h = absurd (omega arith)
nine (a ∷ b ∷ c ∷ d ∷ e ∷ f ∷ g ∷ i ∷ j ∷ rest) h = refl

pub header_in_front : (bytes : List ℕ) → AreOctets bytes → 9 ≤ length bytes
    → header (size_at bytes) (slice_index bytes 3) (slice_index bytes 4) (four_at bytes 5) ≡ take 9 bytes
header_in_front bytes octets enough =
    let size_is = three_digits (slice_index bytes 0) (slice_index bytes 1) (slice_index bytes 2) (octets 0) (octets 1) (octets 2) in
    let word_is = four_digits (slice_index bytes 5) (slice_index bytes 6) (slice_index bytes 7) (slice_index bytes 8)
    (octets 5) (octets 6) (octets 7) (octets 8) in
    ap (λ (xs : List ℕ). xs ++ slice_index bytes 3 ∷ slice_index bytes 4 ∷ four (four_at bytes 5)) size_is
    ∙ ap (λ (xs : List ℕ). slice_index bytes 0 ∷ slice_index bytes 1 ∷ slice_index bytes 2
    ∷ slice_index bytes 3 ∷ slice_index bytes 4 ∷ xs) word_is
    ∙ sym (nine bytes enough)

pub payload_in_front : (bytes : List ℕ) (size : ℕ) → slice_range bytes 9 (9 + size) ≡ take size (drop 9 bytes)
payload_in_front bytes size =
    let same : 9 + size - 9 ≡ size = omega arith in
    rw same refl

pub payload_len : (bytes : List ℕ) (size : ℕ) → 9 + size ≤ length bytes → length (slice_range bytes 9 (9 + size)) ≡ size
payload_len bytes size whole = length-between bytes 9 (9 + size) whole ∙ omega arith

pub size_is_small : (bytes : List ℕ) → AreOctets bytes → size_at bytes < 16777216
size_is_small bytes octets = omega (arith, octets 0, octets 1, octets 2)

pub word_is_small : (bytes : List ℕ) → AreOctets bytes → four_at bytes 5 < 4294967296
word_is_small bytes octets = omega (arith, octets 5, octets 6, octets 7, octets 8)

pub reserved_and_stream : (word : ℕ) → word / 2147483648 * 2147483648 + word % 2147483648 ≡ word
reserved_and_stream word = omega arith

-- the frame at the front is spelled by its octets
pub raw_is_spelled : (bytes : List ℕ) → AreOctets bytes → 9 + size_at bytes ≤ length bytes
    → Spells (raw_at bytes) (take (9 + size_at bytes) bytes)
raw_is_spelled bytes octets whole =
    let word = four_at bytes 5 in
    let size_is = payload_len bytes (size_at bytes) whole in
    let size_lt = size_is_small bytes octets in
    let word_lt = word_is_small bytes octets in
    let enough : 9 ≤ length bytes = omega arith in
    let head : header (length (raw_at bytes).payload) (slice_index bytes 3) (slice_index bytes 4)
    (word / 2147483648 * 2147483648 + word % 2147483648) ≡ take 9 bytes =
    rw (size_is, reserved_and_stream word) (header_in_front bytes octets enough) in
    record {
      fits = record { kind = octets 3; flags = octets 4; stream = omega arith; size = omega arith };
      reserved = word / 2147483648;
      bit = omega arith;
      whole = take-add 9 (size_at bytes) bytes ∙ ap (λ xs. xs ++ take (size_at bytes) (drop 9 bytes)) (sym head)
          ∙ ap (λ xs. header (length (raw_at bytes).payload) (slice_index bytes 3) (slice_index bytes 4)
          (word / 2147483648 * 2147483648 + word % 2147483648) ++ xs)
          (sym (payload_in_front bytes (size_at bytes)));
    }

-- what stands in front once a spelling does
pub record IsInFront (f : RawFrame) (spelled more bytes : List ℕ) : Type 0 where
  pub frame : raw_at bytes ≡ f
  pub size : size_at bytes ≡ length f.payload
  pub len : length spelled ≡ 9 + length f.payload
  pub rest : more ≡ drop (9 + size_at bytes) bytes

pub digits_of_three : (n : ℕ) → n / 65536 * 65536 + n / 256 % 256 * 256 + n % 256 ≡ n
digits_of_three n = omega arith

pub digits_of_four : (n : ℕ) → n / 16777216 * 16777216 + n / 65536 % 256 * 65536 + n / 256 % 256 * 256 + n % 256 ≡ n
digits_of_four n = omega arith

pub stream_of_word : (reserved stream : ℕ) → stream < 2147483648 → (reserved * 2147483648 + stream) % 2147483648 ≡ stream
stream_of_word reserved stream h = omega arith

pub same_raw : (kind flags a b : ℕ) (p q : List ℕ) → a ≡ b → p ≡ q → raw kind flags a p ≡ raw kind flags b q
same_raw kind flags a b p q stream payload = rw (stream, payload) refl

pub header_is_in_front : (f : RawFrame) (reserved : ℕ) (more : List ℕ) → f.stream < 2147483648
    → let spelled = header (length f.payload) f.kind f.flags (reserved * 2147483648 + f.stream) ++ f.payload in
    IsInFront f spelled more (spelled ++ more)
header_is_in_front f reserved more stream_lt =
    let word = reserved * 2147483648 + f.stream in
    let head = header (length f.payload) f.kind f.flags word in
    let bytes = (head ++ f.payload) ++ more in
    let size : size_at bytes ≡ length f.payload = digits_of_three (length f.payload) in
    let stream : four_at bytes 5 % 2147483648 ≡ f.stream =
    ap (λ n. n % 2147483648) (digits_of_four word) ∙ stream_of_word reserved f.stream stream_lt in
    let payload : slice_range bytes 9 (9 + size_at bytes) ≡ f.payload =
    payload_in_front bytes (size_at bytes) ∙ ap (λ n. take n (f.payload ++ more)) size ∙ take-append_seam f.payload more in
    record {
      frame = same_raw f.kind f.flags _ _ _ _ stream payload;
      size = size;
      len = length-append head f.payload;
      rest = sym (sym (drop-drop (size_at bytes) 9 bytes) ∙ ap (λ n. drop n (f.payload ++ more)) size ∙ drop-append_seam f.payload more);
    }

pub spelled_in_front : (f : RawFrame) (spelled more : List ℕ) → Spells f spelled → IsInFront f spelled more (spelled ++ more)
spelled_in_front f spelled more spells =
    subst (λ (s : List ℕ). IsInFront f s more (s ++ more)) (sym spells.whole) (header_is_in_front f spells.reserved more spells.fits.stream)
