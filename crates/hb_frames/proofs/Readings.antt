-- What the frame in front leaves behind.
use Rattle.std.proofs.Common.{◌≡◌, ℕ, ◌+◌, ◌-◌, ◌≤◌, List, length, drop, refl, ap, ◌∙◌, sym, subst, arith, true, [], Some, None, Ok}
use Rattle.std.specs.Prelude.{slice_range}
use Rattle.hb_frames.specs.RawFrame.{RawFrame, raw_at, size_at}
use Rattle.hb_frames.specs.Refusals.{has_content, front_len, padding_len}
use Rattle.hb_frames.specs.Bodies.{content_of, lent_of}
use Rattle.hb_frames.specs.Reading.{Reading, first_of, asked, after_frame, offset_after, StandsInFront}
use Rattle.hb_frames.proofs.Records.{reading}
use Rattle.hb_frames.proofs.Buffers.{range_range}
use Rattle.std.proofs.lemmas.List.Edits.{length-between}

-- where the content of the frame in front stands in the bytes
pub content_in_front : (bytes : List ℕ) (size front padding : ℕ) → StandsInFront bytes size → front ≡ front_len (raw_at bytes)
    → padding ≡ padding_len (raw_at bytes) → slice_range bytes (9 + front) (size - padding) ≡ content_of (raw_at bytes)
content_in_front bytes size front padding stands front_is padding_is =
    let payload = slice_range bytes 9 (9 + size_at bytes) in
    let whole : 9 + size_at bytes ≤ length bytes = subst (λ (n : ℕ). n ≤ length bytes) stands.size stands.whole in
    let payload_len : length payload ≡ size_at bytes = length-between bytes 9 (9 + size_at bytes) whole ∙ omega arith in
    let padded = stands.shaped.padded in
    let within : 9 + (length payload - padding_len (raw_at bytes)) ≤ 9 + size_at bytes = omega arith in
    let end_is : size - padding ≡ 9 + (length payload - padding_len (raw_at bytes)) =
    omega (arith, stands.size, padded, payload_len, padding_is) in
    rw (end_is, front_is)
    (sym (range_range bytes 9 (9 + size_at bytes) (front_len (raw_at bytes)) (length payload - padding_len (raw_at bytes)) within))

pub same_reading : (max : ℕ) (h g : List ℕ) (a b : ℕ) (l k : List ℕ) → h ≡ g → a ≡ b → l ≡ k → reading max h a l ≡ reading max g b k
same_reading max h g a b l k held at last = rw (held, at, last) refl

pub asked_some : (r : Reading) (n : ℕ) → first_of r.max r.held ≡ Ok (Some n)
    → asked r ≡ reading r.max (drop n r.held) (offset_after r.at n) (lent_of (raw_at r.held))
asked_some r n found = ap (after_frame r) found

pub asked_none : (r : Reading) → first_of r.max r.held ≡ Ok None → asked r ≡ reading r.max r.held r.at []
asked_none r found = ap (after_frame r) found

pub lent_is_content : (f : RawFrame) → has_content f ≡ true → lent_of f ≡ content_of f
lent_is_content f test = rw test refl
