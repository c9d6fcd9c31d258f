-- Which frames have begun where so many octets went, of a list of which others begin later.
use Rattle.std.proofs.Common.{◌≡◌, inl, inr, ℕ, ◌+◌, ◌-◌, ◌<◌, ◌≤◌, List, [], ◌∷◌, ◌++◌, length, ap, sym, ◌∙◌, arith, length-append}
use Rattle.std.proofs.lemmas.List.{append_assoc}
use Rattle.hb_frames.specs.RawFrame.{RawFrame, spelling}
use Rattle.hb_kept.specs.Payloads.{Began}
use Rattle.hb_outgoing.proofs.Sent.{begun_whole}
use Rattle.hb_outgoing.proofs.Walks.{begun_more}
use Rattle.hb_outgoing.specs.Waiting.{spelled}
use Rattle.hb_outgoing.specs.Written.{begun_in}

-- those up to one of which an octet went, and no octet behind it
in_part : (m : ℕ) (fs gs : List RawFrame) (f : RawFrame) → length (spelled fs) < m → m ≤ length (spelled fs) + length (spelling f)
    → begun_in m (fs ++ f ∷ gs) ≡ fs ++ f ∷ []
in_part m [] gs f more most =
    begun_more m f gs (omega (arith, more))
    ∙ ap (λ (n : ℕ). f ∷ begun_in n gs) (let none : m - length (spelling f) ≡ 0 = omega (arith, most) in none)
in_part m (e ∷ fs) gs f more most =
    let size = length-append (spelling e) (spelled fs) in
    begun_more m e (fs ++ f ∷ gs) (omega (arith, more))
    ∙ ap (λ (hs : List RawFrame). e ∷ hs)
    (in_part (m - length (spelling e)) fs gs f (omega (arith, more, size)) (omega (arith, most, more, size)))

-- those that have begun with the octets that went
pub have_begun_in : (went : List ℕ) (begun later : List RawFrame) → Began went begun → begun_in (length went) (begun ++ later) ≡ begun
have_begun_in went begun later (inl whole) =
    ap (λ (n : ℕ). begun_in n (begun ++ later)) (ap length whole) ∙ begun_whole begun later
have_begun_in went begun later (inr is) =
    let size = length-append (spelled is.whole) is.part in
    let frame = length-append is.part is.rest in
    let went_size : length went ≡ length (spelled is.whole) + length is.part = ap length is.went_are ∙ size in
    let frame_size : length (spelling is.last) ≡ length is.part + length is.rest = ap length is.last_is ∙ frame in
    ap (λ (fs : List RawFrame). begun_in (length went) (fs ++ later)) is.begun_are
    ∙ ap (begun_in (length went)) (append_assoc is.whole (is.last ∷ []) later)
    ∙ in_part (length went) is.whole later is.last (omega (arith, went_size, is.some)) (omega (arith, went_size, frame_size))
    ∙ sym is.begun_are
