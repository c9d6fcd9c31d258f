-- The octets of whole frames have one reading.
use Rattle.std.proofs.Common.{◌≡◌, inl, inr, ℕ, ◌<◌, ◌/◌, ◌%◌, List, [], ◌∷◌, ◌++◌, length, take, refl, ap, sym, ◌∙◌, arith}
use Rattle.std.proofs.lemmas.List.{append-nil, append_assoc, append_cancel_left, take_at}
use Rattle.hb_frames.specs.RawFrame.{RawFrame, spelling}
use Rattle.hb_kept.specs.Payloads.{Began}
use Rattle.hb_outgoing.specs.Waiting.{spelled}

-- lists of one length in front of others
same_fronts : (ps qs xs ys : List ℕ) → length ps ≡ length qs → ps ++ xs ≡ qs ++ ys → (ps ≡ qs) × (xs ≡ ys)
same_fronts ps qs xs ys size is =
    let same = sym (take_at ps xs (length ps) refl) ∙ ap (take (length ps)) is ∙ take_at qs ys (length ps) (sym size) in
    (same, append_cancel_left ps xs ys (is ∙ ap (λ (zs : List ℕ). zs ++ ys) (sym same)))

abbrev frame_of : ℕ → ℕ → ℕ → List ℕ → RawFrame
frame_of kind flags stream payload = record { kind = kind; flags = flags; stream = stream; payload = payload }

-- a frame in front of other octets
pub same_frame : (f g : RawFrame) (xs ys : List ℕ) → spelling f ++ xs ≡ spelling g ++ ys → (f ≡ g) × (xs ≡ ys)
same_frame f g xs ys is =
    let n = length f.payload in
    let m = length g.payload in
    let high : n / 65536 ≡ m / 65536 = cc in
    let middle : n / 256 % 256 ≡ m / 256 % 256 = cc in
    let low : n % 256 ≡ m % 256 = cc in
    let kind : f.kind ≡ g.kind = cc in
    let flags : f.flags ≡ g.flags = cc in
    let first : f.stream / 16777216 ≡ g.stream / 16777216 = cc in
    let second : f.stream / 65536 % 256 ≡ g.stream / 65536 % 256 = cc in
    let third : f.stream / 256 % 256 ≡ g.stream / 256 % 256 = cc in
    let fourth : f.stream % 256 ≡ g.stream % 256 = cc in
    let rest : f.payload ++ xs ≡ g.payload ++ ys = cc in
    let stream : f.stream ≡ g.stream = omega (arith, first, second, third, fourth) in
    let payload = same_fronts f.payload g.payload xs ys (omega (arith, high, middle, low)) rest in (
      ap (λ (k : ℕ). frame_of k f.flags f.stream f.payload) kind ∙ ap (λ (k : ℕ). frame_of g.kind k f.stream f.payload) flags
          ∙ ap (λ (k : ℕ). frame_of g.kind g.flags k f.payload) stream ∙ ap (frame_of g.kind g.flags g.stream) payload.0,
      payload.1,
    )

-- whole frames in front of other octets, which are those of the frames behind them
pub frames_read : (fs gs : List RawFrame) (rest : List ℕ) → spelled fs ++ rest ≡ spelled gs
    → (more : List RawFrame) × (gs ≡ fs ++ more) × (rest ≡ spelled more)
frames_read [] gs rest is = (gs, refl, is)
frames_read (f ∷ fs) [] rest is = absurd cc
frames_read (f ∷ fs) (g ∷ gs) rest is =
    let one = same_frame f g (spelled fs ++ rest) (spelled gs) (sym (append_assoc (spelling f) (spelled fs) rest) ∙ is) in
    let read = frames_read fs gs rest one.1 in (
      read.0,
      ap (λ (h : RawFrame). h ∷ gs) (sym one.0) ∙ ap (λ (hs : List RawFrame). f ∷ hs) read.1,
      read.2,
    )

none_spelled : (fs : List RawFrame) → spelled fs ≡ [] → fs ≡ []
none_spelled [] is = refl
none_spelled (f ∷ fs) is = absurd cc

nil_front : (xs ys : List ℕ) → xs ++ ys ≡ [] → xs ≡ []
nil_front [] ys is = refl
nil_front (x ∷ xs) ys is = absurd cc

-- the last one in part, an octet of it at least, is the last one whole
part_read : (whole : List RawFrame) (last : RawFrame) (part rest : List ℕ) (frames : List RawFrame) → spelling last ≡ part ++ rest
    → 0 < length part → spelled frames ≡ spelled whole ++ part → whole ++ last ∷ [] ≡ frames
part_read [] last part rest [] ends some is = absurd (omega (arith, some, ap (λ (xs : List ℕ). length xs) is))
part_read [] last part rest (f ∷ fs) ends some is =
    let one = same_frame f last (spelled fs ++ rest) [] (sym (append_assoc (spelling f) (spelled fs) rest)
    ∙ ap (λ (xs : List ℕ). xs ++ rest) is ∙ sym ends ∙ sym (append-nil (spelling last))) in
    ap (λ (h : RawFrame). h ∷ []) (sym one.0)
    ∙ ap (λ (hs : List RawFrame). f ∷ hs) (sym (none_spelled fs (nil_front (spelled fs) rest one.1)))
part_read (w ∷ ws) last part rest [] ends some is = absurd cc
part_read (w ∷ ws) last part rest (f ∷ fs) ends some is =
    let one = same_frame f w (spelled fs) (spelled ws ++ part) (is ∙ append_assoc (spelling w) (spelled ws) part) in
    ap (λ (h : RawFrame). h ∷ (ws ++ last ∷ [])) (sym one.0)
    ∙ ap (λ (hs : List RawFrame). f ∷ hs) (part_read ws last part rest fs ends some one.1)

-- where whole frames went these have begun, and no other
pub begun_read : (went : List ℕ) (frames begun : List RawFrame) → Began went begun → went ≡ spelled frames → begun ≡ frames
begun_read went frames begun (inl whole) is =
    let read = frames_read frames begun [] (append-nil (spelled frames) ∙ sym is ∙ whole) in
    read.1 ∙ ap (λ (fs : List RawFrame). frames ++ fs) (none_spelled read.0 (sym read.2)) ∙ append-nil frames
begun_read went frames begun (inr in_part) is =
    in_part.begun_are
    ∙ part_read in_part.whole in_part.last in_part.part in_part.rest frames in_part.last_is in_part.some (sym is ∙ in_part.went_are)
