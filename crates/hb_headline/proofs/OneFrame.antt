-- Octets that spell a frame have begun no other frames.
use Rattle.std.proofs.Common.{◌≡◌, inl, inr, ℕ, ◌/◌, ◌%◌, List, [], ◌∷◌, ◌++◌, length, drop, refl, ap, sym, ◌∙◌, arith, length-append}
use Rattle.std.proofs.lemmas.List.{append-nil, append_assoc}
use Rattle.std.proofs.Math.Seq.{drop-append_seam}
use Rattle.hb_frames.specs.RawFrame.{RawFrame, spelling}
use Rattle.hb_kept.specs.Payloads.{Began}
use Rattle.hb_outgoing.specs.Waiting.{spelled}
use Rattle.hb_headline.proofs.OneLink.{same_fronts}

-- two frames whose octets stand in front of the same ones are the same
record SameFront (f h : RawFrame) (behind others : List ℕ) : Type 0 where
  same : f ≡ h
  rest : behind ≡ others

same_front : (f h : RawFrame) (behind others : List ℕ) → spelling f ++ behind ≡ spelling h ++ others → SameFront f h behind others
same_front f h behind others is =
    let n = length f.payload in
    let m = length h.payload in
    let n0 : n / 65536 ≡ m / 65536 = cc in
    let n1 : n / 256 % 256 ≡ m / 256 % 256 = cc in
    let n2 : n % 256 ≡ m % 256 = cc in
    let size : n ≡ m = omega (arith, n0, n1, n2) in
    let kind : f.kind ≡ h.kind = cc in
    let flags : f.flags ≡ h.flags = cc in
    let s0 : f.stream / 16777216 ≡ h.stream / 16777216 = cc in
    let s1 : f.stream / 65536 % 256 ≡ h.stream / 65536 % 256 = cc in
    let s2 : f.stream / 256 % 256 ≡ h.stream / 256 % 256 = cc in
    let s3 : f.stream % 256 ≡ h.stream % 256 = cc in
    let stream : f.stream ≡ h.stream = omega (arith, s0, s1, s2, s3) in
    let rest : f.payload ++ behind ≡ h.payload ++ others = cc in
    let payload : f.payload ≡ h.payload = same_fronts f.payload h.payload behind others rest size in
    record {
      same =
          let first : RawFrame = record { kind = h.kind; flags = f.flags; stream = f.stream; payload = f.payload } in
          let second : RawFrame = record { kind = h.kind; flags = h.flags; stream = f.stream; payload = f.payload } in
          let third : RawFrame = record { kind = h.kind; flags = h.flags; stream = h.stream; payload = f.payload } in
          let a : f ≡ first = ap (λ (k : ℕ). record f { kind = k }) kind in
          let b : first ≡ second = ap (λ (k : ℕ). record first { flags = k }) flags in
          let c : second ≡ third = ap (λ (k : ℕ). record second { stream = k }) stream in
          let d : third ≡ h = ap (λ (bs : List ℕ). record third { payload = bs }) payload in
          a ∙ b ∙ c ∙ d;
      rest = sym (drop-append_seam f.payload behind) ∙ ap (drop n) rest ∙ ap (λ (k : ℕ). drop k (h.payload ++ others)) size
          ∙ drop-append_seam h.payload others;
    }

none_spelled : (fs : List RawFrame) (more : List ℕ) → [] ≡ spelled fs ++ more → fs ≡ []
none_spelled [] more is = refl
none_spelled (f ∷ fs) more is = absurd cc

pub one_frame : (f : RawFrame) (frames : List RawFrame) → Began (spelling f) frames → frames ≡ f ∷ []
one_frame f [] (inl whole) = absurd cc
one_frame f (h ∷ fs) (inl whole) =
    let front = same_front f h [] (spelled fs) (append-nil (spelling f) ∙ whole) in
    let none : fs ≡ [] = none_spelled fs [] (front.rest ∙ sym (append-nil (spelled fs))) in
    ap (λ (gs : List RawFrame). h ∷ gs) none ∙ ap (λ (x : RawFrame). x ∷ []) (sym front.same)
one_frame f frames (inr is) = is.begun_are ∙ by is.whole is.went_are
  where
    by : (whole : List RawFrame) → spelling f ≡ spelled whole ++ is.part → whole ++ is.last ∷ [] ≡ f ∷ []
    by [] went =
        let front = same_front f is.last is.rest []
        (ap (λ (bs : List ℕ). bs ++ is.rest) went ∙ sym is.last_is ∙ sym (append-nil (spelling is.last))) in
        ap (λ (x : RawFrame). x ∷ []) (sym front.same)
    by (h ∷ whole) went =
        let front = same_front f h [] (spelled whole ++ is.part)
        (append-nil (spelling f) ∙ went ∙ append_assoc (spelling h) (spelled whole) is.part) in
        absurd (omega (arith, is.some, ap length front.rest, length-append (spelled whole) is.part))
