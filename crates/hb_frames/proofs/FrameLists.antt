-- Lists of frames: there is one, and any calls give it.
use Rattle.std.proofs.Common.{◌≡◌, ℕ, List, [], ◌∷◌, ◌++◌, refl, ◌∙◌, sym, subst}
use Rattle.hb_frames.specs.RawFrame.{RawFrame, Spells}
use Rattle.hb_frames.specs.Frames.{Joins, HasNoFrame, OneReading}
use Rattle.hb_frames.proofs.Spelling.{IsInFront, spelled_in_front}

pub in_front : (f : RawFrame) (spelled more bytes : List ℕ) → Spells f spelled → bytes ≡ spelled ++ more → IsInFront f spelled more bytes
in_front f spelled more bytes spells is =
    subst (λ (b : List ℕ). IsInFront f spelled more b) (sym is) (spelled_in_front f spelled more spells)

pub one_list : (frames others : List RawFrame) (bytes rest others_rest : List ℕ) → Joins frames rest bytes → HasNoFrame rest
    → Joins others others_rest bytes → HasNoFrame others_rest → (frames ≡ others) × (rest ≡ others_rest)
one_list [] [] bytes rest others_rest j p k q = (refl, sym j ∙ k)
one_list [] (g ∷ gs) bytes rest others_rest j p k q = absurd (p g k.0 k.1 k.2 (sym j ∙ k.3))
one_list (f ∷ fs) [] bytes rest others_rest j p k q = absurd (q f j.0 j.1 j.2 (sym k ∙ j.3))
one_list (f ∷ fs) (g ∷ gs) bytes rest others_rest j p k q =
    let a = in_front f j.0 j.1 bytes j.2 j.3 in
    let b = in_front g k.0 k.1 bytes k.2 k.3 in
    let same_frame : f ≡ g = sym a.frame ∙ b.frame in
    let same_rest : j.1 ≡ k.1 = a.rest ∙ sym b.rest in
    let tail = one_list fs gs k.1 rest others_rest (subst (λ (m : List ℕ). Joins fs rest m) same_rest j.4) p k.4 q in
    (rw (same_frame, tail.0) refl, tail.1)

pub one_reading : OneReading
one_reading bytes rest others_rest frames others a b = one_list frames others bytes rest others_rest a.joined a.partial b.joined b.partial
