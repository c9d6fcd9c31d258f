-- The frames that were looked at, whatever the pieces.
use Rattle.std.proofs.Common.{◌≡◌, ◌⊎◌, inl, inr, ℕ, ◌-◌, List, [], ◌∷◌, ◌++◌, length, drop, refl, ap, ap₂, sym, ◌∙◌, subst}
use Rattle.std.proofs.lemmas.List.{append_assoc}
use Rattle.hb_frames.specs.RawFrame.{RawFrame}
use Rattle.hb_frames.specs.Frames.{Joins}
use Rattle.hb_frames.proofs.FrameLists.{in_front}
use Rattle.hb_history.specs.Points.{frames_got}
use Rattle.hb_history.specs.History.{awaited, behind_of}
use Rattle.hb_history.specs.Calls.{IsFront, SameFrames}
use Rattle.hb_history.proofs.Front.{drop_both}

behind : (f g : RawFrame) (fs gs : List RawFrame) → f ≡ g → IsFront fs gs → IsFront (f ∷ fs) (g ∷ gs)
behind f g fs gs same front = (front.0, ap₂ (λ (h : RawFrame) (hs : List RawFrame). h ∷ hs) (sym same) front.1)

fronts : (fs gs : List RawFrame) (rest left bytes more : List ℕ) → Joins fs rest bytes → Joins gs left (bytes ++ more)
    → IsFront fs gs ⊎ IsFront gs fs
fronts [] gs rest left bytes more j k = inl (gs, refl)
fronts (f ∷ fs) [] rest left bytes more j k = inr (f ∷ fs, refl)
fronts (f ∷ fs) (g ∷ gs) rest left bytes more j k =
    let all : bytes ++ more ≡ j.0 ++ (j.1 ++ more) = ap (λ (xs : List ℕ). xs ++ more) j.3 ∙ append_assoc j.0 j.1 more in
    let a = in_front f j.0 (j.1 ++ more) (bytes ++ more) j.2 all in
    let b = in_front g k.0 k.1 (bytes ++ more) k.2 k.3 in
    let same : f ≡ g = sym a.frame ∙ b.frame in
    let later : k.1 ≡ j.1 ++ more = b.rest ∙ sym a.rest in
    elim (fronts fs gs rest left j.1 more j.4 (subst (λ (xs : List ℕ). Joins gs left xs) later k.4)) [
      | inl front ↦ inl (behind f g fs gs same front)
      | inr front ↦ inr (behind g f gs fs (sym same) front)
    ]

pub same_frames : SameFrames
same_frames role points others given told came more written out c d first second =
    let n = length (awaited role) in
    fronts (frames_got points) (frames_got others) c.receiver.reader.held d.receiver.reader.held (behind_of role came)
    (drop (n - length came) more) first.came.frames_are
    (subst (λ (xs : List ℕ). Joins (frames_got others) d.receiver.reader.held xs) (drop_both n came more) second.came.frames_are)
