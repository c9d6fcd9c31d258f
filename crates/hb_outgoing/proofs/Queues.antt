-- Octets that are whole frames, and the first of these.
use Rattle.std.proofs.Common.{◌≡◌, ℕ, zero, suc, ◌+◌, ◌≤◌, ◌<◌, List, [], ◌∷◌, ◌++◌, length, take, drop, refl, sym, ap, ap₂, ◌∙◌, subst}
use Rattle.std.proofs.Common.{arith, false, length-append, length-drop}
use Rattle.std.specs.Prelude.{nat_lt}
use Rattle.std.proofs.lemmas.Bool.Decides.{nat_tests}
use Rattle.std.proofs.lemmas.List.{take-append-drop, append-nil, drop_all}
use Rattle.std.proofs.Math.Seq.{take-add, take-append_seam}
use Rattle.std.proofs.lemmas.List.{drop-drop}
use Rattle.std.proofs.lemmas.Grind.{flat_map-append}
use Rattle.hb_frames.specs.RawFrame.{RawFrame, Fits, header, spelling, raw_at, size_at}
use Rattle.hb_frames.proofs.ReadBack.{sent_is_spelled}
use Rattle.hb_frames.proofs.Spelling.{IsInFront, spelled_in_front}
use Rattle.hb_outgoing.specs.Waiting.{spelled}
use Rattle.hb_outgoing.specs.Queue.{frames_in, frames_of, AllFit, AreWhole, IsPlaced}

pub spelling_in_front : (f : RawFrame) (more : List ℕ) → Fits f → IsInFront f (spelling f) more (spelling f ++ more)
spelling_in_front f more fits = spelled_in_front f (spelling f) more (sent_is_spelled f fits)

pub spelling_len : (f : RawFrame) → length (spelling f) ≡ 9 + length f.payload
spelling_len f = length-append (header (length f.payload) f.kind f.flags f.stream) f.payload

pub frames_step : (most : ℕ) (bytes : List ℕ) → 9 ≤ length bytes
    → frames_in (suc most) bytes ≡ raw_at bytes ∷ frames_in most (drop (9 + size_at bytes) bytes)
frames_step most bytes enough = let test : nat_lt (length bytes) 9 ≡ false = grind (arith, nat_tests) in rw test refl

pub frames_in_spelled : (fs : List RawFrame) (most : ℕ) → AllFit fs → length (spelled fs) ≤ most → frames_in most (spelled fs) ≡ fs
frames_in_spelled [] zero fit h = refl
frames_in_spelled [] (suc most) fit h = refl
frames_in_spelled (f ∷ fs) zero fit h = absurd (omega arith)
frames_in_spelled (f ∷ fs) (suc most) fit h =
    let front = spelling_in_front f (spelled fs) fit.0 in
    let len = length-append (spelling f) (spelled fs) in
    let enough : 9 ≤ length (spelled (f ∷ fs)) = omega (arith, len, front.len) in
    let shorter : length (spelled fs) ≤ most = omega (arith, len, front.len, h) in
    frames_step most (spelled (f ∷ fs)) enough
    ∙ ap₂ (λ (g : RawFrame) (gs : List RawFrame). g ∷ gs) front.frame
    (ap (frames_in most) (sym front.rest) ∙ frames_in_spelled fs most fit.1 shorter)

-- what frames spell is read as these frames
pub frames_spelled : (fs : List RawFrame) → AllFit fs → frames_of (spelled fs) ≡ fs
unfolding frames_of
frames_spelled fs fit = frames_in_spelled fs (length (spelled fs)) fit (omega arith)

pub no_frames : frames_of [] ≡ []
no_frames = frames_spelled [] tt

pub no_frames_behind : (bytes : List ℕ) (at : ℕ) → length bytes ≤ at → frames_of (drop at bytes) ≡ []
no_frames_behind bytes at h = ap frames_of (drop_all at bytes h) ∙ no_frames

pub whole_spelled : (fs : List RawFrame) → AllFit fs → AreWhole (spelled fs)
whole_spelled fs fit = record { fit = subst AllFit (sym (frames_spelled fs fit)) fit; joined = ap spelled (frames_spelled fs fit) }

pub whole_none : AreWhole []
whole_none = whole_spelled [] tt

-- the first of whole frames
pub record IsNext (bytes : List ℕ) : Type 0 where
  pub size : size_at bytes ≡ length (raw_at bytes).payload
  pub first : frames_of bytes ≡ raw_at bytes ∷ frames_of (drop (9 + size_at bytes) bytes)
  pub within : 9 + size_at bytes ≤ length bytes
  pub later : AreWhole (drop (9 + size_at bytes) bytes)
  pub spells : take (9 + size_at bytes) bytes ≡ spelling (raw_at bytes)

pub next_spelled : (f : RawFrame) (fs : List RawFrame) → AllFit (f ∷ fs) → IsNext (spelled (f ∷ fs))
next_spelled f fs fit =
    let bytes = spelling f ++ spelled fs in
    let front = spelling_in_front f (spelled fs) fit.0 in
    let size_is : size_at bytes ≡ length (raw_at bytes).payload =
    front.size ∙ ap (λ (g : RawFrame). length g.payload) (sym front.frame) in
    let end_is : 9 + size_at bytes ≡ length (spelling f) = omega (arith, front.size, front.len) in
    record {
      size = size_is;
      first = frames_spelled (f ∷ fs) fit
          ∙ ap₂ (λ (g : RawFrame) (gs : List RawFrame). g ∷ gs) (sym front.frame)
          (sym (frames_spelled fs fit.1) ∙ ap frames_of front.rest);
      within = omega (arith, end_is, length-append (spelling f) (spelled fs));
      later = subst AreWhole front.rest (whole_spelled fs fit.1);
      spells = ap (λ (n : ℕ). take n bytes) end_is ∙ take-append_seam (spelling f) (spelled fs) ∙ ap spelling (sym front.frame);
    }

pub next_of : (bytes : List ℕ) (fs : List RawFrame) → AllFit fs → spelled fs ≡ bytes → 0 < length bytes → IsNext bytes
next_of bytes [] fit is some = absurd (omega (arith, some, ap length is))
next_of bytes (f ∷ fs) fit is some = subst IsNext is (next_spelled f fs fit)

pub next_at : (bytes : List ℕ) (at : ℕ) → AreWhole (drop at bytes) → at < length bytes → IsNext (drop at bytes)
next_at bytes at whole more =
    next_of (drop at bytes) (frames_of (drop at bytes)) whole.fit whole.joined (omega (arith, more, length-drop at bytes))

-- the frame at a place, in all octets
pub placed : (bytes : List ℕ) (at : ℕ) → AreWhole (drop at bytes) → at < length bytes → IsPlaced bytes at (size_at (drop at bytes))
placed bytes at whole more =
    let behind = drop at bytes in
    let next = next_at bytes at whole more in
    let rest = drop-drop (9 + size_at behind) at bytes in
    record {
      size_is = next.size;
      stands = record {
        first = next.first ∙ ap (λ (xs : List ℕ). raw_at behind ∷ frames_of xs) rest;
        end_is = omega (arith, next.size, spelling_len (raw_at behind));
        octets = take-add at (9 + size_at behind) bytes ∙ ap (λ (xs : List ℕ). take at bytes ++ xs) next.spells;
      };
      within = omega (arith, next.within, length-drop at bytes, more);
      later = subst AreWhole rest next.later;
    }

-- whole frames behind others
pub fit_append : (fs gs : List RawFrame) → AllFit fs → AllFit gs → AllFit (fs ++ gs)
fit_append [] gs p q = q
fit_append (f ∷ fs) gs p q = (p.0, fit_append fs gs p.1 q)

pub record Grows (bytes : List ℕ) (f : RawFrame) : Type 0 where
  pub whole : AreWhole (bytes ++ spelling f)
  pub frames : frames_of (bytes ++ spelling f) ≡ frames_of bytes ++ f ∷ []

pub grown : (bytes : List ℕ) (f : RawFrame) → AreWhole bytes → Fits f → Grows bytes f
grown bytes f whole fits =
    let fs = frames_of bytes in
    let fit = fit_append fs (f ∷ []) whole.fit (fits, tt) in
    let one : spelled (f ∷ []) ≡ spelling f = append-nil (spelling f) in
    let is : spelled (fs ++ f ∷ []) ≡ bytes ++ spelling f =
    flat_map-append spelling fs (f ∷ []) ∙ ap₂ (λ (xs ys : List ℕ). xs ++ ys) whole.joined one in
    record {
      whole = subst AreWhole is (whole_spelled (fs ++ f ∷ []) fit);
      frames = sym (ap frames_of is) ∙ frames_spelled (fs ++ f ∷ []) fit;
    }

-- all that waits is what is left of what was begun, and the frames behind it
pub octets_are : (bytes : List ℕ) (rest : ℕ) → AreWhole (drop rest bytes) → take rest bytes ++ spelled (frames_of (drop rest bytes)) ≡ bytes
octets_are bytes rest whole = ap (λ (xs : List ℕ). take rest bytes ++ xs) whole.joined ∙ take-append-drop rest bytes
