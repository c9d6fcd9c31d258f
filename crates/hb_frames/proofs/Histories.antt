-- What a call adds to the history that a reader stands for.
use Rattle.std.proofs.Common.{◌≡◌, ⊎_elim, ℕ, min, List, [], ◌∷◌, ◌++◌, length, take, drop, refl, ap, ◌∙◌, sym, subst, Option}
use Rattle.std.proofs.Common.{None, Result, Ok, Err}
use Rattle.std.proofs.lemmas.List.{append_assoc, take-append-drop}
use Rattle.hb_frames.specs.RawFrame.{RawFrame, Spells, raw_at}
use Rattle.hb_frames.specs.Frames.{Joins}
use Rattle.hb_frames.specs.Reading.{space_of, after_frame, first_of}
use Rattle.hb_frames.specs.History.{StandsFor, FeedAdds, FrameAdds, OthersAddNothing}
use Rattle.hb_frames.specs.declared.refusal.Refusal.{Refusal}

pub joins_more : (fs : List RawFrame) (rest bytes more : List ℕ) → Joins fs rest bytes → Joins fs (rest ++ more) (bytes ++ more)
joins_more [] rest bytes more j = ap (λ xs. xs ++ more) j
joins_more (f ∷ fs) rest bytes more j =
    (j.0, j.1 ++ more, j.2, ap (λ xs. xs ++ more) j.3 ∙ append_assoc j.0 j.1 more, joins_more fs rest j.1 more j.4)

pub joins_push : (fs : List RawFrame) (g : RawFrame) (rest bytes spelled behind : List ℕ) → Joins fs rest bytes → Spells g spelled
    → rest ≡ spelled ++ behind → Joins (fs ++ g ∷ []) behind bytes
joins_push [] g rest bytes spelled behind j spells is = (spelled, behind, spells, j ∙ is, refl)
joins_push (f ∷ fs) g rest bytes spelled behind j spells is =
    (j.0, j.1, j.2, j.3, joins_push fs g rest j.1 spelled behind j.4 spells is)

pub feed_adds : FeedAdds
feed_adds r taken piece given stands = joins_more given r.held taken (take (min (length piece) (space_of r)) piece) stands

pub frame_adds : FrameAdds
frame_adds r n taken given found first stands =
    subst (λ (x : Result (Option ℕ) Refusal). StandsFor (after_frame r x) taken (given ++ raw_at r.held ∷ [])) (sym found)
    (joins_push given (raw_at r.held) r.held taken (take n r.held) (drop n r.held) stands first.spells (sym (take-append-drop n r.held)))

pub others_add_nothing : OthersAddNothing
others_add_nothing r taken given found stands = ⊎_elim
    (λ (none : first_of r.max r.held ≡ Ok None).
    subst (λ (x : Result (Option ℕ) Refusal). StandsFor (after_frame r x) taken given) (sym none) stands)
    (λ (fault : (refusal : Refusal) × (first_of r.max r.held ≡ Err refusal)).
    subst (λ (x : Result (Option ℕ) Refusal). StandsFor (after_frame r x) taken given) (sym fault.1) stands)
    found
