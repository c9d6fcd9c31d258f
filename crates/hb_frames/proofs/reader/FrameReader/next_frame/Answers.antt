use Rattle.std.proofs.Common.{◌≡◌, ℕ, List, ◌≤◌, drop, refl, arith, ap, ◌∙◌, sym, subst, Some, None, Ok}
use Rattle.std.specs.Prelude.{slice_range}
use Rattle.hb_frames.specs.RawFrame.{raw_at}
use Rattle.hb_frames.specs.Frames.{HasNoFrame}
use Rattle.hb_frames.specs.Bodies.{IsFrame, lent_of}
use Rattle.hb_frames.specs.Reading.{first_of, IsFirst}
use Rattle.hb_buffer.specs.BoundedBytes.{BoundedBytes}
use Rattle.hb_frames.proofs.Records.{reading}
use Rattle.hb_frames.proofs.Readings.{same_reading, asked_some, asked_none}
use Rattle.hb_frames.proofs.reader.FrameReader.next_frame.Goals as goal

pub returns-in-None : goal.returns-in-None
returns-in-None c =
    let max = c.self.inside.max in
    let held = drop c.self.inside.given c.self.inside.buffer.items in
    let left : c.drop_front.new.self.items ≡ held = ap (λ (b : BoundedBytes). b.items) c.drop_front.ensures in
    let seen : c.as_slice.result.now ≡ held = c.as_slice.ensures.value ∙ left in
    let at_held : first_of max c.as_slice.result.now ≡ first_of max held = ap (first_of max) seen in
    let found : first_of max held ≡ Ok None = cc in
    let before =
    reading max held c.self.inside.at (slice_range c.self.inside.buffer.items c.self.inside.lent_start c.self.inside.lent_end) in
    let leaves = same_reading max _ _ _ _ _ _ left refl refl ∙ sym (asked_none before found) in
    let none_seen = rw c.in-None.is at c.in-Ok.ensures.none in
    let none = subst HasNoFrame seen none_seen in
    rw (← c.self.view_is) (
      (refl, λ _. tt, leaves),
      record { after = tt; value = found; size = tt; first = tt; none = none },
    )

pub returns-in-Some : goal.returns-in-Some
returns-in-Some c =
    let max = c.self.inside.max in
    let held = drop c.self.inside.given c.self.inside.buffer.items in
    let size = c.in-Some.size in
    let left : c.drop_front.new.self.items ≡ held = ap (λ (b : BoundedBytes). b.items) c.drop_front.ensures in
    let seen : c.as_slice.result.now ≡ held = c.as_slice.ensures.value ∙ left in
    let seen_again : c.as_slice-in-Some.result.now ≡ held = c.as_slice-in-Some.ensures.value ∙ left in
    let seen_last : c.as_slice-in-Some-2.result.now ≡ held = c.as_slice-in-Some-2.ensures.value ∙ left in
    let at_held : first_of max c.as_slice.result.now ≡ first_of max held = ap (first_of max) seen in
    let found : first_of max held ≡ Ok (Some size) = cc in
    let lent : _ ≡ lent_of (raw_at held) = c.lent_range-start.ensures.value ∙ ap (λ (bytes : List ℕ). lent_of (raw_at bytes)) seen_again in
    let frame = subst (λ (bytes : List ℕ). IsFrame (raw_at bytes) c.frame_at.result) seen_last c.frame_at.ensures in
    let before =
    reading max held c.self.inside.at (slice_range c.self.inside.buffer.items c.self.inside.lent_start c.self.inside.lent_end) in
    let rest : drop size c.drop_front.new.self.items ≡ drop size held = ap (drop size) left in
    let gap : slice_range c.drop_front.new.self.items c.lent_range-start.result.0 c.lent_range-start.result.1 ≡ lent_of (raw_at held) =
    rw (← c.as_slice-in-Some.ensures.value) lent in
    let leaves = same_reading max _ _ _ _ _ _ rest c.saturating_add-self-inside.ensures gap ∙ sym (asked_some before size found) in
    let first_seen = rw c.in-Some.is at c.in-Ok.ensures.first in
    let first = subst (λ (bytes : List ℕ). IsFirst max bytes size) seen first_seen in
    let nine : 9 ≤ size = omega (arith, (rw c.in-Some.is at c.in-Ok.ensures.found).size) in
    rw (← c.self.view_is) (
      (refl, λ _. tt, leaves),
      record {
        after = tt;
        value = (size, found, frame);
        size = (size, found, nine, first, frame);
        first = (size, first, frame);
        none = tt;
      },
    )
