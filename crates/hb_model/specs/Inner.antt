-- What the proxy looks at and does by itself between two entries, and that it looks at all that came and hears what ends a link.
use Rattle.std.specs.Prelude.{⊤, ◌≡◌, ℕ, Bool, true, false, List, None}
use Rattle.std.specs.List.{list_any}
use Rattle.hb_frames.specs.Frames.{AreFrames}
use Rattle.hb_history.specs.Heard.{ends_stream}
use Rattle.hb_history.specs.Points.{frames_got}
use Rattle.hb_world.specs.Trace.{recv, lives}
use Rattle.hb_world.specs.declared.entry.Entry.{Entry}
use Rattle.hb_model.specs.Calls.{AtEach, AtEntry, Was, is_opened_of, IsControl, MayRead}
use Rattle.hb_model.specs.Ends.{end_of}
use Rattle.hb_model.specs.Point.{Point, entry, looked, applied, refused, used, put, stopped, entries, moves}

-- a link to the control plane is open and goes on: its peer hasn't ended, no call on it failed, and nothing else ended it
pub record GoesOn (l : ℕ) (points : List Point) : Type 0 where
  pub control : IsControl l (entries points)
  pub readable : MayRead l (entries points)
  pub lasts : end_of l points ≡ None

abbrev pub is_stop : Point → Bool
is_stop (stopped cause) = true
is_stop _ = false

-- Nothing is looked at, applied, refused, used up or put on a link but while it goes on; and the run is stopped once
abbrev pub InnerMayStand : List Point → Point → Type 0
InnerMayStand before (entry e) = ⊤
InnerMayStand before (looked l points told headers) = GoesOn l before
InnerMayStand before (applied l r) = GoesOn l before
InnerMayStand before (refused l) = GoesOn l before
InnerMayStand before (used l n) = GoesOn l before
InnerMayStand before (put l bytes) = GoesOn l before
InnerMayStand before (stopped cause) = list_any is_stop before ≡ false

abbrev pub InnerLaw : List Point → Type 0
InnerLaw points = AtEach InnerMayStand points

-- every whole frame that came on a link is looked at: the frames among its moves are those of the bytes that came, but for the
-- front of one that isn't whole
pub record IsLookedAt (points : List Point) (l : ℕ) : Type 0 where
  pub held : List ℕ
  pub came : AreFrames (recv l (entries points)) (frames_got (moves l points)) held

-- so it is at each entry, of each link to the control plane that lives, is open and hasn't ended
abbrev pub AllLookedAt : List Point → Entry → Type 0
AllLookedAt before e =
    (l : ℕ) → IsControl l (entries before) → lives l (entries before) ≡ true → end_of l before ≡ None
    → Was (is_opened_of l) (entries before) → IsLookedAt before l

abbrev pub LookedAtLaw : List Point → Type 0
LookedAtLaw points = AtEntry AllLookedAt points

-- no frame that came on a link ended its stream: of each that does it is told
abbrev pub AllHeard : List Point → Entry → Type 0
AllHeard before e =
    (l : ℕ) → IsControl l (entries before) → lives l (entries before) ≡ true → end_of l before ≡ None
    → Was (is_opened_of l) (entries before) → list_any ends_stream (frames_got (moves l before)) ≡ false

abbrev pub HeardLaw : List Point → Type 0
HeardLaw points = AtEntry AllHeard points
