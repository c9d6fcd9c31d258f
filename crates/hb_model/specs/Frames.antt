-- The proxy's own frames on a link to the control plane (RFC 9113 sections 3.4 and 6).
use Rattle.std.specs.Prelude.{◌≡◌, ℕ, List, ◌++◌}
use Rattle.hb_frames.specs.RawFrame.{RawFrame}
use Rattle.hb_conn.specs.Preface.{octets}
use Rattle.hb_history.specs.OwnFrames.{AreOwn}
use Rattle.hb_outgoing.specs.Waiting as outgoing
use Rattle.hb_world.specs.Trace.{sent}
use Rattle.hb_model.specs.Calls.{IsControl}
use Rattle.hb_model.specs.Point.{Point, entries, tellings}

-- What went on a link is, behind the client's preface, frames, of which the last may be in part: the opening SETTINGS, HEADERS of
-- stream 1, then answers, increments and DATA of stream 1, at last a GOAWAY where a connection error was told
pub record SendsOwnFrames (points : List Point) (l : ℕ) : Type 0 where
  pub begun : List RawFrame
  pub owed : List ℕ
  pub went : sent l (entries points) ++ owed ≡ octets ++ outgoing.spelled begun
  pub own : AreOwn (tellings l points) begun

-- so it is of each link to the control plane
abbrev pub FrameLaw : List Point → Type 0
FrameLaw points = (l : ℕ) → IsControl l (entries points) → SendsOwnFrames points l
