-- What a client that asks on one stream grants again of the DATA that came (RFC 9113 section 6.9).
use Rattle.std.specs.Prelude.{◌≡◌, ℕ, ◌+◌, ◌-◌, ◌<◌, ◌≤◌, Bool, true, false, fold, List, ◌++◌, length, Some, None}
use Rattle.std.specs.List.{list_any}
use Rattle.std.specs.FinMap.{get}
use Rattle.hb_frames.specs.RawFrame.{RawFrame}
use Rattle.hb_frames.specs.Bodies.{lent_of}
use Rattle.hb_streams.specs.declared.role.Role.TheVariants.{Client}
use Rattle.hb_flow.specs.Windows.{Windows, worth_granting}
use Rattle.hb_outgoing.specs.Selected.{data_size}
use Rattle.hb_conn.specs.Connection.{Connection, core_of}
use Rattle.hb_conn.specs.Observed.{outgoing, room}
use Rattle.hb_conn.specs.declared.found.Found.{Found}
use Rattle.hb_conn.specs.declared.found.Found.TheVariants as found
use Rattle.hb_history.specs.Points.{Move, got, credited, Point, frames_got}
use Rattle.hb_history.specs.History.{StandsFor, happenings}
use Rattle.hb_history.specs.OwnFrames.{first_stream, asks, stage}
use Rattle.hb_history.specs.Sending.{increments}

-- what was granted again is at most what came, and short of that by less than 32,768 octets
abbrev pub IsGrantedAgain : (granted came : ℕ) → Type 0
IsGrantedAgain granted came = (granted ≤ came) × (came < granted + worth_granting)

-- the octets of DATA that were handed out and aren't used up, after a move of which this is told
abbrev pub kept_by : ℕ → Move → Found → ℕ
kept_by kept (got f) (found.Chunk stream end) = kept + length (lent_of f)
kept_by kept (credited stream n) told = kept - n
kept_by kept _ _ = kept

abbrev pub kept_after : ℕ → Point → ℕ
kept_after kept p = kept_by kept p.move p.told

abbrev pub kept : List Point → ℕ
kept points = fold kept_after 0 points

-- the peer ended its side of a stream
abbrev pub is_left : Found → Bool
is_left (found.Opened stream end) = end
is_left (found.Ended stream) = true
is_left _ = false

-- By these frames what came is granted again on the connection; and on the stream, once all that was handed out is used up and
-- there is room for a frame, unless the peer ended the stream
pub record GrantsAgain (points : List Point) (frames : List RawFrame) (c : Connection) : Type 0 where
  pub connection : IsGrantedAgain (increments 0 frames) (data_size None (frames_got points))
  pub windows : Windows
  pub has : get (core_of c).flow.streams first_stream ≡ Some windows
  pub kept_is : windows.taking.kept ≡ kept points
  pub stream : list_any is_left (happenings points) ≡ false → kept points ≡ 0 → 17 ≤ room c
      → IsGrantedAgain (increments first_stream frames) (data_size (Some first_stream) (frames_got points))

-- so it is after every history of such a client whose stream goes on, by the frames that began and those that wait
abbrev pub OwnCredits : Type 0
OwnCredits = (points : List Point) (given : List Found) (came written : List ℕ) (c : Connection)
    → (stands : StandsFor Client points given came written c) → stage points ≡ asks
    → GrantsAgain points (stands.begun ++ (outgoing c).queue) c
