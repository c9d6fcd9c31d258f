-- What was put on a link by the time that nothing waits to be written on it (RFC 9113 sections 6.5.3, 6.7, 6.9 and 6.9.2).
use Rattle.std.specs.Prelude.{◌≡◌, ◌⊎◌, ℕ, ◌+◌, ◌≤◌, fold, filter, List, [], ◌++◌, Some, None}
use Rattle.std.specs.List.{flat_map}
use Rattle.hb_frames.specs.RawFrame.{RawFrame}
use Rattle.hb_frames.specs.Frames.{AreFrames}
use Rattle.hb_flow.specs.Windows.{first_size}
use Rattle.hb_outgoing.specs.Selected.{data_size}
use Rattle.hb_outgoing.specs.Waiting as outgoing
use Rattle.hb_conn.specs.Preface.{octets}
use Rattle.hb_history.specs.Answered.{answer_to, is_answer}
use Rattle.hb_history.specs.OwnCredits.{IsGrantedAgain}
use Rattle.hb_history.specs.Sending.{increments, size_with}
use Rattle.hb_kept.specs.Payloads.{payloads}
use Rattle.hb_world.specs.Trace.{recv, sent}
use Rattle.hb_model.specs.declared.config.NodeConfig.{NodeConfig}
use Rattle.hb_model.specs.Discovery.{stream, spelled}
use Rattle.hb_model.specs.Point.{Point, entries}
use Rattle.hb_model.specs.Requests.{requests}

-- A window is used up, by the frames that went and those that came: what the peer granted on the connection, or on the stream,
-- is no more than the payload of the DATA frames that went. A stream's window begins with the size that the peer set last
abbrev pub IsUsedUp : (went got : List RawFrame) → Type 0
IsUsedUp went got =
    (first_size + increments 0 got ≤ data_size None went)
    ⊎ (fold size_with first_size got + increments stream got ≤ data_size (Some stream) went)

-- What came on a link is frames, and the front of one that isn't whole; what went is the opening and whole frames. Of these
-- SETTINGS and PING with ACK are the answers to all SETTINGS and PING frames that came. The DATA in them is a front of the
-- requests that are due, each in the spelling of a message; and it is all of them, or a window is used up. Of the DATA that came,
-- on the connection and on the stream, what they grant again is no more, and less by fewer than 32,768 octets
pub record IsAllPut (g : NodeConfig) (points : List Point) (l : ℕ) : Type 0 where
  pub got : List RawFrame
  pub held : List ℕ
  pub came : AreFrames (recv l (entries points)) got held
  pub gone : List RawFrame
  pub went : sent l (entries points) ≡ octets ++ outgoing.spelled gone
  pub answers : filter is_answer gone ≡ flat_map answer_to got
  pub rest : List ℕ
  pub front : spelled (requests g l points) ≡ payloads stream gone ++ rest
  pub waits : (rest ≡ []) ⊎ IsUsedUp gone got
  pub connection_credit : IsGrantedAgain (increments 0 gone) (data_size None got)
  pub stream_credit : IsGrantedAgain (increments stream gone) (data_size (Some stream) got)
