use Rattle.std.specs.Prelude.{◌≡◌, ℕ, ◌≤◌, List, ◌++◌, length, take, drop, Bool, false, Some}
use Rattle.std.specs.List.{list_any}
use Rattle.hb_frames.specs.RawFrame.{RawFrame}
use Rattle.hb_outgoing.specs.Waiting.{spelled}
use Rattle.hb_outgoing.specs.Queue.{frames_of, AreWhole}
use Rattle.hb_outgoing.specs.Selected.{has_data, is_data_of, data_count}
use Rattle.hb_outgoing.specs.Streams.{Streams, may_be}

-- What is kept of the DATA frames of a queue: how many there are, that none has payload where none waits, and streams of
-- which they all are
pub record KnowsData (waits : Bool) (count : ℕ) (streams : Streams) (queue : List RawFrame) : Type 0 where
  pub none : waits ≡ false → list_any has_data queue ≡ false
  pub count_is : count ≡ data_count queue
  pub absent : (stream : ℕ) → may_be streams stream ≡ false → list_any (is_data_of (Some stream)) queue ≡ false

-- No DATA frame of the queue stands in front of a place, at which a frame begins, or which is the end.
pub record NoDataBefore (items : List ℕ) (rest from : ℕ) : Type 0 where
  pub before : List RawFrame
  pub queue : frames_of (drop rest items) ≡ before ++ frames_of (drop from items)
  pub octets : take from items ≡ take rest items ++ spelled before
  pub none : data_count before ≡ 0
  pub within : from ≤ length items
  pub later : AreWhole (drop from items)
