-- The windows for what this end sends, as sums over the history (RFC 9113 sections 6.9 and 6.9.2).
use Rattle.std.specs.Prelude.{◌≡◌, ℕ, ◌+◌, ◌≤◌, ◌<◌, ◌==◌, ◌&&◌, not, false, fold, if◌then◌else◌, pos, ◌+ℤ◌, ◌≤ℤ◌, List, Some, None}
use Rattle.std.specs.List.{sum_by}
use Rattle.std.specs.FinMap.{get}
use Rattle.hb_frames.specs.RawFrame.{RawFrame}
use Rattle.hb_frames.specs.Numbers.{settings_kind, window_update_kind, initial_window_size, largest}
use Rattle.hb_frames.specs.Refusals.{is_ack, increment_of, settings}
use Rattle.hb_streams.specs.declared.role.Role.{Role}
use Rattle.hb_flow.specs.Windows.{Windows, first_size, counted}
use Rattle.hb_flow.specs.Flows.{granted}
use Rattle.hb_flow.specs.Sizes.{unbegun_on}
use Rattle.hb_outgoing.specs.Selected.{data_size}
use Rattle.hb_conn.specs.Connection.{Connection}
use Rattle.hb_conn.specs.Faults.{regained}
use Rattle.hb_conn.specs.Payload.{count_put, data_put}
use Rattle.hb_conn.specs.Windows.{unbegun}
use Rattle.hb_conn.specs.declared.machine.Core.{Core}
use Rattle.hb_conn.specs.declared.found.Found.{Found}
use Rattle.hb_history.specs.Points.{Point, frames_got}
use Rattle.hb_history.specs.History.{StandsFor}

-- what a frame of the peer grants on a stream; on stream 0: on the connection
abbrev pub increment_on : ℕ → RawFrame → ℕ
increment_on n f = if f.kind == window_update_kind && f.stream == n then increment_of f else 0

-- and what all of these grant
abbrev pub increments : ℕ → List RawFrame → ℕ
increments n frames = sum_by (increment_on n) frames

-- what a stream's DATA that hasn't begun has octets of payload
abbrev pub unbegun_of : Core → ℕ → ℕ
unbegun_of c n = unbegun_on (unbegun c).stream (unbegun c).size n

-- The connection's window, DATA that hasn't begun counted as not spent, is 65,535 and all increments less the payload of the
-- DATA frames that have begun. DATA that is taken back counts for nothing
abbrev pub ConnectionSends : Type 0
ConnectionSends = (role : Role) (points : List Point) (given : List Found) (came written : List ℕ) (c : Connection)
    → (stands : StandsFor role points given came written c) → c.receiver.core.over ≡ false
    → (counted c.receiver.core.flow.sending (unbegun c.receiver.core).size +ℤ pos (data_size None stands.begun))
    ≡ pos (first_size + increments 0 (frames_got points))

-- A stream's is the peer's initial size of now and all increments on it less the payload of its DATA frames that have begun
abbrev pub StreamsSend : Type 0
StreamsSend = (role : Role) (points : List Point) (given : List Found) (came written : List ℕ) (c : Connection)
    → (stands : StandsFor role points given came written c) → c.receiver.core.over ≡ false
    → (n : ℕ) (w : Windows) → get c.receiver.core.flow.streams n ≡ Some w
    → (counted w.sending (unbegun_of c.receiver.core n) +ℤ pos (data_size (Some n) stands.begun))
    ≡ pos (c.receiver.core.flow.initial + increments n (frames_got points))

-- so counted no window is above 2^31 - 1
abbrev pub WindowsFit : Type 0
WindowsFit = (role : Role) (points : List Point) (given : List Found) (came written : List ℕ) (c : Connection)
    → StandsFor role points given came written c → c.receiver.core.over ≡ false
    → (counted c.receiver.core.flow.sending (unbegun c.receiver.core).size ≤ℤ pos largest)
    × ((n : ℕ) (w : Windows) → get c.receiver.core.flow.streams n ≡ Some w
    → counted w.sending (unbegun_of c.receiver.core n) ≤ℤ pos largest)

-- so all DATA of a stream that is taken back is given back to the connection's window
abbrev pub AllIsGivenBack : Type 0
AllIsGivenBack = (role : Role) (points : List Point) (given : List Found) (came written : List ℕ) (c : Connection)
    → StandsFor role points given came written c → c.receiver.core.over ≡ false
    → (n : ℕ) → let size = data_size (Some n) c.receiver.core.out.queue in
    regained c.receiver.core.flow size ≡ granted c.receiver.core.flow size

-- so this end sends no more DATA than the peer granted on the connection, that counted which is put and hasn't begun
abbrev pub NeverMoreThanGranted : Type 0
NeverMoreThanGranted = (role : Role) (points : List Point) (given : List Found) (came written : List ℕ) (c : Connection)
    → (stands : StandsFor role points given came written c) → c.receiver.core.over ≡ false
    → data_size None stands.begun + (unbegun c.receiver.core).size ≤ first_size + increments 0 (frames_got points)

-- where DATA is put, neither window is below zero afterwards
abbrev pub NeverBelowZero : Type 0
NeverBelowZero = (c : Core) (n : ℕ) (bytes : List ℕ) → 0 < count_put c n bytes
    → (pos 0 ≤ℤ (data_put c n bytes).flow.sending.held)
    × ((w : Windows) → get (data_put c n bytes).flow.streams n ≡ Some w → pos 0 ≤ℤ w.sending.held)

-- the initial size of streams' windows that a setting leaves, and that a frame of the peer leaves: SETTINGS without ACK
-- (RFC 9113 section 6.5.2)
abbrev pub size_after : ℕ → ℕ × ℕ → ℕ
size_after size s = if s.0 == initial_window_size then s.1 else size

abbrev pub size_with : ℕ → RawFrame → ℕ
size_with size f = if f.kind == settings_kind && not (is_ack f) then fold size_after size (settings f.payload) else size

-- the peer's initial size of now is the last that it set, 65,535 before it set any
abbrev pub InitialIsLast : Type 0
InitialIsLast = (role : Role) (points : List Point) (given : List Found) (came written : List ℕ) (c : Connection)
    → StandsFor role points given came written c → c.receiver.core.over ≡ false
    → c.receiver.core.flow.initial ≡ fold size_with first_size (frames_got points)
