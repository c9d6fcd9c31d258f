-- Connection errors and stream errors (RFC 9113 section 5.4).
use Rattle.std.specs.Prelude.{ℕ, Bool, true, ◌||◌, if◌then◌else◌, pos, ◌+ℤ◌, int_lt, Some}
use Rattle.std.specs.FinMap.{empty}
use Rattle.hb_base.specs.declared.scope.Scope.{Scope}
use Rattle.hb_base.specs.declared.scope.Scope.TheVariants.{Connection, Stream}
use Rattle.hb_frames.specs.Numbers.{largest}
use Rattle.hb_streams.specs.Sides.{sides_of}
use Rattle.hb_streams.specs.States.{States, state_of, last_of_peer}
use Rattle.hb_streams.specs.Moves.{reset}
use Rattle.hb_streams.specs.declared.fault.StreamFault.{StreamFault}
use Rattle.hb_flow.specs.Windows.{counted}
use Rattle.hb_flow.specs.Flows.{Flows, granted, closed}
use Rattle.hb_outgoing.specs.Selected.{taken_back, all_taken_back, data_size}
use Rattle.hb_owed.specs.Debts.{taken_back as end_taken_back}
use Rattle.hb_owed.specs.Debts.{closed as owed_closed}
use Rattle.hb_owed.specs.declared.due.Due.TheVariants as due
use Rattle.hb_conn.specs.Frames.{sent, goaway}
use Rattle.hb_conn.specs.Owing.{with_due, owed_paid}
use Rattle.hb_conn.specs.Outcome.{Outcome, outcome}
use Rattle.hb_conn.specs.declared.machine.Core.{Core}
use Rattle.hb_conn.specs.declared.found.Found.TheVariants.{Broken, Fault}

-- an error of the connection: DATA that hasn't begun is taken back, nothing is owed any more, GOAWAY is put, and all is
-- over
unfoldable pub faulted : Core → ℕ → Outcome
faulted c code =
    outcome
    (sent (record c { out = all_taken_back c.out; owed = empty; over = true }) (goaway (last_of_peer c.streams) code))
    (Fault code)

-- a side of the stream is open
abbrev pub is_active : States → ℕ → Bool
is_active s stream = (sides_of (state_of s stream)).own || (sides_of (state_of s stream)).peer

-- the octets of DATA on a stream that is no more, given back to the connection's window where they fit
abbrev pub regained : Flows → ℕ → Flows
regained f n = if int_lt (pos largest) (counted f.sending 0 +ℤ pos n) then f else granted f n

-- the stream's DATA that hasn't begun is taken back, put or owed
abbrev pub withdrawn : Core → ℕ → Core
withdrawn c stream = record c {
  out = taken_back stream c.out;
  flow = regained c.flow (data_size (Some stream) c.out.queue);
  owed = end_taken_back c.owed stream;
}

-- a stream of which no side is open has no windows any more, and owes no more than before
abbrev pub released : Core → ℕ → Core
released c stream =
    if is_active c.streams stream then c
    else record c { flow = closed c.flow stream; owed = owed_closed c.owed stream }

-- the stream ends here: nothing more goes on it, and what is owed on others may go instead
abbrev pub given_up : Core → ℕ → Core
given_up c stream = owed_paid (released (withdrawn c stream) stream)

-- this end resets the stream, where a side of it is open
abbrev pub cancelled : Core → ℕ → Core
cancelled c stream = if is_active c.streams stream then record c { streams = reset c.streams stream } else c

-- its DATA that hasn't begun is taken back, and RST_STREAM is put or owed
unfoldable pub aborted : Core → ℕ → ℕ → Core
aborted c stream code =
    owed_paid (released (with_due (withdrawn (cancelled c stream) stream) stream (due.Reset code)) stream)

-- an error of a stream
abbrev pub broken : Core → ℕ → ℕ → Outcome
broken c stream code = outcome (aborted c stream code) (Broken stream code)

abbrev pub refused_by : Core → Scope → ℕ → Outcome
refused_by c Connection code = faulted c code
refused_by c (Stream stream) code = broken c stream code

-- a frame that the state of its stream refuses
abbrev pub refused : Core → StreamFault → Outcome
refused c fault = refused_by c fault.scope fault.code
