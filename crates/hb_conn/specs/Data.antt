-- DATA (RFC 9113 sections 5.2, 6.1 and 6.9).
use Rattle.std.specs.Prelude.{ℕ, ◌-◌, ◌==◌, nat_lt, Bool, false, if◌then◌else◌, Option, Some, None, Result, Ok, Err}
use Rattle.std.specs.FinMap.{get}
use Rattle.hb_streams.specs.Answers.{answer_of}
use Rattle.hb_streams.specs.Moves.{after, receives}
use Rattle.hb_streams.specs.declared.step.Step.{Step}
use Rattle.hb_streams.specs.declared.step.Step.TheVariants as step
use Rattle.hb_streams.specs.declared.fault.StreamFault.{StreamFault}
use Rattle.hb_flow.specs.Windows.{Windows, due_of}
use Rattle.hb_flow.specs.Flows.{took, took_on, owed, owed_on, paid, paid_on, due_on}
use Rattle.hb_frames.specs.Numbers.{data_kind, protocol_error, flow_control_error}
use Rattle.hb_conn.specs.Frames.{sent, window_update}
use Rattle.hb_conn.specs.Owing.{with_update}
use Rattle.hb_conn.specs.Faults.{faulted, broken, refused, released}
use Rattle.hb_conn.specs.Outcome.{Outcome, outcome}
use Rattle.hb_conn.specs.declared.machine.Core.{Core}
use Rattle.hb_conn.specs.declared.found.Found.TheVariants.{Silent, Chunk}

abbrev pub updated : Core → Option ℕ → Core
updated c None = c
updated c (Some n) = sent c (window_update 0 n)

-- what is owed is granted again where it is due, on the connection and on a stream
abbrev pub credited : Core → Core
credited c = updated (record c { flow = paid c.flow }) (due_of c.flow.taking)

abbrev pub credited_on : Core → ℕ → Core
credited_on c stream = with_update (record c { flow = paid_on c.flow stream }) stream (due_on c.flow stream)

-- all octets that came are owed on the connection at once
abbrev pub used : Core → ℕ → Core
used c counted = credited (record c { flow = owed (took c.flow counted) counted })

-- of the octets that came on a stream the padding is owed at once
abbrev pub padded : Core → ℕ → ℕ → ℕ → Core
padded c stream counted size = record c { flow = owed_on (took_on c.flow stream counted) stream (counted - size) }

-- the peer's side goes on, or ends: then nothing is granted on the stream any more
abbrev pub continued : Core → ℕ → Bool → Core
continued c stream end =
    if end then released (record c { streams = after c.streams (receives data_kind stream end) }) stream
    else credited_on c stream

-- DATA that goes to its stream. Row 23: more than its window grants
abbrev pub data_goes : Core → ℕ → ℕ → ℕ → Bool → Option Windows → Outcome
data_goes c stream counted size end None = outcome (continued c stream end) (Chunk stream end)
data_goes c stream counted size end (Some w) =
    if nat_lt w.taking.granted counted then broken c stream flow_control_error
    else outcome (continued (padded c stream counted size) stream end) (Chunk stream end)

-- DATA that the connection's window grants: refused by the state of its stream, ignored, or gone to it
abbrev pub data_answered : Core → ℕ → ℕ → ℕ → Bool → Result Step StreamFault → Outcome
data_answered c stream counted size end (Ok step.Goes) = data_goes c stream counted size end (get c.flow.streams stream)
data_answered c stream counted size end (Ok _) = outcome c Silent
data_answered c stream counted size end (Err fault) = refused c fault

-- row 17: the stream is idle
abbrev pub is_of_idle : Result Step StreamFault → Bool
is_of_idle (Err fault) = fault.code == protocol_error
is_of_idle (Ok _) = false

-- DATA of so many octets, of which `size` aren't padding. Row 17; then row 18: more than the connection's window grants
abbrev pub on_data : Core → ℕ → ℕ → ℕ → Bool → Outcome
on_data c stream counted size end =
    if is_of_idle (answer_of c.streams data_kind stream) then faulted c protocol_error
    else if nat_lt c.flow.taking.granted counted then faulted c flow_control_error
    else data_answered (used c counted) stream counted size end (answer_of c.streams data_kind stream)
