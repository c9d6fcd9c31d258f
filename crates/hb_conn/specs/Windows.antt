-- WINDOW_UPDATE (RFC 9113 section 6.9).
use Rattle.std.specs.Prelude.{ℕ, ◌==◌, pos, ◌+ℤ◌, int_lt, if◌then◌else◌, Option, Some, None, Result, Ok, Err}
use Rattle.std.specs.FinMap.{get}
use Rattle.hb_frames.specs.Numbers.{window_update_kind, protocol_error, flow_control_error, largest}
use Rattle.hb_streams.specs.Answers.{answer_of}
use Rattle.hb_streams.specs.declared.step.Step.{Step}
use Rattle.hb_streams.specs.declared.step.Step.TheVariants as step
use Rattle.hb_streams.specs.declared.fault.StreamFault.{StreamFault}
use Rattle.hb_flow.specs.Windows.{Windows, counted}
use Rattle.hb_flow.specs.Flows.{granted, granted_on}
use Rattle.hb_flow.specs.Sizes.{unbegun_on}
use Rattle.hb_outgoing.specs.Selected.{first_data}
use Rattle.hb_outgoing.specs.declared.unbegun.Unbegun.{Unbegun}
use Rattle.hb_conn.specs.Faults.{faulted, broken, refused}
use Rattle.hb_conn.specs.Outcome.{Outcome, outcome}
use Rattle.hb_conn.specs.declared.machine.Core.{Core}
use Rattle.hb_conn.specs.declared.found.Found.TheVariants.{Silent}

abbrev pub unbegun_by : Option Unbegun → Unbegun
unbegun_by None = record { stream = 0; size = 0 }
unbegun_by (Some u) = u

-- the DATA with payload that is put and hasn't begun; of stream 0 and no octet where there is none
abbrev pub unbegun : Core → Unbegun
unbegun c = unbegun_by (first_data c.out.queue)

-- row 22, of the connection: its window passes the largest, DATA that hasn't begun counted as not spent
abbrev pub connection_grows : Core → ℕ → Outcome
connection_grows c n =
    if int_lt (pos largest) (counted c.flow.sending (unbegun c).size +ℤ pos n) then faulted c flow_control_error
    else outcome (record c { flow = granted c.flow n }) Silent

-- row 22, of a stream
abbrev pub stream_grows : Core → ℕ → ℕ → Option Windows → Outcome
stream_grows c stream n None = outcome c Silent
stream_grows c stream n (Some w) =
    if int_lt (pos largest) (counted w.sending (unbegun_on (unbegun c).stream (unbegun c).size stream) +ℤ pos n)
    then broken c stream flow_control_error
    else outcome (record c { flow = granted_on c.flow stream n }) Silent

-- row 17: the stream is idle; on a closed one it is ignored; row 21: an increment of 0; then row 22
abbrev pub stream_answered : Core → ℕ → ℕ → Result Step StreamFault → Outcome
stream_answered c stream n (Err fault) = refused c fault
stream_answered c stream n (Ok step.Goes) =
    if n == 0 then broken c stream protocol_error else stream_grows c stream n (get c.flow.streams stream)
stream_answered c stream n (Ok _) = outcome c Silent

abbrev pub on_window : Core → ℕ → ℕ → Outcome
on_window c stream n =
    if stream == 0 then connection_grows c n
    else stream_answered c stream n (answer_of c.streams window_update_kind stream)
