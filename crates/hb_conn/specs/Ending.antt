-- How this end answers on a stream, and ends it (RFC 9113 section 5.1).
use Rattle.std.specs.Prelude.{ℕ, Bool, ◌||◌, if◌then◌else◌}
use Rattle.hb_streams.specs.Moves.{after, sends_end}
use Rattle.hb_outgoing.specs.Selected.{end_waits}
use Rattle.hb_owed.specs.Debts.{ends_on}
use Rattle.hb_owed.specs.declared.due.Due.TheVariants as due
use Rattle.hb_owed.specs.declared.status.Status.{Status}
use Rattle.hb_conn.specs.Faults.{released}
use Rattle.hb_conn.specs.Owing.{with_due}
use Rattle.hb_conn.specs.declared.machine.Core.{Core}

-- this end's side of the stream ends
abbrev pub own_ended : Core → ℕ → Core
own_ended c stream = released (record c { streams = after c.streams (sends_end stream) }) stream

-- HEADERS of a status are put or owed, which may end this end's side
abbrev pub status_put : Core → ℕ → Status → Core
status_put c stream status =
    if status.end then own_ended (with_due c stream (due.Status status)) stream
    else with_due c stream (due.Status status)

-- an empty DATA frame with END_STREAM is put or owed, whatever the windows hold (RFC 9113 section 6.9.1)
abbrev pub end_put : Core → ℕ → Core
end_put c stream = own_ended (with_due c stream due.End) stream

-- a frame of the stream with END_STREAM is owed, or an octet of one waits to be written
abbrev pub end_waits_on : Core → ℕ → Bool
end_waits_on c stream = end_waits stream c.out || ends_on c.owed stream
