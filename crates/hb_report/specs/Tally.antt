-- What a trace says of one link: its bytes, and the cause of its close.
use Rattle.std.specs.Prelude.{ℕ, ◌==◌, if◌then◌else◌, List, length, Option, Some, None, filter_map, slice_get}
use Rattle.hb_base.specs.declared.cause.Cause.{Cause}
use Rattle.hb_world.specs.declared.entry.Entry.{Entry}
use Rattle.hb_world.specs.declared.entry.Entry.TheVariants.{Closed}
use Rattle.hb_world.specs.Trace.{recv, sent}
use Rattle.hb_report.specs.declared.tallies.Tally.{Tally}

-- the cause with which this entry closes the link
abbrev pub closes_with : ℕ → Entry → Option Cause
closes_with link (Closed l cause) = if l == link then Some cause else None
closes_with link _ = None

-- the cause of the first close of the link; a trace of a world has one at most
abbrev pub cause_of : ℕ → List Entry → Option Cause
cause_of link trace = slice_get (filter_map (closes_with link) trace) 0

-- how many bytes came on the link, how many went, and why it was closed
abbrev pub tally_of : ℕ → List Entry → Tally
tally_of link trace = record { received = length (recv link trace); sent = length (sent link trace); cause = cause_of link trace }
