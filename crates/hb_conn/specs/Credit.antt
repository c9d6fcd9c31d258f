-- Octets of DATA that are used up (RFC 9113 section 6.9).
use Rattle.std.specs.Prelude.{ℕ, if◌then◌else◌}
use Rattle.hb_streams.specs.Sides.{sides_of}
use Rattle.hb_streams.specs.States.{state_of}
use Rattle.hb_flow.specs.Flows.{owed_on}
use Rattle.hb_conn.specs.Data.{credited_on}
use Rattle.hb_conn.specs.declared.machine.Core.{Core}

-- n octets that came on the stream are used up
abbrev pub used_on : Core → ℕ → ℕ → Core
used_on c stream n = record c { flow = owed_on c.flow stream n }

-- they are granted again where that is due, unless the peer has ended the stream
abbrev pub credit : Core → ℕ → ℕ → Core
credit c stream n =
    if (sides_of (state_of c.streams stream)).peer then credited_on (used_on c stream n) stream else used_on c stream n
