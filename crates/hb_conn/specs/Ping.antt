-- PING (RFC 9113 section 6.7).
use Rattle.std.specs.Prelude.{ℕ, Bool, if◌then◌else◌}
use Rattle.hb_conn.specs.Frames.{sent, ping_ack}
use Rattle.hb_conn.specs.Outcome.{Outcome, outcome}
use Rattle.hb_conn.specs.declared.machine.Core.{Core}
use Rattle.hb_conn.specs.declared.found.Found.TheVariants.{Silent}

-- an answer to a PING is ignored; every other PING is answered
abbrev pub on_ping : Core → Bool → ℕ → Outcome
on_ping c ack value = if ack then outcome c Silent else outcome (sent c (ping_ack value)) Silent
