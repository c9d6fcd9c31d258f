-- RST_STREAM (RFC 9113 section 6.4).
use Rattle.std.specs.Prelude.{ℕ, false, Result, Ok, Err}
use Rattle.hb_streams.specs.Answers.{answer_of}
use Rattle.hb_streams.specs.Moves.{after, receives}
use Rattle.hb_streams.specs.declared.step.Step.{Step}
use Rattle.hb_streams.specs.declared.step.Step.TheVariants as step
use Rattle.hb_streams.specs.declared.fault.StreamFault.{StreamFault}
use Rattle.hb_frames.specs.Numbers.{rst_stream_kind}
use Rattle.hb_conn.specs.Faults.{refused, given_up}
use Rattle.hb_conn.specs.Outcome.{Outcome, outcome}
use Rattle.hb_conn.specs.declared.machine.Core.{Core}
use Rattle.hb_conn.specs.declared.found.Found.TheVariants.{Silent, Reset}

-- the peer resets the stream
abbrev pub peer_reset : Core → ℕ → Core
peer_reset c stream = record c { streams = after c.streams (receives rst_stream_kind stream false) }

-- row 17: the stream is idle; on a closed one it is ignored
abbrev pub reset_answered : Core → ℕ → ℕ → Result Step StreamFault → Outcome
reset_answered c stream code (Err fault) = refused c fault
reset_answered c stream code (Ok step.Goes) = outcome (given_up (peer_reset c stream) stream) (Reset stream code)
reset_answered c stream code (Ok _) = outcome c Silent

abbrev pub on_reset : Core → ℕ → ℕ → Outcome
on_reset c stream code = reset_answered c stream code (answer_of c.streams rst_stream_kind stream)
