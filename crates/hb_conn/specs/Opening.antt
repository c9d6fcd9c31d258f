-- How a client opens a stream (RFC 9113 sections 5.1.1 and 8.5).
use Rattle.std.specs.Prelude.{◌≡◌, ℕ, ◌+◌, Bool, if◌then◌else◌, List, Result, Ok, Err}
use Rattle.hb_base.specs.declared.or.Or.{Or}
use Rattle.hb_base.specs.declared.or.Or.TheVariants as or
use Rattle.hb_hpack.specs.Encoding.{block_of, going}
use Rattle.hb_hpack.specs.declared.header.Header.{Header}
use Rattle.hb_frames.specs.RawFrame.{RawFrame}
use Rattle.hb_streams.specs.Answers.{number_of}
use Rattle.hb_streams.specs.Moves.{after, begins}
use Rattle.hb_streams.specs.declared.fault.OpenFault.{OpenFault}
use Rattle.hb_frames.specs.Numbers.{headers_kind, end_stream_flag, end_headers_flag}
use Rattle.hb_conn.specs.Frames.{frame, sent}
use Rattle.hb_conn.specs.Headers.{registered}
use Rattle.hb_conn.specs.Ending.{own_ended}
use Rattle.hb_conn.specs.declared.machine.Core.{Core}

-- the next stream begins, of which both sides are open
abbrev pub begun : Core → ℕ → Core
begun c stream = registered (record c { streams = after c.streams (begins c.peer.streams) }) stream

-- HEADERS with END_HEADERS, and END_STREAM where this end ends its side at once
abbrev pub headers_frame : ℕ → Bool → List ℕ → RawFrame
headers_frame stream end block = frame headers_kind (if end then end_headers_flag + end_stream_flag else end_headers_flag) stream block

-- the headers are put, their block in one frame
abbrev pub headers_put : Core → ℕ → List Header → Bool → Core
headers_put c stream headers end =
    sent (record c { encoder = going c.encoder }) (headers_frame stream end (block_of c.encoder headers))

abbrev pub opened_with : Core → ℕ → List Header → Bool → Core
opened_with c stream headers end =
    if end then own_ended (headers_put (begun c stream) stream headers end) stream
    else headers_put (begun c stream) stream headers end

-- The stream is the next one of this client, within the peer's limit and 100, or there is none and nothing changes; and
-- what begins with it is `next`
abbrev pub Opens : Core → (ℕ → Core) → Core → Result ℕ (Or OpenFault) → Type 0
Opens old next new (Ok stream) = (number_of old.streams old.peer.streams ≡ Ok stream) × (new ≡ next stream)
Opens old next new (Err (or.Fault why)) = (number_of old.streams old.peer.streams ≡ Err why) × (new ≡ old)
Opens old next new (Err or.NoMemory) = Unit {0}
