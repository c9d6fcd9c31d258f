-- DATA with payload that this end puts (RFC 9113 sections 6.1 and 6.9).
use Rattle.std.specs.Prelude.{ℕ, ◌==◌, ◌&&◌, nat_le, min, if◌then◌else◌, List, length, take}
use Rattle.hb_outgoing.specs.Waiting.{octets_of}
use Rattle.hb_frames.specs.Numbers.{data_kind, largest}
use Rattle.hb_flow.specs.Flows.{sendable, spent}
use Rattle.hb_conn.specs.Frames.{frame, sent}
use Rattle.hb_conn.specs.declared.machine.Core.{Core}

-- the longest payload of a DATA frame that is put, also where the peer takes longer ones
abbrev pub most_payload : ℕ
most_payload = 16384

-- how many octets one DATA frame may have: what both windows let go, and what the peer takes, of which at most 16,384
-- are used
abbrev pub allowed : Core → ℕ → ℕ
allowed c stream = min (sendable c.flow stream) (min c.peer.frame_size most_payload)

-- how many of the octets are put in one DATA frame: as many as may be, and none while anything waits to be written, nor
-- behind a connection error; the number of a stream has 31 bits
abbrev pub count_put : Core → ℕ → List ℕ → ℕ
count_put c stream bytes =
    if c.over then 0
    else if nat_le stream largest && length (octets_of c.out) == 0 then min (length bytes) (allowed c stream)
    else 0

-- the first n octets are put, and spent at once on both windows
abbrev pub with_data : Core → ℕ → List ℕ → ℕ → Core
with_data c stream bytes n =
    if n == 0 then c
    else sent (record c { flow = spent c.flow stream n }) (frame data_kind 0 stream (take n bytes))

abbrev pub data_put : Core → ℕ → List ℕ → Core
data_put c stream bytes = with_data c stream bytes (count_put c stream bytes)
