-- What the owner of a connection does leaves it kept.
use Rattle.std.specs.Prelude.{◌≡◌, ℕ, ◌≤◌, Bool, List, Ok}
use Rattle.hb_frames.specs.Numbers.{largest}
use Rattle.hb_hpack.specs.declared.header.Header.{Header}
use Rattle.hb_owed.specs.declared.status.Status.{Status}
use Rattle.hb_conn.specs.Connection.{Connection}
use Rattle.hb_conn.specs.Observed.{next_stream, opened, wrote, data_put, credited, status_put, end_put, aborted}
use Rattle.hb_kept.specs.Kept.{IsKept}

-- a stream is opened
abbrev pub OpensKept : Type 0
OpensKept = (c : Connection) (stream : ℕ) (headers : List Header) (end : Bool) → next_stream c ≡ Ok stream → IsKept c
    → IsKept (opened c stream headers end)

-- octets were written
abbrev pub WritesKept : Type 0
WritesKept = (c : Connection) (n : ℕ) → IsKept c → IsKept (wrote c n)

-- DATA is put
abbrev pub PutsKept : Type 0
PutsKept = (c : Connection) (stream : ℕ) (bytes : List ℕ) → IsKept c → IsKept (data_put c stream bytes)

-- octets are used up, a status is put, and this end's side ends, on a stream whose number has 31 bits
abbrev pub UsesKept : Type 0
UsesKept = (c : Connection) (stream n : ℕ) → stream ≤ largest → IsKept c → IsKept (credited c stream n)

abbrev pub AnswersKept : Type 0
AnswersKept = (c : Connection) (stream : ℕ) (status : Status) → stream ≤ largest → IsKept c → IsKept (status_put c stream status)

abbrev pub EndsKept : Type 0
EndsKept = (c : Connection) (stream : ℕ) → stream ≤ largest → IsKept c → IsKept (end_put c stream)

-- a stream is reset
abbrev pub ResetsKept : Type 0
ResetsKept = (c : Connection) (stream code : ℕ) → IsKept c → IsKept (aborted c stream code)
