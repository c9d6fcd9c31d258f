-- Where no DATA can go, and what leaves it so.
use Rattle.std.specs.Prelude.{◌≡◌, ℕ, ◌<◌, ◌≤◌, false, List, length}
use Rattle.hb_frames.specs.RawFrame.{RawFrame}
use Rattle.hb_frames.specs.Numbers.{largest}
use Rattle.hb_hpack.specs.declared.header.Header.{Header}
use Rattle.hb_owed.specs.declared.status.Status.{Status}
use Rattle.hb_outgoing.specs.Waiting.{Waiting, put}
use Rattle.hb_conn.specs.Connection.{Connection}
use Rattle.hb_conn.specs.Observed.{outgoing, output, is_over, sendable, count_put, opened, data_put, credited, status_put, end_put, aborted}

-- no DATA can go, on whatever stream
abbrev pub NothingGoes : Connection → Type 0
NothingGoes c = (stream : ℕ) (bytes : List ℕ) → count_put c stream bytes ≡ 0

-- octets that couldn't go on this stream can't now either
abbrev pub StaysShut : ℕ → Connection → Connection → Type 0
StaysShut stream c d = (bytes : List ℕ) → count_put c stream bytes ≡ 0 → count_put d stream bytes ≡ 0

-- what is told of a connection error stays, windows let no more go on this stream, and where the output held octets it holds some
pub record StaysFor (stream : ℕ) (c d : Connection) : Type 0 where
  pub over : is_over d ≡ is_over c
  pub less : sendable d stream ≤ sendable c stream
  pub waits : 0 < length (output c) → 0 < length (output d)

-- where an octet waits nothing goes, and where a frame does
abbrev pub WaitingShuts : Type 0
WaitingShuts = (c : Connection) → 0 < length (output c) → NothingGoes c

abbrev pub FrameShuts : Type 0
FrameShuts = (c : Connection) (f : RawFrame) (w : Waiting) → outgoing c ≡ put f w → NothingGoes c

-- so behind DATA that was put, and behind the headers of a stream that was opened
abbrev pub PutShuts : Type 0
PutShuts = (c : Connection) (stream : ℕ) (bytes : List ℕ) → 0 < count_put c stream bytes → NothingGoes (data_put c stream bytes)

abbrev pub OpeningShuts : Type 0
OpeningShuts = (c : Connection) (stream : ℕ) (headers : List Header) → NothingGoes (opened c stream headers false)

-- and behind the reset of a stream whose number has 31 bits
abbrev pub ResetShuts : Type 0
ResetShuts = (c : Connection) (stream code : ℕ) → stream ≤ largest → NothingGoes (aborted c stream code)

-- what stays for a stream stays shut on it
abbrev pub StayingStaysShut : Type 0
StayingStaysShut = (stream : ℕ) (c d : Connection) → StaysFor stream c d → StaysShut stream c d

-- so with DATA, octets that are used up, a status and an end, on whatever stream
abbrev pub PutStaysShut : Type 0
PutStaysShut = (other : ℕ) (c : Connection) (stream : ℕ) (bytes : List ℕ) → StaysShut other c (data_put c stream bytes)

abbrev pub UseStaysShut : Type 0
UseStaysShut = (other : ℕ) (c : Connection) (stream n : ℕ) → StaysShut other c (credited c stream n)

abbrev pub AnswerStaysShut : Type 0
AnswerStaysShut = (other : ℕ) (c : Connection) (stream : ℕ) (status : Status) → StaysShut other c (status_put c stream status)

abbrev pub EndStaysShut : Type 0
EndStaysShut = (other : ℕ) (c : Connection) (stream : ℕ) → StaysShut other c (end_put c stream)
