-- On which streams DATA waits to be written, move after move.
use Rattle.std.specs.Prelude.{◌≡◌, ℕ, ◌==◌, ◌&&◌, ◌||◌, not, Bool, true, false, List}
use Rattle.std.specs.List.{AllByRecursion}
use Rattle.hb_hpack.specs.declared.header.Header.{Header}
use Rattle.hb_owed.specs.declared.status.Status.{Status}
use Rattle.hb_outgoing.specs.Waiting.{Waiting}
use Rattle.hb_outgoing.specs.Selected.{has_data}
use Rattle.hb_conn.specs.Connection.{Connection, Finds}
use Rattle.hb_conn.specs.Observed.{outgoing, opened, wrote, data_put, credited, status_put, end_put, aborted}
use Rattle.hb_conn.specs.declared.found.Found.{Found}
use Rattle.hb_conn.specs.declared.found.Found.TheVariants as found
use Rattle.hb_history.specs.TakenBack.{NoneWaitsOn, waiting_on_three}

-- a set of streams: none, with a stream more, and without one
abbrev pub StreamSet : Type 0
StreamSet = ℕ → Bool

abbrev pub no_stream : StreamSet
no_stream = λ n. false

abbrev pub with_stream : ℕ → StreamSet → StreamSet
with_stream stream set = λ n. n == stream || set n

abbrev pub without_stream : ℕ → StreamSet → StreamSet
without_stream stream set = λ n. not (n == stream) && set n

-- all DATA with payload that waits to begin is of streams of the set
abbrev pub WaitsWithin : StreamSet → Waiting → Type 0
WaitsWithin set w = AllByRecursion (λ f. has_data f ≡ true → set f.stream ≡ true) w.queue

-- so it is with a larger set, and without a stream on which none waits
abbrev pub WaitsWithinMore : Type 0
WaitsWithinMore = (set more : StreamSet) (w : Waiting) → ((n : ℕ) → set n ≡ true → more n ≡ true) → WaitsWithin set w → WaitsWithin more w

abbrev pub WaitsWithout : Type 0
WaitsWithout = (set : StreamSet) (stream : ℕ) (w : Waiting) → NoneWaitsOn stream w → WaitsWithin set w
    → WaitsWithin (without_stream stream set) w

-- the set without the streams that end with what is told
abbrev pub set_behind : Found → StreamSet → StreamSet
set_behind (found.Reset stream code) set = without_stream stream set
set_behind (found.Broken stream code) set = without_stream stream set
set_behind (found.Fault code) set = no_stream
set_behind _ set = set

-- all that is found, all that is written, and each act keeps it; DATA adds its stream, and a reset takes its stream away
abbrev pub FindsWithin : Type 0
FindsWithin = (set : StreamSet) (c d : Connection) (told : Found) → Finds c d told → WaitsWithin set (outgoing c)
    → WaitsWithin (set_behind told set) (outgoing d)

abbrev pub WritesWithin : Type 0
WritesWithin = (set : StreamSet) (c : Connection) (n : ℕ) → WaitsWithin set (outgoing c) → WaitsWithin set (outgoing (wrote c n))

abbrev pub OpensWithin : Type 0
OpensWithin = (set : StreamSet) (c : Connection) (stream : ℕ) (headers : List Header) (end : Bool) → WaitsWithin set (outgoing c)
    → WaitsWithin set (outgoing (opened c stream headers end))

abbrev pub UsesWithin : Type 0
UsesWithin = (set : StreamSet) (c : Connection) (stream n : ℕ) → WaitsWithin set (outgoing c)
    → WaitsWithin set (outgoing (credited c stream n))

abbrev pub AnswersWithin : Type 0
AnswersWithin = (set : StreamSet) (c : Connection) (stream : ℕ) (status : Status) → WaitsWithin set (outgoing c)
    → WaitsWithin set (outgoing (status_put c stream status))

abbrev pub EndsWithin : Type 0
EndsWithin = (set : StreamSet) (c : Connection) (stream : ℕ) → WaitsWithin set (outgoing c)
    → WaitsWithin set (outgoing (end_put c stream))

abbrev pub PutsWithin : Type 0
PutsWithin = (set : StreamSet) (c : Connection) (stream : ℕ) (bytes : List ℕ) → WaitsWithin set (outgoing c)
    → WaitsWithin (with_stream stream set) (outgoing (data_put c stream bytes))

abbrev pub ResetsWithin : Type 0
ResetsWithin = (set : StreamSet) (c : Connection) (stream code : ℕ) → WaitsWithin set (outgoing c)
    → WaitsWithin (without_stream stream set) (outgoing (aborted c stream code))

-- DATA on stream 3 is within a set that has it, and within no other
abbrev pub OutsideIsRefused : Type 0
OutsideIsRefused = (set : StreamSet) → set 3 ≡ false → WaitsWithin set waiting_on_three → ⊥

abbrev pub InsideMayWait : Type 0
InsideMayWait = (set : StreamSet) → set 3 ≡ true → WaitsWithin set waiting_on_three
