-- Reading the words and then the input: what it comes to, and telling why there is no answer.
use Rattle.std.specs.Prelude.{◌≡◌, ◌⊎◌, ℕ, Bool, true, false, IsTrue, List, IfSome, IsOk, Result, Ok, Err}
use Rattle.hb_cli.specs.Replaying.{Done}
use Rattle.hb_words.specs.declared.fault.WordsFault.{WordsFault}
use Rattle.hb_words.specs.Command.{Command}
use Rattle.hb_cli.specs.declared.stop.Stop.{Stop}
use Rattle.hb_cli.specs.declared.stop.Stop.TheVariants.{Words, TooLong, Refused, ReadFault, NoMemory}
use Rattle.hb_cli.specs.Run.{outcome_by, IsOutcomeBy, status_of, stop_line, ReadsEnough}
use Rattle.hb_cli.specs.Use.{Use, NoFault, OneFault, Untouched, Tells}

-- the words are accepted, and this is the outcome by the input, of which enough is read
abbrev pub LooksAt : Result Command WordsFault → Done → Use → Result (List ℕ) Stop → Type 0
LooksAt asked done input o =
    IsOk asked × IfSome input.bytes (λ left. outcome_by asked done left ≡ o) × IsOutcomeBy asked done o
    × ReadsEnough input.bytes input.bytes_after × NoFault input

-- What reading the words and then the input comes to.
abbrev pub ComesTo : Result Command WordsFault → Done → Use → Result (List ℕ) Stop → Type 0
ComesTo asked done input (Ok text) = LooksAt asked done input (Ok text)
ComesTo asked done input (Err (Words fault)) = (asked ≡ Err fault) × Untouched input
ComesTo asked done input (Err TooLong) = LooksAt asked done input (Err TooLong)
ComesTo asked done input (Err (Refused refusal)) = LooksAt asked done input (Err (Refused refusal))
ComesTo asked done input (Err ReadFault) = IsOk asked × OneFault input
ComesTo asked done input (Err NoMemory) = NoFault input

-- a line whose text isn't fixed, so that telling it takes memory
abbrev pub takes_memory : Stop → Bool
takes_memory (Words fault) = true
takes_memory TooLong = false
takes_memory (Refused refusal) = true
takes_memory ReadFault = false
takes_memory NoMemory = false

-- Telling why there is no answer: its line and its status, or those of want of memory.
abbrev pub GivesUp : Stop → Use → ℕ → Type 0
GivesUp stop err status =
    ((status ≡ status_of (Err stop)) × Tells err (stop_line stop))
    ⊎ (IsTrue (takes_memory stop) × (status ≡ 9) × Tells err (stop_line NoMemory))
