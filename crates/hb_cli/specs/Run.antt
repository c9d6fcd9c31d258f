-- What a command answers: its status, what it writes, and why.
use Rattle.std.specs.Prelude.{◌≡◌, ℕ, ◌<◌, ◌==◌, Bool, true, false, ◌⊎◌, nat_lt, List, [], ◌∷◌, ◌++◌, length, take, Option, Some, None}
use Rattle.std.specs.Prelude.{IfSome, Result, Ok, Err, if◌then◌else◌, codes, decimal}
use Rattle.std.specs.Io.KnownBytes.{Appends, Consumes}
use Rattle.std.specs.List.{list_any, flat_map}
use Rattle.std.specs.Option.{option_map}
use Rattle.hb_base.specs.Count.{one_more}
use Rattle.hb_held.specs.Rows.{Row, rows}
use Rattle.hb_lines.specs.Fields.{fields_text}
use Rattle.hb_lines.specs.Row.{row_text as held_text}
use Rattle.hb_cli.specs.Replaying.{Done, report_of}
use Rattle.hb_script.specs.declared.fault.ScriptFault.{ScriptFault}
use Rattle.hb_script.specs.declared.fault.ScriptWhy.{ScriptWhy}
use Rattle.hb_script.specs.declared.fault.ScriptWhy.TheVariants as row
use Rattle.hb_script.specs.Script.{lines}
use Rattle.hb_wire.specs.Message.{and_then}
use Rattle.hb_words.specs.Fault.{fault_line}
use Rattle.hb_words.specs.Command.{Command, checks, routes, shows, replays, serves, makes, prints}
use Rattle.hb_words.specs.declared.fault.WordsFault.{WordsFault}
use Rattle.hb_cli.specs.declared.input.InputWhy.{InputWhy}
use Rattle.hb_cli.specs.declared.input.InputWhy.TheVariants as why
use Rattle.hb_cli.specs.declared.input.Refused.{Refused as Refusal}
use Rattle.hb_cli.specs.declared.input.Refused.TheVariants.{Message, Line as BadLine}
use Rattle.hb_cli.specs.declared.stop.Stop.{Stop}
use Rattle.hb_cli.specs.declared.stop.Stop.TheVariants.{Words, TooLong, Refused, ReadFault, NoMemory}
use Rattle.hb_cli.specs.Input.{longest_input, Leaves, left_by}
use Rattle.hb_cli.specs.Judge.{line, checked_by, routed_by}

-- the line of a resource held, with the fields of its record where they are asked for
abbrev pub held_line : Bool → Row → List ℕ
held_line true row = fields_text row
held_line false row = held_text row

-- what `show` prints: a line of each response, and then a line of each resource held, by kind and name
abbrev pub shown : Bool → Leaves → List ℕ
shown fields l = l.told ++ flat_map (held_line fields) (rows l.held)

abbrev pub or_words : Result Command WordsFault → Result Command Stop
or_words (Ok c) = Ok c
or_words (Err fault) = Err (Words fault)

abbrev pub or_refused : {A : Type 0} → Result A Refusal → Result A Stop
or_refused (Ok x) = Ok x
or_refused (Err refusal) = Err (Refused refusal)

abbrev pub or_line : {A : Type 0} → Result A ScriptFault → Result A Refusal
or_line (Ok x) = Ok x
or_line (Err fault) = Err (BadLine fault)

-- What a command prints by the resources that an input leaves, or the first of its messages that is refused. `replay` prints
-- the report of the done that it left, where each row of its input is a line. `serve`, `make` and a page, which read no input, print
-- nothing by it.
abbrev pub printed_by : Command → Done → List ℕ → Result (List ℕ) Refusal
printed_by (checks q) done input = checked_by q input
printed_by (routes r) done input = routed_by r input
printed_by (shows s) done input = and_then (left_by true [] [] input) (λ l. Ok (shown s.fields l))
printed_by (replays r) done input = and_then (or_line (lines input)) (λ script. Ok (report_of r done))
printed_by (serves s) done input = Ok []
printed_by (makes m) done input = Ok []
printed_by (prints p) done input = Ok []

-- what a command prints after this input, or why it prints nothing
unfoldable pub answer_after : Command → Done → List ℕ → Result (List ℕ) Stop
answer_after c done input = if nat_lt longest_input (length input) then Err TooLong else or_refused (printed_by c done input)

-- The outcome of what is asked by this input, and of the done that was left: the words are looked at first, then the whole input.
abbrev pub outcome_by : Result Command WordsFault → Done → List ℕ → Result (List ℕ) Stop
outcome_by asked done input = and_then (or_words asked) (λ c. answer_after c done input)

-- it is the outcome of what is asked, of the done and of some input
abbrev pub IsOutcomeBy : Result Command WordsFault → Done → Result (List ℕ) Stop → Type 0
IsOutcomeBy asked done o = (input : List ℕ) × (outcome_by asked done input ≡ o)

-- words that ask for `serve`, `make` or a page read no input; of all others the outcome is by the input
abbrev pub takes_input : Result Command WordsFault → Bool
takes_input (Ok (serves s)) = false
takes_input (Ok (makes m)) = false
takes_input (Ok (prints p)) = false
takes_input (Ok _) = true
takes_input (Err fault) = true

-- the status of an outcome
abbrev pub status_of : Result (List ℕ) Stop → ℕ
status_of (Ok answer) = 0
status_of (Err (Words fault)) = 2
status_of (Err TooLong) = 3
status_of (Err (Refused refusal)) = 3
status_of (Err ReadFault) = 6
status_of (Err NoMemory) = 9

abbrev pub why_text : InputWhy → List ℕ
why_text why.Compressed = codes "compressed"
why_text why.TooLong = codes "too long"
why_text why.CutShort = codes "cut short"
why_text why.NotAResponse = codes "not a response"

-- why a row of a script is no line
abbrev pub row_text : ScriptWhy → List ℕ
row_text row.NotJson = codes "not json"
row_text row.NotObject = codes "not an object"
row_text row.BadKeys = codes "bad keys"
row_text row.BadValue = codes "bad value"
row_text row.BadHex = codes "bad hex"

-- the line that tells why there is no answer
abbrev pub stop_line : Stop → List ℕ
stop_line (Words fault) = fault_line fault
stop_line TooLong = line (codes "hbone: input too long")
stop_line (Refused (Message number why)) = line (codes "hbone: message " ++ decimal number ++ codes ": " ++ why_text why)
stop_line (Refused (BadLine fault)) = line (codes "hbone: line " ++ decimal fault.line ++ codes ": " ++ row_text fault.why)
stop_line ReadFault = line (codes "hbone: read fault")
stop_line NoMemory = line (codes "hbone: out of memory")

abbrev pub write_fault_line : List ℕ
write_fault_line = line (codes "hbone: write fault")

-- the lines of a run whose world failed, and of one whose turns were spent
abbrev pub world_fault_line : List ℕ
world_fault_line = line (codes "hbone: world fault")

abbrev pub turns_spent_line : List ℕ
turns_spent_line = line (codes "hbone: turns spent")

-- What is written of a line: all of it, or a part from its front where a put failed. Only that counts as a fault.
abbrev pub WritesLine : Option (List ℕ) → Option (List ℕ) → ℕ → ℕ → List ℕ → Type 0
WritesLine before after faults faults_after text =
    (Appends before after text × (faults_after ≡ faults))
    ⊎ (((n : ℕ) × (n < length text) × Appends before after (take n text)) × (faults_after ≡ one_more faults))

-- The input was read to its end, or more than 67,108,864 bytes of it were.
abbrev pub ReadsEnough : Option (List ℕ) → Option (List ℕ) → Type 0
ReadsEnough before after =
    IfSome before (λ _. after ≡ Some []) ⊎ ((read : List ℕ) × (longest_input < length read) × Consumes before after read)

-- the statuses that there are
abbrev pub is_status : ℕ → Bool
is_status status = list_any (λ s. s == status) (0 ∷ 2 ∷ 3 ∷ 4 ∷ 5 ∷ 6 ∷ 7 ∷ 9 ∷ [])

-- the statuses at which an answer is printed whole: 0, and those of a run of the proxy that no stop ended
abbrev pub is_answered : ℕ → Bool
is_answered status = list_any (λ s. s == status) (0 ∷ 4 ∷ 5 ∷ [])

-- A status is the one that is stated, or 6, or 4, 5 or 7 where 0 is stated, or 9.
abbrev pub IsStated : ℕ → ℕ → Type 0
IsStated stated status =
    (status ≡ stated) ⊎ (status ≡ 6) ⊎ (((status ≡ 4) ⊎ (status ≡ 5) ⊎ (status ≡ 7)) × (stated ≡ 0)) ⊎ (status ≡ 9)

abbrev pub line_of : {A : Type 0} → Result A Stop → List ℕ
line_of (Ok x) = []
line_of (Err stop) = stop_line stop

abbrev pub words_line : Result Command WordsFault → Option (List ℕ)
words_line (Ok c) = None
words_line (Err fault) = Some (stop_line (Words fault))

-- What is told at a status: of 3, where the input is told.
abbrev pub line_at : ℕ → Result Command WordsFault → Done → Option (List ℕ) → Option (List ℕ)
line_at status asked done left =
    if status == 0 then Some []
    else (if status == 2 then words_line asked
    else (if status == 3 then option_map (λ input. line_of (outcome_by asked done input)) left
    else (if status == 4 then Some world_fault_line
    else (if status == 5 then Some turns_spent_line
    else (if status == 6 then Some (stop_line ReadFault)
    else (if status == 7 then Some write_fault_line
    else (if status == 9 then Some (stop_line NoMemory) else None)))))))
