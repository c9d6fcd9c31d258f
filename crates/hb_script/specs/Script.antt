-- A script: rows of a text, each a line of it.
use Rattle.std.specs.Prelude.{ℕ, ◌+◌, ◌==◌, List, [], ◌∷◌, ◌++◌, Result, Ok, Err}
use Rattle.std.specs.List.{slice_split}
use Rattle.hb_world.specs.declared.line.Line.{Line}
use Rattle.hb_script.specs.declared.fault.ScriptFault.{ScriptFault}
use Rattle.hb_script.specs.declared.fault.ScriptWhy.{ScriptWhy}
use Rattle.hb_script.specs.Form.{line_of}

-- the rows of a text: what stands between its newlines
abbrev pub rows : List ℕ → List (List ℕ)
rows text = slice_split (λ b. b == 10) text

-- the line of row n, if it has one; an empty row has none
abbrev pub line_at : ℕ → Result Line ScriptWhy → Result (List Line) ScriptFault
line_at n (Ok line) = Ok (line ∷ [])
line_at n (Err why) = Err (record { line = n; why = why })

abbrev pub row_lines : ℕ → List ℕ → Result (List Line) ScriptFault
row_lines n [] = Ok []
row_lines n (byte ∷ bytes) = line_at n (line_of (byte ∷ bytes))

-- lines and those behind them, or the first fault
abbrev pub joined : Result (List Line) ScriptFault → Result (List Line) ScriptFault → Result (List Line) ScriptFault
joined (Ok front) (Ok behind) = Ok (front ++ behind)
joined (Ok front) (Err fault) = Err fault
joined (Err fault) behind = Err fault

-- the lines of these rows, of which the first is number n
abbrev pub lines_from : ℕ → List (List ℕ) → Result (List Line) ScriptFault
lines_from n [] = Ok []
lines_from n (row ∷ later) = joined (row_lines n row) (lines_from (n + 1) later)

-- the lines of a script's text, or its first fault; rows are counted from 1, empty ones too
unfoldable pub lines : List ℕ → Result (List Line) ScriptFault
lines text = lines_from 1 (rows text)
