-- Printing a text that memory may lack for.
use Rattle.std.specs.Prelude.{ℕ, ◌==◌, List, []}
use Rattle.std.specs.Bool.{MatchBool}
use Rattle.hb_cli.specs.Run.{stop_line, write_fault_line}
use Rattle.hb_cli.specs.Use.{Use, Untouched, WritesAll, WritesPart, Tells}
use Rattle.hb_cli.specs.declared.stop.Stop.TheVariants.{NoMemory}

-- 9: nothing is printed
abbrev pub Lacks : Use → Use → Type 0
Lacks out err = Untouched out × Tells err (stop_line NoMemory)

-- What is printed of a text at each status: at 0 all of it, and at 7 a part, since a put failed.
abbrev pub PrintsAt : List ℕ → Use → Use → ℕ → Type 0
PrintsAt text out err status =
    MatchBool (status == 0) (WritesAll out text × Tells err [])
    (MatchBool (status == 7) (WritesPart out text × Tells err write_fault_line)
    (MatchBool (status == 9) (Lacks out err) ⊥))
