use Rattle.std.proofs.Common.{◌≡◌, ◌≤◌, ℕ, List, ◌++◌}
use Rattle.std.specs.List.{flat_map}
use Rattle.hb_held.specs.Rows.{rows, rows_left}
use Rattle.hb_cli.specs.Run.{held_line}
use Rattle.hb_cli.specs.Use.{WritesAll, use_of}
use Rattle.hb_cli.proofs.answer.print_rows.Given as goal

-- the lines so far were printed whole, and with those of the rows to come they are all
abbrev pub invariant-loop-row : goal.invariant-loop-row
invariant-loop-row g l = (front : List ℕ)
    × WritesAll
    (use_of (g.K.Sink.written l.initial.out) (g.K.Sink.written l.out) (g.K.Sink.faults l.initial.out) (g.K.Sink.faults l.out)) front
    × (front ++ flat_map (held_line l.fields) (rows_left l.rows) ≡ flat_map (held_line l.fields) (rows l.held))
    × (g.K.Sink.faults l.initial.out ≤ g.K.Sink.faults l.out)
