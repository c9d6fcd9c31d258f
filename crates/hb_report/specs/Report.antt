-- The report of a run.
use Rattle.std.specs.Prelude.{ℕ, if◌then◌else◌, List, [], ◌++◌}
use Rattle.std.specs.List.{flat_map}
use Rattle.hb_base.specs.declared.note.Note.{Note}
use Rattle.hb_world.specs.declared.entry.Entry.{Entry}
use Rattle.hb_script.specs.EntryText.{entry_text}
use Rattle.hb_report.specs.declared.flags.Flags.{Flags}
use Rattle.hb_turns.specs.declared.served.Totals.{Totals}
use Rattle.hb_report.specs.Link.{birth_line}
use Rattle.hb_report.specs.Note.{note_line}
use Rattle.hb_report.specs.Tally.{tally_of}
use Rattle.hb_report.specs.Total.{total_line}

-- a line for each link, in the order of their births, which is that of their numbers
abbrev pub links_text : List Entry → List ℕ
links_text trace = flat_map (birth_line (λ link. tally_of link trace)) trace

-- a line for each note, in their order
abbrev pub notes_text : List Note → List ℕ
notes_text notes = flat_map note_line notes

-- the lines in front of the total line: those of the trace, where they are asked for, of the links and of the notes; a brief report
-- has none
abbrev pub details : Flags → List Entry → List Note → List ℕ
details flags trace notes =
    if flags.brief then []
    else ((if flags.trace then flat_map entry_text trace else []) ++ links_text trace ++ notes_text notes)

-- the report of a run with this trace, these notes and these totals
abbrev pub report : Flags → List Entry → List Note → Totals → List ℕ
report flags trace notes totals = details flags trace notes ++ total_line totals
