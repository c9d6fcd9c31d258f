use Rattle.std.proofs.Common.{◌≡◌, ◌++◌, take, string_bytes}
use Rattle.std.specs.List.{flat_map}
use Rattle.hb_words.specs.Page.{command_line}
use Rattle.hb_words.proofs.page.add_lines.Given as goal

-- the lines of the commands so far are added
abbrev pub invariant-loop-command : goal.invariant-loop-command
invariant-loop-command l =
    string_bytes l.text ≡ string_bytes l.initial.text ++ flat_map command_line (take l.command-index l.commands)
