use Rattle.std.proofs.Common.{◌≡◌, ◌==◌, [], map, take}
use Rattle.clap.specs.Simple.{app_of}
use Rattle.hb_options.specs.Given.{command_of}
use Rattle.hb_options.specs.Items.{app}
use Rattle.hb_options.proofs.program.program.Given as goal

-- the commands so far are there; with none the program is a command by itself
abbrev pub invariant-loop-declared : goal.invariant-loop-declared
invariant-loop-declared l =
    app_of l.made ≡ record (app l.name (map command_of (take l.declared-index l.commands))) {
      top = record (app l.name []).top { is_leaf = l.declared-index == 0 };
    }
