-- What is read of words.
use Rattle.std.specs.Prelude.{◌≡◌, List, Option, Some, None}
use Rattle.clap.specs.Simple.{subcommand_rows_of}
use Rattle.clap.specs.Walk.{Row, Text}
use Rattle.clap.specs.declared.parser.matches.ArgMatches.{ArgMatches}
use Rattle.hb_options.specs.Items.{Command, Item, Spells, Refused}
use Rattle.hb_options.specs.Taken.{Gives}

-- the matches are those of the command that the words name, and give the values of its items; none, where no command accepts the words
abbrev pub Reads : List Command → List Text → Option ArgMatches → Type 0
Reads commands words None = Refused commands words
Reads commands words (Some m) = (c : Command) × (items : List Item) × Spells commands words c items
    × (rows : List Row) × (subcommand_rows_of m ≡ Some (c.name, rows)) × Gives c.parts items rows
