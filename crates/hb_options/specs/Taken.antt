-- What is said of the words that clap takes.
use Rattle.std.specs.Prelude.{◌≡◌, [], true, List, Some}
use Rattle.std.specs.List.{list_all}
use Rattle.clap.specs.Faults.{fault_of, is_simple_and_free}
use Rattle.clap.specs.Simple.{subcommand_of}
use Rattle.clap.specs.Takes.{takes}
use Rattle.clap.specs.Walk.{Row, Text, first_of, one_of}
use Rattle.hb_options.specs.Items.{Part, Command, Item, Spells, app, part_named, value_of, are_proper, is_clean}

-- a program is one of which clap says exactly by which kinds of fault it refuses words
abbrev pub AreSimple : Type 0
AreSimple = (program : Text) (commands : List Command) → is_simple_and_free (app program commands) ≡ true

-- words are taken that name a command and spell items that it accepts
abbrev pub TakesSpelledItems : Type 0
TakesSpelledItems = (program : Text) (commands : List Command) (words : List Text) (c : Command) (items : List Item)
    → are_proper commands ≡ true → Spells commands words c items → takes (app program commands) words ≡ true

-- such words are clean
abbrev pub AreSpelledCleanly : Type 0
AreSpelledCleanly = (commands : List Command) (words : List Text) (c : Command) (items : List Item) → are_proper commands ≡ true
    → Spells commands words c items → list_all is_clean words ≡ true

-- and of clean words no others are read without a fault
abbrev pub TakesSpelledItemsAlone : Type 0
TakesSpelledItemsAlone = (program : Text) (commands : List Command) (words : List Text) → are_proper commands ≡ true
    → list_all is_clean words ≡ true → fault_of (app program commands) words ≡ []
    → (c : Command) × (items : List Item) × Spells commands words c items

-- and clean words that are taken are spelled so
abbrev pub SpellsTakenWords : Type 0
SpellsTakenWords = (program : Text) (commands : List Command) (words : List Text) → are_proper commands ≡ true
    → list_all is_clean words ≡ true → takes (app program commands) words ≡ true
    → (c : Command) × (items : List Item) × Spells commands words c items

-- the value that clap gives for the id of a part is that of the part's item
abbrev pub Gives : List Part → List Item → List Row → Type 0
Gives parts items rows = (name : Text) (p : Part) → part_named parts name ≡ Some p
    → (first_of name rows ≡ value_of p items) × (one_of name rows ≡ value_of p items)

-- where words are taken, the command is the one that they name, and each part has the value of its item
abbrev pub GivesItemsValues : Type 0
GivesItemsValues = (program : Text) (commands : List Command) (words : List Text) (c : Command) (items : List Item)
    → are_proper commands ≡ true → Spells commands words c items
    → (rows : List Row) × (subcommand_of (app program commands) words ≡ Some (c.name, rows)) × Gives c.parts items rows
