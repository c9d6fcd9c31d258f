-- The words of the command line: `check --node NODE [--network NETWORK] [--explain] SOURCE IDENTITY TARGET`,
-- `route --node NODE [--network NETWORK] [--hbone-port PORT] SOURCE TARGET`, `show [--fields]`, `make N [--run]`, and `replay` and `serve`
-- with their options; `--help` and `--version` alone, and `--help` alone behind a command.
use Rattle.std.specs.Prelude.{◌≡◌, ◌⊎◌, ℕ, ◌&&◌, Bool, List, [], ◌∷◌, Option, Some, None, Result, Ok, Err, option_and_then}
use Rattle.std.specs.Prelude.{if◌then◌else◌, codes}
use Rattle.std.specs.List.{list_all}
use Rattle.clap.specs.Simple.{App, subcommand_of}
use Rattle.clap.specs.Takes.{takes}
use Rattle.clap.specs.Walk.{first_of}
use Rattle.hb_options.specs.Items.{Part, Item, Spells, app, is_clean, part_named, value_of}
use Rattle.hb_words.specs.declared.fault.Why.{Why}
use Rattle.hb_words.specs.declared.fault.Why.TheVariants.{Unknown}
use Rattle.hb_words.specs.declared.fault.WordsFault.{WordsFault}
use Rattle.hb_words.specs.declared.fault.WordsFault.TheVariants.{NoCommand, UnknownCommand, Behind}
use Rattle.hb_words.specs.declared.page.Page.{Page}
use Rattle.hb_words.specs.declared.part.CommandName.{CommandName}
use Rattle.hb_words.specs.declared.part.CommandName.TheVariants.{Show}
use Rattle.hb_words.specs.Command.{Command, prints}
use Rattle.hb_words.specs.Grammar.{commands, declared, parts_of}
use Rattle.hb_words.specs.Page.{SpellsPage, page_of}
use Rattle.hb_words.specs.Part.{command_named}
use Rattle.hb_words.specs.Values.{Values, asked_by}
use Rattle.hb_words.specs.Why.{shown, why_of}

abbrev pub program : App
program = app (codes "hbone") commands

-- each word may be an item's, and clap takes them all: exactly where they spell items that the command accepts, as the laws say
unfoldable pub is_accepted : List (List ℕ) → Bool
is_accepted words = list_all is_clean words && takes program words

-- the value that clap gives for each part
unfoldable pub values_of : List (List ℕ) → Values
values_of words name = option_and_then (λ found. first_of name found.1) (subcommand_of program words)

abbrev pub or_behind : CommandName → Result Command Why → Result Command WordsFault
or_behind c (Ok asked) = Ok asked
or_behind c (Err why) = Err (Behind c why)

-- what the command asks that has these words, of which `rest` stands behind its name
unfoldable pub behind : CommandName → List (List ℕ) → List (List ℕ) → Result Command WordsFault
behind c words rest = or_behind c (if is_accepted words then asked_by c (values_of words) else Err (why_of c rest))

-- the command that the first word names
abbrev pub command_first : List (List ℕ) → Option CommandName
command_first [] = None
command_first (word ∷ rest) = command_named word

abbrev pub of_named : List ℕ → List (List ℕ) → Option CommandName → Result Command WordsFault
of_named word rest None = Err (UnknownCommand (shown word))
of_named word rest (Some c) = behind c (word ∷ rest) rest

-- what words ask of a command, or why they aren't accepted
unfoldable pub command_by : List (List ℕ) → Result Command WordsFault
command_by [] = Err NoCommand
command_by (word ∷ rest) = of_named word rest (command_named word)

abbrev pub or_page : Option Page → Result Command WordsFault → Result Command WordsFault
or_page (Some page) asked = Ok (prints page)
or_page None asked = asked

-- What the words ask, or why they aren't accepted.
unfoldable pub words_of : List (List ℕ) → Result Command WordsFault
words_of words = or_page (page_of words) (command_by words)

-- ---- by the items that words spell

-- the values of items
abbrev pub values_among : List Part → List Item → Values
values_among parts items name = option_and_then (λ p. value_of p items) (part_named parts name)

-- words that spell items which a command accepts ask what these items' values ask
abbrev pub ReadsSpelledItems : Type 0
ReadsSpelledItems = (words : List (List ℕ)) (c : CommandName) (items : List Item) → Spells commands words (declared c) items
    → words_of words ≡ or_behind c (asked_by c (values_among (parts_of c) items))

-- words that ask for a page ask that it is printed
abbrev pub ReadsPages : Type 0
ReadsPages = (words : List (List ℕ)) (page : Page) → SpellsPage words page → words_of words ≡ Ok (prints page)

-- the words spell a page that is asked for, or items by which this is asked
abbrev pub AsksForPage : List (List ℕ) → Command → Type 0
AsksForPage words asked = (page : Page) × SpellsPage words page × (asked ≡ prints page)

abbrev pub AsksByItems : List (List ℕ) → Command → Type 0
AsksByItems words asked = (c : CommandName) × (items : List Item) × Spells commands words (declared c) items
    × (asked_by c (values_among (parts_of c) items) ≡ Ok asked)

-- words that some programs take so ask for no page here
abbrev pub OthersAskForNone : Type 0
OthersAskForNone =
    (words_of (codes "-h" ∷ []) ≡ Err (UnknownCommand (codes "-h")))
    × (words_of (codes "help" ∷ []) ≡ Err (UnknownCommand (codes "help")))
    × (words_of (codes "--" ∷ []) ≡ Err (UnknownCommand (codes "--")))
    × (words_of (codes "--help" ∷ codes "show" ∷ []) ≡ Err (UnknownCommand (codes "--help")))
    × (words_of (codes "show" ∷ codes "-h" ∷ []) ≡ Err (Behind Show (Unknown (codes "-h"))))
    × (words_of (codes "show" ∷ codes "--help" ∷ codes "--help" ∷ []) ≡ Err (Behind Show (Unknown (codes "--help"))))

-- and no other words are accepted
abbrev pub AcceptsThese : Type 0
AcceptsThese = (words : List (List ℕ)) (asked : Command) → words_of words ≡ Ok asked → AsksForPage words asked ⊎ AsksByItems words asked
