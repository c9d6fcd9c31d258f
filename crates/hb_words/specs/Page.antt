-- The pages that tell what the program's words are, and its version.
use Rattle.std.specs.Prelude.{◌≡◌, ℕ, List, [], ◌∷◌, ◌++◌, map, Option, Some, None, option_map, if◌then◌else◌, codes}
use Rattle.std.specs.List.{flat_map}
use Rattle.std.specs.Str.{bytes_eq}
use Rattle.hb_options.specs.Items.{name_of}
use Rattle.hb_words.specs.declared.page.Page.{Page}
use Rattle.hb_words.specs.declared.page.Page.TheVariants.{Commands, Words, Version}
use Rattle.hb_words.specs.declared.part.CommandName.{CommandName}
use Rattle.hb_words.specs.declared.part.CommandName.TheVariants.{Check, Route, Show, Make, Replay, Serve}
use Rattle.hb_words.specs.declared.part.PartName.{PartName}
use Rattle.hb_words.specs.declared.part.PartName.TheVariants.{Node, Network, Explain, Source, Identity, Target, Fields, Id, Discovery}
use Rattle.hb_words.specs.declared.part.PartName.TheVariants.{Inbound, Outbound, Plain, HbonePort, Tunnels, Turns, Ticks, Status}
use Rattle.hb_words.specs.declared.part.PartName.TheVariants.{StopOnInput, Quiet, NotesOnly, Trace, Brief, Count, Run}
use Rattle.hb_words.specs.Grammar.{command_text, parts_of}
use Rattle.hb_words.specs.Part.{id_text, command_named}

-- ---- the words that ask for a page

-- these words, and no others, ask for this page
abbrev pub SpellsPage : List (List ℕ) → Page → Type 0
SpellsPage words Commands = words ≡ codes "--help" ∷ []
SpellsPage words (Words c) = words ≡ command_text c ∷ codes "--help" ∷ []
SpellsPage words Version = words ≡ codes "--version" ∷ []

-- the page that one word asks for
abbrev pub page_named : List ℕ → Option Page
page_named word =
    if bytes_eq word (codes "--help") then Some Commands else (if bytes_eq word (codes "--version") then Some Version else None)

-- the page that a word behind another one asks for
abbrev pub page_behind : List ℕ → List ℕ → Option Page
page_behind name word = if bytes_eq word (codes "--help") then option_map Words (command_named name) else None

-- the page that words ask for, if they ask for one
unfoldable pub page_of : List (List ℕ) → Option Page
page_of (word ∷ []) = page_named word
page_of (name ∷ word ∷ []) = page_behind name word
page_of _ = None

-- ---- what the pages say

abbrev pub version : List ℕ
version = codes "0.1.0"

-- the form of a command's words
abbrev pub usage_of : CommandName → List ℕ
usage_of Check = codes "hbone check --node NODE [--network NETWORK] [--explain] SOURCE IDENTITY TARGET"
usage_of Route = codes "hbone route --node NODE [--network NETWORK] [--hbone-port PORT] SOURCE TARGET"
usage_of Show = codes "hbone show [--fields]"
usage_of Make = codes "hbone make N [--run]"
usage_of Replay = codes "hbone replay --node NODE --id ID --discovery TARGET [OPTION ..]"
usage_of Serve = codes "hbone serve --node NODE --id ID --discovery TARGET [OPTION ..]"

-- what a command does
abbrev pub purpose_of : CommandName → List ℕ
purpose_of Check = codes "Tells whether a peer may connect to an address and port, by the discovery responses on standard input."
purpose_of Route = codes "Tells which way a connection to an address and port takes, by the discovery responses on standard input."
purpose_of Show = codes "Tells what each discovery response on standard input did, and what the node holds after them."
purpose_of Make = codes "Prints a script of N tunnels for replay, or the totals of its run."
purpose_of Replay = codes "Runs the proxy over the script of socket events on standard input, and prints a report."
purpose_of Serve = codes "Runs the proxy over real sockets, and prints its totals at the end."

-- its name, before that
abbrev pub column_of : CommandName → List ℕ
column_of Check = codes "  check       "
column_of Route = codes "  route       "
column_of Show = codes "  show        "
column_of Make = codes "  make        "
column_of Replay = codes "  replay      "
column_of Serve = codes "  serve       "

abbrev pub command_line : CommandName → List ℕ
command_line c = column_of c ++ purpose_of c ++ codes "\n"

-- the line of a part, with what it means
abbrev pub part_line : PartName → List ℕ
part_line Node = codes "  --node NODE           the name of the node\n"
part_line Network = codes "  --network NETWORK     the node's network; without it the one whose name is empty\n"
part_line Explain = codes "  --explain             tells each policy that counts, too\n"
part_line Source = codes "  SOURCE                the address that connects\n"
part_line Identity = codes "  IDENTITY              none, or spiffe://TRUST_DOMAIN/ns/NAMESPACE/sa/SERVICE_ACCOUNT\n"
part_line Target = codes "  TARGET                the address and port that it asks for, as 10.0.0.7:8080 or [::1]:8080\n"
part_line Fields = codes "  --fields              tells the fields of each resource held, too\n"
part_line Id = codes "  --id ID               the id that the node tells its control plane\n"
part_line Discovery = codes "  --discovery TARGET    the address of the control plane, as 10.0.0.1:15010 or [::1]:15010\n"
part_line Inbound = codes "  --inbound TARGET      where the inbound door listens; without it there is none\n"
part_line Outbound = codes "  --outbound TARGET     where the outbound door listens; without it there is none\n"
part_line Plain = codes "  --plain TARGET        where the plain door listens; without it there is none\n"
part_line HbonePort = codes "  --hbone-port PORT     the port at which workloads take HBONE; without it 15008\n"
part_line Tunnels = codes "  --tunnels COUNT       the most tunnels at a time, 1 to 4096; without it 4096\n"
part_line Turns = codes "  --turns COUNT         the most turns of the event loop; one more ends the run with status 5\n"
part_line Ticks = codes "  --ticks COUNT         the tick of the timer, about one a second, that ends the run\n"
part_line Status = codes "  --status TARGET       where the state of the run is told over HTTP; without it nowhere\n"
part_line StopOnInput = codes "  --stop-on-input       ends the run where standard input ends or has a byte\n"
part_line Quiet = codes "  --quiet               writes no line of an answer, of its reason, or of an end\n"
part_line NotesOnly = codes "  --notes-only          writes the lines of answers, of their reasons, and of ends alone\n"
part_line Trace = codes "  --trace               tells each call on a socket, too\n"
part_line Brief = codes "  --brief               tells the totals alone\n"
part_line Count = codes "  N                     the number of tunnels, 1 to 1000\n"
part_line Run = codes "  --run                 runs the proxy over the script, and prints the totals in its place\n"

-- the parts of a command, in the order in which it declares them
abbrev pub shown_parts : CommandName → List PartName
shown_parts Check = Node ∷ Network ∷ Explain ∷ Source ∷ Identity ∷ Target ∷ []
shown_parts Route = Node ∷ Network ∷ HbonePort ∷ Source ∷ Target ∷ []
shown_parts Show = Fields ∷ []
shown_parts Make = Count ∷ Run ∷ []
shown_parts Replay =
    Node ∷ Id ∷ Discovery ∷ Inbound ∷ Outbound ∷ Plain ∷ Network ∷ HbonePort ∷ Tunnels ∷ Turns ∷ Trace ∷ Brief ∷ []
shown_parts Serve =
    Node ∷ Id ∷ Discovery ∷ Inbound ∷ Outbound ∷ Plain ∷ Network ∷ HbonePort ∷ Tunnels ∷ Turns ∷ Ticks ∷ Status ∷ StopOnInput ∷ Quiet
    ∷ NotesOnly ∷ []

-- the commands, in the order of their lines
abbrev pub shown_commands : List CommandName
shown_commands = Check ∷ Route ∷ Show ∷ Make ∷ Replay ∷ Serve ∷ []

-- a line of each command
abbrev pub commands_page : List CommandName → List ℕ
commands_page commands =
    codes "A node proxy for Istio's ambient mode.\n\nusage: hbone COMMAND [WORD ..]\n"
    ++ flat_map command_line commands
    ++ codes "  --help      Prints this page; behind a command, its words.\n  --version   Prints the program's version.\n"

-- what a command does, the form of its words, and a line of each part
abbrev pub words_page : CommandName → List ℕ
words_page c =
    purpose_of c ++ codes "\n\nusage: " ++ usage_of c ++ codes "\n" ++ flat_map part_line (shown_parts c)

abbrev pub page_text : Page → List ℕ
page_text Commands = commands_page shown_commands
page_text (Words c) = words_page c
page_text Version = codes "hbone " ++ version ++ codes "\n"

-- the page of a command has a line for each part that the command declares, in that order, and no other
abbrev pub EachPartHasItsLine : Type 0
EachPartHasItsLine = (c : CommandName) → map id_text (shown_parts c) ≡ map name_of (parts_of c)
