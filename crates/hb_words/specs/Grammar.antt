-- What each command declares: options with one value, `--name value` or `--name=value`, flags, `--name`, and words in places. Options and
-- flags stand in any order, between the words in places too, each at most once; what is wanted has to be there, and nothing else is.
use Rattle.std.specs.Prelude.{ℕ, true, false, List, [], ◌∷◌, codes}
use Rattle.hb_options.specs.Items.{Part, option, flag, place, Command}
use Rattle.hb_words.specs.declared.part.CommandName.{CommandName}
use Rattle.hb_words.specs.declared.part.CommandName.TheVariants.{Check, Route, Show, Make, Replay, Serve}

abbrev pub command_text : CommandName → List ℕ
command_text Check = codes "check"
command_text Route = codes "route"
command_text Show = codes "show"
command_text Make = codes "make"
command_text Replay = codes "replay"
command_text Serve = codes "serve"

-- the options of both commands that run the proxy, before those of one of them
abbrev pub run_parts : List Part → List Part
run_parts own =
    option (codes "node") true ∷ option (codes "id") true ∷ option (codes "discovery") true ∷ option (codes "inbound") false
    ∷ option (codes "outbound") false ∷ option (codes "plain") false ∷ option (codes "network") false
    ∷ option (codes "hbone-port") false ∷ option (codes "tunnels") false ∷ option (codes "turns") false ∷ own

abbrev pub parts_of : CommandName → List Part
parts_of Check =
    option (codes "node") true ∷ option (codes "network") false ∷ flag (codes "explain") ∷ place (codes "SOURCE") true
    ∷ place (codes "IDENTITY") true ∷ place (codes "TARGET") true ∷ []
parts_of Route =
    option (codes "node") true ∷ option (codes "network") false ∷ option (codes "hbone-port") false ∷ place (codes "SOURCE") true
    ∷ place (codes "TARGET") true ∷ []
parts_of Show = flag (codes "fields") ∷ []
parts_of Make = place (codes "N") true ∷ flag (codes "run") ∷ []
parts_of Replay = run_parts (flag (codes "trace") ∷ flag (codes "brief") ∷ [])
parts_of Serve =
    run_parts
    (option (codes "ticks") false ∷ option (codes "status") false ∷ flag (codes "stop-on-input") ∷ flag (codes "quiet")
    ∷ flag (codes "notes-only") ∷ [])

-- the command, by the word that names it
abbrev pub declared : CommandName → Command
declared c = record { name = command_text c; parts = parts_of c }

abbrev pub commands : List Command
commands = declared Check ∷ declared Route ∷ declared Show ∷ declared Make ∷ declared Replay ∷ declared Serve ∷ []
