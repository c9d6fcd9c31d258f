-- The commands and their parts, by which a fault is told.
use Rattle.std.specs.Prelude.{ℕ, Bool, true, false, List, [], ◌∷◌, ◌++◌, Option, Some, None, if◌then◌else◌, codes}
use Rattle.std.specs.Str.{bytes_eq}
use Rattle.hb_words.specs.declared.part.CommandName.{CommandName}
use Rattle.hb_words.specs.declared.part.CommandName.TheVariants.{Check, Route, Show, Make, Replay, Serve}
use Rattle.hb_words.specs.declared.part.PartName.{PartName}
use Rattle.hb_words.specs.declared.part.PartName.TheVariants.{Node, Network, Explain, Source, Identity, Target, Fields, Id, Discovery}
use Rattle.hb_words.specs.declared.part.PartName.TheVariants.{Inbound, Outbound, Plain, HbonePort, Tunnels, Turns, Ticks, Status}
use Rattle.hb_words.specs.declared.part.PartName.TheVariants.{StopOnInput, Quiet, NotesOnly, Trace, Brief, Count, Run}

-- the command that a word names
abbrev pub command_named : List ℕ → Option CommandName
command_named word =
    if bytes_eq word (codes "check") then Some Check
    else (if bytes_eq word (codes "route") then Some Route
    else (if bytes_eq word (codes "show") then Some Show
    else (if bytes_eq word (codes "make") then Some Make
    else (if bytes_eq word (codes "replay") then Some Replay
    else (if bytes_eq word (codes "serve") then Some Serve else None)))))

-- its name in the command's declaration
abbrev pub id_text : PartName → List ℕ
id_text Node = codes "node"
id_text Network = codes "network"
id_text Explain = codes "explain"
id_text Source = codes "SOURCE"
id_text Identity = codes "IDENTITY"
id_text Target = codes "TARGET"
id_text Fields = codes "fields"
id_text Id = codes "id"
id_text Discovery = codes "discovery"
id_text Inbound = codes "inbound"
id_text Outbound = codes "outbound"
id_text Plain = codes "plain"
id_text HbonePort = codes "hbone-port"
id_text Tunnels = codes "tunnels"
id_text Turns = codes "turns"
id_text Ticks = codes "ticks"
id_text Status = codes "status"
id_text StopOnInput = codes "stop-on-input"
id_text Quiet = codes "quiet"
id_text NotesOnly = codes "notes-only"
id_text Trace = codes "trace"
id_text Brief = codes "brief"
id_text Count = codes "N"
id_text Run = codes "run"

-- what stands before its name where it is told
abbrev pub dashes : PartName → List ℕ
dashes Source = []
dashes Identity = []
dashes Target = []
dashes Count = []
dashes _ = codes "--"

-- how it is told
abbrev pub name_text : PartName → List ℕ
name_text p = dashes p ++ id_text p

-- any option or flag of this name
abbrev pub any_flag : List ℕ → Option PartName
any_flag name =
    if bytes_eq name (codes "--explain") then Some Explain
    else (if bytes_eq name (codes "--fields") then Some Fields
    else (if bytes_eq name (codes "--stop-on-input") then Some StopOnInput
    else (if bytes_eq name (codes "--quiet") then Some Quiet
    else (if bytes_eq name (codes "--notes-only") then Some NotesOnly
    else (if bytes_eq name (codes "--trace") then Some Trace
    else (if bytes_eq name (codes "--brief") then Some Brief
    else (if bytes_eq name (codes "--run") then Some Run else None)))))))

abbrev pub other_option : List ℕ → Option PartName
other_option name =
    if bytes_eq name (codes "--hbone-port") then Some HbonePort
    else (if bytes_eq name (codes "--tunnels") then Some Tunnels
    else (if bytes_eq name (codes "--turns") then Some Turns
    else (if bytes_eq name (codes "--ticks") then Some Ticks
    else (if bytes_eq name (codes "--status") then Some Status else any_flag name))))

abbrev pub any_option : List ℕ → Option PartName
any_option name =
    if bytes_eq name (codes "--node") then Some Node
    else (if bytes_eq name (codes "--network") then Some Network
    else (if bytes_eq name (codes "--id") then Some Id
    else (if bytes_eq name (codes "--discovery") then Some Discovery
    else (if bytes_eq name (codes "--inbound") then Some Inbound
    else (if bytes_eq name (codes "--outbound") then Some Outbound
    else (if bytes_eq name (codes "--plain") then Some Plain else other_option name))))))

-- an option of both commands that run the proxy
abbrev pub is_run_option : PartName → Bool
is_run_option Node = true
is_run_option Network = true
is_run_option Id = true
is_run_option Discovery = true
is_run_option Inbound = true
is_run_option Outbound = true
is_run_option Plain = true
is_run_option HbonePort = true
is_run_option Tunnels = true
is_run_option Turns = true
is_run_option _ = false

abbrev pub is_flag : PartName → Bool
is_flag Explain = true
is_flag Fields = true
is_flag StopOnInput = true
is_flag Quiet = true
is_flag NotesOnly = true
is_flag Trace = true
is_flag Brief = true
is_flag Run = true
is_flag _ = false

-- the command has this option or flag
abbrev pub has : CommandName → PartName → Bool
has Check Node = true
has Check Network = true
has Check Explain = true
has Check _ = false
has Route Node = true
has Route Network = true
has Route HbonePort = true
has Route _ = false
has Show Fields = true
has Show _ = false
has Make Run = true
has Make _ = false
has Replay Trace = true
has Replay Brief = true
has Replay p = is_run_option p
has Serve Ticks = true
has Serve Status = true
has Serve StopOnInput = true
has Serve Quiet = true
has Serve NotesOnly = true
has Serve p = is_run_option p

abbrev pub held : {A : Type 0} → (A → Bool) → Option A → Option A
held has None = None
held has (Some x) = if has x then Some x else None

-- its option or flag of this name
abbrev pub part_of : CommandName → List ℕ → Option PartName
part_of c name = held (has c) (any_option name)

-- its words in places, in their order
abbrev pub places_of : CommandName → List PartName
places_of Check = Source ∷ Identity ∷ Target ∷ []
places_of Route = Source ∷ Target ∷ []
places_of Make = Count ∷ []
places_of _ = []
