-- Small programs' words: some that are taken, and some that aren't.
use Rattle.std.specs.Prelude.{◌≡◌, true, false, List, [], ◌∷◌, codes, flat_map}
use Rattle.clap.specs.Walk.{Text}
use Rattle.hb_options.specs.Items.{Part, option, flag, place, Command, Item, apart, joined, alone, placed, spelled, accepts}

-- the command check has three options, of which one is wanted, a flag, and two places that are wanted; the command show has nothing
abbrev pub parts : List Part
parts =
    option (codes "node") true ∷ option (codes "network") false ∷ option (codes "zone") false ∷ flag (codes "brief")
    ∷ place (codes "source") true ∷ place (codes "target") true ∷ []

abbrev pub check : Command
check = record { name = codes "check"; parts = parts }

abbrev pub show : Command
show = record { name = codes "show"; parts = [] }

abbrev pub commands : List Command
commands = check ∷ show ∷ []

-- ---- good ones

-- `x --zone z --brief --node=a y`
abbrev pub mixed : List Item
mixed =
    placed (codes "source") (codes "x") ∷ apart (codes "zone") (codes "z") ∷ alone (codes "brief") ∷ joined (codes "node") (codes "a")
    ∷ placed (codes "target") (codes "y") ∷ []

abbrev pub MixedAreAccepted : Type 0
MixedAreAccepted = (accepts parts mixed ≡ true)
    × (flat_map spelled mixed
    ≡ codes "x" ∷ codes "--zone" ∷ codes "z" ∷ codes "--brief" ∷ codes "--node=a" ∷ codes "y" ∷ [])

-- nothing, of a command that wants nothing
abbrev pub NothingIsAccepted : Type 0
NothingIsAccepted = accepts [] [] ≡ true

-- ---- bad ones

-- no word, and a word that names no command
abbrev pub no_words : List Text
no_words = []

abbrev pub no_command : List Text
no_command = codes "bogus" ∷ []

-- an option or a flag twice
abbrev pub node_twice : List Text
node_twice = codes "check" ∷ codes "--node" ∷ codes "a" ∷ codes "--node=b" ∷ codes "x" ∷ codes "y" ∷ []

abbrev pub brief_twice : List Text
brief_twice = codes "check" ∷ codes "--node=a" ∷ codes "--brief" ∷ codes "x" ∷ codes "--brief" ∷ codes "y" ∷ []

-- a flag with a value, an option without one, and one whose value is another option
abbrev pub flag_valued : List Text
flag_valued = codes "check" ∷ codes "--node=a" ∷ codes "--brief=yes" ∷ codes "x" ∷ codes "y" ∷ []

abbrev pub node_unvalued : List Text
node_unvalued = codes "check" ∷ codes "x" ∷ codes "y" ∷ codes "--node" ∷ []

abbrev pub node_swallows : List Text
node_swallows = codes "check" ∷ codes "--node" ∷ codes "--brief" ∷ codes "x" ∷ codes "y" ∷ []

-- an option or a place that is wanted isn't there
abbrev pub no_node : List Text
no_node = codes "check" ∷ codes "x" ∷ codes "y" ∷ []

abbrev pub no_target : List Text
no_target = codes "check" ∷ codes "--node=a" ∷ codes "x" ∷ []

-- more words than places, an option that no part is, and one of another command
abbrev pub three_places : List Text
three_places = codes "check" ∷ codes "--node=a" ∷ codes "x" ∷ codes "y" ∷ codes "z" ∷ []

abbrev pub unknown_option : List Text
unknown_option = codes "check" ∷ codes "--nod=a" ∷ codes "x" ∷ codes "y" ∷ []

abbrev pub others_option : List Text
others_option = codes "show" ∷ codes "--node=a" ∷ []

-- the name of a place isn't an option
abbrev pub place_named : List Text
place_named = codes "check" ∷ codes "--node=a" ∷ codes "--source=x" ∷ codes "y" ∷ []

-- words that clap by itself would take: an empty value, `--`, a dash alone, and an empty word
abbrev pub empty_value : List Text
empty_value = codes "check" ∷ codes "--node=" ∷ codes "x" ∷ codes "y" ∷ []

abbrev pub dashed_value : List Text
dashed_value = codes "check" ∷ codes "--node=-a" ∷ codes "x" ∷ codes "y" ∷ []

abbrev pub two_dashes : List Text
two_dashes = codes "check" ∷ codes "--node=a" ∷ codes "x" ∷ codes "--" ∷ codes "y" ∷ []

abbrev pub one_dash : List Text
one_dash = codes "check" ∷ codes "--node=a" ∷ codes "x" ∷ codes "-" ∷ []

abbrev pub empty_word : List Text
empty_word = codes "check" ∷ codes "--node=a" ∷ codes "x" ∷ [] ∷ []
