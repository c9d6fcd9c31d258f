-- What a command declares, the items that its words spell, and which items fit it.
use Rattle.std.specs.Prelude.{◌≡◌, ℕ, Bool, suc, true, false, not, ◌&&◌, ◌||◌, ◌==◌, List, [], ◌∷◌, ◌++◌, ◌-◌, length, map, Option, Some, None, nat_lt, codes}
use Rattle.std.specs.Prelude.{bytes_eq, filter, find, flat_map, slice_get}
use Rattle.std.specs.List.{list_all, list_any}
use Rattle.std.specs.Option.{option_map_or}
use Rattle.clap.specs.Lexer.{has_byte, long_of, usize_max}
use Rattle.clap.specs.Walk.{Rule, Text, is_empty}
use Rattle.clap.specs.Simple.{App, Shape, new_rule, new_shape}
use Rattle.clap.specs.declared.builder.action.ArgAction.TheVariants.{SetTrue}

-- ---- what a command declares

-- an option, which has one value; a flag; or a word in a place, where places are counted in the order of the parts. An option or a
-- word may be wanted
pub data Part : Type 0 where
  option : Text → Bool → Part
  flag : Text → Part
  place : Text → Bool → Part

abbrev pub name_of : Part → Text
name_of (option name wanted) = name
name_of (flag name) = name
name_of (place name wanted) = name

abbrev pub is_wanted : Part → Bool
is_wanted (option name wanted) = wanted
is_wanted (flag name) = false
is_wanted (place name wanted) = wanted

abbrev pub is_option : Part → Bool
is_option (option name wanted) = true
is_option _ = false

abbrev pub is_flag : Part → Bool
is_flag (flag name) = true
is_flag _ = false

abbrev pub is_place : Part → Bool
is_place (place name wanted) = true
is_place _ = false

-- a part as clap's builder is told it
abbrev pub rule : Part → Rule
rule (option name wanted) = record (new_rule name) { long = Some name; required = wanted }
rule (flag name) = record (new_rule name) { long = Some name; action = Some SetTrue }
rule (place name wanted) = record (new_rule name) { required = wanted }

pub record Command : Type 0 where
  pub name : Text
  pub parts : List Part

abbrev pub shape : Command → Shape
shape c = record (new_shape c.name) { rules = map rule c.parts }

-- the command by itself
abbrev pub alone_app : Command → App
alone_app c = record { top = shape c; subs = [] }

-- a program whose first word names a command; no word asks for help
abbrev pub app : Text → List Command → App
app name commands = record {
  top = record (new_shape name) {
    is_leaf = false;
    no_binary_name = true;
    disable_help_flag = true;
    disable_help_subcommand = true;
    subcommand_required = true;
  };
  subs = map shape commands;
}

-- the first command of the name
abbrev pub command_named : List Command → Text → Option Command
command_named commands name = find (λ c. bytes_eq c.name name) commands

-- ---- items

-- an option and its value, in two words or in one; a flag; a word in a place
pub data Item : Type 0 where
  apart : Text → Text → Item
  joined : Text → Text → Item
  alone : Text → Item
  placed : Text → Text → Item

abbrev pub item_name : Item → Text
item_name (apart name value) = name
item_name (joined name value) = name
item_name (alone name) = name
item_name (placed name value) = name

-- the value of an item; that of a flag is the word true
abbrev pub item_value : Item → Text
item_value (apart name value) = value
item_value (joined name value) = value
item_value (alone name) = codes "true"
item_value (placed name value) = value

-- `--name value`, `--name=value`, `--name` or `value`
abbrev pub spelled : Item → List Text
spelled (apart name value) = (codes "--" ++ name) ∷ value ∷ []
spelled (joined name value) = (codes "--" ++ (name ++ (codes "=" ++ value))) ∷ []
spelled (alone name) = (codes "--" ++ name) ∷ []
spelled (placed name value) = value ∷ []

-- ---- items that fit

-- some characters, of which the first is no dash
abbrev pub is_value : Text → Bool
is_value [] = false
is_value (b ∷ bs) = not (b == 45)

abbrev pub is_named : Text → Part → Bool
is_named name p = bytes_eq (name_of p) name

-- the part of a name
abbrev pub part_named : List Part → Text → Option Part
part_named parts name = find (is_named name) parts

-- the part of the name is one of this kind
abbrev pub has : List Part → (Part → Bool) → Text → Bool
has parts kind name = option_map_or kind (part_named parts name) false

-- the place behind so many others has the name
abbrev pub stands_at : List Part → ℕ → Text → Bool
stands_at parts n name = option_map_or (is_named name) (slice_get (filter is_place parts) n) false

-- each item is one of the parts, and the words in places stand in the order of the places, of which n were filled before
abbrev pub fits : List Part → ℕ → List Item → Bool
fits parts n [] = true
fits parts n (apart name value ∷ items) = has parts is_option name && (is_value value && fits parts n items)
fits parts n (joined name value ∷ items) = has parts is_option name && (is_value value && fits parts n items)
fits parts n (alone name ∷ items) = has parts is_flag name && fits parts n items
fits parts n (placed name value ∷ items) = stands_at parts n name && (is_value value && fits parts (suc n) items)

-- an item of this name is among them
abbrev pub is_said : Text → List Item → Bool
is_said name items = list_any (λ i. bytes_eq (item_name i) name) items

-- no two items have one name
abbrev pub each_once : List Item → Bool
each_once [] = true
each_once (i ∷ items) = not (is_said (item_name i) items) && each_once items

-- each part that is wanted has an item
abbrev pub has_wanted : List Part → List Item → Bool
has_wanted parts items = list_all (λ p. not (is_wanted p) || is_said (name_of p) items) parts

-- in any order, each at most once, and the wanted ones there
abbrev pub accepts : List Part → List Item → Bool
accepts parts items = fits parts 0 items && (each_once items && has_wanted parts items)

-- the words are the name of a command and spell items that it accepts
abbrev pub Spells : List Command → List Text → Command → List Item → Type 0
Spells commands words c items = (command_named commands c.name ≡ Some c) × (words ≡ c.name ∷ flat_map spelled items)
    × (accepts c.parts items ≡ true)

-- no command accepts items that spell these words
abbrev pub Refused : List Command → List Text → Type 0
Refused commands words = (c : Command) (items : List Item) → Spells commands words c items → ⊥

-- what clap gives for a part: the value of its item, and of a flag that has none the word false
abbrev pub unsaid_value : Part → Option Text
unsaid_value (flag name) = Some (codes "false")
unsaid_value _ = None

abbrev pub value_of : Part → List Item → Option Text
value_of p items = option_map_or (λ i. Some (item_value i)) (find (λ i. bytes_eq (item_name i) (name_of p)) items) (unsaid_value p)

-- ---- commands of which this is said

-- some characters, and no equals sign among them
abbrev pub is_name : Text → Bool
is_name name = not (is_empty name) && not (has_byte 61 name)

abbrev pub each_named_once : List Part → Bool
each_named_once [] = true
each_named_once (p ∷ parts) = not (list_any (is_named (name_of p)) parts) && each_named_once parts

-- names are names, no two parts have one, and the parts can be counted
abbrev pub is_proper : List Part → Bool
is_proper parts = nat_lt (length parts) (usize_max - 1) && (list_all (λ p. is_name (name_of p)) parts && each_named_once parts)

-- the word that names a command is a value, as its place is a place
abbrev pub are_proper : List Command → Bool
are_proper commands = list_all (λ c. is_value c.name && is_proper c.parts) commands

-- ---- words that an item may be spelled with

abbrev pub no_dash_behind : Option Text → Bool
no_dash_behind None = true
no_dash_behind (Some value) = is_value value

-- what begins with two dashes and goes on is followed by a value behind its equals sign; any other word is a value. So no word is empty,
-- a dash alone, `--`, or a bundle of short options
abbrev pub is_clean : Text → Bool
is_clean word = option_map_or (λ p. no_dash_behind p.1) (long_of word) (is_value word)
