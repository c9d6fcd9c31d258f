-- What is told of words behind a command that aren't accepted: the first reason, word by word, and then what isn't there. Whether words
-- are accepted, this doesn't say.
use Rattle.std.specs.Prelude.{ℕ, ◌==◌, ◌||◌, Bool, true, false, not, suc, nat_lt, List, [], ◌∷◌, length, Option, Some, None, Result, Ok}
use Rattle.std.specs.Prelude.{Err, slice_get, if◌then◌else◌, codes}
use Rattle.std.specs.List.{list_all, list_any}
use Rattle.std.specs.Str.{bytes_eq}
use Rattle.hb_base.specs.Parts.{cut_first}
use Rattle.hb_wire.specs.Message.{and_then}
use Rattle.hb_words.specs.declared.fault.Why.{Why}
use Rattle.hb_words.specs.declared.fault.Why.TheVariants.{Unknown, Spare, Twice, NoValue, Valued, BadValue, Missing, NotAccepted}
use Rattle.hb_words.specs.declared.part.CommandName.{CommandName}
use Rattle.hb_words.specs.declared.part.CommandName.TheVariants.{Check, Route, Show, Make, Replay, Serve}
use Rattle.hb_words.specs.declared.part.PartName.{PartName}
use Rattle.hb_words.specs.declared.part.PartName.TheVariants.{Node, Id, Discovery}
use Rattle.hb_words.specs.declared.why.Stand.{Stand}
use Rattle.hb_words.specs.Part.{is_flag, part_of, places_of}
use Rattle.hb_words.specs.Word.{is_dashed, is_value}

abbrev pub is_shown : ℕ → Bool
is_shown b = not (nat_lt b 32 || b == 127)

-- a word as a line may show it
abbrev pub shown : List ℕ → List ℕ
shown word = if list_all is_shown word then word else codes "(a control character)"

abbrev pub before_sign : List ℕ → Option (List ℕ × List ℕ) → List ℕ
before_sign word None = word
before_sign word (Some cut) = cut.0

-- what stands before the first equals sign
abbrev pub option_name : List ℕ → List ℕ
option_name word = before_sign word (cut_first 61 word)

abbrev pub names : List ℕ → List ℕ → Bool
names name word = bytes_eq (option_name word) name

-- so many places are filled, and the next word isn't a value
abbrev pub stays : ℕ → Stand
stays filled = record { filled = filled; skips = false }

-- behind an option that has no equals sign: its value
abbrev pub behind_option : PartName → ℕ → List (List ℕ) → Result Stand Why
behind_option p filled [] = Err (NoValue p)
behind_option p filled (value ∷ words) = if is_value value then Ok (record { filled = filled; skips = true }) else Err (BadValue p)

abbrev pub valued : PartName → ℕ → List (List ℕ) → Option (List ℕ × List ℕ) → Result Stand Why
valued p filled words None = if is_flag p then Ok (stays filled) else behind_option p filled words
valued p filled words (Some cut) =
    if is_flag p then Err (Valued p) else (if is_value cut.1 then Ok (stays filled) else Err (BadValue p))

-- a word that names an option or a flag of the command
abbrev pub option_step : PartName → ℕ → List ℕ → List (List ℕ) → Result Stand Why
option_step p filled word words =
    if list_any (names (option_name word)) words then Err (Twice p) else valued p filled words (cut_first 61 word)

abbrev pub placed : ℕ → List ℕ → Option PartName → Result Stand Why
placed filled word None = Err (Spare (shown word))
placed filled word (Some p) = if length word == 0 then Err (BadValue p) else Ok (stays (suc filled))

-- a word in a place
abbrev pub place_step : CommandName → ℕ → List ℕ → Result Stand Why
place_step c filled word = placed filled word (slice_get (places_of c) filled)

abbrev pub named : ℕ → List ℕ → List (List ℕ) → Option PartName → Result Stand Why
named filled word words None = Err (Unknown (shown word))
named filled word words (Some p) = option_step p filled word words

-- one more word, and those behind it
unfoldable pub step : CommandName → ℕ → List ℕ → List (List ℕ) → Result Stand Why
step c filled word words =
    if is_dashed word then named filled word words (part_of c (option_name word)) else place_step c filled word

-- all words; then how many places are filled
unfoldable pub walk : CommandName → Stand → List (List ℕ) → Result ℕ Why
walk c s [] = Ok s.filled
walk c s (word ∷ words) =
    and_then (if s.skips then Ok (stays s.filled) else step c s.filled word words) (λ t. walk c t words)

abbrev pub is_there : List ℕ → List (List ℕ) → Bool
is_there name words = list_any (names name) words

-- the first option that is wanted and isn't there
abbrev pub missing_run_option : List (List ℕ) → Option PartName
missing_run_option words =
    if not (is_there (codes "--node") words) then Some Node
    else (if not (is_there (codes "--id") words) then Some Id
    else (if not (is_there (codes "--discovery") words) then Some Discovery else None))

abbrev pub missing_option : CommandName → List (List ℕ) → Option PartName
missing_option Check words = if not (is_there (codes "--node") words) then Some Node else None
missing_option Route words = if not (is_there (codes "--node") words) then Some Node else None
missing_option Show words = None
missing_option Make words = None
missing_option Replay words = missing_run_option words
missing_option Serve words = missing_run_option words

abbrev pub or_place : Option PartName → Option PartName → Why
or_place (Some p) place = Missing p
or_place None (Some p) = Missing p
or_place None None = NotAccepted

abbrev pub at_end : CommandName → List (List ℕ) → Result ℕ Why → Why
at_end c words (Ok filled) = or_place (missing_option c words) (slice_get (places_of c) filled)
at_end c words (Err why) = why

abbrev pub why_of : CommandName → List (List ℕ) → Why
why_of c words = at_end c words (walk c (stays 0) words)
