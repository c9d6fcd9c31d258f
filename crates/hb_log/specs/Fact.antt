-- The line of the log that tells a fact.
use Rattle.std.specs.Prelude.{ℕ, ◌==◌, nat_le, Bool, if◌then◌else◌, List, ◌++◌, codes, decimal}
use Rattle.std.specs.List.{list_any}
use Rattle.hb_base.specs.TargetText.{target_text}
use Rattle.hb_base.specs.declared.door.Door.{Door}
use Rattle.hb_script.specs.EntryText.{cause_text}
use Rattle.hb_script.specs.Spelling.{door_word}
use Rattle.hb_log.specs.declared.fact.Fact.{Fact}
use Rattle.hb_log.specs.declared.fact.Fact.TheVariants.{Listens, Dialled, DialFailed, Opened, Ended, Way, Closed, More}
use Rattle.hb_log.specs.declared.fact.Party.{Party}
use Rattle.hb_log.specs.declared.fact.Party.TheVariants.{Control, Gateway}

-- the word of a party
abbrev pub party_word : Party → List ℕ
party_word Control = codes "control"
party_word Gateway = codes "gateway"

abbrev pub has_space : List ℕ → Bool
has_space text = list_any (λ b. b == 32) text

-- a value: plain, or in double quotes where it holds a space
abbrev pub value_text : List ℕ → List ℕ
value_text text = if has_space text then codes "\"" ++ text ++ codes "\"" else text

-- which attempt in a row it is, where it isn't the first
abbrev pub again_text : ℕ → List ℕ
again_text attempt = if nat_le attempt 1 then codes "" else codes " again=" ++ decimal attempt

abbrev pub link_of_door : ℕ → Door → List ℕ
link_of_door link door = codes "link=" ++ decimal link ++ codes " door=" ++ door_word door

-- the line of a fact, with its newline
abbrev pub fact_line : Fact → List ℕ
fact_line (Listens door at) = codes "listens door=" ++ door_word door ++ codes " at=" ++ target_text at ++ codes "\n"
fact_line (Dialled party link to attempt) =
    party_word party ++ codes " link=" ++ decimal link ++ codes " dialled=" ++ target_text to ++ again_text attempt ++ codes "\n"
fact_line (DialFailed party to attempt) =
    party_word party ++ codes " dial=" ++ target_text to ++ codes " failed" ++ again_text attempt ++ codes "\n"
fact_line (Opened party link) = party_word party ++ codes " link=" ++ decimal link ++ codes " open\n"
fact_line (Ended party link cause) =
    party_word party ++ codes " link=" ++ decimal link ++ codes " closed=" ++ value_text (cause_text cause) ++ codes "\n"
fact_line (Way link to) = codes "way " ++ decimal link ++ codes "/0 direct=" ++ target_text to ++ codes "\n"
fact_line (Closed link door cause) =
    codes "closed " ++ link_of_door link door ++ codes " cause=" ++ value_text (cause_text cause) ++ codes "\n"
fact_line (More count) = codes "closed more=" ++ decimal count ++ codes "\n"
