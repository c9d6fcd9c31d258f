-- The line that tells an entry of a trace.
use Rattle.std.specs.Prelude.{ℕ, List, [], ◌++◌, Option, Some, None, codes, decimal}
use Rattle.hb_base.specs.declared.cause.Cause.{Cause}
use Rattle.hb_base.specs.CauseText.{word_of, number_of}
use Rattle.hb_base.specs.TargetText.{target_text}
use Rattle.hb_world.specs.declared.entry.Entry.{Entry}
use Rattle.hb_world.specs.declared.entry.Entry.TheVariants.{Accepted, Dialled, DialFailed, Opened, Came, Ended, Broke, Went, Balked, Shut, Closed, Tick, Wait}
use Rattle.hex.specs.Hex.{encode_lower}
use Rattle.hb_script.specs.Spelling.{door_word}

abbrev pub with_number : List ℕ → Option ℕ → List ℕ
with_number word None = word
with_number word (Some n) = word ++ codes " " ++ decimal n

-- a cause: its word, and its number where it has one
abbrev pub cause_text : Cause → List ℕ
cause_text cause = with_number (word_of cause) (number_of cause)

-- the line of an entry, with its newline; a call that moved nothing and a wait have none
abbrev pub entry_text : Entry → List ℕ
entry_text (Accepted link door) = codes "accepted " ++ decimal link ++ codes " " ++ door_word door ++ codes "\n"
entry_text (Dialled link target why) = codes "dialled " ++ decimal link ++ codes " " ++ target_text target ++ codes "\n"
entry_text (DialFailed target why) = codes "dial failed " ++ target_text target ++ codes "\n"
entry_text (Opened link) = codes "opened " ++ decimal link ++ codes "\n"
entry_text (Came link bytes) = codes "came " ++ decimal link ++ codes " " ++ encode_lower bytes ++ codes "\n"
entry_text (Ended link) = codes "ended " ++ decimal link ++ codes "\n"
entry_text (Broke link) = codes "broke " ++ decimal link ++ codes "\n"
entry_text (Went link bytes) = codes "went " ++ decimal link ++ codes " " ++ encode_lower bytes ++ codes "\n"
entry_text (Balked _) = []
entry_text (Shut link) = codes "shut " ++ decimal link ++ codes "\n"
entry_text (Closed link cause) = codes "closed " ++ decimal link ++ codes " " ++ cause_text cause ++ codes "\n"
entry_text Tick = codes "tick\n"
entry_text (Wait _ _) = []
