-- The line of a note.
use Rattle.std.specs.Prelude.{ℕ, List, ◌++◌, Option, Some, None, codes, decimal}
use Rattle.std.specs.Option.{option_map}
use Rattle.hb_base.specs.declared.note.Note.{Note}
use Rattle.hb_base.specs.declared.note.Note.TheVariants.{Verdict, End}
use Rattle.hb_base.specs.declared.peer.Peer.{Peer}
use Rattle.hb_base.specs.declared.target.Target.{Target}
use Rattle.hb_base.specs.IdentityText.{principal_of}
use Rattle.hb_base.specs.IpText.{ip_text}
use Rattle.hb_base.specs.TargetText.{target_text}
use Rattle.hb_script.specs.EntryText.{cause_text}

-- the text, or a dash where there is none
abbrev pub or_dash : Option (List ℕ) → List ℕ
or_dash None = codes "-"
or_dash (Some text) = text

-- a peer: its address, and its principal or a dash
abbrev pub peer_text : Peer → List ℕ
peer_text peer = ip_text peer.ip ++ codes " " ++ or_dash (option_map principal_of peer.identity)

-- a stream of a link
abbrev pub place_text : ℕ → ℕ → List ℕ
place_text link stream = decimal link ++ codes "/" ++ decimal stream

-- the line of a note, with its newline: an answer with its status, who got it and the target or a dash; or the end of a tunnel with its
-- cause and the bytes that it passed
abbrev pub note_line : Note → List ℕ
note_line (Verdict link stream status peer target) =
    codes "verdict " ++ place_text link stream ++ codes " " ++ decimal status ++ codes " " ++ peer_text peer ++ codes " "
    ++ or_dash (option_map target_text target) ++ codes "\n"
note_line (End link stream cause up down) =
    codes "end " ++ place_text link stream ++ codes " " ++ cause_text cause ++ codes " up " ++ decimal up ++ codes " down " ++ decimal down
    ++ codes "\n"

-- the line of whose tunnel it was that ended, and whereto it led, with its newline
abbrev pub was_line : ℕ → ℕ → Peer → Option Target → List ℕ
was_line link stream peer target =
    codes "was " ++ place_text link stream ++ codes " peer=" ++ ip_text peer.ip ++ codes " identity="
    ++ or_dash (option_map principal_of peer.identity) ++ codes " target=" ++ or_dash (option_map target_text target) ++ codes "\n"
