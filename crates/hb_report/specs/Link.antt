-- The line of a link.
use Rattle.std.specs.Prelude.{ℕ, List, [], ◌++◌, Option, Some, None, codes, decimal}
use Rattle.hb_base.specs.declared.cause.Cause.{Cause}
use Rattle.hb_base.specs.declared.door.Why.{Why}
use Rattle.hb_base.specs.declared.door.Why.TheVariants.{Discovery, Upstream, Plain, Direct, Gateway}
use Rattle.hb_base.specs.declared.target.Target.{Target}
use Rattle.hb_base.specs.TargetText.{target_text}
use Rattle.hb_world.specs.declared.entry.Entry.{Entry}
use Rattle.hb_world.specs.declared.entry.Entry.TheVariants.{Accepted, Dialled}
use Rattle.hb_script.specs.EntryText.{cause_text}
use Rattle.hb_script.specs.Spelling.{door_word}
use Rattle.hb_report.specs.declared.tallies.Tally.{Tally}

-- the word of a dial
abbrev pub why_word : Why → List ℕ
why_word Discovery = codes "discovery"
why_word (Upstream link stream) = codes "upstream"
why_word (Plain link) = codes "relay"
why_word (Direct link) = codes "direct"
why_word (Gateway link) = codes "gateway"

-- for which stream of which link, or for which link, it was dialled; of discovery and a gateway it isn't told
abbrev pub owner_text : Why → List ℕ
owner_text Discovery = []
owner_text (Upstream link stream) = codes " of " ++ decimal link ++ codes "/" ++ decimal stream
owner_text (Plain link) = codes " of " ++ decimal link
owner_text (Direct link) = codes " of " ++ decimal link
owner_text (Gateway link) = []

-- what a dialled link is: the word of its dial, where to, and for which link
abbrev pub what_of_dial : Target → Why → List ℕ
what_of_dial target why = why_word why ++ codes " " ++ target_text target ++ owner_text why

-- how a link ended; a trace that closes each of its links, as that of a run does, has no open one
abbrev pub closing_text : Option Cause → List ℕ
closing_text None = codes "open"
closing_text (Some cause) = codes "closed " ++ cause_text cause

-- what a link's line says behind what it is
abbrev pub tail_text : Tally → List ℕ
tail_text tally =
    codes ": received " ++ decimal tally.received ++ codes ", sent " ++ decimal tally.sent ++ codes ", "
    ++ closing_text tally.cause ++ codes "\n"

-- the line of a link: its number, what it is, its bytes and its end
abbrev pub link_line : ℕ → List ℕ → Tally → List ℕ
link_line link what tally = codes "link " ++ decimal link ++ codes " " ++ what ++ tail_text tally

-- the line of the link that this entry gave birth to
abbrev pub birth_line : (ℕ → Tally) → Entry → List ℕ
birth_line tallies (Accepted link door) = link_line link (door_word door) (tallies link)
birth_line tallies (Dialled link target why) = link_line link (what_of_dial target why) (tallies link)
birth_line tallies _ = []
