-- The text of a cause.
use Rattle.std.specs.Prelude.{ℕ, List, Option, Some, None, codes}
use Rattle.hb_base.specs.declared.cause.Cause.{Cause}
use Rattle.hb_base.specs.declared.cause.Cause.TheVariants.{Done, PeerReset, PeerGone, UpFault, UpRefused, ConnFault, StreamFault, GoneAway, Revoked, FrontFault, Refused, NoRoute, NoRoom, Discovery, Broken, Stopped, NoMemory}

-- the word of a cause
abbrev pub word_of : Cause → List ℕ
word_of Done = codes "done"
word_of (PeerReset n) = codes "peer reset"
word_of PeerGone = codes "peer gone"
word_of UpFault = codes "up fault"
word_of (UpRefused n) = codes "up refused"
word_of (ConnFault n) = codes "conn fault"
word_of (StreamFault n) = codes "stream fault"
word_of GoneAway = codes "gone away"
word_of Revoked = codes "revoked"
word_of (FrontFault n) = codes "front fault"
word_of (Refused n) = codes "refused"
word_of (NoRoute n) = codes "no route"
word_of NoRoom = codes "no room"
word_of Discovery = codes "discovery"
word_of Broken = codes "broken"
word_of Stopped = codes "stopped"
word_of NoMemory = codes "no memory"

-- the number of a cause, where it has one
abbrev pub number_of : Cause → Option ℕ
number_of Done = None
number_of (PeerReset n) = Some n
number_of PeerGone = None
number_of UpFault = None
number_of (UpRefused n) = Some n
number_of (ConnFault n) = Some n
number_of (StreamFault n) = Some n
number_of GoneAway = None
number_of Revoked = None
number_of (FrontFault n) = Some n
number_of (Refused n) = Some n
number_of (NoRoute n) = Some n
number_of NoRoom = None
number_of Discovery = None
number_of Broken = None
number_of Stopped = None
number_of NoMemory = None
