-- Small examples of what is told, right and wrong. A log is what was handed to it.
use Rattle.std.specs.Prelude.{◌≡◌, ℕ, List, [], ◌++◌, codes, Option, Some, None}
use Rattle.std.specs.FinMap.{get}
use Rattle.hb_base.specs.declared.cause.Cause.{Cause}
use Rattle.hb_base.specs.declared.cause.Cause.TheVariants.{Done, ConnFault, FrontFault, GoneAway, Broken}
use Rattle.hb_base.specs.declared.door.Door.TheVariants.{Inbound}
use Rattle.hb_base.specs.declared.ip.Ip.TheVariants.{V4}
use Rattle.hb_base.specs.declared.target.Target.{Target}
use Rattle.hb_base.specs.TargetText.{target_text}
use Rattle.hb_base.specs.declared.door.Why.TheVariants as why
use Rattle.hb_world.specs.declared.world.Born.TheVariants.{New, Failed, NoMemory}
use Rattle.hb_log.specs.Fact.{fact_line}
use Rattle.hb_log.specs.Known.{knows_nothing, party_fact, way_fact, dial_fact, after_dial, after_open, kind_fact, door_counted, after_close, tick_fact}
use Rattle.hb_log.specs.Known.{after_tick}
use Rattle.hb_log.specs.Told.{Tells}
use Rattle.hb_log.specs.declared.fact.Fact.{Fact}
use Rattle.hb_log.specs.declared.fact.Fact.TheVariants.{Listens, Dialled, DialFailed, Opened, Ended, Way, Closed, More}
use Rattle.hb_log.specs.declared.fact.Kind.TheVariants.{To, At}
use Rattle.hb_log.specs.declared.fact.Party.TheVariants.{Control, Gateway}
use Rattle.hb_log.specs.declared.known.Known.{Known}
use Rattle.hb_log.specs.declared.teller.Teller.{Teller}

-- LINES

abbrev pub IsLine : Fact → List ℕ → Type 0
IsLine fact line = fact_line fact ≡ line

abbrev pub LineOfDoor : Type 0
LineOfDoor = (at : Target) → IsLine (Listens Inbound at) (codes "listens door=inbound at=" ++ target_text at ++ codes "\n")

abbrev pub LineOfDial : Type 0
LineOfDial = (to : Target) → IsLine (Dialled Control 1 to 1) (codes "control link=1 dialled=" ++ target_text to ++ codes "\n")

abbrev pub LineOfFifth : Type 0
LineOfFifth = (to : Target) → IsLine (DialFailed Control to 5) (codes "control dial=" ++ target_text to ++ codes " failed again=5\n")

abbrev pub LineOfOpen : Type 0
LineOfOpen = IsLine (Opened Gateway 9) (codes "gateway link=9 open\n")

-- a cause with a space stands in double quotes, and one without doesn't
abbrev pub LineOfEnd : Type 0
LineOfEnd = IsLine (Ended Gateway 9 GoneAway) (codes "gateway link=9 closed=\"gone away\"\n")

abbrev pub LineOfWord : Type 0
LineOfWord = IsLine (Ended Control 1 Broken) (codes "control link=1 closed=broken\n")

abbrev pub LineOfWay : Type 0
LineOfWay = (to : Target) → IsLine (Way 4 to) (codes "way 4/0 direct=" ++ target_text to ++ codes "\n")

abbrev pub LineOfClose : Type 0
LineOfClose = IsLine (Closed 7 Inbound (FrontFault 3)) (codes "closed link=7 door=inbound cause=\"front fault 3\"\n")

abbrev pub LineOfMore : Type 0
LineOfMore = IsLine (More 2) (codes "closed more=2\n")

-- a cause with a space stands there plain
abbrev pub PlainCause : Type 0
PlainCause = IsLine (Ended Gateway 9 GoneAway) (codes "gateway link=9 closed=gone away\n") → ⊥

-- ATTEMPTS

-- the log knows of so many attempts in a row
abbrev pub tried : ℕ → Known
tried attempts = record knows_nothing { attempts = attempts }

-- the next one, to here, fails, and this is told of it
abbrev pub here : Target
here = record { ip = V4 2130706433; port = 15008 }

abbrev pub FailsWith : ℕ → Option Fact → Type 0
FailsWith attempts fact = party_fact here (Some Control) Failed (tried attempts) ≡ fact

abbrev pub FirstIsTold : Type 0
FirstIsTold = FailsWith 0 (Some (DialFailed Control here 1))

abbrev pub SecondIsNot : Type 0
SecondIsNot = FailsWith 1 None

abbrev pub TenthIsTold : Type 0
TenthIsTold = FailsWith 9 (Some (DialFailed Control here 10))

abbrev pub LaterIsNot : Type 0
LaterIsNot = FailsWith 10 None

-- the second one is told; the tenth isn't; it is told without its number
abbrev pub SecondIsTold : Type 0
SecondIsTold = FailsWith 1 (Some (DialFailed Control here 2)) → ⊥

abbrev pub TenthIsNot : Type 0
TenthIsNot = FailsWith 9 None → ⊥

abbrev pub TenthIsFirst : Type 0
TenthIsFirst = FailsWith 9 (Some (DialFailed Control here 1)) → ⊥

-- once a link is open, the next attempt is the first; want of memory is none
abbrev pub OpenIsFirst : Type 0
OpenIsFirst = after_open (Some (To Control)) (tried 7) ≡ tried 0

abbrev pub GatewayIsNoAttempt : Type 0
GatewayIsNoAttempt = after_dial (Some Gateway) Failed (tried 7) ≡ tried 7

abbrev pub LackIsNoAttempt : Type 0
LackIsNoAttempt = after_dial (Some Control) NoMemory (tried 7) ≡ tried 7

-- WAYS

-- the way of outbound link 4 is told where it goes straight, also where no link is begun
abbrev pub WayIsTold : Type 0
WayIsTold = (to : Target) (k : Known) → dial_fact to (why.Direct 4) (New 5) k ≡ Some (Way 4 to)

abbrev pub FailedWayIsTold : Type 0
FailedWayIsTold = (to : Target) (k : Known) → dial_fact to (why.Direct 4) Failed k ≡ Some (Way 4 to)

-- it has the number of the link that is begun; it is told without memory for one; that of a link of the plain door is told
abbrev pub WayOfOther : Type 0
WayOfOther = (to : Target) (k : Known) → dial_fact to (why.Direct 4) (New 5) k ≡ Some (Way 5 to) → ⊥

abbrev pub WayOfNone : Type 0
WayOfNone = (to : Target) (k : Known) → dial_fact to (why.Direct 4) NoMemory k ≡ Some (Way 4 to) → ⊥

abbrev pub PlainWay : Type 0
PlainWay = (to : Target) (k : Known) → dial_fact to (why.Plain 4) (New 5) k ≡ Some (Way 4 to) → ⊥

-- CLOSED LINKS OF DOORS

-- of links of doors so many were told closed since the last tick, and so many more weren't
abbrev pub ended : ℕ → ℕ → Known
ended told more = record knows_nothing { told = told; more = more }

-- link 7 of the inbound door is closed, and this is told of it
abbrev pub ClosesWith : ℕ → Cause → Option Fact → Type 0
ClosesWith told cause fact = kind_fact 7 (Some (At Inbound)) cause (ended told 0) ≡ fact

abbrev pub FaultIsTold : Type 0
FaultIsTold = ClosesWith 63 (ConnFault 1) (Some (Closed 7 Inbound (ConnFault 1)))

abbrev pub DoneIsNot : Type 0
DoneIsNot = ClosesWith 0 Done None

abbrev pub MostIsNot : Type 0
MostIsNot = ClosesWith 64 (ConnFault 1) None

abbrev pub OtherIsNot : Type 0
OtherIsNot = kind_fact 8 None (ConnFault 1) (ended 0 0) ≡ None

-- a fault isn't told; the sixty-fifth is; another link is
abbrev pub FaultIsNot : Type 0
FaultIsNot = ClosesWith 0 (ConnFault 1) None → ⊥

abbrev pub MostIsTold : Type 0
MostIsTold = ClosesWith 64 (ConnFault 1) (Some (Closed 7 Inbound (ConnFault 1))) → ⊥

-- one that isn't told is counted, and it is forgotten like each other; the next tick tells how many were
abbrev pub MoreIsCounted : Type 0
MoreIsCounted = door_counted (Some (At Inbound)) (ConnFault 1) (ended 64 3) ≡ ended 64 4

abbrev pub LinkIsForgotten : Type 0
LinkIsForgotten = (k : Known) → get (after_close 7 (ConnFault 1) k).links 7 ≡ None

abbrev pub TickTells : Type 0
TickTells = tick_fact (ended 64 3) ≡ Some (More 3)

abbrev pub TickIsQuiet : Type 0
TickIsQuiet = tick_fact (ended 64 0) ≡ None

abbrev pub TickBegins : Type 0
TickBegins = after_tick (ended 64 3) ≡ ended 0 0

-- WHAT IS HANDED ON

-- nothing was handed on before, and this is then, where a fact is told for which memory lacked so often
abbrev pub Hands : List ℕ → ℕ → Option Fact → Teller (List ℕ) → Type 0
Hands line lacks fact t = Tells Some (record t { log = []; lacks = 0 }) (record t { log = line; lacks = lacks }) t.known fact

-- the line is handed on; memory lacks for it; there is none
abbrev pub LineIsHanded : Type 0
LineIsHanded = (t : Teller (List ℕ)) → Hands (codes "closed more=2\n") 0 (Some (More 2)) t

abbrev pub LackIsCounted : Type 0
LackIsCounted = (t : Teller (List ℕ)) → Hands [] 1 (Some (More 2)) t

abbrev pub NothingIsHanded : Type 0
NothingIsHanded = (t : Teller (List ℕ)) → Hands [] 0 None t

-- it vanishes; another one is handed on; it is handed on twice, or cut; one is where there is no fact
abbrev pub LineVanishes : Type 0
LineVanishes = (t : Teller (List ℕ)) → Hands [] 0 (Some (More 2)) t → ⊥

abbrev pub LineIsAnother : Type 0
LineIsAnother = (t : Teller (List ℕ)) → Hands (codes "closed more=3\n") 0 (Some (More 2)) t → ⊥

abbrev pub LineIsTwice : Type 0
LineIsTwice = (t : Teller (List ℕ)) → Hands (codes "closed more=2\nclosed more=2\n") 0 (Some (More 2)) t → ⊥

abbrev pub LineIsCut : Type 0
LineIsCut = (t : Teller (List ℕ)) → Hands (codes "closed more=2") 0 (Some (More 2)) t → ⊥

abbrev pub LineIsInvented : Type 0
LineIsInvented = (t : Teller (List ℕ)) → Hands (codes "closed more=2\n") 0 None t → ⊥
