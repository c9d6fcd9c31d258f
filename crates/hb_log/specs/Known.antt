-- What the log knows of the links that live, what it tells of a call, and what it knows behind it.
use Rattle.std.specs.Prelude.{◌≡◌, ℕ, ◌+◌, ◌==◌, ◌||◌, nat_le, nat_lt, Bool, true, false, if◌then◌else◌, Option, Some, None}
use Rattle.std.specs.FinMap.{empty, get, insert, remove}
use Rattle.hb_base.specs.Count.{one_more}
use Rattle.hb_base.specs.declared.cause.Cause.{Cause}
use Rattle.hb_base.specs.declared.cause.Cause.TheVariants.{Done, Stopped}
use Rattle.hb_base.specs.declared.door.Door.{Door}
use Rattle.hb_base.specs.declared.door.Why.{Why}
use Rattle.hb_base.specs.declared.door.Why.TheVariants as why
use Rattle.hb_base.specs.declared.target.Target.{Target}
use Rattle.hb_world.specs.declared.world.Listened.{Listened}
use Rattle.hb_world.specs.declared.world.Listened.TheVariants as listened
use Rattle.hb_world.specs.declared.world.Born.{Born}
use Rattle.hb_world.specs.declared.world.Born.TheVariants as born
use Rattle.hb_world.specs.declared.world.Finished.{Finished}
use Rattle.hb_world.specs.declared.world.Finished.TheVariants as finished
use Rattle.hb_log.specs.declared.fact.Fact.{Fact}
use Rattle.hb_log.specs.declared.fact.Fact.TheVariants.{Listens, Dialled, DialFailed, Opened, Ended, Way, Closed, More}
use Rattle.hb_log.specs.declared.fact.Kind.{Kind}
use Rattle.hb_log.specs.declared.fact.Kind.TheVariants.{To, At}
use Rattle.hb_log.specs.declared.fact.Party.{Party}
use Rattle.hb_log.specs.declared.fact.Party.TheVariants.{Control, Gateway}
use Rattle.hb_log.specs.declared.known.Known.{Known}

-- the most links of doors that are told closed between two ticks
abbrev pub most : ℕ
most = 64

-- of attempts in a row the first and the tenth are told; there is none once a link is open
abbrev pub tells_attempt : ℕ → Bool
tells_attempt attempt = nat_le attempt 1 || attempt == 10

-- nothing happened yet
abbrev pub knows_nothing : Known
knows_nothing = record { links = empty; attempts = 0; told = 0; more = 0 }

abbrev pub if_told : Bool → Fact → Option Fact
if_told is_told fact = if is_told then Some fact else None

-- LISTEN

abbrev pub listen_fact : Door → Target → Listened → Option Fact
listen_fact door at listened.Listening = Some (Listens door at)
listen_fact door at _ = None

-- ACCEPT

-- a link is born, and is kept as nothing; all else is known
abbrev pub MissesLink : Born → Known → Known → Known → Type 0
MissesLink (born.New link) old known new = new ≡ record known { links = old.links }
MissesLink _ old known new = ⊥

-- a link with its kind
abbrev pub with_link : ℕ → Kind → Known → Known
with_link link kind k = record k { links = insert k.links link kind }

abbrev pub after_accept : Door → Born → Known → Known
after_accept door (born.New link) k = with_link link (At door) k
after_accept door _ k = k

-- DIAL

-- to whom a link leads that is dialled so, where the log tells it
abbrev pub party_of : Why → Option Party
party_of why.Discovery = Some Control
party_of (why.Gateway _) = Some Gateway
party_of _ = None

-- one more attempt; those at a gateway aren't counted
abbrev pub attempted : Party → Known → Known
attempted Control k = record k { attempts = one_more k.attempts }
attempted Gateway k = k

-- which attempt in a row the last one was
abbrev pub attempt_of : Party → Known → ℕ
attempt_of Control k = k.attempts
attempt_of Gateway k = 1

abbrev pub party_fact : Target → Option Party → Born → Known → Option Fact
party_fact to (Some party) (born.New link) k =
    if_told (tells_attempt (attempt_of party (attempted party k))) (Dialled party link to (attempt_of party (attempted party k)))
party_fact to (Some party) born.Failed k =
    if_told (tells_attempt (attempt_of party (attempted party k))) (DialFailed party to (attempt_of party (attempted party k)))
party_fact to _ _ k = None

-- the way of an outbound link that goes straight, whether or not a link is begun
abbrev pub way_fact : ℕ → Target → Born → Option Fact
way_fact link to (born.New up) = Some (Way link to)
way_fact link to born.Failed = Some (Way link to)
way_fact link to _ = None

abbrev pub dial_fact : Target → Why → Born → Known → Option Fact
dial_fact to (why.Direct link) born k = way_fact link to born
dial_fact to why born k = party_fact to (party_of why) born k

abbrev pub after_dial : Option Party → Born → Known → Known
after_dial (Some party) (born.New link) k = with_link link (To party) (attempted party k)
after_dial (Some party) born.Failed k = attempted party k
after_dial _ _ k = k

-- FINISH

abbrev pub open_fact : ℕ → Option Kind → Option Fact
open_fact link (Some (To party)) = Some (Opened party link)
open_fact link _ = None

-- a link to the control plane is open, so its attempts are no longer in a row
abbrev pub after_open : Option Kind → Known → Known
after_open (Some (To Control)) k = record k { attempts = 0 }
after_open _ k = k

abbrev pub finish_fact : ℕ → Finished → Known → Option Fact
finish_fact link finished.Opened k = open_fact link (get k.links link)
finish_fact link _ k = None

abbrev pub after_finish : ℕ → Finished → Known → Known
after_finish link finished.Opened k = after_open (get k.links link) k
after_finish link _ k = k

-- CLOSE

-- nothing is amiss with a link that is closed for this cause
abbrev pub is_usual : Cause → Bool
is_usual Done = true
is_usual Stopped = true
is_usual _ = false

-- a link of a door is told where that is amiss, and no more than the most are
abbrev pub door_fact : ℕ → Door → Cause → Known → Option Fact
door_fact link door cause k = if is_usual cause then None else if_told (nat_lt k.told most) (Closed link door cause)

abbrev pub kind_fact : ℕ → Option Kind → Cause → Known → Option Fact
kind_fact link (Some (To party)) cause k = if_told (tells_attempt (attempt_of party k)) (Ended party link cause)
kind_fact link (Some (At door)) cause k = door_fact link door cause k
kind_fact link None cause k = None

abbrev pub close_fact : ℕ → Cause → Known → Option Fact
close_fact link cause k = kind_fact link (get k.links link) cause k

-- it is counted as told, or as one more that isn't
abbrev pub counted : Known → Known
counted k = if nat_lt k.told most then record k { told = k.told + 1 } else record k { more = one_more k.more }

abbrev pub door_counted : Option Kind → Cause → Known → Known
door_counted (Some (At door)) cause k = if is_usual cause then k else counted k
door_counted _ cause k = k

abbrev pub after_close : ℕ → Cause → Known → Known
after_close link cause k = record (door_counted (get k.links link) cause k) { links = remove k.links link }

-- TICK

abbrev pub tick_fact : Known → Option Fact
tick_fact k = if k.more == 0 then None else Some (More k.more)

abbrev pub after_tick : Known → Known
after_tick k = record k { told = 0; more = 0 }
