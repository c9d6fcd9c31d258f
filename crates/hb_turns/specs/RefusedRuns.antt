-- Small traces that no run leaves, and two that a run does.
use Rattle.std.specs.Prelude.{◌≡◌, ℕ, zero, suc, false, true, List, [], ◌∷◌, Option, Some, None}
use Rattle.hb_base.specs.declared.cause.Cause.TheVariants as cause
use Rattle.hb_base.specs.declared.door.Door.TheVariants.{Inbound, Outbound}
use Rattle.hb_base.specs.declared.door.Why.{Why}
use Rattle.hb_base.specs.declared.note.Note.{Note}
use Rattle.hb_base.specs.declared.target.Target.{Target}
use Rattle.hb_world.specs.declared.entry.Entry.{Entry}
use Rattle.hb_world.specs.declared.entry.Entry.TheVariants as e
use Rattle.hb_world.specs.declared.entry.Way.TheVariants as way
use Rattle.hb_world.specs.declared.entry.Woken.TheVariants as woken
use Rattle.hb_turns.specs.Listens.{listen_at}
use Rattle.hb_turns.specs.Served.{IsServed, Leaves, leaves}
use Rattle.hb_turns.specs.Shown.{Shown, IsFree}
use Rattle.hb_turns.specs.Totals.{sums_of, no_totals}
use Rattle.hb_turns.specs.declared.served.Served.{Served}
use Rattle.hb_turns.specs.declared.served.ServeEnd.TheVariants as ends
use Rattle.hb_turns.specs.declared.served.Totals.{Totals}
use Rattle.hb_turns.specs.declared.words.ServeWords.{ServeWords}

-- no door is given, and so many turns and ticks are stated
abbrev pub asks : ℕ → Option ℕ → ServeWords
asks turns ticks = record { doors = record { inbound = None; outbound = None; plain = None }; turns = turns; ticks = ticks }

-- these doors are given
abbrev pub asks_doors : Option Target → Option Target → ServeWords
asks_doors inbound outbound =
    record { doors = record { inbound = inbound; outbound = outbound; plain = None }; turns = 9; ticks = None }

-- a run that stopped, with these totals
abbrev pub stopped : Totals → Served
stopped totals = record { end = ends.Stopped; totals = totals; wanting = false; unkept = false }

-- a run that ended for want of memory, with these totals, and a link was closed for that
abbrev pub lacked : Totals → Served
lacked totals = record { end = ends.NoMemory; totals = totals; wanting = true; unkept = false }

-- so many links, none revoked, and what is counted in these notes
abbrev pub with_sums : ℕ → List Note → Totals
with_sums links notes = let sums = sums_of notes in
    record { links = links; accepted = sums.accepted; revoked = 0; up = sums.up; down = sums.down; lacked = sums.lacked }

-- a wait that names nothing, and one that tells a stop
abbrev pub waits : Entry
waits = e.Wait [] woken.Woke

abbrev pub waits_stop : Entry
waits_stop = e.Wait [] woken.Stop

-- glances that find nothing
abbrev pub glances : ℕ → List Entry
glances zero = []
glances (suc n) = e.Wait [] woken.Glanced ∷ glances n

-- a run that listens at a door and dials a link, stops, and closes it
abbrev pub good_start : Target → Target → Why → List Entry
good_start at to why = listen_at true (Inbound, at) ∷ e.Dialled 1 to why ∷ e.Balked (way.Finish 1) ∷ []

abbrev pub good_run : Target → Target → Why → List Entry
good_run at to why =
    listen_at true (Inbound, at) ∷ e.Dialled 1 to why ∷ e.Balked (way.Finish 1) ∷ waits_stop ∷ e.Closed 1 cause.Stopped ∷ []

-- a link is dialled, and closed for want of memory; or it opens before that
abbrev pub lack_behind_dial : Target → Why → List Entry
lack_behind_dial to why = e.Dialled 1 to why ∷ e.Closed 1 cause.NoMemory ∷ []

abbrev pub lack_behind_open : Target → Why → List Entry
lack_behind_open to why = e.Dialled 1 to why ∷ e.Opened 1 ∷ e.Closed 1 cause.NoMemory ∷ []

module _ {N : Type 0} (stands : List Note → N → List Entry → Type 0) (shown : N → Shown) where
  abbrev pub Refuses : ServeWords → List Entry → Type 0
  Refuses words trace = (totals : Totals) (left : Leaves N) → IsServed stands shown words (stopped totals) left trace → ⊥

  -- it stops though nothing told it to
  abbrev pub StopsUnasked : Type 0
  StopsUnasked = (to : Target) (why : Why) → Refuses (asks 9 None) (e.DialFailed to why ∷ [])

  -- a link is left open
  abbrev pub LeavesOpen : Type 0
  LeavesOpen = (to : Target) (why : Why) → Refuses (asks 9 None) (e.Dialled 1 to why ∷ waits_stop ∷ [])

  -- a link is closed as if memory lacked
  abbrev pub ClosesForLack : Type 0
  ClosesForLack = (to : Target) (why : Why)
      → Refuses (asks 9 None) (e.Dialled 1 to why ∷ waits_stop ∷ e.Closed 1 cause.NoMemory ∷ [])

  -- a call is made behind the end
  abbrev pub GoesOnBehind : Type 0
  GoesOnBehind = (to : Target) (why : Why) → Refuses (asks 9 None) (waits_stop ∷ e.DialFailed to why ∷ [])

  -- more waits than turns
  abbrev pub WaitsPastTurns : Type 0
  WaitsPastTurns = Refuses (asks 0 None) (waits_stop ∷ [])

  -- its turns are said to be spent, and it made fewer
  abbrev pub GivesUp : Type 0
  GivesUp = (to : Target) (why : Why) (totals : Totals) (left : Leaves N)
      → IsServed stands shown (asks 9 None) (record (stopped totals) { end = ends.TurnsSpent }) left (e.DialFailed to why ∷ waits ∷ []) → ⊥

  -- it glances for its turns, which pays for none
  abbrev pub GlancesOn : Type 0
  GlancesOn = (to : Target) (why : Why) (totals : Totals) (left : Leaves N)
      → IsServed stands shown (asks 9 None) (record (stopped totals) { end = ends.TurnsSpent }) left (e.Dialled 1 to why ∷ glances 9) → ⊥

  -- one tick more than were stated
  abbrev pub TicksOnceMore : Type 0
  TicksOnceMore = Refuses (asks 9 (Some 1)) (e.Wait [] woken.Tick ∷ e.Tick ∷ waits_stop ∷ [])

  -- no listen at a door that is given; one at a door that isn't; the doors in another order
  abbrev pub ListensNowhere : Type 0
  ListensNowhere = (at : Target) → Refuses (asks_doors (Some at) None) (waits_stop ∷ [])

  abbrev pub ListensUnasked : Type 0
  ListensUnasked = (at : Target) → Refuses (asks 9 None) (listen_at true (Inbound, at) ∷ waits_stop ∷ [])

  abbrev pub ListensInAnotherOrder : Type 0
  ListensInAnotherOrder = (at to : Target)
      → Refuses (asks_doors (Some at) (Some to)) (listen_at true (Outbound, to) ∷ listen_at true (Inbound, at) ∷ waits_stop ∷ [])

  -- notes are kept, and they aren't those of the trace that its node gave
  abbrev pub LosesNotes : Type 0
  LosesNotes = (words : ServeWords) (totals : Totals) (notes : List Note) (n : N) (trace : List Entry)
      → (stands notes n trace → (shown n).noted ≡ [] → ⊥) → IsServed stands shown words (stopped totals) (leaves (Some notes) n) trace → ⊥

  -- its node gave no notes of the trace
  abbrev pub ForgetsNode : Type 0
  ForgetsNode = (words : ServeWords) (totals : Totals) (left : Leaves N) (trace : List Entry)
      → ((notes : List Note) → stands notes left.node trace → ⊥) → IsServed stands shown words (stopped totals) left trace → ⊥

  -- no node stands for a trace that begins with this entry
  abbrev pub NoneBeginsWith : Entry → Type 0
  NoneBeginsWith x = (notes : List Note) (n : N) (rest : List Entry) → stands notes n (x ∷ rest) → ⊥

  -- memory lacked, and two entries stand behind all that a node stands for
  abbrev pub LacksTwice : Type 0
  LacksTwice = (to : Target) (why : Why) (totals : Totals) (left : Leaves N) → NoneBeginsWith (e.Dialled 1 to why)
      → IsServed stands shown (asks 9 None) (lacked totals) left (lack_behind_open to why) → ⊥

  -- memory lacked at an entry that no node allows
  abbrev pub LacksUnallowed : Type 0
  LacksUnallowed = (to : Target) (why : Why) (totals : Totals) (left : Leaves N) → NoneBeginsWith (e.Dialled 1 to why)
      → ((notes : List Note) (n : N) → stands notes n [] → (shown n).dials ≡ Some (to, why) → ⊥)
      → IsServed stands shown (asks 9 None) (lacked totals) left (lack_behind_dial to why) → ⊥

  -- a node that stands for the dial lacks memory for what it is told next
  abbrev pub LackIsServed : Type 0
  LackIsServed = (to : Target) (why : Why) (notes : List Note) (n : N) (left : Leaves N) → IsFree (shown n)
      → stands notes n (e.Dialled 1 to why ∷ [])
      → IsServed stands shown (asks 9 None) (lacked (record no_totals { links = 1 })) left (lack_behind_open to why)

  abbrev pub GoodRunIsServed : Type 0
  GoodRunIsServed = (at to : Target) (why : Why) (notes more : List Note) (n m k : N) → IsFree (shown n) → (shown m).ends_for ≡ None
      → stands notes n (good_start at to why)
      → stands notes m (listen_at true (Inbound, at) ∷ e.Dialled 1 to why ∷ e.Balked (way.Finish 1) ∷ waits_stop ∷ [])
      → stands more k (good_run at to why) → (shown k).noted ≡ []
      → IsServed stands shown (asks_doors (Some at) None) (stopped (with_sums 1 more)) (leaves (Some more) k) (good_run at to why)

-- each node that stands for what was done has an act due, and the turns are spent
abbrev pub SpendsWithWork : {N : Type 0} → (List Note → N → List Entry → Type 0) → (N → Shown) → Type 0
SpendsWithWork {N} stands shown = ((notes : List Note) (n : N) (trace : List Entry) → stands notes n trace → (shown n).idle ≡ false)
    → (words : ServeWords) (served : Served) (left : Leaves N) (trace : List Entry) → served.end ≡ ends.TurnsSpent
    → IsServed stands shown words served left trace → ⊥
