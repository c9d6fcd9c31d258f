-- Small traces that the awake law refuses, and one that obeys it.
use Rattle.std.specs.Prelude.{ℕ, List, [], ◌∷◌}
use Rattle.hb_base.specs.declared.door.Door.{Door}
use Rattle.hb_base.specs.declared.door.Door.TheVariants.{Inbound}
use Rattle.hb_base.specs.declared.door.Why.{Why}
use Rattle.hb_base.specs.declared.target.Target.{Target}
use Rattle.hb_world.specs.declared.entry.Entry.{Entry}
use Rattle.hb_world.specs.declared.entry.Entry.TheVariants as e
use Rattle.hb_world.specs.declared.entry.ReadyItem.TheVariants as item
use Rattle.hb_world.specs.declared.entry.Way.TheVariants as way
use Rattle.hb_world.specs.declared.entry.Woken.TheVariants as woken
use Rattle.hb_ready.specs.Awake.{AwakeLaw}

-- link 1 is dialled, and open
abbrev pub opened_then : Target → Why → List Entry → List Entry
opened_then to why more = e.Dialled 1 to why ∷ e.Opened 1 ∷ more

-- asked again whether it is open, with no wait between
abbrev pub AsksAgain : Type 0
AsksAgain = (to : Target) (why : Why)
    → AwakeLaw (e.Dialled 1 to why ∷ e.Balked (way.Finish 1) ∷ e.Balked (way.Finish 1) ∷ []) → ⊥

-- read again, with no wait between
abbrev pub ReadsAgain : Type 0
ReadsAgain = (to : Target) (why : Why) (bytes : List ℕ)
    → AwakeLaw (opened_then to why (e.Balked (way.Read 1) ∷ e.Came 1 bytes ∷ [])) → ⊥

-- written to again, with no wait between
abbrev pub WritesAgain : Type 0
WritesAgain = (to : Target) (why : Why) (bytes : List ℕ)
    → AwakeLaw (opened_then to why (e.Balked (way.Write 1) ∷ e.Came 1 bytes ∷ e.Went 1 bytes ∷ [])) → ⊥

-- read again behind a wait that names another link
abbrev pub ReadsUnnamed : Type 0
ReadsUnnamed = (to : Target) (why : Why)
    → AwakeLaw (opened_then to why (e.Balked (way.Read 1) ∷ e.Wait (item.Link 2 ∷ []) woken.Woke ∷ e.Ended 1 ∷ [])) → ⊥

-- a read or a write failed, though both ways slept
abbrev pub BreaksAsleep : Type 0
BreaksAsleep = (to : Target) (why : Why)
    → AwakeLaw (opened_then to why (e.Balked (way.Read 1) ∷ e.Balked (way.Write 1) ∷ e.Broke 1 ∷ [])) → ⊥

-- link 1 is open, and its peer sends no more
abbrev pub ended_then : Target → Why → List Entry → List Entry
ended_then to why more = opened_then to why (e.Ended 1 ∷ more)

-- link 1 is named
abbrev pub names_one : Entry
names_one = e.Wait (item.Link 1 ∷ []) woken.Woke

-- a look at a link whose peer may send more; at one whose end was just read; and again, with no wait between
abbrev pub LooksAtWhole : Type 0
LooksAtWhole = (to : Target) (why : Why) → AwakeLaw (opened_then to why (names_one ∷ e.Balked (way.Look 1) ∷ [])) → ⊥

abbrev pub LooksAtOnce : Type 0
LooksAtOnce = (to : Target) (why : Why) → AwakeLaw (ended_then to why (e.Balked (way.Look 1) ∷ [])) → ⊥

abbrev pub LooksAgain : Type 0
LooksAgain = (to : Target) (why : Why)
    → AwakeLaw (ended_then to why (names_one ∷ e.Balked (way.Look 1) ∷ e.Balked (way.Look 1) ∷ [])) → ⊥

-- a look behind each wait that names the link, of which the second fails
abbrev pub GoodLooks : Type 0
GoodLooks = (to : Target) (why : Why)
    → AwakeLaw (ended_then to why (names_one ∷ e.Balked (way.Look 1) ∷ names_one ∷ e.Broke 1 ∷ []))

-- an accept at a door that no wait named
abbrev pub AcceptsUnasked : Type 0
AcceptsUnasked = (door : Door) → AwakeLaw (e.Balked (way.Accept door) ∷ []) → ⊥

-- a wait names two things: the inbound door and link 1
abbrev pub names_both : Entry
names_both = e.Wait (item.Door Inbound ∷ item.Link 1 ∷ []) woken.Woke

-- an accept at a door behind one that gave no link
abbrev pub AcceptsAgain : Type 0
AcceptsAgain =
    AwakeLaw (names_both ∷ e.Balked (way.Accept Inbound) ∷ e.Accepted 1 Inbound ∷ []) → ⊥

-- each call behind a wait that names its link or its door
abbrev pub GoodTraceIsAwake : Type 0
GoodTraceIsAwake = (to : Target) (why : Why) (bytes : List ℕ)
    → AwakeLaw (e.Dialled 1 to why ∷ e.Balked (way.Finish 1) ∷ names_both ∷ e.Opened 1 ∷ e.Balked (way.Read 1)
    ∷ e.Accepted 2 Inbound ∷ e.Balked (way.Accept Inbound) ∷ e.Went 1 bytes ∷ e.Balked (way.Write 1)
    ∷ names_both ∷ e.Came 1 bytes ∷ e.Broke 1 ∷ [])
