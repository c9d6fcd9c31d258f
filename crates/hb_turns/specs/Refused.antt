-- Small traces that the settled law refuses, and one that obeys it.
use Rattle.std.specs.Prelude.{◌≡◌, ℕ, true, List, [], ◌∷◌, ◌++◌}
use Rattle.hb_base.specs.declared.door.Door.TheVariants.{Inbound}
use Rattle.hb_base.specs.declared.door.Why.{Why}
use Rattle.hb_base.specs.declared.target.Target.{Target}
use Rattle.hb_base.specs.declared.note.Note.{Note}
use Rattle.hb_world.specs.declared.entry.Entry.{Entry}
use Rattle.hb_world.specs.declared.entry.Entry.TheVariants as e
use Rattle.hb_world.specs.declared.entry.ReadyItem.TheVariants as item
use Rattle.hb_world.specs.declared.entry.Way.TheVariants as way
use Rattle.hb_world.specs.declared.entry.Woken.TheVariants as woken
use Rattle.hb_turns.specs.Settled.{SettledLaw}
use Rattle.hb_turns.specs.Shown.{Shown, IsFree}

-- a wait that names nothing
abbrev pub waits : Entry
waits = e.Wait [] woken.Woke

-- a glance that names link 1
abbrev pub names : Entry
names = e.Wait (item.Link 1 ∷ []) woken.Glanced

-- link 1 ended, was named, and was looked at
abbrev pub looked_at : Target → Why → List Entry
looked_at to why = e.Dialled 1 to why ∷ e.Opened 1 ∷ e.Ended 1 ∷ names ∷ e.Balked (way.Look 1) ∷ []

module _ {N : Type 0} (stands : List Note → N → List Entry → Type 0) (shown : N → Shown) where
  -- a wait while an act is due
  abbrev pub WaitsOverDue : Type 0
  WaitsOverDue = ((n : N) → (shown n).idle ≡ true → ⊥) → SettledLaw stands shown (waits ∷ []) → ⊥

  -- a wait while more may be read on a link that is awake
  abbrev pub WaitsOverReadable : Type 0
  WaitsOverReadable = (to : Target) (why : Why) → ((n : N) → (shown n).wants 1 ≡ 0 → ⊥)
      → SettledLaw stands shown (e.Dialled 1 to why ∷ e.Opened 1 ∷ waits ∷ []) → ⊥

  -- a wait while bytes are to be written on a link that is awake
  abbrev pub WaitsOverUnwritten : Type 0
  WaitsOverUnwritten = (to : Target) (why : Why) → ((n : N) → (shown n).output 1 ≡ [] → ⊥)
      → SettledLaw stands shown (e.Dialled 1 to why ∷ e.Opened 1 ∷ waits ∷ []) → ⊥

  -- a wait though a link wasn't asked whether it is open
  abbrev pub WaitsUnasked : Type 0
  WaitsUnasked = (to : Target) (why : Why) → SettledLaw stands shown (e.Dialled 1 to why ∷ waits ∷ []) → ⊥

  -- a wait though no accept was tried at a door that a wait named
  abbrev pub WaitsUnaccepted : Type 0
  WaitsUnaccepted = SettledLaw stands shown (e.Wait (item.Door Inbound ∷ []) woken.Woke ∷ waits ∷ []) → ⊥

  -- a wait though a link that ended was named, and not looked at
  abbrev pub WaitsOverUnlooked : Type 0
  WaitsOverUnlooked = (to : Target) (why : Why)
      → SettledLaw stands shown (e.Dialled 1 to why ∷ e.Opened 1 ∷ e.Ended 1 ∷ names ∷ waits ∷ []) → ⊥

  -- a wait once a look found such a link fine
  abbrev pub GoodLookIsSettled : Type 0
  GoodLookIsSettled = (to : Target) (why : Why) (notes : List Note) (n : N) → IsFree (shown n) → ((l : ℕ) → (shown n).wants l ≡ 0)
      → ((l : ℕ) → (shown n).output l ≡ []) → stands notes n (looked_at to why)
      → SettledLaw stands shown (looked_at to why ++ waits ∷ [])

  -- a wait once a link that isn't open balked
  abbrev pub GoodTraceIsSettled : Type 0
  GoodTraceIsSettled = (to : Target) (why : Why) (notes : List Note) (n : N) → IsFree (shown n)
      → stands notes n (e.Dialled 1 to why ∷ e.Balked (way.Finish 1) ∷ [])
      → SettledLaw stands shown (e.Dialled 1 to why ∷ e.Balked (way.Finish 1) ∷ waits ∷ [])
