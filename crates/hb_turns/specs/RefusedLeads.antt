-- Small traces that the lead law refuses, and one that obeys it.
use Rattle.std.specs.Prelude.{◌≡◌, List, [], ◌∷◌, ◌++◌, Some, None}
use Rattle.hb_base.specs.declared.door.Door.TheVariants.{Inbound}
use Rattle.hb_base.specs.declared.door.Why.{Why}
use Rattle.hb_base.specs.declared.note.Note.{Note}
use Rattle.hb_base.specs.declared.target.Target.{Target}
use Rattle.hb_world.specs.declared.entry.Entry.{Entry}
use Rattle.hb_world.specs.declared.entry.Entry.TheVariants as e
use Rattle.hb_world.specs.declared.entry.ReadyItem.TheVariants as item
use Rattle.hb_world.specs.declared.entry.Way.TheVariants as way
use Rattle.hb_world.specs.declared.entry.Woken.TheVariants as woken
use Rattle.hb_turns.specs.Leads.{LeadLaw}
use Rattle.hb_turns.specs.Shown.{Shown}

-- two links are open, and a glance names both
abbrev pub looked : Target → Why → List Entry
looked to why =
    e.Dialled 1 to why ∷ e.Opened 1 ∷ e.Accepted 2 Inbound ∷ e.Wait (item.Link 2 ∷ item.Link 1 ∷ []) woken.Glanced ∷ []

module _ {N : Type 0} (stands : List Note → N → List Entry → Type 0) (shown : N → Shown) where
  -- link 1 goes first, and something may be read on it
  pub record GoesFirst : Type 0 where
    pub first : (n : N) → (shown n).first ≡ Some 1
    pub wants : (n : N) → (shown n).wants 1 ≡ 0 → ⊥

  -- such an entry comes in front of its read
  abbrev pub Overtakes : Entry → Type 0
  Overtakes x = (to : Target) (why : Why) → GoesFirst → LeadLaw stands shown (looked to why ++ x ∷ []) → ⊥

  abbrev pub ReadsAnother : Type 0
  ReadsAnother = Overtakes (e.Came 2 (0 ∷ []))

  abbrev pub TriesAnother : Type 0
  TriesAnother = Overtakes (e.Balked (way.Read 2))

  abbrev pub AcceptsAnother : Type 0
  AcceptsAnother = Overtakes (e.Accepted 3 Inbound)

  abbrev pub WritesBefore : Type 0
  WritesBefore = Overtakes (e.Went 1 (0 ∷ []))

  -- it is read, and the other link behind it
  abbrev pub GoodTraceIsLed : Type 0
  GoodTraceIsLed = (to : Target) (why : Why) (notes : List Note) (n : N) → (shown n).first ≡ Some 1 → (shown n).ends_for ≡ None
      → stands notes n (looked to why)
      → LeadLaw stands shown (looked to why ++ e.Came 1 (0 ∷ []) ∷ e.Came 2 (0 ∷ []) ∷ [])
