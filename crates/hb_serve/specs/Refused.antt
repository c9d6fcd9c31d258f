-- Audits behind a run, right and wrong, and machines that aren't at rest.
use Rattle.std.specs.Prelude.{◌≡◌, ℕ, false, List, [], ◌∷◌, Option, Some, None}
use Rattle.hb_audit.specs.Refused.{any_answer, kept_alone}
use Rattle.hb_base.specs.declared.cause.Cause.{Cause}
use Rattle.hb_base.specs.declared.note.Note.{Note}
use Rattle.hb_conn.specs.Observed.{IsLookedAt}
use Rattle.hb_inbound.specs.Inbound as inbound
use Rattle.hb_inbound.specs.Tunnel.{over}
use Rattle.hb_model.specs.Discovery as discovery
use Rattle.hb_model.specs.Runs.{IsEmptyHanded}
use Rattle.hb_proxy.specs.Machine.{Machine}
use Rattle.hb_turns.specs.declared.served.Served.{Served}
use Rattle.hb_turns.specs.declared.served.ServeEnd.TheVariants as ends
use Rattle.hb_world.specs.declared.entry.Entry.{Entry}
use Rattle.hb_serve.specs.Served.{IsServed, IsAtRest, AreTold, heard_of}
use Rattle.hb_serve.specs.declared.words.ServeWords.{ServeWords}

module _ (words : ServeWords) (served : Served) (keep : Option (List Note)) (trace : List Entry) where
  -- these are all notes of a run in which memory didn't lack
  abbrev pub NotesAre : IsServed words served keep trace → List Note → Type 0
  NotesAre run notes = (lacks_none : served.end ≡ ends.NoMemory → ⊥) (keeps_all : served.unkept ≡ false)
      → (run.noted lacks_none keeps_all).notes ≡ notes

  -- one that tells its notes, and one that doesn't, were told all
  abbrev pub HoldAll : Type 0
  HoldAll = (run : IsServed words served keep trace) (notes : List Note) → NotesAre run notes
      → AreTold words served keep trace run (heard_of any_answer (Some [] ∷ None ∷ []) (Some notes ∷ None ∷ []))

  -- one is left that holds others, fewer or more
  abbrev pub HoldsOthers : Type 0
  HoldsOthers = (run : IsServed words served keep trace) (notes holds : List Note) → NotesAre run notes
      → (served.end ≡ ends.NoMemory → ⊥) → served.unkept ≡ false → (holds ≡ notes → ⊥)
      → AreTold words served keep trace run (heard_of any_answer (Some [] ∷ []) (Some holds ∷ [])) → ⊥

  -- one is left that wasn't there
  abbrev pub OneMoreIsLeft : Type 0
  OneMoreIsLeft = (run : IsServed words served keep trace) → (served.end ≡ ends.NoMemory → ⊥) → served.unkept ≡ false
      → AreTold words served keep trace run (heard_of any_answer [] (None ∷ [])) → ⊥

  -- one that keeps each note is gone
  abbrev pub KeeperIsGone : Type 0
  KeeperIsGone = (run : IsServed words served keep trace) → (served.end ≡ ends.NoMemory → ⊥) → served.unkept ≡ false
      → AreTold words served keep trace run (heard_of kept_alone (Some [] ∷ []) []) → ⊥

abbrev pub AllRunsHoldAll : Type 0
AllRunsHoldAll = (words : ServeWords) (served : Served) (keep : Option (List Note)) (trace : List Entry) → HoldAll words served keep trace

abbrev pub NoRunHoldsOthers : Type 0
NoRunHoldsOthers = (words : ServeWords) (served : Served) (keep : Option (List Note)) (trace : List Entry)
    → HoldsOthers words served keep trace

abbrev pub NoRunLeavesOneMore : Type 0
NoRunLeavesOneMore = (words : ServeWords) (served : Served) (keep : Option (List Note)) (trace : List Entry)
    → OneMoreIsLeft words served keep trace

abbrev pub NoRunDropsKeepers : Type 0
NoRunDropsKeepers = (words : ServeWords) (served : Served) (keep : Option (List Note)) (trace : List Entry)
    → KeeperIsGone words served keep trace

-- A MACHINE THAT ISN'T AT REST

-- a whole frame is held on the control plane's connection that isn't looked at, or DATA that isn't used, so no response that it ends is
-- applied; or a whole frame on an inbound link
abbrev pub RestsUnheard : Type 0
RestsUnheard = (x : Machine) (l : ℕ) → (x.control.links l).phase ≡ discovery.live → (IsLookedAt (x.control.links l).conn → ⊥)
    → IsAtRest x → ⊥

abbrev pub RestsUnapplied : Type 0
RestsUnapplied = (x : Machine) (l : ℕ) → (x.control.links l).phase ≡ discovery.live
    → (IsEmptyHanded (x.control.links l) → ⊥) → IsAtRest x → ⊥

abbrev pub RestsUnlooked : Type 0
RestsUnlooked = (x : Machine) (l : ℕ) → (x.inbound l).phase ≡ inbound.serving → (IsLookedAt (x.inbound l).conn → ⊥) → IsAtRest x → ⊥

-- a tunnel that ended has an upstream that isn't closed
abbrev pub RestsUnclosed : Type 0
RestsUnclosed = (x : Machine) (l s : ℕ) (why : Cause) → ((x.inbound l).tunnels s).stage ≡ over why → IsAtRest x → ⊥
