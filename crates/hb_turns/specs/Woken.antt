-- What a wait wakes.
use Rattle.std.specs.Prelude.{◌≡◌, ℕ, ◌||◌, false, if◌then◌else◌, List, [], ◌∷◌, ◌++◌}
use Rattle.hb_base.specs.declared.note.Note.{Note}
use Rattle.hb_world.specs.declared.entry.Entry.{Entry}
use Rattle.hb_world.specs.declared.entry.Entry.TheVariants.{Tick}
use Rattle.std.specs.Option.{option_map}
use Rattle.hb_base.specs.declared.door.Door.{Door}
use Rattle.hb_world.specs.declared.entry.ReadyItem.{ReadyItem}
use Rattle.hb_ready.specs.Registry.{kept}
use Rattle.hb_ready.specs.Sight.{asked_at, awake, is_named, is_asked}
use Rattle.hb_ready.specs.declared.link.Link.{Link}
use Rattle.hb_turns.specs.declared.run.Records.{Records}
use Rattle.hb_turns.specs.declared.run.Run.{Run}
use Rattle.hb_turns.specs.Shown.{Shown}
use Rattle.hb_turns.specs.Stands.{Stands}

-- every way is awake of the links that are named, and an accept may give a link at the doors that are
pub record Wakes (old new : Records) (items : List ReadyItem) : Type 0 where
  pub links : (l : ℕ) → (kept new.links).links l
      ≡ option_map (λ (k : Link). if is_named l items then awake k else k) ((kept old.links).links l)
  pub doors : (d : Door) → asked_at new.asked d ≡ (is_asked d items || asked_at old.asked d)
  pub births : new.births ≡ old.births
  pub wanting : new.wanting ≡ old.wanting
  pub revoked : new.revoked ≡ old.revoked

-- nothing is to be tried
abbrev pub IsQuiet : Records → Type 0
IsQuiet r = ((kept r.links).listed ≡ []) × ((d : Door) → asked_at r.asked d ≡ false)

-- a trace whose last entry is a tick, which the node wasn't told
pub record Ticked {N : Type 0} (stands : List Note → N → List Entry → Type 0) (shown : N → Shown) (run : Run N)
    (trace : List Entry) : Type 0 where
  pub before : List Entry
  pub trace_is : trace ≡ before ++ Tick ∷ []
  pub stands_for : Stands stands shown run before
