-- What is known of links and doors, once one more entry stands at a trace's end.
use Rattle.std.specs.Prelude.{◌≡◌, ℕ, List, [], ◌∷◌, ◌++◌}
use Rattle.hb_base.specs.declared.door.Door.{Door}
use Rattle.hb_world.specs.declared.entry.Entry.{Entry}
use Rattle.hb_ready.specs.Kept.{link_behind}
use Rattle.hb_ready.specs.Numbers.{Numbered, Numbers}
use Rattle.hb_ready.specs.Sight.{known, asked, asked_behind}

-- a link that lives is what it was, behind the entry
abbrev pub KnownGrows : Type 0
KnownGrows = (l : ℕ) (trace : List Entry) (x : Entry) → Numbered trace → Numbers trace x
    → known l (trace ++ x ∷ []) ≡ link_behind l (known l trace) x

-- a door is asked as it was, behind the entry
abbrev pub AskedGrows : Type 0
AskedGrows = (d : Door) (trace : List Entry) (x : Entry) → asked d (trace ++ x ∷ []) ≡ asked_behind d (asked d trace) x

-- links stay numbered in order of birth
abbrev pub NumberedGrows : Type 0
NumberedGrows = (trace : List Entry) (x : Entry) → Numbered trace → Numbers trace x → Numbered (trace ++ x ∷ [])
