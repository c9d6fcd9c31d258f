-- Values under names before some of them were changed: what stood under a name is noted at its first change.
use Rattle.std.specs.Prelude.{ℕ, if◌then◌else◌, List, [], ◌∷◌, Option, Some, None}
use Rattle.std.specs.FinMap.{contains_key, insert, remove, entries}
use Rattle.hb_index.specs.Named.{Named}

-- a note of what stood under a name; the first one counts
abbrev pub note : {T : Type 0} → Named (Option T) → List ℕ → Option T → Named (Option T)
note past name stood = if contains_key past name then past else insert past name stood

-- a note of what is removed; where nothing stood, nothing changes
abbrev pub note_removal : {T : Type 0} → Named (Option T) → List ℕ → Option T → Named (Option T)
note_removal past name None = past
note_removal past name (Some v) = note past name (Some v)

-- a map with what was noted of a name
abbrev pub put_back : {T : Type 0} → Named T → List ℕ → Option T → Named T
put_back m name None = remove m name
put_back m name (Some v) = insert m name v

abbrev pub all_put_back : {T : Type 0} → Named T → List (List ℕ × Option T) → Named T
all_put_back m [] = m
all_put_back m (e ∷ es) = put_back (all_put_back m es) e.0 e.1

-- the map before the changes of which these are the notes
unfoldable pub undone : {T : Type 0} → Named T → Named (Option T) → Named T
undone m past = all_put_back m (entries past)
