-- What a trace says once one more entry stands at its end.
use Rattle.std.specs.Prelude.{◌≡◌, ℕ, ◌+◌, ◌||◌, ◌&&◌, not, if◌then◌else◌, List, [], ◌∷◌, ◌++◌}
use Rattle.hb_world.specs.declared.entry.Entry.{Entry}
use Rattle.hb_world.specs.Trace.{came_on, went_on, recv, sent, is_birth, births, is_birth_of, is_close_of, was_born, was_closed, lives}

-- the bytes that came on a link are followed by those that the entry tells
abbrev pub RecvGrows : Type 0
RecvGrows = (link : ℕ) (trace : List Entry) (e : Entry) → recv link (trace ++ e ∷ []) ≡ recv link trace ++ came_on link e

-- the bytes that went on a link are followed by those that the entry tells
abbrev pub SentGrows : Type 0
SentGrows = (link : ℕ) (trace : List Entry) (e : Entry) → sent link (trace ++ e ∷ []) ≡ sent link trace ++ went_on link e

-- a birth counts one more
abbrev pub BirthsGrow : Type 0
BirthsGrow = (trace : List Entry) (e : Entry)
    → births (trace ++ e ∷ []) ≡ births trace + (if is_birth e then 1 else 0)

-- a link lives where it was born, by this entry at last, and isn't closed, not by this entry either
abbrev pub LivesGrows : Type 0
LivesGrows = (link : ℕ) (trace : List Entry) (e : Entry) → lives link (trace ++ e ∷ [])
    ≡ ((was_born link trace || is_birth_of link e) && not (was_closed link trace || is_close_of link e))
