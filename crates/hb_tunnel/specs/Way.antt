-- One way of a tunnel.
use Rattle.std.specs.Prelude.{◌≡◌, ◌==◌, ◌&&◌, ℕ, Bool, true, false, List, [], ◌++◌, length, drop}

-- the bytes that wait on a way, the first to go in front; and whether no further one comes
pub record Way : Type 0 where
  pub held : List ℕ
  pub has_ended : Bool

-- a way of so many bytes at most
pub record Sized : Type 0 where
  pub size : ℕ
  pub way : Way

-- a new way
abbrev pub empty_way : Way
empty_way = record { held = []; has_ended = false }

-- what happens on a way: bytes are pushed, the first ones are taken, or it ends
pub data Move : Type 0 where
  pushes : (bytes : List ℕ) → Move
  takes : (count : ℕ) → Move
  ends : Move

abbrev pub after : Way → Move → Way
after w (pushes bytes) = record w { held = w.held ++ bytes }
after w (takes count) = record w { held = drop count w.held }
after w ends = record w { has_ended = true }

-- the way has ended, and nothing waits on it
abbrev pub is_done : Way → Bool
is_done w = w.has_ended && length w.held == 0

-- a front part of what waits, which is nothing only where nothing waits
pub record IsFront (part held : List ℕ) : Type 0 where
  pub rest : List ℕ
  pub front : held ≡ part ++ rest
  pub some : length part ≡ 0 → held ≡ []
