-- What `make` asks.
use Rattle.std.specs.Prelude.{⊤, ℕ, ◌≤◌}
use Rattle.hb_words.specs.Command.{Command, makes}

-- the most tunnels of a script
abbrev pub most_tunnels : ℕ
most_tunnels = 1000

-- a script that is asked for has no more tunnels
abbrev pub IsInRange : Command → Type 0
IsInRange (makes m) = m.count ≤ most_tunnels
IsInRange _ = ⊤
