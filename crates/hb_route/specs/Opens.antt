-- How many connections each endpoint has open.
use Rattle.std.specs.Prelude.{ℕ, ◌+◌, ◌-◌, nat_le, if◌then◌else◌, List}
use Rattle.std.specs.FinMap.{get, insert, remove}
use Rattle.std.specs.Option.{unwrap_or}
use Rattle.hb_index.specs.Named.{Named}

-- the numbers of open connections, by the names of the endpoints' resources
abbrev pub Counts : Type 0
Counts = Named ℕ

-- a name that isn't there has none open
abbrev pub open_at : Counts → List ℕ → ℕ
open_at opens name = unwrap_or (get opens name) 0

-- one more is open under a name
abbrev pub one_more : Counts → List ℕ → Counts
one_more opens name = insert opens name (open_at opens name + 1)

-- one fewer is open under a name; a name with none isn't kept
abbrev pub one_less : Counts → List ℕ → Counts
one_less opens name = if nat_le (open_at opens name) 1 then remove opens name else insert opens name (open_at opens name - 1)
