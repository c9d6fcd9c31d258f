-- The total line.
use Rattle.std.specs.Prelude.{ℕ, List, ◌++◌, codes, decimal}
use Rattle.hb_turns.specs.declared.served.Totals.{Totals}

-- the total line
abbrev pub total_line : Totals → List ℕ
total_line totals =
    codes "total: " ++ decimal totals.links ++ codes " links, " ++ decimal totals.accepted ++ codes " accepted, "
    ++ decimal totals.revoked ++ codes " revoked, " ++ decimal totals.up ++ codes " up, " ++ decimal totals.down ++ codes " down\n"
