-- How many connections each endpoint has: a link is one to its endpoint while it is pending or lives.
use Rattle.std.specs.Prelude.{ℕ, List, Option, Some, None}
use Rattle.hb_route.specs.Opens.{Counts, one_more, one_less}
use Rattle.hb_captured.specs.Captured.{Captured, counts_for}

-- to which endpoint a link counted before a step, and to which it does behind it
abbrev pub recounted : (before behind : Option (List ℕ)) → Counts → Counts
recounted None None opens = opens
recounted None (Some name) opens = one_more opens name
recounted (Some name) None opens = one_less opens name
recounted (Some name) (Some other) opens = opens

-- a step makes this of a link
abbrev pub counted_with : (before behind : Captured) → Counts → Counts
counted_with x y opens = recounted (counts_for x) (counts_for y) opens
