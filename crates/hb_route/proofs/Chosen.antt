-- The choice of an endpoint while the list is walked.
use Rattle.std.proofs.Common.{List, Option, Some, None}
use Rattle.std.specs.List.{best_of}
use Rattle.hb_route.specs.Endpoint.{Place, goes_before, chosen}
use Rattle.hb_route.specs.Opens.{Counts}

-- the one that goes before all others, of the best so far and those that are left
abbrev pub chosen_after : Counts → Option Place → List Place → Option Place
chosen_after opens None left = chosen opens left
chosen_after opens (Some best) left = Some (best_of (goes_before opens) best left)
