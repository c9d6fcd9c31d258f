use Rattle.std.proofs.Common.{◌≡◌}
use Rattle.std.specs.List.{filter_map}
use Rattle.std.specs.Option.{IfSome, option_map}
use Rattle.hb_held.specs.Endpoints.{endpoints, endpoints_left}
use Rattle.hb_route.specs.Endpoint.{leading_as, place_by, place_as, places_by, chosen}
use Rattle.hb_route.specs.Opens.{open_at}
use Rattle.hb_route.proofs.Chosen.{chosen_after}
use Rattle.hb_route.proofs.endpoint.chosen.Given as goal

-- of the best so far and of those that are left the same one goes first as of all, and the best one's number is the one counted
abbrev pub invariant-loop-found : goal.invariant-loop-found
invariant-loop-found l =
    record {
      first : chosen_after l.opens (option_map (λ b. place_as b.endpoint) l.best)
          (filter_map (place_by (leading_as l.to)) (endpoints_left l.endpoints))
          ≡ chosen l.opens (places_by (leading_as l.to) (endpoints l.held l.namespace l.hostname));
      counted : IfSome l.best (λ b. b.opens ≡ open_at l.opens b.endpoint.name.now);
    }
