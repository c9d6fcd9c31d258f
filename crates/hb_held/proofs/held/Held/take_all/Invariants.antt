use Rattle.std.proofs.Common.{◌≡◌, ◌++◌, take}
use Rattle.hb_held.specs.Outcome.{after_resources, applied_names, refusals, changes}
use Rattle.hb_held.proofs.held.Held.take_all.Given as goal

-- what is held and told is by the resources so far
abbrev pub invariant-loop-resource : goal.invariant-loop-resource
invariant-loop-resource l =
    record {
      held : l.self ≡ after_resources l.fn.self l.kind (take l.resource-index l.resources);
      told : l.changed ≡ l.fn.changed ++ changes l.kind (applied_names l.fn.self l.kind (take l.resource-index l.resources));
      refused : l.refused ≡ l.fn.refused ++ refusals l.fn.self l.kind (take l.resource-index l.resources);
    }
