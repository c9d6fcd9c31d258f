use Rattle.std.proofs.Common.{◌≡◌, ◌++◌, take}
use Rattle.hb_held.specs.Outcome.{after_removals, removed_names, changes}
use Rattle.hb_held.proofs.held.Held.remove_all.Given as goal

-- what is held and told is by the names so far
abbrev pub invariant-loop-name : goal.invariant-loop-name
invariant-loop-name l =
    record {
      held : l.self ≡ after_removals l.fn.self l.kind (take l.name-index l.names);
      told : l.changed ≡ l.fn.changed ++ changes l.kind (removed_names l.fn.self l.kind (take l.name-index l.names));
    }
