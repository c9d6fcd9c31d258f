use Rattle.std.proofs.Common.{take, [], ◌∷◌}
use Rattle.std.specs.Option.{option_copied}
use Rattle.hb_index.specs.Named.{IsFirstBehind}
use Rattle.hb_held.specs.Asked.{has_key}
use Rattle.hb_held.proofs.policies.first_asked.Given as goal

-- the first of the names with the number of one of the keys so far
abbrev pub invariant-loop-key : goal.invariant-loop-key
invariant-loop-key l =
    IsFirstBehind (has_key l.policies.now ([] ∷ l.workload.namespace ∷ take l.key-index l.workload.authorization_policies))
    (option_copied l.name) (option_copied l.first)
