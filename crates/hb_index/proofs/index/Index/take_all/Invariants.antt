use Rattle.std.proofs.Common.{◌≡◌, take}
use Rattle.hb_index.specs.Index.{without_all}
use Rattle.hb_index.proofs.index.Index.take_all.Given as goal

-- the name is gone from under the numbers so far but those to be kept
abbrev pub invariant-loop-number : goal.invariant-loop-number
invariant-loop-number l = l.self ≡ without_all l.fn.self l.name (take l.number-index l.numbers) l.kept
