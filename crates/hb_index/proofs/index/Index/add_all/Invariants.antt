use Rattle.std.proofs.Common.{◌≡◌, take}
use Rattle.hb_index.specs.Index.{with_all}
use Rattle.hb_index.proofs.index.Index.add_all.Given as goal

-- the name stands under the numbers so far
abbrev pub invariant-loop-number : goal.invariant-loop-number
invariant-loop-number l = l.self ≡ with_all l.fn.self l.name (take l.number-index l.numbers)
