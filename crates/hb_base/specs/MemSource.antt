-- A source over memory.
use Rattle.std.specs.Prelude.{ℕ, ◌==◌, min, if◌then◌else◌, List, length, drop}
use Rattle.std.specs.List.{list_any}
use Rattle.hb_base.specs.Count.{one_more}
use Rattle.hb_base.specs.declared.source.Taken.{Taken}
use Rattle.hb_base.specs.declared.source.Taken.TheVariants.{Got, End, Failed}

-- what is left of the bytes, the numbers of the calls that fail, how many calls came and how many failed
pub record Reading : Type 0 where
  pub left : List ℕ
  pub fails : List ℕ
  pub calls : ℕ
  pub faults : ℕ

-- the answer to the next take, into a buffer of this length: as much as fits, unless the call is to fail
abbrev pub take_answer : Reading → ℕ → Taken
take_answer s room =
    if list_any (λ k. k == one_more s.calls) s.fails then Failed
    else if length s.left == 0 then End
    else Got (min room (length s.left))

-- what stands after that answer
abbrev pub after_take : Reading → Taken → Reading
after_take s (Got n) = record s { left = drop n s.left; calls = one_more s.calls }
after_take s End = record s { calls = one_more s.calls }
after_take s Failed = record s { calls = one_more s.calls; faults = one_more s.faults }
