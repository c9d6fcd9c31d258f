-- A sink over memory.
use Rattle.std.specs.Prelude.{ℕ, ◌==◌, ◌-◌, ◌||◌, min, if◌then◌else◌, List, ◌++◌, length, take}
use Rattle.std.specs.List.{list_any}
use Rattle.hb_base.specs.Count.{one_more}
use Rattle.hb_base.specs.declared.sink.Put.{Put}
use Rattle.hb_base.specs.declared.sink.Put.TheVariants.{Took, Failed}

-- what was written, how many bytes fit in all, the numbers of the calls that fail, how many calls came
-- and how many failed
pub record Writing : Type 0 where
  pub written : List ℕ
  pub room : ℕ
  pub fails : List ℕ
  pub calls : ℕ
  pub faults : ℕ

-- the answer to the next put, of so many bytes: as much as fits, unless the call is to fail or nothing fits
abbrev pub put_answer : Writing → ℕ → Put
put_answer s offered =
    if list_any (λ k. k == one_more s.calls) s.fails || (length s.written == s.room) then Failed
    else Took (min offered (s.room - length s.written))

-- what stands after that answer to a put of these bytes
abbrev pub after_put : Writing → List ℕ → Put → Writing
after_put s from (Took n) = record s { written = s.written ++ take n from; calls = one_more s.calls }
after_put s from Failed = record s { calls = one_more s.calls; faults = one_more s.faults }
