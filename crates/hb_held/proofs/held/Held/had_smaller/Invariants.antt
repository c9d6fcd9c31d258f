use Rattle.std.proofs.Common.{◌≡◌}
use Rattle.std.specs.Prelude.{◌&&◌}
use Rattle.std.specs.List.{list_any}
use Rattle.std.specs.Option.{option_copied}
use Rattle.hb_held.specs.Touched.{precedes, had_address, had_smaller}
use Rattle.hb_held.proofs.held.Held.had_smaller.Given as goal

-- what was passed over had the address under no smaller name
abbrev pub invariant-loop-name : goal.invariant-loop-name
invariant-loop-name l =
    record {
      can : (goal.iterator-loop-name).can_next l.rest;
      ends : (goal.iterator-loop-name).is_finite l.rest;
      left : list_any (λ e. had_address l.self.network l.ip e.1 && precedes e.0 (option_copied l.least)) l.rest
          ≡ had_smaller l.self l.ip (option_copied l.least);
    }
