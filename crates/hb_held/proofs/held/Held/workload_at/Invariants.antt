use Rattle.hb_index.specs.Named.{Rise}
use Rattle.hb_held.specs.Lookup.{workload_in, has_address}
use Rattle.hb_held.proofs.LeastLaw.{MissesNone}
use Rattle.hb_held.proofs.held.Held.workload_at.Given as goal

-- no workload with the address stands under a name that was passed over
abbrev pub invariant-loop-name : goal.invariant-loop-name
invariant-loop-name l =
    record {
      can : (goal.iterator-loop-name).can_next l.rest;
      ends : (goal.iterator-loop-name).is_finite l.rest;
      rises : Rise l.rest;
      all : MissesNone workload_in (has_address l.self.network l.ip) l.self.addresses l.rest;
    }
