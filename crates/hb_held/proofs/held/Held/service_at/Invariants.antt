use Rattle.hb_index.specs.Named.{Rise}
use Rattle.hb_held.specs.Lookup.{service_in, serves_at}
use Rattle.hb_held.proofs.LeastLaw.{MissesNone}
use Rattle.hb_held.proofs.held.Held.service_at.Given as goal

-- no service with the address stands under a name that was passed over
abbrev pub invariant-loop-name : goal.invariant-loop-name
invariant-loop-name l =
    record {
      can : (goal.iterator-loop-name).can_next l.rest;
      ends : (goal.iterator-loop-name).is_finite l.rest;
      rises : Rise l.rest;
      all : MissesNone service_in (serves_at l.self.network l.ip) l.self.addresses l.rest;
    }
