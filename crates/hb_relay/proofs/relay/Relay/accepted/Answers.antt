use Rattle.std.proofs.Common.{◌≡◌, ℕ, Result, Ok, Err, IfOk}
use Rattle.hb_base.specs.declared.door.Door.{Door}
use Rattle.hb_captured.specs.Captured.{fronting, no_link}
use Rattle.hb_relay.specs.Calls.{Begins}
use Rattle.hb_relay.specs.Shows.{captured_of}
use Rattle.hb_relay.specs.declared.relay.Relay.{Relay}
use Rattle.hb_relay.proofs.Meeting.{begins}
use Rattle.hb_relay.proofs.relay.Relay.accepted.Goals as goal

born : {E : Type 0} (d : Door) (l : ℕ) (r : Result Relay E)
    → IfOk r (λ k. captured_of k ≡ record no_link { door = d; stage = fronting }) → IfOk r (λ k. Begins d l k)
born d l (Ok k) is = begins d l k is
born d l (Err why) is = tt

pub returns-clause-begins : goal.returns-clause-begins
returns-clause-begins c = born c.args.door c.args.number c.fresh.result c.fresh.ensures.value
