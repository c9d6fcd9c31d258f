use Rattle.std.proofs.Common.{◌≡◌, ℕ, Result, Ok, Err, IfOk}
use Rattle.hb_base.specs.declared.cause.Cause.TheVariants.{NoRoom}
use Rattle.hb_base.specs.declared.door.Door.{Door}
use Rattle.hb_captured.specs.Captured.{over, no_link}
use Rattle.hb_relay.specs.Calls.{TurnsAway}
use Rattle.hb_relay.specs.Shows.{captured_of}
use Rattle.hb_relay.specs.declared.relay.Relay.{Relay}
use Rattle.hb_relay.proofs.Meeting.{turns_away}
use Rattle.hb_relay.proofs.relay.Relay.turned_away.Goals as goal

turned : {E : Type 0} (d : Door) (l : ℕ) (r : Result Relay E)
    → IfOk r (λ k. captured_of k ≡ record no_link { door = d; stage = over NoRoom }) → IfOk r (λ k. TurnsAway d l k)
turned d l (Ok k) is = turns_away d l k is
turned d l (Err why) is = tt

pub returns-clause-turns : goal.returns-clause-turns
returns-clause-turns c = turned c.args.door c.args.number c.fresh.result c.fresh.ensures.value
