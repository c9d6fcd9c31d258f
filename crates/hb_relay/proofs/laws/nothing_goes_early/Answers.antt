use Rattle.hb_relay.proofs.StreamRefused.{puts_other, finishes_early, credits_more, completes_early}
use Rattle.hb_relay.proofs.laws.nothing_goes_early.Goals as goal

pub returns : goal.returns
returns c = record { puts = puts_other; finishes = finishes_early; credits = credits_more; completes = completes_early }
