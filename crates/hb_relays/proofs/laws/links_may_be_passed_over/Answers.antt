use Rattle.hb_relays.proofs.RestsRefused.{rests_are_told, others_say_nothing}
use Rattle.hb_relays.proofs.laws.links_may_be_passed_over.Goals as goal

pub returns : goal.returns
returns c = record { told = rests_are_told; others = others_say_nothing }
