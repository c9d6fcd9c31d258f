use Rattle.hb_captured.proofs.OutboundRows.{straight_may_go, unrouted_may_go}
use Rattle.hb_captured.proofs.laws.outbound_lives_may_go.Goals as goal

pub returns : goal.returns
returns c = record { straight = straight_may_go; unrouted = unrouted_may_go }
