use Rattle.hb_captured.proofs.OutboundRefused.{revokes_outbound, dials_as_plain, dials_as_direct}
use Rattle.hb_captured.proofs.laws.doors_are_told_apart.Goals as goal

pub returns : goal.returns
returns c = record { revoked = revokes_outbound; plain = dials_as_plain; direct = dials_as_direct }
