use Rattle.hb_captured.proofs.GatewayRows.{through_may_go, refused_through_may_go, broken_may_go, roomless_may_go}
use Rattle.hb_captured.proofs.laws.lives_by_a_gateway_may_go.Goals as goal

pub returns : goal.returns
returns c = record {
  done = through_may_go;
  refused = refused_through_may_go;
  broken = broken_may_go;
  roomless = roomless_may_go;
}
