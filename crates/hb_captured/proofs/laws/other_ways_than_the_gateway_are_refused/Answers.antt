use Rattle.hb_captured.proofs.GatewayRefused.{asks_twice, asks_straight, dials_beside, goes_round, goes_through_straight, goes_through_nowhere, speaks_for_another, refuses_through}
use Rattle.hb_captured.proofs.laws.other_ways_than_the_gateway_are_refused.Goals as goal

pub returns : goal.returns
returns c = record {
  twice = asks_twice;
  asks_straight = asks_straight;
  beside = dials_beside;
  round = goes_round;
  through = goes_through_straight;
  nowhere = goes_through_nowhere;
  identity = speaks_for_another;
  refuses = refuses_through;
}
