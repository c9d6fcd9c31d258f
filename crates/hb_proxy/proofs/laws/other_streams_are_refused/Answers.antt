use Rattle.hb_proxy.proofs.StreamsRefusing.{asks_roomless, asks_behind, shares_keys, asks_ended, asks_later, asks_elsewhere}
use Rattle.hb_proxy.proofs.StreamsRefusing.{dials_beside, refuses_beside, dials_for_straight, takes_alone, drops_alone}
use Rattle.hb_proxy.proofs.StreamsRefusing.{tells_another, puts_other, reads_undialled}
use Rattle.hb_proxy.proofs.laws.other_streams_are_refused.Goals as goal

pub returns : goal.returns
returns c = record {
  roomless = asks_roomless;
  behind = asks_behind;
  shares = shares_keys;
  ended = asks_ended;
  later = asks_later;
  elsewhere = asks_elsewhere;
  beside = dials_beside;
  refuses = refuses_beside;
  straight = dials_for_straight;
  takes = takes_alone;
  drops = drops_alone;
  another = tells_another;
  puts = puts_other;
  undialled = reads_undialled;
}
