use Rattle.hb_proxy.proofs.Refusing.{see_all, sees_alone, writes_behind, reads_behind, ticks_behind, invents_byte}
use Rattle.hb_proxy.proofs.laws.revoked_tunnels_are_silent.Goals as goal

pub returns : goal.returns
returns c = record {
  together = see_all;
  alone = sees_alone;
  writes = writes_behind;
  reads = reads_behind;
  ticks = ticks_behind;
  invents = invents_byte;
}
