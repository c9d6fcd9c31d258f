use Rattle.hb_proxy.proofs.PlainRefusing.{plain_comes_unborn, plain_reads_unborn, plain_reads_upstream, plain_behind_end, plain_dials_twice}
use Rattle.hb_proxy.proofs.PlainRefusing.{plain_writes_behind, plain_entry_behind, plain_invents_byte, plain_reads_behind}
use Rattle.hb_proxy.proofs.laws.plain_links_are_refused.Goals as goal

pub returns : goal.returns
returns c = record {
  comes = plain_comes_unborn;
  unborn = plain_reads_unborn;
  upstream = plain_reads_upstream;
  late = plain_behind_end;
  dialled = plain_dials_twice;
  writes = plain_writes_behind;
  entries = plain_entry_behind;
  invents = plain_invents_byte;
  reads = plain_reads_behind;
}
