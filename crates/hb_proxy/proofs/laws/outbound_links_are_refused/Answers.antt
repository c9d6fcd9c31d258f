use Rattle.hb_proxy.proofs.OutboundRefusing.{outbound_dials_twice, outbound_behind_end, outbound_reads_upstream}
use Rattle.hb_proxy.proofs.laws.outbound_links_are_refused.Goals as goal

pub returns : goal.returns
returns c = record { dialled = outbound_dials_twice; late = outbound_behind_end; upstream = outbound_reads_upstream }
