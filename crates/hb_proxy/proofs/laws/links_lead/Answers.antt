use Rattle.hb_proxy.proofs.Leads as leads
use Rattle.hb_proxy.proofs.laws.links_lead.Goals as goal

pub returns : goal.returns
returns c = record {
  step = leads.links_step;
  lead = leads.links_lead;
  plain_step = leads.plain_links_step;
  plain_lead = leads.plain_links_lead;
}
