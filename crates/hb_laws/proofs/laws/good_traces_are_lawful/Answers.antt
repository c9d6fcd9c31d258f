use Rattle.hb_laws.proofs.GoodRuns.{good_trace_is_lawful, good_link_is_lawful, good_end_is_lawful, good_plain_is_lawful, good_refusal_is_lawful, good_unsynced_is_lawful}
use Rattle.hb_laws.proofs.laws.good_traces_are_lawful.Goals as goal

pub returns : goal.returns
returns c = record {
  control = good_trace_is_lawful;
  link = good_link_is_lawful;
  end = good_end_is_lawful;
  plain = good_plain_is_lawful;
  refusal = good_refusal_is_lawful;
  unsynced = good_unsynced_is_lawful;
}
