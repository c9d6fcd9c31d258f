use Rattle.hb_proxy.proofs.Refusing.{comes_while_due, reads_ended, accepts_first, dials_while_due, accepts_behind_end, stops_unanswered}
use Rattle.hb_proxy.proofs.laws.early_entries_are_refused.Goals as goal

pub returns : goal.returns
returns c = record {
  due = comes_while_due;
  ended = reads_ended;
  accepts = accepts_first;
  dial = dials_while_due;
  late = accepts_behind_end;
  stops = stops_unanswered;
}
