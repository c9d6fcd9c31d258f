use Rattle.hb_history.proofs.TakenBack.{ends_take_back, kept_is_refused, kept_by_error, kept_by_fault, others_may_wait}
use Rattle.hb_history.proofs.laws.ends_take_data_back.Goals as goal

pub returns : goal.returns
returns c = record {
  takes = ends_take_back;
  kept = kept_is_refused;
  kept_by_error = kept_by_error;
  kept_by_fault = kept_by_fault;
  others = others_may_wait;
}
