use Rattle.hb_kept.proofs.CreditableRuns as creditable
use Rattle.hb_kept.proofs.laws.octets_fit_the_window.Goals as goal

pub returns : goal.returns
returns c = record {
  looks = creditable.looks_add;
  writes = creditable.writes_leave_creditable;
  puts = creditable.puts_leave_creditable;
  answers = creditable.answers_leave_creditable;
  ends = creditable.ends_leave_creditable;
  resets = creditable.resets_leave_creditable;
  uses = creditable.uses_take;
  beyond = creditable.beyond_is_refused;
  lost = creditable.none_added_is_refused;
  all = creditable.all_may_come;
}
