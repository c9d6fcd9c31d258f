use Rattle.hb_laws.proofs.Hearing.{hears_no_goaway, hears_no_reset, hears_no_not_found, hears_no_end, hears_no_end_of_headers, keeps_reset, keeps_end_of_stream, keeps_end_at_once, keeps_not_found}
use Rattle.hb_laws.proofs.laws.deafness_is_refused.Goals as goal

pub returns : goal.returns
returns c = record {
  goaway = hears_no_goaway;
  reset = hears_no_reset;
  not_found = hears_no_not_found;
  end = hears_no_end;
  end_of_headers = hears_no_end_of_headers;
  keeps_reset = keeps_reset;
  keeps_end = keeps_end_of_stream;
  keeps_end_at_once = keeps_end_at_once;
  keeps_not_found = keeps_not_found;
}
