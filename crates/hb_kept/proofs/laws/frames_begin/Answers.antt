use Rattle.hb_kept.proofs.Begun.{unbegun_is_refused, first_octet_begins}
use Rattle.hb_kept.proofs.laws.frames_begin.Goals as goal

pub returns : goal.returns
returns c = record {
  none = unbegun_is_refused;
  first = first_octet_begins;
}
