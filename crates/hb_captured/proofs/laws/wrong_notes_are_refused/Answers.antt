use Rattle.hb_captured.proofs.OutboundRefused.{tells_another}
use Rattle.hb_captured.proofs.Refused.{keeps_identity, notes_twice, ends_unaccepted, ends_twice, closes_unnoted, leaves_out_502}
use Rattle.hb_captured.proofs.laws.wrong_notes_are_refused.Goals as goal

pub returns : goal.returns
returns c = record {
  identity = keeps_identity;
  another = tells_another;
  twice = notes_twice;
  unaccepted = ends_unaccepted;
  ends_twice = ends_twice;
  unnoted = closes_unnoted;
  left_out = leaves_out_502;
}
