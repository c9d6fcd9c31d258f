use Rattle.hb_laws.proofs.RefusedPlain.{sends_header, answers_itself}
use Rattle.hb_laws.proofs.laws.relayed_bytes_are_refused.Goals as goal

pub returns : goal.returns
returns c = record { header = sends_header; itself = answers_itself }
