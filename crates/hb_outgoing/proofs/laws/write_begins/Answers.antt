use Rattle.hb_outgoing.proofs.Sent.{write_begins, begins_by_place, ends_at_a_frame}
use Rattle.hb_outgoing.proofs.laws.write_begins.Goals as goal

pub returns : goal.returns
returns c = record { sent = write_begins; begun = begins_by_place; whole = ends_at_a_frame }
