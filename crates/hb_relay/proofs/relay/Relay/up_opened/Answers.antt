use Rattle.hb_relay.proofs.Meeting.{opens}
use Rattle.hb_relay.proofs.relay.Relay.up_opened.Goals as goal

pub returns : goal.returns
returns c = λ u.
    opens c.args.self.now c.open.new.self c.verdict_note.new.self u c.verdict_note.result c.open.ensures c.verdict_note.ensures.note
    c.verdict_note.ensures.after
