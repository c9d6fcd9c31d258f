use Rattle.hb_relay.proofs.Streaming.{hears_open}
use Rattle.hb_relay.proofs.relay.Relay.stream_opened.Goals as goal

pub returns : goal.returns
returns c =
    hears_open c.args.end c.args.self.now c.open_stream.new.self c.verdict_note.new.self c.verdict_note.result c.open_stream.ensures
    c.verdict_note.ensures.note c.verdict_note.ensures.after
