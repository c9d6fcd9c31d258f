use Rattle.hb_relay.proofs.Acted.{acts}
use Rattle.hb_relay.proofs.relay.Relay.next_act.Goals as goal

pub returns : goal.returns
returns c = record {
  acts = acts c.args.self.now c.act.new.self c.act.result c.act.ensures.act c.act.ensures.after;
  number = c.act.ensures.after.number;
}
