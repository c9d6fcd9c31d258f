use Rattle.std.proofs.Common.{sym, subst}
use Rattle.hb_world.specs.declared.entry.Entry.TheVariants as e
use Rattle.hb_gateway.specs.Part.{entry}
use Rattle.hb_gate.specs.Calls.{Enters}
use Rattle.hb_gate.specs.declared.gate.Gate.{Gate}
use Rattle.hb_gate.proofs.Ended.{ends_link}
use Rattle.hb_gate.proofs.gate.Gate.ended.Goals as goal

pub returns : goal.returns
returns c =
    let k = c.args.self.now in
    subst (λ (n : Gate). Enters (entry (e.Ended k.number)) k n) (sym c.end_all.ensures.rest)
    (ends_link k c.end_all.new.self.streams c.end_cause-cause.result c.end_cause-cause.ensures c.end_all.ensures.streams)
