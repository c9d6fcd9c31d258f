use Rattle.std.proofs.Common.{sym, subst}
use Rattle.hb_world.specs.declared.entry.Entry.TheVariants as e
use Rattle.hb_gateway.specs.Part.{entry}
use Rattle.hb_gate.specs.Calls.{Enters}
use Rattle.hb_gate.specs.declared.gate.Gate.{Gate}
use Rattle.hb_gate.proofs.Ended.{breaks}
use Rattle.hb_gate.proofs.gate.Gate.broke.Goals as goal

pub returns : goal.returns
returns c =
    let k = c.args.self.now in
    subst (λ (n : Gate). Enters (entry (e.Broke k.number)) k n) (sym c.end_all.ensures.rest)
    (breaks k c.broken-self.result c.end_all.new.self.streams c.break_cause-cause.result c.broken-self.ensures c.break_cause-cause.ensures
    c.end_all.ensures.streams)
