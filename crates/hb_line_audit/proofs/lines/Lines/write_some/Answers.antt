use Rattle.std.proofs.Common.{rules, take}
use Rattle.hb_line_audit.proofs.Handed.{keeps_wrote}
use Rattle.hb_line_audit.proofs.lines.Lines.write_some.Goals as goal

pub returns-in-Took-clause-kept : goal.returns-in-Took-clause-kept
returns-in-Took-clause-kept g c =
    let bytes = c.in-Took.ensures.bytes in
    rw (← c.self.view_is)
    (keeps_wrote (g.K.Polled.written c.self.inside.sink) (g.K.Polled.written c.takes_more.new.self) (g.K.Polled.written c.put.new.self)
    c.self.inside.backlog (take c.portion-count.result c.as_slice-waits.result.now) c.remove.new.self c.portion-count.result c.in-Took.count
    c.takes_more.ensures.bytes (search rules) bytes.1 bytes.2 c.remove.ensures)
