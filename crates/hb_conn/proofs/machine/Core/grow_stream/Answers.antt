use Rattle.std.proofs.Common.{subst, sym}
use Rattle.hb_conn.specs.Outcome.{Outcome, Gives}
use Rattle.hb_conn.proofs.Flowing.{increment_is_refused}
use Rattle.hb_conn.proofs.machine.Core.grow_stream.Goals as goal

pub returns-in-Err : goal.returns-in-Err
returns-in-Err c =
    let grants = rw (c.in-Err.is, c.unbegun_on-size.ensures) at c.grant_stream.ensures in
    let is = increment_is_refused c.args.self.now c.grant_stream.new.self c.in-Err.field-0 c.args.stream c.args.n grants in
    subst (λ (o : Outcome). Gives o c.break_stream.new.self c.break_stream.result) (sym is) c.break_stream.ensures
