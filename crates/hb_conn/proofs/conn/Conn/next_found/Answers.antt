use Rattle.std.proofs.Common.{rules, subst}
use Rattle.hb_conn.specs.Receiving.{LacksBlock}
use Rattle.hb_conn.specs.Connection.{Connection}
use Rattle.hb_conn.proofs.conn.Conn.next_found.Goals as goal

pub returns-in_err-found-clause-lacks : goal.returns-in_err-found-clause-lacks
returns-in_err-found-clause-lacks c =
    let inside = rw c.in_err-found.was at c.receive.ensures.lacks in
    let lacks = subst (λ (d : Connection). LacksBlock d.receiver) c.self.view_is inside in
    search (rules, lacks)
