use Rattle.std.proofs.Common.{rules}
use Rattle.hb_turns.proofs.Trying.{lacked_first, tried_settled, err_moves, err_gains}
use Rattle.hb_turns.proofs.round.try_front.Goals as goal

pub returns-clause-tried : goal.returns-clause-tried
returns-clause-tried g c =
    tried_settled g.N.Node.stands g.N.Node.shown _ _ _ _ _ c.in_ok-moved.moved c.settle.ensures.keeps c.settle.ensures.node
    (c.in_ok-moved.ensures {u = tt}).tried

pub returns-in_err-moved-clause-tried : goal.returns-in_err-moved-clause-tried
returns-in_err-moved-clause-tried g c =
    let r = c.from_residual.result in
    lacked_first g.N.Node.stands g.N.Node.shown _ _ _ _ _ _ _ r (search rules) (err_moves r (search rules)) (err_gains r (search rules))
    (c.in_err-moved.ensures {u = tt}).tried
