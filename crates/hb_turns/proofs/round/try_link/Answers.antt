use Rattle.std.proofs.Common.{true, refl, arith, rules}
use Rattle.hb_turns.proofs.Resting.{calm_both, rests_calmly, neither}
use Rattle.hb_turns.proofs.Trying.{tried_both, tried_err, tried_as, lacked_first, err_moves, err_gains, link_gains, once_few}
use Rattle.hb_turns.proofs.round.try_link.Goals as goal

pub returns-in_err-opened-clause-tried : goal.returns-in_err-opened-clause-tried
returns-in_err-opened-clause-tried g c =
    let r = c.from_residual.result in
    lacked_first g.N.Node.stands g.N.Node.shown _ _ _ _ _ _ _ r (search rules) (err_moves r (search rules)) (omega arith)
    (c.in_err-opened.ensures {u = tt}).tried

pub returns-in_err-came-clause-tried : goal.returns-in_err-came-clause-tried
returns-in_err-came-clause-tried g c =
    let r = c.from_residual-in_err-came.result in
    let most = err_gains r (search rules) in
    tried_err g.N.Node.stands g.N.Node.shown _ _ _ _ _ _ _ _ _ r (search rules) (err_moves r (search rules)) (omega (arith, most))
    (c.in_ok-opened.ensures {u = tt}).tried (c.in_err-came.ensures {u = tt}).tried

pub returns-in_err-broke-clause-tried : goal.returns-in_err-broke-clause-tried
returns-in_err-broke-clause-tried g c =
    let stands = g.N.Node.stands in
    let shown = g.N.Node.shown in
    let r = c.from_residual-in_err-broke.result in
    let most = err_gains r (search rules) in
    let came = once_few c.in_ok-came.came in
    tried_err stands shown _ _ _ _ _ _ _ _ _ r (search rules) (err_moves r (search rules)) (omega (arith, most, came))
    (tried_both stands shown _ _ _ _ _ _ true (c.in_ok-opened.ensures {u = tt}).tried (c.in_ok-came.ensures {u = tt}).tried)
    (c.in_err-broke.ensures {u = tt}).tried

pub returns-in_err-went-clause-tried : goal.returns-in_err-went-clause-tried
returns-in_err-went-clause-tried g c =
    let stands = g.N.Node.stands in
    let shown = g.N.Node.shown in
    let r = c.from_residual-in_err-went.result in
    let most = err_gains r (search rules) in
    let came = once_few c.in_ok-came.came in
    tried_err stands shown _ _ _ _ _ _ _ _ _ r (search rules) (err_moves r (search rules)) (omega (arith, most, came))
    (tried_both stands shown _ _ _ _ _ _ true
    (tried_both stands shown _ _ _ _ _ _ true (c.in_ok-opened.ensures {u = tt}).tried (c.in_ok-came.ensures {u = tt}).tried) (c.in_ok-broke.ensures {u = tt}).tried)
    (c.in_err-went.ensures {u = tt}).tried

pub returns-in_err-more-clause-tried : goal.returns-in_err-more-clause-tried
returns-in_err-more-clause-tried g c =
    let stands = g.N.Node.stands in
    let shown = g.N.Node.shown in
    let r = c.from_residual-in_err-more.result in
    let most = err_gains r (search rules) in
    let came = once_few c.in_ok-came.came in
    tried_err stands shown _ _ _ _ _ _ _ _ _ r (search rules) (err_moves r (search rules)) (omega (arith, most, came))
    (tried_both stands shown _ _ _ _ _ _ true
    (tried_both stands shown _ _ _ _ _ _ true
    (tried_both stands shown _ _ _ _ _ _ true (c.in_ok-opened.ensures {u = tt}).tried (c.in_ok-came.ensures {u = tt}).tried) (c.in_ok-broke.ensures {u = tt}).tried) (c.in_ok-went.ensures {u = tt}).tried)
    (c.in_err-more.ensures {u = tt}).tried

pub returns-clause-tried : goal.returns-clause-tried
returns-clause-tried g c =
    let stands = g.N.Node.stands in
    let shown = g.N.Node.shown in
    tried_as stands shown _ _ _ _ _ _ _ refl
    (link_gains c.in_ok-opened.opened c.in_ok-came.came c.in_ok-broke.broke c.in_ok-went.went c.in_ok-more.more)
    (tried_both stands shown _ _ _ _ _ _ true
    (tried_both stands shown _ _ _ _ _ _ true
    (tried_both stands shown _ _ _ _ _ _ true
    (tried_both stands shown _ _ _ _ _ _ true (c.in_ok-opened.ensures {u = tt}).tried (c.in_ok-came.ensures {u = tt}).tried) (c.in_ok-broke.ensures {u = tt}).tried) (c.in_ok-went.ensures {u = tt}).tried) (c.in_ok-more.ensures {u = tt}).tried)

pub returns-clause-rests : goal.returns-clause-rests
returns-clause-rests g c = λ still.
    let last = neither _ _ still in
    let fourth = neither _ _ last.0 in
    let third = neither _ _ fourth.0 in
    let second = neither _ _ third.0 in
    let opened = (c.in_ok-opened.ensures {u = tt}).rests second.0 in
    let came = (c.in_ok-came.ensures {u = tt}).rests second.1 in
    let broke = (c.in_ok-broke.ensures {u = tt}).rests third.1 in
    let went = (c.in_ok-went.ensures {u = tt}).rests fourth.1 in
    let more = (c.in_ok-more.ensures {u = tt}).rests last.1 in (
      calm_both _ _ _ opened.0 (calm_both _ _ _ came.0 (calm_both _ _ _ broke.0 (calm_both _ _ _ went.0 more.0))),
      rests_calmly g.N.Node.shown c.args.link _ _ _ _ _ opened.1 came.0 came.1 broke.0 broke.1 went.0 more.0 more.1,
    )
