use Rattle.std.proofs.Common.{true, arith, rules}
use Rattle.hb_turns.proofs.Adding.{adds_both}
use Rattle.hb_turns.proofs.Leading.{heads_any, heads_then}
use Rattle.hb_turns.proofs.Resting.{quiet_round}
use Rattle.hb_turns.proofs.Trying.{tried_both, tried_as, tried_err, lacked_first, err_some, err_made, some_all, none_once, once_few}
use Rattle.hb_turns.proofs.round.round.Goals as goal

pub returns-in_err-first-clause-tried : goal.returns-in_err-first-clause-tried
returns-in_err-first-clause-tried g c =
    let r = c.from_residual.result in
    let most = err_made 68 r (search rules) in
    lacked_first g.N.Node.stands g.N.Node.shown _ _ _ _ _ _ _ r (search rules) (err_some r (search rules)) (omega (arith, most))
    (c.in_err-first.ensures {u = tt}).tried

pub returns-in_err-first-clause-leads : goal.returns-in_err-first-clause-leads
returns-in_err-first-clause-leads g c = heads_any _ _ (λ any. tt) (c.in_err-first.ensures {u = tt}).leads

pub returns-in_err-inbound-clause-tried : goal.returns-in_err-inbound-clause-tried
returns-in_err-inbound-clause-tried g c =
    let stands = g.N.Node.stands in
    let shown = g.N.Node.shown in
    let r = c.from_residual-in_err-inbound.result in
    let most = err_made 68 r (search rules) in
    let few_first = once_few c.in_ok-first.first in
    tried_err stands shown _ _ _ _ _ _ _ _ _ r (search rules) (err_some r (search rules)) (omega (arith, most, few_first))
    (c.in_ok-first.ensures {u = tt}).tried
    (c.in_err-inbound.ensures {u = tt}).tried

pub returns-in_err-inbound-clause-leads : goal.returns-in_err-inbound-clause-leads
returns-in_err-inbound-clause-leads g c =
    heads_then _ _ _ (λ any. tt) (λ any. any) (c.in_ok-first.ensures {u = tt}).leads
    (c.in_err-inbound.ensures {u = tt}).tried.adds

pub returns-in_err-outbound-clause-tried : goal.returns-in_err-outbound-clause-tried
returns-in_err-outbound-clause-tried g c =
    let stands = g.N.Node.stands in
    let shown = g.N.Node.shown in
    let r = c.from_residual-in_err-outbound.result in
    let most = err_made 68 r (search rules) in
    let few_first = once_few c.in_ok-first.first in
    let few_inbound = once_few c.in_ok-inbound.inbound in
    tried_err stands shown _ _ _ _ _ _ _ _ _ r (search rules) (err_some r (search rules)) (omega (arith, most, few_first, few_inbound))
    (tried_both stands shown _ _ _ _ _ _ true
    (c.in_ok-first.ensures {u = tt}).tried (c.in_ok-inbound.ensures {u = tt}).tried)
    (c.in_err-outbound.ensures {u = tt}).tried

pub returns-in_err-outbound-clause-leads : goal.returns-in_err-outbound-clause-leads
returns-in_err-outbound-clause-leads g c =
    heads_then _ _ _ (λ any. tt) (λ any. any) (c.in_ok-first.ensures {u = tt}).leads
    (adds_both _ _ _ _ _ (c.in_ok-inbound.ensures {u = tt}).tried.adds
    (c.in_err-outbound.ensures {u = tt}).tried.adds)

pub returns-in_err-plain-clause-tried : goal.returns-in_err-plain-clause-tried
returns-in_err-plain-clause-tried g c =
    let stands = g.N.Node.stands in
    let shown = g.N.Node.shown in
    let r = c.from_residual-in_err-plain.result in
    let most = err_made 68 r (search rules) in
    let few_first = once_few c.in_ok-first.first in
    let few_inbound = once_few c.in_ok-inbound.inbound in
    let few_outbound = once_few c.in_ok-outbound.outbound in
    tried_err stands shown _ _ _ _ _ _ _ _ _ r (search rules) (err_some r (search rules)) (omega (arith, most, few_first, few_inbound, few_outbound))
    (tried_both stands shown _ _ _ _ _ _ true
    (tried_both stands shown _ _ _ _ _ _ true
    (c.in_ok-first.ensures {u = tt}).tried (c.in_ok-inbound.ensures {u = tt}).tried) (c.in_ok-outbound.ensures {u = tt}).tried)
    (c.in_err-plain.ensures {u = tt}).tried

pub returns-in_err-plain-clause-leads : goal.returns-in_err-plain-clause-leads
returns-in_err-plain-clause-leads g c =
    heads_then _ _ _ (λ any. tt) (λ any. any) (c.in_ok-first.ensures {u = tt}).leads
    (adds_both _ _ _ _ _ (adds_both _ _ _ _ _ (c.in_ok-inbound.ensures {u = tt}).tried.adds
    (c.in_ok-outbound.ensures {u = tt}).tried.adds)
    (c.in_err-plain.ensures {u = tt}).tried.adds)

pub returns-in_err-links-clause-tried : goal.returns-in_err-links-clause-tried
returns-in_err-links-clause-tried g c =
    let stands = g.N.Node.stands in
    let shown = g.N.Node.shown in
    let r = c.from_residual-in_err-links.result in
    let most = err_made 68 r (search rules) in
    let few_first = once_few c.in_ok-first.first in
    let few_inbound = once_few c.in_ok-inbound.inbound in
    let few_outbound = once_few c.in_ok-outbound.outbound in
    let few_plain = once_few c.in_ok-plain.plain in
    tried_err stands shown _ _ _ _ _ _ _ _ _ r (search rules) (err_some r (search rules)) (omega (arith, most, few_first, few_inbound, few_outbound, few_plain))
    (tried_both stands shown _ _ _ _ _ _ true
    (tried_both stands shown _ _ _ _ _ _ true
    (tried_both stands shown _ _ _ _ _ _ true
    (c.in_ok-first.ensures {u = tt}).tried (c.in_ok-inbound.ensures {u = tt}).tried) (c.in_ok-outbound.ensures {u = tt}).tried) (c.in_ok-plain.ensures {u = tt}).tried)
    (c.in_err-links.ensures {u = tt}).tried

pub returns-in_err-links-clause-leads : goal.returns-in_err-links-clause-leads
returns-in_err-links-clause-leads g c =
    heads_then _ _ _ (λ any. tt) (λ any. any) (c.in_ok-first.ensures {u = tt}).leads
    (adds_both _ _ _ _ _ (adds_both _ _ _ _ _ (adds_both _ _ _ _ _ (c.in_ok-inbound.ensures {u = tt}).tried.adds
    (c.in_ok-outbound.ensures {u = tt}).tried.adds)
    (c.in_ok-plain.ensures {u = tt}).tried.adds)
    (c.in_err-links.ensures {u = tt}).tried.adds)

pub returns-clause-tried : goal.returns-clause-tried
returns-clause-tried g c =
    let stands = g.N.Node.stands in
    let shown = g.N.Node.shown in
    let one = c.once.ensures in
    let two = c.once-2.ensures in
    let three = c.once-3.ensures in
    let four = c.once-4.ensures in
    tried_as stands shown _ _ _ _ _ _ _ (some_all c.in_ok-links.links _ _ _ _ _ _ _ _ one two three four)
    (omega (arith, one, two, three, four))
    (tried_both stands shown _ _ _ _ _ _ true
    (tried_both stands shown _ _ _ _ _ _ true
    (tried_both stands shown _ _ _ _ _ _ true
    (tried_both stands shown _ _ _ _ _ _ true
    (c.in_ok-first.ensures {u = tt}).tried (c.in_ok-inbound.ensures {u = tt}).tried) (c.in_ok-outbound.ensures {u = tt}).tried) (c.in_ok-plain.ensures {u = tt}).tried) (c.in_ok-links.ensures {u = tt}).tried)

pub returns-clause-leads : goal.returns-clause-leads
returns-clause-leads g c =
    heads_then _ _ _ (λ any. tt) (λ any. any) (c.in_ok-first.ensures {u = tt}).leads
    (adds_both _ _ _ _ _ (adds_both _ _ _ _ _ (adds_both _ _ _ _ _ (c.in_ok-inbound.ensures {u = tt}).tried.adds
    (c.in_ok-outbound.ensures {u = tt}).tried.adds)
    (c.in_ok-plain.ensures {u = tt}).tried.adds)
    (c.in_ok-links.ensures {u = tt}).tried.adds)

pub returns-clause-rests : goal.returns-clause-rests
returns-clause-rests g c = λ still.
    let two = c.once-2.ensures in
    let three = c.once-3.ensures in
    let four = c.once-4.ensures in
    let inbound = (c.in_ok-inbound.ensures {u = tt}).rests (none_once _ (omega (arith, still, two))) in
    let outbound = (c.in_ok-outbound.ensures {u = tt}).rests (none_once _ (omega (arith, still, three))) in
    let plain = (c.in_ok-plain.ensures {u = tt}).rests (none_once _ (omega (arith, still, four))) in
    quiet_round _ _ _ _ inbound.1 outbound.0 outbound.1 plain.0 plain.1 ((c.in_ok-links.ensures {u = tt}).rests (omega (arith, still)))
