use Rattle.hb_node.proofs.Heard.{look_goes, look_falls, look_is_last}
use Rattle.hb_node.proofs.link.Link.look.Goals as goal

pub returns-then-heard-clause-goes : goal.returns-then-heard-clause-goes
returns-then-heard-clause-goes g c =
    let found = rw c.in_ok-told.was at c.next_happening.follows.holds-at-none in
    rw c.settle.ensures
    (look_goes g.J.Judge.judges _ _ c.args.self.now _ c.in_ok-heard.heard c.hear.new.self found.0
    c.in_ok-told.told c.requires found.1 found.2
    (c.in_ok-heard.ensures {u = tt}))

pub returns-else-heard-clause-goes : goal.returns-else-heard-clause-goes
returns-else-heard-clause-goes g c =
    let found = rw c.in_ok-told.was at c.next_happening.follows.holds-at-none in
    rw c.settle.ensures
    (look_goes g.J.Judge.judges _ _ c.args.self.now _ c.in_ok-heard.heard c.hear.new.self found.0
    c.in_ok-told.told c.requires found.1 found.2
    (c.in_ok-heard.ensures {u = tt}))

pub returns-then-heard-clause-falls : goal.returns-then-heard-clause-falls
returns-then-heard-clause-falls g c = λ live.
    let found = rw c.in_ok-told.was at c.next_happening.follows.holds-at-none in
    rw c.settle.ensures (look_falls g.J.Judge.judges _ _ c.args.self.now _ c.in_ok-heard.heard c.hear.new.self found.0
    c.in_ok-told.told found.2 found.3
    (c.in_ok-heard.ensures {u = tt}) c.if-heard.true)

pub returns-else-heard-clause-rests : goal.returns-else-heard-clause-rests
returns-else-heard-clause-rests g c = λ none fares live.
    let found = rw c.in_ok-told.was at c.next_happening.follows.holds-at-none in
    rw c.settle.ensures (look_is_last g.J.Judge.judges _ _ c.args.self.now _ c.in_ok-heard.heard c.hear.new.self found.0
    c.in_ok-told.told found.1 found.2
    (c.in_ok-heard.ensures {u = tt}) none fares)
