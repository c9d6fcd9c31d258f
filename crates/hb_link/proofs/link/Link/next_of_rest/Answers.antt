use Rattle.hb_link.proofs.Passing.{next_tells}
use Rattle.hb_link.proofs.link.Link.next_of_rest.Goals as goal

pub returns : goal.returns
returns c =
    let next = c.in_ok-stream.ensures {u = tt} in
    next_tells c.args.self.now c.requires c.in_ok-from.from (c.in_ok-from.was {u = tt}) c.in_ok-stream.stream c.in_ok-stream.up
    c.checked_add-self.result next.next next.numbers c.checked_add-self.ensures
