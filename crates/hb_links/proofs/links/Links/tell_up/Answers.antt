use Rattle.hb_links.proofs.Hearing.{up_tells}
use Rattle.hb_links.proofs.links.Links.tell_up.Goals as goal

pub returns : goal.returns
returns c =
    let new = c.next_roused.new.self in
    up_tells c.args.self.now _ c.args.link c.in_ok-link.link.now new (c.in_ok-link.ensures {u = tt}).value (c.at.follows.holds new)
    c.next_roused.result c.next_roused.ensures
