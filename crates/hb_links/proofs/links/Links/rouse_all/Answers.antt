use Rattle.hb_links.proofs.Hearing.{all_roused}
use Rattle.hb_links.proofs.links.Links.rouse_all.Goals as goal

pub returns-in-Some : goal.returns-in-Some
returns-in-Some c =
    let new = c.rouse_all.new.self in
    all_roused c.args.self.now _ c.args.link c.in-Some.link.now new c.in-Some.ensures.value (c.at.follows.holds new)
    c.rouse_all.ensures.all c.rouse_all.ensures.same
