use Rattle.hb_link.proofs.Passing.{one_tells, then_tells}
use Rattle.hb_link.proofs.link.Link.next_roused.Goals as goal

pub returns-in-Some : goal.returns-in-Some
returns-in-Some c = one_tells c.in-Some.up c.args.self.now c.next_of_few.new.self (c.in-Some.ensures {u = tt}).passes

pub returns-in-None : goal.returns-in-None
returns-in-None c =
    then_tells c.next_of_rest.result c.args.self.now c.next_of_few.new.self c.next_of_rest.new.self (c.in-None.ensures {u = tt}).passes
    c.next_of_rest.ensures
