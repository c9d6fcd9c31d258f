use Rattle.std.proofs.Common.{ℕ, List, subst}
use Rattle.hb_link.specs.Fronting.{TakesFront}
use Rattle.hb_link.proofs.link.Link.take_front.Goals as goal

pub returns : goal.returns
returns c =
    subst (λ (bytes : List ℕ). TakesFront (record c.args.self.now { front = bytes }) c.read_front.new.self) c.push.ensures
    c.read_front.ensures
