use Rattle.std.proofs.Common.{drop, ap, sym, ◌∙◌}
use Rattle.hb_outgoing.specs.Queue.{frames_of}
use Rattle.hb_outgoing.specs.Waiting.{Waiting}
use Rattle.hb_outgoing.specs.Selected.{first_data}
use Rattle.hb_outgoing.proofs.Known.{none_first}
use Rattle.hb_outgoing.proofs.outgoing.Outgoing.unbegun.Goals as goal

pub returns-then-not-self : goal.returns-then-not-self
returns-then-not-self c =
    let none = none_first (frames_of (drop c.self.inside.rest c.self.inside.output.items)) (c.self.invariant.4.none c.if-not-self.true) in
    sym none ∙ ap (λ (w : Waiting). first_data w.queue) c.self.view_is
