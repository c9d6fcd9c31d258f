use Rattle.std.proofs.Common.{ap, ◌∙◌}
use Rattle.hb_counted.specs.declared.counts.Counts.{Counts}
use Rattle.hb_link.proofs.Loads.{counted_places, has_load, all_places}
use Rattle.hb_link.proofs.link.Link.load.Goals as goal

pub returns-clause-value : goal.returns-clause-value
returns-clause-value c =
    let k = c.args.self.now in
    all_places k c.counts.result.places (ap (λ (c : Counts). c.places) c.counts.ensures.value ∙ counted_places k.tunnels)

pub returns-clause-machine : goal.returns-clause-machine
returns-clause-machine c = λ x shows.
    let k = c.args.self.now in
    has_load k x shows c.counts.result.places c.counts.ensures.numbers
    (ap (λ (c : Counts). c.places) c.counts.ensures.value ∙ counted_places k.tunnels)
