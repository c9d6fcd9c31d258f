use Rattle.std.proofs.Common.{ap, ◌∙◌}
use Rattle.std.specs.Prelude.{nat_le}
use Rattle.hb_link.proofs.Asked.{same_places}
use Rattle.hb_link.proofs.link.Link.is_full.Goals as goal

pub returns : goal.returns
returns c = λ x tunnels. let load = c.load.ensures.machine x tunnels in (
  c.load.result,
  load,
  ap (λ i. nat_le i c.load.result) c.saturating_sub.ensures
      ∙ same_places x c.args.others c.args.limit c.load.result c.load.result load load,
)
