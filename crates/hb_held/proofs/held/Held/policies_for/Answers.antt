use Rattle.std.proofs.Common.{ap, ◌∙◌}
use Rattle.hb_held.specs.Held.{Resources}
use Rattle.hb_held.specs.Policies.{policies_for}
use Rattle.hb_held.proofs.Asked.{all_for}
use Rattle.hb_held.proofs.held.Held.policies_for.Goals as goal

pub returns : goal.returns
returns c =
    all_for c.args.workload.now c.self.inside.policies.now ∙ ap (λ (s : Resources). policies_for s c.args.workload.now) c.self.view_is
