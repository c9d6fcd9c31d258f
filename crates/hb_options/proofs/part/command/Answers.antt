use Rattle.std.proofs.Common.{◌||◌, Bool, ap₂, ◌∙◌}
use Rattle.clap.specs.Simple.{with_rule}
use Rattle.hb_options.proofs.Building.{part_added}
use Rattle.hb_options.proofs.part.command.Goals as goal

pub loop-part-preserved : goal.loop-part-preserved
loop-part-preserved c = record {
  built = c.in_ok-made.ensures.shape c.arg.ensures.own ∙ ap₂ with_rule c.loop-part.invariant.built c.arg.ensures.rule
      ∙ part_added c.args.declared.name.now c.args.declared.parts.now c.loop-part.part-index _ c.loop-part-test.true;
  own = c.in_ok-made.ensures.globals ∙ ap₂ (λ (a b : Bool). a || b) c.loop-part.invariant.own c.arg.ensures.own;
}
