use Rattle.std.proofs.Common.{ap, ap₂, ◌∙◌}
use Rattle.clap.specs.Simple.{App, with_subcommand}
use Rattle.hb_options.proofs.Building.{command_added}
use Rattle.hb_options.proofs.program.program.Goals as goal

pub loop-declared-preserved : goal.loop-declared-preserved
loop-declared-preserved c =
    c.in_ok-made.ensures.shape c.in_ok-command.ensures.own
    ∙ ap₂ with_subcommand c.loop-declared.invariant (ap (λ (a : App). a.top) c.in_ok-command.ensures.built)
    ∙ command_added c.args.name.now c.args.commands.now c.loop-declared.declared-index _ c.loop-declared-test.true
