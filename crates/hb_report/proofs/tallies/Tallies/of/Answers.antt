use Rattle.std.proofs.Common.{ap, ◌∙◌}
use Rattle.hb_report.specs.Tallies.{tally_after}
use Rattle.hb_report.proofs.Changed.{nothing_in}
use Rattle.hb_report.proofs.TallyLemmas.{tally-next}
use Rattle.hb_report.proofs.tallies.Tallies.of.Goals as goal

pub loop-entry-init : goal.loop-entry-init
loop-entry-init c = λ link. nothing_in c.new-tallies.result link c.new-tallies.ensures

pub loop-entry-preserved : goal.loop-entry-preserved
loop-entry-preserved c = λ link.
    tally-next link c.args.trace.now c.loop-entry.entry-index c.entry-item.result _ c.loop-entry-test.true c.entry-item.is
    (c.in_ok-add.ensures link ∙ ap (λ t. tally_after link t c.entry-item.result) (c.loop-entry.invariant link))
