use Rattle.std.proofs.Common.{ap, ◌∙◌}
use Rattle.std.specs.FinMap as map
use Rattle.hb_map.proofs.Entries.{made_with}
use Rattle.hb_report.proofs.tallies.Tallies.put.Goals as goal

pub returns : goal.returns
returns c = record {
  ok = made_with c.self.inside.items.entries c.insert.new.self.entries c.args.link c.args.tally c.in_ok-insert.ensures.updates.0
      ∙ ap (λ m. map.insert m c.args.link c.args.tally) c.self.view_is;
}
