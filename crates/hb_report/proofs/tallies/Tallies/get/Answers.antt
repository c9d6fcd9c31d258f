use Rattle.std.proofs.Common.{ap, sym, ◌∙◌}
use Rattle.std.specs.FinMap as map
use Rattle.std.specs.Option.{option_copied}
use Rattle.hb_map.proofs.Entries.{get_made}
use Rattle.hb_report.specs.Tallies.{or_nothing}
use Rattle.hb_report.proofs.tallies.Tallies.get.Goals as goal

pub returns-in-Some : goal.returns-in-Some
returns-in-Some c = ap (λ r. or_nothing (option_copied r)) (sym c.in-Some.is)
    ∙ ap or_nothing (c.get.ensures.value ∙ sym (get_made c.self.inside.items.entries c.args.link)
    ∙ ap (λ m. map.get m c.args.link) c.self.view_is)

pub returns-in-None : goal.returns-in-None
returns-in-None c = ap (λ r. or_nothing (option_copied r)) (sym c.in-None.is)
    ∙ ap or_nothing (c.get.ensures.value ∙ sym (get_made c.self.inside.items.entries c.args.link)
    ∙ ap (λ m. map.get m c.args.link) c.self.view_is)
