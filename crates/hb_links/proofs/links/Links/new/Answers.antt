use Rattle.std.proofs.Common.{rules}
use Rattle.std.specs.FinMap.{get-empty}
use Rattle.hb_links.proofs.Births.{none_shown}
use Rattle.hb_links.proofs.Totals.{none_counted}
use Rattle.hb_links.proofs.links.Links.new.Goals as goal

pub returns-clause-shows : goal.returns-clause-shows
returns-clause-shows c = none_shown _ (λ l. search (get-empty, rules)) (λ u. search (get-empty, rules))

pub returns-clause-counted : goal.returns-clause-counted
returns-clause-counted c = none_counted _ (λ l. search (get-empty, rules))
