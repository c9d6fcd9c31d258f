use Rattle.std.proofs.Common.{◌≡◌, None}
use Rattle.hb_links.specs.Load.{Recounts}
use Rattle.hb_links.specs.Stirring.{Stirs}
use Rattle.hb_links.specs.Walks.{KeepsShowing}
use Rattle.hb_links.proofs.Sweeping.{left_from}
use Rattle.hb_links.proofs.links.Links.walk.Given as goal

-- the links that were shown are shown still
abbrev pub invariant-loop-number : goal.invariant-loop-number
invariant-loop-number l = KeepsShowing l.initial.self l.self × (l.self.busy ≡ None) × Stirs l.initial.self l.self × Recounts l.initial.self l.self

abbrev pub decreases-loop-number : goal.decreases-loop-number
decreases-loop-number l = left_from l.self.from
