-- What a response that is applied makes of the inbound links and of the plain ones.
use Rattle.hb_held.specs.Held.{Resources}
use Rattle.hb_links.specs.Calls as links
use Rattle.hb_links.specs.Load.{Recounts}
use Rattle.hb_links.specs.Stirring as links_stirring
use Rattle.hb_relays.specs.Calls as relays
use Rattle.hb_relays.specs.Stirring as relays_stirring
use Rattle.hb_whole.specs.Queue.{told}
use Rattle.hb_whole.specs.declared.queue.Queue.{Queue}
use Rattle.hb_whole.specs.declared.side.Side.{Side}

-- The inbound links judge first, then the plain ones: each tunnel and each link that is no longer admitted ends, and each link
-- may have stirred
pub record Judges (before : Side) (held : Resources) (after : Side) : Type 0 where
  -- the notes in between
  pub between : Queue
  pub links : links.Updates held before.links (told before.notes) after.links (told between)
  pub relays : relays.Updates held before.relays (told between) after.relays (told after.notes)
  pub counts : Recounts before.links after.links
  pub links_stir : links_stirring.Stirs before.links after.links
  pub relays_stir : relays_stirring.Stirs before.relays after.relays
