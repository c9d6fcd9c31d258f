use Rattle.hb_relay.proofs.Refused.{lives_early, drops_bytes, goes_on_done, notes_later, fails_later}
use Rattle.hb_relay.proofs.laws.other_links_are_not_shown.Goals as goal

pub returns : goal.returns
returns c = record { early = lives_early; drops = drops_bytes; done = goes_on_done; notes = notes_later; fails = fails_later }
