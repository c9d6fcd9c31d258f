use Rattle.hb_laws.proofs.ByOneLaw.{dials_relay_twice, relays_unheld, relays_uncome, changes_forth, relays_back_uncome, changes_back}
use Rattle.hb_laws.proofs.laws.plain_links_are_refused_by_one_law.Goals as goal

pub returns : goal.returns
returns c = record {
  twice = dials_relay_twice;
  unheld = relays_unheld;
  uncome = relays_uncome;
  changes_forth = changes_forth;
  back_uncome = relays_back_uncome;
  changes = changes_back;
}
