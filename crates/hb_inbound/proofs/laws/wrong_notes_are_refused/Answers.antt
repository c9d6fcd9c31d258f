use Rattle.hb_inbound.proofs.NotesRefused.{notes_unasked, notes_other, notes_elsewhere, ends_unaccepted, ends_alive, ends_twice, counts_none_up, counts_none_down, reads_unnoted, closes_unnoted, ends_unnoted, leaves_standing, notes_both}
use Rattle.hb_inbound.proofs.laws.wrong_notes_are_refused.Goals as goal

pub returns : goal.returns
returns c = record {
  unasked = notes_unasked;
  other = notes_other;
  elsewhere = notes_elsewhere;
  unaccepted = ends_unaccepted;
  alive = ends_alive;
  twice = ends_twice;
  up = counts_none_up;
  down = counts_none_down;
  reads = reads_unnoted;
  closes = closes_unnoted;
  unnoted = ends_unnoted;
  standing = leaves_standing;
  both = notes_both;
}
