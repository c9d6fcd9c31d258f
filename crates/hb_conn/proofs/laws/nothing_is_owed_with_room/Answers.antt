use Rattle.hb_conn.proofs.Keeping.{frames_keep_up, statuses_keep_up, ends_keep_up, credit_keeps_up, opening_keeps_up, writes_catch_up, resets_catch_up}
use Rattle.hb_conn.proofs.laws.nothing_is_owed_with_room.Goals as goal

pub returns : goal.returns
returns c = record {
  frames = frames_keep_up;
  statuses = statuses_keep_up;
  ends = ends_keep_up;
  credit = credit_keeps_up;
  opening = opening_keeps_up;
  writes = writes_catch_up;
  resets = resets_catch_up;
}
