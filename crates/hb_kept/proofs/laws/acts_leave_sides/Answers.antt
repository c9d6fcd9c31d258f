use Rattle.hb_kept.proofs.Sides.{write_leaves_all, put_leaves_all, use_leaves_all, answer_ends_side, end_ends_side, reset_ends_both}
use Rattle.hb_kept.proofs.laws.acts_leave_sides.Goals as goal

pub returns : goal.returns
returns c = record {
  writes = write_leaves_all;
  puts = put_leaves_all;
  uses = use_leaves_all;
  answers = answer_ends_side;
  ends = end_ends_side;
  resets = reset_ends_both;
}
