use Rattle.std.proofs.Common.{◌≡◌}
use Rattle.hb_streams_rows.proofs.moves.play_word.Given as goal

-- no move changes the role
abbrev pub invariant-loop-letter : goal.invariant-loop-letter
invariant-loop-letter g l = l.streams.role ≡ l.fn.streams.role
