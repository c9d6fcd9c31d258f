use Rattle.std.proofs.Common.{◌≡◌}
use Rattle.hb_streams_rows.proofs.moves.play_letter.Given as goal

-- no move changes the role
abbrev pub invariant-loop : goal.invariant-loop
invariant-loop g l = l.streams.role ≡ l.fn.streams.role
