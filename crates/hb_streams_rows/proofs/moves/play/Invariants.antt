use Rattle.std.proofs.Common.{◌≡◌}
use Rattle.hb_streams_rows.proofs.moves.play.Given as goal

-- no move changes the role
abbrev pub invariant-loop-word : goal.invariant-loop-word
invariant-loop-word g l = l.streams.role ≡ l.initial.streams.role
