use Rattle.std.proofs.Common.{◌≡◌, ℕ, take, drop}
use Rattle.std.specs.List.{fold}
use Rattle.hb_world.specs.LinkStates.{state_at, is_named}
use Rattle.hb_world.specs.Script.{link_with, pieces_on}
use Rattle.hb_world.proofs.turn.turn_to_links.Given as goal

abbrev pub invariant-loop-i : goal.invariant-loop-i
invariant-loop-i l = record {
  states : (k : ℕ) → state_at l.links k ≡ record {
    said = fold (link_with k) (state_at l.initial.links k).said (take l.i l.lines);
    coming = pieces_on k (drop l.i l.lines);
  };
  names : (k : ℕ) → is_named l.links k ≡ is_named l.initial.links k;
}
