use Rattle.std.proofs.Common.{◌≡◌, ℕ, take}
use Rattle.std.specs.List.{list_any}
use Rattle.hb_world.specs.LinkStates.{state_at, is_named}
use Rattle.hb_world.specs.Script.{blank, is_of, pieces_on}
use Rattle.hb_world.proofs.links.links_of.Given as goal

abbrev pub invariant-loop-line : goal.invariant-loop-line
invariant-loop-line l = record {
  states : (k : ℕ) → state_at l.links k ≡ record { said = blank; coming = pieces_on k (take l.line-index l.lines) };
  names : (k : ℕ) → is_named l.links k ≡ list_any (is_of k) (take l.line-index l.lines);
}
