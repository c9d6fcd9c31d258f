use Rattle.std.proofs.Common.{◌≡◌, ◌+◌, ◌-◌, ◌≤◌, nat_eq, length, drop, not}
use Rattle.std.specs.List.{prefix_len}
use Rattle.hb_base.proofs.parts.cut_first.Given as goal

-- what stands before `at` has no separator
abbrev pub invariant-loop-at : goal.invariant-loop-at
invariant-loop-at l = record {
  within : l.at ≤ length l.text;
  none_before : prefix_len (λ b. not (nat_eq b l.separator)) l.text
      ≡ l.at + prefix_len (λ b. not (nat_eq b l.separator)) (drop l.at l.text);
}

abbrev pub decreases-loop-at : goal.decreases-loop-at
decreases-loop-at l = length l.text - l.at
