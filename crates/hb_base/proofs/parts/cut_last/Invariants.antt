use Rattle.std.proofs.Common.{◌≡◌, ◌+◌, ◌≤◌, nat_eq, length, take, not}
use Rattle.std.specs.List.{suffix_len}
use Rattle.hb_base.proofs.parts.cut_last.Given as goal

-- what stands from `end` on has no separator
abbrev pub invariant-loop-end : goal.invariant-loop-end
invariant-loop-end l = record {
  within : l.end ≤ length l.text;
  none_after : l.end + suffix_len (λ b. not (nat_eq b l.separator)) l.text
      ≡ length l.text + suffix_len (λ b. not (nat_eq b l.separator)) (take l.end l.text);
}

abbrev pub decreases-loop-end : goal.decreases-loop-end
decreases-loop-end l = l.end
