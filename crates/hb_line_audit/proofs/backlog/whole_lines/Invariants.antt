use Rattle.std.proofs.Common.{◌≡◌, ◌+◌, ◌≤◌, nat_eq, length, take, not}
use Rattle.std.specs.List.{suffix_len}
use Rattle.hb_line_audit.proofs.backlog.whole_lines.Given as goal

-- what stands from `end` on has no newline
abbrev pub invariant-loop-end : goal.invariant-loop-end
invariant-loop-end l = record {
  within : l.end ≤ length l.bytes;
  none_after : l.end + suffix_len (λ b. not (nat_eq b 10)) l.bytes
      ≡ length l.bytes + suffix_len (λ b. not (nat_eq b 10)) (take l.end l.bytes);
}

abbrev pub decreases-loop-end : goal.decreases-loop-end
decreases-loop-end l = l.end
