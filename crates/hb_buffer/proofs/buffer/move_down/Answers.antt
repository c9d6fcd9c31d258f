use Rattle.std.proofs.Common.{◌≡◌, ◌+◌, ◌-◌, ◌≤◌, length, take, drop, arith, ap, sym, ◌∙◌}
use Rattle.hb_buffer.proofs.Cutting.{behind_part, part_length, part_moved}
use Rattle.hb_buffer.proofs.buffer.move_down.Goals as goal

pub loop-at-preserved : goal.loop-at-preserved
loop-at-preserved c =
    let old = c.args.bytes.now in
    let now = c.loop-at.bytes in
    let from = c.args.from in
    let at = c.loop-at.at in
    let stood = c.loop-at.invariant in
    let within : at + from + from ≤ length now = omega (arith, c.loop-at-test.true, c.requires.in_bounds, stood.length) in
    record {
      within = omega (arith, c.loop-at-test.true);
      length = ap length c.move_part.ensures ∙ part_length now at from from within ∙ stood.length;
      moved = ap (take (at + from)) c.move_part.ensures ∙ part_moved old now from at from within stood.moved stood.behind;
      behind = ap (drop (at + from)) c.move_part.ensures ∙ behind_part old now from at from within stood.behind;
    }

pub returns-clause-value : goal.returns-clause-value
returns-clause-value c =
    let old = c.args.bytes.now in
    let now = c.loop-at.bytes in
    let from = c.args.from in
    let at = c.loop-at.at in
    let stood = c.loop-at.invariant in
    let k = c.args.n - at in
    let within : at + from + k ≤ length now = omega (arith, stood.within, c.requires.in_bounds, stood.length) in
    let whole : c.args.n ≡ at + k = omega (arith, stood.within) in
    ap (λ m. take m c.move_part-2.new.bytes) whole ∙ ap (take (at + k)) c.move_part-2.ensures
    ∙ part_moved old now from at k within stood.moved stood.behind ∙ ap (λ m. take m (drop from old)) (sym whole)
