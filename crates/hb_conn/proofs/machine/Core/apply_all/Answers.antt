use Rattle.std.proofs.Common.{ℕ, true, false, ◌∙◌, subst}
use Rattle.hb_frames.specs.Refusals.{settings}
use Rattle.hb_conn.specs.Settings.{Applies, AppliesAll}
use Rattle.hb_conn.specs.Sizes.{sized}
use Rattle.hb_conn.proofs.Setting.{first, first_applied, first_unfit}
use Rattle.hb_conn.proofs.machine.Core.apply_all.Goals as goal

pub returns-in-None-clause-after : goal.returns-in-None-clause-after
returns-in-None-clause-after c =
    let l = c.loop-left in
    let before = sized l.self l.sizes.pending in
    let one : Applies before (first l.left.now) c.apply.new.self false =
    subst (λ (s : ℕ × ℕ). Applies before s c.apply.new.self false) c.first_setting.ensures c.in-None.ensures.after in
    l.invariant.later c.apply.new.self _ (first_unfit before c.apply.new.self l.left.now c.loop-left-test.true one)

pub loop-left-preserved : goal.loop-left-preserved
loop-left-preserved c = record {
  out = c.apply.ensures.out ∙ c.loop-left.invariant.out;
  known = c.in-Some.ensures.after.1;
  later = λ new fits all.
      let l = c.loop-left in
      let before = sized l.self l.sizes.pending in
      let behind = sized c.apply.new.self c.in-Some.next.pending in
      let one : Applies before (first l.left.now) behind true =
      subst (λ (s : ℕ × ℕ). Applies before s behind true) c.first_setting.ensures c.in-Some.ensures.after.0 in
      l.invariant.later new fits
      (first_applied before behind new l.left.now fits c.loop-left-test.true one
      (subst (λ s. AppliesAll behind (settings s) new fits) c.split_at.ensures.back all));
}
