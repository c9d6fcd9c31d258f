use Rattle.std.proofs.Common.{refl, arith}
use Rattle.hb_cli.specs.Input.{left_by}
use Rattle.hb_cli.proofs.Inputs.{some_left, none_left_over, shorter, goes_on, ends, is_done}
use Rattle.hb_cli.proofs.input.read_input.Goals as goal

pub loop-bytes-init : goal.loop-bytes-init
unfolding left_by
loop-bytes-init c = record {
  within = omega arith;
  same = rw (c.new.ensures, c.none.ensures, c.new-2.ensures.items) refl;
}

pub returns-in-Err : goal.returns-in-Err
returns-in-Err c =
    rw c.numbered.ensures (ends c.args.tells c.loop-bytes.number c.loop-bytes.left c.loop-bytes.bytes.now c.in-Err.why _
    (some_left _ c.loop-bytes-test.ensures) c.in-Err.ensures.told c.loop-bytes.invariant.same)

pub loop-bytes-preserved : goal.loop-bytes-preserved
loop-bytes-preserved c =
    let told = c.in-Ok.ensures.told in
    let i = c.loop-bytes.invariant in
    let less = shorter c.args.tells c.loop-bytes.left c.take_front.new.self c.loop-bytes.bytes.now c.in-Ok.taken told in
    let is = c.behind-bytes.ensures in
    record {
      within = rw is (omega (arith, less, i.within));
      same = rw is (goes_on c.args.tells c.loop-bytes.number c.loop-bytes.left c.take_front.new.self c.loop-bytes.bytes.now
          c.in-Ok.taken _ told
          i.same);
    }

pub returns : goal.returns
returns c = is_done c.args.tells c.loop-bytes.number c.loop-bytes.left c.loop-bytes.bytes.now _ (none_left_over _ c.loop-bytes-test.ensures)
    c.loop-bytes.invariant.same
