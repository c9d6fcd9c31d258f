use Rattle.std.proofs.Common.{◌≡◌, ◌-◌, arith, sym, ap, subst, ◌∙◌, length, ℕ}
use Rattle.hb_hpack.specs.declared.fault.Stop.{Stop}
use Rattle.hb_hpack.specs.Outcome.{stop}
use Rattle.hb_hpack.specs.Breaks.{BreaksAt}
use Rattle.hb_hpack.proofs.Writing.{octets_of}
use Rattle.hb_hpack.proofs.Blocks.{block_take, block_again, block_read_as}
use Rattle.hb_hpack.proofs.Outcomes.{no_value, fault_is}
use Rattle.hb_hpack.proofs.Broken.{block_broken}
use Rattle.hb_hpack.proofs.Refused.{block_refused}
use Rattle.hb_hpack.proofs.decoder.Decoder.block.Goals as goal

pub returns-in-Ok : goal.returns-in-Ok
returns-in-Ok c =
    let given = c.in-Ok.ensures in
    record {
      read = (
        given.0,
        block_take c.args.self.now c.args.b.now given.0 c.read.new.self
            (octets_of c.args.b.now (λ i. omega (arith, c.type_inv.b i))) given.1,
        given.2,
      );
      only = λ headers next reads. block_read_as c.args.self.now next c.read.new.self c.args.b.now c.in-Ok.list headers given reads;
      broken = tt;
      refused = λ at why breaks.
          let r = block_refused c.args.self.now c.args.b.now at why breaks in
          no_value (stop r.0 why) (given.0, c.read.new.self) (sym r.2 ∙ given.1);
    }

pub returns-in-Err-Fault-clause-only : goal.returns-in-Err-Fault-clause-only
returns-in-Err-Fault-clause-only c headers next reads =
    let given = rw c.in-Err-Fault.field-0-is at c.in-Err-Fault.ensures in
    no_value c.in-Err-Fault.stop (headers, next) (sym given ∙ block_again c.args.self.now c.args.b.now headers next reads)

pub overflow_sub-result : goal.overflow_sub-result
overflow_sub-result c =
    let given = rw c.in-Err-Fault.field-0-is at c.in-Err-Fault.ensures in
    let broken = block_broken c.args.self.now c.args.b.now c.in-Err-Fault.stop
    (octets_of c.args.b.now (λ i. omega (arith, c.type_inv.b i))) given in
    omega (arith, broken.1)

pub returns-in-Err-Fault-clause-broken : goal.returns-in-Err-Fault-clause-broken
returns-in-Err-Fault-clause-broken c =
    let given = rw c.in-Err-Fault.field-0-is at c.in-Err-Fault.ensures in
    let broken = block_broken c.args.self.now c.args.b.now c.in-Err-Fault.stop
    (octets_of c.args.b.now (λ i. omega (arith, c.type_inv.b i))) given in
    let place : broken.0 ≡ length c.args.b.now - c.in-Err-Fault.stop.left = omega (arith, broken.1) in
    subst (λ (at : ℕ). BreaksAt c.args.self.now c.args.b.now at c.in-Err-Fault.stop.why) place broken.2

pub returns-in-Err-Fault-clause-refused : goal.returns-in-Err-Fault-clause-refused
returns-in-Err-Fault-clause-refused c at why breaks =
    let given = rw c.in-Err-Fault.field-0-is at c.in-Err-Fault.ensures in
    let r = block_refused c.args.self.now c.args.b.now at why breaks in
    let same : c.in-Err-Fault.stop ≡ stop r.0 why = fault_is c.in-Err-Fault.stop (stop r.0 why) (sym given ∙ r.2) in
    let left : c.in-Err-Fault.stop.left ≡ r.0 = ap (λ (s : Stop). s.left) same in
    (omega (arith, r.1, left), ap (λ (s : Stop). s.why) same)
