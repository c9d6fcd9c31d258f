use Rattle.std.proofs.Common.{◌≡◌, ◌+◌, ◌<◌, ◌++◌, [], ◌∷◌, ◌∙◌, sym, ap, arith}
use Rattle.hb_hpack.specs.Table.{total, fitting}
use Rattle.hb_hpack.proofs.Fitting.{total-append, fitting_push, fitting_all}
use Rattle.hb_hpack.proofs.dynamic_table.evict.Goals as goal

pub overflow_sub-size : goal.overflow_sub-size
overflow_sub-size c =
    let split : total c.loop-size.entries.items ≡ total c.pop_back.new.self.items + total (c.in-Some.oldest ∷ []) =
    ap total c.in-Some.ensures.items ∙ total-append c.pop_back.new.self.items (c.in-Some.oldest ∷ []) in
    let sum = c.loop-size.invariant.sum in
    omega (arith, split, sum, c.size-size.ensures)

pub loop-size-preserved : goal.loop-size-preserved
loop-size-preserved c =
    let split : total c.loop-size.entries.items ≡ total c.pop_back.new.self.items + total (c.in-Some.oldest ∷ []) =
    ap total c.in-Some.ensures.items ∙ total-append c.pop_back.new.self.items (c.in-Some.oldest ∷ []) in
    let sum = c.loop-size.invariant.sum in
    let over : c.args.limit < total (c.pop_back.new.self.items ++ c.in-Some.oldest ∷ []) =
    omega (arith, ap total c.in-Some.ensures.items, sum, c.loop-size-test.true) in
    record {
      sum = omega (arith, split, sum, c.size-size.ensures);
      same = sym (fitting_push c.args.limit c.pop_back.new.self.items c.in-Some.oldest over)
          ∙ ap (fitting c.args.limit) (sym c.in-Some.ensures.items) ∙ c.loop-size.invariant.same;
    }

pub returns-clause-entries : goal.returns-clause-entries
returns-clause-entries c = sym (fitting_all c.args.limit c.loop-size.entries.items (omega (arith, c.loop-size.invariant.sum)))
    ∙ c.loop-size.invariant.same
