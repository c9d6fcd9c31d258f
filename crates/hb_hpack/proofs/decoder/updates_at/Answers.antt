use Rattle.std.proofs.Common.{◌∙◌, sym, refl, arith, length}
use Rattle.std.proofs.lemmas.Result.{err_from_is_err_and}
use Rattle.hb_hpack.proofs.Writing.{octets_of}
use Rattle.hb_hpack.proofs.Blocks.{update_take, update_leaves, no_updates, updates_step, updates_stop}
use Rattle.hb_hpack.proofs.decoder.updates_at.Goals as goal

pub loop-rest-init : goal.loop-rest-init
loop-rest-init c = record { octets = octets_of c.args.bytes.now (λ i. omega (arith, c.type_inv.bytes i)); same = refl }

pub returns-in_err-maximum : goal.returns-in_err-maximum
returns-in_err-maximum c =
    let p = err_from_is_err_and c.from_residual.result c.from_residual.ensures.1 in
    rw (p.1, p.2) (updates_stop c.loop-rest.table c.loop-rest.rest.now _ _ (sym c.is_update.ensures
    ∙ c.loop-rest-test.true) c.in_err-maximum.ensures c.loop-rest.invariant.same)

pub resize-requires : goal.resize-requires
resize-requires c =
    let t = update_take c.loop-rest.rest.now c.in_ok-maximum.maximum c.in_ok-maximum.after.now c.loop-rest.invariant.octets
    (sym c.is_update.ensures ∙ c.loop-rest-test.true) c.in_ok-maximum.ensures in
    t.small

pub loop-rest-smaller : goal.loop-rest-smaller
loop-rest-smaller c =
    let t = update_take c.loop-rest.rest.now c.in_ok-maximum.maximum c.in_ok-maximum.after.now c.loop-rest.invariant.octets
    (sym c.is_update.ensures ∙ c.loop-rest-test.true) c.in_ok-maximum.ensures in
    (update_leaves c.loop-rest.rest.now c.in_ok-maximum.maximum c.in_ok-maximum.after.now t c.loop-rest.invariant.octets).1

pub loop-rest-preserved : goal.loop-rest-preserved
loop-rest-preserved c =
    let t = update_take c.loop-rest.rest.now c.in_ok-maximum.maximum c.in_ok-maximum.after.now c.loop-rest.invariant.octets
    (sym c.is_update.ensures ∙ c.loop-rest-test.true) c.in_ok-maximum.ensures in
    record {
      octets = (update_leaves c.loop-rest.rest.now c.in_ok-maximum.maximum c.in_ok-maximum.after.now t c.loop-rest.invariant.octets).0;
      same = rw c.resize.ensures
          (updates_step c.loop-rest.table c.loop-rest.rest.now c.in_ok-maximum.maximum c.in_ok-maximum.after.now _ t
          c.loop-rest.invariant.octets
          (sym c.is_update.ensures ∙ c.loop-rest-test.true) c.in_ok-maximum.ensures c.loop-rest.invariant.same);
    }

pub returns : goal.returns
returns c = sym c.loop-rest.invariant.same
    ∙ no_updates (length c.loop-rest.rest.now) c.loop-rest.table c.loop-rest.rest.now (sym c.is_update.ensures ∙ c.loop-rest-test.false)
