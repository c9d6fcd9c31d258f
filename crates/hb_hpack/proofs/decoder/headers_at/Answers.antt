use Rattle.std.proofs.Common.{◌<◌, ◌∙◌, ◌++◌, ◌∷◌, [], sym, arith, length}
use Rattle.std.proofs.lemmas.Result.{err_from_is_err_and}
use Rattle.std.proofs.lemmas.Bool.{eqb-true, eqb-false}
use Rattle.hb_hpack.specs.Reader.{field, field_at, headers_at}
use Rattle.hb_hpack.proofs.Writing.{octets_of}
use Rattle.hb_hpack.proofs.Blocks.{field_leaves, headers_step_on, headers_stop, headers_end, headers_start, list_stops}
use Rattle.hb_hpack.proofs.decoder.headers_at.Goals as goal

pub loop-rest-init : goal.loop-rest-init
loop-rest-init c = record {
  octets = octets_of c.args.bytes.now (λ i. omega (arith, c.type_inv.bytes i));
  headers = [];
  list = c.in_ok-list.ensures;
  same = headers_start (headers_at (length c.args.bytes.now) c.args.table.now c.args.bytes.now);
}

pub returns-in_err-rest : goal.returns-in_err-rest
returns-in_err-rest c =
    let p = err_from_is_err_and c.from_residual-in_err-rest.result c.from_residual-in_err-rest.ensures.1 in
    let ne = eqb-false _ _ (sym c.is_empty.ensures ∙ c.loop-rest-test.true) in
    let some : 0 < length c.loop-rest.rest.now = omega (arith, ne) in
    rw (p.1, p.2) (list_stops c.loop-rest.list c.add_field.new.list c.add_field.new.table c.in_err-rest.field-0.0
    (field_at c.loop-rest.table c.loop-rest.rest.now) _ c.in_err-rest.ensures
    (λ s e. headers_stop c.loop-rest.table c.loop-rest.rest.now s c.loop-rest.invariant.headers _ some e c.loop-rest.invariant.same))

pub loop-rest-smaller : goal.loop-rest-smaller
loop-rest-smaller c = let h =
    c.in_ok-rest.ensures in
    (field_leaves c.loop-rest.table c.loop-rest.rest.now
    (field h.0 c.add_field.new.table c.in_ok-rest.rest.now) c.loop-rest.invariant.octets h.1).1

pub loop-rest-preserved : goal.loop-rest-preserved
loop-rest-preserved c =
    let ne = eqb-false _ _ (sym c.is_empty.ensures ∙ c.loop-rest-test.true) in
    let some : 0 < length c.loop-rest.rest.now = omega (arith, ne) in
    let h = c.in_ok-rest.ensures in
    record {
      octets = (field_leaves c.loop-rest.table c.loop-rest.rest.now
          (field h.0 c.add_field.new.table c.in_ok-rest.rest.now) c.loop-rest.invariant.octets h.1).0;
      headers = c.loop-rest.invariant.headers ++ h.0 ∷ [];
      list = h.2 c.loop-rest.invariant.headers c.loop-rest.invariant.list;
      same = headers_step_on c.loop-rest.table c.loop-rest.rest.now
          (field h.0 c.add_field.new.table c.in_ok-rest.rest.now) c.loop-rest.invariant.headers _ some
          c.loop-rest.invariant.octets h.1 c.loop-rest.invariant.same;
    }

pub returns : goal.returns
returns c =
    let none = eqb-true _ _ (sym c.is_empty.ensures ∙ c.loop-rest-test.false) in (
      c.loop-rest.invariant.headers,
      headers_end c.loop-rest.table c.loop-rest.rest.now c.loop-rest.invariant.headers _ none
          c.loop-rest.invariant.same,
      c.loop-rest.invariant.list,
    )
