use Rattle.std.proofs.Common.{◌∙◌, ◌++◌, sym, ap, List}
use Rattle.std.specs.List.{flat_map}
use Rattle.std.proofs.lemmas.List.{append-nil, take_all}
use Rattle.std.proofs.lemmas.Result.{err_from_is_err_and}
use Rattle.hb_hpack.specs.declared.header.Header.{Header}
use Rattle.hb_hpack.specs.Encoding.{header_of}
use Rattle.hb_hpack.proofs.Appending.{err_at, ok_at}
use Rattle.hb_hpack.proofs.Writing.{longer_more, longer_same}
use Rattle.hb_hpack.proofs.encoder.put_headers.Goals as goal

pub returns-in_err-put_header-clause-err : goal.returns-in_err-put_header-clause-err
returns-in_err-put_header-clause-err c =
    let p = err_from_is_err_and c.from_residual.result c.from_residual.ensures.1 in
    rw p.1 (err_at (header_of c.args.spelling) c.args.out.now.items c.loop-h.out.items c.put_header.new.out.items c.args.headers.now
    c.loop-h.h-index c.h-item.result c.loop-h-test.true c.h-item.is
    c.loop-h.invariant.written c.in_err-put_header.ensures.err)

pub loop-h-init : goal.loop-h-init
loop-h-init c = record { written = sym (append-nil c.args.out.now.items); grown = longer_same c.args.out.now.items }

pub loop-h-preserved : goal.loop-h-preserved
loop-h-preserved c = record {
  written = ok_at (header_of c.args.spelling) c.args.out.now.items c.loop-h.out.items c.put_header.new.out.items c.args.headers.now
      c.loop-h.h-index c.h-item.result c.loop-h-test.true c.h-item.is c.loop-h.invariant.written c.in_ok-put_header.ensures.ok;
  grown = longer_more _ _ _ c.loop-h.invariant.grown c.put_header.ensures.grows;
}

pub returns-in_err-put_header-clause-grows : goal.returns-in_err-put_header-clause-grows
returns-in_err-put_header-clause-grows c = longer_more _ _ _ c.loop-h.invariant.grown c.put_header.ensures.grows

pub returns-clause-ok : goal.returns-clause-ok
returns-clause-ok c =
    let whole = take_all c.loop-h.h-index c.args.headers.now c.loop-h-test.false in
    c.loop-h.invariant.written ∙ ap (λ (hs : List Header). c.args.out.now.items ++ flat_map (header_of c.args.spelling) hs) whole
