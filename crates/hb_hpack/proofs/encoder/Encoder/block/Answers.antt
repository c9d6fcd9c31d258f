use Rattle.std.specs.List.{flat_map}
use Rattle.std.proofs.lemmas.Result.{on_ok_weaker, on_err_weaker}
use Rattle.hb_hpack.specs.Encoding.{block_of, opening, header_of}
use Rattle.hb_hpack.proofs.Appending.{ok_then, err_then}
use Rattle.hb_hpack.proofs.Encoded.{block_is_read}
use Rattle.hb_hpack.proofs.encoder.Encoder.block.Goals as goal

pub returns-in_err-put_opening-clause-read : goal.returns-in_err-put_opening-clause-read
returns-in_err-put_opening-clause-read c table can may = block_is_read c.args.self.now c.args.headers.now table can may

pub returns-clause-read : goal.returns-clause-read
returns-clause-read c table can may = block_is_read c.args.self.now c.args.headers.now table can may

pub returns-clause-ok : goal.returns-clause-ok
unfolding block_of
returns-clause-ok c =
    let headers = rw c.as_slice.ensures at c.put_headers.ensures.ok in
    rw (← c.self.view_is)
    (on_ok_weaker c.put_headers.result
    (λ h. ok_then c.args.out.now.items c.put_opening.new.out.items c.put_headers.new.out.items (opening c.self.inside.started)
    (flat_map (header_of c.self.inside.spelling) c.args.headers.now)
    c.in_ok-put_opening.ensures.ok h) headers)

pub returns-clause-err : goal.returns-clause-err
unfolding block_of
returns-clause-err c =
    let headers = rw c.as_slice.ensures at c.put_headers.ensures.err in
    rw (← c.self.view_is)
    (on_err_weaker c.put_headers.result
    (λ h. err_then c.args.out.now.items c.put_opening.new.out.items c.put_headers.new.out.items (opening c.self.inside.started)
    (flat_map (header_of c.self.inside.spelling) c.args.headers.now)
    c.in_ok-put_opening.ensures.ok h) headers)
