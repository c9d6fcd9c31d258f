use Rattle.std.proofs.Common.{[], ◌∷◌, List, ℕ}
use Rattle.std.proofs.lemmas.Result.{err_from_is_err_and}
use Rattle.hb_hpack.specs.Encoding.{integer_of, string_of}
use Rattle.hb_hpack.proofs.Appending.{err_first, err_then}
use Rattle.hb_hpack.proofs.encoder.put_literal.Goals as goal

pub returns-in_err-put_integer-in-Some-clause-err : goal.returns-in_err-put_integer-in-Some-clause-err
returns-in_err-put_integer-in-Some-clause-err c =
    let p = err_from_is_err_and c.from_residual.result c.from_residual.ensures.1 in
    let err = rw c.from.ensures at c.in_err-put_integer-in-Some.ensures.err in
    rw (p.1, ← c.in-Some.ensures)
    (err_first c.args.out.now.items c.put_integer.new.out.items (integer_of 4 0 c.in-Some.index)
    (string_of c.args.spelling c.args.h.now.value) err)

pub returns-in_err-put_string-in-None-clause-err : goal.returns-in_err-put_string-in-None-clause-err
returns-in_err-put_string-in-None-clause-err c =
    let p = err_from_is_err_and c.from_residual-in_err-put_string-in-None.result c.from_residual-in_err-put_string-in-None.ensures.1 in
    let err = rw c.as_slice-in-None.ensures at c.in_err-put_string-in-None.ensures.err in
    let name : List ℕ = string_of c.args.spelling c.args.h.now.name in
    rw (p.1, ← c.in-None.ensures)
    (err_first c.args.out.now.items c.put_string-in-None.new.out.items (0 ∷ name) (string_of c.args.spelling c.args.h.now.value)
    (err_then c.args.out.now.items c.push.new.self.items c.put_string-in-None.new.out.items
    (0 ∷ []) name c.in_ok-push-in-None.ensures.items err))
