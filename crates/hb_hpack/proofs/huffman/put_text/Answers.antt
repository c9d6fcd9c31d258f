use Rattle.std.proofs.Common.{◌+◌, ◌∙◌, refl, sym, ap, subst, List, ℕ, [], ◌++◌, drop}
use Rattle.std.specs.List.{flat_map}
use Rattle.std.proofs.lemmas.List.{drop_more, drop_all}
use Rattle.std.proofs.lemmas.Result.{err_from_is_err_and, on_ok_weaker, on_err_weaker}
use Rattle.hb_hpack.specs.Huffman.{word}
use Rattle.hb_hpack.specs.Fronts.{IsFrontOf}
use Rattle.hb_hpack.specs.HuffmanSteps.{bytes_from}
use Rattle.hb_hpack.specs.Partial.{written_on}
use Rattle.hb_hpack.proofs.Writing.{longer_more, longer_same, longer_if}
use Rattle.hb_hpack.proofs.huffman.put_text.Goals as goal

pub returns-in_err-at-clause-err : goal.returns-in_err-at-clause-err
returns-in_err-at-clause-err c =
    let p = err_from_is_err_and c.from_residual.result c.from_residual.ensures.1 in
    let more = drop_more c.args.b.now c.loop-symbol.symbol-index 0 c.loop-symbol-test.true in
    let whole = ap (λ (xs : List ℕ). written_on c.loop-symbol.out.items c.loop-symbol.at (flat_map word xs)) (sym more)
    ∙ c.loop-symbol.invariant.written in
    rw p.1 (subst (λ (xs : List ℕ). IsFrontOf c.put_word.new.out.items xs) whole
    (c.in_err-at.ensures.err (flat_map word (drop (c.loop-symbol.symbol-index + 1) c.args.b.now))))

pub loop-symbol-init : goal.loop-symbol-init
loop-symbol-init c = record {
  written = rw (c.new-at.ensures.byte, c.new-at.ensures.count) refl;
  grown = longer_same c.args.out.now.items;
}

pub loop-symbol-preserved : goal.loop-symbol-preserved
loop-symbol-preserved c =
    let more = drop_more c.args.b.now c.loop-symbol.symbol-index 0 c.loop-symbol-test.true in
    record {
      written = c.in_ok-at.ensures.written (flat_map word (drop (c.loop-symbol.symbol-index + 1) c.args.b.now))
          ∙ ap (λ (xs : List ℕ). written_on c.loop-symbol.out.items c.loop-symbol.at (flat_map word xs)) (sym more)
          ∙ c.loop-symbol.invariant.written;
      grown = longer_more _ _ _ c.loop-symbol.invariant.grown c.put_word.ensures.grows;
    }

pub returns-in_err-at-clause-grows : goal.returns-in_err-at-clause-grows
returns-in_err-at-clause-grows c = longer_more _ _ _ c.loop-symbol.invariant.grown c.put_word.ensures.grows

pub returns-clause-ok : goal.returns-clause-ok
returns-clause-ok c =
    let none = drop_all c.loop-symbol.symbol-index c.args.b.now c.loop-symbol-test.false in
    on_ok_weaker c.finish.result (λ e. e
    ∙ ap (λ (xs : List ℕ). written_on c.loop-symbol.out.items c.loop-symbol.at (flat_map word xs)) (sym none)
    ∙ c.loop-symbol.invariant.written) c.finish.ensures.ok

pub returns-clause-err : goal.returns-clause-err
returns-clause-err c =
    let none = drop_all c.loop-symbol.symbol-index c.args.b.now c.loop-symbol-test.false in
    let rest : List ℕ = bytes_from c.loop-symbol.at.byte c.loop-symbol.at.count [] in
    on_err_weaker c.finish.result (λ e. (
      rest,
      sym c.loop-symbol.invariant.written
          ∙ ap (λ (xs : List ℕ). written_on c.loop-symbol.out.items c.loop-symbol.at (flat_map word xs)) none
          ∙ ap (λ (xs : List ℕ). xs ++ rest) (sym e),
    )) c.finish.ensures.err

pub returns-clause-grows : goal.returns-clause-grows
returns-clause-grows c =
    longer_if c.finish.result c.args.out.now.items c.loop-symbol.out.items c.finish.new.out.items
    (bytes_from c.loop-symbol.at.byte c.loop-symbol.at.count []) c.loop-symbol.invariant.grown c.finish.ensures.ok c.finish.ensures.err
