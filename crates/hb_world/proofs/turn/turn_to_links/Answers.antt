use Rattle.std.proofs.Common.{◌≡◌, ℕ, ◌+◌, cond, List, [], ◌++◌, drop, get_or, arith, ap, sym, ◌∙◌}
use Rattle.std.proofs.lemmas.List.{drop_more}
use Rattle.std.proofs.lemmas.Bool.{cond-true}
use Rattle.hb_world.specs.LinkState.{LinkState}
use Rattle.hb_world.specs.Script.{is_of, pieces_on, pieces_by}
use Rattle.hb_world.specs.declared.line.Line.{Line}
use Rattle.hb_world.proofs.turn.turn_to_links.Goals as goal

pub apply_to_links-requires-clause-next : goal.apply_to_links-requires-clause-next
apply_to_links-requires-clause-next c = λ l is.
    let lines = c.args.lines.now in
    let line = c.index-lines-i.result in
    let first = drop_more lines c.loop-i.i line (omega (arith, c.requires.count)) in
    let at : get_or lines c.loop-i.i line ≡ line = sym c.index-lines-i.is in (
      pieces_on l (drop (c.loop-i.i + 1) lines),
      ap (λ (k : LinkState). k.coming) (c.loop-i.invariant.states l)
          ∙ ap (λ (ls : List Line). pieces_on l ls) first
          ∙ ap (λ (x : Line). cond (is_of l x) (pieces_by x) [] ++ pieces_on l (drop (c.loop-i.i + 1) lines)) at
          ∙ ap (λ (ps : List (List ℕ)). ps ++ pieces_on l (drop (c.loop-i.i + 1) lines)) (cond-true _ _ _ is),
    )
