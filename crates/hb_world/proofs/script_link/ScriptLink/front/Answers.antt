use Rattle.std.proofs.Common.{arith, sym, ◌∙◌, ◌<◌}
use Rattle.hb_world.proofs.PieceLemmas.{front-first, rest-is}
use Rattle.hb_world.proofs.script_link.ScriptLink.front.Goals as goal

pub returns-in-Some : goal.returns-in-Some
returns-in-Some c =
    let i = c.self.inside in
    let some : 0 < i.given = omega (arith, c.if-self-eq0.false) in
    let first = front-first i.offset i.given i.pieces.items c.in-Some.piece.now some c.self.invariant.0 c.in-Some.ensures.lookup in
    rw c.as_slice.ensures (rest-is i.offset c.in-Some.piece.now ∙ rw (← c.self.view_is) (sym first))
