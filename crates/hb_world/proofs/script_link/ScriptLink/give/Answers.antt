use Rattle.std.proofs.Common.{arith, length, drop, sym, subst, ◌≡◌, ◌<◌, ◌+◌, [], ◌∷◌, ◌++◌, take}
use Rattle.std.proofs.lemmas.List.{length-drop}
use Rattle.hb_world.specs.LinkState.{LinkState, behind, front_of}
use Rattle.hb_world.proofs.PieceLemmas.{state, same-state, behind-give, drop-give, IsOffset-give}
use Rattle.hb_world.proofs.script_link.ScriptLink.give.Goals as goal

pub invariant_of-self : goal.invariant_of-self
invariant_of-self c =
    let i = c.self.inside in
    let left : 0 < length (drop i.given i.pieces.items) = subst (λ (v : LinkState). 0 < length v.coming)
    (sym c.self.view_is) c.requires in
    let fits : i.given < length i.pieces.items = omega (arith, left, length-drop i.given i.pieces.items) in
    (omega (arith, fits), c.self.invariant.1, IsOffset-give i.offset i.given i.pieces.items c.self.invariant.2 fits c.self.invariant.1)

pub returns : goal.returns
returns c =
    let i = c.self.inside in
    let left : 0 < length (drop i.given i.pieces.items) = subst (λ (v : LinkState). 0 < length v.coming)
    (sym c.self.view_is) c.requires in
    let fits : i.given < length i.pieces.items = omega (arith, left, length-drop i.given i.pieces.items) in
    let a = behind-give i.offset i.given i.pieces.items c.self.invariant.2 fits in
    let b = drop-give i.given i.pieces.items in
    subst
    (λ (v : LinkState). state i.opening i.ended i.broken i.room (behind i.offset (take (i.given + 1) i.pieces.items))
    (drop (i.given + 1) i.pieces.items)
    ≡ record { said = record v.said { unread = v.said.unread ++ front_of v.coming ∷ [] }; coming = drop 1 v.coming })
    c.self.view_is (same-state i.opening i.ended i.broken i.room _ _ _ _ a b)
