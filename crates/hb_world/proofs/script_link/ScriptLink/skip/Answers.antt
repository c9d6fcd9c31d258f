use Rattle.std.proofs.Common.{arith, ◌≡◌, ◌<◌, ◌≤◌, ◌-◌, ◌+◌, ℕ, List, length, take, drop, ap, sym, subst, refl, ◌∙◌}
use Rattle.std.proofs.lemmas.List.{length-drop}
use Rattle.std.proofs.lemmas.List.Elements.{All-drop, All-take}
use Rattle.hb_world.specs.LinkState.{LinkState, front_of, behind}
use Rattle.hb_world.specs.Script.{without_bytes}
use Rattle.hb_world.proofs.PieceLemmas.{state, same-state, given-some, front-first, without-part, without-whole, drop-whole, behind-none, IsOffset-none}
use Rattle.hb_world.proofs.script_link.ScriptLink.skip.Goals as goal

pub returns-then-n-as_slice : goal.returns-then-n-as_slice
returns-then-n-as_slice c =
    let i = c.self.inside in
    let fits : c.args.n ≤ length (front_of (behind i.offset (take i.given i.pieces.items))) =
    subst (λ (v : LinkState). c.args.n ≤ length (front_of v.said.unread)) (sym c.self.view_is) c.requires.fits in
    let some : 0 < i.given = given-some i.offset i.given i.pieces.items (omega (arith, fits, c.requires.some)) in
    let part : c.args.n < length c.in-Some.piece.now - i.offset =
    subst (λ (xs : List ℕ). c.args.n < length xs - i.offset) c.as_slice.ensures c.if-n-as_slice.true in
    let a = without-part i.offset i.given c.args.n i.pieces.items c.in-Some.piece.now some c.self.invariant.0
    c.in-Some.ensures.lookup part in
    subst
    (λ (v : LinkState). state i.opening i.ended i.broken i.room (behind (i.offset + c.args.n) (take i.given i.pieces.items))
    (drop i.given i.pieces.items)
    ≡ record v { said = record v.said { unread = without_bytes c.args.n v.said.unread } })
    c.self.view_is (same-state i.opening i.ended i.broken i.room _ _ _ _ a refl)

pub invariant_of-self-2 : goal.invariant_of-self-2
invariant_of-self-2 c =
    let i = c.self.inside in
    let all = All-drop (λ (p : List ℕ). 0 < length p) 1 i.pieces.items c.self.invariant.1 in
    rw c.pop_front.ensures.rest (
      omega (arith, c.self.invariant.0, length-drop 1 i.pieces.items),
      all,
      IsOffset-none (take (i.given - 1) (drop 1 i.pieces.items)) (All-take (λ (p : List ℕ). 0 < length p) (i.given - 1) _ all),
    )

pub returns : goal.returns
returns c =
    let i = c.self.inside in
    let fits : c.args.n ≤ length (front_of (behind i.offset (take i.given i.pieces.items))) =
    subst (λ (v : LinkState). c.args.n ≤ length (front_of v.said.unread)) (sym c.self.view_is) c.requires.fits in
    let some : 0 < i.given = given-some i.offset i.given i.pieces.items (omega (arith, fits, c.requires.some)) in
    let first = front-first i.offset i.given i.pieces.items c.in-Some.piece.now some c.self.invariant.0 c.in-Some.ensures.lookup in
    let whole : length c.in-Some.piece.now - i.offset ≤ c.args.n =
    subst (λ (xs : List ℕ). length xs - i.offset ≤ c.args.n) c.as_slice.ensures c.if-n-as_slice.false in
    let is : c.args.n ≡ length (front_of (behind i.offset (take i.given i.pieces.items))) =
    omega (arith, fits, whole, ap length first, length-drop i.offset c.in-Some.piece.now) in
    let a = without-whole i.offset i.given c.args.n i.pieces.items some c.self.invariant.0 is in
    let b = drop-whole i.given i.pieces.items some in
    let d = behind-none (take (i.given - 1) (drop 1 i.pieces.items)) in
    rw c.pop_front.ensures.rest (subst
    (λ (v : LinkState). state i.opening i.ended i.broken i.room (behind 0 (take (i.given - 1) (drop 1 i.pieces.items)))
    (drop (i.given - 1) (drop 1 i.pieces.items))
    ≡ record v { said = record v.said { unread = without_bytes c.args.n v.said.unread } })
    c.self.view_is (same-state i.opening i.ended i.broken i.room _ _ _ _ (d ∙ sym a) b))
