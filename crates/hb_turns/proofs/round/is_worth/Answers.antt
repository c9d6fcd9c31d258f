use Rattle.std.proofs.Common.{◌≡◌, ◌==◌, ◌&&◌, Bool, true, false, not, List, [], ◌∷◌, ◌++◌, ℕ, length, Option, Some, refl, sym, ◌∙◌, subst, ⊎_elim}
use Rattle.hb_ready.specs.declared.link.Link.{Link}
use Rattle.hb_turns.specs.Settled.{Rests, RestsBy}
use Rattle.hb_turns.specs.Shown.{Shown, IsFront}
use Rattle.hb_turns.proofs.round.is_worth.Goals as goal

opens : (b : Bool) → not b ≡ false → b ≡ true
opens true is = refl
opens false is = absurd cc

both : (a b : Bool) → (not a && not b) ≡ true → (a ≡ false) × (b ≡ false)
both true b is = absurd cc
both false true is = absurd cc
both false false is = (refl, refl)

-- where a byte is to be written, and the way is awake, the link doesn't rest
writes : (k : Link) (l : ℕ) (s : Shown) (part : List ℕ) → RestsBy true k l s → k.write_sleeps ≡ false → IsFront part (s.output l)
    → (length part == 0) ≡ false → ⊥
writes k l s [] rests awake front some = absurd cc
writes k l s (b ∷ part) rests awake front some =
    ⊎_elim (λ slept. absurd (let no : false ≡ true = sym awake ∙ slept in cc))
    (λ none. absurd (let no : [] ≡ b ∷ part ++ front.rest = sym none ∙ front.front in cc)) rests.1

pub returns-else-known-wants-clause-worth : goal.returns-else-known-wants-clause-worth
returns-else-known-wants-clause-worth g c = λ may rests.
    let s = g.N.Node.shown c.args.run.now.node in
    let k = c.in-Some.known in
    let rests_now : Rests (Some k) c.args.link s =
    subst (λ (o : Option Link). Rests o c.args.link s) (sym c.in-Some.ensures) rests in
    let awake = both k.write_sleeps c.is_empty.result may in
    writes k c.args.link s c.output.result.now
    (subst (λ (b : Bool). RestsBy b k c.args.link s) (opens k.is_open c.if-not-known.false) rests_now) awake.0 c.output.ensures
    (sym c.is_empty.ensures ∙ awake.1)
