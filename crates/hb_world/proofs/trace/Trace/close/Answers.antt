use Rattle.std.proofs.Common.{arith, ◌≡◌, ◌<◌, ◌-◌, ℕ, true, false, eqb, List, [], ◌∷◌, ◌++◌, set, Some, sym, subst, ◌∙◌, refl}
use Rattle.hb_world.specs.Journal.{Kept}
use Rattle.hb_world.specs.Lives.{AreLives, life_of, owed_by}
use Rattle.hb_world.specs.declared.entry.Entry.TheVariants.{Closed}
use Rattle.hb_world.specs.declared.trace.Life.{Life}
use Rattle.hb_world.proofs.LifeLemmas.{lives-change, owed-some, owed-live, owed-positive, and-true, and-false, or-true, or-false}
use Rattle.hb_world.proofs.trace.Trace.close.Goals as goal

pub pay-requires-clause-some : goal.pay-requires-clause-some
pay-requires-clause-some c = subst (λ (n : ℕ). 0 < n) (sym c.entries_owed-settled.ensures) (owed-positive c.in-Some.life c.if-life.false)

pub pay-requires-clause-owed : goal.pay-requires-clause-owed
pay-requires-clause-owed c =
    let i = c.self.inside in
    let is : life_of i.lives.items c.args.link ≡ Some c.in-Some.life =
    subst (λ (ls : List Life). life_of ls c.args.link ≡ Some c.in-Some.life) c.as_slice.ensures.value (sym c.life_at.ensures
    ∙ c.in-Some.is) in
    omega (
      arith,
      owed-some i.lives.items i.journal.owed i.journal.entries c.args.link c.in-Some.life c.self.invariant is,
      c.entries_owed-settled.ensures,
    )

pub invariant_of-self : goal.invariant_of-self
invariant_of-self c =
    let i = c.self.inside in
    let is : life_of i.lives.items c.args.link ≡ Some c.in-Some.life =
    subst (λ (ls : List Life). life_of ls c.args.link ≡ Some c.in-Some.life) c.as_slice.ensures.value (sym c.life_at.ensures
    ∙ c.in-Some.is) in
    let now : Life = record { shut = c.in-Some.life.shut; closed = true } in
    subst (λ (k : Kept). AreLives (set i.lives.items (c.args.link - 1) now) k.owed k.entries) (sym c.pay.ensures)
    (subst (λ (n : ℕ). AreLives (set i.lives.items (c.args.link - 1) now) (i.journal.owed - n)
    (i.journal.entries ++ Closed c.args.link c.args.cause ∷ [])) (sym c.entries_owed-settled.ensures)
    (lives-change i.lives.items i.journal.owed (owed_by c.in-Some.life) i.journal.entries (Closed c.args.link c.args.cause) c.args.link
    c.in-Some.life now false true c.self.invariant is refl (λ other. refl) (λ other. sym (and-false (eqb c.args.link other)))
    (λ other. sym (and-true (eqb c.args.link other)))
    (sym (or-false c.in-Some.life.shut)) (sym (or-true c.in-Some.life.closed))
    (owed-live c.in-Some.life now c.if-life.false refl refl)))
