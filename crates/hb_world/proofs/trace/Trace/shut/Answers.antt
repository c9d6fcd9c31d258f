use Rattle.std.proofs.Common.{arith, ◌≡◌, ◌-◌, true, false, eqb, List, set, Some, sym, subst, ◌∙◌, refl}
use Rattle.hb_world.specs.Journal.{Kept}
use Rattle.hb_world.specs.Lives.{AreLives, life_of}
use Rattle.hb_world.specs.declared.entry.Entry.TheVariants.{Shut}
use Rattle.hb_world.specs.declared.trace.Life.{Life}
use Rattle.hb_world.proofs.LifeLemmas.{lives-change, owed-some, owed-open, and-true, and-false, or-true, or-false}
use Rattle.hb_world.proofs.trace.Trace.shut.Goals as goal

pub pay-requires-clause-owed : goal.pay-requires-clause-owed
pay-requires-clause-owed c =
    let i = c.self.inside in
    let is : life_of i.lives.items c.args.link ≡ Some c.in-Some.life =
    subst (λ (ls : List Life). life_of ls c.args.link ≡ Some c.in-Some.life) c.as_slice.ensures.value (sym c.life_at.ensures
    ∙ c.in-Some.is) in
    omega (
      arith,
      owed-some i.lives.items i.journal.owed i.journal.entries c.args.link c.in-Some.life c.self.invariant is,
      owed-open c.in-Some.life c.if-life.false c.if-life-2.false,
    )

pub invariant_of-self : goal.invariant_of-self
invariant_of-self c =
    let i = c.self.inside in
    let is : life_of i.lives.items c.args.link ≡ Some c.in-Some.life =
    subst (λ (ls : List Life). life_of ls c.args.link ≡ Some c.in-Some.life) c.as_slice.ensures.value (sym c.life_at.ensures
    ∙ c.in-Some.is) in
    let now : Life = record { shut = true; closed = false } in
    subst (λ (k : Kept). AreLives (set i.lives.items (c.args.link - 1) now) k.owed k.entries) (sym c.pay.ensures)
    (lives-change i.lives.items i.journal.owed 1 i.journal.entries (Shut c.args.link) c.args.link c.in-Some.life now true false
    c.self.invariant is refl (λ other. refl) (λ other. sym (and-true (eqb c.args.link other))) (λ other. sym (and-false
    (eqb c.args.link other)))
    (sym (or-true c.in-Some.life.shut)) (sym (or-false c.in-Some.life.closed ∙ c.if-life.false))
    (owed-open c.in-Some.life c.if-life.false c.if-life-2.false))
