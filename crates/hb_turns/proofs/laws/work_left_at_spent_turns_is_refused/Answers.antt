use Rattle.std.proofs.Common.{◌≡◌, true, false, List, sym, ◌∙◌, subst}
use Rattle.hb_base.specs.declared.note.Note.{Note}
use Rattle.hb_world.specs.declared.entry.Entry.{Entry}
use Rattle.hb_turns.specs.Served.{IsStoodFor}
use Rattle.hb_turns.specs.Shown.{Shown}
use Rattle.hb_turns.specs.declared.served.ServeEnd.{ServeEnd}
use Rattle.hb_turns.specs.declared.served.ServeEnd.TheVariants as ends
use Rattle.hb_turns.proofs.laws.work_left_at_spent_turns_is_refused.Goals as goal

rests : {N : Type 0} (stands : List Note → N → List Entry → Type 0) (shown : N → Shown) (trace : List Entry)
    → ((notes : List Note) (n : N) (es : List Entry) → stands notes n es → (shown n).idle ≡ false)
    → IsStoodFor stands shown ends.TurnsSpent trace → ⊥
rests stands shown trace works s = let both : false ≡ true = sym (works s.0 s.1 trace s.2) ∙ s.4 in absurd cc

pub returns : goal.returns
returns g c = λ works words served left trace is run.
    rests g.N.Node.stands g.N.Node.shown run.over.before works
    (subst (λ (end : ServeEnd). IsStoodFor g.N.Node.stands g.N.Node.shown end run.over.before) is run.over.stood_for)
