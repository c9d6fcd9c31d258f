use Rattle.std.proofs.Common.{◌≡◌, List, refl, sym, subst}
use Rattle.hb_base.specs.declared.note.Note.{Note}
use Rattle.hb_turns.specs.declared.served.ServeEnd.TheVariants as ends
use Rattle.hb_turns.proofs.laws.lost_notes_are_refused.Goals as goal

other : ends.Stopped ≡ ends.NoMemory → ⊥
other is = cc

pub returns-clause-kept : goal.returns-clause-kept
returns-clause-kept g c = λ words totals notes n trace none served.
    let it = served.noted other refl in
    let all = it.are_notes in
    none (subst (λ (ns : List Note). g.N.Node.stands ns n trace) (sym it.kept_are) all.stands_for) all.none_waits

pub returns-clause-given : goal.returns-clause-given
returns-clause-given g c = λ words totals left trace none served.
    let it = served.noted other refl in none it.notes it.are_notes.stands_for
