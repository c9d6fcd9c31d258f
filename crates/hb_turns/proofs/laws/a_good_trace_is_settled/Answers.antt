use Rattle.std.proofs.Common.{ℕ, ◌==◌, Bool, true, false, ◌||◌, ◌&&◌, not, if◌then◌else◌, List, [], ◌∷◌, Some, None, refl}
use Rattle.hb_world.specs.declared.entry.Entry.{Entry}
use Rattle.hb_world.specs.declared.entry.Entry.TheVariants as e
use Rattle.hb_world.specs.declared.entry.Way.TheVariants as way
use Rattle.hb_world.specs.Trace.{AtEach}
use Rattle.hb_world.proofs.TraceLemmas.{AtEach-grows}
use Rattle.hb_ready.specs.Sight.{fresh, with_finish}
use Rattle.hb_turns.specs.Refused.{waits}
use Rattle.hb_turns.specs.Settled.{Rests, SettledAt}
use Rattle.hb_turns.specs.Shown.{Shown}
use Rattle.hb_turns.proofs.laws.a_good_trace_is_settled.Goals as goal

nothing : (P : List Entry → Entry → Type 0) → AtEach P []
nothing P [] x after is = absurd cc
nothing P (b ∷ bs) x after is = absurd cc

rests : (b : Bool) (l : ℕ) (s : Shown)
    → Rests (if (b || (false || false)) && not (false || (false || false))
    then Some (if b then with_finish true (if b then fresh false else fresh false) else (if b then fresh false else fresh false))
    else None) l s
rests true l s = refl
rests false l s = tt

pub returns : goal.returns
returns g c = λ to why notes n free stands_for.
    let P = SettledAt g.N.Node.stands g.N.Node.shown in
    AtEach-grows P (e.Dialled 1 to why ∷ e.Balked (way.Finish 1) ∷ []) waits
    (AtEach-grows P (e.Dialled 1 to why ∷ []) (e.Balked (way.Finish 1))
    (AtEach-grows P [] (e.Dialled 1 to why) (nothing P) tt) tt)
    (λ waited. record {
      notes = notes;
      node = n;
      stands_for = stands_for;
      going = free.0;
      idle = free.1;
      doors = λ d. refl;
      links = λ l. rests (1 == l) l (g.N.Node.shown n);
    })
