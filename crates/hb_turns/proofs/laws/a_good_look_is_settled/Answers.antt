use Rattle.std.proofs.Common.{◌≡◌, ℕ, ◌==◌, Bool, true, false, ◌||◌, ◌&&◌, if◌then◌else◌, List, [], ◌∷◌, Option, Some, None, refl, ap, sym, subst, inr}
use Rattle.std.proofs.lemmas.Bool.{eqb-true}
use Rattle.hb_base.specs.declared.door.Why.{Why}
use Rattle.hb_base.specs.declared.target.Target.{Target}
use Rattle.hb_world.specs.declared.entry.Entry.{Entry}
use Rattle.hb_world.specs.declared.entry.Entry.TheVariants as e
use Rattle.hb_world.specs.declared.entry.Way.TheVariants as way
use Rattle.hb_world.specs.Trace.{AtEach, lives}
use Rattle.hb_world.proofs.TraceLemmas.{AtEach-grows}
use Rattle.hb_ready.specs.Sight.{known, sight}
use Rattle.hb_ready.specs.declared.link.Link.{Link}
use Rattle.hb_turns.specs.Refused.{looked_at, names, waits}
use Rattle.hb_turns.specs.Settled.{Rests, SettledAt}
use Rattle.hb_turns.specs.Shown.{Shown}
use Rattle.hb_turns.proofs.laws.a_good_look_is_settled.Goals as goal

nothing : (P : List Entry → Entry → Type 0) → AtEach P []
nothing P [] x after is = absurd cc
nothing P (b ∷ bs) x after is = absurd cc

-- link 1 rests, and no other lives
rests : (to : Target) (why : Why) (s : Shown) → ((l : ℕ) → s.wants l ≡ 0) → ((l : ℕ) → s.output l ≡ []) → (l : ℕ)
    → Rests (known l (looked_at to why)) l s
rests to why s none written l = by (1 == l) refl
  where
    here : Rests (known 1 (looked_at to why)) 1 s
    here = (inr (none 1), inr (written 1), inr refl)

    by : (b : Bool) → (1 == l) ≡ b → Rests (known l (looked_at to why)) l s
    by true same = subst (λ (k : ℕ). Rests (known k (looked_at to why)) k s) (eqb-true 1 l same) here
    by false other =
        let dead : lives l (looked_at to why) ≡ false = ap (λ (b : Bool). (b || false) && true) other in
        subst (λ (o : Option Link). Rests o l s)
        (sym (ap (λ (b : Bool). if b then Some (sight l (looked_at to why)) else None) dead)) tt

pub returns : goal.returns
returns g c = λ to why notes n free none written stands_for.
    let P = SettledAt g.N.Node.stands g.N.Node.shown in
    AtEach-grows P (looked_at to why) waits
    (AtEach-grows P (e.Dialled 1 to why ∷ e.Opened 1 ∷ e.Ended 1 ∷ names ∷ []) (e.Balked (way.Look 1))
    (AtEach-grows P (e.Dialled 1 to why ∷ e.Opened 1 ∷ e.Ended 1 ∷ []) names
    (AtEach-grows P (e.Dialled 1 to why ∷ e.Opened 1 ∷ []) (e.Ended 1)
    (AtEach-grows P (e.Dialled 1 to why ∷ []) (e.Opened 1)
    (AtEach-grows P [] (e.Dialled 1 to why) (nothing P) tt) tt) tt) (λ waited. absurd cc)) tt)
    (λ waited. record {
      notes = notes;
      node = n;
      stands_for = stands_for;
      going = free.0;
      idle = free.1;
      doors = λ d. refl;
      links = λ l. rests to why (g.N.Node.shown n) none written l;
    })
