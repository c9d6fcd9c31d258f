-- The call of the world that is due in each machine that a node shows.
use Rattle.std.proofs.Common.{◌≡◌, ◌≢◌, ℕ, ◌==◌, Bool, true, false, Option, Some, None, refl, ap, sym, ◌∙◌, subst, if◌then◌else◌}
use Rattle.std.proofs.lemmas.Bool.{eqb-false, eq-eqb}
use Rattle.hb_base.specs.declared.cause.Cause.{Cause}
use Rattle.hb_world.specs.declared.entry.Entry.TheVariants as e
use Rattle.hb_model.specs.declared.config.NodeConfig.{NodeConfig}
use Rattle.hb_model.specs.Discovery.{Discovery, closed, closing}
use Rattle.hb_model.specs.Machine.{Machine, entered, with_phase, without}
use Rattle.hb_model.specs.Runs as runs
use Rattle.hb_model.specs.Runs.{MayCome, due, due_by}
use Rattle.hb_node.specs.declared.link.Link.{Link}
use Rattle.hb_node.specs.Phases.{phase_of}
use Rattle.hb_node.specs.State.{State, number_of, closing_of, due_of, after_close, after_act, IsGone, ShowsLink, Shows, Closes, Acts}

-- the call that is due
due_is : (o : Option Link) (g : NodeConfig) (dials : Bool) (m : Machine) → ShowsLink o m → m.dials ≡ dials
    → due_by g dials (number_of o) (closing_of o) ≡ due g m
due_is None g dials m shows same =
    ap (λ b. due_by g b None None) (sym same) ∙ ap (λ l. due_by g m.dials l (runs.closing_of m l)) (sym shows.0)
due_is (Some k) g dials m shows same =
    ap (λ b. due_by g b (Some k.number) (closing (phase_of k.phase))) (sym same)
    ∙ ap (λ p. due_by g m.dials (Some k.number) (closing p)) (sym shows.2.phase)
    ∙ ap (λ l. due_by g m.dials l (runs.closing_of m l)) (sym shows.0)

-- a link that is closed is gone, and every other was
closed_gone : (b : Bool) (l k : ℕ) (x : Discovery) → (l == k) ≡ b → (k ≢ l → IsGone x.phase)
    → IsGone (if b then with_phase (λ p. closed) x else x).phase
closed_gone true l k x is gone = tt
closed_gone false l k x is gone = gone (λ same. eqb-false l k is (sym same))

without_itself : (l : ℕ) → without l (Some l) ≡ None
without_itself l = rw (eq-eqb l l refl) refl

closes_link : (s : State) (k : Link) (c : Cause) → s.link ≡ Some k → closing (phase_of k.phase) ≡ Some c → (m : Machine) → Shows s m
    → MayCome s.config m (e.Closed k.number c) × Shows (record s { link = None }) (entered s.config (e.Closed k.number c) m)
closes_link s k c there is m shows =
    let link : ShowsLink (Some k) m = subst (λ o. ShowsLink o m) there shows.link in (
      ap closing link.2.phase ∙ is,
      record {
        held = shows.held;
        dials = shows.dials;
        over = shows.over;
        link = (
          ap (without k.number) link.0 ∙ without_itself k.number,
          λ l. closed_gone (k.number == l) k.number l (m.links l) refl (link.4 l),
        );
      },
    )

dials_stay : (dials : Bool) (s : State) (l : Option ℕ) → Closes (due_by s.config dials l None) s s
dials_stay true s None = refl
dials_stay true s (Some l) = refl
dials_stay false s None = refl
dials_stay false s (Some l) = refl

closes_by : (o : Option Link) (c : Option Cause) (s : State) → s.link ≡ o → closing_of o ≡ c
    → Closes (due_by s.config s.dials (number_of o) c) s (after_close s c)
closes_by None None s there is = dials_stay s.dials s None
closes_by None (Some c) s there is = cc
closes_by (Some k) None s there is = dials_stay s.dials s (Some k.number)
closes_by (Some k) (Some c) s there is = closes_link s k c there is

after_config : (c : Option Cause) (s : State) → (after_close s c).config ≡ s.config
after_config None s = refl
after_config (Some c) s = refl

pub acts : (s : State) → Acts (due_of s) s (after_act s)
acts s = (
  after_config (closing_of s.link) s,
  λ m shows. due_is s.link s.config s.dials m shows.link shows.dials,
  closes_by s.link (closing_of s.link) s refl refl,
)
