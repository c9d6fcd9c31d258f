-- What a node shows behind an entry of no link that lives.
use Rattle.std.proofs.Common.{◌≡◌, ℕ, true, false, [], Option, Some, None, is_none, refl, ap, sym, ◌∙◌, subst}
use Rattle.std.proofs.lemmas.Bool.{false≢true}
use Rattle.hb_base.specs.declared.door.Why.{Why}
use Rattle.hb_base.specs.declared.door.Why.TheVariants as whys
use Rattle.hb_world.specs.declared.entry.Entry.TheVariants as e
use Rattle.hb_model.specs.declared.config.NodeConfig.{NodeConfig}
use Rattle.hb_model.specs.Discovery.{Discovery, dialled}
use Rattle.hb_model.specs.Machine.{Machine, entered}
use Rattle.hb_node.specs.declared.link.Link.{Link}
use Rattle.hb_node.specs.Links.{part_of, Agrees, IsSteady}
use Rattle.hb_node.specs.State.{State, IsGone, ShowsLink, Shows, ReachesAlone, EntersAlone, Answers}
use Rattle.hb_node.proofs.Led.{agrees_same}
use Rattle.hb_node.proofs.Lifted.{at_same, at_other}
use Rattle.hb_node.proofs.Kept.{dialled_steady}

-- where the control plane is to be dialled no link to it lives
no_link_lives : (o : Option Link) (m : Machine) → m.dials ≡ true → ShowsLink o m → ShowsLink None m
no_link_lives None m dials shows = shows
no_link_lives (Some k) m dials shows = absurd (false≢true (sym shows.1 ∙ dials))

no_link_there : (o : Option Link) (m : Machine) → m.dials ≡ true → ShowsLink o m → o ≡ None
no_link_there None m dials shows = refl
no_link_there (Some k) m dials shows = absurd (false≢true (sym shows.1 ∙ dials))

-- the node shows the machine itself
shown : (m : Machine) (s : State) → Shows s m → ReachesAlone m s
shown m s shows = record { points = []; machine = m; inner = refl; shows = shows; alone = refl }

-- a dial failed
pub failed_enters : (old new : State) → new ≡ record old { dials = false }
    → EntersAlone (e.DialFailed old.config.discovery whys.Discovery) old new
failed_enters old new is = (
  ap (λ (s : State). s.config) is,
  λ m shows may.
      let none = no_link_there old.link m may.0 shows.link in
      let gone = no_link_lives old.link m may.0 shows.link in
      shown (entered old.config (e.DialFailed old.config.discovery whys.Discovery) m) new
      (subst (λ (s : State). Shows s (entered old.config (e.DialFailed old.config.discovery whys.Discovery) m)) (sym is)
      (record {
        held = shows.held;
        dials = refl;
        over = shows.over;
        link = subst (λ o. ShowsLink o (entered old.config (e.DialFailed old.config.discovery whys.Discovery) m)) (sym none) gone;
      })),
)

-- a dial gave a link
pub dialled_enters : (l : ℕ) (old new : State) (next : Link) → new ≡ record old { dials = false; link = Some next } → next.number ≡ l
    → part_of next ≡ dialled old.config.id old.config.discovery old.held
    → EntersAlone (e.Dialled l old.config.discovery whys.Discovery) old new
dialled_enters l old new next is number part = (
  ap (λ (s : State). s.config) is,
  λ m shows may.
      let gone = no_link_lives old.link m may.0 shows.link in
      let m1 = entered old.config (e.Dialled l old.config.discovery whys.Discovery) m in
      let d = dialled old.config.id old.config.discovery old.held in
      let born : m1.links l ≡ d =
      at_same l (λ y. dialled old.config.id old.config.discovery m.held) (m.links l)
      ∙ ap (λ h. dialled old.config.id old.config.discovery h) shows.held in
      shown m1 new (subst (λ (s : State). Shows s m1) (sym is) (record {
        held = shows.held;
        dials = refl;
        over = shows.over;
        link = (
          ap (λ n. Some n) (sym number),
          refl,
          subst (λ n. Agrees (m1.links n) (part_of next)) (sym number) (agrees_same (m1.links l) (part_of next) (born ∙ sym part)),
          subst (λ n. IsSteady (m1.links n)) (sym number)
              (subst IsSteady (sym born) (dialled_steady old.config.id old.config.discovery old.held)),
          λ k differs. subst (λ (v : Discovery). IsGone v.phase)
              (sym (at_other l k (λ y. dialled old.config.id old.config.discovery m.held) (m.links k)
              (λ same. differs (same ∙ sym number))))
              (gone.1 k),
        );
      })),
)

-- no other dial is answered
pub other_answers : (why : Why) (link : Option ℕ) (s : State) → (why ≡ whys.Discovery → ⊥) → Answers why link s s
other_answers why None s other = (refl, λ m shows may. absurd (other may.2))
other_answers why (Some l) s other = (refl, λ m shows may. absurd (other may.3))

-- time passed
ticked : (o : Option Link) (g : NodeConfig) (m : Machine) → ShowsLink o m → ShowsLink o (entered g e.Tick m)
ticked None g m shows = shows
ticked (Some k) g m shows = (shows.0, ap is_none shows.0, shows.2, shows.3, shows.4)

tick_dials : (o : Option Link) (m : Machine) → ShowsLink o m → is_none m.current ≡ is_none o
tick_dials None m shows = ap is_none shows.0
tick_dials (Some k) m shows = ap is_none shows.0

pub tick_enters : (old new : State) → new ≡ record old { dials = is_none old.link } → EntersAlone e.Tick old new
tick_enters old new is = (
  ap (λ (s : State). s.config) is,
  λ m shows may.
      let m1 = entered old.config e.Tick m in
      shown m1 new (subst (λ (s : State). Shows s m1) (sym is) (record {
        held = shows.held;
        dials = tick_dials old.link m shows.link;
        over = shows.over;
        link = ticked old.link old.config m shows.link;
      })),
)
