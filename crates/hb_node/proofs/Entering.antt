-- What a node shows behind an entry of its link.
use Rattle.std.proofs.Common.{◌≡◌, ◌≢◌, ◌≤◌, ℕ, Bool, true, false, List, length, Option, Some, None, refl, ap, sym, ◌∙◌, subst, inl, inr, ⊎_elim, nat_lt, if◌then◌else◌}
use Rattle.std.specs.Prelude.{⊤, [], ◌∷◌}
use Rattle.hb_base.specs.declared.cause.Cause.{Cause}
use Rattle.hb_base.specs.declared.cause.Cause.TheVariants as cause
use Rattle.hb_held.specs.Held.{Resources}
use Rattle.hb_world.specs.declared.entry.Entry.{Entry}
use Rattle.hb_world.specs.declared.entry.Entry.TheVariants as e
use Rattle.hb_model.specs.declared.config.NodeConfig.{NodeConfig}
use Rattle.hb_model.specs.Discovery.{Discovery, Phase, dialling, live, faulted, ending, opened, ended, broken, went, came, wrote, put_requests, sendable}
use Rattle.hb_model.specs.Machine.{Machine, at, entered, with_phase, while_open}
use Rattle.hb_model.specs.Runs.{MayCome, IsCalm, wants_of, wanted_by}
use Rattle.hb_model.proofs.Open.{live_changes, open_changes}
use Rattle.hb_node.specs.declared.link.Link.{Link}
use Rattle.hb_node.specs.declared.phase.Phase.{Phase as Stage}
use Rattle.hb_node.specs.declared.phase.Phase.TheVariants as stage
use Rattle.hb_node.specs.Judging.{Judges, Judged, Seen, seen, held_behind}
use Rattle.hb_node.specs.Phases.{phase_of, is_live}
use Rattle.hb_node.specs.Leads.{Leads, stays}
use Rattle.hb_node.specs.Links.{part_of, with_puts, put_by, wrote_by, Agrees, AgreesBy, GoesTo, IsKept, Fares, SteadyBy, IsSteady, Settles}
use Rattle.hb_node.specs.State.{State, IsGone, ShowsLink, Shows, Reaches, ReachesAlone, Enters, EntersAlone, ReachesJudged, EntersJudged, Goes}
use Rattle.hb_node.proofs.Led.{state, agrees_same, puts_lead}
use Rattle.hb_node.proofs.Lifted.{at_same, at_other, lift}
use Rattle.hb_node.proofs.Kept.{came_fares, puts_steady, wrote_kept}

pub live_back : (s : Stage) → phase_of s ≡ live → is_live s ≡ true
live_back stage.Live is = refl
live_back s is = cc

-- the node has no such link
abbrev pub IsElsewhere : Option Link → ℕ → Type 0
IsElsewhere None l = ⊤
IsElsewhere (Some k) l = l ≢ k.number

-- then it is gone in each machine that the node shows
pub gone_elsewhere : (o : Option Link) (m : Machine) (l : ℕ) → IsElsewhere o l → ShowsLink o m → IsGone (m.links l).phase
gone_elsewhere None m l is shows = shows.1 l
gone_elsewhere (Some k) m l differs shows = shows.4 l differs

-- an entry comes on a link that was dialled before
abbrev pub IsOn : Entry → ℕ → Type 0
IsOn (e.Opened k) l = k ≡ l
IsOn (e.Came k bytes) l = k ≡ l
IsOn (e.Ended k) l = k ≡ l
IsOn (e.Broke k) l = k ≡ l
IsOn (e.Went k bytes) l = k ≡ l
IsOn _ l = ⊥

module _ (g : NodeConfig) (m : Machine) (l : ℕ) (gone : IsGone (m.links l).phase) where
  not_in : (p : Phase) (k : ℕ) → k ≡ l → (m.links k).phase ≡ p → IsGone p
  not_in p k here is = subst IsGone is (subst (λ j. IsGone (m.links j).phase) (sym here) gone)

  -- none comes on a link that is gone
  none_comes : (entry : Entry) → IsOn entry l → MayCome g m entry → ⊥
  none_comes (e.Opened k) here may = not_in dialling k here may.1
  none_comes (e.Came k bytes) here may = not_in live k here may.0.1
  none_comes (e.Ended k) here may = not_in live k here may.0.1
  none_comes (e.Broke k) here may =
      ⊎_elim (λ quiet. not_in dialling k here quiet.1)
      (λ later. ⊎_elim (λ quiet. not_in live k here quiet.1) (λ fault. not_in (faulted fault.0) k here fault.1) later) may
  none_comes (e.Went k bytes) here may =
      ⊎_elim (λ quiet. not_in live k here quiet.1) (λ fault. not_in (faulted fault.0) k here fault.1) may.0
  none_comes entry here may = absurd here

-- nor on one that the node doesn't have, whatever it does then
elsewhere_judged : {J : Type 0} (judges : Judges J) (entry : Entry) (l : ℕ) (old new : State) (before after : J) → IsOn entry l
    → IsElsewhere old.link l → new.config ≡ old.config → EntersJudged judges entry old new before after
elsewhere_judged judges entry l old new before after here elsewhere config =
    (config, λ m shows may. absurd (none_comes old.config m l (gone_elsewhere old.link m l elsewhere shows.link) entry here may))

pub none_judged : {J : Type 0} (judges : Judges J) (entry : Entry) (l : ℕ) (old new : State) (before after : J) → IsOn entry l
    → old.link ≡ None → new.config ≡ old.config → EntersJudged judges entry old new before after
none_judged judges entry l old new before after here none config =
    elsewhere_judged judges entry l old new before after here (subst (λ o. IsElsewhere o l) (sym none) tt) config

pub other_judged : {J : Type 0} (judges : Judges J) (entry : Entry) (l : ℕ) (old new : State) (before after : J) (k : Link)
    → IsOn entry l → old.link ≡ Some k → (k.number ≡ l → ⊥) → new.config ≡ old.config
    → EntersJudged judges entry old new before after
other_judged judges entry l old new before after k here there differs config =
    elsewhere_judged judges entry l old new before after here
    (subst (λ o. IsElsewhere o l) (sym there) (λ same. differs (sym same))) config

-- nobody is shown anything
abbrev pub nobody : Judges ⊤
nobody before held after = ⊥

none_shown : (held : List Resources) → Judged nobody held tt tt → held ≡ []
none_shown [] judged = refl
none_shown (h ∷ held) judged = absurd judged.1

abbrev pub alone : Resources → Seen ⊤
alone held = seen held tt

-- what is so with someone who is shown what is held is so without
pub enters_so : {J : Type 0} (judges : Judges J) (entry : Entry) (old new : State) (before after : J)
    → EntersJudged judges entry old new before after → Enters entry old new
enters_so judges entry old new before after enters = (
  enters.0,
  λ m shows may.
      let r = enters.1 m shows may in
      record { points = r.points; machine = r.machine; inner = r.inner; shows = r.shows },
)

-- what is so where nobody is shown anything is so alone
alone_of : (m : Machine) (s : State) → ReachesJudged nobody m s tt tt → ReachesAlone m s
alone_of m s r = record {
  points = r.points;
  machine = r.machine;
  inner = r.inner;
  shows = r.shows;
  alone = none_shown (held_behind m.held r.points) r.judged;
}

enters_alone : (entry : Entry) (old new : State) → EntersJudged nobody entry old new tt tt → EntersAlone entry old new
enters_alone entry old new enters = (
  enters.0,
  λ m shows may. alone_of (entered old.config entry m) new (enters.1 m shows may),
)

pub none_enters : (entry : Entry) (l : ℕ) (old new : State) → IsOn entry l → old.link ≡ None → new.config ≡ old.config
    → EntersAlone entry old new
none_enters entry l old new here none config =
    enters_alone entry old new (none_judged nobody entry l old new tt tt here none config)

pub other_enters : (entry : Entry) (l : ℕ) (old new : State) (k : Link) → IsOn entry l → old.link ≡ Some k → (k.number ≡ l → ⊥)
    → new.config ≡ old.config → EntersAlone entry old new
other_enters entry l old new k here there differs config =
    enters_alone entry old new (other_judged nobody entry l old new tt tt k here there differs config)

-- and without a word of that
pub weaker : (entry : Entry) (old new : State) → EntersAlone entry old new → Enters entry old new
weaker entry old new enters = (
  enters.0,
  λ m shows may.
      let r = enters.1 m shows may in
      record { points = r.points; machine = r.machine; inner = r.inner; shows = r.shows },
)

-- points of the link lead on, and nobody is shown what is held
abbrev pub GoesAlone : ℕ → Resources → Discovery → Resources → Discovery → Type 0
GoesAlone l held x new_held y = GoesTo nobody IsSteady l (alone held) x (alone new_held) y

-- the node keeps all but what it holds and its link, which keeps its number
pub record Keeps (old new : State) (k next : Link) : Type 0 where
  pub there : old.link ≡ Some k
  pub after : new.link ≡ Some next
  pub number : next.number ≡ k.number
  pub config : new.config ≡ old.config
  pub dials : new.dials ≡ old.dials
  pub over : new.over ≡ old.over

pub keeps : (old new : State) (k next : Link) (held : Resources) → old.link ≡ Some k
    → new ≡ record old { held = held; link = Some next } → next.number ≡ k.number → Keeps old new k next
keeps old new k next held there is number = record {
  there = there;
  after = ap (λ (s : State). s.link) is;
  number = number;
  config = ap (λ (s : State). s.config) is;
  dials = ap (λ (s : State). s.dials) is;
  over = ap (λ (s : State). s.over) is;
}

-- the link of a machine changes so
abbrev pub changed : ℕ → (Discovery → Discovery) → Machine → Machine
changed l change m = record m { links = λ k. at l change k (m.links k) }

module _ (old new : State) (k next : Link) (all : Keeps old new k next) (m : Machine) (shows : Shows old m) where
  pub its_link : ShowsLink (Some k) m
  its_link = subst (λ o. ShowsLink o m) all.there shows.link

  -- where the link goes on so, the node shows what becomes of the machine
  pub link_judged : {J : Type 0} (judges : Judges J) (before after : J) (change : Discovery → Discovery)
      → GoesTo judges IsSteady k.number (seen old.held before) (change (m.links k.number)) (seen new.held after) (part_of next)
      → ReachesJudged judges (changed k.number change m) new before after
  link_judged judges before after change g =
      let s = its_link in
      let m1 = changed k.number change m in
      let here : m1.links k.number ≡ change (m.links k.number) = at_same k.number change (m.links k.number) in
      let a = state (seen old.held before) (change (m.links k.number)) in
      let t = lift judges new.config k.number m1 before a (state (seen new.held after) g.part)
      (ap (λ h. state (seen h before) (change (m.links k.number))) (sym shows.held)
      ∙ ap (λ (x : Discovery). state (seen m.held before) x) (sym here)) g.leads in
      let d = t.differs in
      record {
        points = t.points;
        machine = t.machine;
        inner = t.inner;
        judged = t.judged;
        shows = record {
          held = d.held;
          dials = d.dials ∙ shows.dials ∙ sym all.dials;
          over = d.over ∙ shows.over ∙ sym all.over;
          link = subst (λ o. ShowsLink o t.machine) (sym all.after) (
            d.current ∙ s.0 ∙ ap (λ n. Some n) (sym all.number),
            d.dials ∙ s.1,
            subst (λ n. Agrees (t.machine.links n) (part_of next)) (sym all.number)
                (subst (λ (v : Discovery). Agrees v (part_of next)) (sym d.part) g.agrees),
            subst (λ n. IsSteady (t.machine.links n)) (sym all.number) (subst IsSteady (sym d.part) g.so),
            λ l differs.
                let other : l ≢ k.number = λ is. differs (is ∙ sym all.number) in
                subst (λ (v : Discovery). IsGone v.phase)
                (sym (d.others l other ∙ at_other k.number l change (m.links l) other)) (s.4 l other),
          );
        };
      }

  pub link_reaches : (change : Discovery → Discovery)
      → GoesAlone k.number old.held (change (m.links k.number)) new.held (part_of next) → ReachesAlone (changed k.number change m) new
  link_reaches change g = alone_of (changed k.number change m) new (link_judged nobody tt tt change g)

  -- a link that lives is the machine's
  pub is_part : (p : Phase) → (m.links k.number).phase ≡ p → AgreesBy p (m.links k.number) (part_of k)
  is_part p is = subst (λ (q : Phase). AgreesBy q (m.links k.number) (part_of k)) (sym its_link.2.phase ∙ is) its_link.2.rest

  pub steady : (p : Phase) → (m.links k.number).phase ≡ p → SteadyBy p (m.links k.number)
  steady p is = subst (λ (q : Phase). SteadyBy q (m.links k.number)) is its_link.3

  -- a link that is to be closed goes on as any
  ends_so : (c : Cause) (x y : Discovery) → new.held ≡ old.held → x.phase ≡ ending c → y.phase ≡ ending c
      → GoesAlone k.number old.held x new.held y
  ends_so c x y held x_ends y_ends = record {
    part = x;
    leads = subst (λ (h : Resources). Leads nobody k.number (state (alone old.held) x) (state (alone h) x)) (sym held) (stays refl);
    agrees = record { phase = x_ends ∙ sym y_ends; rest = subst (λ (p : Phase). AgreesBy p x y) (sym y_ends) tt };
    so = subst (λ (p : Phase). SteadyBy p x) (sym x_ends) tt;
  }

  -- its phase alone changes, and it is to be closed then
  pub phase_ends : (change : Phase → Phase) (p : Phase) (c : Cause) → new.held ≡ old.held → phase_of next.phase ≡ change (phase_of k.phase)
      → (m.links k.number).phase ≡ p → change p ≡ ending c
      → GoesAlone k.number old.held (with_phase change (m.links k.number)) new.held (part_of next)
  phase_ends change p c held phase is to =
      ends_so c (with_phase change (m.links k.number)) (part_of next) held (ap change is ∙ to)
      (phase ∙ ap change (sym its_link.2.phase ∙ is) ∙ to)

-- a link is open
pub opened_enters : (old new : State) (k next : Link) → Keeps old new k next → new.held ≡ old.held
    → part_of next ≡ with_phase opened (part_of k) → EntersAlone (e.Opened k.number) old new
opened_enters old new k next all held part = (
  all.config,
  λ m shows may.
      let x = m.links k.number in
      let is : x ≡ part_of k = is_part old new k next all m shows dialling may.1 in
      let s = steady old new k next all m shows dialling may.1 in
      let y = with_phase opened x in
      let kept : IsKept y =
      record { octets = s.0.octets; caught_up = s.0.caught_up; preface = s.0.preface; goes_on = s.0.goes_on } in
      let calm : IsCalm y = record { empty_handed = s.1.empty_handed; looked_at = s.1.looked_at; all_put = s.1.all_put } in
      link_reaches old new k next all m shows (with_phase opened)
      (record {
        part = y;
        leads = subst (λ (h : Resources). Leads nobody k.number (state (alone old.held) y) (state (alone h) y)) (sym held) (stays refl);
        agrees = agrees_same y (part_of next) (ap (λ (v : Discovery). with_phase opened v) is ∙ sym part);
        so = subst (λ (p : Phase). SteadyBy p y) (sym (ap opened may.1)) (kept, calm);
      }),
)

-- its peer sends no more
pub ended_enters : (old new : State) (k next : Link) → Keeps old new k next → new.held ≡ old.held
    → phase_of next.phase ≡ ended (phase_of k.phase) → EntersAlone (e.Ended k.number) old new
ended_enters old new k next all held phase = (
  all.config,
  λ m shows may.
      link_reaches old new k next all m shows (with_phase ended)
      (phase_ends old new k next all m shows ended live cause.Broken held phase may.0.1 refl),
)

-- a call on it failed
pub broke_enters : (old new : State) (k next : Link) → Keeps old new k next → new.held ≡ old.held
    → phase_of next.phase ≡ broken (phase_of k.phase) → EntersAlone (e.Broke k.number) old new
broke_enters old new k next all held phase = (
  all.config,
  λ m shows may.
      let so : (p : Phase) (c : Cause) → (m.links k.number).phase ≡ p → broken p ≡ ending c
      → GoesAlone k.number old.held (with_phase broken (m.links k.number)) new.held (part_of next) =
      λ p c is to. phase_ends old new k next all m shows broken p c held phase is to in
      link_reaches old new k next all m shows (with_phase broken)
      (⊎_elim (λ quiet. so dialling cause.Broken quiet.1 refl)
      (λ later. ⊎_elim (λ quiet. so live cause.Broken quiet.1 refl)
      (λ fault. so (faulted fault.0) (cause.ConnFault fault.0) fault.1 refl) later) may),
)

-- bytes came
pub came_enters : {J : Type 0} (judges : Judges J) (old new : State) (before after : J) (k next : Link) (b : List ℕ)
    → Keeps old new k next
    → (is_live k.phase ≡ true
    → Settles judges k.number (seen old.held before) (came b (part_of k)) (seen new.held after) (part_of next))
    → EntersJudged judges (e.Came k.number b) old new before after
came_enters judges old new before after k next b all settles = (
  all.config,
  λ m shows may.
      let lives = may.0.1 in
      let x = m.links k.number in
      let is : x ≡ part_of k = is_part old new k next all m shows live lives in
      let s = steady old new k next all m shows live lives in
      let few : length b ≤ wants_of x = subst (λ (p : Phase). length b ≤ wanted_by p x) lives may.3 in
      let fares : Fares (came b x) = came_fares x b s.0 s.1 may.1 may.2 few in
      link_judged old new k next all m shows judges before after (while_open (came b))
      (subst (λ (v : Discovery). GoesTo judges IsSteady k.number (seen old.held before) v (seen new.held after) (part_of next))
      (sym (live_changes (came b) x lives))
      (subst (λ (v : Discovery). GoesTo judges IsSteady k.number (seen old.held before) (came b v) (seen new.held after) (part_of next))
      (sym is)
      (settles (live_back k.phase (ap (λ (v : Discovery). v.phase) (sym is) ∙ lives))
      (subst (λ (v : Discovery). Fares (came b v)) is fares)))),
)

-- what waits is put in the phase that the link had
puts_phase : (b : Bool) (x : Discovery) → (if b then put_requests x else x).phase ≡ x.phase
puts_phase true x = refl
puts_phase false x = refl

-- bytes of a link that lives went
live_goes : (l : ℕ) (held new_held : Resources) (x y : Discovery) (n : ℕ) → new_held ≡ held → x.phase ≡ live → IsKept x → IsCalm x
    → y ≡ with_puts (wrote n x) → GoesAlone l held (wrote n x) new_held y
live_goes l held new_held x y n held_is lives kept calm is =
    let w = wrote n x in
    let p = with_puts w in
    let w_lives : w.phase ≡ live = ap went lives in
    let was = wrote_kept x n kept calm in
    let now = puts_steady w was.0 was.1 calm.empty_handed.0 calm.empty_handed.1 in
    record {
      part = p;
      leads = subst (λ (h : Resources). Leads nobody l (state (alone held) w) (state (alone h) p)) (sym held_is)
          (puts_lead nobody l (alone held) w w_lives);
      agrees = agrees_same p y (sym is);
      so = subst (λ (q : Phase). SteadyBy q p) (sym (puts_phase (nat_lt 0 (sendable w)) w ∙ w_lives)) now;
    }

-- what the link's own phase makes of bytes that went
went_live : (s : Stage) (n : ℕ) (x : Discovery) → phase_of s ≡ live → put_by (is_live s) (wrote_by s n x) ≡ with_puts (wrote n x)
went_live stage.Live n x is = refl
went_live s n x is = cc

went_faulted : (s : Stage) (n code : ℕ) (x : Discovery) → phase_of s ≡ faulted code → put_by (is_live s) (wrote_by s n x) ≡ wrote n x
went_faulted (stage.Faulted c) n code x is = refl
went_faulted s n code x is = cc

-- bytes went
pub went_enters : (old new : State) (k next : Link) (n : ℕ) → Keeps old new k next → new.held ≡ old.held
    → part_of next ≡ put_by (is_live k.phase) (wrote_by k.phase n (part_of k)) → Goes k.number n old new
went_enters old new k next n all held part bytes many = (
  all.config,
  λ m shows may.
      let x = m.links k.number in
      let s = its_link old new k next all m shows in
      let goes : GoesAlone k.number old.held (wrote n x) new.held (part_of next) =
      ⊎_elim
      (λ quiet.
      let is : x ≡ part_of k = is_part old new k next all m shows live quiet.1 in
      let kept = steady old new k next all m shows live quiet.1 in
      live_goes k.number old.held new.held x (part_of next) n held quiet.1 kept.0 kept.1
      (part ∙ went_live k.phase n (part_of k) (sym s.2.phase ∙ quiet.1) ∙ ap (λ (v : Discovery). with_puts (wrote n v)) (sym is)))
      (λ fault.
      let phase : phase_of k.phase ≡ faulted fault.0 = sym s.2.phase ∙ fault.1 in
      ends_so old new k next all m shows (cause.ConnFault fault.0) (wrote n x) (part_of next) held (ap went fault.1)
      (ap (λ (v : Discovery). v.phase) (part ∙ went_faulted k.phase n fault.0 (part_of k) phase) ∙ ap went phase))
      may.0 in
      link_reaches old new k next all m shows (while_open (wrote (length bytes)))
      (subst (λ (v : Discovery). GoesAlone k.number old.held v new.held (part_of next))
      (sym (open_changes (wrote (length bytes)) m k.number (⊎_elim (λ quiet. inl quiet.1) (λ fault. inr fault) may.0)))
      (subst (λ i. GoesAlone k.number old.held (wrote i x) new.held (part_of next)) (sym many) goes)),
)
