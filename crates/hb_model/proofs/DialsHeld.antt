-- The link to the control plane that a machine has is the one that lives.
use Rattle.std.proofs.Common.{◌≡◌, ◌⊎◌, ℕ, Bool, true, false, ◌&&◌, not, List, Option, Some, None, is_none, refl, ap, ◌∙◌, sym, subst, inl, inr, ⊎_elim}
use Rattle.std.proofs.lemmas.Bool.{cases_eq}
use Rattle.hb_base.specs.declared.cause.Cause.{Cause}
use Rattle.hb_base.specs.declared.door.Why.{Why}
use Rattle.hb_base.specs.declared.door.Why.TheVariants as whys
use Rattle.hb_base.specs.declared.target.Target.{Target}
use Rattle.hb_world.specs.declared.entry.Entry.{Entry}
use Rattle.hb_world.specs.declared.entry.Entry.TheVariants as e
use Rattle.hb_world.proofs.LifeLemmas.{and-false}
use Rattle.hb_model.specs.declared.config.NodeConfig.{NodeConfig}
use Rattle.hb_model.specs.Discovery.{Discovery, Phase, unborn, dialling, live, faulted, ending, closed, stopped_for, closing, phase_by}
use Rattle.hb_model.specs.Point.{Point, entry, stopped}
use Rattle.hb_model.specs.Machine.{Machine, current_after, dials_after, without}
use Rattle.hb_model.specs.Runs.{Steps, StandsFor, begins, goes_on}
use Rattle.hb_model.proofs.CallsSaid.{Said, eqb-self}
use Rattle.hb_model.proofs.CallsSteps.{Becomes, stays, is_born, opens, peer_ends, breaks, breaks_faulted, writes, writes_faulted, closes, looks, refuses, stops, becomes, own_keeps}
use Rattle.hb_model.proofs.CallsPhases.{Fits, ended_by}
use Rattle.hb_model.proofs.CallsLives.{lived}

-- a link in this phase is born and not closed
abbrev pub is_held : Phase → Bool
is_held unborn = false
is_held closed = false
is_held _ = true

pub held-lives : (phase : Phase) (s : Said) → Fits phase s → is_held phase ≡ true → (s.born ≡ true) × (s.closed ≡ false)
unfolding Fits
held-lives unborn s fits held = absurd (cc)
held-lives dialling s fits held = rw fits (refl, refl)
held-lives live s fits held = rw fits (refl, refl)
held-lives (faulted code) s fits held = rw fits (refl, refl)
held-lives (ending why) s fits held = fits
held-lives closed s fits held = absurd (cc)

pub other-rests : (phase : Phase) (s : Said) → Fits phase s → is_held phase ≡ false → (s.born && not s.closed) ≡ false
unfolding Fits
other-rests unborn s fits held = rw fits refl
other-rests dialling s fits held = absurd (cc)
other-rests live s fits held = absurd (cc)
other-rests (faulted code) s fits held = absurd (cc)
other-rests (ending why) s fits held = absurd (cc)
other-rests closed s fits held = rw fits (and-false s.born)

held-looked : (o : Option Cause) → is_held (phase_by live o) ≡ true
held-looked None = refl
held-looked (Some why) = ⊎_elim (λ faults. ap is_held faults.2) (λ ends. ap is_held ends) (ended_by why)

held-stopped : (why : Cause) (phase : Phase) → is_held (stopped_for why phase) ≡ is_held phase
held-stopped why unborn = refl
held-stopped why dialling = refl
held-stopped why live = refl
held-stopped why (faulted code) = refl
held-stopped why (ending by) = refl
held-stopped why closed = refl

pub held-closing : (phase : Phase) (why : Cause) → closing phase ≡ Some why → is_held phase ≡ true
held-closing unborn why is = absurd (cc)
held-closing dialling why is = refl
held-closing live why is = refl
held-closing (faulted code) why is = refl
held-closing (ending by) why is = refl
held-closing closed why is = absurd (cc)

-- a link is held as before, where it isn't dialled and not closed
held-same : (k : ℕ) (x y : Discovery) (p : Point) → ((to : Target) (why : Why) → p ≡ entry (e.Dialled k to why) → ⊥)
    → ((why : Cause) → p ≡ entry (e.Closed k why) → ⊥) → Becomes k x y p → is_held y.phase ≡ is_held x.phase
held-same k x y p undialled unclosed (stays silent now same) = ap is_held now
held-same k x y p undialled unclosed (is_born to why is was now none) = absurd (undialled to why is)
held-same k x y p undialled unclosed (opens is was now same) = ap is_held now ∙ sym (ap is_held was)
held-same k x y p undialled unclosed (peer_ends is was now) = ap is_held now ∙ sym (ap is_held was)
held-same k x y p undialled unclosed (breaks is was now) =
    ap is_held now
    ∙ ⊎_elim (λ (at : x.phase ≡ dialling). sym (ap is_held at)) (λ (at : x.phase ≡ live). sym (ap is_held at)) was
held-same k x y p undialled unclosed (breaks_faulted code is was now) = ap is_held now ∙ sym (ap is_held was)
held-same k x y p undialled unclosed (writes bytes is was now same) = ap is_held now ∙ sym (ap is_held was)
held-same k x y p undialled unclosed (writes_faulted bytes code is was now) = ap is_held now ∙ sym (ap is_held was)
held-same k x y p undialled unclosed (closes why is was now) = absurd (unclosed why is)
held-same k x y p undialled unclosed (looks points told headers is was now same) =
    ap is_held now ∙ held-looked _ ∙ sym (ap is_held was)
held-same k x y p undialled unclosed (refuses is was now) = ap is_held now ∙ sym (ap is_held was)
held-same k x y p undialled unclosed (stops why is now same) = ap is_held now ∙ held-stopped why x.phase

-- the machine's link is held, and no other; while a dial is due there is none
pub record Held (m : Machine) : Type 0 where
  pub only : (k : ℕ) → is_held (m.links k).phase ≡ true → m.current ≡ Some k
  pub current : (k : ℕ) → m.current ≡ Some k → is_held (m.links k).phase ≡ true
  pub idle : m.dials ≡ true → m.current ≡ None

-- the point is the birth of a link, or its close
abbrev turns : Point → Bool
turns (entry (e.Dialled l to why)) = true
turns (entry (e.Closed l why)) = true
turns _ = false

current_by : (m : Machine) (en : Entry) → turns (entry en) ≡ false → current_after m en ≡ m.current
current_by m (e.Dialled l to why) calm = absurd (cc)
current_by m (e.Closed l why) calm = absurd (cc)
current_by m _ calm = refl

current_same : (g : NodeConfig) (m n : Machine) (p : Point) → Steps g m p n → turns p ≡ false → n.current ≡ m.current
current_same g m n (entry en) steps calm = ap (λ (z : Machine). z.current) steps.1 ∙ current_by m en calm
current_same g m n (stopped why) steps calm = ap (λ (z : Machine). z.current) steps.1
current_same g m n p steps calm = (own_keeps g m n p refl steps).current

pub none_of : (o : Option ℕ) → is_none o ≡ true → o ≡ None
none_of None is = refl
none_of (Some k) is = absurd (cc)

-- a dial is due where it was, and behind a tick at which the machine has no link
dials_by : (m : Machine) (en : Entry) → dials_after m en ≡ true → (m.dials ≡ true) ⊎ (m.current ≡ None)
dials_by m (e.Dialled l to whys.Discovery) due = absurd (cc)
dials_by m (e.DialFailed to whys.Discovery) due = absurd (cc)
dials_by m e.Tick due = inr (none_of m.current due)
dials_by m _ due = inl due

dials_were : (g : NodeConfig) (m n : Machine) (p : Point) → Steps g m p n → n.dials ≡ true → (m.dials ≡ true) ⊎ (m.current ≡ None)
dials_were g m n (entry en) steps due = dials_by m en (sym (ap (λ (z : Machine). z.dials) steps.1) ∙ due)
dials_were g m n (stopped why) steps due = absurd (let never = ap (λ (z : Machine). z.dials) steps.1 in cc)
dials_were g m n p steps due = inl (sym (own_keeps g m n p refl steps).dials ∙ due)

calm_on : (g : NodeConfig) (m n : Machine) (p : Point) → ((k : ℕ) → Becomes k (m.links k) (n.links k) p) → Held m → Steps g m p n
    → turns p ≡ false → Held n
calm_on g m n p parts h steps calm = record {
  only = λ k held. kept ∙ h.only k (sym (same k) ∙ held);
  current = λ k is. same k ∙ h.current k (sym kept ∙ is);
  idle = λ due. kept ∙ ⊎_elim h.idle (λ (none : m.current ≡ None). none) (dials_were g m n p steps due);
}
  where
    kept : n.current ≡ m.current
    kept = current_same g m n p steps calm

    same : (k : ℕ) → is_held (n.links k).phase ≡ is_held (m.links k).phase
    same k = held-same k (m.links k) (n.links k) p (λ to why is. absurd (let turn = ap turns is in cc))
        (λ why is. absurd (let turn = ap turns is in cc)) (parts k)

dialled_on : (g : NodeConfig) (m n : Machine) (l : ℕ) (to : Target)
    → ((k : ℕ) → Becomes k (m.links k) (n.links k) (entry (e.Dialled l to whys.Discovery))) → Held m
    → Steps g m (entry (e.Dialled l to whys.Discovery)) n → Held n
dialled_on g m n l to parts h steps = record {
  only = λ k held. kept ∙ ⊎_elim (λ (is : l ≡ k). ap Some is)
      (λ (differs : l ≡ k → ⊥). absurd (let other : None ≡ Some k = sym none ∙ h.only k (sym (same k differs) ∙ held) in cc))
      (cases_eq l k);
  current = λ k is. let mine : l ≡ k = some_same l k (sym kept ∙ is) in
      subst (λ (i : ℕ). is_held (n.links i).phase ≡ true) mine here;
  idle = λ due. absurd (let never = ap (λ (z : Machine). z.dials) steps.1 in cc);
}
  where
    some_same : (i j : ℕ) → Some i ≡ Some j → i ≡ j
    some_same i j is = cc

    kept : n.current ≡ Some l
    kept = ap (λ (z : Machine). z.current) steps.1

    none : m.current ≡ None
    none = h.idle steps.0.0

    here : is_held (n.links l).phase ≡ true
    here = subst (λ (z : Machine). is_held (z.links l).phase ≡ true) (sym steps.1) (rw (eqb-self l) refl)

    same : (k : ℕ) → (l ≡ k → ⊥) → is_held (n.links k).phase ≡ is_held (m.links k).phase
    same k differs =
        held-same k (m.links k) (n.links k) (entry (e.Dialled l to whys.Discovery)) (λ a b is. differs (cc)) (λ b is. absurd (cc)) (parts k)

closed_on : (g : NodeConfig) (m n : Machine) (l : ℕ) (why : Cause)
    → ((k : ℕ) → Becomes k (m.links k) (n.links k) (entry (e.Closed l why))) → Held m → Steps g m (entry (e.Closed l why)) n → Held n
closed_on g m n l why parts h steps = record {
  only = λ k held. ⊎_elim (λ (is : l ≡ k). absurd (let shut : is_held (n.links k).phase ≡ false
      = subst (λ (i : ℕ). is_held (n.links i).phase ≡ false) is here in cc))
      (λ (differs : l ≡ k → ⊥). absurd (differs (let other : Some l ≡ Some k = sym mine ∙ h.only k (sym (same k differs) ∙ held) in cc)))
      (cases_eq l k);
  current = λ k is. absurd (let other : None ≡ Some k = sym none ∙ is in cc);
  idle = λ due. none;
}
  where
    mine : m.current ≡ Some l
    mine = h.only l (held-closing (m.links l).phase why steps.0)

    none : n.current ≡ None
    none = ap (λ (z : Machine). z.current) steps.1 ∙ ap (without l) mine ∙ rw (eqb-self l) refl

    here : is_held (n.links l).phase ≡ false
    here = subst (λ (z : Machine). is_held (z.links l).phase ≡ false) (sym steps.1) (rw (eqb-self l) refl)

    same : (k : ℕ) → (l ≡ k → ⊥) → is_held (n.links k).phase ≡ is_held (m.links k).phase
    same k differs =
        held-same k (m.links k) (n.links k) (entry (e.Closed l why)) (λ a b is. absurd (cc)) (λ b is. differs (cc)) (parts k)

held_on : (g : NodeConfig) (m n : Machine) (p : Point) → ((k : ℕ) → Becomes k (m.links k) (n.links k) p) → Held m → Steps g m p n
    → Held n
held_on g m n (entry (e.Dialled l to why)) parts h steps =
    subst (λ (w : Why). ((k : ℕ) → Becomes k (m.links k) (n.links k) (entry (e.Dialled l to w)))
    → Steps g m (entry (e.Dialled l to w)) n → Held n)
    (sym steps.0.3) (λ each now. dialled_on g m n l to each h now) parts steps
held_on g m n (entry (e.Closed l why)) parts h steps = closed_on g m n l why parts h steps
held_on g m n p parts h steps = calm_on g m n p parts h steps refl

pub held : (g : NodeConfig) (m : Machine) (points : List Point) → StandsFor g m points → Held m
held g m points (begins is none) =
    subst (λ (z : Machine). Held z) (sym is) (record { only = λ k h. absurd (cc); current = λ k h. absurd (cc); idle = λ due. refl })
held g n more (goes_on {m = m} {points = points} stands p steps are) =
    held_on g m n p (becomes g m n p (lived g m points stands).fresh steps) (held g m points stands) steps
