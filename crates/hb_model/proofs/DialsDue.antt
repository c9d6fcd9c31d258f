-- When the machine is to dial, and that it dials exactly then.
use Rattle.std.proofs.Common.{◌≡◌, ℕ, true, false, List, [], ◌∷◌, ◌++◌, fold, Some, None, is_none, refl, ap, ◌∙◌, sym, subst, ⊎_elim}
use Rattle.std.proofs.lemmas.Bool.{false_from_ne_true, both_ways}
use Rattle.std.proofs.lemmas.Grind.{fold-append}
use Rattle.hb_base.specs.declared.door.Why.{Why}
use Rattle.hb_base.specs.declared.door.Why.TheVariants as whys
use Rattle.hb_world.specs.Trace.{lives}
use Rattle.hb_world.specs.declared.entry.Entry.{Entry}
use Rattle.hb_world.specs.declared.entry.Entry.TheVariants as e
use Rattle.hb_world.specs.declared.entry.Way.{Way}
use Rattle.hb_world.specs.declared.entry.Way.TheVariants as way
use Rattle.hb_model.specs.declared.config.NodeConfig.{NodeConfig}
use Rattle.hb_model.specs.Point.{Point, entry, stopped, entry_in, entries}
use Rattle.hb_model.specs.Machine.{Machine, fresh, entered, without, dials_after}
use Rattle.hb_model.specs.Runs.{MayCome, MayBalk, Steps, StandsFor, begins, goes_on, IsFaulted, IsQuiet}
use Rattle.hb_model.specs.Dials.{Dialling, at_start, dialling_after, dialling, DialMayStand, DialLaw}
use Rattle.hb_model.proofs.Places.{at_entries, at_trace, entries-grow}
use Rattle.hb_model.proofs.CallsSaid.{seen}
use Rattle.hb_model.proofs.CallsSteps.{own_keeps}
use Rattle.hb_model.proofs.CallsLives.{Lived}
use Rattle.hb_model.proofs.DialsHeld.{is_held, other-rests, held-closing, none_of, Held, held}

-- where a machine has no link none lives
pub none_lives : (m : Machine) (points : List Point) → Lived m points → Held m → m.current ≡ None → (l : ℕ)
    → lives l (entries points) ≡ false
none_lives m points lived h none k =
    other-rests (m.links k).phase (seen k points) (lived.fits k)
    (false_from_ne_true _ (λ is. let other : None ≡ Some k = sym none ∙ h.only k is in cc))

-- in a run that is over no dial is due
over_by : (g : NodeConfig) (m : Machine) (en : Entry) → MayCome g m en → (m.dials ≡ true → m.over ≡ false)
    → dials_after m en ≡ true → m.over ≡ false
over_by g m (e.Dialled l to whys.Discovery) may h due = absurd (cc)
over_by g m (e.DialFailed to whys.Discovery) may h due = absurd (cc)
over_by g m e.Tick may h due = may.goes
over_by g m _ may h due = h due

over_on : (g : NodeConfig) (m n : Machine) (p : Point) → Steps g m p n → (m.dials ≡ true → m.over ≡ false) → n.dials ≡ true
    → n.over ≡ false
over_on g m n (entry en) steps h due =
    ap (λ (z : Machine). z.over) steps.1 ∙ over_by g m en steps.0 h (sym (ap (λ (z : Machine). z.dials) steps.1) ∙ due)
over_on g m n (stopped why) steps h due = absurd (let never = ap (λ (z : Machine). z.dials) steps.1 in cc)
over_on g m n p steps h due = let kept = own_keeps g m n p refl steps in kept.over ∙ h (sym kept.dials ∙ due)

pub runs_on : (g : NodeConfig) (m : Machine) (points : List Point) → StandsFor g m points → m.dials ≡ true → m.over ≡ false
runs_on g m points (begins is none) due = ap (λ (z : Machine). z.over) is
runs_on g n more (goes_on {m = m} {points = points} stands p steps are) due =
    over_on g m n p steps (runs_on g m points stands) due

-- the machine has the link that the trace says, and is to dial where the trace says so, unless it is over
pub record Agrees (m : Machine) (d : Dialling) : Type 0 where
  pub current : m.current ≡ d.control
  pub due : m.over ≡ false → m.dials ≡ d.due
  pub idle : d.due ≡ true → d.control ≡ None

dial_on : (g : NodeConfig) (m : Machine) (d : Dialling) (l : ℕ) (to : _)
    → Agrees (entered g (e.Dialled l to whys.Discovery) m) (dialling_after d (e.Dialled l to whys.Discovery))
dial_on g m d l to = record { current = refl; due = λ on. refl; idle = λ is. absurd (cc) }

failed_on : (g : NodeConfig) (m : Machine) (d : Dialling) (to : _) → Agrees m d
    → Agrees (entered g (e.DialFailed to whys.Discovery) m) (dialling_after d (e.DialFailed to whys.Discovery))
failed_on g m d to h = record { current = h.current; due = λ on. refl; idle = λ is. absurd (cc) }

entry_on : (g : NodeConfig) (m : Machine) (d : Dialling) → Agrees m d → (en : Entry) → MayCome g m en
    → Agrees (entered g en m) (dialling_after d en)
entry_on g m d h (e.Dialled l to why) may =
    subst (λ (w : Why). Agrees (entered g (e.Dialled l to w) m) (dialling_after d (e.Dialled l to w))) (sym may.3) (dial_on g m d l to)
entry_on g m d h (e.DialFailed to why) may =
    subst (λ (w : Why). Agrees (entered g (e.DialFailed to w) m) (dialling_after d (e.DialFailed to w))) (sym may.2)
    (failed_on g m d to h)
entry_on g m d h e.Tick may =
    record { current = h.current; due = λ on. ap is_none h.current; idle = λ is. none_of d.control is }
entry_on g m d h (e.Closed l why) may =
    record { current = ap (without l) h.current; due = h.due; idle = λ is. ap (without l) (h.idle is) }
entry_on g m d h _ may = record { current = h.current; due = h.due; idle = h.idle }

same_machine : (m n : Machine) (d : Dialling) → n.current ≡ m.current → n.dials ≡ m.dials → n.over ≡ m.over → Agrees m d → Agrees n d
same_machine m n d current dials over h =
    record { current = current ∙ h.current; due = λ on. dials ∙ h.due (sym over ∙ on); idle = h.idle }

point_on : (g : NodeConfig) (m n : Machine) (d : Dialling) (p : Point) → Agrees m d → Steps g m p n
    → Agrees n (fold dialling_after d (entry_in p))
point_on g m n d (entry en) h steps =
    subst (λ (z : Machine). Agrees z (dialling_after d en)) (sym steps.1) (entry_on g m d h en steps.0)
point_on g m n d (stopped why) h steps = record {
  current = ap (λ (z : Machine). z.current) steps.1 ∙ h.current;
  due = λ on. absurd (both_ways _ on (ap (λ (z : Machine). z.over) steps.1));
  idle = h.idle;
}
point_on g m n d p h steps =
    let kept = own_keeps g m n p refl steps in same_machine m n d kept.current kept.dials kept.over h

dialling-grows : (points : List Point) (p : Point)
    → dialling (entries (points ++ p ∷ [])) ≡ fold dialling_after (dialling (entries points)) (entry_in p)
dialling-grows points p = ap dialling (entries-grow points p) ∙ fold-append dialling_after at_start (entries points) (entry_in p)

pub agrees : (g : NodeConfig) (m : Machine) (points : List Point) → StandsFor g m points → Agrees m (dialling (entries points))
agrees g m points (begins is none) =
    subst (λ (z : Machine). Agrees z (dialling (entries points))) (sym is)
    (subst (λ (ps : List Point). Agrees (fresh g) (dialling (entries ps))) (sym none)
    (record { current = refl; due = λ on. refl; idle = λ due. refl }))
agrees g n more (goes_on {m = m} {points = points} stands p steps are) =
    subst (λ (ps : List Point). Agrees n (dialling (entries ps))) (sym are)
    (subst (Agrees n) (sym (dialling-grows points p)) (point_on g m n _ p (agrees g m points stands) steps))

module _ (g : NodeConfig) (m : Machine) (d : Dialling) (h : Agrees m d) (links : Held m) (on : m.dials ≡ true → m.over ≡ false) where
  -- while all is quiet no dial is due, nor while there is a link
  quiet_undue : IsQuiet m → d.due ≡ false
  quiet_undue q = sym (h.due q.goes) ∙ q.no_dial

  held_undue : (k : ℕ) → is_held (m.links k).phase ≡ true → d.due ≡ false
  held_undue k is =
      false_from_ne_true _ (λ due. let other : Some k ≡ None = sym (links.only k is) ∙ h.current ∙ h.idle due in cc)

  faulted_undue : (k : ℕ) → IsFaulted m k → d.due ≡ false
  faulted_undue k is = held_undue k (ap is_held is.1)

  told : m.dials ≡ true → d.due ≡ true
  told due = sym (h.due (on due)) ∙ due

  balk_stands : (before : List Entry) → dialling before ≡ d → (w : Way) → MayBalk m w → DialMayStand g before (e.Balked w)
  balk_stands before is (way.Listen door at listening) may = absurd may
  balk_stands before is (way.Accept door) may = absurd may
  balk_stands before is (way.Look l) may = absurd may
  balk_stands before is (way.Finish l) may = ap (λ (x : Dialling). x.due) is ∙ quiet_undue may.0
  balk_stands before is (way.Read l) may = ap (λ (x : Dialling). x.due) is ∙ quiet_undue may.0.0
  balk_stands before is (way.Write l) may =
      ap (λ (x : Dialling). x.due) is ∙ ⊎_elim (λ at. quiet_undue at.0) (λ at. faulted_undue l at) may.0

  dial_stands : (before : List Entry) → dialling before ≡ d → (en : Entry) → MayCome g m en → DialMayStand g before en
  dial_stands before is (e.Accepted l door) may = absurd may
  dial_stands before is (e.Dialled l to why) may =
      subst (λ (w : Why). DialMayStand g before (e.Dialled l to w)) (sym may.3)
      (ap (λ (x : Dialling). x.due) is ∙ told may.0, may.2)
  dial_stands before is (e.DialFailed to why) may =
      subst (λ (w : Why). DialMayStand g before (e.DialFailed to w)) (sym may.2)
      (ap (λ (x : Dialling). x.due) is ∙ told may.0, may.1)
  dial_stands before is (e.Opened l) may = ap (λ (x : Dialling). x.due) is ∙ quiet_undue may.0
  dial_stands before is (e.Came l bytes) may = ap (λ (x : Dialling). x.due) is ∙ quiet_undue may.0.0
  dial_stands before is (e.Ended l) may = ap (λ (x : Dialling). x.due) is ∙ quiet_undue may.0.0
  dial_stands before is (e.Broke l) may =
      ap (λ (x : Dialling). x.due) is
      ∙ ⊎_elim (λ at. quiet_undue at.0) (⊎_elim (λ at. quiet_undue at.0) (λ at. faulted_undue l at)) may
  dial_stands before is (e.Went l bytes) may =
      ap (λ (x : Dialling). x.due) is ∙ ⊎_elim (λ at. quiet_undue at.0) (λ at. faulted_undue l at) may.0
  dial_stands before is (e.Balked w) may = balk_stands before is w may.1
  dial_stands before is (e.Shut l) may = absurd may
  dial_stands before is (e.Closed l why) may =
      ap (λ (x : Dialling). x.due) is ∙ held_undue l (held-closing (m.links l).phase why may)
  dial_stands before is e.Tick may = ap (λ (x : Dialling). x.due) is ∙ quiet_undue may
  dial_stands before is (e.Wait ready how) may = ap (λ (x : Dialling). x.due) is ∙ quiet_undue may

pub dials_when_due : (g : NodeConfig) (m : Machine) (points : List Point) → StandsFor g m points → DialLaw g (entries points)
dials_when_due g m points stands =
    at_trace (DialMayStand g) points (at_entries g (λ before en. DialMayStand g (entries before) en)
    (λ n before en runs may. dial_stands g n (dialling (entries before)) (agrees g n before runs) (held g n before runs)
    (runs_on g n before runs) (entries before) refl en may) m points stands)
