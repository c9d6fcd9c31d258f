-- Each run of the whole is, for the control plane and for each inbound link, a run of its own machine.
use Rattle.std.proofs.Common.{◌≡◌, ℕ, ◌==◌, Bool, true, false, List, [], ◌∷◌, ◌++◌, refl, ap, sym, ◌∙◌, subst, cond, arith}
use Rattle.std.proofs.lemmas.Bool.{eqb-true}
use Rattle.std.proofs.lemmas.List.{append-nil}
use Rattle.std.specs.List.{flat_map}
use Rattle.hb_held.specs.Held.{Resources}
use Rattle.hb_inbound.specs.Inbound.{Inbound}
use Rattle.hb_inbound.specs.Part as part
use Rattle.hb_inbound.specs.Part.{Part}
use Rattle.hb_inbound.specs.Runs as inbound
use Rattle.hb_inbound.specs.Runs.{Local}
use Rattle.hb_model.specs.Machine as control
use Rattle.hb_model.specs.Messages.{held_by}
use Rattle.hb_model.specs.Point as point
use Rattle.hb_model.specs.Runs as model
use Rattle.hb_inbound.proofs.AdmittedRun.{all_admit}
use Rattle.hb_model.proofs.Grown.{one_more}
use Rattle.hb_model.proofs.MessagesRun.{held_is}
use Rattle.hb_model.specs.declared.config.NodeConfig.{NodeConfig}
use Rattle.hb_proxy.specs.Held.{at_start}
use Rattle.hb_proxy.specs.Laws.{ControlRuns, ControlHolds, LinksRun, LinksHold}
use Rattle.hb_proxy.specs.Machine.{Machine, local, with_control, with_part}
use Rattle.hb_proxy.specs.Points.{Point, of_control, of_link, of_plain, of_gate, of_stream, control_in, control_of, part_in, parts_of}
use Rattle.hb_proxy.specs.Runs.{Steps, begins, goes_on}

-- THE CONTROL PLANE

-- a point of another part is none of its points
pub control_same : (points : List Point) (p : Point) → control_in p ≡ [] → control_of (points ++ p ∷ []) ≡ control_of points
control_same points p none =
    one_more control_in points p ∙ ap (λ (qs : List point.Point). control_of points ++ qs) none ∙ append-nil (control_of points)

-- what stands for what the points of a run tell it stands so behind one more: that tells it one thing, or nothing
module _ {P L : Type 0} (told : Point → List P) (state : Machine → L) (Stands : L → List P → Type 0) (points : List Point) (p : Point) where
  pub sees : (y : Machine) (q : P) → told p ≡ q ∷ [] → Stands (state y) (flat_map told points ++ q ∷ [])
      → Stands (state y) (flat_map told (points ++ p ∷ []))
  sees y q is now =
      subst (λ (ps : List P). Stands (state y) ps) (sym (one_more told points p ∙ ap (λ (ps : List P). flat_map told points ++ ps) is)) now

  pub sees_none : (x y : Machine) → told p ≡ [] → state y ≡ state x → Stands (state x) (flat_map told points)
      → Stands (state y) (flat_map told (points ++ p ∷ []))
  sees_none x y none same stands =
      subst (λ (a : L). Stands a (flat_map told (points ++ p ∷ []))) (sym same)
      (subst (λ (ps : List P). Stands (state x) ps)
      (sym (one_more told points p ∙ ap (λ (ps : List P). flat_map told points ++ ps) none ∙ append-nil (flat_map told points))) stands)

control_goes : (g : NodeConfig) (x : Machine) (points : List Point) → model.StandsFor g x.control (control_of points) → (p : Point)
    (y : Machine) → Steps g x p y → model.StandsFor g y.control (control_of (points ++ p ∷ []))
control_goes g x points stands (of_control q) y steps =
    sees control_in (λ (z : Machine). z.control) (model.StandsFor g) points (of_control q) y q refl
    (subst (λ (m : control.Machine). model.StandsFor g m (control_of points ++ q ∷ [])) (sym (ap (λ (z : Machine). z.control) steps.3))
    (model.goes_on stands q steps.1 refl))
control_goes g x points stands (of_link l p) y steps =
    sees_none control_in (λ (z : Machine). z.control) (model.StandsFor g) points (of_link l p) x y refl
    (ap (λ (z : Machine). z.control) steps.3) stands
control_goes g x points stands (of_plain l p) y steps =
    sees_none control_in (λ (z : Machine). z.control) (model.StandsFor g) points (of_plain l p) x y refl
    (ap (λ (z : Machine). z.control) steps.2) stands
control_goes g x points stands (of_gate n p) y steps =
    sees_none control_in (λ (z : Machine). z.control) (model.StandsFor g) points (of_gate n p) x y refl
    (ap (λ (z : Machine). z.control) steps.3) stands
control_goes g x points stands (of_stream l n s w) y steps =
    sees_none control_in (λ (z : Machine). z.control) (model.StandsFor g) points (of_stream l n s w) x y refl
    (ap (λ (z : Machine). z.control) steps.4) stands

pub control_runs : ControlRuns
control_runs g x points (begins is none) =
    model.begins (ap (λ (z : Machine). z.control) is) (ap control_of none)
control_runs g y more (goes_on {x = x} {points = points} stands p steps are) =
    subst (λ (ps : List Point). model.StandsFor g y.control (control_of ps)) (sym are)
    (control_goes g x points (control_runs g x points stands) p y steps)

-- what is held behind a point
pub held_next : (g : NodeConfig) (m next : control.Machine) (q : point.Point) → model.Steps g m q next → next.held ≡ held_by m.held q
held_next g m next (point.entry e) steps = ap (λ (n : control.Machine). n.held) steps.1
held_next g m next (point.looked k ps told headers) steps = ap (λ (n : control.Machine). n.held) steps.4
held_next g m next (point.applied k r) steps = ap (λ (n : control.Machine). n.held) steps.3
held_next g m next (point.refused k) steps = ap (λ (n : control.Machine). n.held) steps.2
held_next g m next (point.used k n) steps = ap (λ (n : control.Machine). n.held) steps.2
held_next g m next (point.put k bytes) steps = ap (λ (n : control.Machine). n.held) steps.3
held_next g m next (point.stopped why) steps = ap (λ (n : control.Machine). n.held) steps.1

-- AN INBOUND LINK

module _ (g : NodeConfig) (x : Machine) (points : List Point) (l : ℕ)
    (stands : inbound.StandsFor l (at_start g) (local x l) (parts_of l points)) where
  abbrev Goes : Machine → Point → Type 0
  Goes y p = inbound.StandsFor l (at_start g) (local y l) (parts_of l (points ++ p ∷ []))

  one : (p : Point) (y : Machine) (q : Part) → part_in l p ≡ q ∷ [] → inbound.Steps l (local x l) q (local y l) → Goes y p
  one p y q is steps =
      sees (part_in l) (λ (z : Machine). local z l) (inbound.StandsFor l (at_start g)) points p y q is (inbound.goes_on stands q steps refl)

  none : (p : Point) (y : Machine) → part_in l p ≡ [] → local y l ≡ local x l → Goes y p
  none p y is same =
      sees_none (part_in l) (λ (z : Machine). local z l) (inbound.StandsFor l (at_start g)) points p x y is same stands

  control_seen : (q : point.Point) (next : control.Machine) → model.Steps g x.control q next
      → Goes (with_control q next x) (of_control q)
  control_seen (point.applied k r) next steps =
      one (of_control (point.applied k r)) (with_control (point.applied k r) next x) (part.applied r) refl
      (ap (λ (h : Resources). record { held = h; link = (with_control (point.applied k r) next x).inbound l })
      (held_next g x.control next (point.applied k r) steps))
  control_seen (point.stopped why) next steps =
      one (of_control (point.stopped why)) (with_control (point.stopped why) next x) (part.stopped why) refl
      (ap (λ (h : Resources). record { held = h; link = (with_control (point.stopped why) next x).inbound l })
      (held_next g x.control next (point.stopped why) steps))
  control_seen q next steps =
      none (of_control q) (with_control q next x) refl
      (ap (λ (h : Resources). record { held = h; link = x.inbound l }) (held_next g x.control next q steps))

  link_seen : (k : ℕ) (p : Part) (next : Inbound) → inbound.Steps k (local x k) p (inbound.with_link next (local x k))
      → Goes (with_part k p next x) (of_link k p)
  link_seen k p next steps = by (k == l) refl
    where
      by : (same : Bool) → (k == l) ≡ same → Goes (with_part k p next x) (of_link k p)
      by false is =
          none (of_link k p) (with_part k p next x) (ap (λ (b : Bool). cond b (p ∷ []) []) is)
          (ap (λ (b : Bool). record { held = x.control.held; link = cond b next (x.inbound l) }) (other l k is))
        where
          other : (a b : ℕ) → (b == a) ≡ false → (a == b) ≡ false
          other a b is = grind (arith, is)
      by true is =
          one (of_link k p) (with_part k p next x) p (ap (λ (b : Bool). cond b (p ∷ []) []) is)
          (let same : k ≡ l = eqb-true k l is in
          subst (λ (j : ℕ). inbound.Steps j (local x j) p (local (with_part k p next x) j)) same
          (subst (λ (a : Local). inbound.Steps k (local x k) p a)
          (ap (λ (b : Bool). record { held = x.control.held; link = cond b next (x.inbound k) }) (sym (itself k))) steps))
        where
          itself : (a : ℕ) → (a == a) ≡ true
          itself a = grind arith

  link_goes : (p : Point) (y : Machine) → Steps g x p y → Goes y p
  link_goes (of_control q) y steps =
      subst (λ (z : Machine). Goes z (of_control q)) (sym steps.3) (control_seen q steps.0 steps.1)
  link_goes (of_link k p) y steps =
      subst (λ (z : Machine). Goes z (of_link k p)) (sym steps.3) (link_seen k p steps.0 steps.1)
  link_goes (of_plain k p) y steps = none (of_plain k p) y refl (ap (λ (z : Machine). local z l) steps.2)
  link_goes (of_gate n p) y steps = none (of_gate n p) y refl (ap (λ (z : Machine). local z l) steps.3)
  link_goes (of_stream k n s w) y steps = none (of_stream k n s w) y refl (ap (λ (z : Machine). local z l) steps.4)

pub links_run : LinksRun
links_run g x points l (begins is none) =
    inbound.begins (ap (λ (z : Machine). local z l) is) (ap (parts_of l) none)
links_run g y more l (goes_on {x = x} {points = points} stands p steps are) =
    subst (λ (ps : List Point). inbound.StandsFor l (at_start g) (local y l) (parts_of l ps)) (sym are)
    (link_goes g x points l (links_run g x points l stands) p y steps)

pub control_holds : ControlHolds
control_holds g x points stands = held_is g x.control (control_of points) (control_runs g x points stands)

-- what is held there is what the control plane's responses make
pub links_hold : LinksHold
links_hold g x points l stands =
    (all_admit l (at_start g) (local x l) (parts_of l points) (links_run g x points l stands)).holds
    ∙ control_holds g x points stands
