-- How far a link is, and why it ended.
use Rattle.std.proofs.Common.{◌≡◌, ℕ, Bool, true, false, ◌||◌, List, [], ◌∷◌, ◌++◌, Option, Some, None, refl, ap, ap₂, ◌∙◌, sym, subst, ⊎_elim}
use Rattle.std.proofs.lemmas.Bool.{both_ways}
use Rattle.std.proofs.lemmas.List.{append_assoc}
use Rattle.std.specs.List.{list_any}
use Rattle.std.specs.Prelude.{⊤}
use Rattle.hb_base.specs.declared.cause.Cause.{Cause}
use Rattle.hb_base.specs.declared.cause.Cause.TheVariants as cause
use Rattle.hb_base.specs.declared.door.Why.{Why}
use Rattle.hb_base.specs.declared.target.Target.{Target}
use Rattle.hb_world.specs.declared.entry.Entry.TheVariants as e
use Rattle.hb_model.specs.Discovery.{Discovery, Phase, unborn, dialling, live, faulted, ending, closed, stopped_for, phase_by, end_by, answered_by}
use Rattle.hb_model.specs.Point.{Point, entry, entry_in, stopped}
use Rattle.hb_model.specs.Calls.{is_went_of}
use Rattle.hb_model.specs.Ends.{end_in, answered_in, end_of, IsFaultedOn}
use Rattle.hb_model.proofs.Places.{any-grows}
use Rattle.hb_model.proofs.CallsSaid.{Silent, eqb-self}
use Rattle.hb_model.proofs.CallsSteps.{Becomes, stays, is_born, opens, peer_ends, breaks, breaks_faulted, writes, writes_faulted, closes, looks, refuses, stops}
use Rattle.hb_model.proofs.CallsPhases.{ended_by}
use Rattle.hb_model.proofs.EndsFirst.{answered_on, answered-grows, end-now, end-before}

-- why a link in each phase ended, in a run that goes on or is over, and that what it knows of a status 200 is so
unfoldable pub EndFits : Bool → Bool → ℕ → List Point → Phase → Type 0
EndFits over answered k points unborn = (over ≡ false → end_of k points ≡ None) × (answered_on k points ≡ false)
EndFits over answered k points dialling = (end_of k points ≡ None) × (answered ≡ answered_on k points)
EndFits over answered k points live = (end_of k points ≡ None) × (answered ≡ answered_on k points)
EndFits over answered k points (faulted code) = (end_of k points ≡ Some (cause.ConnFault code)) × IsFaultedOn k points
EndFits over answered k points (ending why) = end_of k points ≡ Some why
EndFits over answered k points closed = ⊤

in_phase : (over answered : Bool) (k : ℕ) (points : List Point) (old new : Phase) → old ≡ new → EndFits over answered k points old
    → EndFits over answered k points new
in_phase over answered k points old new is fits = subst (λ (phase : Phase). EndFits over answered k points phase) is fits

-- what a point makes of a run's end
pub record Over (old new : Bool) (p : Point) : Type 0 where
  pub went_on : new ≡ false → old ≡ false
  pub stopped_by : (why : Cause) → p ≡ stopped why → new ≡ true
  pub dialled : (l : ℕ) (to : Target) (why : Why) → p ≡ entry (e.Dialled l to why) → old ≡ false

-- nothing is written behind a connection error by this point either
faulted-grows : (k : ℕ) (points : List Point) (p : Point) → list_any (is_went_of k) (entry_in p) ≡ false → IsFaultedOn k points
    → IsFaultedOn k (points ++ p ∷ [])
faulted-grows k points p silent h = record {
  before = h.before;
  p = h.p;
  behind = h.behind ++ p ∷ [];
  code = h.code;
  points_are = ap (λ (ps : List Point). ps ++ p ∷ []) h.points_are ∙ append_assoc h.before (h.p ∷ h.behind) (p ∷ []);
  lasted = h.lasted;
  faulted = h.faulted;
  unwritten = any-grows (is_went_of k) h.behind p ∙ ap₂ (λ (a b : Bool). a || b) h.unwritten silent;
}

answered-same : (k : ℕ) (points : List Point) (p : Point) (answered : Bool) → answered ≡ answered_on k points
    → ((a : Bool) → answered_in k a p ≡ a) → answered ≡ answered_on k (points ++ p ∷ [])
answered-same k points p answered is same = is ∙ sym (same (answered_on k points)) ∙ sym (answered-grows k points p)

stays_by : (old new : Bool) (answered : Bool) (k : ℕ) (points : List Point) (p : Point) (phase : Phase) → (new ≡ false → old ≡ false)
    → Silent k p → EndFits old answered k points phase → EndFits new answered k (points ++ p ∷ []) phase
unfolding EndFits
stays_by old new answered k points p unborn on silent fits = (
  λ is. end-now k points p None (fits.0 (on is)) (silent.ends (answered_on k points)),
  sym (answered-same k points p false (sym fits.1) silent.answers),
)
stays_by old new answered k points p dialling on silent fits =
    (end-now k points p None fits.0 (silent.ends (answered_on k points)), answered-same k points p answered fits.1 silent.answers)
stays_by old new answered k points p live on silent fits =
    (end-now k points p None fits.0 (silent.ends (answered_on k points)), answered-same k points p answered fits.1 silent.answers)
stays_by old new answered k points p (faulted code) on silent fits =
    (end-before k points p (cause.ConnFault code) fits.0, faulted-grows k points p silent.writes fits.1)
stays_by old new answered k points p (ending why) on silent fits = end-before k points p why fits
stays_by old new answered k points p closed on silent fits = tt

looks_by : (new answered : Bool) (k : ℕ) (points : List Point) (p : Point) (o : Option Cause) → end_of k points ≡ None
    → end_of k (points ++ p ∷ []) ≡ o → answered ≡ answered_on k (points ++ p ∷ [])
    → EndFits new answered k (points ++ p ∷ []) (phase_by live o)
unfolding EndFits
looks_by new answered k points p None lasted is same = (is, same)
looks_by new answered k points p (Some why) lasted is same =
    ⊎_elim (λ faults. in_phase new answered k (points ++ p ∷ []) _ _ (sym faults.2)
    (let ends = is ∙ ap Some faults.1 in (
      ends,
      record {
        before = points;
        p = p;
        behind = [];
        code = faults.0;
        points_are = refl;
        lasted = lasted;
        faulted = ends;
        unwritten = refl;
      },
    )))
    (λ ends. in_phase new answered k (points ++ p ∷ []) _ _ (sym ends) is) (ended_by why)

stops_by : (old new answered : Bool) (k : ℕ) (points : List Point) (why : Cause) (phase : Phase) → new ≡ true
    → EndFits old answered k points phase → EndFits new answered k (points ++ stopped why ∷ []) (stopped_for why phase)
unfolding EndFits
stops_by old new answered k points why unborn over fits =
    (λ is. absurd (both_ways _ is over), sym (answered-same k points (stopped why) false (sym fits.1) (λ a. refl)))
stops_by old new answered k points why dialling over fits = end-now k points (stopped why) (Some why) fits.0 refl
stops_by old new answered k points why live over fits = end-now k points (stopped why) (Some why) fits.0 refl
stops_by old new answered k points why (faulted code) over fits =
    (end-before k points (stopped why) (cause.ConnFault code) fits.0, faulted-grows k points (stopped why) refl fits.1)
stops_by old new answered k points why (ending by) over fits = end-before k points (stopped why) by fits
stops_by old new answered k points why closed over fits = tt

-- a link in this phase may go on
goes_by : (old new : Bool) (k : ℕ) (x y : Discovery) (points : List Point) (p : Point)
    → (end_of k points ≡ None) × (x.answered ≡ answered_on k points) → ((a : Bool) → end_in k a p ≡ None)
    → ((a : Bool) → answered_in k a p ≡ a) → y.phase ≡ live → y.answered ≡ x.answered
    → EndFits new y.answered k (points ++ p ∷ []) y.phase
unfolding EndFits
goes_by old new k x y points p fits ends answers now same =
    in_phase new y.answered k (points ++ p ∷ []) _ _ (sym now)
    (end-now k points p None fits.0 (ends _), answered-same k points p y.answered (same ∙ fits.1) answers)

ends_by : (new answered : Bool) (k : ℕ) (points : List Point) (p : Point) (why : Cause) (phase : Phase) → phase ≡ ending why
    → end_of k (points ++ p ∷ []) ≡ Some why → EndFits new answered k (points ++ p ∷ []) phase
unfolding EndFits
ends_by new answered k points p why phase now is =
    subst (λ (q : Phase). EndFits new answered k (points ++ p ∷ []) q) (sym now) is

pub ends_next : (old new : Bool) (k : ℕ) (x y : Discovery) (points : List Point) (p : Point) → Over old new p → Becomes k x y p
    → EndFits old x.answered k points x.phase → EndFits new y.answered k (points ++ p ∷ []) y.phase
unfolding EndFits
ends_next old new k x y points p over (stays silent now same) fits =
    subst (λ (a : Bool). EndFits new a k (points ++ p ∷ []) y.phase) (sym same)
    (in_phase new x.answered k (points ++ p ∷ []) _ _ (sym now)
    (stays_by old new x.answered k points p x.phase over.went_on silent fits))
ends_next old new k x y points p over (is_born to why is was now none) fits =
    let before = in_phase old x.answered k points _ _ was fits in
    in_phase new y.answered k (points ++ p ∷ []) _ _ (sym now) (
      end-now k points p None (before.0 (over.dialled k to why is)) (rw is refl),
      answered-same k points p y.answered (none ∙ sym before.1) (λ a. rw is refl),
    )
ends_next old new k x y points p over (opens is was now same) fits =
    goes_by old new k x y points p (in_phase old x.answered k points _ _ was fits)
    (λ a. rw is refl) (λ a. rw is refl) now same
ends_next old new k x y points p over (peer_ends is was now) fits =
    ends_by new y.answered k points p cause.Broken y.phase now (end-now k points p (Some cause.Broken)
    (in_phase old x.answered k points _ _ was fits).0 (rw (is, eqb-self k) refl))
ends_next old new k x y points p over (breaks is was now) fits =
    ends_by new y.answered k points p cause.Broken y.phase now (end-now k points p (Some cause.Broken)
    (⊎_elim (λ (at : x.phase ≡ dialling). (in_phase old x.answered k points _ _ at fits).0)
    (λ (at : x.phase ≡ live). (in_phase old x.answered k points _ _ at fits).0) was)
    (rw (is, eqb-self k) refl))
ends_next old new k x y points p over (breaks_faulted code is was now) fits =
    ends_by new y.answered k points p (cause.ConnFault code) y.phase now (end-before k points p (cause.ConnFault code)
    (in_phase old x.answered k points _ _ was fits).0)
ends_next old new k x y points p over (writes bytes is was now same) fits =
    goes_by old new k x y points p (in_phase old x.answered k points _ _ was fits)
    (λ a. rw is refl) (λ a. rw is refl) now same
ends_next old new k x y points p over (writes_faulted bytes code is was now) fits =
    ends_by new y.answered k points p (cause.ConnFault code) y.phase now (end-before k points p (cause.ConnFault code)
    (in_phase old x.answered k points _ _ was fits).0)
ends_next old new k x y points p over (closes why is was now) fits =
    in_phase new y.answered k (points ++ p ∷ []) _ _ (sym now) tt
ends_next old new k x y points p over (looks looked told headers is was now same) fits =
    let before = in_phase old x.answered k points _ _ was fits in
    in_phase new y.answered k (points ++ p ∷ []) _ _ (sym now)
    (looks_by new y.answered k points p (end_by x.answered headers told) before.0
    (end-now k points p (end_by x.answered headers told) before.0 (rw (is, eqb-self k, before.1) refl))
    (same ∙ ap (λ (a : Bool). answered_by a headers told) before.1 ∙ sym (answered-grows k points p ∙ rw (is, eqb-self k) refl)))
ends_next old new k x y points p over (refuses is was now) fits =
    ends_by new y.answered k points p cause.Discovery y.phase now (end-now k points p (Some cause.Discovery)
    (in_phase old x.answered k points _ _ was fits).0 (rw (is, eqb-self k) refl))
ends_next old new k x y points p over (stops why is now same) fits =
    subst (λ (a : Bool). EndFits new a k (points ++ p ∷ []) y.phase) (sym same)
    (in_phase new x.answered k (points ++ p ∷ []) _ _ (sym now)
    (subst (λ (q : Point). EndFits new x.answered k (points ++ q ∷ []) (stopped_for why x.phase)) (sym is)
    (stops_by old new x.answered k points why x.phase (over.stopped_by why is) fits)))
