-- At each entry of the whole trace, of whatever part, the laws of the links to the control plane hold.
use Rattle.std.proofs.Common.{◌≡◌, ◌≢◌, inl, ℕ, Bool, true, false, List, [], ◌∷◌, ◌++◌, Some, refl, ap, sym, ◌∙◌, subst}
use Rattle.std.proofs.lemmas.Bool.{both_ways, false≢true}
use Rattle.hb_model.proofs.AllPut.{put_all}
use Rattle.hb_model.proofs.Births.{plain}
use Rattle.hb_model.proofs.CallsLives.{lived, calls_in_order}
use Rattle.hb_model.proofs.CallsPhases.{Fits}
use Rattle.hb_model.proofs.CallsSaid.{Said, seen}
use Rattle.hb_model.proofs.DialsHeld.{is_held, other-rests}
use Rattle.hb_model.proofs.EndsLaw.{ends_are_first}
use Rattle.hb_model.proofs.Grown.{IsBorn}
use Rattle.hb_model.proofs.Heard.{hear_all}
use Rattle.hb_model.proofs.ConnectionsRun.{obey_connections}
use Rattle.hb_model.proofs.Inner.{obey_inner, look_at_all}
use Rattle.hb_model.proofs.MessagesAtOnce.{applied_at_once}
use Rattle.hb_model.proofs.MessagesRun.{obey_messages}
use Rattle.hb_model.proofs.OwnFrames.{send_own_frames}
use Rattle.hb_model.proofs.RequestsRun.{obey_requests}
use Rattle.hb_model.proofs.WindowsFit.{obey_windows}
use Rattle.hb_model.specs.Calls.{AtEntry, IsControl}
use Rattle.hb_model.specs.Discovery.{Phase, unborn, dialling, live, faulted, ending, closed}
use Rattle.hb_model.specs.Ends.{NoneEnded, EndMayStand}
use Rattle.hb_model.specs.Inner.{AllLookedAt, AllHeard}
use Rattle.hb_model.specs.Machine as control
use Rattle.hb_model.specs.Messages.{AllMayBeApplied}
use Rattle.hb_model.specs.Point as point
use Rattle.hb_model.specs.Runs as model
use Rattle.hb_model.specs.Runs.{IsCalmBy}
use Rattle.hb_model.specs.declared.config.NodeConfig.{NodeConfig}
use Rattle.hb_world.specs.Trace.{lives}
use Rattle.hb_world.specs.declared.entry.Entry.{Entry}
use Rattle.hb_world.specs.declared.entry.Entry.TheVariants as e
use Rattle.hb_world.specs.declared.entry.Way.TheVariants as way
use Rattle.hb_proxy.specs.Control.{AtEntries}
use Rattle.hb_proxy.specs.Laws.{RunsObeyEntries, RunsObeyControl, RunsPutAll}
use Rattle.hb_proxy.specs.Machine.{Machine}
use Rattle.hb_proxy.specs.Owners.{control_plane, owner, link_of}
use Rattle.hb_proxy.specs.Points.{Point, of_control, of_link, of_plain, of_gate, of_stream, entry_in, entries, control_in, control_of}
use Rattle.hb_proxy.specs.Runs.{ControlRests, Steps, StandsFor}
use Rattle.hb_proxy.proofs.Own.{own_at, elsewhere}
use Rattle.hb_proxy.proofs.Owned.{all_owned}
use Rattle.hb_proxy.proofs.Places.{at_points, rests_of}
use Rattle.hb_proxy.proofs.Projection.{control_runs}
use Rattle.hb_proxy.proofs.Stopped.{is_going, over_rests}

-- WHERE THE CONTROL PLANE RESTS

module _ (g : NodeConfig) (m : control.Machine) (points : List point.Point) (stands : model.StandsFor g m points)
    (rests : ControlRests m) where
  held_where : (l : ℕ) → lives l (point.entries points) ≡ true → is_held (m.links l).phase ≡ true
  held_where l living = by (is_held (m.links l).phase) refl
    where
      by : (b : Bool) → is_held (m.links l).phase ≡ b → is_held (m.links l).phase ≡ true
      by true is = is
      by false is =
          absurd (both_ways _ (other-rests (m.links l).phase (seen l points) ((lived g m points stands).fits l) is) living)

  -- behind the end of the run none lives
  none_lives : m.over ≡ true → (l : ℕ) → lives l (point.entries points) ≡ true → ⊥
  none_lives over l living =
      by (m.links l).phase (rests.calm l) (held_where l living) (over_rests g m points stands over l)
    where
      by : (phase : Phase) → IsCalmBy phase (m.links l) → is_held phase ≡ true → is_going phase ≡ false → ⊥
      by unborn calm held going = false≢true held
      by dialling calm held going = false≢true (sym going)
      by live calm held going = false≢true (sym going)
      by (faulted code) calm held going = calm
      by (ending why) calm held going = calm
      by closed calm held going = false≢true held

  -- while the run goes on a tick may come: what the laws say there holds here
  pub ticked : m.over ≡ false → model.StandsFor g (control.entered g e.Tick m) (points ++ point.entry e.Tick ∷ [])
  ticked goes =
      model.goes_on stands (point.entry e.Tick) (record { no_dial = rests.no_dial; goes = goes; calm = rests.calm }, refl) refl

  each : (P : List point.Point → Entry → Type 0) → (m.over ≡ true → P points e.Tick)
      → (m.over ≡ false → P points e.Tick) → P points e.Tick
  each P over goes = by m.over refl
    where
      by : (b : Bool) → m.over ≡ b → P points e.Tick
      by true is = over is
      by false is = goes is

  pub rests_none_ended : NoneEnded points
  rests_none_ended =
      each EndMayStand (λ over l control living. absurd (none_lives over l living))
      (λ goes. ends_are_first g _ _ (ticked goes) points e.Tick [] refl)

  pub rests_applied : AllMayBeApplied points e.Tick
  rests_applied =
      each AllMayBeApplied (λ over l control living none. absurd (none_lives over l living))
      (λ goes. applied_at_once g _ _ (ticked goes) points e.Tick [] refl)

  pub rests_looked : AllLookedAt points e.Tick
  rests_looked =
      each AllLookedAt (λ over l control living none was. absurd (none_lives over l living))
      (λ goes. look_at_all g _ _ (ticked goes) points e.Tick [] refl)

  pub rests_heard : AllHeard points e.Tick
  rests_heard =
      each AllHeard (λ over l control living none was. absurd (none_lives over l living))
      (λ goes. hear_all g _ _ (ticked goes) points e.Tick [] refl)

-- a link to the control plane is born
pub control_is_born : (g : NodeConfig) (m : control.Machine) (points : List point.Point) → model.StandsFor g m points → (l : ℕ)
    → IsControl l (point.entries points) → IsBorn (m.links l).phase
unfolding Fits
control_is_born g m points stands l is =
    by (m.links l).phase ((lived g m points stands).fits l) (sym (plain g m points stands l).control ∙ is)
  where
    by : (phase : Phase) → Fits phase (seen l points) → (seen l points).born ≡ true → IsBorn phase
    by unborn fits born = absurd (false≢true (sym (ap (λ (s : Said). s.born) fits) ∙ born))
    by dialling fits born = tt
    by live fits born = tt
    by (faulted code) fits born = tt
    by (ending why) fits born = tt
    by closed fits born = tt

-- AT EACH ENTRY

-- of another part: nothing of the control plane has ended, and the entry stands on none of its links
ends_at : (points : List point.Point) (z : Entry) → NoneEnded points
    → ((k : ℕ) → link_of z ≡ Some k → IsControl k (point.entries points) → ⊥) → EndMayStand points z
ends_at points (e.Closed k why) none apart = λ control. absurd (apart k refl control)
ends_at points (e.Went k bytes) none apart = inl none
ends_at points (e.Broke k) none apart = inl none
ends_at points (e.Balked (way.Write k)) none apart = inl none
ends_at points (e.Balked (way.Read k)) none apart = none
ends_at points (e.Balked (way.Finish k)) none apart = none
ends_at points (e.Balked (way.Accept d)) none apart = none
ends_at points (e.Balked (way.Look k)) none apart = none
ends_at points (e.Balked (way.Listen d to listening)) none apart = none
ends_at points _ none apart = none

-- a law of the control plane's entries is one at each entry, where it holds at those of other parts
module _ (P : List point.Point → Entry → Type 0)
    (law : (g : NodeConfig) (m : control.Machine) (points : List point.Point) → model.StandsFor g m points → AtEntry P points)
    (others : (g : NodeConfig) (x : Machine) (before : List Point) (z : Entry) → StandsFor g x before → ControlRests x.control
    → ((k : ℕ) → link_of z ≡ Some k → owner k (entries before) ≢ control_plane) → P (control_of before) z) where
  AtIt : List Point → Point → Type 0
  AtIt before p = (z : Entry) → entry_in p ≡ z ∷ [] → P (control_of before) z

  other_next : (g : NodeConfig) (x y : Machine) (before : List Point) (p : Point) → StandsFor g x before → Steps g x p y
      → control_in p ≡ [] → AtIt before p
  unfolding AtIt
  other_next g x y before p stands steps none z is =
      others g x before z stands (rests_of g x y p steps none z is)
      (elsewhere before p (own_at g x before (all_owned g x before stands) p y steps) none z is)

  next : (g : NodeConfig) (x y : Machine) (before : List Point) (p : Point) → StandsFor g x before → Steps g x p y → AtIt before p
  unfolding AtIt
  next g x y before (of_control (point.entry en)) stands steps z is =
      let same : en ≡ z = cc in
      subst (P (control_of before)) same
      (law g steps.0 (control_of before ++ point.entry en ∷ [])
      (model.goes_on (control_runs g x before stands) (point.entry en) steps.1 refl) (control_of before) en [] refl)
  next g x y before (of_control _) stands steps z is = absurd cc
  next g x y before (of_link l p) stands steps z is = other_next g x y before (of_link l p) stands steps refl z is
  next g x y before (of_plain l p) stands steps z is = other_next g x y before (of_plain l p) stands steps refl z is
  next g x y before (of_gate n p) stands steps z is = other_next g x y before (of_gate n p) stands steps refl z is
  next g x y before (of_stream l n s w) stands steps z is = absurd cc

  at_all : (g : NodeConfig) (x : Machine) (points : List Point) → StandsFor g x points → AtEntries P points
  unfolding AtIt
  at_all g x points stands before p z behind are is = at_points g AtIt (next g) x points stands before p behind are z is

-- so it is no link to the control plane in its points
no_control : (g : NodeConfig) (x : Machine) (before : List Point) → StandsFor g x before → (k : ℕ)
    → owner k (entries before) ≢ control_plane → IsControl k (point.entries (control_of before)) → ⊥
no_control g x before stands k other control =
    other ((all_owned g x before stands).control k
    (control_is_born g x.control (control_of before) (control_runs g x before stands) k control))

pub obey_entries : RunsObeyEntries
obey_entries g x points stands = record {
  ends = at_all EndMayStand ends_are_first
      (λ g x before z stands rests apart. ends_at (control_of before) z
      (rests_none_ended g x.control (control_of before) (control_runs g x before stands) rests)
      (λ k on. no_control g x before stands k (apart k on))) g x points stands;
  applied = at_all AllMayBeApplied applied_at_once
      (λ g x before z stands rests apart.
      rests_applied g x.control (control_of before) (control_runs g x before stands) rests) g x points stands;
  looked = at_all AllLookedAt look_at_all
      (λ g x before z stands rests apart.
      rests_looked g x.control (control_of before) (control_runs g x before stands) rests) g x points stands;
  heard = at_all AllHeard hear_all
      (λ g x before z stands rests apart.
      rests_heard g x.control (control_of before) (control_runs g x before stands) rests) g x points stands;
}

pub obey_control : RunsObeyControl
obey_control g x points stands =
    let runs = control_runs g x points stands in
    record {
      calls = calls_in_order g x.control (control_of points) runs;
      inner = obey_inner g x.control (control_of points) runs;
      messages = obey_messages g x.control (control_of points) runs;
      connections = obey_connections g x.control (control_of points) runs;
      requests = obey_requests g x.control (control_of points) runs;
      frames = send_own_frames g x.control (control_of points) runs;
      windows = obey_windows g x.control (control_of points) runs;
    }

pub puts_all : RunsPutAll
puts_all g x points l stands alive calm none =
    put_all g x.control (control_of points) l (control_runs g x points stands) alive calm none
