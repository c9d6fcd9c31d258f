-- What is looked at and done between entries stands on links that go on, and all that came is looked at.
use Rattle.std.proofs.Common.{◌≡◌, ℕ, Bool, true, false, ◌||◌, ◌&&◌, not, List, [], ◌∷◌, ◌++◌, refl, ap, ◌∙◌, sym, subst}
use Rattle.std.specs.List.{list_any}
use Rattle.std.proofs.lemmas.Bool.{both_ways}
use Rattle.std.proofs.lemmas.List.Folds.{list_any-append}
use Rattle.hb_conn.specs.Observed.{octets_held}
use Rattle.hb_history.proofs.Steady.{held_partial}
use Rattle.hb_world.proofs.LifeLemmas.{or-false, or-true, and-false}
use Rattle.hb_model.specs.declared.config.NodeConfig.{NodeConfig}
use Rattle.hb_model.specs.Discovery.{Phase, unborn, dialling, live, faulted, ending, closed}
use Rattle.hb_model.specs.Machine.{Machine}
use Rattle.hb_model.specs.Point.{Point, entry, looked, applied, refused, used, put, stopped, entries}
use Rattle.hb_model.specs.Calls.{Was, is_opened_of}
use Rattle.hb_model.specs.Inner.{GoesOn, is_stop, InnerMayStand, IsLookedAt, AllLookedAt}
use Rattle.hb_model.specs.Laws.{RunsObeyInner, RunsLookAtAll}
use Rattle.hb_model.specs.Runs.{Steps, StandsFor, begins, goes_on, IsCalm, IsQuiet, IsCalmBy}
use Rattle.hb_model.proofs.AtOnce.{OfEach, at_once}
use Rattle.hb_model.proofs.Births.{plain}
use Rattle.hb_model.proofs.Places.{at_points, at_entries}
use Rattle.hb_model.proofs.CallsSaid.{Said, seen}
use Rattle.hb_model.proofs.CallsSteps.{own_keeps}
use Rattle.hb_model.proofs.CallsPhases.{Fits}
use Rattle.hb_model.proofs.CallsLives.{lived, fits_at, readable_at}
use Rattle.hb_model.proofs.ConnectionsRun.{all_one}
use Rattle.hb_model.proofs.EndsLaw.{ended_all, lasts_at}

-- a run is over where it was stopped
over_next : (g : NodeConfig) (m n : Machine) (points : List Point) (p : Point) → m.over ≡ list_any is_stop points → Steps g m p n
    → n.over ≡ (list_any is_stop points || is_stop p)
over_next g m n points (entry x) is steps =
    ap (λ (z : Machine). z.over) steps.1 ∙ is ∙ sym (or-false (list_any is_stop points))
over_next g m n points (stopped why) is steps = ap (λ (z : Machine). z.over) steps.1 ∙ sym (or-true (list_any is_stop points))
over_next g m n points p is steps =
    (own_keeps g m n p refl steps).over ∙ is ∙ sym (or-false (list_any is_stop points))

stop-grows : (points : List Point) (p : Point) → list_any is_stop (points ++ p ∷ []) ≡ (list_any is_stop points || is_stop p)
stop-grows points p =
    list_any-append is_stop points (p ∷ []) ∙ ap (λ (b : Bool). list_any is_stop points || b) (or-false (is_stop p))

pub over_is : (g : NodeConfig) (m : Machine) (points : List Point) → StandsFor g m points → m.over ≡ list_any is_stop points
over_is g m points (begins is none) = ap (λ (z : Machine). z.over) is ∙ sym (ap (list_any is_stop) none)
over_is g n more (goes_on {m = m} {points = points} stands p steps are) =
    over_next g m n points p (over_is g m points stands) steps ∙ sym (stop-grows points p) ∙ sym (ap (list_any is_stop) are)

-- a link that is live goes on
goes_on_at : (g : NodeConfig) (m : Machine) (points : List Point) → StandsFor g m points → (l : ℕ) → (m.links l).phase ≡ live
    → GoesOn l points
unfolding Fits
goes_on_at g m points stands l is =
    let said = fits_at m points l live (lived g m points stands) is in
    record {
      control = (plain g m points stands l).control ∙ ap (λ (s : Said). s.born) said;
      readable = readable_at l points said;
      lasts = lasts_at m points l (ended_all g m points stands) is;
    }

inner_stands : (g : NodeConfig) (m n : Machine) (points : List Point) (p : Point) → StandsFor g m points → Steps g m p n
    → InnerMayStand points p
inner_stands g m n points (entry x) stands steps = tt
inner_stands g m n points (looked l ps told headers) stands steps = goes_on_at g m points stands l steps.0
inner_stands g m n points (applied l r) stands steps = goes_on_at g m points stands l steps.0
inner_stands g m n points (refused l) stands steps = goes_on_at g m points stands l steps.0
inner_stands g m n points (used l k) stands steps = goes_on_at g m points stands l steps.0
inner_stands g m n points (put l bytes) stands steps = goes_on_at g m points stands l steps.0
inner_stands g m n points (stopped why) stands steps = sym (over_is g m points stands) ∙ steps.0

pub obey_inner : RunsObeyInner
obey_inner g m points stands =
    at_points g InnerMayStand (λ k n before p runs steps. inner_stands g k n before p runs steps) m points stands

-- while all is quiet a link that lives, is open and hasn't ended is live, and nothing more happens on it by itself
pub calm_at : (g : NodeConfig) (m : Machine) (points : List Point) → StandsFor g m points → IsQuiet m
    → OfEach points (λ l. Was (is_opened_of l) (entries points) → ((m.links l).phase ≡ live) × IsCalm (m.links l))
unfolding Fits
calm_at g m points stands quiet l control living none was =
    by (m.links l).phase refl (seen l points) ((lived g m points stands).fits l) living was
  where
    by : (phase : Phase) → (m.links l).phase ≡ phase → (s : Said) → Fits phase s → (s.born && not s.closed) ≡ true
        → s.opened ≡ true → ((m.links l).phase ≡ live) × IsCalm (m.links l)
    by unborn is s fits living was = absurd (let gone : s.opened ≡ false = rw fits refl in both_ways _ gone was)
    by dialling is s fits living was = absurd (let gone : s.opened ≡ false = rw fits refl in both_ways _ gone was)
    by live is s fits living was = (is, subst (λ (p : Phase). IsCalmBy p (m.links l)) is (quiet.calm l))
    by (faulted code) is s fits living was = absurd (subst (λ (p : Phase). IsCalmBy p (m.links l)) is (quiet.calm l))
    by (ending why) is s fits living was = absurd (subst (λ (p : Phase). IsCalmBy p (m.links l)) is (quiet.calm l))
    by closed is s fits living was =
        absurd (let gone : (s.born && not s.closed) ≡ false = rw fits (and-false s.born) in both_ways _ gone living)

-- then all that came on it is looked at
looked_at : (g : NodeConfig) (m : Machine) (points : List Point) → StandsFor g m points → IsQuiet m
    → OfEach points (λ l. Was (is_opened_of l) (entries points) → IsLookedAt points l)
looked_at g m points stands quiet l control living none was =
    let conn = (m.links l).conn in
    record {
      held = octets_held conn;
      came = record {
        joined = (all_one g m points stands l).stands.came.frames_are;
        partial = held_partial conn (calm_at g m points stands quiet l control living none was).1.looked_at.1;
      };
    }

pub look_at_all : RunsLookAtAll
look_at_all g m points stands =
    at_entries g AllLookedAt (λ n before x runs may. at_once g n before runs _ (looked_at g n before runs) x may) m points stands
