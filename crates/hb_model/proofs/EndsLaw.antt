-- Why each link ended in a run, and that it is closed for that.
use Rattle.std.proofs.Common.{◌≡◌, ℕ, Bool, true, false, ◌&&◌, not, List, Some, None, refl, ap, ◌∙◌, sym, subst, inl, inr, ⊎_elim}
use Rattle.std.proofs.lemmas.Bool.{both_ways}
use Rattle.hb_base.specs.declared.cause.Cause.{Cause}
use Rattle.hb_world.specs.declared.entry.Entry.{Entry}
use Rattle.hb_world.specs.declared.entry.Entry.TheVariants as e
use Rattle.hb_world.specs.Trace.{lives}
use Rattle.hb_world.proofs.LifeLemmas.{and-false}
use Rattle.hb_model.specs.declared.config.NodeConfig.{NodeConfig}
use Rattle.hb_model.specs.Discovery.{Discovery, Phase, unborn, dialling, live, faulted, ending, closed, closing}
use Rattle.hb_model.specs.Point.{Point, entry, stopped}
use Rattle.hb_model.specs.Machine.{Machine}
use Rattle.hb_world.specs.declared.entry.Way.{Way}
use Rattle.hb_world.specs.declared.entry.Way.TheVariants as way
use Rattle.hb_model.specs.Runs.{MayCome, MayBalk, Steps, StandsFor, begins, goes_on, IsFaulted, IsQuiet, IsCalmBy}
use Rattle.hb_model.specs.Ends.{end_of, NoneEnded, IsFaultedOn, EndMayStand, EndLaw}
use Rattle.hb_model.proofs.Places.{at_entries}
use Rattle.hb_model.proofs.CallsSaid.{Said, seen}
use Rattle.hb_model.proofs.CallsSteps.{becomes, own_keeps}
use Rattle.hb_model.proofs.CallsPhases.{Fits, closing-lives}
use Rattle.hb_model.proofs.CallsLives.{Lived, lived, lives_where}
use Rattle.hb_model.proofs.DialsHeld.{Held, held}
use Rattle.hb_model.proofs.DialsDue.{none_lives, runs_on}
use Rattle.hb_model.proofs.EndsFirst.{answered-none}
use Rattle.hb_model.proofs.EndsPhases.{EndFits, Over, ends_next}

over_next : (g : NodeConfig) (m n : Machine) (p : Point) → Steps g m p n → (m.dials ≡ true → m.over ≡ false) → Over m.over n.over p
over_next g m n (entry en) steps h = record {
  went_on = λ is. sym (ap (λ (z : Machine). z.over) steps.1) ∙ is;
  stopped_by = λ why is. absurd (cc);
  dialled = λ l to why is. h (born_may en steps.0 l to why is);
}
  where
    born_may : (en : Entry) → MayCome g m en → (l : ℕ) (to : _) (why : _) → entry en ≡ entry (e.Dialled l to why) → m.dials ≡ true
    born_may en may l to why is = (let same : en ≡ e.Dialled l to why = cc in subst (λ (x : Entry). MayCome g m x) same may).0
over_next g m n (stopped by) steps h = record {
  went_on = λ is. steps.0;
  stopped_by = λ why is. ap (λ (z : Machine). z.over) steps.1;
  dialled = λ k to why is. absurd (cc);
}
over_next g m n p steps h = record {
  went_on = λ is. sym (own_keeps g m n p refl steps).over ∙ is;
  stopped_by = λ why is. absurd (cc);
  dialled = λ l to why is. absurd (cc);
}

-- why each link ended
pub Ended : Machine → List Point → Type 0
Ended m points = (k : ℕ) → EndFits m.over (m.links k).answered k points (m.links k).phase

pub ended_all : (g : NodeConfig) (m : Machine) (points : List Point) → StandsFor g m points → Ended m points
unfolding Ended EndFits
ended_all g m points (begins is none) k =
    subst (λ (z : Machine). EndFits z.over (z.links k).answered k points (z.links k).phase) (sym is)
    (subst (λ (ps : List Point). EndFits false false k ps unborn) (sym none) (λ now. refl, answered-none k))
ended_all g n more (goes_on {m = m} {points = points} stands p steps are) k =
    subst (λ (ps : List Point). EndFits n.over (n.links k).answered k ps (n.links k).phase) (sym are)
    (ends_next m.over n.over k (m.links k) (n.links k) points p (over_next g m n p steps (runs_on g m points stands))
    (becomes g m n p (lived g m points stands).fresh steps k) (ended_all g m points stands k))

-- a link that lives while all is quiet hasn't ended
quiet_by : (over answered : Bool) (k : ℕ) (points : List Point) (x : Discovery) (phase : Phase) (s : Said) → Fits phase s
    → IsCalmBy phase x → EndFits over answered k points phase → (s.born && not s.closed) ≡ true → end_of k points ≡ None
unfolding Fits EndFits
quiet_by over answered k points x unborn s fits calm ends living =
    absurd (let gone : (s.born && not s.closed) ≡ false = rw fits refl in both_ways _ gone living)
quiet_by over answered k points x dialling s fits calm ends living = ends.0
quiet_by over answered k points x live s fits calm ends living = ends.0
quiet_by over answered k points x (faulted code) s fits calm ends living = absurd calm
quiet_by over answered k points x (ending why) s fits calm ends living = absurd calm
quiet_by over answered k points x closed s fits calm ends living =
    absurd (let gone : (s.born && not s.closed) ≡ false = rw fits (and-false s.born) in both_ways _ gone living)

none_ended : (m : Machine) (points : List Point) → Lived m points → Ended m points → IsQuiet m → NoneEnded points
unfolding Ended
none_ended m points lives ends quiet k control living =
    quiet_by m.over (m.links k).answered k points (m.links k) (m.links k).phase (seen k points) (lives.fits k) (quiet.calm k) (ends k)
    living

-- and so it is while no link lives
none_there : (m : Machine) (points : List Point) → Lived m points → Held m → m.dials ≡ true → NoneEnded points
none_there m points lives h due k control living = absurd (both_ways _ (none_lives m points lives h (h.idle due) k) living)

faulted_there : (m : Machine) (points : List Point) (l : ℕ) → Ended m points → IsFaulted m l → IsFaultedOn l points
unfolding Ended EndFits
faulted_there m points l ends at =
    (subst (λ (phase : Phase). EndFits m.over (m.links l).answered l points phase) at.1 (ends l)).1

closing_ended : (over answered : Bool) (k : ℕ) (points : List Point) (phase : Phase) (why : Cause)
    → EndFits over answered k points phase → closing phase ≡ Some why → end_of k points ≡ Some why
unfolding EndFits
closing_ended over answered k points unborn why fits is = absurd (cc)
closing_ended over answered k points dialling why fits is = absurd (cc)
closing_ended over answered k points live why fits is = absurd (cc)
closing_ended over answered k points (faulted code) why fits is = fits.0 ∙ is
closing_ended over answered k points (ending by) why fits is = fits ∙ is
closing_ended over answered k points closed why fits is = absurd (cc)

pub closing_is_end : (m : Machine) (points : List Point) (k : ℕ) (why : Cause) → Ended m points → closing (m.links k).phase ≡ Some why
    → end_of k points ≡ Some why
unfolding Ended
closing_is_end m points k why ends is = closing_ended m.over (m.links k).answered k points (m.links k).phase why (ends k) is

balk_ends : (m : Machine) (points : List Point) (w : Way) → Lived m points → Ended m points → MayBalk m w
    → EndMayStand points (e.Balked w)
unfolding Ended
balk_ends m points (way.Listen door at listening) lives ends may = absurd may
balk_ends m points (way.Accept door) lives ends may = absurd may
balk_ends m points (way.Look l) lives ends may = absurd may
balk_ends m points (way.Finish l) lives ends may = none_ended m points lives ends may.0
balk_ends m points (way.Read l) lives ends may = none_ended m points lives ends may.0.0
balk_ends m points (way.Write l) lives ends may =
    ⊎_elim (λ at. inl (none_ended m points lives ends at.0)) (λ at. inr (faulted_there m points l ends at)) may.0

-- a link that is live hasn't ended
pub lasts_at : (m : Machine) (points : List Point) (k : ℕ) → Ended m points → (m.links k).phase ≡ live → end_of k points ≡ None
unfolding Ended EndFits
lasts_at m points k ends is =
    (subst (λ (phase : Phase). EndFits m.over (m.links k).answered k points phase) is (ends k)).0

end_stands : (g : NodeConfig) (m : Machine) (points : List Point) (en : Entry) → Lived m points → Held m → Ended m points
    → MayCome g m en → EndMayStand points en
unfolding Ended
end_stands g m points (e.Accepted l door) lives h ends may = absurd may
end_stands g m points (e.Dialled l to why) lives h ends may = none_there m points lives h may.0
end_stands g m points (e.DialFailed to why) lives h ends may = none_there m points lives h may.0
end_stands g m points (e.Opened l) lives h ends may = none_ended m points lives ends may.0
end_stands g m points (e.Came l bytes) lives h ends may = none_ended m points lives ends may.0.0
end_stands g m points (e.Ended l) lives h ends may = none_ended m points lives ends may.0.0
end_stands g m points (e.Broke l) lives h ends may =
    ⊎_elim (λ at. inl (none_ended m points lives ends at.0)) (⊎_elim (λ at. inl (none_ended m points lives ends at.0))
    (λ at. inr (faulted_there m points l ends at))) may
end_stands g m points (e.Went l bytes) lives h ends may =
    ⊎_elim (λ at. inl (none_ended m points lives ends at.0)) (λ at. inr (faulted_there m points l ends at)) may.0
end_stands g m points (e.Balked w) lives h ends may = balk_ends m points w lives ends may.1
end_stands g m points (e.Shut l) lives h ends may = absurd may
end_stands g m points (e.Closed l why) lives h ends may =
    λ control.
    let is = closing-lives (m.links l).phase (seen l points) why (lives.fits l) may in
    (lives_where l points is.0 is.1, closing_ended m.over (m.links l).answered l points (m.links l).phase why (ends l) may)
end_stands g m points e.Tick lives h ends may = none_ended m points lives ends may
end_stands g m points (e.Wait ready way) lives h ends may = none_ended m points lives ends may

pub ends_are_first : (g : NodeConfig) (m : Machine) (points : List Point) → StandsFor g m points → EndLaw points
ends_are_first g m points stands =
    at_entries g EndMayStand (λ n before en runs may. end_stands g n before en (lived g n before runs) (held g n before runs)
    (ended_all g n before runs) may) m points stands
