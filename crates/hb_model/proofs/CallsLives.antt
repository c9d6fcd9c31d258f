-- The lives of links in a run, and that calls on them are in order.
use Rattle.std.proofs.Common.{◌≡◌, ◌⊎◌, ℕ, ◌<◌, ◌≤◌, Bool, true, false, ◌&&◌, not, List, [], ◌∷◌, ◌++◌, None, refl, ap, ap₂, ◌∙◌, sym, subst, arith, inl, inr, ⊎_elim}
use Rattle.hb_base.specs.declared.door.Why.{Why}
use Rattle.hb_base.specs.declared.target.Target.{Target}
use Rattle.hb_world.specs.declared.entry.Entry.{Entry}
use Rattle.hb_world.specs.declared.entry.Entry.TheVariants as e
use Rattle.hb_world.specs.Trace.{lives}
use Rattle.hb_model.specs.declared.config.NodeConfig.{NodeConfig}
use Rattle.hb_model.specs.Discovery.{Discovery, Phase, unborn, dialling, live, faulted, stopped_for, closing}
use Rattle.hb_model.specs.Point.{Point, entry, stopped, entries}
use Rattle.hb_model.specs.Machine.{Machine, fresh, born_after}
use Rattle.hb_world.specs.declared.entry.Way.{Way}
use Rattle.hb_world.specs.declared.entry.Way.TheVariants as way
use Rattle.hb_model.specs.Runs.{MayCome, MayBalk, Steps, StandsFor, begins, goes_on, IsFaulted}
use Rattle.hb_model.specs.Calls.{CallMayStand, BalkMayStand, CallsLaw, IsSound, MayFinish, MayRead, MayWrite}
use Rattle.hb_model.proofs.Births.{Plain, plain}
use Rattle.hb_model.proofs.Places.{at_entries, at_trace}
use Rattle.hb_model.proofs.CallsSaid.{Said, seen, birth, open_link, seen-grows}
use Rattle.hb_model.proofs.CallsSteps.{Becomes, stays, is_born, opens, peer_ends, breaks, breaks_faulted, writes, writes_faulted, closes, looks, refuses, stops, becomes, own_keeps}
use Rattle.hb_model.proofs.CallsPhases.{Fits, fits_next, closing-lives}

-- the point is the birth of the link k
IsBirthAt : ℕ → Point → Type 0
IsBirthAt k p = (to : Target) × (why : Why) × (p ≡ entry (e.Dialled k to why))

-- a link that isn't born stays so, but where it is dialled
unborn_next : (k : ℕ) (x y : Discovery) (p : Point) → x.phase ≡ unborn → Becomes k x y p → (y.phase ≡ unborn) ⊎ IsBirthAt k p
unfolding IsBirthAt
unborn_next k x y p was (stays silent now same) = inl (now ∙ was)
unborn_next k x y p was (is_born to why is at now none) = inr (to, why, is)
unborn_next k x y p was (opens is at now same) = absurd (cc)
unborn_next k x y p was (peer_ends is at now) = absurd (cc)
unborn_next k x y p was (breaks is at now) = absurd (⊎_elim (λ (a : x.phase ≡ dialling). cc) (λ (a : x.phase ≡ live). cc) at)
unborn_next k x y p was (breaks_faulted code is at now) = absurd (cc)
unborn_next k x y p was (writes bytes is at now same) = absurd (cc)
unborn_next k x y p was (writes_faulted bytes code is at now) = absurd (cc)
unborn_next k x y p was (closes why is at now) = absurd (let none : closing x.phase ≡ None = ap closing was in cc)
unborn_next k x y p was (looks points told headers is at now same) = absurd (cc)
unborn_next k x y p was (refuses is at now) = absurd (cc)
unborn_next k x y p was (stops why is now same) = inl (now ∙ ap (stopped_for why) was)

-- births are counted: no point makes them fewer
born_by : (g : NodeConfig) (m : Machine) (en : Entry) → MayCome g m en → m.born ≤ born_after m en
born_by g m (e.Dialled l to why) may = let more : m.born < l = may.1 in omega (arith, more)
born_by g m (e.Accepted l door) may = absurd may
born_by g m _ may = omega arith

born_grows : (g : NodeConfig) (m n : Machine) (p : Point) → Steps g m p n → m.born ≤ n.born
born_grows g m n (entry en) steps = subst (λ (z : Machine). m.born ≤ z.born) (sym steps.1) (born_by g m en steps.0)
born_grows g m n (stopped why) steps = let same = ap (λ (z : Machine). z.born) steps.1 in omega (arith, same)
born_grows g m n p steps = let same = (own_keeps g m n p refl steps).born in omega (arith, same)

born_at : (g : NodeConfig) (m n : Machine) (p : Point) (k : ℕ) → Steps g m p n → IsBirthAt k p → n.born ≡ k
unfolding IsBirthAt
born_at g m n p k steps birth =
    ap (λ (z : Machine). z.born) (subst (λ (q : Point). Steps g m q n) birth.2 steps).1

-- each link is as far as the run says, and those above the last one born aren't born
pub record Lived (m : Machine) (points : List Point) : Type 0 where
  pub fits : (k : ℕ) → Fits (m.links k).phase (seen k points)
  pub fresh : (k : ℕ) → m.born < k → (m.links k).phase ≡ unborn

begun : (g : NodeConfig) → Lived (fresh g) []
unfolding Fits
begun g = record { fits = λ k. refl; fresh = λ k above. refl }

lived_on : (g : NodeConfig) (m n : Machine) (points : List Point) (p : Point) → Lived m points → Steps g m p n
    → Lived n (points ++ p ∷ [])
lived_on g m n points p h steps = record {
  fits = λ k. subst (λ (s : Said). Fits (n.links k).phase s) (sym (seen-grows k points p))
      (fits_next k (m.links k) (n.links k) p (seen k points) (h.fits k) (becomes g m n p h.fresh steps k));
  fresh = λ k above.
      let grows : m.born ≤ n.born = born_grows g m n p steps in
      ⊎_elim (λ (now : (n.links k).phase ≡ unborn). now)
      (λ birth. absurd (let same : n.born ≡ k = born_at g m n p k steps birth in omega (arith, same, above)))
      (unborn_next k (m.links k) (n.links k) p (h.fresh k (omega (arith, grows, above))) (becomes g m n p h.fresh steps k));
}

pub lived : (g : NodeConfig) (m : Machine) (points : List Point) → StandsFor g m points → Lived m points
lived g m points (begins is none) =
    subst (λ (z : Machine). Lived z points) (sym is) (subst (λ (ps : List Point). Lived (fresh g) ps) (sym none) (begun g))
lived g n more (goes_on {m = m} {points = points} stands p steps are) =
    subst (λ (ps : List Point). Lived n ps) (sym are) (lived_on g m n points p (lived g m points stands) steps)

pub lives_where : (k : ℕ) (points : List Point) → (seen k points).born ≡ true → (seen k points).closed ≡ false
    → lives k (entries points) ≡ true
lives_where k points was_born unclosed = ap₂ (λ (a b : Bool). a && not b) was_born unclosed

-- what the run said of a link in this phase
pub fits_at : (m : Machine) (points : List Point) (l : ℕ) (phase : Phase) → Lived m points → (m.links l).phase ≡ phase
    → Fits phase (seen l points)
fits_at m points l phase h is = subst (λ (q : Phase). Fits q (seen l points)) is (h.fits l)

sound_at : (l : ℕ) (points : List Point) (s : Said) → seen l points ≡ s → s.born ≡ true → s.closed ≡ false → s.broke ≡ false
    → IsSound l (entries points)
sound_at l points s is born unclosed sound = (
  lives_where l points (ap (λ (t : Said). t.born) is ∙ born) (ap (λ (t : Said). t.closed) is ∙ unclosed),
  ap (λ (t : Said). t.broke) is ∙ sound,
)

pub readable_at : (l : ℕ) (points : List Point) → seen l points ≡ open_link → MayRead l (entries points)
readable_at l points is =
    ((sound_at l points open_link is refl refl refl, λ was. ap (λ (s : Said). s.opened) is), ap (λ (s : Said). s.ended) is)

module _ (g : NodeConfig) (m : Machine) (points : List Point) (h : Lived m points) (all : (l : ℕ) → Plain l (entries points)) where
  readable : (l : ℕ) → (m.links l).phase ≡ live → MayRead l (entries points)
  unfolding Fits
  readable l at = readable_at l points (fits_at m points l live h at)

  writable : (l : ℕ) → ((m.links l).phase ≡ live) ⊎ IsFaulted m l → MayWrite l (entries points)
  unfolding Fits
  writable l =
      ⊎_elim (λ (at : (m.links l).phase ≡ live). ((readable l at).0, (all l).unshut))
      (λ (at : IsFaulted m l). ((readable_at l points (fits_at m points l (faulted at.0) h at.1)).0, (all l).unshut))

  finishable : (l : ℕ) → (m.links l).phase ≡ dialling → MayFinish l (entries points)
  unfolding Fits
  finishable l at =
      let is = fits_at m points l dialling h at in (
        sound_at l points birth is refl refl refl,
        (all l).dialled ∙ ap (λ (s : Said). s.born) is,
        ap (λ (s : Said). s.opened) is,
      )

  balk_stands : (w : Way) → MayBalk m w → BalkMayStand (entries points) w
  balk_stands (way.Listen door at listening) may = may
  balk_stands (way.Accept door) may = absurd may
  balk_stands (way.Look l) may = absurd may
  balk_stands (way.Finish l) may = finishable l may.1
  balk_stands (way.Read l) may = readable l may.0.1
  balk_stands (way.Write l) may = writable l (⊎_elim (λ a. inl a.1) (λ a. inr a) may.0)

  call_stands : (en : Entry) → MayCome g m en → CallMayStand (entries points) en
  unfolding Fits
  call_stands (e.Accepted l door) may = absurd may
  call_stands (e.Dialled l to why) may = ap (λ (s : Said). s.born) (fits_at m points l unborn h (h.fresh l may.1))
  call_stands (e.DialFailed to why) may = tt
  call_stands (e.Opened l) may = finishable l may.1
  call_stands (e.Came l bytes) may = readable l may.0.1
  call_stands (e.Ended l) may = readable l may.0.1
  call_stands (e.Broke l) may =
      ⊎_elim (λ at. (finishable l at.1).0) (λ at. (writable l (⊎_elim (λ a. inl a.1) (λ a. inr a) at)).0.0) may
  call_stands (e.Went l bytes) may = writable l (⊎_elim (λ a. inl a.1) (λ a. inr a) may.0)
  call_stands (e.Balked w) may = balk_stands w may.1
  call_stands (e.Shut l) may = absurd may
  call_stands (e.Closed l why) may =
      let is = closing-lives (m.links l).phase (seen l points) why (h.fits l) may in lives_where l points is.0 is.1
  call_stands e.Tick may = tt
  call_stands (e.Wait ready how) may = tt

pub calls_in_order : (g : NodeConfig) (m : Machine) (points : List Point) → StandsFor g m points → CallsLaw (entries points)
calls_in_order g m points stands =
    at_trace CallMayStand points
    (at_entries g (λ before en. CallMayStand (entries before) en)
    (λ n before en runs may. call_stands g n before (lived g n before runs) (plain g n before runs) en may) m points stands)
