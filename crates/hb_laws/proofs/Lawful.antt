-- What a lawful trace gives at a place of it.
use Rattle.std.proofs.Common.{◌≡◌, ℕ, ◌==◌, ◌&&◌, ◌||◌, Bool, true, false, not, List, [], ◌∷◌, ◌++◌, Some, None, refl, ap, sym, ◌∙◌, subst}
use Rattle.std.specs.List.{list_any}
use Rattle.std.proofs.lemmas.Bool.{eqb-true, false≢true}
use Rattle.std.proofs.lemmas.List.{append-nil}
use Rattle.std.proofs.lemmas.List.Concat.{flat_map-append}
use Rattle.hb_base.specs.declared.cause.Cause.{Cause}
use Rattle.hb_base.specs.declared.door.Why.TheVariants as whys
use Rattle.hb_captured.specs.Part as captured
use Rattle.hb_captured.specs.Runs.{MayCome, UpMayCome}
use Rattle.hb_gateway.specs.Part as gateway
use Rattle.hb_gateway.specs.Runs as gateway_runs
use Rattle.hb_history.specs.Heard.{ends_stream}
use Rattle.hb_history.specs.Points.{frames_got}
use Rattle.hb_inbound.specs.Part as part
use Rattle.hb_model.proofs.Inner.{over_is}
use Rattle.hb_model.specs.Calls.{is_control_of, is_dialled_of, is_opened_of, is_ended_of, Was, IsControl, CallMayStand}
use Rattle.hb_model.specs.Ends.{end_of}
use Rattle.hb_model.specs.Inner.{is_stop, InnerMayStand, IsLookedAt}
use Rattle.hb_model.specs.Point as point
use Rattle.hb_model.specs.Point.{moves}
use Rattle.hb_model.specs.declared.config.NodeConfig.{NodeConfig}
use Rattle.hb_world.specs.Trace.{is_birth_of, is_close_of, was_born, was_closed, lives, recv}
use Rattle.hb_world.specs.declared.entry.Entry.{Entry}
use Rattle.hb_world.specs.declared.entry.Entry.TheVariants as e
use Rattle.hb_world.specs.declared.entry.ReadyItem.{ReadyItem}
use Rattle.hb_world.specs.declared.entry.Woken.{Woken}
use Rattle.hb_proxy.specs.Machine.{Machine}
use Rattle.hb_proxy.specs.Owners.{link_of, AtEach}
use Rattle.hb_proxy.specs.Points.{Point, of_control, of_link, of_plain, of_gate, of_stream, entry_in, entries, control_in, control_of}
use Rattle.hb_proxy.specs.Runs.{Steps, StandsFor}
use Rattle.hb_proxy.specs.Sides.{IsKnown}
use Rattle.hb_proxy.proofs.Places.{at_points}
use Rattle.hb_proxy.proofs.Projection.{control_runs}
use Rattle.hb_laws.specs.Lawful.{Lawful, Laws}
use Rattle.hb_laws.proofs.Ending.{brings_end}
use Rattle.hb_laws.proofs.Runs.{front_runs}
use Rattle.hb_laws.proofs.Places.{IsOwn, is_own, plane_place}
use Rattle.hb_laws.proofs.Tells.{same_told}
use Rattle.hb_laws.proofs.Tests.{any_so}

-- at each point of its run the machine makes a step to another
pub record Goes (g : NodeConfig) (before : List Point) (p : Point) : Type 0 where
  pub machine : Machine
  pub next : Machine
  pub run : StandsFor g machine before
  pub steps : Steps g machine p next

-- a wait is a point of the control plane, behind which the run wasn't stopped
waits_on : (g : NodeConfig) (x y : Machine) (before : List Point) (p : Point) (ready : List ReadyItem) (how : Woken) → StandsFor g x before
    → Steps g x p y → entry_in p ≡ e.Wait ready how ∷ [] → list_any is_stop (control_of before) ≡ false
waits_on g x y before (of_control (point.entry en)) ready how runs steps is =
    let same : en ≡ e.Wait ready how = cc in
    sym (over_is g x.control (control_of before) (control_runs g x before runs))
    ∙ (subst (λ (z : Entry). Steps g x (of_control (point.entry z)) y) same steps).1.0.goes
waits_on g x y before (of_control _) ready how runs steps is = absurd cc
waits_on g x y before (of_link l (part.entry en)) ready how runs steps is =
    let same : en ≡ e.Wait ready how = cc in
    absurd ((subst (λ (z : Entry). Steps g x (of_link l (part.entry z)) y) same steps).1.0)
waits_on g x y before (of_link l (part.up s en)) ready how runs steps is =
    let same : en ≡ e.Wait ready how = cc in
    absurd ((subst (λ (z : Entry). Steps g x (of_link l (part.up s z)) y) same steps).1.0)
waits_on g x y before (of_link l _) ready how runs steps is = absurd cc
waits_on g x y before (of_plain l (captured.entry en)) ready how runs steps is =
    let same : en ≡ e.Wait ready how = cc in absurd (subst (MayCome l (x.plain l)) same steps.0)
waits_on g x y before (of_plain l (captured.up en)) ready how runs steps is =
    let same : en ≡ e.Wait ready how = cc in absurd (subst (UpMayCome l (x.plain l)) same steps.0)
waits_on g x y before (of_plain l _) ready how runs steps is = absurd cc
waits_on g x y before (of_gate n (gateway.entry en)) ready how runs steps is =
    let same : en ≡ e.Wait ready how = cc in absurd (subst (gateway_runs.MayCome n (x.gates n)) same steps.1.0)
waits_on g x y before (of_gate n (gateway.dialled en key)) ready how runs steps is =
    let same : en ≡ e.Wait ready how = cc in
    absurd (subst (λ (z : Entry). gateway_runs.IsBirth n (x.gates n) z key) same steps.1.0)
waits_on g x y before (of_gate n _) ready how runs steps is = absurd cc
waits_on g x y before (of_stream l n s w) ready how runs steps is = absurd cc

-- a link to the control plane is dialled, and born
dialled_so : (l : ℕ) (x : Entry) → is_control_of l x ≡ true → is_dialled_of l x ≡ true
dialled_so l (e.Dialled k to whys.Discovery) is = is
dialled_so l (e.Dialled k to _) is = absurd (false≢true is)
dialled_so l _ is = absurd (false≢true is)

born_so : (l : ℕ) (x : Entry) → is_control_of l x ≡ true → is_birth_of l x ≡ true
born_so l (e.Dialled k to whys.Discovery) is = is
born_so l (e.Dialled k to _) is = absurd (false≢true is)
born_so l _ is = absurd (false≢true is)

or_false : (b : Bool) → (b || false) ≡ b
or_false true = refl
or_false false = refl

-- tests of one link
on_opened : (l : ℕ) (z : Entry) → is_opened_of l z ≡ true → link_of z ≡ Some l
on_opened l (e.Opened k) is = ap Some (eqb-true k l is)
on_opened l _ is = absurd (false≢true is)

on_ended : (l : ℕ) (z : Entry) → is_ended_of l z ≡ true → link_of z ≡ Some l
on_ended l (e.Ended k) is = ap Some (eqb-true k l is)
on_ended l _ is = absurd (false≢true is)

on_end : (l : ℕ) (z : Entry) → brings_end l z ≡ true → link_of z ≡ Some l
on_end l (e.Ended k) is = ap Some (eqb-true k l (sym (or_false (k == l)) ∙ is))
on_end l (e.Broke k) is = ap Some (eqb-true k l is)
on_end l _ is = absurd (false≢true is)

on_close : (l : ℕ) (z : Entry) → is_close_of l z ≡ true → link_of z ≡ Some l
on_close l (e.Closed k why) is = ap Some (eqb-true k l is)
on_close l _ is = absurd (false≢true is)

lives_by : (born closed : Bool) → born ≡ true → closed ≡ false → (born && not closed) ≡ true
lives_by true false born closed = refl
lives_by true true born closed = sym closed
lives_by false closed born unclosed = absurd (false≢true born)

pub unclosed_by : (born closed : Bool) → (born && not closed) ≡ true → closed ≡ false
unclosed_by true false is = refl
unclosed_by true true is = sym is
unclosed_by false closed is = absurd (false≢true is)

module _ (g : NodeConfig) (trace : List Entry) (h : Lawful g trace) where
  pub goes_at : (before : List Point) (p : Point) (behind : List Point) → h.points ≡ before ++ p ∷ behind → Goes g before p
  goes_at =
      at_points g (Goes g) (λ x y before p runs steps. record { machine = x; next = y; run = runs; steps = steps }) h.machine h.points h.run

  -- each point stands on a link of its own part
  pub own_in : AtEach IsOwn h.points
  own_in before p behind are =
      let at = goes_at before p behind are in is_own g at.machine at.next before p at.steps (h.own before p behind are)

  -- what holds at each front of its points holds of all
  pub laws_of : Laws g h.points
  laws_of = h.laws h.points [] (sym (append-nil h.points))

  -- in front of a wait the run wasn't stopped
  pub not_stopped : (before : List Point) (p : Point) (behind : List Point) (ready : List ReadyItem) (how : Woken)
      → h.points ≡ before ++ p ∷ behind → entry_in p ≡ e.Wait ready how ∷ [] → list_any is_stop (control_of before) ≡ false
  not_stopped before p behind ready how are is =
      let at = goes_at before p behind are in waits_on g at.machine at.next before p ready how at.run at.steps is

  -- a link to the control plane
  module _ (before behind : List Point) (are : h.points ≡ before ++ behind) (l : ℕ) (control : IsControl l (entries before)) where
    -- is one by its own points
    pub known : IsKnown before l
    known = (h.laws before behind are).sides.known l control

    -- of which they tell what the trace does
    same : (is : Entry → Bool) → ((z : Entry) → is z ≡ true → link_of z ≡ Some l)
        → list_any is (point.entries (control_of before)) ≡ list_any is (entries before)
    same is on =
        let run = front_runs g h.machine h.points h.run before behind are in same_told l is on g run.0 before run.1 known.owned

    pub same_opened : list_any (is_opened_of l) (point.entries (control_of before)) ≡ list_any (is_opened_of l) (entries before)
    same_opened = same (is_opened_of l) (on_opened l)

    pub same_ended : list_any (is_ended_of l) (point.entries (control_of before)) ≡ list_any (is_ended_of l) (entries before)
    same_ended = same (is_ended_of l) (on_ended l)

    pub same_end : list_any (brings_end l) (point.entries (control_of before)) ≡ list_any (brings_end l) (entries before)
    same_end = same (brings_end l) (on_end l)

    pub same_closed : was_closed l (point.entries (control_of before)) ≡ was_closed l (entries before)
    same_closed = same (is_close_of l) (on_close l)

    pub same_came : recv l (entries before) ≡ recv l (point.entries (control_of before))
    same_came = ((h.laws before behind are).sides.control l known.owned).came

    pub dialled : Was (is_dialled_of l) (point.entries (control_of before))
    dialled = any_so (is_control_of l) (is_dialled_of l) (dialled_so l) (point.entries (control_of before)) known.told

    -- it lives by them where it does by the trace
    pub lives_on : lives l (entries before) ≡ true → lives l (point.entries (control_of before)) ≡ true
    lives_on living =
        lives_by (was_born l (point.entries (control_of before))) (was_closed l (point.entries (control_of before)))
        (any_so (is_control_of l) (is_birth_of l) (born_so l) (point.entries (control_of before)) known.told)
        (same_closed ∙ unclosed_by (was_born l (entries before)) (was_closed l (entries before)) living)

  -- a call on one stands where it may
  pub call_at : (before : List Point) (z : Entry) (behind : List Point) → h.points ≡ before ++ of_control (point.entry z) ∷ behind
      → CallMayStand (point.entries (control_of before)) z
  call_at before z behind are =
      laws_of.control.calls (point.entries (control_of before)) z
      (point.entries (control_of behind)) (plane_place h.points before behind z are)

  -- what is looked at and done by itself stands on one that goes on
  pub inner_at : (before : List Point) (q : point.Point) (behind : List Point) → h.points ≡ before ++ of_control q ∷ behind
      → InnerMayStand (control_of before) q
  inner_at before q behind are =
      laws_of.control.inner (control_of before) q (control_of behind)
      (ap control_of are ∙ flat_map-append control_in before (of_control q ∷ behind))

  -- it is closed for the first cause that ended it
  pub closed_for : (before : List Point) (l : ℕ) (why : Cause) (behind : List Point)
      → h.points ≡ before ++ of_control (point.entry (e.Closed l why)) ∷ behind → IsControl l (entries before)
      → end_of l (control_of before) ≡ Some why
  closed_for before l why behind are control =
      let closes = of_control (point.entry (e.Closed l why)) in
      (h.at_entries.ends before closes (e.Closed l why) behind are refl (known before (closes ∷ behind) are l control).told).1

  -- where a wait stands none that lives has ended
  pub lasts_at : (before : List Point) (p : Point) (behind : List Point) (ready : List ReadyItem) (how : Woken)
      → h.points ≡ before ++ p ∷ behind → entry_in p ≡ e.Wait ready how ∷ [] → (l : ℕ) → IsControl l (entries before)
      → lives l (entries before) ≡ true → end_of l (control_of before) ≡ None
  lasts_at before p behind ready how are is l control living =
      h.at_entries.ends before p (e.Wait ready how) behind are is l (known before (p ∷ behind) are l control).told
      (lives_on before (p ∷ behind) are l control living)

  -- and all that came on one that is open is looked at
  pub looked_at : (before : List Point) (p : Point) (behind : List Point) (ready : List ReadyItem) (how : Woken)
      → h.points ≡ before ++ p ∷ behind → entry_in p ≡ e.Wait ready how ∷ [] → (l : ℕ) → IsControl l (entries before)
      → lives l (entries before) ≡ true → Was (is_opened_of l) (entries before) → IsLookedAt (control_of before) l
  looked_at before p behind ready how are is l control living opened =
      h.at_entries.looked before p (e.Wait ready how) behind are is l (known before (p ∷ behind) are l control).told
      (lives_on before (p ∷ behind) are l control living) (lasts_at before p behind ready how are is l control living)
      (same_opened before (p ∷ behind) are l control ∙ opened)

  -- and none of it ended its stream
  pub heard_at : (before : List Point) (p : Point) (behind : List Point) (ready : List ReadyItem) (how : Woken)
      → h.points ≡ before ++ p ∷ behind → entry_in p ≡ e.Wait ready how ∷ [] → (l : ℕ) → IsControl l (entries before)
      → lives l (entries before) ≡ true → Was (is_opened_of l) (entries before)
      → list_any ends_stream (frames_got (moves l (control_of before))) ≡ false
  heard_at before p behind ready how are is l control living opened =
      h.at_entries.heard before p (e.Wait ready how) behind are is l (known before (p ∷ behind) are l control).told
      (lives_on before (p ∷ behind) are l control living) (lasts_at before p behind ready how are is l control living)
      (same_opened before (p ∷ behind) are l control ∙ opened)
