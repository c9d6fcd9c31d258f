-- Each run of the whole is, for each plain link, a run of its own machine; so the laws of one hold of each.
use Rattle.std.proofs.Common.{◌≡◌, ℕ, ◌==◌, Bool, List, [], ◌∷◌, ◌++◌, refl, ap, sym, ◌∙◌, subst, cond, ⊎_elim}
use Rattle.std.proofs.lemmas.Bool.{cases_eq, eq-eqb, ne_eqb}
use Rattle.hb_captured.proofs.Kept.{all_keep}
use Rattle.hb_captured.proofs.Obeyed.{relay, admit, end, answer_all, note_all, settle}
use Rattle.hb_captured.specs.Part as part
use Rattle.hb_captured.specs.Part.{Part}
use Rattle.hb_captured.specs.Runs as plain
use Rattle.hb_captured.specs.Runs.{Local, MayGo, next_link, with_link}
use Rattle.hb_held.specs.Held.{Resources}
use Rattle.hb_model.specs.Machine as control
use Rattle.hb_model.specs.Point as point
use Rattle.hb_model.specs.Runs as model
use Rattle.hb_model.specs.declared.config.NodeConfig.{NodeConfig}
use Rattle.hb_proxy.specs.Held.{at_start}
use Rattle.hb_proxy.specs.Laws.{PlainRuns, PlainHolds, RunsObeyPlain}
use Rattle.hb_proxy.specs.Machine.{Machine, plain_local, with_control}
use Rattle.hb_proxy.specs.Points.{Point, of_control, of_link, of_plain, of_gate, of_stream, plain_in, plain_of}
use Rattle.hb_proxy.specs.Runs.{PlainGuard, Steps, begins, goes_on}
use Rattle.hb_proxy.specs.Shared.{Shared, asks, tells, puts, finishes, credits, drops, completes, captured_part}
use Rattle.hb_proxy.proofs.Projection.{sees, sees_none, held_next, control_holds}

-- a part that isn't an update leaves what is held
pub turned : (g : NodeConfig) (x : Machine) (l : ℕ) (p : Part) → PlainGuard g x l p → (a : Local)
    → plain.next a p ≡ with_link (next_link a.link p) a
turned g x l (part.applied r) guard a = absurd guard
turned g x l p guard a = refl

-- nor does what happens on its stream
stream_turned : (n s : ℕ) (w : Shared) (a : Local)
    → plain.next a (captured_part n s w) ≡ with_link (next_link a.link (captured_part n s w)) a
stream_turned n s (asks authority) a = refl
stream_turned n s (tells heard begun) a = refl
stream_turned n s (puts waiting count) a = refl
stream_turned n s finishes a = refl
stream_turned n s (credits count) a = refl
stream_turned n s (drops begun) a = refl
stream_turned n s (completes begun note) a = refl

module _ (g : NodeConfig) (x : Machine) (points : List Point) (l : ℕ)
    (stands : plain.StandsFor l (at_start g) (plain_local x l) (plain_of l points)) where
  abbrev Goes : Machine → Point → Type 0
  Goes y p = plain.StandsFor l (at_start g) (plain_local y l) (plain_of l (points ++ p ∷ []))

  one : (p : Point) (y : Machine) (q : Part) → plain_in l p ≡ q ∷ [] → plain.Steps l (plain_local x l) q (plain_local y l) → Goes y p
  one p y q is steps =
      sees (plain_in l) (λ (z : Machine). plain_local z l) (plain.StandsFor l (at_start g)) points p y q is
      (plain.goes_on stands q steps refl)

  none : (p : Point) (y : Machine) → plain_in l p ≡ [] → plain_local y l ≡ plain_local x l → Goes y p
  none p y is same =
      sees_none (plain_in l) (λ (z : Machine). plain_local z l) (plain.StandsFor l (at_start g)) points p x y is same stands

  control_seen : (q : point.Point) (next : control.Machine) → model.Steps g x.control q next
      → Goes (with_control q next x) (of_control q)
  control_seen (point.applied k r) next steps =
      one (of_control (point.applied k r)) (with_control (point.applied k r) next x) (part.applied r) refl (
        tt,
        ap (λ (h : Resources). record { held = h; link = (with_control (point.applied k r) next x).plain l })
            (held_next g x.control next (point.applied k r) steps),
      )
  control_seen (point.stopped why) next steps =
      one (of_control (point.stopped why)) (with_control (point.stopped why) next x) (part.stopped why) refl (
        tt,
        ap (λ (h : Resources). record { held = h; link = (with_control (point.stopped why) next x).plain l })
            (held_next g x.control next (point.stopped why) steps),
      )
  control_seen q next steps =
      none (of_control q) (with_control q next x) refl
      (ap (λ (h : Resources). record { held = h; link = x.plain l }) (held_next g x.control next q steps))

  -- a part of the link k, which becomes this
  plain_seen : (k : ℕ) (q : Part) (p : Point) (y : Machine) → plain_in l p ≡ cond (k == l) (q ∷ []) []
      → plain_local y l ≡ record { held = x.control.held; link = cond (l == k) (next_link (x.plain k) q) (x.plain l) }
      → MayGo k (plain_local x k) q → plain.next (plain_local x k) q ≡ with_link (next_link (x.plain k) q) (plain_local x k) → Goes y p
  plain_seen k q p y told_is now may turns =
      ⊎_elim (λ same.
      one p y q (told_is ∙ ap (λ (b : Bool). cond b (q ∷ []) []) (eq-eqb k l same))
      (subst (λ (a : Local). plain.Steps l (plain_local x l) q a)
      (sym (now ∙ ap (λ (b : Bool). record { held = x.control.held; link = cond b (next_link (x.plain k) q) (x.plain l) })
      (eq-eqb l k (sym same))))
      (subst (λ (j : ℕ). plain.Steps j (plain_local x j) q (record { held = x.control.held; link = next_link (x.plain k) q })) same
      (may, sym turns))))
      (λ apart.
      none p y (told_is ∙ ap (λ (b : Bool). cond b (q ∷ []) []) (ne_eqb k l apart))
      (now ∙ ap (λ (b : Bool). record { held = x.control.held; link = cond b (next_link (x.plain k) q) (x.plain l) })
      (ne_eqb l k (λ same. apart (sym same)))))
      (cases_eq k l)

  plain_goes : (p : Point) (y : Machine) → Steps g x p y → Goes y p
  plain_goes (of_control q) y steps =
      subst (λ (z : Machine). Goes z (of_control q)) (sym steps.3) (control_seen q steps.0 steps.1)
  plain_goes (of_link k p) y steps = none (of_link k p) y refl (ap (λ (z : Machine). plain_local z l) steps.3)
  plain_goes (of_plain k p) y steps =
      plain_seen k p (of_plain k p) y refl (ap (λ (z : Machine). plain_local z l) steps.2) steps.0
      (turned g x k p steps.1 (plain_local x k))
  plain_goes (of_gate n p) y steps = none (of_gate n p) y refl (ap (λ (z : Machine). plain_local z l) steps.3)
  plain_goes (of_stream k n s w) y steps =
      plain_seen k (captured_part n s w) (of_stream k n s w) y refl (ap (λ (z : Machine). plain_local z l) steps.4) steps.0
      (stream_turned n s w (plain_local x k))

pub plain_runs : PlainRuns
plain_runs g x points l (begins is none) =
    plain.begins (ap (λ (z : Machine). plain_local z l) is) (ap (plain_of l) none)
plain_runs g y more l (goes_on {x = x} {points = points} stands p steps are) =
    subst (λ (ps : List Point). plain.StandsFor l (at_start g) (plain_local y l) (plain_of l ps)) (sym are)
    (plain_goes g x points l (plain_runs g x points l stands) p y steps)

-- what is held there is what the control plane's responses make
pub plain_holds : PlainHolds
plain_holds g x points l stands =
    (all_keep l (at_start g) (plain_local x l) (plain_of l points) (plain_runs g x points l stands)).held
    ∙ control_holds g x points stands

pub obey_plain : RunsObeyPlain
obey_plain g x points l stands =
    let runs = plain_runs g x points l stands in
    record {
      relay = relay l (at_start g) (plain_local x l) (plain_of l points) runs;
      access = admit l (at_start g) (plain_local x l) (plain_of l points) runs;
      ends = end l (at_start g) (plain_local x l) (plain_of l points) runs;
      verdicts = answer_all l (at_start g) (plain_local x l) (plain_of l points) runs;
      notes = note_all l (at_start g) (plain_local x l) (plain_of l points) runs;
      settled = settle l (at_start g) (plain_local x l) (plain_of l points) runs;
    }
