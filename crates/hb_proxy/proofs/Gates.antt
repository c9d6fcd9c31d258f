-- Each run of the whole is, for each link to a gateway, a run of its own machine; so the laws of one hold of each. And a tunnel takes the
-- first that has room.
use Rattle.std.proofs.Common.{◌≡◌, ℕ, ◌==◌, Bool, List, [], ◌∷◌, ◌++◌, refl, ap, sym, ◌∙◌, subst, cond, ⊎_elim}
use Rattle.std.proofs.lemmas.Bool.{cases_eq, eq-eqb, ne_eqb}
use Rattle.hb_captured.specs.Part as captured
use Rattle.hb_gateway.proofs.Asking.{ask}
use Rattle.hb_gateway.proofs.Bringing.{bring}
use Rattle.hb_gateway.proofs.Runs.{obey_connections}
use Rattle.hb_gateway.proofs.SendsRun.{send, count}
use Rattle.hb_gateway.proofs.WindowsRun.{obey_windows}
use Rattle.hb_gateway.specs.Gateway.{Gateway}
use Rattle.hb_gateway.specs.Part as part
use Rattle.hb_gateway.specs.Part.{Part}
use Rattle.hb_gateway.specs.Runs as gateway
use Rattle.hb_model.specs.Machine as control
use Rattle.hb_model.specs.Point as point
use Rattle.hb_model.specs.declared.config.NodeConfig.{NodeConfig}
use Rattle.hb_proxy.specs.Laws.{GatesRun, RunsObeyGates, RunsTake}
use Rattle.hb_proxy.specs.Machine.{Machine, with_control}
use Rattle.hb_proxy.specs.Points.{Point, of_control, of_link, of_plain, of_gate, of_stream, gate_in, gates_of}
use Rattle.hb_proxy.specs.Runs.{ControlGuard, Steps, begins, goes_on}
use Rattle.hb_proxy.specs.Shared.{asks, gateway_part}
use Rattle.hb_proxy.specs.Streams.{Takes, TakesAt}
use Rattle.hb_proxy.proofs.Places.{at_points}
use Rattle.hb_proxy.proofs.Projection.{sees, sees_none}

module _ (g : NodeConfig) (x : Machine) (points : List Point) (n : ℕ) (stands : gateway.StandsFor n (x.gates n) (gates_of n points)) where
  abbrev Goes : Machine → Point → Type 0
  Goes y p = gateway.StandsFor n (y.gates n) (gates_of n (points ++ p ∷ []))

  one : (p : Point) (y : Machine) (q : Part) → gate_in n p ≡ q ∷ [] → gateway.Steps n (x.gates n) q (y.gates n) → Goes y p
  one p y q is steps =
      sees (gate_in n) (λ (z : Machine). z.gates n) (gateway.StandsFor n) points p y q is (gateway.goes_on stands q steps refl)

  none : (p : Point) (y : Machine) → gate_in n p ≡ [] → y.gates n ≡ x.gates n → Goes y p
  none p y is same = sees_none (gate_in n) (λ (z : Machine). z.gates n) (gateway.StandsFor n) points p x y is same stands

  control_seen : (q : point.Point) (next : control.Machine) → ControlGuard x q → Goes (with_control q next x) (of_control q)
  control_seen (point.stopped why) next guard =
      one (of_control (point.stopped why)) (with_control (point.stopped why) next x) (part.stopped why) refl (guard.gates n, refl)
  control_seen q next guard = none (of_control q) (with_control q next x) refl refl

  -- a part of the link k, which becomes this
  gate_seen : (k : ℕ) (q : Part) (next : Gateway) (p : Point) (y : Machine) → gate_in n p ≡ cond (k == n) (q ∷ []) []
      → y.gates n ≡ cond (n == k) next (x.gates n) → gateway.Steps k (x.gates k) q next → Goes y p
  gate_seen k q next p y tells now steps =
      ⊎_elim (λ same.
      one p y q (tells ∙ ap (λ (b : Bool). cond b (q ∷ []) []) (eq-eqb k n same))
      (subst (λ (z : Gateway). gateway.Steps n (x.gates n) q z)
      (sym (now ∙ ap (λ (b : Bool). cond b next (x.gates n)) (eq-eqb n k (sym same))))
      (subst (λ (j : ℕ). gateway.Steps j (x.gates j) q next) same steps)))
      (λ apart.
      none p y (tells ∙ ap (λ (b : Bool). cond b (q ∷ []) []) (ne_eqb k n apart))
      (now ∙ ap (λ (b : Bool). cond b next (x.gates n)) (ne_eqb n k (λ same. apart (sym same)))))
      (cases_eq k n)

  gate_goes : (p : Point) (y : Machine) → Steps g x p y → Goes y p
  gate_goes (of_control q) y steps =
      subst (λ (z : Machine). Goes z (of_control q)) (sym steps.3) (control_seen q steps.0 steps.2)
  gate_goes (of_link l p) y steps = none (of_link l p) y refl (ap (λ (z : Machine). z.gates n) steps.3)
  gate_goes (of_plain l p) y steps = none (of_plain l p) y refl (ap (λ (z : Machine). z.gates n) steps.2)
  gate_goes (of_gate k p) y steps =
      gate_seen k p steps.0 (of_gate k p) y refl (ap (λ (z : Machine). z.gates n) steps.3) steps.1
  gate_goes (of_stream l k s w) y steps =
      gate_seen k (gateway_part l s w) steps.1 (of_stream l k s w) y refl (ap (λ (z : Machine). z.gates n) steps.4) steps.2

pub gates_run : GatesRun
gates_run g x points n (begins is none) =
    gateway.begins (ap (λ (z : Machine). z.gates n) is) (ap (gates_of n) none)
gates_run g y more n (goes_on {x = x} {points = points} stands p steps are) =
    subst (λ (ps : List Point). gateway.StandsFor n (y.gates n) (gates_of n ps)) (sym are)
    (gate_goes g x points n (gates_run g x points n stands) p y steps)

pub obey_gates : RunsObeyGates
obey_gates g x points n stands =
    let runs = gates_run g x points n stands in
    record {
      connection = obey_connections n (x.gates n) (gates_of n points) runs;
      windows = obey_windows n (x.gates n) (gates_of n points) runs;
      asks = ask n (x.gates n) (gates_of n points) runs;
      brings = bring n (x.gates n) (gates_of n points) runs;
      sends = send n (x.gates n) (gates_of n points) runs;
      counts = count n (x.gates n) (gates_of n points) runs;
    }

-- what a point takes its guard lets it
takes : (g : NodeConfig) (x y : Machine) (p : Point) → Steps g x p y → Takes x p
takes g x y (of_stream l n s (asks authority)) steps = steps.3
takes g x y (of_stream l n s _) steps = tt
takes g x y (of_gate n (part.dialled z key)) steps = steps.2.1
takes g x y (of_gate n _) steps = tt
takes g x y (of_plain l captured.roomless) steps = steps.1.0
takes g x y (of_plain l _) steps = tt
takes g x y (of_control q) steps = tt
takes g x y (of_link l p) steps = tt

pub runs_take : RunsTake
runs_take g x points stands =
    at_points g (TakesAt g) (λ z y before p so_far steps. record { machine = z; stands = so_far; takes = takes g z y p steps })
    x points stands
