-- Never more links than may be.
use Rattle.std.proofs.Common.{◌≡◌, ℕ, suc, ◌+◌, ◌<◌, ◌≤◌, ◌==◌, Bool, true, cond, ap, sym, subst, arith}
use Rattle.std.proofs.lemmas.Bool.{cond_both, eqb-true, ne_eqb}
use Rattle.std.specs.Prelude.{◌≢◌}
use Rattle.hb_captured.specs.Runs as captured
use Rattle.hb_gateway.specs.Gateway.{Gateway, carries}
use Rattle.hb_gateway.specs.Part as gateway_part
use Rattle.hb_gateway.specs.Runs as gateways
use Rattle.hb_inbound.specs.Inbound.{Inbound}
use Rattle.hb_inbound.specs.Part as part
use Rattle.hb_inbound.specs.Part.{Part}
use Rattle.hb_inbound.specs.Runs as inbound
use Rattle.hb_model.specs.Machine as control
use Rattle.hb_model.specs.Point as point
use Rattle.hb_model.specs.declared.config.NodeConfig.{NodeConfig}
use Rattle.hb_proxy.specs.Limits.{is_in, links_in, LinksWithin, NeverMoreLinks}
use Rattle.hb_proxy.specs.Load.{most_links, one_if, counts, links_at, links_below}
use Rattle.hb_proxy.specs.Machine.{Machine, local, with_control, with_part, with_plain, with_gate, with_stream}
use Rattle.hb_proxy.specs.Points.{Point, of_control, of_link, of_plain, of_gate, of_stream}
use Rattle.hb_proxy.specs.Runs.{Steps, begins, goes_on}
use Rattle.hb_proxy.specs.Shared.{Shared, asks, tells, puts, finishes, credits, drops, completes, captured_part as captured_side, gateway_part as gateway_side}
use Rattle.hb_proxy.proofs.Load.{not_more, one_more, none_below, one_falls, one_at_most}
use Rattle.hb_proxy.proofs.Phases.{in_counts, stops_in, gate_stops, IsWelcome, part_in, IsDial, gate_in}

-- each link that is in was in
pub record Falls (x y : Machine) : Type 0 where
  pub links : (k : ℕ) → is_in (y.inbound k).phase ≡ true → is_in (x.inbound k).phase ≡ true
  pub gates : (k : ℕ) → carries (y.gates k).phase ≡ true → carries (x.gates k).phase ≡ true

within_falls : (g : NodeConfig) (x y : Machine) → Falls x y → LinksWithin g x → LinksWithin g y
within_falls g x y falls within n =
    let less = not_more (links_in x) (links_in y) n each in let before = within n in omega (arith, less, before)
  where
    each : (k : ℕ) → k < n → links_in y k ≤ links_in x k
    each k below =
        let left = one_falls (is_in (y.inbound k).phase) (is_in (x.inbound k).phase) (falls.links k) in
        let right = one_falls (carries (y.gates k).phase) (carries (x.gates k).phase) (falls.gates k) in omega (arith, left, right)

control_falls : (q : point.Point) (next : control.Machine) (x : Machine) → Falls x (with_control q next x)
control_falls (point.applied l r) next x = record { links = λ k is. is; gates = λ k is. is }
control_falls (point.stopped why) next x =
    record { links = λ k is. stops_in why (x.inbound k).phase is; gates = λ k is. gate_stops why (x.gates k).phase is }
control_falls _ next x = record { links = λ k is. is; gates = λ k is. is }

-- a part of one link
link_falls : (x : Machine) (l : ℕ) (p : Part) (next : Inbound) → inbound.Steps l (local x l) p (inbound.with_link next (local x l))
    → (IsWelcome p → ⊥) → Falls x (with_part l p next x)
link_falls x l p next steps other = record {
  links = λ k. cond_both (k == l) next (x.inbound k) (λ (z : Inbound). is_in z.phase ≡ true → is_in (x.inbound k).phase ≡ true)
      (λ same is. subst (λ (j : ℕ). is_in (x.inbound j).phase ≡ true) (sym (eqb-true k l same))
      (part_in l (local x l) (inbound.with_link next (local x l)) p steps other is)) (λ apart is. is);
  gates = λ k is. is;
}

gates_fall : (x : Machine) (n : ℕ) (p : gateway_part.Part) (next : Gateway) → gateways.Steps n (x.gates n) p next → (IsDial p → ⊥)
    → (k : ℕ) → carries (cond (k == n) next (x.gates k)).phase ≡ true → carries (x.gates k).phase ≡ true
gates_fall x n p next steps other k =
    cond_both (k == n) next (x.gates k) (λ (z : Gateway). carries z.phase ≡ true → carries (x.gates k).phase ≡ true)
    (λ same is. subst (λ (j : ℕ). carries (x.gates j).phase ≡ true) (sym (eqb-true k n same))
    (gate_in n (x.gates n) next p steps other is)) (λ apart is. is)

shared_no_dial : (l s : ℕ) (w : Shared) → IsDial (gateway_side l s w) → ⊥
shared_no_dial l s (asks authority) is = is
shared_no_dial l s (tells heard begun) is = is
shared_no_dial l s (puts waiting count) is = is
shared_no_dial l s finishes is = is
shared_no_dial l s (credits n) is = is
shared_no_dial l s (drops begun) is = is
shared_no_dial l s (completes begun note) is = is

-- what is in counts
in_at : (x : Machine) (k : ℕ) → links_in x k ≤ links_at x k
in_at x k =
    let left = one_falls (is_in (x.inbound k).phase) (counts (x.inbound k).phase) (in_counts (x.inbound k).phase) in omega (arith, left)

module _ (g : NodeConfig) (x : Machine) (within : LinksWithin g x) where
  -- one is taken in, which counted already
  welcomes : (l : ℕ) (next : Inbound) → counts (x.inbound l).phase ≡ true → ((n : ℕ) → links_below x n < suc (most_links g))
      → LinksWithin g (with_part l part.welcomed next x)
  welcomes l next counted few n =
      let less = not_more (links_at x) (links_in (with_part l part.welcomed next x)) n (λ k below. each k) in
      let most = few n in omega (arith, less, most)
    where
      each : (k : ℕ) → links_in (with_part l part.welcomed next x) k ≤ links_at x k
      each k =
          let left = one_falls (is_in (cond (k == l) next (x.inbound k)).phase) (counts (x.inbound k).phase)
          (cond_both (k == l) next (x.inbound k) (λ (z : Inbound). is_in z.phase ≡ true → counts (x.inbound k).phase ≡ true)
          (λ same is. subst (λ (j : ℕ). counts (x.inbound j).phase ≡ true) (sym (eqb-true k l same)) counted)
          (λ apart is. in_counts (x.inbound k).phase is)) in omega (arith, left)

  -- one is dialled
  dials : (m : ℕ) (p : gateway_part.Part) (next : Gateway) → ((n : ℕ) → links_below x n < most_links g)
      → LinksWithin g (with_gate m p next x)
  dials m p next few n =
      let more = one_more (links_at x) (links_in (with_gate m p next x)) m each here n in
      let most = few n in omega (arith, more, most)
    where
      each : (k : ℕ) → k ≢ m → links_in (with_gate m p next x) k ≤ links_at x k
      each k apart =
          subst (λ (b : Bool). one_if (is_in (x.inbound k).phase) + one_if (carries (cond b next (x.gates k)).phase) ≤ links_at x k)
          (sym (ne_eqb k m apart)) (in_at x k)

      here : links_in (with_gate m p next x) m ≤ links_at x m + 1
      here =
          let left = one_falls (is_in (x.inbound m).phase) (counts (x.inbound m).phase) (in_counts (x.inbound m).phase) in
          let right = one_at_most (carries (cond (m == m) next (x.gates m)).phase) in omega (arith, left, right)

step_within : (g : NodeConfig) (x y : Machine) (p : Point) → Steps g x p y → LinksWithin g x → LinksWithin g y
step_within g x y (of_control q) steps within =
    subst (LinksWithin g) (sym steps.3) (within_falls g x (with_control q steps.0 x) (control_falls q steps.0 x) within)
step_within g x y (of_link l part.welcomed) steps within =
    subst (LinksWithin g) (sym steps.3) (welcomes g x within l steps.0 (ap counts steps.1.0) steps.2)
step_within g x y (of_link l p) steps within =
    subst (LinksWithin g) (sym steps.3) (within_falls g x (with_part l p steps.0 x) (link_falls x l p steps.0 steps.1 (λ is. is)) within)
step_within g x y (of_plain l p) steps within =
    subst (LinksWithin g) (sym steps.2)
    (within_falls g x (with_plain l p (captured.next_link (x.plain l) p) x) (record { links = λ k is. is; gates = λ k is. is }) within)
step_within g x y (of_gate n (gateway_part.dialled z key)) steps within =
    subst (LinksWithin g) (sym steps.3) (dials g x within n (gateway_part.dialled z key) steps.0 steps.2.2)
step_within g x y (of_gate n p) steps within =
    subst (LinksWithin g) (sym steps.3)
    (within_falls g x (with_gate n p steps.0 x) (record { links = λ k is. is; gates = gates_fall x n p steps.0 steps.1 (λ is. is) }) within)
step_within g x y (of_stream l n s w) steps within =
    subst (LinksWithin g) (sym steps.4)
    (within_falls g x (with_stream l n (captured.next_link (x.plain l) (captured_side n s w)) steps.1 x)
    (record { links = λ k is. is; gates = gates_fall x n (gateway_side l s w) steps.1 steps.2 (shared_no_dial l s w) }) within)

pub never_more_links : NeverMoreLinks
never_more_links g x points (begins is none) =
    subst (LinksWithin g) (sym is) (λ n. let zero_all = none_below n in omega (arith, zero_all))
never_more_links g y more (goes_on {x = x} {points = points} stands p steps are) =
    step_within g x y p steps (never_more_links g x points stands)
