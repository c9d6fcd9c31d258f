-- Never more tunnels than may be.
use Rattle.std.proofs.Common.{◌≡◌, ℕ, suc, ◌+◌, ◌<◌, ◌≤◌, ◌==◌, Bool, true, false, cond, refl, ap, sym, subst, arith}
use Rattle.std.proofs.lemmas.Bool.{cond_both, eqb-true, eq-eqb, ne_eqb}
use Rattle.std.specs.Prelude.{◌≢◌}
use Rattle.hb_captured.specs.Captured.{Captured}
use Rattle.hb_captured.specs.Part as captured_part
use Rattle.hb_captured.specs.Runs as captured
use Rattle.hb_held.specs.Outcome.{after_response}
use Rattle.hb_inbound.specs.Inbound.{Inbound}
use Rattle.hb_inbound.specs.Part as part
use Rattle.hb_inbound.specs.Part.{Part}
use Rattle.hb_inbound.specs.Runs as inbound
use Rattle.hb_inbound.specs.Tunnel.{Tunnel, takes_place}
use Rattle.hb_model.specs.Machine as control
use Rattle.hb_model.specs.Point as point
use Rattle.hb_model.specs.declared.config.NodeConfig.{NodeConfig}
use Rattle.hb_proxy.specs.Limits.{has_place, tunnels_in, TunnelsWithin, NeverMoreTunnels}
use Rattle.hb_proxy.specs.Load.{most_tunnels, sum_below, one_if, is_placed, tunnels_on, tunnels_at, tunnels_below}
use Rattle.hb_proxy.specs.Machine.{Machine, local, plain_local, with_control, with_part, with_plain, with_gate, with_stream}
use Rattle.hb_proxy.specs.Points.{Point, of_control, of_link, of_plain, of_gate, of_stream}
use Rattle.hb_proxy.specs.Runs.{Steps, begins, goes_on}
use Rattle.hb_proxy.specs.Shared.{Shared, asks, tells, puts, finishes, credits, drops, completes, captured_part as captured_side}
use Rattle.hb_proxy.proofs.Load.{not_more, one_more, none_below, one_at_most, one_falls}
use Rattle.hb_proxy.proofs.Placed.{Has, rejudged_place, stopped_place, Places, part_place, in_placed, plain_ends, PlainPlaces, plain_place, plain_rejudged}

-- each tunnel that has a place had one
pub record Falls (x y : Machine) : Type 0 where
  pub tunnels : (l k : ℕ) → Has ((y.inbound l).tunnels k) → Has ((x.inbound l).tunnels k)
  pub plain : (l : ℕ) → has_place (y.plain l).stage ≡ true → has_place (x.plain l).stage ≡ true

-- of one link
tunnels_fall : (old new : Inbound) → ((k : ℕ) → Has (new.tunnels k) → Has (old.tunnels k)) → (n : ℕ) → tunnels_on new n ≤ tunnels_on old n
tunnels_fall old new falls n =
    not_more (λ s. one_if (takes_place (old.tunnels s).stage)) (λ s. one_if (takes_place (new.tunnels s).stage)) n
    (λ k below. one_falls (takes_place (new.tunnels k).stage) (takes_place (old.tunnels k).stage) (falls k))

within_falls : (g : NodeConfig) (x y : Machine) → Falls x y → TunnelsWithin g x → TunnelsWithin g y
within_falls g x y falls within n =
    let less = not_more (tunnels_in x n) (tunnels_in y n) n each in let before = within n in omega (arith, less, before)
  where
    each : (k : ℕ) → k < n → tunnels_in y n k ≤ tunnels_in x n k
    each k below =
        let left = tunnels_fall (x.inbound k) (y.inbound k) (falls.tunnels k) n in
        let right = one_falls (has_place (y.plain k).stage) (has_place (x.plain k).stage) (falls.plain k) in omega (arith, left, right)

control_falls : (q : point.Point) (next : control.Machine) (x : Machine) → Falls x (with_control q next x)
control_falls (point.applied l r) next x = record {
  tunnels = λ j k is. rejudged_place (after_response x.control.held r) (x.inbound j) k is;
  plain = λ j is. plain_rejudged (after_response x.control.held r) (x.plain j) is;
}
control_falls (point.stopped why) next x = record {
  tunnels = λ j k is. stopped_place why (x.inbound j) k is;
  plain = λ j is. plain_ends why (x.plain j).stage is;
}
control_falls _ next x = record { tunnels = λ j k is. is; plain = λ j is. is }

link_falls : (x : Machine) (l : ℕ) (p : Part) (next : Inbound) → inbound.Steps l (local x l) p (inbound.with_link next (local x l))
    → (Places p → ⊥) → Falls x (with_part l p next x)
link_falls x l p next steps other = record {
  tunnels = λ j k. cond_both (j == l) next (x.inbound j) (λ (z : Inbound). Has (z.tunnels k) → Has ((x.inbound j).tunnels k))
      (λ same is. subst (λ (i : ℕ). Has ((x.inbound i).tunnels k)) (sym (eqb-true j l same))
      (part_place l (local x l) (inbound.with_link next (local x l)) p steps other k is)) (λ apart is. is);
  plain = λ j is. is;
}

plain_falls : (x : Machine) (l : ℕ) (p : captured_part.Part) → captured.MayGo l (plain_local x l) p → (PlainPlaces p → ⊥) → (j : ℕ)
    → has_place (cond (j == l) (captured.next_link (x.plain l) p) (x.plain j)).stage ≡ true → has_place (x.plain j).stage ≡ true
plain_falls x l p may other j =
    cond_both (j == l) (captured.next_link (x.plain l) p) (x.plain j)
    (λ (z : Captured). has_place z.stage ≡ true → has_place (x.plain j).stage ≡ true)
    (λ same is. subst (λ (i : ℕ). has_place (x.plain i).stage ≡ true) (sym (eqb-true j l same))
    (plain_place l (plain_local x l) p may other is)) (λ apart is. is)

shared_places_none : (n s : ℕ) (w : Shared) → PlainPlaces (captured_side n s w) → ⊥
shared_places_none n s (asks authority) is = is
shared_places_none n s (tells heard begun) is = is
shared_places_none n s (puts waiting count) is = is
shared_places_none n s finishes is = is
shared_places_none n s (credits k) is = is
shared_places_none n s (drops begun) is = is
shared_places_none n s (completes begun note) is = is

-- what has a place counts
in_at : (x : Machine) (n k : ℕ) → tunnels_in x n k ≤ tunnels_at x n k
in_at x n k =
    let right = one_falls (has_place (x.plain k).stage) (is_placed (x.plain k).stage) (in_placed (x.plain k).stage) in omega (arith, right)

module _ (g : NodeConfig) (x : Machine) where
  -- a plain link is taken in, which counted already
  welcomes : (l : ℕ) (next : Captured) → is_placed (x.plain l).stage ≡ true → ((n : ℕ) → tunnels_below x n < suc (most_tunnels g))
      → TunnelsWithin g (with_plain l captured_part.welcomed next x)
  welcomes l next counted few n =
      let less = not_more (tunnels_at x n) (tunnels_in (with_plain l captured_part.welcomed next x) n) n (λ k below. each k) in
      let most = few n in omega (arith, less, most)
    where
      each : (k : ℕ) → tunnels_in (with_plain l captured_part.welcomed next x) n k ≤ tunnels_at x n k
      each k =
          let right = one_falls (has_place (cond (k == l) next (x.plain k)).stage) (is_placed (x.plain k).stage)
          (cond_both (k == l) next (x.plain k) (λ (z : Captured). has_place z.stage ≡ true → is_placed (x.plain k).stage ≡ true)
          (λ same is. subst (λ (j : ℕ). is_placed (x.plain j).stage ≡ true) (sym (eqb-true k l same)) counted)
          (λ apart is. in_placed (x.plain k).stage is)) in omega (arith, right)

  -- a request is answered: one place more at most is taken
  decides : (l s : ℕ) (p : Part) (t : Tunnel) (next : Inbound) → next.tunnels ≡ (λ k. cond (k == s) t ((x.inbound l).tunnels k))
      → ((n : ℕ) → tunnels_below x n < most_tunnels g) → TunnelsWithin g (with_part l p next x)
  decides l s p t next is few n =
      let more = one_more (tunnels_at x n) (tunnels_in (with_part l p next x) n) l each here n in
      let most = few n in omega (arith, more, most)
    where
      each : (k : ℕ) → k ≢ l → tunnels_in (with_part l p next x) n k ≤ tunnels_at x n k
      each k apart =
          subst (λ (b : Bool). tunnels_on (cond b next (x.inbound k)) n + one_if (has_place (x.plain k).stage) ≤ tunnels_at x n k)
          (sym (ne_eqb k l apart)) (in_at x n k)

      old : ℕ → ℕ
      old k = one_if (takes_place ((x.inbound l).tunnels k).stage)

      new : ℕ → ℕ
      new k = one_if (takes_place (cond (k == s) t ((x.inbound l).tunnels k)).stage)

      apart_same : (k : ℕ) → k ≢ s → new k ≤ old k
      apart_same k apart =
          let same : old k ≤ old k = omega arith in
          subst (λ (b : Bool). one_if (takes_place (cond b t ((x.inbound l).tunnels k)).stage) ≤ old k) (sym (ne_eqb k s apart)) same

      at_stream : new s ≤ old s + 1
      at_stream = let most = one_at_most (takes_place (cond (s == s) t ((x.inbound l).tunnels s)).stage) in omega (arith, most)

      on_link : sum_below new n ≤ sum_below old n + 1
      on_link = one_more old new s apart_same at_stream n

      on_next : tunnels_on next n ≤ tunnels_on (x.inbound l) n + 1
      on_next =
          subst (λ (f : ℕ → Tunnel). sum_below (λ k. one_if (takes_place (f k).stage)) n ≤ tunnels_on (x.inbound l) n + 1) (sym is) on_link

      here : tunnels_in (with_part l p next x) n l ≤ tunnels_at x n l + 1
      here =
          let right = one_falls (has_place (x.plain l).stage) (is_placed (x.plain l).stage) (in_placed (x.plain l).stage) in
          let sum : tunnels_on next n + one_if (has_place (x.plain l).stage) ≤ tunnels_at x n l + 1 = omega (arith, right, on_next) in
          subst (λ (b : Bool). tunnels_on (cond b next (x.inbound l)) n + one_if (has_place (x.plain l).stage) ≤ tunnels_at x n l + 1)
          (sym (eq-eqb l l refl)) sum

step_within : (g : NodeConfig) (x y : Machine) (p : Point) → Steps g x p y → TunnelsWithin g x → TunnelsWithin g y
step_within g x y (of_control q) steps within =
    subst (TunnelsWithin g) (sym steps.3) (within_falls g x (with_control q steps.0 x) (control_falls q steps.0 x) within)
step_within g x y (of_link l (part.decided s false answer)) steps within =
    subst (TunnelsWithin g) (sym steps.3)
    (decides g x l s (part.decided s false answer) (inbound.tunnel_for answer steps.1.1 steps.1.2) steps.0
    (ap (λ (c : inbound.Local). c.link.tunnels) steps.1.5) steps.2)
step_within g x y (of_link l (part.decided s true answer)) steps within =
    subst (TunnelsWithin g) (sym steps.3)
    (within_falls g x (with_part l (part.decided s true answer) steps.0 x)
    (link_falls x l (part.decided s true answer) steps.0 steps.1 (λ is. is)) within)
step_within g x y (of_link l p) steps within =
    subst (TunnelsWithin g) (sym steps.3) (within_falls g x (with_part l p steps.0 x) (link_falls x l p steps.0 steps.1 (λ is. is)) within)
step_within g x y (of_plain l captured_part.welcomed) steps within =
    subst (TunnelsWithin g) (sym steps.2)
    (welcomes g x l (captured.next_link (x.plain l) captured_part.welcomed) (ap is_placed steps.0) steps.1)
step_within g x y (of_plain l p) steps within =
    subst (TunnelsWithin g) (sym steps.2)
    (within_falls g x (with_plain l p (captured.next_link (x.plain l) p) x)
    (record { tunnels = λ j k is. is; plain = plain_falls x l p steps.0 (λ is. is) }) within)
step_within g x y (of_gate n p) steps within =
    subst (TunnelsWithin g) (sym steps.3)
    (within_falls g x (with_gate n p steps.0 x) (record { tunnels = λ j k is. is; plain = λ j is. is }) within)
step_within g x y (of_stream l n s w) steps within =
    subst (TunnelsWithin g) (sym steps.4)
    (within_falls g x (with_stream l n (captured.next_link (x.plain l) (captured_side n s w)) steps.1 x)
    (record { tunnels = λ j k is. is; plain = plain_falls x l (captured_side n s w) steps.0 (shared_places_none n s w) }) within)

-- nothing is there at first
nothing : (n m : ℕ) → sum_below (λ k. sum_below (λ s. 0) n + 0) m ≡ 0
nothing n m =
    let each = not_more (λ k. 0) (λ k. sum_below (λ s. 0) n + 0) m (λ k below. let none = none_below n in omega (arith, none)) in
    let none = none_below m in omega (arith, each, none)

pub never_more_tunnels : NeverMoreTunnels
never_more_tunnels g x points (begins is none) =
    subst (TunnelsWithin g) (sym is) (λ n. let zero_all = nothing n n in omega (arith, zero_all))
never_more_tunnels g y more (goes_on {x = x} {points = points} stands p steps are) =
    step_within g x y p steps (never_more_tunnels g x points stands)
