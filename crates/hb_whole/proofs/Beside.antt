-- What follows by itself on the links that go out: it leaves the other parts as they are, and follows beside whatever these are.
use Rattle.std.proofs.Common.{◌≡◌, ℕ, ◌<◌, ◌==◌, min, false, cond, List, [], ◌∷◌, refl, ap, sym, ◌∙◌, subst}
use Rattle.hb_captured.specs.Answer.{through}
use Rattle.hb_captured.specs.Counts.{counted_with}
use Rattle.hb_captured.specs.Part as part
use Rattle.hb_captured.specs.Runs.{Local, MayGo, next_link}
use Rattle.hb_conn.specs.Observed.{creditable}
use Rattle.hb_gateway.specs.Gateway.{Gateway, offers}
use Rattle.hb_gateway.specs.Part as gate
use Rattle.hb_gateway.specs.Runs as gateway
use Rattle.hb_model.specs.Machine.{Machine as Control}
use Rattle.hb_model.specs.declared.config.NodeConfig.{NodeConfig}
use Rattle.hb_proxy.specs.Machine.{Machine, Outward, outward, plain_local, with_gate, with_plain, with_stream}
use Rattle.hb_proxy.specs.Points.{Point, of_control, of_link, of_plain, of_gate, of_stream}
use Rattle.hb_proxy.specs.Runs.{GateGuard, IsStreamOf, PlainGuard, Steps, StreamGuard}
use Rattle.hb_proxy.specs.Shared.{Shared, asks, puts, credits, captured_part, gateway_part}
use Rattle.hb_relays.proofs.Due.{as_refusing}
use Rattle.hb_relays.specs.Reaches.{IsInner, IsRefusing, Leads, LeadsBy}

-- THE OTHER PARTS STAY
pub record Keeps (x y : Machine) : Type 0 where
  pub control : y.control ≡ x.control
  pub inbound : y.inbound ≡ x.inbound

pub step_keeps : (g : NodeConfig) (x y : Machine) (p : Point) → IsRefusing p → Steps g x p y → Keeps x y
step_keeps g x y (of_control q) inner steps = absurd inner
step_keeps g x y (of_link l p) inner steps = absurd inner
step_keeps g x y (of_plain l p) inner steps = record {
  control = ap (λ (w : Machine). w.control) steps.2;
  inbound = ap (λ (w : Machine). w.inbound) steps.2;
}
step_keeps g x y (of_gate n p) inner steps = record {
  control = ap (λ (w : Machine). w.control) steps.3;
  inbound = ap (λ (w : Machine). w.inbound) steps.3;
}
step_keeps g x y (of_stream l n s w) inner steps = record {
  control = ap (λ (w : Machine). w.control) steps.4;
  inbound = ap (λ (w : Machine). w.inbound) steps.4;
}

pub leads_keep : (g : NodeConfig) (x y : Machine) (more : List Point) → LeadsBy IsRefusing g x more y → Keeps x y
leads_keep g x y [] is = record { control = ap (λ (w : Machine). w.control) is; inbound = ap (λ (w : Machine). w.inbound) is }
leads_keep g x y (p ∷ more) is =
    let first = step_keeps g x is.1 p is.0 is.2 in
    let rest = leads_keep g is.1 y more is.3 in
    record { control = rest.control ∙ first.control; inbound = rest.inbound ∙ first.inbound }

-- BESIDE OTHER PARTS

-- what goes out by itself says which links to gateways have room
abbrev OutFirst : Outward → ℕ → Type 0
OutFirst o n = (k : ℕ) → k < n → (o.gates k).key ≡ (o.gates n).key → offers (o.gates k) ≡ false

-- and goes on so by a part of a link, of a link to a gateway, and of both
abbrev out_plain : ℕ → part.Part → Outward → Outward
out_plain l p o = record o {
  plain = λ k. cond (k == l) (next_link (o.plain l) p) (o.plain k);
  opens = counted_with (o.plain l) (next_link (o.plain l) p) o.opens;
}

abbrev out_gate : ℕ → Gateway → Outward → Outward
out_gate n next o = record o { gates = λ k. cond (k == n) next (o.gates k) }

module _ (g : NodeConfig) (x z : Machine) (same : outward z ≡ outward x) where
  -- so a part may come where that is the same
  plain_guard : (l : ℕ) (p : part.Part) → IsInner (of_plain l p) → PlainGuard g x l p → PlainGuard g z l p
  plain_guard l (part.entry q) inner guard = absurd inner
  plain_guard l (part.up q) inner guard = absurd inner
  plain_guard l (part.fronted seen by aim) inner guard =
      guard ∙ ap (λ (o : Outward). record { opens = o.opens; hbone_port = g.hbone_port }) (sym same)
  plain_guard l (part.refused seen by why status note) inner guard =
      guard ∙ ap (λ (o : Outward). record { opens = o.opens; hbone_port = g.hbone_port }) (sym same)
  plain_guard l part.welcomed inner guard = absurd inner
  plain_guard l part.crowded inner guard = absurd inner
  plain_guard l part.roomless inner guard = absurd inner
  plain_guard l _ inner guard = guard

  gate_guard : (n : ℕ) (p : gate.Part) → IsInner (of_gate n p) → GateGuard g x n p → GateGuard g z n p
  gate_guard n (gate.entry q) inner guard = absurd inner
  gate_guard n (gate.dialled q key) inner guard = absurd inner
  gate_guard n _ inner guard = guard

  stream_same : (l n s : ℕ) → IsStreamOf x l n s → IsStreamOf z l n s
  stream_same l n s is = record {
    gate = ap (λ (o : Outward). (o.plain l).gate) same ∙ is.gate;
    number = ap (λ (o : Outward). (o.plain l).stream) same ∙ is.number;
  }

  stream_guard : (l n s : ℕ) (w : Shared) → StreamGuard x l n s w → StreamGuard z l n s w
  stream_guard l n s (asks authority) guard = record {
    endpoint = guard.endpoint;
    aim = ap (λ (o : Outward). (o.plain l).aim) same ∙ guard.aim
        ∙ ap (λ (o : Outward). through (o.gates n).key authority guard.endpoint) (sym same);
    first = subst (λ (o : Outward). OutFirst o n) (sym same) guard.first;
  }
  stream_guard l n s (puts waiting count) guard =
      (stream_same l n s guard.0, guard.1 ∙ ap (λ (o : Outward). (o.plain l).ways.up.held) (sym same))
  stream_guard l n s (credits count) guard =
      (stream_same l n s guard.0, guard.1 ∙ ap (λ (o : Outward). min (o.plain l).owed (creditable (o.gates n).conn s)) (sym same))
  stream_guard l n s _ guard = stream_same l n s guard

  local_same : (l : ℕ) → z.control ≡ x.control → plain_local x l ≡ plain_local z l
  local_same l control =
      ap (λ (o : Outward). record { held = x.control.held; link = o.plain l }) (sym same)
      ∙ ap (λ (c : Control). record { held = c.held; link = z.plain l }) (sym control)

-- One such point leads from another machine, of which the same goes out by itself, and which holds the same
record Beside (g : NodeConfig) (z y : Machine) (p : Point) : Type 0 where
  pub next : Machine
  pub steps : Steps g z p next
  pub same : outward next ≡ outward y
  pub control : next.control ≡ z.control

step_beside : (g : NodeConfig) (x y z : Machine) (p : Point) → IsInner p → Steps g x p y → outward z ≡ outward x
    → z.control ≡ x.control → Beside g z y p
step_beside g x y z (of_control q) inner steps same control = absurd inner
step_beside g x y z (of_link l p) inner steps same control = absurd inner
step_beside g x y z (of_plain l p) inner steps same control = record {
  next = with_plain l p (next_link (z.plain l) p) z;
  steps = (
    subst (λ (a : Local). MayGo l a p) (local_same g x z same l control) steps.0,
    plain_guard g x z same l p inner steps.1,
    refl,
  );
  same = ap (out_plain l p) same ∙ sym (ap outward steps.2);
  control = refl;
}
step_beside g x y z (of_gate n p) inner steps same control = record {
  next = with_gate n p steps.0 z;
  steps = (
    steps.0,
    subst (λ (o : Outward). gateway.Steps n (o.gates n) p steps.0) (sym same) steps.1,
    gate_guard g x z same n p inner steps.2,
    refl,
  );
  same = ap (out_gate n steps.0) same ∙ sym (ap outward steps.3);
  control = refl;
}
step_beside g x y z (of_stream l n s w) inner steps same control =
    let p = captured_part n s w in
    record {
      next = with_stream l n (next_link (z.plain l) p) steps.1 z;
      steps = (
        subst (λ (a : Local). MayGo l a p) (local_same g x z same l control) steps.0,
        steps.1,
        subst (λ (o : Outward). gateway.Steps n (o.gates n) (gateway_part l s w) steps.1) (sym same) steps.2,
        stream_guard g x z same l n s w steps.3,
        refl,
      );
      same = ap (λ (o : Outward). out_gate n steps.1 (out_plain l p o)) same ∙ sym (ap outward steps.4);
      control = refl;
    }

-- so they all do
pub record AllBeside (g : NodeConfig) (z : Machine) (more : List Point) (y : Machine) : Type 0 where
  pub reached : Machine
  pub leads : Leads g z more reached
  pub same : outward reached ≡ outward y

pub beside : (g : NodeConfig) (x : Machine) (more : List Point) (y z : Machine) → Leads g x more y → outward z ≡ outward x
    → z.control ≡ x.control → AllBeside g z more y
beside g x [] y z is same control = record { reached = z; leads = refl; same = same ∙ sym (ap outward is) }
beside g x (p ∷ more) y z is same control =
    let one = step_beside g x is.1 z p is.0 is.2 same control in
    let kept = (step_keeps g x is.1 p (as_refusing p is.0) is.2).control in
    let rest = beside g is.1 more y one.next is.3 one.same (one.control ∙ control ∙ sym kept) in
    record { reached = rest.reached; leads = (is.0, one.next, one.steps, rest.leads); same = rest.same }
