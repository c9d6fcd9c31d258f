-- An inbound link is taken in where it is welcomed alone, and a link to a gateway carries streams from its dial alone.
use Rattle.std.proofs.Common.{◌≡◌, ℕ, true, refl, ap, sym, ◌∙◌, subst}
use Rattle.std.proofs.lemmas.Bool.{false≢true}
use Rattle.std.specs.Prelude.{⊤, List}
use Rattle.hb_base.specs.declared.cause.Cause.{Cause}
use Rattle.hb_gateway.specs.Gateway as gateway
use Rattle.hb_gateway.specs.Gateway.{Gateway, carries}
use Rattle.hb_gateway.specs.Part as gateway_part
use Rattle.hb_gateway.specs.Runs as gateways
use Rattle.hb_inbound.specs.Inbound.{Inbound, Phase, unborn, arriving, fronting, serving, faulted, closing, closed, came_by, went_by, ended_by, broken_by, stops_by}
use Rattle.hb_inbound.specs.Part as part
use Rattle.hb_inbound.specs.Part.{Part}
use Rattle.hb_inbound.specs.Runs.{Local, Steps, entered}
use Rattle.hb_world.specs.declared.entry.Entry.{Entry}
use Rattle.hb_world.specs.declared.entry.Entry.TheVariants as e
use Rattle.hb_proxy.specs.Limits.{is_in}
use Rattle.hb_proxy.specs.Load.{counts}

-- what was taken in counts
pub in_counts : (phase : Phase) → is_in phase ≡ true → counts phase ≡ true
in_counts unborn is = is
in_counts arriving is = absurd (false≢true is)
in_counts fronting is = is
in_counts serving is = is
in_counts (faulted code) is = is
in_counts (closing why) is = is
in_counts closed is = is

came_same : (phase : Phase) (bytes : List ℕ) (x : Inbound) → (came_by phase bytes x).phase ≡ x.phase
came_same unborn bytes x = refl
came_same arriving bytes x = refl
came_same fronting bytes x = refl
came_same serving bytes x = refl
came_same (faulted code) bytes x = refl
came_same (closing why) bytes x = refl
came_same closed bytes x = refl

went_in : (phase : Phase) → is_in (went_by phase) ≡ true → is_in phase ≡ true
went_in unborn is = is
went_in arriving is = is
went_in fronting is = is
went_in serving is = is
went_in (faulted code) is = is
went_in (closing why) is = is
went_in closed is = is

ended_in : (phase : Phase) (x : Inbound) → is_in (ended_by phase x).phase ≡ true → is_in x.phase ≡ true
ended_in unborn x is = is
ended_in arriving x is = is
ended_in fronting x is = absurd (false≢true is)
ended_in serving x is = absurd (false≢true is)
ended_in (faulted code) x is = is
ended_in (closing why) x is = is
ended_in closed x is = is

broke_in : (phase : Phase) (x : Inbound) → is_in (broken_by phase x).phase ≡ true → is_in x.phase ≡ true
broke_in unborn x is = is
broke_in arriving x is = is
broke_in fronting x is = absurd (false≢true is)
broke_in serving x is = absurd (false≢true is)
broke_in (faulted code) x is = absurd (false≢true is)
broke_in (closing why) x is = is
broke_in closed x is = is

pub stops_in : (why : Cause) (phase : Phase) → is_in (stops_by why phase) ≡ true → is_in phase ≡ true
stops_in why unborn is = is
stops_in why arriving is = absurd (false≢true is)
stops_in why fronting is = absurd (false≢true is)
stops_in why serving is = absurd (false≢true is)
stops_in why (faulted code) is = is
stops_in why (closing cause) is = is
stops_in why closed is = is

entry_in : (z : Entry) (x : Inbound) → is_in (entered z x).phase ≡ true → is_in x.phase ≡ true
entry_in (e.Accepted k d) x is = absurd (false≢true is)
entry_in (e.Came k bytes) x is = sym (ap is_in (came_same x.phase bytes x)) ∙ is
entry_in (e.Ended k) x is = ended_in x.phase x is
entry_in (e.Went k bytes) x is = went_in x.phase is
entry_in (e.Broke k) x is = broke_in x.phase x is
entry_in (e.Closed k why) x is = absurd (false≢true is)
entry_in _ x is = is

abbrev pub IsWelcome : Part → Type 0
IsWelcome part.welcomed = ⊤
IsWelcome _ = ⊥

module _ (l : ℕ) (a b : Local) where
  at : (z : Local) → b ≡ z → is_in b.link.phase ≡ true → is_in z.link.phase ≡ true
  at z same is = subst (λ (c : Local). is_in c.link.phase ≡ true) same is

  pub part_in : (p : Part) → Steps l a p b → (IsWelcome p → ⊥) → is_in b.link.phase ≡ true → is_in a.link.phase ≡ true
  part_in (part.entry z) steps other is = entry_in z a.link (at _ steps.1 is)
  part_in (part.up s z) steps other is = at _ steps.1 is
  part_in part.welcomed steps other is = absurd (other tt)
  part_in part.crowded steps other is = absurd (false≢true (at _ steps.1 is))
  part_in part.lacked steps other is = absurd (false≢true (at _ steps.1 is))
  part_in (part.fronted seen) steps other is = ap is_in steps.0
  part_in (part.misfronted fault) steps other is = ap is_in steps.0
  part_in (part.looked ps told headers) steps other is = ap is_in steps.0
  part_in (part.decided s full given) steps other is = ap is_in steps.0
  part_in (part.accepted s made) steps other is = ap is_in steps.0
  part_in (part.refused s status resets made) steps other is = ap is_in steps.0
  part_in (part.reset s code made) steps other is = ap is_in steps.0
  part_in (part.left s made) steps other is = at _ steps.2 is
  part_in (part.done s made) steps other is = at _ steps.3 is
  part_in (part.put s bytes) steps other is = at _ steps.3 is
  part_in (part.finished s) steps other is = at _ steps.2 is
  part_in (part.credited s n) steps other is = at _ steps.3 is
  part_in (part.applied r) steps other is = at _ steps is
  part_in (part.stopped why) steps other is = stops_in why a.link.phase (at _ steps is)

-- A LINK TO A GATEWAY

gate_went : (phase : gateway.Phase) → carries (gateway.went_by phase) ≡ true → carries phase ≡ true
gate_went gateway.unborn is = is
gate_went gateway.opening is = is
gate_went gateway.serving is = is
gate_went (gateway.faulted code) is = is
gate_went (gateway.closing why) is = is
gate_went gateway.closed is = is

gate_broke : (phase : gateway.Phase) → carries (gateway.broken_by phase) ≡ true → carries phase ≡ true
gate_broke gateway.unborn is = is
gate_broke gateway.opening is = absurd (false≢true is)
gate_broke gateway.serving is = absurd (false≢true is)
gate_broke (gateway.faulted code) is = is
gate_broke (gateway.closing why) is = is
gate_broke gateway.closed is = is

pub gate_stops : (why : Cause) (phase : gateway.Phase) → carries (gateway.stops_by why phase) ≡ true → carries phase ≡ true
gate_stops why gateway.unborn is = is
gate_stops why gateway.opening is = absurd (false≢true is)
gate_stops why gateway.serving is = absurd (false≢true is)
gate_stops why (gateway.faulted code) is = is
gate_stops why (gateway.closing cause) is = is
gate_stops why gateway.closed is = is

abbrev pub IsDial : gateway_part.Part → Type 0
IsDial (gateway_part.dialled z key) = ⊤
IsDial _ = ⊥

module _ (n : ℕ) (x y : Gateway) where
  gate_at : (z : Gateway) → y ≡ z → carries y.phase ≡ true → carries z.phase ≡ true
  gate_at z same is = subst (λ (c : Gateway). carries c.phase ≡ true) same is

  gate_entry : (z : Entry) → gateways.Steps n x (gateway_part.entry z) y → carries y.phase ≡ true → carries x.phase ≡ true
  gate_entry (e.Opened k) steps is = ap carries steps.0.1.1
  gate_entry (e.Came k bytes) steps is = gate_at _ steps.1 is
  gate_entry (e.Ended k) steps is = absurd (false≢true (gate_at _ steps.1 is))
  gate_entry (e.Went k bytes) steps is = gate_went x.phase (gate_at _ steps.1 is)
  gate_entry (e.Broke k) steps is = gate_broke x.phase (gate_at _ steps.1 is)
  gate_entry (e.Closed k why) steps is = absurd (false≢true (gate_at _ steps.1 is))
  gate_entry z steps is = gate_at _ steps.1 is

  pub gate_in : (p : gateway_part.Part) → gateways.Steps n x p y → (IsDial p → ⊥) → carries y.phase ≡ true → carries x.phase ≡ true
  gate_in (gateway_part.entry z) steps other is = gate_entry z steps is
  gate_in (gateway_part.dialled z key) steps other is = absurd (other tt)
  gate_in gateway_part.lacked steps other is = absurd (false≢true (gate_at _ steps.1 is))
  gate_in (gateway_part.looked ps told headers) steps other is = ap carries steps.0
  gate_in (gateway_part.asks s captured authority) steps other is = gate_at _ steps.2 is
  gate_in (gateway_part.tells s heard begun) steps other is = gate_at _ steps.2 is
  gate_in (gateway_part.put s bytes count) steps other is = gate_at _ steps.4 is
  gate_in (gateway_part.finished s) steps other is = gate_at _ steps.3 is
  gate_in (gateway_part.credited s n) steps other is = gate_at _ steps.2 is
  gate_in (gateway_part.reset s code) steps other is = gate_at _ steps.2 is
  gate_in (gateway_part.dropped s begun) steps other is = gate_at _ steps.3 is
  gate_in (gateway_part.done s begun) steps other is = gate_at _ steps.3 is
  gate_in (gateway_part.stopped why) steps other is = gate_stops why x.phase (gate_at _ steps.1 is)
