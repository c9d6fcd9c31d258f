-- The end of a run.
use Rattle.std.proofs.Common.{◌≡◌, ◌⊎◌, inl, inr, ⊎_elim, ℕ, ◌<◌, ◌==◌, ◌&&◌, Bool, true, false, is_none, cond, List, [], ◌∷◌, ◌++◌, Option, Some, None, refl, ap, sym, ◌∙◌, subst, arith}
use Rattle.std.proofs.lemmas.Bool.{and_parts}
use Rattle.std.proofs.lemmas.List.{append_assoc, append-nil}
use Rattle.hb_base.specs.declared.cause.Cause.{Cause}
use Rattle.hb_base.specs.declared.note.Note.{Note}
use Rattle.hb_captured.specs.Calm as calm
use Rattle.hb_captured.specs.Calm.{IsCalmBy as IsCalmWhere, IsIdleBy as IsIdleWhere}
use Rattle.hb_captured.specs.Captured as plain
use Rattle.hb_captured.specs.Captured.{Captured}
use Rattle.hb_captured.specs.Part as plain_part
use Rattle.hb_captured.specs.Runs as captured
use Rattle.hb_gateway.specs.Calm as gate_calm
use Rattle.hb_gateway.specs.Gateway as gateway
use Rattle.hb_gateway.specs.Gateway.{Gateway}
use Rattle.hb_gateway.specs.Part as gate_part
use Rattle.hb_gateway.specs.Response as response
use Rattle.hb_gateway.specs.Response.{Heard, opens, brings, fails}
use Rattle.hb_gateway.specs.Runs as gateway_runs
use Rattle.hb_inbound.specs.Calm.{IsIdleBy, close_due}
use Rattle.hb_inbound.specs.Inbound as m
use Rattle.hb_inbound.specs.Inbound.{Inbound}
use Rattle.hb_inbound.specs.Part as part
use Rattle.hb_inbound.specs.Part.{Part}
use Rattle.hb_inbound.specs.Runs as inbound
use Rattle.hb_inbound.specs.Runs.{Local, Lacks, Leaves}
use Rattle.hb_inbound.specs.Tunnel as t
use Rattle.hb_inbound.specs.Tunnel.{Tunnel, Stage, is_unanswered, left_with}
use Rattle.hb_link.specs.Noted.{Told}
use Rattle.hb_link.specs.Reaches as link
use Rattle.hb_links.proofs.Acting.{all_calm}
use Rattle.hb_links.proofs.Due.{none_is_due}
use Rattle.hb_links.specs.Busy as busy
use Rattle.hb_links.specs.Calls as links
use Rattle.hb_links.specs.Load.{Recounts}
use Rattle.hb_links.specs.Reaches.{uncounted}
use Rattle.hb_model.specs.Discovery as d
use Rattle.hb_model.specs.Machine as control
use Rattle.hb_model.specs.Machine.{Machine as Control}
use Rattle.hb_model.specs.Point as point
use Rattle.hb_model.specs.Runs.{IsCalmBy}
use Rattle.hb_model.specs.declared.config.NodeConfig.{NodeConfig}
use Rattle.hb_node.specs.State as node
use Rattle.hb_node.specs.State.{State, Shows, due_of, closing_of}
use Rattle.hb_proxy.specs.Machine.{Machine, local, outward, plain_local, with_control, with_stream}
use Rattle.hb_proxy.specs.Points.{Point, of_control, of_link, of_plain, of_gate, of_stream, entries}
use Rattle.hb_proxy.specs.Runs.{Steps, StandsFor, goes_on}
use Rattle.hb_proxy.specs.Seen.{IsThere, IsLinkThere, IsPlainThere, IsGateThere, HasLink}
use Rattle.hb_proxy.specs.Shared.{Shared, asks, tells, puts, finishes, credits, drops, completes, captured_part, gateway_part}
use Rattle.hb_proxy.specs.Ups.{up_by}
use Rattle.hb_relays.specs.Calls as relays
use Rattle.hb_relays.specs.Reaches as relays_reach
use Rattle.hb_relays.specs.Shows.{ShowsRelays}
use Rattle.hb_relays.proofs.Touching.{none_touched}
use Rattle.hb_relays.specs.Touched as touched
use Rattle.hb_turns.specs.Shown.{StandsForNone, Stops}
use Rattle.hb_world.specs.Trace.{lives}
use Rattle.hb_world.specs.declared.entry.Entry.{Entry}
use Rattle.hb_whole.specs.Queue.{told}
use Rattle.hb_whole.specs.Sight.{shown_of, closes_by, is_idle}
use Rattle.hb_whole.specs.Stands.{Stands, EndsBy, Ends, ControlEnds, LinkEnds, GateEnds, PlainEnds, PlainEndsBy, TunnelEnds}
use Rattle.hb_whole.specs.declared.proxy.Proxy.{Proxy}
use Rattle.hb_whole.specs.declared.side.Side.{Side}
use Rattle.hb_whole.proofs.Free.{calm_of, control_rests, goes_on as runs_on, none_of}
use Rattle.hb_whole.proofs.GateGiving.{gate_ends_at}
use Rattle.hb_whole.proofs.Growing.{notes_grow}
use Rattle.hb_whole.proofs.Keeping.{none_few}
use Rattle.hb_whole.proofs.Limited.{limited_then}
use Rattle.hb_whole.proofs.LinkGiving.{ends_at}
use Rattle.hb_whole.proofs.Leading.{Follows, IsInner, Leads, both_follow, inner_silent, inner_control, entries_more, stands_behind}
use Rattle.hb_whole.proofs.PlainGiving.{plain_ends_at}
use Rattle.hb_whole.proofs.PlainGuards.{relay_at}
use Rattle.hb_whole.proofs.PlainMay.{tried_stage}
use Rattle.hb_whole.proofs.Relays.{plain_quiet}
use Rattle.hb_whole.proofs.Routes.{seen_of, lives_then}

-- WHERE NO ACT IS DUE BEHIND THE END NO LINK LIVES

control_gone : (c : Cause) (phase : d.Phase) (x : d.Discovery) → ControlEnds c phase → IsCalmBy phase x → IsThere phase → ⊥
control_gone c d.unborn x ends calm there = there
control_gone c d.closed x ends calm there = there
control_gone c d.dialling x ends calm there = ends
control_gone c d.live x ends calm there = ends
control_gone c (d.faulted code) x ends calm there = ends
control_gone c (d.ending why) x ends calm there = calm

link_gone : (c : Cause) (phase : m.Phase) → LinkEnds c phase → close_due phase ≡ None → IsLinkThere phase → ⊥
link_gone c m.unborn ends none there = there
link_gone c m.closed ends none there = there
link_gone c m.arriving ends none there = ends
link_gone c m.fronting ends none there = ends
link_gone c m.serving ends none there = ends
link_gone c (m.faulted code) ends none there = ends
link_gone c (m.closing why) ends none there = absurd cc

up_gone : (c : Cause) (stage : Stage) (k : Tunnel) (u : ℕ) → TunnelEnds c stage → is_unanswered stage ≡ false → IsIdleBy stage k
    → 0 < u → up_by stage k ≡ u → ⊥
up_gone c t.unasked k u ends answered idle some is = absurd (omega arith)
up_gone c t.gone k u ends answered idle some is = absurd (omega arith)
up_gone c (t.failed why) k u ends answered idle some is = absurd cc
up_gone c (t.ended why) k u ends answered idle some is = absurd cc
up_gone c (t.over why) k u ends answered idle some is = idle
up_gone c stage k u ends answered idle some is = absurd ends

-- a plain link, and its upstream
plain_gone : (c : Cause) (x : Captured) → PlainEnds c x → calm.IsQuiet x → IsPlainThere x → ⊥
plain_gone c x ends quiet there =
    ⊎_elim (λ is. subst (λ (r : plain.Stage). PlainEndsBy c r x) is ends)
    (λ more. ⊎_elim (λ is. subst (λ (r : plain.Stage). PlainEndsBy c r x) is ends)
    (λ is. subst (λ (r : plain.Stage). PlainEndsBy c r x) is ends) more)
    (tried_stage x.stage x there quiet.0 quiet.1)

relay_gone : (c : Cause) (x : Captured) → PlainEnds c x → (x.stage ≡ plain.opening) ⊎ (x.stage ≡ plain.live) → ⊥
relay_gone c x ends going =
    ⊎_elim (λ is. subst (λ (r : plain.Stage). PlainEndsBy c r x) is ends)
    (λ is. subst (λ (r : plain.Stage). PlainEndsBy c r x) is ends) going

-- a link to a gateway
gate_gone : (c : Cause) (phase : gateway.Phase) → GateEnds c phase → gate_calm.close_due phase ≡ None → IsGateThere phase → ⊥
gate_gone c gateway.unborn ends none there = there
gate_gone c gateway.closed ends none there = there
gate_gone c gateway.opening ends none there = ends
gate_gone c gateway.serving ends none there = ends
gate_gone c (gateway.faulted code) ends none there = ends
gate_gone c (gateway.closing why) ends none there = absurd cc

by_false : (b : Bool) → (b ≡ true → ⊥) → b ≡ false
by_false true never = absurd (never refl)
by_false false never = refl

pub none_lives : (p : Proxy) (c : Cause) → p.ends_for ≡ Some c → due_of p.control ≡ None → busy.is_idle p.side.links ≡ true
    → touched.is_idle p.side.relays.due ≡ true → touched.is_idle p.side.relays.gate_due ≡ true → StandsForNone Stands p
none_lives p c ends due idle idle_too idle_gates taken trace s l =
    by_false (lives l trace) (λ alive. dead ((seen_of taken p trace s).has l (lives_then trace l ∙ alive)))
  where
    x : Machine
    x = s.machine

    so : Ends c x
    so = (subst (λ (o : Option Cause). EndsBy o x) ends s.ends).1

    quiet : (k : ℕ) → calm.IsQuiet (x.plain k)
    quiet = plain_quiet p.side.relays idle_too s.relays

    dead : HasLink x l → ⊥
    dead (inl there) =
        control_gone c (x.control.links l).phase (x.control.links l) (so.control l)
        ((control_rests p.control x.control s.control due).calm l) there
    dead (inr (inl there)) = link_gone c (x.inbound l).phase (so.links l) (none_is_due p.side.links x.inbound idle s.links l).no_close there
    dead (inr (inr (inl joins))) =
        up_gone c ((x.inbound joins.0).tunnels joins.1).stage ((x.inbound joins.0).tunnels joins.1) l (so.tunnels joins.0 joins.1)
        ((all_calm p.side.links x.inbound s.links joins.0).answered joins.1)
        ((none_is_due p.side.links x.inbound idle s.links joins.0).idle joins.1) joins.2.0 joins.2.1
    dead (inr (inr (inr (inr there)))) =
        gate_gone c (x.gates l).phase (so.gates l) (s.relays.gate_idle l (none_touched p.side.relays.gate_due idle_gates l)) there
    dead (inr (inr (inr (inl (inl there))))) = plain_gone c (x.plain l) (so.plain l) (quiet l) there
    dead (inr (inr (inr (inl (inr up))))) =
        relay_gone c (x.plain up.0) (so.plain up.0) (relay_at taken p trace s up.0 l (quiet up.0) up.1)

-- WHAT FOLLOWS BY ITSELF BEHIND THE END

lacks_none : (c : Cause) (phase : m.Phase) (x : Inbound) → LinkEnds c phase → Lacks phase x → ⊥
lacks_none c m.unborn x ends lacks = lacks
lacks_none c m.closed x ends lacks = lacks
lacks_none c m.arriving x ends lacks = ends
lacks_none c m.fronting x ends lacks = ends
lacks_none c m.serving x ends lacks = ends
lacks_none c (m.faulted code) x ends lacks = ends
lacks_none c (m.closing why) x ends lacks = lacks

left_ends : (c why : Cause) (k : Tunnel) → why ≡ c → TunnelEnds c (left_with why k).stage
left_ends c why k is = by (k.up == 0)
  where
    by : (b : Bool) → TunnelEnds c (cond b t.gone (t.over why))
    by true = tt
    by false = is

leaves_end : (c : Cause) (l s : ℕ) (x : Inbound) (stage : Stage) (made : Option Note) (next : Tunnel) → Leaves l s x stage made next
    → TunnelEnds c stage → TunnelEnds c next.stage
leaves_end c l s x (t.failed why) made next leaves ends =
    subst (λ (k : Tunnel). TunnelEnds c k.stage) (sym leaves.3) (left_ends c why (x.tunnels s) ends)
leaves_end c l s x (t.ended why) made next leaves ends =
    subst (λ (k : Tunnel). TunnelEnds c k.stage) (sym leaves.3) (left_ends c why (x.tunnels s) ends)
leaves_end c l s x t.unasked made next leaves ends = absurd leaves
leaves_end c l s x (t.requested headers end) made next leaves ends = absurd leaves
leaves_end c l s x (t.refusing status target) made next leaves ends = absurd leaves
leaves_end c l s x t.malformed made next leaves ends = absurd leaves
leaves_end c l s x t.due made next leaves ends = absurd leaves
leaves_end c l s x t.opening made next leaves ends = absurd leaves
leaves_end c l s x t.accepting made next leaves ends = absurd leaves
leaves_end c l s x t.live made next leaves ends = absurd leaves
leaves_end c l s x (t.over why) made next leaves ends = absurd leaves
leaves_end c l s x t.gone made next leaves ends = absurd leaves

-- a link that ends so goes on ending so
abbrev pub IsEnding : Cause → Inbound → Type 0
IsEnding c x = LinkEnds c x.phase × ((s : ℕ) → TunnelEnds c (x.tunnels s).stage)

module _ (c : Cause) (l : ℕ) (a b : Local) (ends : IsEnding c a.link) where
  never : (phase : m.Phase) → a.link.phase ≡ phase → LinkEnds c phase
  never phase is = subst (λ (q : m.Phase). LinkEnds c q) is ends.0

  tunnel_left : (s k : ℕ) (next : Tunnel) → TunnelEnds c next.stage
      → TunnelEnds c (cond (k == s) next (a.link.tunnels k)).stage
  tunnel_left s k next so = by (k == s)
    where
      by : (b : Bool) → TunnelEnds c (cond b next (a.link.tunnels k)).stage
      by true = so
      by false = ends.1 k

  step_ends : (p : Part) → link.IsInner p → inbound.Steps l a p b → IsEnding c b.link
  step_ends (part.entry z) inner steps = absurd inner
  step_ends (part.up s z) inner steps = absurd inner
  step_ends part.welcomed inner steps = absurd (never m.arriving steps.0)
  step_ends part.crowded inner steps = absurd inner
  step_ends part.lacked inner steps = absurd (lacks_none c a.link.phase a.link ends.0 steps.0)
  step_ends (part.fronted seen) inner steps = absurd (never m.fronting steps.0)
  step_ends (part.misfronted fault) inner steps = absurd (never m.fronting steps.0)
  step_ends (part.looked ps said headers) inner steps = absurd (never m.serving steps.0)
  step_ends (part.decided s full given) inner steps = absurd (never m.serving steps.0)
  step_ends (part.accepted s made) inner steps = absurd (never m.serving steps.0)
  step_ends (part.refused s status resets made) inner steps = absurd (never m.serving steps.0)
  step_ends (part.reset s code made) inner steps = absurd (never m.serving steps.0)
  step_ends (part.left s made) inner steps =
      subst (λ (w : Local). IsEnding c w.link) (sym steps.2)
      (ends.0, λ k. tunnel_left s k steps.0 (leaves_end c l s a.link (a.link.tunnels s).stage made steps.0 steps.1 (ends.1 s)))
  step_ends (part.done s made) inner steps = absurd (never m.serving steps.0.0)
  step_ends (part.put s bytes) inner steps = absurd (never m.serving steps.0.0)
  step_ends (part.finished s) inner steps = absurd (never m.serving steps.0.0)
  step_ends (part.credited s n) inner steps = absurd (never m.serving steps.0.0)
  step_ends (part.applied r) inner steps = absurd inner
  step_ends (part.stopped why) inner steps = absurd inner

-- nor is one that is turned away
crowded_ends : (c : Cause) (l : ℕ) (a b : Local) → IsEnding c a.link → inbound.Steps l a part.crowded b → IsEnding c b.link
crowded_ends c l a b ends steps = absurd (never c l a b ends m.arriving steps.0)

-- a plain link that ends so goes on ending so
left_plain : (c : Cause) (stage : plain.Stage) (x : Captured) → PlainEndsBy c stage x
    → PlainEndsBy c (plain.left_by stage) (record x { stage = plain.left_by stage; identity = plain.name_left stage x.identity })
left_plain c plain.unborn x ends = tt
left_plain c (plain.failed why) x ends = inl ends
left_plain c (plain.ended why) x ends = inl ends
left_plain c (plain.over why) x ends = ends
left_plain c plain.arriving x ends = absurd ends
left_plain c plain.fronting x ends = absurd ends
left_plain c plain.due x ends = absurd ends
left_plain c plain.opening x ends = absurd ends
left_plain c plain.accepting x ends = absurd ends
left_plain c plain.live x ends = absurd ends

-- memory lacks for none
plain_lacks : (c : Cause) (stage : plain.Stage) (x : Captured) → PlainEndsBy c stage x → captured.Lacks stage x → ⊥
plain_lacks c plain.unborn x ends lacks = lacks
plain_lacks c (plain.failed why) x ends lacks = lacks
plain_lacks c (plain.ended why) x ends lacks = lacks
plain_lacks c (plain.over why) x ends lacks = lacks
plain_lacks c plain.arriving x ends lacks = ends
plain_lacks c plain.fronting x ends lacks = ends
plain_lacks c plain.due x ends lacks = ends
plain_lacks c plain.opening x ends lacks = ends
plain_lacks c plain.accepting x ends lacks = ends
plain_lacks c plain.live x ends lacks = ends

module _ (c : Cause) (l : ℕ) (a : captured.Local) (ends : PlainEnds c a.link) where
  never_plain : (stage : plain.Stage) → a.link.stage ≡ stage → PlainEndsBy c stage a.link
  never_plain stage is = subst (λ (r : plain.Stage). PlainEndsBy c r a.link) is ends

  -- what is heard but a failure is heard while it opens or lives
  hears_late : (stage : plain.Stage) (heard : Heard) → PlainEndsBy c stage a.link → captured.MayHear stage heard a.link
      → (begun : ℕ) → PlainEnds c (plain.told_by heard begun a.link)
  hears_late stage (fails why) so may begun = failed_ends why begun a.link.stage ends
    where
      failed_ends : (why : Cause) (begun : ℕ) (r : plain.Stage) → PlainEndsBy c r a.link
          → PlainEndsBy c (plain.ends_by why r) (plain.left_behind begun (plain.at_stage (plain.ends_by why r) a.link))
      failed_ends why begun plain.unborn so = tt
      failed_ends why begun (plain.failed first) so = so
      failed_ends why begun (plain.ended first) so = so
      failed_ends why begun (plain.over first) so = so
      failed_ends why begun plain.arriving so = absurd so
      failed_ends why begun plain.fronting so = absurd so
      failed_ends why begun plain.due so = absurd so
      failed_ends why begun plain.opening so = absurd so
      failed_ends why begun plain.accepting so = absurd so
      failed_ends why begun plain.live so = absurd so
  hears_late plain.opening (opens end) so may begun = absurd so
  hears_late stage (opens end) so may begun = absurd may
  hears_late plain.live (brings bytes) so may begun = absurd so
  hears_late stage (brings bytes) so may begun = absurd may
  hears_late plain.live response.ends so may begun = absurd so
  hears_late stage response.ends so may begun = absurd may

  -- where its stream is left it ends as before
  left_so : (begun : ℕ) (stage : plain.Stage) → PlainEndsBy c stage a.link → PlainEndsBy c stage (plain.left_behind begun a.link)
  left_so begun plain.unborn so = tt
  left_so begun (plain.failed why) so = so
  left_so begun (plain.ended why) so = so
  left_so begun (plain.over why) so = so
  left_so begun plain.arriving so = absurd so
  left_so begun plain.fronting so = absurd so
  left_so begun plain.due so = absurd so
  left_so begun plain.opening so = absurd so
  left_so begun plain.accepting so = absurd so
  left_so begun plain.live so = absurd so

  plain_step : (p : plain_part.Part) → relays_reach.IsRefusing (of_plain l p) → captured.MayGo l a p
      → PlainEnds c (captured.next_link a.link p)
  plain_step (plain_part.entry z) inner may = absurd inner
  plain_step (plain_part.up z) inner may = absurd inner
  plain_step plain_part.welcomed inner may = absurd inner
  plain_step plain_part.crowded inner may = absurd inner
  plain_step plain_part.lacked inner may = absurd (plain_lacks c a.link.stage a.link ends may)
  plain_step (plain_part.misfronted fault) inner may = absurd (never_plain plain.fronting may.0)
  plain_step (plain_part.fronted seen routing aim) inner may = absurd (never_plain plain.fronting may.0.0)
  plain_step (plain_part.refused seen routing why status made) inner may = absurd (never_plain plain.fronting may.0.0)
  plain_step (plain_part.accepted made) inner may = absurd (never_plain plain.accepting may.0)
  plain_step plain_part.roomless inner may = absurd (never_plain plain.due may.0)
  plain_step (plain_part.left made) inner may = left_plain c a.link.stage a.link ends
  plain_step (plain_part.done made) inner may = absurd (never_plain plain.live may.0)
  plain_step _ inner may = absurd inner

  -- nor does what happens on its stream
  stream_step : (n s : ℕ) (w : Shared) → captured.MayGo l a (captured_part n s w)
      → PlainEnds c (captured.next_link a.link (captured_part n s w))
  stream_step n s (asks authority) may = absurd (never_plain plain.due may.0)
  stream_step n s (tells heard begun) may = hears_late a.link.stage heard ends may.1 begun
  stream_step n s (puts waiting count) may = absurd (never_plain plain.live may.0.1)
  stream_step n s finishes may = absurd (never_plain plain.live may.0.1)
  stream_step n s (credits count) may = absurd (never_plain plain.live may.0.1)
  stream_step n s (drops begun) may = left_so begun a.link.stage ends
  stream_step n s (completes begun made) may = absurd (never_plain plain.live may.0.1)

-- a link to a gateway that ends so carries nothing
none_carries : (c : Cause) (phase : gateway.Phase) → GateEnds c phase → gateway.carries phase ≡ true → ⊥
none_carries c gateway.unborn ends carries = absurd cc
none_carries c gateway.closed ends carries = absurd cc
none_carries c gateway.opening ends carries = ends
none_carries c gateway.serving ends carries = ends
none_carries c (gateway.faulted code) ends carries = absurd cc
none_carries c (gateway.closing why) ends carries = absurd cc

-- nor may memory lack there
gate_lacks : (c : Cause) (phase : gateway.Phase) (x : Gateway) → GateEnds c phase → gateway_runs.Lacks phase x → ⊥
gate_lacks c gateway.serving x ends lacks = ends
gate_lacks c phase x ends lacks = lacks

-- and goes on ending so
gate_step : (c : Cause) (n : ℕ) (x y : Gateway) (p : gate_part.Part) → relays_reach.IsInner (of_gate n p) → GateEnds c x.phase
    → gateway_runs.Steps n x p y → GateEnds c y.phase
gate_step c n x y (gate_part.looked points told headers) inner ends steps =
    absurd (subst (λ (q : gateway.Phase). GateEnds c q) steps.0 ends)
gate_step c n x y gate_part.lacked inner ends steps = absurd (gate_lacks c x.phase x ends steps.0)
gate_step c n x y (gate_part.reset s code) inner ends steps = absurd (none_carries c x.phase ends steps.0)
gate_step c n x y (gate_part.entry z) inner ends steps = absurd inner
gate_step c n x y _ inner ends steps = absurd inner

-- no point of a stream changes how far it is
same_phase : (l n s : ℕ) (w : Shared) (x y : Gateway) → gateway_runs.Steps n x (gateway_part l s w) y → y.phase ≡ x.phase
same_phase l n s (asks authority) x y steps = ap (λ (z : Gateway). z.phase) steps.2
same_phase l n s (tells heard begun) x y steps = ap (λ (z : Gateway). z.phase) steps.2
same_phase l n s (puts waiting count) x y steps = ap (λ (z : Gateway). z.phase) steps.4
same_phase l n s finishes x y steps = ap (λ (z : Gateway). z.phase) steps.3
same_phase l n s (credits count) x y steps = ap (λ (z : Gateway). z.phase) steps.2
same_phase l n s (drops begun) x y steps = ap (λ (z : Gateway). z.phase) steps.3
same_phase l n s (completes begun made) x y steps = ap (λ (z : Gateway). z.phase) steps.3

-- both of a stream do
stream_ends_at : (c : Cause) (x : Machine) (l n : ℕ) (next : Captured) (gate : Gateway) → PlainEnds c next → GateEnds c gate.phase
    → Ends c x → Ends c (with_stream l n next gate x)
stream_ends_at c x l n next gate plain_so gate_so is = record {
  control = is.control;
  links = is.links;
  tunnels = is.tunnels;
  plain = λ k. by (k == l) k (is.plain k);
  gates = λ k. by_gate (k == n) k (is.gates k);
}
  where
    by : (b : Bool) (k : ℕ) → PlainEnds c (x.plain k) → PlainEnds c (cond b next (x.plain k))
    by true k so = plain_so
    by false k so = so

    by_gate : (b : Bool) (k : ℕ) → GateEnds c (x.gates k).phase → GateEnds c (cond b gate (x.gates k)).phase
    by_gate true k so = gate_so
    by_gate false k so = so

step_so : (c : Cause) (g : NodeConfig) (x y : Machine) (p : Point) → IsInner p → Steps g x p y → Ends c x → Ends c y
step_so c g x y (of_control q) inner steps ends = absurd inner
step_so c g x y (of_link l p) inner steps ends =
    let a = local x l in
    let b = inbound.with_link steps.0 (local x l) in
    let at : IsEnding c steps.0 = ⊎_elim (λ own. step_ends c l a b (ends.links l, λ s. ends.tunnels l s) p own steps.1)
    (λ is. crowded_ends c l a b (ends.links l, λ s. ends.tunnels l s)
    (subst (λ (w : Part). inbound.Steps l a w b) is steps.1)) inner in
    subst (λ (w : Machine). Ends c w) (sym steps.3) (ends_at c x l p steps.0 at.0 at.1 ends)
step_so c g x y (of_plain l p) inner steps ends =
    let a = plain_local x l in
    let at : PlainEnds c (captured.next_link (x.plain l) p) =
    ⊎_elim (λ own. plain_step c l a (ends.plain l) p own steps.0)
    (λ born. absurd (never_plain c l a (ends.plain l) plain.arriving
    (⊎_elim (λ is. subst (λ (w : plain_part.Part). captured.MayGo l a w) is steps.0)
    (λ is. subst (λ (w : plain_part.Part). captured.MayGo l a w) is steps.0) born))) inner in
    subst (λ (w : Machine). Ends c w) (sym steps.2) (plain_ends_at c x l p (captured.next_link (x.plain l) p) at ends)
step_so c g x y (of_gate n p) inner steps ends =
    subst (λ (w : Machine). Ends c w) (sym steps.3)
    (gate_ends_at c x n p steps.0 (gate_step c n (x.gates n) steps.0 p inner (ends.gates n) steps.1) ends)
step_so c g x y (of_stream l n i w) inner steps ends =
    subst (λ (z : Machine). Ends c z) (sym steps.4)
    (stream_ends_at c x l n (captured.next_link (x.plain l) (captured_part n i w)) steps.1
    (stream_step c l (plain_local x l) (ends.plain l) n i w steps.0)
    (subst (λ (q : gateway.Phase). GateEnds c q) (sym (same_phase l n i w (x.gates n) steps.1 steps.2)) (ends.gates n)) ends)

inner_ends : (c : Cause) (g : NodeConfig) (x y : Machine) (more : List Point) → Leads g x more y → Ends c x → Ends c y
inner_ends c g x y [] is ends = subst (λ (w : Machine). Ends c w) (sym is) ends
inner_ends c g x y (p ∷ more) is ends = inner_ends c g is.1 y more is.3 (step_so c g x is.1 p is.0 is.2 ends)

-- THE RUN IS STOPPED

control_stops : (c : Cause) (phase : d.Phase) (x : d.Discovery) → IsCalmBy phase x → ControlEnds c (d.stopped_for c phase)
control_stops c d.unborn x calm = tt
control_stops c d.closed x calm = tt
control_stops c d.dialling x calm = refl
control_stops c d.live x calm = refl
control_stops c (d.faulted code) x calm = absurd calm
control_stops c (d.ending why) x calm = absurd calm

link_stops : (c : Cause) (phase : m.Phase) → close_due phase ≡ None → LinkEnds c (m.stops_by c phase)
link_stops c m.unborn none = tt
link_stops c m.closed none = tt
link_stops c m.arriving none = refl
link_stops c m.fronting none = refl
link_stops c m.serving none = refl
link_stops c (m.faulted code) none = absurd cc
link_stops c (m.closing why) none = absurd cc

tunnel_stops : (c : Cause) (stage : Stage) (k : Tunnel) → is_unanswered stage ≡ false → IsIdleBy stage k
    → TunnelEnds c (t.ends_by c stage)
tunnel_stops c t.unasked k answered idle = tt
tunnel_stops c (t.requested headers end) k answered idle = absurd cc
tunnel_stops c (t.refusing status target) k answered idle = absurd cc
tunnel_stops c t.malformed k answered idle = absurd cc
tunnel_stops c t.due k answered idle = refl
tunnel_stops c t.opening k answered idle = refl
tunnel_stops c t.accepting k answered idle = absurd cc
tunnel_stops c t.live k answered idle = refl
tunnel_stops c (t.failed why) k answered idle = absurd cc
tunnel_stops c (t.ended why) k answered idle = absurd cc
tunnel_stops c (t.over why) k answered idle = absurd idle
tunnel_stops c t.gone k answered idle = tt

plain_stops : (c : Cause) (stage : plain.Stage) (x : Captured) → IsCalmWhere stage x → IsIdleWhere stage x
    → PlainEndsBy c (plain.ends_by c stage) (plain.at_stage (plain.ends_by c stage) x)
plain_stops c plain.unborn x calm idle = tt
plain_stops c plain.arriving x calm idle = absurd calm
plain_stops c plain.fronting x calm idle = inl refl
plain_stops c plain.due x calm idle = refl
plain_stops c plain.opening x calm idle = refl
plain_stops c plain.accepting x calm idle = refl
plain_stops c plain.live x calm idle = refl
plain_stops c (plain.failed why) x calm idle = absurd calm
plain_stops c (plain.ended why) x calm idle = absurd calm
plain_stops c (plain.over why) x calm idle = inr idle

gate_stops : (c : Cause) (phase : gateway.Phase) → gate_calm.close_due phase ≡ None → GateEnds c (gateway.stops_by c phase)
gate_stops c gateway.unborn none = tt
gate_stops c gateway.closed none = tt
gate_stops c gateway.opening none = refl
gate_stops c gateway.serving none = refl
gate_stops c (gateway.faulted code) none = absurd cc
gate_stops c (gateway.closing why) none = absurd cc

-- the control plane and the links were told, and no dial waits for its answer
abbrev pub with_stop : State → Side → Cause → Proxy → Proxy
with_stop n side c p = record p { control = n; side = side; dials = None; ends_for = Some c }

-- the links of the doors were told, with these notes in between
pub stops : (p : Proxy) (n : State) (side : Side) (between : Told) (c : Cause) → node.Stops c p.control n
    → links.Stops c p.side.links (told p.side.notes) side.links between → Recounts p.side.links side.links
    → relays.Stops c p.side.relays between side.relays (told side.notes) → Stops Stands shown_of p (with_stop n side c p)
stops p n side between c control_stops_so links_stop counts relays_stop going none taken trace s = record {
  machine = follows.reached;
  points = s.points ++ of_control (point.stopped c) ∷ follows.more;
  run = subst (λ (g : NodeConfig). StandsFor g follows.reached (s.points ++ of_control (point.stopped c) ∷ follows.more))
      (sym control_stops_so.0)
      (subst (λ (ps : List Point). StandsFor p.control.config follows.reached ps)
      (append_assoc s.points (of_control (point.stopped c) ∷ []) follows.more)
      (stands_behind p.control.config y follows.reached (s.points ++ of_control (point.stopped c) ∷ []) follows.more
      (goes_on s.run (of_control (point.stopped c)) steps refl) follows.leads));
  trace_is = s.trace_is ∙ sym (append-nil (entries s.points))
      ∙ ap (λ (zs : List Entry). entries s.points ++ zs)
      (sym (inner_silent p.control.config y follows.reached follows.more follows.leads))
      ∙ sym (entries_more s.points (of_control (point.stopped c) ∷ follows.more));
  control = subst (λ (w : Control). Shows n w) (sym control_is) (control_stops_so.1 x.control s.control);
  links = follows.links;
  relays = subst (λ (g : NodeConfig). ShowsRelays g side.relays (outward follows.reached)) (sym control_stops_so.0) follows.relays;
  noted = notes_grow taken (told p.side.notes) (told side.notes) s.points (of_control (point.stopped c) ∷ follows.more) follows.noted
      s.noted;
  dial = tt;
  limited = limited_then p (with_stop n side c p) x follows.reached refl control_stops_so.0 counts
      (λ few. none_few p.control.config follows.reached (λ l due.
      subst (λ (r : plain.Stage). PlainEndsBy c r (follows.reached.plain l)) due (ends_reached.plain l))) s.limited;
  ends = (ap (λ (w : Control). w.over) control_is, ends_reached);
  sound = s.sound;
}
  where
    x : Machine
    x = s.machine

    y : Machine
    y = with_control (point.stopped c) (control.with_stop c x.control) x

    parts : (is_none (closing_of p.control.link) ≡ true) × (is_idle p.side ≡ true)
    parts = and_parts _ _ (ap (λ (o : Option Cause). closes_by o p) (sym going) ∙ none)

    idle_gates : ((busy.is_idle p.side.links && touched.is_idle p.side.relays.due) ≡ true) × (touched.is_idle p.side.relays.gate_due ≡ true)
    idle_gates = and_parts _ _ parts.1

    idle : (busy.is_idle p.side.links ≡ true) × (touched.is_idle p.side.relays.due ≡ true)
    idle = and_parts _ _ idle_gates.0

    quiet : (l : ℕ) → calm.IsQuiet (x.plain l)
    quiet = plain_quiet p.side.relays idle.1 s.relays

    steps : Steps p.control.config x (of_control (point.stopped c)) y
    steps = (
      control.with_stop c x.control,
      (runs_on p x s.ends going, refl),
      record {
        links = λ l. (all_calm p.side.links x.inbound s.links l).answered;
        plain = λ l. (quiet l).0;
        gates = λ n. (s.relays.calm.gates n).0;
      },
      refl,
    )

    follows : Follows p.control.config y (told p.side.notes) side
    follows =
        both_follow p.control.config y (told p.side.notes) between side uncounted
        (links_stop p.control.config x y s.points s.run s.links tt steps)
        (relays_stop p.control.config x y s.points s.run s.relays tt steps)

    control_is : follows.reached.control ≡ y.control
    control_is = inner_control p.control.config y follows.reached follows.more follows.leads

    ends_y : Ends c y
    ends_y = record {
      control = λ l. control_stops c (x.control.links l).phase (x.control.links l)
          (calm_of p.control.link x.control s.control.link (none_of (closing_of p.control.link) parts.0) l);
      links = λ l. link_stops c (x.inbound l).phase (none_is_due p.side.links x.inbound idle.0 s.links l).no_close;
      tunnels = λ l k. tunnel_stops c ((x.inbound l).tunnels k).stage ((x.inbound l).tunnels k)
          ((all_calm p.side.links x.inbound s.links l).answered k) ((none_is_due p.side.links x.inbound idle.0 s.links l).idle k);
      plain = λ l. plain_stops c (x.plain l).stage (x.plain l) (quiet l).0 (quiet l).1;
      gates = λ n. gate_stops c (x.gates n).phase (s.relays.gate_idle n (none_touched p.side.relays.gate_due idle_gates.1 n));
    }

    ends_reached : Ends c follows.reached
    ends_reached = inner_ends c p.control.config y follows.reached follows.more follows.leads ends_y
