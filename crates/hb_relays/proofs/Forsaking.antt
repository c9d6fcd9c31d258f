-- A call on a link that lives on a stream failed: it ends, gives its stream up, and what others wait to put there may go.
use Rattle.std.proofs.Common.{◌≡◌, ◌≢◌, ◌⊎◌, inl, inr, ⊎_elim, ℕ, ◌<◌, ◌^◌, ◌==◌, ◌&&◌, Bool, true, false, cond, List, [], ◌∷◌, ◌++◌, Option, Some, None, is_some, refl, ap, ap₂, sym, ◌∙◌, subst}
use Rattle.std.proofs.lemmas.Bool.{cases_eq, cond_both, eqb-true, false≢true, true≢false}
use Rattle.std.specs.FinMap.{get, insert}
use Rattle.hb_base.specs.declared.cause.Cause.{Cause}
use Rattle.hb_base.specs.declared.cause.Cause.TheVariants as cause
use Rattle.hb_base.specs.declared.note.Note.{Note}
use Rattle.hb_captured.specs.Answer.{Routing}
use Rattle.hb_captured.specs.Calm.{IsCalmBy}
use Rattle.hb_captured.specs.Captured as m
use Rattle.hb_captured.specs.Captured.{Captured, Stage, due, ends_by, is_raw, left_by}
use Rattle.hb_captured.specs.Part as part
use Rattle.hb_captured.specs.Part.{Part, note_if}
use Rattle.hb_captured.specs.Runs as captured
use Rattle.hb_captured.specs.Runs.{IsTried, Local, MayGo, counted, next, next_link}
use Rattle.hb_conn.specs.Observed.{IsLookedAt}
use Rattle.hb_front.specs.Faults.{number_of}
use Rattle.hb_gate.specs.Calls as gate
use Rattle.hb_gate.specs.Shows as gate_shows
use Rattle.hb_gate.specs.declared.gate.Gate.{Gate}
use Rattle.hb_gateway.proofs.Ending.{end_tunnels}
use Rattle.hb_gateway.specs.Calm as calm
use Rattle.hb_gateway.specs.Calm.{AllReset, AllTold, close_due}
use Rattle.hb_gateway.specs.Gateway.{Gateway, Phase, Stream, at_stage, at_stream, carries, dropped_to, is_active, stage_of}
use Rattle.hb_gateway.specs.Part as gateway_part
use Rattle.hb_gateway.specs.Response as response
use Rattle.hb_gateway.specs.Response.{is_living}
use Rattle.hb_gateway.specs.Runs as gateways
use Rattle.hb_link.proofs.Noted.{takes_none}
use Rattle.hb_link.specs.Noted.{Told, Takes}
use Rattle.hb_map.proofs.Laws.{put_here, put_elsewhere}
use Rattle.hb_model.specs.declared.config.NodeConfig.{NodeConfig}
use Rattle.hb_proxy.proofs.Gates.{gates_run}
use Rattle.hb_proxy.proofs.Plain.{plain_runs}
use Rattle.hb_proxy.proofs.Streams.{runs_agree}
use Rattle.hb_proxy.specs.Held.{at_start}
use Rattle.hb_proxy.specs.Machine.{Machine, outward, plain_local}
use Rattle.hb_proxy.specs.Points.{Point, of_plain, gates_of, plain_of}
use Rattle.hb_proxy.specs.Runs.{RestsAmong, Steps, StandsFor, goes_on, routing_of}
use Rattle.hb_proxy.specs.Seen.{IsGateThere}
use Rattle.hb_proxy.specs.Shared as shared
use Rattle.hb_route.specs.Opens.{Counts}
use Rattle.hb_relay.specs.Answering.{routing_of as code_routing}
use Rattle.hb_relay.specs.Calls as calls
use Rattle.hb_relay.specs.Reaches as relay
use Rattle.hb_relay.specs.Reaches.{leaving, rerouted}
use Rattle.hb_relay.specs.Streamed.{HasStream}
use Rattle.hb_relay.specs.declared.relay.Relay.{Relay}
use Rattle.hb_relay.specs.declared.routes.Routes.{Routes}
use Rattle.hb_world.specs.declared.entry.Entry.TheVariants as e
use Rattle.hb_relays.specs.Joining.{ShowsSome, all, every, not_of}
use Rattle.hb_relays.specs.Leaving.{BegunOn, GivesUp, GivesUpOn, Resets, ResetsIf}
use Rattle.hb_relays.specs.Pumping.{NoneDue, PumpsGate}
use Rattle.hb_relays.specs.Reaches.{Follows, Meets, any}
use Rattle.hb_relays.specs.Shows.{IsIdle, ShowsGate, ShowsRelay, ShowsRelays}
use Rattle.hb_relays.specs.Walks.{changed, gate_touched_at, routes_with, touched_at, with_gate}
use Rattle.hb_relays.specs.declared.relays.Relays.{Relays}
use Rattle.hb_relays.proofs.Breaking.{Left, dropping, lefts}
use Rattle.hb_relays.proofs.Entering.{quiet_undue}
use Rattle.hb_relays.proofs.GateEntering.{conn_rests}
use Rattle.hb_relays.proofs.Progress.{Comes, comes_then, comes_whole, leads_append, noted_then, stands_on}
use Rattle.hb_relays.proofs.PumpedLink.{away_carries}
use Rattle.hb_relays.proofs.Resetting.{AreReset, ResetsLeave, calm_reset, calm_still, resets_go, resets_leave}
use Rattle.hb_relays.proofs.Settling.{each_shown}
use Rattle.hb_relays.proofs.Showing as showing
use Rattle.hb_relays.proofs.Showing.{apart_of, kept_shown, opens_by, raw_rests, same_ups, there_by, ups_same}
use Rattle.hb_relays.proofs.Staying.{Stays, inner_stays, stays_then}
use Rattle.hb_relays.proofs.Touching.{untouched}

-- A LINK THAT ENDS goes on to its end, and leaves its stream on the way
abbrev pub is_ending : Stage → Bool
is_ending (m.failed why) = true
is_ending (m.ended why) = true
is_ending (m.over why) = true
is_ending stage = false

ends_ending : (why : Cause) (stage : Stage) → is_ending stage ≡ true → is_ending (ends_by why stage) ≡ true
ends_ending why m.unborn is = is
ends_ending why m.arriving is = refl
ends_ending why m.fronting is = refl
ends_ending why m.due is = refl
ends_ending why m.opening is = refl
ends_ending why m.accepting is = refl
ends_ending why m.live is = refl
ends_ending why (m.failed first) is = refl
ends_ending why (m.ended first) is = refl
ends_ending why (m.over first) is = refl

left_ending : (stage : Stage) → is_ending stage ≡ true → is_ending (left_by stage) ≡ true
left_ending m.unborn is = is
left_ending m.arriving is = is
left_ending m.fronting is = is
left_ending m.due is = is
left_ending m.opening is = is
left_ending m.accepting is = is
left_ending m.live is = is
left_ending (m.failed why) is = refl
left_ending (m.ended why) is = refl
left_ending (m.over why) is = refl

not_ending : (x stage : Stage) → is_ending x ≡ true → x ≡ stage → is_ending stage ≡ false → ⊥
not_ending x stage is same none = true≢false (sym is ∙ ap is_ending same ∙ none)

pub ending_undue : (stage : Stage) → is_ending stage ≡ true → stage ≢ due
ending_undue stage is same = not_ending stage due is same refl

inner_ending : (l : ℕ) (a : Local) (p : Part) → relay.IsInner p → MayGo l a p → is_ending a.link.stage ≡ true
    → is_ending (next a p).link.stage ≡ true
inner_ending l a part.welcomed inner may is = absurd (not_ending a.link.stage m.arriving is may refl)
inner_ending l a part.lacked inner may is = ends_ending cause.NoMemory a.link.stage is
inner_ending l a (part.misfronted fault) inner may is = ends_ending (cause.FrontFault (number_of fault)) a.link.stage is
inner_ending l a (part.fronted seen routing aim) inner may is = absurd (not_ending a.link.stage m.fronting is may.0.0 refl)
inner_ending l a (part.refused seen routing why status note) inner may is = refl
inner_ending l a (part.accepted note) inner may is = absurd (not_ending a.link.stage m.accepting is may.0 refl)
inner_ending l a (part.left made) inner may is = left_ending a.link.stage is
inner_ending l a (part.done note) inner may is = refl
inner_ending l a p inner may is = absurd inner

one_stays : (n : ℕ) (a : Local) (p : Part) → leaving n p → Stays a.link (next a p).link
one_stays n a p (inl inner) = inner_stays a p inner
one_stays n a (part.loosed k) (inr leaves) = record { up = refl; closed = refl }
one_stays n a p (inr leaves) = absurd leaves

one_ending : (n l : ℕ) (a : Local) (p : Part) → leaving n p → MayGo l a p → is_ending a.link.stage ≡ true
    → is_ending (next a p).link.stage ≡ true
one_ending n l a p (inl inner) may is = inner_ending l a p inner may is
one_ending n l a (part.loosed k) (inr leaves) may is = is
one_ending n l a p (inr leaves) may is = absurd leaves

pub leaving_stays : (n l : ℕ) (routing : Routing) (a : Local) (parts : List Part) (b : Local) (behind : Routing)
    → relay.Leads (leaving n) l routing a parts b behind → Stays a.link b.link
leaving_stays n l routing a [] b behind is =
    record { up = ap (λ (c : Local). c.link.up) is.0; closed = ap (λ (c : Local). c.link.closed) is.0 }
leaving_stays n l routing a (p ∷ parts) b behind (leaves, routed, may, more) =
    stays_then a.link (next a p).link b.link (one_stays n a p leaves)
    (leaving_stays n l (rerouted a.link (next a p).link routing) (next a p) parts b behind more)

pub leaving_ends : (n l : ℕ) (routing : Routing) (a : Local) (parts : List Part) (b : Local) (behind : Routing)
    → relay.Leads (leaving n) l routing a parts b behind → is_ending a.link.stage ≡ true → is_ending b.link.stage ≡ true
leaving_ends n l routing a [] b behind is ends = ap (λ (c : Local). is_ending c.link.stage) is.0 ∙ ends
leaving_ends n l routing a (p ∷ parts) b behind (leaves, routed, may, more) ends =
    leaving_ends n l (rerouted a.link (next a p).link routing) (next a p) parts b behind more (one_ending n l a p leaves may ends)

-- where nothing more happens by itself it has left it
pub ending_raw : (stage : Stage) (x : Captured) → IsCalmBy stage x → is_ending stage ≡ true → is_raw x ≡ true
ending_raw (m.over why) x calm is = calm
ending_raw (m.failed why) x calm is = absurd calm
ending_raw (m.ended why) x calm is = absurd calm
ending_raw m.unborn x calm is = absurd (false≢true is)
ending_raw m.arriving x calm is = absurd (false≢true is)
ending_raw m.fronting x calm is = absurd (false≢true is)
ending_raw m.due x calm is = absurd (false≢true is)
ending_raw m.opening x calm is = absurd (false≢true is)
ending_raw m.accepting x calm is = absurd (false≢true is)
ending_raw m.live x calm is = absurd (false≢true is)

broke_ends : (x : Captured) → IsTried x → is_ending (ends_by cause.PeerGone x.stage) ≡ true
broke_ends x (inl at) = ap (λ (s : Stage). is_ending (ends_by cause.PeerGone s)) at.1
broke_ends x (inr (inl at)) = ap (λ (s : Stage). is_ending (ends_by cause.PeerGone s)) at.1
broke_ends x (inr (inr at)) = ap (λ (s : Stage). is_ending (ends_by cause.PeerGone s)) at.1

-- ITS STREAM

-- the link to a gateway behind that: only that stream may be to be reset, and a side of it is open then
dropped_active : (s : ℕ) (w v : Gateway) → AllReset w → v ≡ at_stream s (at_stage (dropped_to s w)) w → gate.AreActive v
dropped_active s w v none is =
    subst gate.AreActive (sym is) (λ j fails.
    cond_both (j == s) (at_stage (dropped_to s w) (w.streams j)) (w.streams j)
    (λ (t : Stream). calm.is_failing t.stage ≡ true → is_active w.conn j ≡ true)
    (λ same failing. subst (λ (i : ℕ). is_active w.conn i ≡ true) (sym (eqb-true j s same))
    (by (carries w.phase) (is_active w.conn s) failing))
    (λ apart failing. absurd (false≢true (sym (none j) ∙ failing))) fails)
  where
    by : (c a : Bool) → calm.is_failing (cond (c && a) (response.failing response.cancel) response.over) ≡ true → a ≡ true
    by true true fails = refl
    by true false fails = absurd (false≢true fails)
    by false a fails = absurd (false≢true fails)

dropped_told : (s : ℕ) (w v : Gateway) → AllTold w → v ≡ at_stream s (at_stage (dropped_to s w)) w → AllTold v
dropped_told s w v told is = subst AllTold (sym is) (λ j. by (j == s) (w.streams j) (told j))
  where
    by : (b : Bool) (t : Stream) → t.mail ≡ None → (cond b (at_stage (dropped_to s w) t) t).mail ≡ None
    by true t none = none
    by false t none = none

-- of a run where each tunnel was told: its stream has one that lives, and its link to a gateway carries streams
pub live_there : (g : NodeConfig) (x : Machine) (points : List Point) → StandsFor g x points → ((m : ℕ) → AllTold (x.gates m))
    → (l n s : ℕ) → is_raw (x.plain l) ≡ false → (x.plain l).gate ≡ n → (x.plain l).stream ≡ s
    → (is_living (stage_of (x.gates n) s) ≡ true) × (carries (x.gates n).phase ≡ true)
live_there g x points stands told l n s on at_gate at_stream = (living, by (carries (x.gates n).phase) refl)
  where
    living : is_living (stage_of (x.gates n) s) ≡ true
    living =
        ⊎_elim (λ lives. ap₂ (λ (i j : ℕ). is_living ((x.gates i).streams j).stage) (sym at_gate) (sym at_stream) ∙ lives)
        (λ some. absurd (some (told (x.plain l).gate (x.plain l).stream)))
        ((runs_agree g x points stands).carried l on).0

    by : (b : Bool) → carries (x.gates n).phase ≡ b → b ≡ true
    by true same = refl
    by false none =
        absurd (false≢true (sym (end_tunnels n (x.gates n) (gates_of n points) (gates_run g x points n stands)
        (λ had. false≢true (sym none ∙ had)) s) ∙ living))

away_none : (g : NodeConfig) (k : Relays) (x : Machine) (points : List Point) → StandsFor g x points → ShowsRelays g k (outward x)
    → (l n s : ℕ) → is_raw (x.plain l) ≡ false → (x.plain l).gate ≡ n → (x.plain l).stream ≡ s → get k.gates n ≡ None → ⊥
away_none g k x points stands shows l n s on at_gate at_stream none =
    away_carries (x.gates n).phase (subst (λ (o : Option Gate). ShowsGate n o (x.gates n)) none (shows.gates n))
    (live_there g x points stands (λ m. (shows.calm.gates m).0) l n s on at_gate at_stream).1

-- IN THE WHOLE
module _ (k : Relays) (l n s begun : ℕ) (old new : Relay) (routes : Routes) (made : Option Note) (told one : Told)
    (kept mid after : Gate) (count : ℕ) (is : get k.relays l ≡ Some old) (found : get k.gates n ≡ Some kept)
    (on_stream : HasStream old (Some (n, s))) (begun_is : gate.HasBegun kept s begun)
    (enters : calls.EntersLeaving begun (e.Broke old.number) old (code_routing k.routes) new (code_routing routes) made)
    (takes : Takes told (note_if made) one) (drops : gate.Drops s count kept mid) (resets : Resets mid after)
    (g : NodeConfig) (x y : Machine) (points : List Point) (stands : StandsFor g x points) (shows : ShowsRelays g k (outward x))
    (steps : Steps g x (of_plain l (part.entry (e.Broke l))) y) where
  abbrev p : Part
  p = part.entry (e.Broke l)

  link_shown : ShowsRelay l (Some old) (x.plain l)
  link_shown = kept_shown k x.plain l old shows.relays is

  gate_shown : ShowsGate n (Some kept) (x.gates n)
  gate_shown = subst (λ (o : Option Gate). ShowsGate n o (x.gates n)) found (shows.gates n)

  at : (is_raw (x.plain l) ≡ false) × ((x.plain l).gate ≡ n) × ((x.plain l).stream ≡ s)
  at = on_stream (x.plain l) link_shown.1

  calm_there : calm.IsCalm (x.gates n)
  calm_there = shows.calm.gates n

  there : (is_living (stage_of (x.gates n) s) ≡ true) × (carries (x.gates n).phase ≡ true)
  there = live_there g x points stands (λ m. (shows.calm.gates m).0) l n s at.0 at.1 at.2

  living : is_living (stage_of (x.gates n) s) ≡ true
  living = there.0

  carrying : carries (x.gates n).phase ≡ true
  carrying = there.1

  dropped : (m : ℕ) × (counted m ≡ count) × gate.Goes (gateway_part.dropped s m) (x.gates n) mid
  dropped =
      each_shown g x points stands n kept gate_shown
      (λ (w : Gateway). is_living (stage_of w s) ≡ true → (w.streams s).mail ≡ None
      → (m : ℕ) × (counted m ≡ count) × gate.Goes (gateway_part.dropped s m) w mid)
      drops.1 living (calm_there.0 s)

  abbrev so_many : ℕ
  so_many = dropped.0

  abbrev w : Gateway
  w = dropped.2.next

  mid_number : mid.number ≡ n
  mid_number = drops.0 ∙ gate_shown.0

  drop_steps : gateways.Steps n (x.gates n) (gateway_part.dropped s so_many) w
  drop_steps = subst (λ (i : ℕ). gateways.Steps i (x.gates n) (gateway_part.dropped s so_many) w) mid_number dropped.2.steps

  counts_so : counted so_many ≡ begun
  counts_so = ap counted drop_steps.2 ∙ begun_is (x.gates n) gate_shown.1 living

  abbrev leaves : relay.Reaches (leaving so_many) l (showing.counts_by k x l p) (next (plain_local x l) p) new (code_routing routes) made
  leaves =
      subst (λ (i : ℕ). relay.Reaches (leaving so_many) i (showing.counts_by k x l p) (next (plain_local x l) p) new
      (code_routing routes) made) link_shown.0
      ((subst (λ (i : ℕ). relay.MeetsBy (leaving so_many) calls.any (part.entry (e.Broke i)) old (code_routing k.routes) new
      (code_routing routes) made) link_shown.0 (enters so_many counts_so)).reaches (at_start g) (plain_of l points) (plain_local x l)
      (subst (λ (i : ℕ). captured.StandsFor i (at_start g) (plain_local x l) (plain_of l points)) (sym link_shown.0)
      (plain_runs g x points l stands)) link_shown.1 tt
      (subst (λ (i : ℕ). MayGo i (plain_local x l) p) (sym link_shown.0) steps.0))

  new_number : new.number ≡ l
  new_number = (enters so_many counts_so).number ∙ link_shown.0

  y_link : y.plain l ≡ next_link (x.plain l) p
  y_link = showing.link_next g k l p new k.ups routes told one made x y shows steps

  y_gates : y.gates ≡ x.gates
  y_gates = ap (λ (v : Machine). v.gates) steps.2

  at_y : relay.Leads (leaving so_many) l (routing_of g y) (plain_local y l) leaves.parts leaves.reached (code_routing routes)
  at_y =
      subst (λ (by : Routing). relay.Leads (leaving so_many) l by (plain_local y l) leaves.parts leaves.reached (code_routing routes))
      (sym (showing.counted_so g k l p new k.ups routes told one made x y shows steps))
      (subst (λ (c : Local). relay.Leads (leaving so_many) l (showing.counts_by k x l p) c leaves.parts leaves.reached
      (code_routing routes)) (sym (showing.behind g k l p new k.ups routes told one made x y shows steps)) leaves.leads)

  ends : is_ending leaves.reached.link.stage ≡ true
  ends =
      leaving_ends so_many l (routing_of g y) (plain_local y l) leaves.parts leaves.reached (code_routing routes) at_y
      (ap (λ (c : Captured). is_ending c.stage) y_link ∙ broke_ends (x.plain l) steps.0.1)

  raw : is_raw leaves.reached.link ≡ true
  raw = ending_raw leaves.reached.link.stage leaves.reached.link leaves.shows.calm ends

  abbrev left : Left g l n w y leaves.reached (code_routing routes) leaves.parts
  left =
      lefts g l n s so_many (shared.drops so_many) (dropping l n s so_many) w leaves.reached (code_routing routes) raw y leaves.parts at_y
      (ap is_raw y_link ∙ at.0) (ap (λ (c : Captured). c.gate) y_link ∙ at.1) (ap (λ (c : Captured). c.stream) y_link ∙ at.2)
      (subst (λ (f : ℕ → Gateway). gateways.Steps n (f n) (gateway_part.dropped s so_many) w) (sym y_gates) drop_steps)

  ran : StandsFor g y (points ++ of_plain l p ∷ [])
  ran = goes_on stands (of_plain l p) steps refl

  carries_w : carries w.phase ≡ true
  carries_w = ap (λ (v : Gateway). carries v.phase) drop_steps.3 ∙ carrying

  all_reset : gate.ResetsAll mid after
  all_reset = subst (λ (c : Bool). ResetsIf c mid after) (resets.1 w dropped.2.shows ∙ carries_w) resets.2

  abbrev reset_so : (v : Gateway) × gate.Resets mid.number w v × gate_shows.Shows after v × AllReset v
  reset_so =
      let stood = stands_on g y (points ++ of_plain l p ∷ []) left.more left.y ran left.leads in
      all_reset.1 w (gates_of n stood.0)
      (subst (λ (i : ℕ). gateways.StandsFor i w (gates_of n stood.0)) (sym mid_number)
      (subst (λ (v : Gateway). gateways.StandsFor n v (gates_of n stood.0)) left.gate (gates_run g left.y stood.0 n stood.1)))
      dropped.2.shows carries_w
      (dropped_active s (x.gates n) w (calm_reset (x.gates n).phase (x.gates n) carrying calm_there.1) drop_steps.3)

  abbrev v : Gateway
  v = reset_so.0

  reset_n : gate.Resets n w v
  reset_n = subst (λ (i : ℕ). gate.Resets i w v) mid_number reset_so.1

  leave_v : ResetsLeave w v
  leave_v = resets_leave n w v reset_n

  after_number : after.number ≡ n
  after_number = all_reset.0 ∙ mid_number

  phase_is : v.phase ≡ (x.gates n).phase
  phase_is = leave_v.phase ∙ ap (λ (u : Gateway). u.phase) drop_steps.3

  calm_v : calm.IsCalm v
  calm_v = (
    leave_v.told (dropped_told s (x.gates n) w calm_there.0 drop_steps.3),
    subst (λ (q : Phase). calm.IsCalmBy q v) (sym phase_is)
        (calm_still (x.gates n).phase (x.gates n) v
        (λ looked. leave_v.looked (subst (λ (u : Gateway). IsLookedAt u.conn) (sym drop_steps.3) looked)) reset_so.3 calm_there.1),
  )

  abbrev then : AreReset g n v left.y
  then = resets_go g n w v reset_n left.y left.gate

  abbrev z : Machine
  z = then.y

  link_is : z.plain l ≡ leaves.reached.link
  link_is = ap (λ (f : ℕ → Captured). f l) then.plain ∙ ap (λ (c : Local). c.link) left.here

  others : (j : ℕ) → j ≢ l → z.plain j ≡ x.plain j
  others j apart =
      ap (λ (f : ℕ → Captured). f j) then.plain ∙ left.others j apart
      ∙ showing.apart_from g k l p new k.ups routes told one made x y shows steps j apart

  gates_are : (j : ℕ) → j ≢ n → z.gates j ≡ x.gates j
  gates_are j apart = then.others j apart ∙ left.gates j apart ∙ ap (λ (f : ℕ → Gateway). f j) y_gates

  stays : Stays (plain_local y l).link leaves.reached.link
  stays = leaving_stays so_many l (routing_of g y) (plain_local y l) leaves.parts leaves.reached (code_routing routes) at_y

  up_is : (z.plain l).up ≡ (x.plain l).up
  up_is = ap (λ (c : Captured). c.up) link_is ∙ stays.up ∙ ap (λ (c : Captured). c.up) y_link

  opens : leaves.reached.link.closed ≡ false
  opens = stays.closed ∙ ap (λ (c : Captured). c.closed) y_link ∙ opens_by (x.plain l).stage (x.plain l).closed link_shown.2

  none_due : NoneDue z
  none_due j is_due = ⊎_elim
      (λ same. ending_undue leaves.reached.link.stage ends
      (ap (λ (c : Captured). c.stage) (sym link_is) ∙ subst (λ (i : ℕ). (z.plain i).stage ≡ due) same is_due))
      (λ apart. quiet_undue (x.plain j) (steps.1.others j apart) (ap (λ (c : Captured). c.stage) (sym (others j apart)) ∙ is_due))
      (cases_eq j l)

  calm_here : calm.IsCalm (z.gates n)
  calm_here = subst calm.IsCalm {x = v} {y = z.gates n} (sym then.here) calm_v

  calm_at : (j : ℕ) → calm.IsCalm (z.gates j)
  calm_at j = by (cases_eq j n)
    where
      by : (j ≡ n) ⊎ (j ≢ n) → calm.IsCalm (z.gates j)
      by (inl same) = subst (λ (i : ℕ). calm.IsCalm (z.gates i)) {x = n} {y = j} (sym same) calm_here
      by (inr apart) = subst calm.IsCalm {x = x.gates j} {y = z.gates j} (sym (gates_are j apart)) (shows.calm.gates j)

  raw_here : RestsAmong z.gates (z.plain l)
  raw_here = raw_rests z.gates (z.plain l) (eqb-true (z.plain l).gate 0 (ap is_raw link_is ∙ raw))

  rests_at : (j : ℕ) → not_of n j (z.plain j) ≡ true → RestsAmong z.gates (z.plain j)
  rests_at j far = by (cases_eq j l)
    where
      elsewhere : j ≢ l → (x.plain j).gate ≢ n
      elsewhere apart = apart_of (x.plain j).gate n (subst (λ (c : Captured). not_of n j c ≡ true) (others j apart) far)

      by : (j ≡ l) ⊎ (j ≢ l) → RestsAmong z.gates (z.plain j)
      by (inl same) = subst (λ (i : ℕ). RestsAmong z.gates (z.plain i)) {x = l} {y = j} (sym same) raw_here
      by (inr apart) =
          subst (RestsAmong z.gates) {x = x.plain j} {y = z.plain j} (sym (others j apart))
          (conn_rests x.gates z.gates (x.plain j)
          (ap (λ (u : Gateway). u.conn) (gates_are (x.plain j).gate (elsewhere apart))) (shows.calm.streams j))

  abbrev After : Relays
  After = gate_touched_at n (with_gate n after (touched_at l (routes_with routes (changed l new k))))

  known : ShowsSome all (not_of n) all g After (outward z)
  known = record {
    relays = λ j. ⊎_elim
        (λ same. subst (λ (i : ℕ). ShowsRelay i (get (insert k.relays l new) i) (z.plain i)) (sym same)
        (subst (λ (o : Option Relay). ShowsRelay l o (z.plain l)) (sym (put_here k.relays l new))
        (subst (ShowsRelay l (Some new)) (sym link_is)
        (new_number, leaves.shows, there_by new leaves.reached.link leaves.shows opens))))
        (λ apart. subst (λ (o : Option Relay). ShowsRelay j o (z.plain j)) (sym (put_elsewhere k.relays l new j apart))
        (subst (ShowsRelay j (get k.relays j)) (sym (others j apart)) (shows.relays j)))
        (cases_eq j l);
    index = same_ups k.ups x.plain z.plain (ups_same x.plain z.plain l others up_is) shows.index;
    numbered = λ j some. ⊎_elim (λ same. subst (λ (i : ℕ). i < 2 ^ 64) (sym same) (shows.numbered l (ap is_some is)))
        (λ apart. shows.numbered j (sym (ap is_some (put_elsewhere k.relays l new j apart)) ∙ some)) (cases_eq j l);
    idle = λ j none. (let was = untouched l k.due j none in subst IsIdle (sym (others j was.0)) (shows.idle j was.1));
    counted = sym (ap (λ (c : Counts). record { opens = c; hbone_port = g.hbone_port }) then.opens ∙ left.counted);
    gates = λ j. ⊎_elim
        (λ same. subst (λ (i : ℕ). ShowsGate i (get (insert k.gates n after) i) (z.gates i)) (sym same)
        (subst (λ (o : Option Gate). ShowsGate n o (z.gates n)) (sym (put_here k.gates n after))
        (subst (ShowsGate n (Some after)) (sym then.here)
        (after_number, reset_so.2, subst IsGateThere (sym phase_is) gate_shown.2))))
        (λ apart. subst (λ (o : Option Gate). ShowsGate j o (z.gates j)) (sym (put_elsewhere k.gates n after j apart))
        (subst (ShowsGate j (get k.gates j)) (sym (gates_are j apart)) (shows.gates j)))
        (cases_eq j n);
    gate_numbered = λ j some. ⊎_elim (λ same. subst (λ (i : ℕ). i < 2 ^ 64) (sym same) (shows.gate_numbered n (ap is_some found)))
        (λ apart. shows.gate_numbered j (sym (ap is_some (put_elsewhere k.gates n after j apart)) ∙ some)) (cases_eq j n);
    gate_idle = λ j none. (let was = untouched n k.gate_due j none in
        ap (λ (u : Gateway). close_due u.phase) (gates_are j was.0) ∙ shows.gate_idle j was.1);
    gates_calm = λ j so. calm_at j;
    streams = λ j far. rests_at j far;
    wanting = λ j so stage. absurd (none_due j stage);
  }

  -- it goes on so, and none waits there
  pub forsakes : (first : Comes all (not_of n) all g y After told one) × NoneDue first.reached
  forsakes = (
    record {
      more = left.more ++ then.more;
      reached = z;
      leads = leads_append g y left.y z left.more then.more left.leads then.leads;
      shows = known;
      noted = noted_then told one one left.more then.more
          (subst (λ (ns : List Note). Takes told ns one) (sym (left.noted ∙ leaves.noted)) takes)
          (subst (λ (ns : List Note). Takes one ns one) (sym then.noted) (takes_none one));
    },
    none_due,
  )

-- behind that what others wait to put there may go
pub own_left : (k a b d : Relays) (l n s begun : ℕ) (old new : Relay) (routes : Routes) (made : Option Note) (told one now : Told)
    → get k.relays l ≡ Some old → HasStream old (Some (n, s)) → BegunOn (get k.gates n) s begun
    → calls.EntersLeaving begun (e.Broke old.number) old (code_routing k.routes) new (code_routing routes) made
    → a ≡ touched_at l (routes_with routes (changed l new k)) → Takes told (note_if made) one → GivesUp n s a b → PumpsGate n b one d now
    → Meets any (of_plain l (part.entry (e.Broke l))) k told d now
own_left k a b d l n s begun old new routes made told one now is on_stream begun_is enters a_is takes gives pumps g x y points stands shows
    holds steps =
    by (get k.gates n) refl
  where
    by : (o : Option Gate) → get k.gates n ≡ o → Follows g y d told now
    by None none =
        let shown = kept_shown k x.plain l old shows.relays is in
        let at = on_stream (x.plain l) shown.1 in
        absurd (away_none g k x points stands shows l n s at.0 at.1 at.2 none)
    by (Some kept) found =
        let given : GivesUpOn (Some kept) n s a b =
        subst (λ (o : Option Gate). GivesUpOn o n s a b) (ap (λ (w : Relays). get w.gates n) a_is ∙ found) gives in
        let had : gate.HasBegun kept s begun = subst (λ (o : Option Gate). BegunOn o s begun) found begun_is in
        let b_is = given.5 ∙ ap (λ (w : Relays). gate_touched_at n (with_gate n given.1 w)) a_is in
        let goes = forsakes k l n s begun old new routes made told one kept given.0 given.1 given.2 is found on_stream had enters takes
        given.3 given.4 g x y points stands shows steps in
        let first = goes.0 in
        let last = stands_on g y (points ++ of_plain l (part.entry (e.Broke l)) ∷ []) first.more first.reached
        (goes_on stands (of_plain l (part.entry (e.Broke l))) steps refl) first.leads in
        let begins : Comes all (not_of n) all g y b told one = record {
          more = first.more;
          reached = first.reached;
          leads = first.leads;
          shows = subst (λ (w : Relays). ShowsSome all (not_of n) all g w (outward first.reached)) (sym b_is) first.shows;
          noted = first.noted;
        } in
        let pumped = pumps g first.reached last.0 last.1 begins.shows goes.1 in
        comes_whole all every all g y d told now (λ j. refl) (λ j w. refl) (λ j. refl)
        (comes_then all all (not_of n) every all all g y b d told one now begins pumped)
