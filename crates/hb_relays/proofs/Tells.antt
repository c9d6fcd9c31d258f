-- The tunnel on a stream of a link to a gateway is told what it heard: the captured link, and that link, go on together.
use Rattle.std.proofs.Common.{◌≡◌, ◌≢◌, ⊎_elim, ℕ, ◌<◌, ◌^◌, ◌==◌, Bool, true, false, cond, List, ◌∷◌, map, Option, Some, None, is_some, IsSome, refl, ap, sym, ◌∙◌, subst}
use Rattle.std.proofs.lemmas.Bool.{cases_eq, eq-eqb, ne_eqb, true≢false}
use Rattle.std.specs.FinMap.{get, insert}
use Rattle.hb_base.specs.declared.note.Note.{Note}
use Rattle.hb_captured.specs.Answer.{Routing, key_of}
use Rattle.hb_captured.specs.Captured as m
use Rattle.hb_captured.specs.Captured.{Captured, Stage, due, is_raw, told_by}
use Rattle.hb_captured.specs.Part as part
use Rattle.hb_captured.specs.Part.{hears, note_if}
use Rattle.hb_captured.specs.Runs as captured
use Rattle.hb_captured.specs.Runs.{Local, MayHear, next, next_link}
use Rattle.hb_gate.specs.Calls as gate
use Rattle.hb_gate.specs.Shows as shown
use Rattle.hb_gate.specs.declared.gate.Gate.{Gate}
use Rattle.hb_gateway.specs.Calm.{IsCalm, close_due}
use Rattle.hb_gateway.specs.Gateway.{Gateway, Stream, at_stream, offers}
use Rattle.hb_gateway.specs.Part as gateway_part
use Rattle.hb_gateway.specs.Response.{Heard}
use Rattle.hb_gateway.specs.Runs as gateways
use Rattle.hb_link.specs.Noted.{Told, Takes}
use Rattle.hb_map.proofs.Laws.{put_here, put_elsewhere}
use Rattle.hb_model.specs.declared.config.NodeConfig.{NodeConfig}
use Rattle.hb_proxy.proofs.Aims.{aims_fit, is_asked}
use Rattle.hb_proxy.proofs.Plain.{plain_runs}
use Rattle.hb_proxy.proofs.Streams.{none_at_zero, runs_agree}
use Rattle.hb_proxy.specs.Held.{at_start}
use Rattle.hb_proxy.specs.Machine.{Machine, Outward, outward, plain_local, with_stream}
use Rattle.hb_proxy.specs.Points.{Point, of_plain, of_stream, plain_of}
use Rattle.hb_proxy.specs.Runs.{IfThrough, NoneOffersAmong, RestsAmong, Steps, StandsFor, routing_of}
use Rattle.hb_proxy.specs.Seen.{IsGateThere}
use Rattle.hb_proxy.specs.Shared.{tells}
use Rattle.hb_proxy.specs.Streams.{HasTunnel}
use Rattle.hb_relay.specs.Answering.{routing_of as code_routing}
use Rattle.hb_relay.specs.Calls as calls
use Rattle.hb_relay.specs.Reaches as relay
use Rattle.hb_relay.specs.Reaches.{rerouted}
use Rattle.hb_relay.specs.declared.relay.Relay.{Relay}
use Rattle.hb_relay.specs.declared.routes.Routes.{Routes}
use Rattle.hb_relays.specs.Joining.{but, not_of}
use Rattle.hb_relays.specs.Looking.{GoesOpen, ShowsOpen}
use Rattle.hb_relays.specs.Shows.{IsIdle, IsIndex, ShowsGate, ShowsRelay}
use Rattle.hb_relays.specs.Touched.{is_touched}
use Rattle.hb_relays.specs.Walks.{changed, routes_with, touched_at, with_gate}
use Rattle.hb_relays.specs.declared.relays.Relays.{Relays}
use Rattle.hb_relays.proofs.GateEntering.{conn_rests, waits_on}
use Rattle.hb_relays.proofs.Lifted.{Lifted, lifted, notes_of}
use Rattle.hb_relays.proofs.Showing.{apart_of, kept_shown, opens_by, raw_rests, same_ups, there_by, ups_same}
use Rattle.hb_relays.proofs.Staying.{begun_undue, is_begun, leads_begun, leads_gate, leads_stay, told_begun, told_gate, told_stays}
use Rattle.hb_relays.proofs.Touching.{untouched}

asked_begun : (stage : Stage) → is_asked stage ≡ true → is_begun stage ≡ true
asked_begun m.unborn is = is
asked_begun m.arriving is = is
asked_begun m.fronting is = is
asked_begun m.due is = is
asked_begun m.opening is = refl
asked_begun m.accepting is = refl
asked_begun m.live is = refl
asked_begun (m.failed why) is = refl
asked_begun (m.ended why) is = refl
asked_begun (m.over why) is = refl

-- a link that has a stream was asked for
pub stream_begun : (g : NodeConfig) (x : Machine) (points : List Point) → StandsFor g x points → (l : ℕ) → is_raw (x.plain l) ≡ false
    → is_begun (x.plain l).stage ≡ true
stream_begun g x points stands l on = asked_begun (x.plain l).stage (by (is_asked (x.plain l).stage) refl)
  where
    by : (b : Bool) → is_asked (x.plain l).stage ≡ b → b ≡ true
    by true is = refl
    by false is =
        absurd (true≢false (sym (ap (λ (n : ℕ). n == 0) ((aims_fit g x points stands l).unasked is)) ∙ on))

-- WHOSE THE STREAM IS
module _ (g : NodeConfig) (x : Machine) (points : List Point) (stands : StandsFor g x points) (n s : ℕ)
    (has : HasTunnel ((x.gates n).streams s)) (l : ℕ) (whose : ((x.gates n).streams s).captured ≡ l) where
  pub at_gate : (x.plain l).gate ≡ n
  at_gate = subst (λ (i : ℕ). (x.plain i).gate ≡ n) whose ((runs_agree g x points stands).carries n s has).0

  pub at_number : (x.plain l).stream ≡ s
  at_number = subst (λ (i : ℕ). (x.plain i).stream ≡ s) whose ((runs_agree g x points stands).carries n s has).1

  pub not_zero : n ≢ 0
  not_zero zero = none_at_zero g x points stands s (subst (λ (i : ℕ). HasTunnel ((x.gates i).streams s)) zero has)

  pub on_stream : is_raw (x.plain l) ≡ false
  on_stream = ne_eqb (x.plain l).gate 0 (λ zero. not_zero (sym at_gate ∙ zero))

-- ALL BUT ONE LINK TO A GATEWAY is shown; on that one something may still happen, and its streams may move
pub record Around (n : ℕ) (g : NodeConfig) (k : Relays) (x : Outward) : Type 0 where
  pub relays : (l : ℕ) → ShowsRelay l (get k.relays l) (x.plain l)
  pub index : IsIndex k.ups x.plain
  pub numbered : (l : ℕ) → IsSome (get k.relays l) → l < 2 ^ 64
  pub idle : (l : ℕ) → is_touched k.due l ≡ false → IsIdle (x.plain l)
  pub counted : code_routing k.routes ≡ record { opens = x.opens; hbone_port = g.hbone_port }
  pub gates : (m : ℕ) → m ≢ n → ShowsGate m (get k.gates m) (x.gates m)
  pub gate_numbered : (m : ℕ) → IsSome (get k.gates m) → m < 2 ^ 64
  pub gate_idle : (m : ℕ) → is_touched k.gate_due m ≡ false → close_due (x.gates m).phase ≡ None
  pub gates_calm : (m : ℕ) → but n m ≡ true → IsCalm (x.gates m)
  pub streams : (l : ℕ) → not_of n l (x.plain l) ≡ true → RestsAmong x.gates (x.plain l)
  pub wanting : (l : ℕ) → (x.plain l).stage ≡ due → IfThrough (key_of (x.plain l).aim) (NoneOffersAmong x.gates)

pub around_open : (n : ℕ) (g : NodeConfig) (k : Relays) (x : Outward) → ShowsOpen n g k x → Around n g k x
around_open n g k x shows = record {
  relays = shows.relays;
  index = shows.index;
  numbered = shows.numbered;
  idle = shows.idle;
  counted = shows.counted;
  gates = λ m apart. shows.gates m;
  gate_numbered = shows.gate_numbered;
  gate_idle = shows.gate_idle;
  gates_calm = shows.gates_calm;
  streams = shows.streams;
  wanting = λ l. shows.wanting l refl;
}

module _ (g : NodeConfig) (k : Relays) (l n s : ℕ) (heard : Heard) (count : ℕ) (old new : Relay) (kept after : Gate) (routes : Routes)
    (made : Option Note) (told now : Told) (x : Machine) (points : List Point) (stands : StandsFor g x points)
    (shows : Around n g k (outward x)) (is : get k.relays l ≡ Some old) (is_gate : get k.gates n ≡ Some kept)
    (kept_number : kept.number ≡ n) (there : IsGateThere (x.gates n).phase)
    (whose : ((x.gates n).streams s).captured ≡ l) (has : HasTunnel ((x.gates n).streams s))
    (goes : gate.Goes (gateway_part.tells s heard count) (x.gates n) after) (numbered : after.number ≡ kept.number)
    (meets : relay.Meets calls.any (hears heard count) old (code_routing k.routes) new (code_routing routes) made)
    (may : MayHear (x.plain l).stage heard (x.plain l)) (takes : Takes told (note_if made) now) where
  abbrev p : part.Part
  p = hears heard count

  abbrev next_gate : Gateway
  next_gate = at_stream s (λ (t : Stream). record t { mail = None }) (x.gates n)

  one : ShowsRelay l (Some old) (x.plain l)
  one = kept_shown k x.plain l old shows.relays is

  at : (x.plain l).gate ≡ n
  at = at_gate g x points stands n s has l whose

  on : is_raw (x.plain l) ≡ false
  on = on_stream g x points stands n s has l whose

  abbrev z : Machine
  z = with_stream l n (next_link (x.plain l) p) next_gate x

  z_steps : Steps g x (of_stream l n s (tells heard count)) z
  z_steps = (
    (on, may),
    next_gate,
    subst (λ (i : ℕ). gateways.Steps i (x.gates n) (gateway_part.tells s heard count) next_gate) (numbered ∙ kept_number)
        (goes.steps.0, goes.steps.1, refl),
    record { gate = at; number = at_number g x points stands n s has l whose },
    refl,
  )

  here : z.plain l ≡ next_link (x.plain l) p
  here = ap (λ (b : Bool). cond b (next_link (x.plain l) p) (x.plain l)) (eq-eqb l l refl)

  other : (j : ℕ) → j ≢ l → z.plain j ≡ x.plain j
  other j apart = ap (λ (b : Bool). cond b (next_link (x.plain l) p) (x.plain j)) (ne_eqb j l apart)

  gate_here : z.gates n ≡ next_gate
  gate_here = ap (λ (b : Bool). cond b next_gate (x.gates n)) (eq-eqb n n refl)

  gate_other : (j : ℕ) → j ≢ n → z.gates j ≡ x.gates j
  gate_other j apart = ap (λ (b : Bool). cond b next_gate (x.gates j)) (ne_eqb j n apart)

  abbrev last : relay.Reaches relay.IsInner l (rerouted (x.plain l) (next_link (x.plain l) p) (code_routing k.routes)) (next (plain_local x l) p) new
      (code_routing routes) made
  last =
      subst (λ (i : ℕ). relay.Reaches relay.IsInner i (rerouted (x.plain l) (next_link (x.plain l) p) (code_routing k.routes))
      (next (plain_local x l) p) new (code_routing routes) made) one.0
      (meets.reaches (at_start g) (plain_of l points) (plain_local x l)
      (subst (λ (i : ℕ). captured.StandsFor i (at_start g) (plain_local x l) (plain_of l points)) (sym one.0) (plain_runs g x points l stands))
      one.1 tt (on, may))

  counted : rerouted (x.plain l) (next_link (x.plain l) p) (code_routing k.routes) ≡ routing_of g z
  counted = ap (rerouted (x.plain l) (next_link (x.plain l) p)) shows.counted

  local_is : next (plain_local x l) p ≡ plain_local z l
  local_is = ap (λ (c : Captured). record { held = x.control.held; link = c }) (sym here)

  at_z : relay.Leads relay.IsInner l (routing_of g z) (plain_local z l) last.parts last.reached (code_routing routes)
  at_z =
      subst (λ (by : Routing). relay.Leads relay.IsInner l by (plain_local z l) last.parts last.reached (code_routing routes)) counted
      (subst (λ (a : Local). relay.Leads relay.IsInner l (rerouted (x.plain l) (next_link (x.plain l) p) (code_routing k.routes)) a
      last.parts last.reached (code_routing routes)) local_is last.leads)

  abbrev then : Lifted g l z last.parts last.reached (code_routing routes)
  then = lifted g l z last.parts last.reached (code_routing routes) at_z

  abbrev reached : Machine
  reached = then.y

  link_is : reached.plain l ≡ last.reached.link
  link_is = ap (λ (a : Local). a.link) then.here

  others : (j : ℕ) → j ≢ l → reached.plain j ≡ x.plain j
  others j apart = then.others j apart ∙ other j apart

  gate_is : reached.gates n ≡ next_gate
  gate_is = ap (λ (f : ℕ → Gateway). f n) then.gates ∙ gate_here

  gates_are : (j : ℕ) → j ≢ n → reached.gates j ≡ x.gates j
  gates_are j apart = ap (λ (f : ℕ → Gateway). f j) then.gates ∙ gate_other j apart

  stays_up : (reached.plain l).up ≡ (x.plain l).up
  stays_up =
      ap (λ (c : Captured). c.up) link_is
      ∙ (leads_stay l (routing_of g z) (plain_local z l) last.parts last.reached (code_routing routes) at_z).up
      ∙ ap (λ (c : Captured). c.up) here ∙ (told_stays heard count (x.plain l)).up

  opens : last.reached.link.closed ≡ false
  opens =
      (leads_stay l (routing_of g z) (plain_local z l) last.parts last.reached (code_routing routes) at_z).closed
      ∙ ap (λ (c : Captured). c.closed) here ∙ (told_stays heard count (x.plain l)).closed
      ∙ opens_by (x.plain l).stage (x.plain l).closed one.2

  begun : is_begun (reached.plain l).stage ≡ true
  begun =
      ap (λ (c : Captured). is_begun c.stage) link_is
      ∙ leads_begun l (routing_of g z) (plain_local z l) last.parts last.reached (code_routing routes) at_z
      (ap (λ (c : Captured). is_begun c.stage) here
      ∙ told_begun heard count (x.plain l) (stream_begun g x points stands l on))

  gate_then_is : (reached.plain l).gate ≡ (told_by heard count (x.plain l)).gate
  gate_then_is =
      ap (λ (c : Captured). c.gate) link_is
      ∙ leads_gate l (routing_of g z) (plain_local z l) last.parts last.reached (code_routing routes) at_z
      ∙ ap (λ (c : Captured). c.gate) here

  abbrev After : Relays
  After = touched_at l (routes_with routes (changed l new (with_gate n after k)))

  known : ShowsOpen n g After (outward reached)
  known = record {
    relays = λ j. ⊎_elim
        (λ same. subst (λ (i : ℕ). ShowsRelay i (get (insert k.relays l new) i) (reached.plain i)) (sym same)
        (subst (λ (o : Option Relay). ShowsRelay l o (reached.plain l)) (sym (put_here k.relays l new))
        (subst (ShowsRelay l (Some new)) (sym link_is)
        (meets.number ∙ one.0, last.shows, there_by new last.reached.link last.shows opens))))
        (λ apart. subst (λ (o : Option Relay). ShowsRelay j o (reached.plain j)) (sym (put_elsewhere k.relays l new j apart))
        (subst (ShowsRelay j (get k.relays j)) (sym (others j apart)) (shows.relays j)))
        (cases_eq j l);
    index = same_ups k.ups x.plain reached.plain (ups_same x.plain reached.plain l others stays_up) shows.index;
    numbered = λ j some. ⊎_elim (λ same. subst (λ (i : ℕ). i < 2 ^ 64) (sym same) (shows.numbered l (ap is_some is)))
        (λ apart. shows.numbered j (sym (ap is_some (put_elsewhere k.relays l new j apart)) ∙ some)) (cases_eq j l);
    idle = λ j none. (let was = untouched l k.due j none in subst IsIdle (sym (others j was.0)) (shows.idle j was.1));
    counted = sym then.counted;
    gates = λ j. ⊎_elim
        (λ same. subst (λ (i : ℕ). ShowsGate i (get (insert k.gates n after) i) (reached.gates i)) (sym same)
        (subst (λ (o : Option Gate). ShowsGate n o (reached.gates n)) (sym (put_here k.gates n after))
        (subst (ShowsGate n (Some after)) (sym gate_is)
        (numbered ∙ kept_number, subst (shown.Shows after) goes.steps.2 goes.shows, there))))
        (λ apart. subst (λ (o : Option Gate). ShowsGate j o (reached.gates j)) (sym (put_elsewhere k.gates n after j apart))
        (subst (ShowsGate j (get k.gates j)) (sym (gates_are j apart)) (shows.gates j apart)))
        (cases_eq j n);
    gate_numbered = λ j some. ⊎_elim (λ same. subst (λ (i : ℕ). i < 2 ^ 64) (sym same) (shows.gate_numbered n (ap is_some is_gate)))
        (λ apart. shows.gate_numbered j (sym (ap is_some (put_elsewhere k.gates n after j apart)) ∙ some)) (cases_eq j n);
    gate_idle = λ j none. ⊎_elim
        (λ same. subst (λ (i : ℕ). close_due (reached.gates i).phase ≡ None) (sym same)
        (ap (λ (w : Gateway). close_due w.phase) gate_is
        ∙ shows.gate_idle n (subst (λ (i : ℕ). is_touched k.gate_due i ≡ false) same none)))
        (λ apart. ap (λ (w : Gateway). close_due w.phase) (gates_are j apart) ∙ shows.gate_idle j none) (cases_eq j n);
    gates_calm = λ j quiet_so. subst IsCalm (sym (gates_are j (apart_of j n quiet_so))) (shows.gates_calm j quiet_so);
    streams = λ j apart_so. ⊎_elim
        (λ same. subst (λ (i : ℕ). RestsAmong reached.gates (reached.plain i)) (sym same)
        (raw_rests reached.gates (reached.plain l)
        (left_it (subst (λ (i : ℕ). not_of n i (reached.plain i) ≡ true) same apart_so))))
        (λ apart. subst (RestsAmong reached.gates) (sym (others j apart))
        (conn_rests x.gates reached.gates (x.plain j)
        (ap (λ (w : Gateway). w.conn) (gates_are (x.plain j).gate (off j apart apart_so)))
        (shows.streams j (subst (λ (c : Captured). not_of n j c ≡ true) (others j apart) apart_so))))
        (cases_eq j l);
    wanting = λ j waits stage. ⊎_elim
        (λ same. absurd (begun_undue (reached.plain l).stage begun (subst (λ (i : ℕ). (reached.plain i).stage ≡ due) same stage)))
        (λ apart. subst (λ (c : Captured). IfThrough (key_of c.aim) (NoneOffersAmong reached.gates)) (sym (others j apart))
        (waits_on (outward x) n reached.gates gates_are (ap (λ (w : Gateway). w.key) gate_is) (λ room. sym (ap offers gate_is) ∙ room)
        (key_of (x.plain j).aim) (shows.wanting j (ap (λ (c : Captured). c.stage) (sym (others j apart)) ∙ stage))))
        (cases_eq j l);
  }
    where
      off : (j : ℕ) → j ≢ l → not_of n j (reached.plain j) ≡ true → (x.plain j).gate ≢ n
      off j apart far = apart_of (x.plain j).gate n (subst (λ (c : Captured). not_of n j c ≡ true) (others j apart) far)

      left_it : not_of n l (reached.plain l) ≡ true → (reached.plain l).gate ≡ 0
      left_it far = ⊎_elim
          (λ stays. absurd (apart_of (reached.plain l).gate n far (gate_then_is ∙ stays ∙ at)))
          (λ left. gate_then_is ∙ left) (told_gate heard count (x.plain l))

  pub told_open : GoesOpen n (λ v. v ≡ at_stream s (λ (t : Stream). record t { mail = None }) (x.gates n)) g x After told now
  told_open = record {
    goes = record {
      more = of_stream l n s (tells heard count) ∷ map (of_plain l) last.parts;
      reached = reached;
      leads = (tt, z, z_steps, then.leads);
      shows = known;
      undue = λ j un. ⊎_elim
          (λ same stage. begun_undue (reached.plain l).stage begun (subst (λ (i : ℕ). (reached.plain i).stage ≡ due) same stage))
          (λ apart stage. un (ap (λ (c : Captured). c.stage) (sym (others j apart)) ∙ stage)) (cases_eq j l);
      noted = subst (λ (ns : List Note). Takes told ns now) (sym (notes_of l last.parts ∙ last.noted)) takes;
    };
    here = gate_is;
  }
