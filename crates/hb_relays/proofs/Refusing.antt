-- A link for which there is no room is refused, with what follows by itself.
use Rattle.std.proofs.Common.{◌≡◌, ◌≢◌, ⊎_elim, ℕ, ◌<◌, ◌^◌, not, Bool, true, false, List, [], ◌∷◌, map, Option, Some, None, is_some, refl, ap, sym, ◌∙◌, subst}
use Rattle.std.proofs.lemmas.Bool.{cases_eq}
use Rattle.std.specs.FinMap.{get, insert}
use Rattle.hb_base.specs.declared.cause.Cause.TheVariants as cause
use Rattle.hb_base.specs.declared.note.Note.{Note}
use Rattle.hb_captured.specs.Answer.{Routing, key_of}
use Rattle.hb_captured.specs.Captured as m
use Rattle.hb_captured.specs.Captured.{Captured, Stage, due}
use Rattle.hb_captured.specs.Part.{roomless, note_if}
use Rattle.hb_captured.specs.Runs as captured
use Rattle.hb_captured.specs.Runs.{Local, MayGo, next, next_link}
use Rattle.hb_gateway.specs.Calm as gateway_calm
use Rattle.hb_gateway.specs.Gateway.{Gateway}
use Rattle.hb_gateway.specs.Key.{Key}
use Rattle.hb_link.specs.Noted.{Told, Takes}
use Rattle.hb_map.proofs.Laws.{put_here, put_elsewhere}
use Rattle.hb_model.specs.declared.config.NodeConfig.{NodeConfig}
use Rattle.hb_proxy.proofs.Plain.{plain_runs}
use Rattle.hb_proxy.specs.Held.{at_start}
use Rattle.hb_proxy.specs.Load.{LinksFull}
use Rattle.hb_proxy.specs.Machine.{Machine, outward, plain_local, with_plain}
use Rattle.hb_proxy.specs.Points.{Point, of_plain, plain_of}
use Rattle.hb_proxy.specs.Runs.{PlainGuard, StandsFor, RestsAmong, IfThrough, NoneOffersAmong, routing_of}
use Rattle.hb_relay.specs.Answering.{routing_of as code_routing}
use Rattle.hb_relay.specs.Reaches as relay
use Rattle.hb_relay.specs.Reaches.{rerouted}
use Rattle.hb_relay.specs.Shows.{HasUpstream}
use Rattle.hb_relay.specs.Streamed.{LacksRoom}
use Rattle.hb_relay.specs.declared.relay.Relay.{Relay}
use Rattle.hb_relay.specs.declared.routes.Routes.{Routes}
use Rattle.hb_relays.specs.Joining.{Streams, ShowsSome, GoesOnBy, IsWanting, Refuses, WaitsFor, all}
use Rattle.hb_relays.specs.Reaches.{FindsRoom, IsRefusing}
use Rattle.hb_relays.specs.Shows.{IsIdle, ShowsRelay, ShowsGate}
use Rattle.hb_relays.specs.Walks.{relays_with, routes_with, touched_at}
use Rattle.hb_relays.specs.declared.relays.Relays.{Relays}
use Rattle.hb_relays.proofs.Due.{leads_refusing}
use Rattle.hb_relays.proofs.Lifted.{Lifted, lifted, counts, here, there, notes_of}
use Rattle.hb_relays.proofs.Onward.{goes_nowhere}
use Rattle.hb_relays.proofs.PumpedLink.{away_undue}
use Rattle.hb_relays.proofs.Showing.{opens_by, raw_rests, same_ups, there_by, ups_same}
use Rattle.hb_relays.proofs.Staying.{is_begun, begun_undue, leads_begun, leads_gate, leads_stay}
use Rattle.hb_relays.proofs.Touching.{untouched}

-- nothing is done where it finds room
stays_so : (k : Relays) (l : ℕ) (room : Bool) (told : Told)
    → ((resting : Streams) (g : NodeConfig) (x : Machine) (points : List Point) → StandsFor g x points
    → ShowsSome all resting all g k (outward x) → FindsRoom room (x.plain l)) → Refuses l room k told k told
stays_so k l room told finds resting g x points stands shows full =
    let goes = goes_nowhere all resting all g x k told shows in (
      record {
        more = [];
        reached = x;
        leads = refl;
        shows = shows;
        undue = goes.undue;
        noted = goes.noted;
      },
      finds resting g x points stands shows,
    )

has_room : (o : Option Key) → IfThrough o (λ key. true ≡ true)
has_room None = tt
has_room (Some key) = refl

pub refuses_none : (k : Relays) (l : ℕ) (room : Bool) (told : Told) → room ≡ true → Refuses l room k told k told
refuses_none k l room told is =
    stays_so k l room told (λ resting g x points stands shows.
    subst (λ (b : Bool). FindsRoom b (x.plain l)) (sym is) (λ stage. has_room (key_of (x.plain l).aim)))

-- or waits for no link to a gateway, or isn't there
pub refuses_unwanted : (k : Relays) (l : ℕ) (room : Bool) (told : Told) → IsWanting l k false → Refuses l room k told k told
refuses_unwanted k l room told none =
    stays_so k l room told (λ resting g x points stands shows stage.
    subst (λ (o : Option Key). IfThrough o (λ key. room ≡ true)) (sym (none all resting g x points stands shows stage)) tt)

pub refuses_away : (k : Relays) (l : ℕ) (room : Bool) (told : Told) → get k.relays l ≡ None → Refuses l room k told k told
refuses_away k l room told gone =
    stays_so k l room told (λ resting g x points stands shows stage.
    absurd (away_undue (x.plain l) (subst (λ (o : Option Relay). ShowsRelay l o (x.plain l)) gone (shows.relays l)) stage))

module _ (g : NodeConfig) (k : Relays) (l : ℕ) (old new : Relay) (routes : Routes) (told now : Told) (made : Option Note)
    (resting : Streams) (x : Machine) (points : List Point) (stands : StandsFor g x points)
    (shows : ShowsSome all resting all g k (outward x)) (is : get k.relays l ≡ Some old) (wants : WaitsFor l x)
    (lacks : LacksRoom old (code_routing k.routes) new (code_routing routes) made) (takes : Takes told (note_if made) now)
    (full : LinksFull true g x) where
  shown : ShowsRelay l (Some old) (x.plain l)
  shown = subst (λ (o : Option Relay). ShowsRelay l o (x.plain l)) is (shows.relays l)

  may : MayGo l (plain_local x l) roomless
  may = (wants.waits, wants.keyed)

  guard : PlainGuard g x l roomless
  guard = (shows.wanting l refl wants.waits, full)

  abbrev y : Machine
  y = with_plain l roomless (next_link (x.plain l) roomless) x

  one : relay.Reaches relay.IsInner l (rerouted (x.plain l) (next (plain_local x l) roomless).link (code_routing k.routes))
      (next (plain_local x l) roomless) new (code_routing routes) made
  one =
      subst (λ (i : ℕ). relay.Reaches relay.IsInner i
      (rerouted (x.plain l) (next (plain_local x l) roomless).link (code_routing k.routes)) (next (plain_local x l) roomless) new
      (code_routing routes) made) shown.0
      (lacks.reaches (at_start g) (plain_of l points) (plain_local x l)
      (subst (λ (i : ℕ). captured.StandsFor i (at_start g) (plain_local x l) (plain_of l points)) (sym shown.0)
      (plain_runs g x points l stands)) shown.1 tt
      (subst (λ (i : ℕ). MayGo i (plain_local x l) roomless) (sym shown.0) may))

  counted_so : routing_of g y ≡ rerouted (x.plain l) (next (plain_local x l) roomless).link (code_routing k.routes)
  counted_so =
      counts g x l roomless guard ∙ ap (rerouted (x.plain l) (next (plain_local x l) roomless).link) (sym shows.counted)

  leads : relay.Leads relay.IsInner l (routing_of g y) (plain_local y l) one.parts one.reached (code_routing routes)
  leads =
      subst (λ (by : Routing). relay.Leads relay.IsInner l by (plain_local y l) one.parts one.reached (code_routing routes))
      (sym counted_so)
      (subst (λ (c : Local). relay.Leads relay.IsInner l
      (rerouted (x.plain l) (next (plain_local x l) roomless).link (code_routing k.routes)) c one.parts one.reached (code_routing routes))
      (sym (here g x l roomless guard)) one.leads)

  abbrev then : Lifted g l y one.parts one.reached (code_routing routes)
  then = lifted g l y one.parts one.reached (code_routing routes) leads

  abbrev z : ℕ → Captured
  z = then.y.plain

  link_is : z l ≡ one.reached.link
  link_is = ap (λ (c : Local). c.link) then.here

  others : (j : ℕ) → j ≢ l → z j ≡ x.plain j
  others j apart = then.others j apart ∙ there x l roomless (next_link (x.plain l) roomless) j apart

  at_y : (plain_local y l).link ≡ next_link (x.plain l) roomless
  at_y = ap (λ (c : Local). c.link) (here g x l roomless guard)

  undue : (z l).stage ≢ due
  undue =
      begun_undue (z l).stage
      (ap (λ (w : Captured). is_begun w.stage) link_is
      ∙ leads_begun l (routing_of g y) (plain_local y l) one.parts one.reached (code_routing routes) leads
      (ap (λ (w : Captured). is_begun w.stage) at_y ∙ ap (λ (s : Stage). is_begun (m.ends_by cause.NoRoom s)) wants.waits))

  closed_is : one.reached.link.closed ≡ false
  closed_is =
      (leads_stay l (routing_of g y) (plain_local y l) one.parts one.reached (code_routing routes) leads).closed
      ∙ ap (λ (w : Captured). w.closed) at_y ∙ opens_by (x.plain l).stage (x.plain l).closed shown.2

  up_is : (z l).up ≡ (x.plain l).up
  up_is =
      ap (λ (w : Captured). w.up) link_is
      ∙ (leads_stay l (routing_of g y) (plain_local y l) one.parts one.reached (code_routing routes) leads).up
      ∙ ap (λ (w : Captured). w.up) at_y

  raw : (z l).gate ≡ 0
  raw =
      ap (λ (w : Captured). w.gate) link_is
      ∙ leads_gate l (routing_of g y) (plain_local y l) one.parts one.reached (code_routing routes) leads
      ∙ ap (λ (w : Captured). w.gate) at_y
      ∙ (subst (λ (s : Stage). HasUpstream s (key_of (x.plain l).aim) (x.plain l).up (x.plain l).gate) wants.waits shown.1.upstream).1

  refused_shows : ShowsSome all resting all g (touched_at l (routes_with routes (relays_with (insert k.relays l new) k.ups k)))
      (outward then.y)
  refused_shows = record {
    relays = λ j. ⊎_elim
        (λ at. subst (λ (i : ℕ). ShowsRelay i (get (insert k.relays l new) i) (z i)) (sym at)
        (subst (λ (o : Option Relay). ShowsRelay l o (z l)) (sym (put_here k.relays l new))
        (subst (λ (w : Captured). ShowsRelay l (Some new) w) (sym link_is)
        (lacks.number ∙ shown.0, one.shows, there_by new one.reached.link one.shows closed_is))))
        (λ apart. subst (λ (o : Option Relay). ShowsRelay j o (z j)) (sym (put_elsewhere k.relays l new j apart))
        (subst (ShowsRelay j (get k.relays j)) (sym (others j apart)) (shows.relays j)))
        (cases_eq j l);
    index = same_ups k.ups x.plain z (ups_same x.plain z l others up_is) shows.index;
    numbered = λ j some. ⊎_elim (λ at. subst (λ (i : ℕ). i < 2 ^ 64) (sym at) (shows.numbered l (ap is_some is)))
        (λ apart. shows.numbered j (sym (ap is_some (put_elsewhere k.relays l new j apart)) ∙ some)) (cases_eq j l);
    idle = λ j none. (let was = untouched l k.due j none in subst IsIdle (sym (others j was.0)) (shows.idle j was.1));
    counted = sym then.counted;
    gates = λ n. subst (λ (f : ℕ → Gateway). ShowsGate n (get k.gates n) (f n)) (sym then.gates) (shows.gates n);
    gate_numbered = shows.gate_numbered;
    gate_idle = λ n none.
        subst (λ (f : ℕ → Gateway). gateway_calm.close_due (f n).phase ≡ None) (sym then.gates) (shows.gate_idle n none);
    gates_calm = λ n quiet. subst (λ (f : ℕ → Gateway). gateway_calm.IsCalm (f n)) (sym then.gates) (shows.gates_calm n quiet);
    streams = λ j rests. ⊎_elim
        (λ at. subst (λ (i : ℕ). RestsAmong then.y.gates (z i)) (sym at) (raw_rests then.y.gates (z l) raw))
        (λ apart. subst (RestsAmong then.y.gates) (sym (others j apart))
        (subst (λ (f : ℕ → Gateway). RestsAmong f (x.plain j)) (sym then.gates)
        (shows.streams j (subst (λ (w : Captured). resting j w ≡ true) (others j apart) rests))))
        (cases_eq j l);
    wanting = λ j waits stage. ⊎_elim
        (λ at. absurd (undue (ap (λ (i : ℕ). (z i).stage) (sym at) ∙ stage)))
        (λ apart. subst (λ (w : Captured). IfThrough (key_of w.aim) (NoneOffersAmong then.y.gates)) (sym (others j apart))
        (subst (λ (f : ℕ → Gateway). IfThrough (key_of (x.plain j).aim) (NoneOffersAmong f)) (sym then.gates)
        (shows.wanting j waits (ap (λ (w : Captured). w.stage) (sym (others j apart)) ∙ stage))))
        (cases_eq j l);
  }

  abbrev refused_goes : GoesOnBy IsRefusing all resting all g x (touched_at l (routes_with routes (relays_with (insert k.relays l new) k.ups k))) told now
  refused_goes = record {
    more = of_plain l roomless ∷ map (of_plain l) one.parts;
    reached = then.y;
    leads = (tt, y, (may, guard, refl), leads_refusing g y (map (of_plain l) one.parts) then.y then.leads);
    shows = refused_shows;
    undue = λ j was. ⊎_elim
        (λ at now_due. undue (ap (λ (i : ℕ). (z i).stage) (sym at) ∙ now_due))
        (λ apart now_due. was (ap (λ (w : Captured). w.stage) (sym (others j apart)) ∙ now_due))
        (cases_eq j l);
    noted = subst (λ (ns : List Note). Takes told ns now) (sym (notes_of l one.parts))
        (subst (λ (ns : List Note). Takes told ns now) (sym one.noted) takes);
  }

-- it is refused
pub refuses : (k new_all : Relays) (l : ℕ) (room : Bool) (old new : Relay) (routes : Routes) (told now : Told) (made : Option Note)
    → get k.relays l ≡ Some old → IsWanting l k true → LacksRoom old (code_routing k.routes) new (code_routing routes) made
    → Takes told (note_if made) now → new_all ≡ touched_at l (routes_with routes (relays_with (insert k.relays l new) k.ups k))
    → room ≡ false → Refuses l room k told new_all now
refuses k new_all l room old new routes told now made is wants lacks takes new_is none resting g x points stands shows full =
    let waits = wants all resting g x points stands shows in
    let so = subst (λ (b : Bool). LinksFull (not b) g x) none (full waits.waits) in
    subst (λ (w : Relays). (goes : GoesOnBy IsRefusing all resting all g x w told now) × FindsRoom room (goes.reached.plain l)) (sym new_is) (
      refused_goes g k l old new routes told now made resting x points stands shows is waits lacks takes so,
      λ stage. absurd (undue g k l old new routes told now made resting x points stands shows is waits lacks takes so stage),
    )
