-- A link gets its stream: where the code of both does so, that of all links goes on.
use Rattle.std.proofs.Common.{◌≡◌, ◌≢◌, ⊎_elim, ℕ, ◌<◌, ◌^◌, Bool, true, false, List, [], ◌∷◌, ◌||◌, Option, Some, None, is_some, refl, ap, sym, ◌∙◌, subst, arith}
use Rattle.std.proofs.lemmas.Bool.{cases_eq, ne_eqb}
use Rattle.std.specs.FinMap.{get, insert}
use Rattle.hb_base.specs.declared.target.Target.{Target}
use Rattle.hb_captured.specs.Answer.{Routing, Aim, through, key_of}
use Rattle.hb_captured.specs.Captured.{Captured, Stage, due, opening}
use Rattle.hb_captured.specs.Part as part
use Rattle.hb_captured.specs.Part.{Part, asked}
use Rattle.hb_captured.specs.Runs as captured
use Rattle.hb_captured.specs.Runs.{Local, MayGo, Lacks, left_note, next, next_link}
use Rattle.hb_gate.specs.Calls as gate
use Rattle.hb_gate.specs.Observed.{offers_on}
use Rattle.hb_gate.specs.Shows as shown
use Rattle.hb_gate.specs.declared.gate.Gate.{Gate}
use Rattle.hb_gateway.specs.Calm.{close_due}
use Rattle.hb_gateway.specs.Gateway as gateway
use Rattle.hb_gateway.specs.Gateway.{Gateway, Phase, offers}
use Rattle.hb_gateway.specs.Key.{Key}
use Rattle.hb_gateway.specs.Keys.{key_as}
use Rattle.hb_gateway.specs.declared.key.Key.{Key as Code}
use Rattle.hb_gateway.specs.Part.{asks as asks_part}
use Rattle.hb_gateway.specs.Runs as gateways
use Rattle.hb_link.specs.Noted.{Told}
use Rattle.hb_link.proofs.Noted.{takes_none}
use Rattle.hb_map.proofs.Laws.{put_here, put_elsewhere}
use Rattle.hb_model.specs.declared.config.NodeConfig.{NodeConfig}
use Rattle.hb_proxy.proofs.Gates.{gates_run}
use Rattle.hb_proxy.proofs.GateChanges.{is_gate_born}
use Rattle.hb_proxy.proofs.Owned.{all_owned, whose_in}
use Rattle.hb_proxy.proofs.Plain.{plain_runs}
use Rattle.hb_proxy.specs.Held.{at_start}
use Rattle.hb_proxy.specs.Machine.{Machine, outward, plain_local}
use Rattle.hb_proxy.specs.Owners as owners
use Rattle.hb_proxy.specs.Points.{Point, of_stream, plain_of, gates_of}
use Rattle.hb_proxy.specs.Runs.{Asks, StandsFor, IfThrough, NoneOffersAmong, NoneOffersBelow, RestsAmong, StreamRestsBy}
use Rattle.hb_proxy.specs.Seen.{IsGateThere}
use Rattle.hb_proxy.specs.Shared.{asks}
use Rattle.hb_relay.specs.Answering.{routing_of as code_routing, wanted_as}
use Rattle.hb_relay.specs.Calls.{any}
use Rattle.hb_relay.specs.Reaches as relay
use Rattle.hb_relay.specs.Reaches.{IsInner, Leads, rerouted}
use Rattle.hb_relay.specs.Shows.{Shows}
use Rattle.hb_relay.specs.Streamed as streamed
use Rattle.hb_relay.specs.declared.relay.Relay.{Relay}
use Rattle.hb_relays.specs.Joining.{Links, Streams, all, also, ShowsSome, GoesOn, OfRuns, AsksOn, HasRoom, MayAsk, IsWanting, FirstOffers, Joins}
use Rattle.hb_relays.specs.Shows.{IsIdle, ShowsRelay, ShowsGate}
use Rattle.hb_relays.specs.declared.relays.Relays.{Relays}
use Rattle.hb_relays.proofs.Showing.{opens_by, same_ups, ups_same}
use Rattle.hb_relays.proofs.Touching.{untouched}
use Rattle.hb_relays.proofs.Offering.{all_shown}
use Rattle.hb_relays.proofs.Onward.{shows_as, goes_nowhere}
use Rattle.hb_relays.proofs.Paired.{paired}
use Rattle.hb_relays.proofs.PumpedLink.{away_undue}
use Rattle.hb_relays.proofs.Asked.{asks_then, asks_next, asks_steps, asks_other, asks_here, asks_other_gate, asks_gate, asks_rests, asks_calm, asks_offers}

born_by : (phase : Phase) → IsGateThere phase → is_gate_born phase ≡ true
born_by gateway.unborn there = absurd there
born_by phase there = refl

-- NOTHING FOLLOWS BY ITSELF where a link was asked for

none_lacks : (s : Stage) (x : Captured) → s ≡ opening → Lacks s x → ⊥
none_lacks s x is lacks = subst (λ (w : Stage). Lacks w x) is lacks

none_left : (l : ℕ) (s : Stage) (x : Captured) (made : _) → s ≡ opening → left_note l x s made → ⊥
none_left l s x made is left = subst (λ (w : Stage). left_note l x w made) is left

none_follows : (l : ℕ) (a : Local) (p : Part) → a.link.stage ≡ opening → IsInner p → MayGo l a p → ⊥
none_follows l a part.welcomed is inner may = let no = sym is ∙ may in cc
none_follows l a part.lacked is inner may = none_lacks a.link.stage a.link is may
none_follows l a (part.misfronted fault) is inner may = let no = sym is ∙ may.0 in cc
none_follows l a (part.fronted seen routing aim) is inner may = let no = sym is ∙ may.0.0 in cc
none_follows l a (part.refused seen routing why status note) is inner may = let no = sym is ∙ may.0.0 in cc
none_follows l a (part.accepted note) is inner may = let no = sym is ∙ may.0 in cc
none_follows l a (part.left made) is inner may = none_left l a.link.stage a.link made is may.0
none_follows l a (part.done note) is inner may = let no = sym is ∙ may.0 in cc
none_follows l a p is inner may = absurd inner

record Ends (parts : List Part) (a b : Local) (routing behind : Routing) : Type 0 where
  link : b ≡ a
  counted : behind ≡ routing

ends : (l : ℕ) (routing : Routing) (a : Local) (parts : List Part) (b : Local) (behind : Routing) → a.link.stage ≡ opening
    → Leads IsInner l routing a parts b behind → Ends parts a b routing behind
ends l routing a [] b behind is leads = record { link = leads.0; counted = leads.1 }
ends l routing a (p ∷ parts) b behind is leads = absurd (none_follows l a p is leads.0 leads.2)

-- A STREAM IS ASKED FOR

-- no link to a gateway has the number 0
pub numbered_from_one : (g : NodeConfig) (x : Machine) (points : List Point) → StandsFor g x points → (n : ℕ)
    → is_gate_born (x.gates n).phase ≡ true → n ≢ 0
numbered_from_one g x points stands n born zero =
    let owned = all_owned g x points stands in
    none_owns n (owned.gate n born) (ap (whose_in points) zero ∙ owned.none)
  where
    none_owns : (n : ℕ) → whose_in points n ≡ owners.gateway_link → whose_in points n ≡ owners.nobody → ⊥
    none_owns n is none = let no = sym is ∙ none in cc

module _ (g : NodeConfig) (k : Relays) (l n s : ℕ) (old one : Relay) (kept two : Gate) (authority : Target) (waiting : Links)
    (resting : Streams) (x : Machine) (points : List Point) (stands : StandsFor g x points)
    (shows : ShowsSome waiting resting all g k (outward x))
    (is : get k.relays l ≡ Some old) (is_gate : get k.gates n ≡ Some kept)
    (asks_one : streamed.Asks n s old one) (asks_two : gate.Asks s l authority kept two)
    (is_due : (x.plain l).stage ≡ due) (endpoint : List ℕ) (aims : (x.plain l).aim ≡ through (x.gates n).key authority endpoint)
    (room : offers (x.gates n) ≡ true) (first : NoneOffersBelow x (x.gates n).key n) where
  shown_one : ShowsRelay l (Some old) (x.plain l)
  shown_one = subst (λ (o : Option Relay). ShowsRelay l o (x.plain l)) is (shows.relays l)

  shown_two : ShowsGate n (Some kept) (x.gates n)
  shown_two = subst (λ (o : Option Gate). ShowsGate n o (x.gates n)) is_gate (shows.gates n)

  not_zero : 0 < n
  not_zero = let no = numbered_from_one g x points stands n (born_by (x.gates n).phase shown_two.2) in omega (arith, no)

  may : MayGo l (plain_local x l) (asked n s)
  may = (is_due, ap is_some (ap key_of aims), not_zero)

  -- of the link to the gateway
  goes : gate.Goes (asks_part s l authority) (x.gates n) two
  goes = asks_two.1 (x.gates n) (gates_of n points)
      (subst (λ (i : ℕ). gateways.StandsFor i (x.gates n) (gates_of n points)) (sym shown_two.0) (gates_run g x points n stands))
      shown_two.1 room

  abbrev guard : Asks x l n authority
  guard = record { endpoint = endpoint; aim = aims; first = first }

  abbrev y : Machine
  y = asks_then g x points stands l n s authority may room goes.steps.1 guard

  abbrev two_next : Gateway
  two_next = asks_next g x points stands l n s authority may room goes.steps.1 guard

  -- of the link itself: nothing follows
  does : relay.Meets any (asked n s) old (code_routing k.routes) one (code_routing k.routes) None
  does = asks_one (code_routing k.routes)

  reaches : relay.Reaches IsInner l (rerouted (x.plain l) (next_link (x.plain l) (asked n s)) (code_routing k.routes))
      (next (plain_local x l) (asked n s)) one (code_routing k.routes) None
  reaches =
      subst (λ (i : ℕ). relay.Reaches IsInner i (rerouted (x.plain l) (next_link (x.plain l) (asked n s)) (code_routing k.routes))
      (next (plain_local x l) (asked n s)) one (code_routing k.routes) None) shown_one.0
      (does.reaches (at_start g) (plain_of l points) (plain_local x l)
      (subst (λ (i : ℕ). captured.StandsFor i (at_start g) (plain_local x l) (plain_of l points)) (sym shown_one.0)
      (plain_runs g x points l stands)) shown_one.1 tt
      (subst (λ (i : ℕ). MayGo i (plain_local x l) (asked n s)) (sym shown_one.0) may))

  ended : Ends reaches.parts (next (plain_local x l) (asked n s)) reaches.reached
      (rerouted (x.plain l) (next_link (x.plain l) (asked n s)) (code_routing k.routes)) (code_routing k.routes)
  ended = ends l (rerouted (x.plain l) (next_link (x.plain l) (asked n s)) (code_routing k.routes)) (next (plain_local x l) (asked n s))
      reaches.parts reaches.reached (code_routing k.routes) refl reaches.leads

  one_shown : Shows one (next_link (x.plain l) (asked n s))
  one_shown = subst (λ (a : Local). Shows one a.link) ended.link reaches.shows

  others : (j : ℕ) → j ≢ l → y.plain j ≡ x.plain j
  others j apart = asks_other g x points stands l n s authority may room goes.steps.1 guard j apart

  here : y.plain l ≡ next_link (x.plain l) (asked n s)
  here = asks_here g x points stands l n s authority may room goes.steps.1 guard

  other_gates : (j : ℕ) → j ≢ n → y.gates j ≡ x.gates j
  other_gates j apart = asks_other_gate g x points stands l n s authority may room goes.steps.1 guard j apart

  gate_here : y.gates n ≡ two_next
  gate_here = asks_gate g x points stands l n s authority may room goes.steps.1 guard

  two_shown : shown.Shows two two_next
  two_shown = subst (shown.Shows two) goes.steps.2 goes.shows

  is_opening : (y.plain l).stage ≡ opening
  is_opening = ap (λ (w : Captured). w.stage) here

  joined_undue : (y.plain l).stage ≢ due
  joined_undue now = let no : opening ≡ due = sym is_opening ∙ now in cc

  opens_still : (x.plain l).closed ≡ false
  opens_still = opens_by (x.plain l).stage (x.plain l).closed shown_one.2

  due_rests : RestsAmong x.gates (x.plain l)
  due_rests on = subst (λ (st : Stage). StreamRestsBy st (x.plain l) (x.gates (x.plain l).gate)) (sym is_due) tt

  joined_shows : ShowsSome (also l waiting) resting all g (paired l n one two k.routes k) (outward y)
  joined_shows = record {
    relays = λ j. ⊎_elim
        (λ at. subst (λ (i : ℕ). ShowsRelay i (get (insert k.relays l one) i) (y.plain i)) (sym at)
        (subst (λ (o : Option Relay). ShowsRelay l o (y.plain l)) (sym (put_here k.relays l one))
        (subst (ShowsRelay l (Some one)) (sym here) (does.number ∙ shown_one.0, one_shown, opens_still))))
        (λ apart. subst (λ (o : Option Relay). ShowsRelay j o (y.plain j)) (sym (put_elsewhere k.relays l one j apart))
        (subst (ShowsRelay j (get k.relays j)) (sym (others j apart)) (shows.relays j)))
        (cases_eq j l);
    index = same_ups k.ups x.plain y.plain
        (ups_same x.plain y.plain l others (ap (λ (w : Captured). w.up) here)) shows.index;
    numbered = λ j some. ⊎_elim (λ at. subst (λ (i : ℕ). i < 2 ^ 64) (sym at) (shows.numbered l (ap is_some is)))
        (λ apart. shows.numbered j (sym (ap is_some (put_elsewhere k.relays l one j apart)) ∙ some)) (cases_eq j l);
    idle = λ j none. (let was = untouched l k.due j none in subst IsIdle (sym (others j was.0)) (shows.idle j was.1));
    counted = ended.counted ∙ ap (rerouted (x.plain l) (next_link (x.plain l) (asked n s))) shows.counted;
    gates = λ j. ⊎_elim
        (λ at. subst (λ (i : ℕ). ShowsGate i (get (insert k.gates n two) i) (y.gates i)) (sym at)
        (subst (λ (o : Option Gate). ShowsGate n o (y.gates n)) (sym (put_here k.gates n two))
        (subst (ShowsGate n (Some two)) (sym gate_here) (asks_two.0 ∙ shown_two.0, two_shown, shown_two.2))))
        (λ apart. subst (λ (o : Option Gate). ShowsGate j o (y.gates j)) (sym (put_elsewhere k.gates n two j apart))
        (subst (ShowsGate j (get k.gates j)) (sym (other_gates j apart)) (shows.gates j)))
        (cases_eq j n);
    gate_numbered = λ j some. ⊎_elim (λ at. subst (λ (i : ℕ). i < 2 ^ 64) (sym at) (shows.gate_numbered n (ap is_some is_gate)))
        (λ apart. shows.gate_numbered j (sym (ap is_some (put_elsewhere k.gates n two j apart)) ∙ some)) (cases_eq j n);
    gate_idle = λ j none. (let was = untouched n k.gate_due j none in
        ap (λ (w : Gateway). close_due w.phase) (other_gates j was.0) ∙ shows.gate_idle j was.1);
    gates_calm = λ j quiet. asks_calm g x points stands l n s authority may room goes.steps.1 guard j (shows.gates_calm j quiet);
    streams = λ j rests. asks_rests g x points stands l n s authority may room goes.steps.1 guard j (⊎_elim
        (λ at. subst (λ (i : ℕ). RestsAmong x.gates (x.plain i)) (sym at) due_rests)
        (λ apart. shows.streams j (subst (λ (w : Captured). resting j w ≡ true) (others j apart) rests))
        (cases_eq j l));
    wanting = λ j waits stage. ⊎_elim
        (λ at. absurd (let no : opening ≡ due = sym is_opening ∙ ap (λ (i : ℕ). (y.plain i).stage) (sym at) ∙ stage in cc))
        (λ apart. subst (λ (w : Captured). IfThrough (key_of w.aim) (NoneOffersAmong y.gates)) (sym (others j apart))
        (keeps (key_of (x.plain j).aim)
        (shows.wanting j (waits_then j apart waits) (ap (λ (w : Captured). w.stage) (sym (others j apart)) ∙ stage))))
        (cases_eq j l);
  }
    where
      keeps : (o : Option Key) → IfThrough o (NoneOffersAmong x.gates) → IfThrough o (NoneOffersAmong y.gates)
      keeps None none = tt
      keeps (Some key) none = asks_offers g x points stands l n s authority may room goes.steps.1 guard key none

      waits_then : (j : ℕ) → j ≢ l → also l waiting j ≡ true → waiting j ≡ true
      waits_then j apart waits = ap (λ (b : Bool). b || waiting j) (sym (ne_eqb j l apart)) ∙ waits

  abbrev joined_goes : (told : Told) → GoesOn (also l waiting) resting all g x (paired l n one two k.routes k) told told
  joined_goes told = record {
    more = of_stream l n s (asks authority) ∷ [];
    reached = y;
    leads = (tt, y, asks_steps g x points stands l n s authority may room goes.steps.1 guard, refl);
    shows = joined_shows;
    undue = λ j undue. ⊎_elim
        (λ at now. (let no : opening ≡ due = sym is_opening ∙ ap (λ (i : ℕ). (y.plain i).stage) (sym at) ∙ now in cc))
        (λ apart now. undue (ap (λ (w : Captured). w.stage) (sym (others j apart)) ∙ now))
        (cases_eq j l);
    noted = takes_none told;
  }

-- so it is with each run
pub joins : (k new : Relays) (l n s : ℕ) (old one : Relay) (kept two : Gate) (authority : Target) → get k.relays l ≡ Some old
    → get k.gates n ≡ Some kept → streamed.Asks n s old one → gate.Asks s l authority kept two → OfRuns k (AsksOn l n authority)
    → new ≡ paired l n one two k.routes k → Joins l k new
joins k new l n s old one kept two authority is is_gate asks_one asks_two may_ask new_is waiting resting g x points stands shows told =
    let on = may_ask waiting resting g x points stands shows in
    subst (λ (m : Relays). (goes : GoesOn (also l waiting) resting all g x m told told)
    × ((goes.reached.plain l).stage ≡ due → goes.reached ≡ x)) (sym new_is) (
      joined_goes g k l n s old one kept two authority waiting resting x points stands shows is is_gate asks_one asks_two on.waits
          on.asks.endpoint on.asks.aim on.room on.asks.first told,
      λ stage. absurd (joined_undue g k l n s old one kept two authority waiting resting x points stands shows is is_gate asks_one asks_two
          on.waits on.asks.endpoint on.asks.aim on.room on.asks.first stage),
    )

-- nothing is done where it wants none, or none has room
pub joins_none : (k : Relays) (l : ℕ) → MayAsk l k None → Joins l k k
joins_none k l none waiting resting g x points stands shows told = (
  goes_nowhere (also l waiting) resting all g x k told
      (shows_as waiting (also l waiting) resting resting all g k (outward x) shows (λ j rests. shows.streams j rests)
      (λ j waits stage. ⊎_elim
      (λ at. subst (λ (i : ℕ). IfThrough (key_of (x.plain i).aim) (NoneOffersAmong x.gates)) (sym at)
      (none waiting resting g x points stands shows (ap (λ (i : ℕ). (x.plain i).stage) (sym at) ∙ stage)))
      (λ apart. shows.wanting j (ap (λ (b : Bool). b || waiting j) (sym (ne_eqb j l apart)) ∙ waits) stage) (cases_eq j l))),
  λ stage. refl,
)

-- WHICH IS ASKED FOR
module _ (k : Relays) (l : ℕ) where
  pub asks_away : get k.relays l ≡ None → MayAsk l k None
  asks_away none waiting resting g x points stands shows is =
      absurd (away_undue (x.plain l) (subst (λ (o : Option Relay). ShowsRelay l o (x.plain l)) none (shows.relays l)) is)

  module _ (w : Relay) (found : get k.relays l ≡ Some w) where
    shown_here : (x : Machine) → ((j : ℕ) → ShowsRelay j (get k.relays j) (x.plain j)) → Shows w (x.plain l)
    shown_here x shows = (subst (λ (o : Option Relay). ShowsRelay l o (x.plain l)) found (shows l)).1

    pub asks_unwanted : streamed.WantsStream w None → MayAsk l k None
    asks_unwanted none waiting resting g x points stands shows is =
        subst (λ (o : Option Key). IfThrough o (NoneOffersAmong x.gates)) (sym (none (x.plain l) (shown_here x shows.relays) is)) tt

    module _ (key : Key) (authority : Target) (wants : streamed.WantsStream w (Some (key, authority))) where
      pub asks_full : FirstOffers k.gates key None → MayAsk l k None
      asks_full none waiting resting g x points stands shows is =
          let aim = (wants (x.plain l) (shown_here x shows.relays)).1 in
          subst (λ (a : Aim). IfThrough (key_of a) (NoneOffersAmong x.gates)) (sym aim.1)
          (none x.gates (all_shown waiting resting all g k x points stands shows))

      pub asks_found : (n : ℕ) → FirstOffers k.gates key (Some n) → MayAsk l k (Some (n, authority))
      asks_found n first = (
        ap is_some found,
        first.0,
        λ waiting resting g x points stands shows. (
            let want = wants (x.plain l) (shown_here x shows.relays) in
            let is_first = first.1 x.gates (all_shown waiting resting all g k x points stands shows) in
            record {
              waits = want.0;
              asks = record {
                endpoint = want.1.0;
                aim = want.1.1 ∙ ap (λ (a : Key). through a authority want.1.0) (sym is_first.keyed);
                first = λ j low keyed. is_first.below j low (keyed ∙ is_first.keyed);
              };
              room = is_first.room;
            }
            ),
      )

-- it waits for one
pub wants_away : (k : Relays) (l : ℕ) → get k.relays l ≡ None → IsWanting l k false
wants_away k l gone waiting resting g x points stands shows stage =
    absurd (away_undue (x.plain l) (subst (λ (o : Option Relay). ShowsRelay l o (x.plain l)) gone (shows.relays l)) stage)

pub wants_some : (k : Relays) (l : ℕ) (w : Relay) → get k.relays l ≡ Some w → (o : Option (Key × Target)) → streamed.WantsStream w o
    → IsWanting l k (is_some o)
wants_some k l w found None wants waiting resting g x points stands shows = λ stage.
    wants (x.plain l) (shown_here k l w found x shows.relays) stage
wants_some k l w found (Some at) wants waiting resting g x points stands shows =
    let want = wants (x.plain l) (shown_here k l w found x shows.relays) in
    record { waits = want.0; keyed = ap is_some (ap key_of want.1.1) }

-- as the code says it
pub wants_code : (k : Relays) (l : ℕ) (w : Relay) → get k.relays l ≡ Some w → (o : Option (Code × Target)) (is : Bool)
    → streamed.WantsStream w (wanted_as o) → is ≡ is_some o → IsWanting l k is
wants_code k l w found None is wants same = subst (IsWanting l k) (sym same) (wants_some k l w found None wants)
wants_code k l w found (Some at) is wants same =
    subst (IsWanting l k) (sym same) (wants_some k l w found (Some (key_as at.0, at.1)) wants)

pub room_of : (o : Option Gate) (kept : Gate) → o ≡ Some kept → HasRoom o → offers_on kept ≡ true
room_of o kept is room = subst HasRoom is room
