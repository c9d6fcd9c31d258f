-- A link is accepted, and the dial of a destination is answered.
use Rattle.std.proofs.Common.{◌≡◌, ◌≢◌, ⊎_elim, ℕ, ◌+◌, ◌<◌, ◌^◌, Bool, true, false, cond, List, [], Option, Some, None, is_some, refl, ap, sym, ◌∙◌, subst, arith}
use Rattle.std.proofs.lemmas.Bool.{eq-eqb, false≢true}
use Rattle.std.specs.FinMap.{get, insert, empty}
use Rattle.hb_base.specs.declared.cause.Cause.TheVariants as cause
use Rattle.hb_base.specs.declared.door.Door.{Door}
use Rattle.hb_base.specs.declared.door.Why.{Why}
use Rattle.hb_base.specs.declared.note.Note.{Note}
use Rattle.hb_base.specs.declared.target.Target.{Target}
use Rattle.hb_captured.specs.Answer.{Routing}
use Rattle.hb_captured.specs.Captured as m
use Rattle.hb_captured.specs.Captured.{Captured, Stage, no_link, is_raw}
use Rattle.hb_captured.specs.Part.{Part, entry, up, welcomed, crowded, note_if}
use Rattle.hb_captured.specs.Runs.{Local, MayGo, next, next_link}
use Rattle.hb_gate.specs.declared.gate.Gate.{Gate}
use Rattle.hb_gateway.specs.Gateway as gateway
use Rattle.hb_link.proofs.Noted.{takes_none}
use Rattle.hb_link.specs.Noted.{Told, Takes}
use Rattle.hb_map.proofs.Laws.{put_here, put_elsewhere}
use Rattle.hb_model.specs.declared.config.NodeConfig.{NodeConfig}
use Rattle.hb_proxy.proofs.Owned.{all_owned, whose_in}
use Rattle.hb_proxy.proofs.Plain.{plain_runs}
use Rattle.hb_proxy.proofs.PlainStays.{RelayBy, relay_weakly}
use Rattle.hb_proxy.specs.Held.{at_start}
use Rattle.hb_proxy.proofs.Counted.{born_within, born_beyond, on_grows}
use Rattle.hb_proxy.specs.Load.{most_tunnels, one_if, is_placed, tunnels_on, tunnels_at, PlacesFull, PlacesBurst}
use Rattle.hb_proxy.specs.Machine.{Machine, fresh, outward, plain_local, with_plain}
use Rattle.hb_proxy.specs.Owners.{nobody, relay_of}
use Rattle.hb_proxy.specs.Points.{Point, of_plain, plain_of}
use Rattle.hb_proxy.specs.Runs.{PlainGuard, Steps, StandsFor, routing_of}
use Rattle.hb_proxy.specs.Ups.{IsRelayOf}
use Rattle.hb_relay.specs.Answering.{routing_of as code_routing}
use Rattle.hb_relay.specs.Calls as calls
use Rattle.hb_relay.specs.Reaches.{rerouted}
use Rattle.hb_relay.specs.Shows.{Shows}
use Rattle.hb_relay.specs.declared.relay.Relay.{Relay}
use Rattle.hb_relay.specs.declared.routes.Routes.{Routes}
use Rattle.hb_world.specs.declared.entry.Entry.TheVariants as e
use Rattle.hb_relays.specs.Calls.{Begins, IsBorn, TurnsAway, Dials, DialFails}
use Rattle.hb_relays.specs.Joining.{all, every}
use Rattle.hb_relays.specs.Shows.{ShowsGate, ShowsRelay, ShowsRelays}
use Rattle.hb_relays.specs.Walks.{changed, relays_with, routes_with, touched_at}
use Rattle.hb_relays.specs.declared.relays.Relays.{Relays}
use Rattle.hb_relays.proofs.Entering.{up_meets}
use Rattle.hb_relays.proofs.Lifted.{counts, here, there}
use Rattle.hb_relays.proofs.Progress.{is_all}
use Rattle.hb_relays.proofs.Showing.{apart_from, behind, born_index, but_all, counted_so, counts_by, lifts, lifts_with, raw_rests, same_ups, shown_then, there_by, ups_same}
use Rattle.hb_relays.proofs.Staying.{unborn_is}

-- BIRTHS

-- before its birth a link is as it was made
new_link : (g : NodeConfig) (x y : Machine) (points : List Point) (d : Door) (n : ℕ) → StandsFor g x points
    → Steps g x (of_plain n (entry (e.Accepted n d))) y → x.plain n ≡ no_link
new_link g x y points d n stands steps =
    unborn_is n (at_start g) (plain_local x n) (plain_of n points) (plain_runs g x points n stands) steps.0.1

-- so it is a connection to no endpoint, nor is it one behind its birth
uncounted : (k : Relays) (x : Machine) (d : Door) (n : ℕ) → x.plain n ≡ no_link
    → counts_by k x n (entry (e.Accepted n d)) ≡ code_routing k.routes
uncounted k x d n none =
    ap (λ (c : Captured). rerouted c (next_link c (entry (e.Accepted n d))) (code_routing k.routes)) none

-- the tunnels of each link are as many as before, and of the one that is born there is one more
module _ (g : NodeConfig) (x : Machine) (d : Door) (n : ℕ) (none : x.plain n ≡ no_link) where
  abbrev born : Machine
  born = with_plain n (entry (e.Accepted n d)) (next_link (x.plain n) (entry (e.Accepted n d))) x

  each_same : (b k : ℕ) → k ≢ n → tunnels_at born b k ≡ tunnels_at x b k
  each_same b k apart =
      ap (λ (c : Captured). tunnels_on (x.inbound k) b + one_if (is_placed c.stage))
      (there x n (entry (e.Accepted n d)) (next_link (x.plain n) (entry (e.Accepted n d))) k apart)

  here_now : (b : ℕ) → tunnels_at born b n ≡ tunnels_on (x.inbound n) b + 1
  here_now b =
      ap (λ (t : Bool). tunnels_on (x.inbound n) b
      + one_if (is_placed (cond t (next_link (x.plain n) (entry (e.Accepted n d))) (x.plain n)).stage)) (eq-eqb n n refl)

  here_before : (b : ℕ) → tunnels_at x b n ≡ tunnels_on (x.inbound n) b + 0
  here_before b = ap (λ (c : Captured). tunnels_on (x.inbound n) b + one_if (is_placed c.stage)) none

  births : (full : Bool) → PlacesFull full g x → PlacesBurst full g born
  births false few =
      born_within (most_tunnels g) (tunnels_at x) (tunnels_at born) n
      (λ b k apart. (let same = each_same b k apart in omega (arith, same)))
      (λ b. (let now = here_now b in let before = here_before b in omega (arith, now, before))) few
  births true many =
      born_beyond (most_tunnels g) (tunnels_at x) (tunnels_at born) n
      (λ b k apart. (let same = each_same b k apart in omega (arith, same)))
      (λ b. (let now = here_now b in let before = here_before b in omega (arith, now, before)))
      (λ b c k less. (let grows = on_grows (x.inbound k) b c less in omega (arith, grows))) many

module _ (p : Part) (full : Bool) (d : Door) (n : ℕ) where
  abbrev came : Part
  came = entry (e.Accepted n d)

  -- what is made of a link behind its birth: no connection to an endpoint, and none that waits
  record IsMade : Type 0 where
    guards : (g : NodeConfig) (y : Machine) → PlacesBurst full g y → PlainGuard g y n p
    may : (b : Local) → b.link.stage ≡ m.arriving → MayGo n b p
    uncounts : (a : Local) (by : Routing) → rerouted (next a came).link (next (next a came) p).link by ≡ by
    undue : (a : Local) → (next (next a came) p).link.stage ≢ m.due
    up : (a : Local) → (next (next a came) p).link.up ≡ a.link.up
    closed : (a : Local) → (next (next a came) p).link.closed ≡ a.link.closed
    gate : (a : Local) → (next (next a came) p).link.gate ≡ a.link.gate

  is_born : IsMade → (k : Relays) (new : Relay) → n < 2 ^ 64
      → ((a : Local) → a.link ≡ no_link → Shows new (next (next a came) p).link) → new.number ≡ n
      → IsBorn p full d n k (touched_at n (changed n new k))
  is_born made k new narrow shown number g x y points stands shows places steps =
      let none = new_link g x y points d n stands steps in
      let a = plain_local x n in
      let c = next (next a came) p in
      let guard = made.guards g y (subst (PlacesBurst full g) (sym steps.2) (births g x d n none full places)) in
      let at : plain_local y n ≡ next a came = behind g k n came new k.ups k.routes (Some []) (Some []) None x y shows steps in
      let z = with_plain n p (next_link (y.plain n) p) y in
      let link_is : z.plain n ≡ c.link =
      ap (λ (b : Local). b.link) (here g y n p guard) ∙ ap (λ (b : Local). (next b p).link) at in
      let counted : code_routing k.routes ≡ routing_of g z =
      sym (counts g y n p guard ∙ ap (λ (b : Local). rerouted b.link (next b p).link (routing_of g y)) at
      ∙ made.uncounts a (routing_of g y) ∙ counted_so g k n came new k.ups k.routes (Some []) (Some []) None x y shows steps
      ∙ uncounted k x d n none) in
      let is = shown a none in
      let others = λ (j : ℕ) (apart : j ≢ n).
      there y n p (next_link (y.plain n) p) j apart
      ∙ apart_from g k n came new k.ups k.routes (Some []) (Some []) None x y shows steps j apart in (
        z,
        (made.may (plain_local y n) (ap (λ (b : Local). b.link.stage) at), guard, refl),
        is_all all every all g (touched_at n (changed n new k)) (outward z) (λ l. refl) (λ l w. refl) (λ m. refl)
            (shown_then g k n (insert k.relays n new) k.ups k.routes (outward x) (outward z) (but_all g n k (outward x) shows)
            (put_elsewhere k.relays n new) others (ap (λ (w : Machine). w.gates) steps.2) counted all every narrow
            (subst (λ (o : Option Relay). ShowsRelay n o (z.plain n)) (sym (put_here k.relays n new))
            (subst (λ (w : Captured). ShowsRelay n (Some new) w) (sym link_is)
            (number, is, there_by new c.link is (made.closed a ∙ ap (λ (w : Captured). w.closed) none))))
            (same_ups k.ups x.plain z.plain
            (ups_same x.plain z.plain n others (ap (λ (w : Captured). w.up) link_is ∙ made.up a)) shows.index)
            (λ waits stage. absurd (made.undue a (ap (λ (w : Captured). w.stage) (sym link_is) ∙ stage)))
            (λ waits. raw_rests z.gates (z.plain n)
            (ap (λ (w : Captured). w.gate) link_is ∙ made.gate a ∙ ap (λ (w : Captured). w.gate) none))),
      )

-- it is taken in
pub begins : (k : Relays) (d : Door) (n : ℕ) (new : Relay) → n < 2 ^ 64 → calls.Begins d n new → new.number ≡ n
    → Begins d n k (touched_at n (changed n new k))
begins k d n new narrow starts number =
    is_born welcomed false d n (record {
      guards = λ g y few. few;
      may = λ b arrives. arrives;
      uncounts = λ a by. refl;
      undue = λ a is. (let no : m.fronting ≡ m.due = is in cc no);
      up = λ a. refl;
      closed = λ a. refl;
      gate = λ a. refl;
    }) k new narrow starts number

-- it is turned away
pub turns : (k : Relays) (d : Door) (n : ℕ) (new : Relay) → n < 2 ^ 64 → calls.TurnsAway d n new → new.number ≡ n
    → TurnsAway d n k (touched_at n (changed n new k))
turns k d n new narrow away number =
    is_born crowded true d n (record {
      guards = λ g y many. many;
      may = λ b arrives. arrives;
      uncounts = λ a by. refl;
      undue = λ a is. (let no : m.over cause.NoRoom ≡ m.due = is in cc no);
      up = λ a. refl;
      closed = λ a. refl;
      gate = λ a. refl;
    }) k new narrow away number

-- none stand for no birth
pub none_shown : (g : NodeConfig) (k : Relays) → ((l : ℕ) → get k.relays l ≡ None) → ((u : ℕ) → get k.ups u ≡ None)
    → ((n : ℕ) → get k.gates n ≡ None) → code_routing k.routes ≡ record { opens = empty; hbone_port = g.hbone_port }
    → ShowsRelays g k (outward (fresh g))
none_shown g k relays ups gates counted = record {
  relays = λ l. subst (λ (o : Option Relay). ShowsRelay l o no_link) (sym (relays l)) refl;
  index = record {
    found = λ l u is. absurd (let some = is.0 in let none = is.1 in omega (arith, some, none));
    joined = λ l u found. absurd (let both : None ≡ Some l = sym (ups u) ∙ found in cc both);
  };
  numbered = λ l some. absurd (false≢true (sym (ap is_some (relays l)) ∙ some));
  idle = λ l none. tt;
  counted = counted;
  gates = λ n. subst (λ (o : Option Gate). ShowsGate n o gateway.no_link) (sym (gates n)) tt;
  gate_numbered = λ n some. absurd (false≢true (sym (ap is_some (gates n)) ∙ some));
  gate_idle = λ n none. refl;
  calm = record {
    gates = λ n. (λ s. refl, tt);
    streams = λ l. raw_rests (λ n. gateway.no_link) no_link refl;
  };
  wanting = λ l stage. absurd (let no : m.unborn ≡ m.due = stage in cc no);
}

-- DIALS

-- whose the upstream of a link is, so a new number is none
pub owner_is : (g : NodeConfig) (x : Machine) (points : List Point) → StandsFor g x points → (l u : ℕ) → IsRelayOf (x.plain l) u
    → whose_in points u ≡ relay_of l
owner_is g x points stands l u joins =
    let some = joins.0 in
    let is = joins.1 in
    ⊎_elim (λ none. absurd (omega (arith, none, some, is))) (λ own. ap (whose_in points) (sym is) ∙ own)
    (relay_weakly (whose_in points) l (x.plain l).up (is_raw (x.plain l)) (x.plain l).stage ((all_owned g x points stands).relay l))

is_new : (g : NodeConfig) (x : Machine) (points : List Point) → StandsFor g x points → (u : ℕ) → u ≡ x.born + 1 → (l : ℕ)
    → (x.plain l).up ≢ u
is_new g x points stands u number l is =
    let some : 0 < u = omega (arith, number) in
    let none : whose_in points u ≡ nobody = (all_owned g x points stands).unborn u (omega (arith, number)) in
    let both : nobody ≡ relay_of l = sym none ∙ owner_is g x points stands l u (some, is) in
    cc

-- one whose dial is due has none
no_up : (g : NodeConfig) (x : Machine) (points : List Point) → StandsFor g x points → (l : ℕ) → (x.plain l).stage ≡ m.due
    → (x.plain l).up ≡ 0
no_up g x points stands l due =
    (subst (λ (s : Stage). RelayBy s (is_raw (x.plain l)) (whose_in points) l (x.plain l).up) due
    ((all_owned g x points stands).relay l)).1

pub dials : (k : Relays) (l u : ℕ) (old new : Relay) → get k.relays l ≡ Some old
    → ((to : Target) (why : Why) → calls.UpEntersStill (e.Dialled u to why) old new None)
    → Dials l u k (touched_at l (relays_with (insert k.relays l new) (insert k.ups u l) k))
dials k l u old new is enters to why =
    up_meets calls.any k (touched_at l (relays_with (insert k.relays l new) (insert k.ups u l) k)) l old (e.Dialled u to why) (Some [])
    (Some []) is
    (lifts_with calls.any k l old new (insert k.ups u l) k.routes (Some []) (Some []) None (λ i. up (e.Dialled u to why)) is
    (λ g x y points stands shows steps z others now.
    born_index x.plain z l others k.ups shows.index u steps.0.2 (no_up g x points stands l steps.0.0.1) now
    (is_new g x points stands u steps.1.0.birth))
    (λ x. refl) (enters to why (code_routing k.routes)) (takes_none (Some [])))

pub fails : (k : Relays) (l : ℕ) (old new : Relay) (routes : Routes) (told now : Told) (made : Option Note) → get k.relays l ≡ Some old
    → ((to : Target) (why : Why) → calls.UpEnters (e.DialFailed to why) old (code_routing k.routes) new (code_routing routes) made)
    → Takes told (note_if made) now → DialFails l k told (touched_at l (routes_with routes (changed l new k))) now
fails k l old new routes told now made is enters takes to why =
    up_meets calls.any k (touched_at l (routes_with routes (changed l new k))) l old (e.DialFailed to why) told now is
    (lifts calls.any k l old new routes told now made (λ i. up (e.DialFailed to why)) is (λ x. record { up = refl; closed = refl })
    (enters to why) takes)
