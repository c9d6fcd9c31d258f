-- A link and its stream change at once: what the machine is then.
use Rattle.std.proofs.Common.{◌≡◌, ◌≢◌, ⊎_elim, ℕ, Bool, false, cond, List, [], ◌∷◌, ◌++◌, Option, Some, None, is_some, refl, ap, ap₂, sym, ◌∙◌, subst}
use Rattle.std.proofs.lemmas.Bool.{cases_eq, eq-eqb, ne_eqb, false≢true}
use Rattle.std.specs.FinMap.{get, insert}
use Rattle.hb_base.specs.declared.note.Note.{Note}
use Rattle.hb_captured.specs.Answer.{Routing}
use Rattle.hb_captured.specs.Captured.{Captured, Stage, is_raw, counts_for}
use Rattle.hb_captured.specs.Counts.{recounted}
use Rattle.hb_captured.specs.Part as part
use Rattle.hb_captured.specs.Part.{Part}
use Rattle.hb_captured.specs.Runs as captured
use Rattle.hb_captured.specs.Runs.{Local, Lacks, MayGo, Lives, left_note, next, next_link}
use Rattle.hb_conn.specs.Connection.{Connection}
use Rattle.hb_conn.specs.Observed.{IsLookedAt}
use Rattle.hb_gate.specs.Calls as gate
use Rattle.hb_gate.specs.Shows as shown
use Rattle.hb_gate.specs.declared.gate.Gate.{Gate}
use Rattle.hb_gateway.specs.Calm.{IsCalm, IsCalmBy}
use Rattle.hb_gateway.specs.Gateway as gateway
use Rattle.hb_gateway.specs.Gateway.{Gateway, Phase}
use Rattle.hb_gateway.specs.Runs as gateways
use Rattle.hb_map.proofs.Laws.{written_where_some}
use Rattle.hb_map.specs.Keyed.{written}
use Rattle.hb_model.specs.declared.config.NodeConfig.{NodeConfig}
use Rattle.hb_proxy.proofs.Gates.{gates_run}
use Rattle.hb_proxy.proofs.Plain.{plain_runs}
use Rattle.hb_proxy.proofs.Streams.{runs_agree}
use Rattle.hb_proxy.specs.Held.{at_start}
use Rattle.hb_proxy.specs.Machine.{Machine, plain_local, with_stream}
use Rattle.hb_proxy.specs.Points.{Point, of_stream, plain_of, gates_of}
use Rattle.hb_proxy.specs.Runs.{StandsFor, StreamGuard, RestsAmong, StreamRestsBy, IsStreamOf, routing_of}
use Rattle.hb_proxy.specs.Shared.{Shared, captured_part, gateway_part as stream_part}
use Rattle.hb_route.specs.Opens.{Counts}
use Rattle.hb_relay.specs.Calls.{any as anything}
use Rattle.hb_relay.specs.Reaches as relay
use Rattle.hb_relay.specs.Reaches.{IsInner, Leads, rerouted}
use Rattle.hb_relay.specs.Shows.{Shows}
use Rattle.hb_relay.specs.declared.relay.Relay.{Relay}
use Rattle.hb_relay.specs.declared.routes.Routes.{Routes}
use Rattle.hb_relays.specs.Joining.{Gates}
use Rattle.hb_relays.specs.Pumping.{OnStream, Moves}
use Rattle.hb_relays.specs.Touched.{touched}
use Rattle.hb_relays.specs.Walks.{Map, touched_at, gate_touched_at}
use Rattle.hb_relays.specs.declared.relays.Relays.{Relays}
use Rattle.hb_relays.proofs.Carrying.{Carried, live_carries}
use Rattle.hb_relays.proofs.Resting.{Keeps, rests_still}

-- THE MACHINE with this link and this link to a gateway in the place of the old ones
module _ (l n : ℕ) (link : Captured) (kept : Gateway) (x : Machine) where
  abbrev pub then : Machine
  then = with_stream l n link kept x

  pub link_here : then.plain l ≡ link
  link_here = ap (λ (b : Bool). cond b link (x.plain l)) (eq-eqb l l refl)

  pub link_other : (k : ℕ) → k ≢ l → then.plain k ≡ x.plain k
  link_other k apart = ap (λ (b : Bool). cond b link (x.plain k)) (ne_eqb k l apart)

  pub gate_here : then.gates n ≡ kept
  gate_here = ap (λ (b : Bool). cond b kept (x.gates n)) (eq-eqb n n refl)

  pub gate_other : (m : ℕ) → m ≢ n → then.gates m ≡ x.gates m
  gate_other m apart = ap (λ (b : Bool). cond b kept (x.gates m)) (ne_eqb m n apart)

  -- each other link rests on, where nothing of its stream changes
  pub others_rest : ((k : ℕ) → k ≢ l → is_raw (x.plain k) ≡ false → (x.plain k).gate ≡ n
      → Keeps (x.gates n).conn kept.conn (x.plain k).stream) → (k : ℕ) → k ≢ l → RestsAmong x.gates (x.plain k)
      → RestsAmong then.gates (then.plain k)
  others_rest keeps k apart rests =
      subst (λ (w : Captured). RestsAmong then.gates w) (sym (link_other k apart)) (λ on. ⊎_elim
      (λ at. subst (λ (m : ℕ). StreamRestsBy (x.plain k).stage (x.plain k) (then.gates m)) (sym at)
      (subst (StreamRestsBy (x.plain k).stage (x.plain k)) (sym gate_here)
      (rests_still (x.plain k).stage (x.plain k) (x.gates n) kept (keeps k apart on at)
      (subst (λ (m : ℕ). StreamRestsBy (x.plain k).stage (x.plain k) (x.gates m)) at (rests on)))))
      (λ away. subst (StreamRestsBy (x.plain k).stage (x.plain k)) (sym (gate_other (x.plain k).gate away)) (rests on))
      (cases_eq (x.plain k).gate n))

-- a connection that goes on while nothing that came is looked at
pub calm_on : (y : Gateway) (d : Connection) → (IsLookedAt y.conn → IsLookedAt d) → IsCalm y → IsCalm (record y { conn = d })
calm_on y d looked calm = (calm.0, by y.phase calm.1)
  where
    by : (phase : Phase) → IsCalmBy phase y → IsCalmBy phase (record y { conn = d })
    by gateway.opening is = is
    by gateway.serving is = (is.0, looked is.1)
    by phase is = tt

-- the counts stay where the link counts as it did
pub uncounted : (o : Option (List ℕ)) (opens : Counts) → recounted o o opens ≡ opens
uncounted None opens = refl
uncounted (Some name) opens = refl

-- NOTHING FOLLOWS BY ITSELF where a link lives on a stream

none_follows : (l : ℕ) (a : Local) (p : Part) → Lives a.link → IsInner p → MayGo l a p → ⊥
none_follows l a part.welcomed lives inner may = let no = sym lives.1 ∙ may in cc
none_follows l a part.lacked lives inner may = subst (λ (s : Stage). Lacks s a.link) lives.1 may
none_follows l a (part.misfronted fault) lives inner may = let no = sym lives.1 ∙ may.0 in cc
none_follows l a (part.fronted seen routing aim) lives inner may = let no = sym lives.1 ∙ may.0.0 in cc
none_follows l a (part.refused seen routing why status note) lives inner may = let no = sym lives.1 ∙ may.0.0 in cc
none_follows l a (part.accepted note) lives inner may = let no = sym lives.1 ∙ may.0 in cc
none_follows l a (part.left made) lives inner may = subst (λ (s : Stage). left_note l a.link s made) lives.1 may.0
none_follows l a (part.done note) lives inner may = false≢true (sym lives.0 ∙ may.1)
none_follows l a p lives inner may = absurd inner

record Ends (a b : Local) (routing behind : Routing) : Type 0 where
  link : b ≡ a
  counted : behind ≡ routing

ends : (l : ℕ) (routing : Routing) (a : Local) (parts : List Part) (b : Local) (behind : Routing) → Lives a.link
    → Leads IsInner l routing a parts b behind → Ends a b routing behind
ends l routing a [] b behind lives leads = record { link = leads.0; counted = leads.1 }
ends l routing a (p ∷ parts) b behind lives leads = absurd (none_follows l a p lives leads.0 leads.2)

-- A LINK THAT LIVES ON A STREAM
module _ (l n s : ℕ) (P : Captured → Gateway → Type 0) (g : NodeConfig) (x : Machine) (points : List Point)
    (stands : StandsFor g x points) (old : Relay) (kept : Gate) (on : OnStream l n s P old kept (x.plain l) (x.gates n)) where
  pub stream_is : IsStreamOf x l n s
  stream_is = record { gate = on.on_gate; number = on.on_stream }

  -- what every run says of it
  pub carried : Carried x l
  carried =
      live_carries g x points stands l on.lives
      (ap₂ (λ (m i : ℕ). ((x.gates m).streams i).mail) on.on_gate on.on_stream ∙ on.told)

  whose : ((x.gates n).streams s).captured ≡ l
  whose = ap₂ (λ (m i : ℕ). ((x.gates m).streams i).captured) (sym on.on_gate) (sym on.on_stream) ∙ carried.whose

  -- no other link has the stream
  pub far : (k : ℕ) → k ≢ l → is_raw (x.plain k) ≡ false → (x.plain k).gate ≡ n → (x.plain k).stream ≢ s
  far k apart raw at stream =
      apart (sym ((runs_agree g x points stands).carried k raw).1 ∙ ap₂ (λ (m i : ℕ). ((x.gates m).streams i).captured) at stream ∙ whose)

  -- what the code of the link to a gateway says of each run
  pub of_gate : (Q : Gateway → Type 0) → gate.OnCarrying s kept Q → Q (x.gates n)
  of_gate Q each =
      each (x.gates n) (gates_of n points)
      (subst (λ (i : ℕ). gateways.StandsFor i (x.gates n) (gates_of n points)) (sym on.gate_number) (gates_run g x points n stands))
      on.gate_shows on.carries on.stage

  -- what the code of the link does
  pub shows_then : (p : Part) (one : Relay) → relay.Meets anything p old (routing_of g x) one (routing_of g x) None
      → MayGo l (plain_local x l) p → Lives (next (plain_local x l) p).link → Shows one (next (plain_local x l) p).link
  shows_then p one does may lives =
      let reaches = subst (λ (i : ℕ). relay.Reaches IsInner i (rerouted (x.plain l) (next (plain_local x l) p).link (routing_of g x))
      (next (plain_local x l) p) one (routing_of g x) None) on.number
      (does.reaches (at_start g) (plain_of l points) (plain_local x l)
      (subst (λ (i : ℕ). captured.StandsFor i (at_start g) (plain_local x l) (plain_of l points)) (sym on.number)
      (plain_runs g x points l stands)) on.shows tt
      (subst (λ (i : ℕ). MayGo i (plain_local x l) p) (sym on.number) may)) in
      subst (λ (a : Local). Shows one a.link)
      (ends l (rerouted (x.plain l) (next (plain_local x l) p).link (routing_of g x)) (next (plain_local x l) p) reaches.parts
      reaches.reached (routing_of g x) lives reaches.leads).link reaches.shows

  -- nothing is done
  pub stays : (Q : Captured → Gateway → Type 0) (two : Gate) → two.number ≡ kept.number → shown.Shows two (x.gates n)
      → Q (x.plain l) (x.gates n) → Moves l n s Q g x old two
  stays Q two number shows here = record {
    more = [];
    reached = x;
    leads = refl;
    shows = record {
      number = on.number;
      gate_number = number ∙ on.gate_number;
      shows = on.shows;
      gate_shows = shows;
      lives = on.lives;
      on_gate = on.on_gate;
      on_stream = on.on_stream;
      carries = on.carries;
      stage = on.stage;
      told = on.told;
      here = here;
    };
    beside = record {
      plain = λ k apart. refl;
      gates = λ m apart. refl;
      rests = λ k apart rests. rests;
      calm = λ calm. calm;
      phase = refl;
      up = refl;
      closed = refl;
    };
    opens = refl;
    noted = refl;
  }

  -- the two go on together, by what makes no note, to this link and this connection
  module _ (w : Shared) (d : Connection) (may : MayGo l (plain_local x l) (captured_part n s w))
      (steps : gateways.Steps n (x.gates n) (stream_part l s w) (record (x.gates n) { conn = d })) (guard : StreamGuard x l n s w)
      (looked : IsLookedAt (x.gates n).conn → IsLookedAt d)
      (keeps : (j : ℕ) → j ≢ s → Keeps (x.gates n).conn d j) (silent : part.note_in (captured_part n s w) ≡ []) where
    abbrev link : Captured
    link = next_link (x.plain l) (captured_part n s w)

    abbrev behind : Gateway
    behind = record (x.gates n) { conn = d }

    abbrev y : Machine
    y = with_stream l n link behind x

    pub goes : (Q : Captured → Gateway → Type 0) (one : Relay) (two : Gate) → OnStream l n s Q one two link behind
        → counts_for link ≡ counts_for (x.plain l) → link.up ≡ (x.plain l).up → link.closed ≡ (x.plain l).closed
        → Moves l n s Q g x one two
    goes Q one two pair counts up closed = record {
      more = of_stream l n s w ∷ [];
      reached = y;
      leads = (tt, y, (may, behind, steps, guard, refl), refl);
      shows = subst (λ (c : Captured). OnStream l n s Q one two c (y.gates n)) (sym (link_here l n link behind x))
          (subst (OnStream l n s Q one two link) (sym (gate_here l n link behind x)) pair);
      beside = record {
        plain = link_other l n link behind x;
        gates = gate_other l n link behind x;
        rests = others_rest l n link behind x (λ k apart raw at. keeps (x.plain k).stream (far k apart raw at));
        calm = λ calm. subst IsCalm (sym (gate_here l n link behind x)) (calm_on (x.gates n) d looked calm);
        phase = ap (λ (z : Gateway). z.phase) (gate_here l n link behind x);
        up = ap (λ (c : Captured). c.up) (link_here l n link behind x) ∙ up;
        closed = ap (λ (c : Captured). c.closed) (link_here l n link behind x) ∙ closed;
      };
      opens = ap (λ (o : Option (List ℕ)). recounted (counts_for (x.plain l)) o x.opens) counts
          ∙ uncounted (counts_for (x.plain l)) x.opens;
      noted = ap (λ (ns : List Note). ns ++ []) silent;
    }

-- WITH BOTH in the place of the old ones, and these counts; they are touched
abbrev pub paired : (l n : ℕ) → Relay → Gate → Routes → Relays → Relays
paired l n one two routes k = record k {
  relays = insert k.relays l one;
  gates = insert k.gates n two;
  routes = routes;
  due = touched l k.due;
  stirs = touched l k.stirs;
  gate_due = touched n k.gate_due;
  gate_stirs = touched n k.gate_stirs;
}

-- so the code makes it, one after another
pub paired_with : (k mid new : Relays) (relays : Map) (gates : Gates) (l n : ℕ) (old one : Relay) (kept two : Gate) (routes : Routes)
    → get k.relays l ≡ Some old → get k.gates n ≡ Some kept → relays ≡ written k.relays l one → gates ≡ written k.gates n two
    → mid ≡ touched_at l (record k { relays = relays; gates = gates; routes = routes }) → new ≡ gate_touched_at n mid
    → new ≡ paired l n one two routes k
paired_with k mid new relays gates l n old one kept two routes is is_gate relays_is gates_is mid_is new_is =
    new_is ∙ ap (gate_touched_at n) mid_is
    ∙ ap₂ (λ (all : Map) (each : Gates).
    gate_touched_at n (touched_at l (record k { relays = all; gates = each; routes = routes })))
    (relays_is ∙ written_where_some k.relays l one (ap is_some is)) (gates_is ∙ written_where_some k.gates n two (ap is_some is_gate))
