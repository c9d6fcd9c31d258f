-- The end of the run is told to one plain link after another: each ends, and leaves its stream, whose tunnel has ended.
use Rattle.std.proofs.Common.{◌≡◌, ◌≢◌, inr, ⊎_elim, ℕ, ◌<◌, Bool, true, false, List, [], ◌∷◌, ◌++◌, map, Option, Some, None, is_some, IsSome, refl, ap, sym, ◌∙◌, subst, arith}
use Rattle.std.proofs.lemmas.Bool.{cases_eq, cases_order, eqb-true, false≢true, lt-ltb, true≢false}
use Rattle.std.specs.FinMap.{empty, get, insert}
use Rattle.hb_base.specs.declared.cause.Cause.{Cause}
use Rattle.hb_base.specs.declared.note.Note.{Note}
use Rattle.hb_captured.specs.Answer.{Routing}
use Rattle.hb_captured.specs.Captured as m
use Rattle.hb_captured.specs.Captured.{Captured, Stage, at_stage, due, ends_by, ends_for, is_raw, left_behind}
use Rattle.hb_captured.specs.Part as part
use Rattle.hb_captured.specs.Part.{Part, note_if}
use Rattle.hb_captured.specs.Runs as captured
use Rattle.hb_captured.specs.Runs.{HasEnded, Local, counted, next}
use Rattle.hb_gate.proofs.Mailed.{mail_taken}
use Rattle.hb_gate.specs.Calls as gate
use Rattle.hb_gate.specs.Streams.{TakesMail}
use Rattle.hb_gate.specs.declared.gate.Gate.{Gate}
use Rattle.hb_gate.specs.declared.looking.Mail.{Mail}
use Rattle.hb_gateway.proofs.Ending.{end_tunnels}
use Rattle.hb_gateway.specs.Calm as gateway_calm
use Rattle.hb_gateway.specs.Calm.{AllTold, close_due}
use Rattle.hb_gateway.specs.Gateway as gateway
use Rattle.hb_gateway.specs.Gateway.{Gateway, Phase, carries, stage_of, stops_by}
use Rattle.hb_gateway.specs.Response.{Heard, fails, is_living}
use Rattle.hb_held.specs.Held.{Resources}
use Rattle.hb_link.proofs.Noted.{takes_none}
use Rattle.hb_link.specs.Noted.{Told, Takes}
use Rattle.hb_map.proofs.Laws.{put_here, put_elsewhere}
use Rattle.hb_map.specs.Keyed.{IsFirstFrom}
use Rattle.hb_model.specs.Machine.{Machine as Control}
use Rattle.hb_model.specs.Point as point
use Rattle.hb_model.specs.declared.config.NodeConfig.{NodeConfig}
use Rattle.hb_proxy.proofs.Gates.{gates_run}
use Rattle.hb_proxy.proofs.Plain.{plain_runs}
use Rattle.hb_proxy.proofs.Streams.{runs_agree}
use Rattle.hb_proxy.specs.Held.{at_start}
use Rattle.hb_proxy.specs.Machine.{Machine, plain_local}
use Rattle.hb_proxy.specs.Notes.{notes}
use Rattle.hb_proxy.specs.Points.{Point, of_control, of_plain, gates_of, plain_of}
use Rattle.hb_proxy.specs.Runs.{Steps, StandsFor, goes_on, routing_of}
use Rattle.hb_proxy.specs.Seen.{IsGateThere, IsPlainThereBy}
use Rattle.hb_proxy.specs.Shared.{tells}
use Rattle.hb_proxy.specs.Streams.{HasTunnel}
use Rattle.hb_relay.specs.Answering.{routing_of as code_routing}
use Rattle.hb_relay.specs.Calls.{StopsLeaving}
use Rattle.hb_relay.specs.Reaches as relay
use Rattle.hb_relay.specs.Reaches.{leaving}
use Rattle.hb_relay.specs.Streamed.{HasStream}
use Rattle.hb_relay.specs.declared.relay.Relay.{Relay}
use Rattle.hb_relay.specs.declared.routes.Routes.{Routes}
use Rattle.hb_route.specs.Opens.{Counts}
use Rattle.hb_relays.specs.Calls.{Stops}
use Rattle.hb_relays.specs.Joining.{Gates, IsBehind}
use Rattle.hb_relays.specs.Leaving.{ShowsEnding, StopsAt, StopsGates, StopsLinks, TakesAt, TakesOn, begun_in}
use Rattle.hb_relays.specs.Pumping.{is_before}
use Rattle.hb_relays.specs.Reaches.{Follows, Leads}
use Rattle.hb_relays.specs.Shows.{IsAway, IsGateAway, IsIdle, IsIndex, ShowsGate, ShowsRelay}
use Rattle.hb_relays.specs.Touched.{is_touched}
use Rattle.hb_relays.specs.Walks.{Index, changed, routes_with, touched_at}
use Rattle.hb_relays.specs.declared.relays.Relays.{Relays}
use Rattle.hb_relays.specs.declared.touched.Touched.{Touched}
use Rattle.hb_relays.proofs.Away.{away_is, away_undue, ended_away}
use Rattle.hb_relays.proofs.Breaking.{Left, Leaves, lefts, unleft}
use Rattle.hb_relays.proofs.EndingGates.{behind_this, gates_shown, not_before, still_behind}
use Rattle.hb_relays.proofs.Forsaking.{ending_raw, ending_undue, is_ending, leaving_ends, leaving_stays, live_there}
use Rattle.hb_relays.proofs.Lifted.{leads_keep, lifted, notes_of}
use Rattle.hb_relays.proofs.Offering.{before_first, between}
use Rattle.hb_relays.proofs.Progress.{leads_append, noted_then, stands_on}
use Rattle.hb_relays.proofs.PumpedLink.{away_carries}
use Rattle.hb_relays.proofs.Settling.{away_raw, each_shown, mail_stream, may_fail, none_mail, none_taken}
use Rattle.hb_relays.proofs.Showing.{opens_by, raw_rests, same_ups, there_by}
use Rattle.hb_relays.proofs.Staying.{Stays}
use Rattle.hb_relays.proofs.Stopping.{took_same}
use Rattle.hb_relays.proofs.Tells.{on_stream}
use Rattle.hb_relays.proofs.Touching.{touched_here, touched_still, untouched_before}

-- A LINK THAT IS THERE has ended then
stop_ending : (why : Cause) (stage : Stage) (closed : Bool) → IsPlainThereBy stage closed → is_ending (ends_by why stage) ≡ true
stop_ending why m.unborn closed there = absurd there
stop_ending why m.arriving closed there = refl
stop_ending why m.fronting closed there = refl
stop_ending why m.due closed there = refl
stop_ending why m.opening closed there = refl
stop_ending why m.accepting closed there = refl
stop_ending why m.live closed there = refl
stop_ending why (m.failed first) closed there = refl
stop_ending why (m.ended first) closed there = refl
stop_ending why (m.over first) closed there = refl

-- the first end counts
first_counts : (why : Cause) (stage : Stage) → HasEnded stage → ends_by why stage ≡ stage
first_counts why (m.failed first) ended = refl
first_counts why (m.ended first) ended = refl
first_counts why (m.over first) ended = refl
first_counts why m.unborn ended = absurd ended
first_counts why m.arriving ended = absurd ended
first_counts why m.fronting ended = absurd ended
first_counts why m.due ended = absurd ended
first_counts why m.opening ended = absurd ended
first_counts why m.accepting ended = absurd ended
first_counts why m.live ended = absurd ended

-- it leaves its stream where it hears that the tunnel there ended
hearing : (l n s m : ℕ) (why : Cause) → Leaves l n s m (tells (fails why) m)
hearing l n s m why = record {
  may = λ a may. (may.0, may_fail a.link.stage why a.link);
  next = λ x ended. ap (λ (stage : Stage). left_behind m (at_stage stage x)) (first_counts why x.stage ended);
  guard = λ x of. of;
  noted = refl;
}

-- ONE TO A GATEWAY carries no streams then, nothing more happens there, and it is there where it was
stopped_carries : (why : Cause) (phase : Phase) → carries (stops_by why phase) ≡ false
stopped_carries why gateway.unborn = refl
stopped_carries why gateway.opening = refl
stopped_carries why gateway.serving = refl
stopped_carries why (gateway.faulted code) = refl
stopped_carries why (gateway.closing first) = refl
stopped_carries why gateway.closed = refl

stopped_calm : (why : Cause) (phase : Phase) (y : Gateway) → gateway_calm.IsCalmBy (stops_by why phase) y
stopped_calm why gateway.unborn y = tt
stopped_calm why gateway.opening y = tt
stopped_calm why gateway.serving y = tt
stopped_calm why (gateway.faulted code) y = tt
stopped_calm why (gateway.closing first) y = tt
stopped_calm why gateway.closed y = tt

away_before : (why : Cause) (phase : Phase) → IsGateAway (stops_by why phase) → IsGateAway phase
away_before why gateway.unborn away = tt
away_before why gateway.closed away = tt
away_before why gateway.opening away = absurd away
away_before why gateway.serving away = absurd away
away_before why (gateway.faulted code) away = absurd away
away_before why (gateway.closing first) away = absurd away

-- A LINK THAT WAS TOLD, or isn't there: it is shown, has no stream, and waits for none
pub record IsDone (l : ℕ) (k : Relays) (x : Captured) : Type 0 where
  pub shown : ShowsRelay l (get k.relays l) x
  pub raw : is_raw x ≡ true
  pub undue : x.stage ≢ due
  pub idle : is_touched k.due l ≡ false → IsIdle x

done_still : (l : ℕ) (a b : Relays) (x : Captured) → get b.relays l ≡ get a.relays l
    → (is_touched a.due l ≡ true → is_touched b.due l ≡ true) → IsDone l a x → IsDone l b x
done_still l a b x same still done = record {
  shown = subst (λ (o : Option Relay). ShowsRelay l o x) (sym same) done.shown;
  raw = done.raw;
  undue = done.undue;
  idle = λ none. done.idle (untouched_before a.due b.due l still none);
}

-- one that isn't there is behind the end of the run as it was
gone_done : (why : Cause) (g : NodeConfig) (k b : Relays) (x y : Machine) (points : List Point) → StandsFor g x points
    → Steps g x (of_control (point.stopped why)) y → ShowsEnding g k x y → (l : ℕ) → get k.relays l ≡ None → get b.relays l ≡ None
    → IsDone l b (y.plain l)
gone_done why g k b x y points stands steps shows l was none = record {
  shown = subst (λ (o : Option Relay). ShowsRelay l o (y.plain l)) (sym none) away;
  raw = away_raw g y (points ++ of_control (point.stopped why) ∷ []) (goes_on stands (of_control (point.stopped why)) steps refl) l away;
  undue = away_undue (y.plain l).stage (y.plain l) away;
  idle = λ untouched. (away_is (y.plain l) away).idle;
}
  where
    away : IsAway (y.plain l)
    away =
        subst IsAway (sym (ap (λ (w : Machine). w.plain l) steps.3))
        (ended_away why (x.plain l) (subst (λ (o : Option Relay). ShowsRelay l o (x.plain l)) was (shows.relays l)))

-- ONE LINK IS TOLD: the code
record LinkEnds (n : ℕ) (a b : Relays) : Type 0 where
  ups : b.ups ≡ a.ups
  routes : b.routes ≡ a.routes
  gate_due : b.gate_due ≡ a.gate_due
  due : (j : ℕ) → is_touched a.due j ≡ true → is_touched b.due j ≡ true
  others : (j : ℕ) → j ≢ n → get b.relays j ≡ get a.relays j
  there : (j : ℕ) → IsSome (get b.relays j) → IsSome (get a.relays j)
  gate_there : (i : ℕ) → IsSome (get b.gates i) → IsSome (get a.gates i)

link_ends : (why : Cause) (n : ℕ) (a b : Relays) (told now : Told) → StopsAt why (get a.relays n) n a told b now → LinkEnds n a b
link_ends why n a b told now stops = by (get a.relays n) refl stops
  where
    by : (o : Option Relay) → get a.relays n ≡ o → StopsAt why o n a told b now → LinkEnds n a b
    by None none same = subst (LinkEnds n a) (sym same.0) (record {
      ups = refl;
      routes = refl;
      gate_due = refl;
      due = λ j was. was;
      others = λ j apart. refl;
      there = λ j some. some;
      gate_there = λ i some. some;
    })
    by (Some old) is (at, begun, gates, new, made, has, takes, leaves, b_is, noted) = subst (LinkEnds n a) (sym b_is) (record {
      ups = refl;
      routes = refl;
      gate_due = refl;
      due = λ j was. touched_still n a.due j was;
      others = λ j apart. put_elsewhere a.relays n new j apart;
      there = λ j some. ⊎_elim (λ same. ap (λ (i : ℕ). is_some (get a.relays i)) same ∙ ap is_some is)
          (λ apart. sym (ap is_some (put_elsewhere a.relays n new j apart)) ∙ some) (cases_eq j n);
      gate_there = λ i some. sym (took_same at begun a.gates gates takes i).some ∙ some;
    })

-- and the machine, which goes on to where the code shows that one too
record Goes (g : NodeConfig) (n : ℕ) (b : Relays) (z : Machine) (told now : Told) : Type 0 where
  more : List Point
  w : Machine
  leads : Leads g z more w
  here : IsDone n b (w.plain n)
  others : (j : ℕ) → j ≢ n → w.plain j ≡ z.plain j
  up : (w.plain n).up ≡ (z.plain n).up
  opens : w.opens ≡ z.opens
  gates : (i : ℕ) → ShowsGate i (get b.gates i) (w.gates i)
  phases : (i : ℕ) → (w.gates i).phase ≡ (z.gates i).phase
  noted : Takes told (notes more) now

-- of a link that is there
module _ (why : Cause) (g : NodeConfig) (k a b : Relays) (n : ℕ) (x y z : Machine) (points behind : List Point)
    (stands : StandsFor g x points) (steps : Steps g x (of_control (point.stopped why)) y) (shows : ShowsEnding g k x y)
    (stood : StandsFor g z behind) (control : z.control ≡ y.control) (link : get a.relays n ≡ get k.relays n) (same : z.plain n ≡ y.plain n)
    (gates : (i : ℕ) → ShowsGate i (get a.gates i) (z.gates i)) (phases : (i : ℕ) → (z.gates i).phase ≡ stops_by why (x.gates i).phase)
    (told now : Told) (old new : Relay) (begun : ℕ) (after : Gates) (made : Option Note) (is : get a.relays n ≡ Some old)
    (leaves : StopsLeaving begun why old new made) (b_is : b ≡ touched_at n (record (changed n new a) { gates = after }))
    (noted : Takes told (note_if made) now) where
  shown : ShowsRelay n (Some old) (x.plain n)
  shown = subst (λ (o : Option Relay). ShowsRelay n o (x.plain n)) (sym link ∙ is) (shows.relays n)

  here_is : z.plain n ≡ ends_for why (x.plain n)
  here_is = same ∙ ap (λ (w : Machine). w.plain n) steps.3

  held_is : z.control.held ≡ x.control.held
  held_is =
      ap (λ (c : Control). c.held) control ∙ ap (λ (w : Machine). w.control.held) steps.3 ∙ ap (λ (c : Control). c.held) steps.1.1

  local_is : next (plain_local x n) (part.stopped why) ≡ plain_local z n
  local_is =
      sym (ap (λ (c : Captured). record { held = z.control.held; link = c }) here_is
      ∙ ap (λ (h : Resources). record { held = h; link = ends_for why (x.plain n) }) held_is)

  gates_after : b.gates ≡ after
  gates_after = ap (λ (w : Relays). w.gates) b_is

  module _ (count : ℕ) (counts : counted count ≡ begun) where
    abbrev last : relay.Reaches (leaving count) n (routing_of g z) (plain_local z n) new (routing_of g z) made
    last =
        subst (λ (c : Local). relay.Reaches (leaving count) n (routing_of g z) c new (routing_of g z) made) local_is
        (subst (λ (i : ℕ). relay.Reaches (leaving count) i (routing_of g z) (next (plain_local x n) (part.stopped why)) new (routing_of g z)
        made) shown.0
        ((leaves count counts).reaches (at_start g) (plain_of n points) (plain_local x n) (routing_of g z)
        (subst (λ (i : ℕ). captured.StandsFor i (at_start g) (plain_local x n) (plain_of n points)) (sym shown.0)
        (plain_runs g x points n stands)) shown.1 tt tt))

    ends : is_ending last.reached.link.stage ≡ true
    ends =
        leaving_ends count n (routing_of g z) (plain_local z n) last.parts last.reached (routing_of g z) last.leads
        (ap (λ (c : Captured). is_ending c.stage) here_is ∙ stop_ending why (x.plain n).stage (x.plain n).closed shown.2)

    stays : Stays (z.plain n) last.reached.link
    stays = leaving_stays count n (routing_of g z) (plain_local z n) last.parts last.reached (routing_of g z) last.leads

    opens : last.reached.link.closed ≡ false
    opens =
        stays.closed ∙ ap (λ (c : Captured). c.closed) here_is ∙ opens_by (x.plain n).stage (x.plain n).closed shown.2

    raw : is_raw last.reached.link ≡ true
    raw = ending_raw last.reached.link.stage last.reached.link last.shows.calm ends

    done : IsDone n b last.reached.link
    done = record {
      shown = subst (λ (o : Option Relay). ShowsRelay n o last.reached.link)
          (sym (ap (λ (w : Relays). get w.relays n) b_is ∙ put_here a.relays n new))
          ((leaves count counts).number ∙ shown.0, last.shows, there_by new last.reached.link last.shows opens);
      raw = raw;
      undue = ending_undue last.reached.link.stage ends;
      idle = λ none. absurd (false≢true (sym none ∙ ap (λ (w : Relays). is_touched w.due n) b_is ∙ touched_here n a.due));
    }

    goes_so : (more : List Point) (w : Machine) → Leads g z more w → plain_local w n ≡ last.reached → routing_of g w ≡ routing_of g z
        → ((j : ℕ) → j ≢ n → w.plain j ≡ z.plain j) → notes more ≡ part.notes last.parts
        → ((i : ℕ) → ShowsGate i (get b.gates i) (w.gates i)) → ((i : ℕ) → (w.gates i).phase ≡ (z.gates i).phase)
        → Goes g n b z told now
    goes_so more w leads here counted_so others notes_are gates_are phases_are =
        let link_then : w.plain n ≡ last.reached.link = ap (λ (c : Local). c.link) here in
        record {
          more = more;
          w = w;
          leads = leads;
          here = subst (IsDone n b) (sym link_then) done;
          others = others;
          up = ap (λ (c : Captured). c.up) link_then ∙ stays.up;
          opens = ap (λ (r : Routing). r.opens) counted_so;
          gates = gates_are;
          phases = phases_are;
          noted = subst (λ (ns : List Note). Takes told ns now) (sym (notes_are ∙ last.noted)) noted;
        }

  -- one that has no stream
  raw_goes : HasStream old None → begun ≡ 0 → after ≡ a.gates → Goes g n b z told now
  raw_goes none begun_is after_is =
      let was : is_raw (z.plain n) ≡ true = ap is_raw here_is ∙ none (x.plain n) shown.1 in
      let it = last 0 (sym begun_is) in
      let then = lifted g n z it.parts it.reached (routing_of g z)
      (unleft 0 n (routing_of g z) (plain_local z n) it.parts it.reached (routing_of g z) was it.leads) in
      goes_so 0 (sym begun_is) (map (of_plain n) it.parts) then.y then.leads then.here then.counted then.others (notes_of n it.parts)
      (λ i. subst (λ (f : ℕ → Gateway). ShowsGate i (get b.gates i) (f i)) (sym then.gates)
      (subst (λ (all : Gates). ShowsGate i (get all i) (z.gates i)) (sym (gates_after ∙ after_is)) (gates i)))
      (λ i. ap (λ (f : ℕ → Gateway). (f i).phase) then.gates)

  -- one that has: the tunnel on it hears that it ended
  module _ (i s : ℕ) (has : HasStream old (Some (i, s))) where
    on : (is_raw (x.plain n) ≡ false) × ((x.plain n).gate ≡ i) × ((x.plain n).stream ≡ s)
    on = has (x.plain n) shown.1

    on_still : is_raw (z.plain n) ≡ false
    on_still = ap is_raw here_is ∙ on.0

    gate_still : (z.plain n).gate ≡ i
    gate_still = ap (λ (c : Captured). c.gate) here_is ∙ on.1

    stream_still : (z.plain n).stream ≡ s
    stream_still = ap (λ (c : Captured). c.stream) here_is ∙ on.2

    tunnel : HasTunnel ((z.gates i).streams s)
    tunnel =
        subst (λ (j : ℕ). HasTunnel ((z.gates j).streams s)) gate_still
        (subst (λ (t : ℕ). HasTunnel ((z.gates (z.plain n).gate).streams t)) stream_still
        ((runs_agree g z behind stood).carried n on_still).0)

    silent : is_living (stage_of (z.gates i) s) ≡ false
    silent =
        end_tunnels i (z.gates i) (gates_of i behind) (gates_run g z behind i stood)
        (λ carries_so. false≢true (sym (ap carries (phases i) ∙ stopped_carries why (x.gates i).phase) ∙ carries_so)) s

    mailed : ((z.gates i).streams s).mail ≢ None
    mailed = ⊎_elim (λ lives. absurd (false≢true (sym silent ∙ lives))) (λ some. some) tunnel

    carried : carries (x.gates i).phase ≡ true
    carried = (live_there g x points stands steps.2.gates n i s on.0 on.1 on.2).1

    -- its mail is taken
    module _ (kept one : Gate) (mail : Mail) (found : get a.gates i ≡ Some kept) (took : TakesMail s kept (Some mail) one)
        (begun_is : begun ≡ mail.begun) (after_is : after ≡ insert a.gates i one) where
      gate_shown : ShowsGate i (Some kept) (z.gates i)
      gate_shown = subst (λ (o : Option Gate). ShowsGate i o (z.gates i)) found (gates i)

      abbrev of : gate.TellsOf s (fails mail.cause) mail.begun mail.link (z.gates i) one
      of =
          subst (λ (t : ℕ). gate.TellsOf t (fails mail.cause) mail.begun mail.link (z.gates i) one)
          (mail_stream s mail (get kept.streams s) took.0)
          (each_shown g z behind stood i kept gate_shown
          (λ (v : Gateway). gate.TellsOf mail.stream (fails mail.cause) mail.begun mail.link v one) (mail_taken s kept one mail took).1)

      abbrev v : Gateway
      v = of.tells.next

      so_many : counted of.count ≡ begun
      so_many = of.counted_is ∙ sym begun_is

      v_phase : v.phase ≡ (z.gates i).phase
      v_phase = ap (λ (u : Gateway). u.phase) of.tells.steps.2

      abbrev it : relay.Reaches (leaving of.count) n (routing_of g z) (plain_local z n) new (routing_of g z) made
      it = last of.count so_many

      abbrev left : Left g n i v z it.reached (routing_of g z) it.parts
      left =
          lefts g n i s of.count (tells (fails mail.cause) of.count) (hearing n i s of.count mail.cause) v it.reached (routing_of g z)
          (raw of.count so_many) z it.parts it.leads on_still gate_still stream_still of.tells.steps

      gates_then : (j : ℕ) → ShowsGate j (get b.gates j) (left.y.gates j)
      gates_then j =
          subst (λ (all : Gates). ShowsGate j (get all j) (left.y.gates j)) (sym (gates_after ∙ after_is)) (⊎_elim
          (λ at. subst (λ (t : ℕ). ShowsGate t (get (insert a.gates i one) t) (left.y.gates t)) (sym at)
          (subst (λ (o : Option Gate). ShowsGate i o (left.y.gates i)) (sym (put_here a.gates i one))
          (subst (ShowsGate i (Some one)) (sym left.gate) (
            (mail_taken s kept one mail took).0 ∙ gate_shown.0,
            of.tells.shows,
            subst IsGateThere (sym v_phase) gate_shown.2,
          ))))
          (λ apart. subst (λ (o : Option Gate). ShowsGate j o (left.y.gates j)) (sym (put_elsewhere a.gates i one j apart))
          (subst (ShowsGate j (get a.gates j)) (sym (left.gates j apart)) (gates j)))
          (cases_eq j i))

      phases_then : (j : ℕ) → (left.y.gates j).phase ≡ (z.gates j).phase
      phases_then j = ⊎_elim
          (λ at. subst (λ (t : ℕ). (left.y.gates t).phase ≡ (z.gates t).phase) (sym at)
          (ap (λ (u : Gateway). u.phase) left.gate ∙ v_phase))
          (λ apart. ap (λ (u : Gateway). u.phase) (left.gates j apart)) (cases_eq j i)

      mail_goes : Goes g n b z told now
      mail_goes =
          goes_so of.count so_many left.more left.y left.leads left.here left.counted left.others left.noted gates_then phases_then

    stream_goes : TakesAt (Some (i, s)) begun a.gates after → Goes g n b z told now
    stream_goes takes = by (get a.gates i) refl takes
      where
        of : (kept one : Gate) → get a.gates i ≡ Some kept → (mail : Option Mail) → TakesMail s kept mail one → begun ≡ begun_in mail
            → after ≡ insert a.gates i one → Goes g n b z told now
        of kept one found None took begun_is after_is =
            let shown_gate = subst (λ (o : Option Gate). ShowsGate i o (z.gates i)) found (gates i) in
            absurd (mailed (none_mail s (get kept.streams s) ((z.gates i).streams s) (none_taken s kept one took).1
            (shown_gate.1.streams s)))
        of kept one found (Some mail) took begun_is after_is = mail_goes kept one mail found took begun_is after_is

        by : (o : Option Gate) → get a.gates i ≡ o → TakesOn o i s begun a.gates after → Goes g n b z told now
        by None none takes_so =
            absurd (away_carries (x.gates i).phase (away_before why (x.gates i).phase
            (subst IsGateAway (phases i) (subst (λ (o : Option Gate). ShowsGate i o (z.gates i)) none (gates i)))) carried)
        by (Some kept) found (mail, one, took, begun_is, after_is) = of kept one found mail took begun_is after_is

  link_goes : (at : Option (ℕ × ℕ)) → HasStream old at → TakesAt at begun a.gates after → Goes g n b z told now
  link_goes None has takes = raw_goes has takes.0 takes.1
  link_goes (Some at) has takes = stream_goes at.0 at.1 has takes

-- SO FAR the links in front of a number were told
pub record Ended (why : Cause) (g : NodeConfig) (x y : Machine) (k a : Relays) (from : Option ℕ) (told now : Told) : Type 0 where
  pub more : List Point
  pub reached : Machine
  pub leads : Leads g y more reached
  pub done : (l : ℕ) → is_before l from ≡ true → IsDone l a (reached.plain l)
  pub link : (l : ℕ) → is_before l from ≡ false → get a.relays l ≡ get k.relays l
  pub same : (l : ℕ) → is_before l from ≡ false → reached.plain l ≡ y.plain l
  pub ups : (l : ℕ) → (reached.plain l).up ≡ (x.plain l).up
  pub there : (l : ℕ) → IsSome (get a.relays l) → IsSome (get k.relays l)
  pub opens : reached.opens ≡ empty
  pub gates : (i : ℕ) → ShowsGate i (get a.gates i) (reached.gates i)
  pub gate_there : (i : ℕ) → IsSome (get a.gates i) → IsSome (get k.gates i)
  pub phases : (i : ℕ) → (reached.gates i).phase ≡ stops_by why (x.gates i).phase
  pub noted : Takes told (notes more) now

pub record LinksEnding (why : Cause) (k a : Relays) (from : Option ℕ) (told now : Told) : Type 0 where
  pub ups : a.ups ≡ k.ups
  pub routes : a.routes ≡ k.routes
  pub gate_due : a.gate_due ≡ k.gate_due
  pub ended : (g : NodeConfig) (x y : Machine) (points : List Point) → StandsFor g x points
      → Steps g x (of_control (point.stopped why)) y → ShowsEnding g k x y → Ended why g x y k a from told now

pub links_start : (why : Cause) (k : Relays) (first : Option ℕ) (told : Told) → IsFirstFrom k.relays 0 first
    → LinksEnding why k k first told told
links_start why k first told is = record {
  ups = refl;
  routes = refl;
  gate_due = refl;
  ended = λ g x y points stands steps shows. record {
    more = [];
    reached = y;
    leads = refl;
    done = λ l before. (let none = before_first k.relays first is l before in
        gone_done why g k k x y points stands steps shows l none none);
    link = λ l behind. refl;
    same = λ l behind. refl;
    ups = λ l. ap (λ (w : Machine). (w.plain l).up) steps.3;
    there = λ l some. some;
    opens = ap (λ (w : Machine). w.opens) steps.3;
    gates = shows.gates;
    gate_there = λ i some. some;
    phases = λ i. ap (λ (w : Machine). (w.gates i).phase) steps.3;
    noted = takes_none told;
  };
}

-- one more is told
module _ (why : Cause) (k a b : Relays) (n : ℕ) (from : Option ℕ) (told now then : Told) (ending : LinksEnding why k a (Some n) told now)
    (stops : StopsAt why (get a.relays n) n a now b then) (next_is : IsBehind b.relays n from) where
  code : LinkEnds n a b
  code = link_ends why n a b now then stops

  module _ (g : NodeConfig) (x y : Machine) (points : List Point) (stands : StandsFor g x points)
      (steps : Steps g x (of_control (point.stopped why)) y) (shows : ShowsEnding g k x y) where
    so_far : Ended why g x y k a (Some n) told now
    so_far = ending.ended g x y points stands steps shows

    abbrev z : Machine
    z = so_far.reached

    -- where there is none nothing happens
    one : Goes g n b z now then
    one = by (get a.relays n) refl stops
      where
        by : (o : Option Relay) → get a.relays n ≡ o → StopsAt why o n a now b then → Goes g n b z now then
        by None none unmoved =
            subst (λ (c : Relays). Goes g n c z now then) (sym unmoved.0)
            (subst (λ (t : Told). Goes g n a z now t) (sym unmoved.1) (record {
              more = [];
              w = z;
              leads = refl;
              here = subst (IsDone n a) (sym (so_far.same n (not_before n)))
                  (gone_done why g k a x y points stands steps shows n (sym (so_far.link n (not_before n)) ∙ none) none);
              others = λ j apart. refl;
              up = refl;
              opens = refl;
              gates = so_far.gates;
              phases = λ i. refl;
              noted = takes_none now;
            }))
        by (Some old) is (at, begun, gates, new, made, has, takes, leaves, b_is, noted) =
            let stood = stands_on g y (points ++ of_control (point.stopped why) ∷ []) so_far.more z
            (goes_on stands (of_control (point.stopped why)) steps refl) so_far.leads in
            link_goes why g k a b n x y z points stood.0 stands steps shows stood.1 (leads_keep g y so_far.more z so_far.leads).control
            (so_far.link n (not_before n)) (so_far.same n (not_before n)) so_far.gates so_far.phases now then old new begun gates made is
            leaves b_is noted at has takes

    there : (l : ℕ) → IsSome (get b.relays l) → IsSome (get k.relays l)
    there l some = so_far.there l (code.there l some)

    -- one behind it, in front of the next, isn't there
    none_there : (l : ℕ) → n < l → is_before l from ≡ true → get b.relays l ≡ None
    none_there l high before = between b.relays n from (λ j some. shows.numbered j (there j some)) next_is l high before

    link_behind : (l : ℕ) → n < l → get b.relays l ≡ get k.relays l
    link_behind l high = code.others l (λ same. omega (arith, same, high)) ∙ so_far.link l (still_behind n l high)

    same_behind : (l : ℕ) → n < l → one.w.plain l ≡ y.plain l
    same_behind l high = one.others l (λ same. omega (arith, same, high)) ∙ so_far.same l (still_behind n l high)

    ended_too : Ended why g x y k b from told then
    ended_too = record {
      more = so_far.more ++ one.more;
      reached = one.w;
      leads = leads_append g y z one.w so_far.more one.more so_far.leads one.leads;
      done = λ l before. ⊎_elim
          (λ same. subst (λ (i : ℕ). IsDone i b (one.w.plain i)) (sym same) one.here)
          (⊎_elim
          (λ low. (let apart : l ≢ n = λ same. omega (arith, same, low) in
          subst (IsDone l b) (sym (one.others l apart))
          (done_still l a b (z.plain l) (code.others l apart) (code.due l) (so_far.done l (lt-ltb l n low)))))
          (λ high. (let none = none_there l high before in
          subst (IsDone l b) (sym (same_behind l high))
          (gone_done why g k b x y points stands steps shows l (sym (link_behind l high) ∙ none) none))))
          (cases_order l n);
      link = λ l behind. link_behind l (behind_this b.relays n from next_is l behind);
      same = λ l behind. same_behind l (behind_this b.relays n from next_is l behind);
      ups = λ l. ⊎_elim
          (λ same. subst (λ (i : ℕ). (one.w.plain i).up ≡ (x.plain i).up) (sym same) (one.up ∙ so_far.ups n))
          (λ apart. ap (λ (c : Captured). c.up) (one.others l apart) ∙ so_far.ups l) (cases_eq l n);
      there = there;
      opens = one.opens ∙ so_far.opens;
      gates = one.gates;
      gate_there = λ i some. so_far.gate_there i (code.gate_there i some);
      phases = λ i. one.phases i ∙ so_far.phases i;
      noted = noted_then told now then so_far.more one.more so_far.noted one.noted;
    }

  pub links_go : LinksEnding why k b from told then
  links_go = record {
    ups = code.ups ∙ ending.ups;
    routes = code.routes ∙ ending.routes;
    gate_due = code.gate_due ∙ ending.gate_due;
    ended = ended_too;
  }

-- ALL WERE TOLD: where no link has a stream no tunnel is to be told anything
untold : (g : NodeConfig) (z : Machine) (points : List Point) → StandsFor g z points → ((l : ℕ) → is_raw (z.plain l) ≡ true) → (i : ℕ)
    → AllTold (z.gates i)
untold g z points stands raw i s = by ((z.gates i).streams s).mail refl
  where
    by : (o : Option Heard) → ((z.gates i).streams s).mail ≡ o → o ≡ None
    by None is = refl
    by (Some heard) is =
        absurd (true≢false (sym (raw ((z.gates i).streams s).captured)
        ∙ on_stream g z points stands i s (inr (λ none. (let no : None ≡ Some heard = sym none ∙ is in cc no)))
        ((z.gates i).streams s).captured refl))

pub links_end : (why : Cause) (k a : Relays) (told now : Told) → LinksEnding why k a None told now → StopsLinks why k told a now
links_end why k a told now ending = record { routes = ending.routes; follows = follows }
  where
    follows : (g : NodeConfig) (x y : Machine) (points : List Point) → StandsFor g x points
        → Steps g x (of_control (point.stopped why)) y → ShowsEnding g k x y → (routes : Routes)
        → code_routing routes ≡ record { opens = empty; hbone_port = g.hbone_port } → Follows g y (routes_with routes a) told now
    follows g x y points stands steps shows routes counts =
        let all = ending.ended g x y points stands steps shows in
        let z = all.reached in
        let stood = stands_on g y (points ++ of_control (point.stopped why) ∷ []) all.more z
        (goes_on stands (of_control (point.stopped why)) steps refl) all.leads in
        record {
          more = all.more;
          reached = z;
          leads = all.leads;
          shows = record {
            relays = λ l. (all.done l refl).shown;
            index = subst (λ (ups : Index). IsIndex ups z.plain) (sym ending.ups)
                (same_ups k.ups x.plain z.plain all.ups shows.index);
            numbered = λ l some. shows.numbered l (all.there l some);
            idle = λ l none. (all.done l refl).idle none;
            counted = counts ∙ ap (λ (c : Counts). record { opens = c; hbone_port = g.hbone_port }) (sym all.opens);
            gates = all.gates;
            gate_numbered = λ i some. shows.gate_numbered i (all.gate_there i some);
            gate_idle = λ i none. ap close_due (all.phases i ∙ sym (ap (λ (w : Machine). (w.gates i).phase) steps.3))
                ∙ shows.gate_idle i (ap (λ (t : Touched). is_touched t i) (sym ending.gate_due) ∙ none);
            calm = record {
              gates = λ i. (
                untold g z stood.0 stood.1 (λ l. (all.done l refl).raw) i,
                subst (λ (phase : Phase). gateway_calm.IsCalmBy phase (z.gates i)) (sym (all.phases i))
                    (stopped_calm why (x.gates i).phase (z.gates i)),
              );
              streams = λ l. raw_rests z.gates (z.plain l) (eqb-true (z.plain l).gate 0 (all.done l refl).raw);
            };
            wanting = λ l stage. absurd ((all.done l refl).undue stage);
          };
          noted = all.noted;
        }

-- THE RUN ENDS
pub run_ends : (why : Cause) (k b c : Relays) (routes : Routes) (told now : Told) → StopsGates why k b → StopsLinks why b told c now
    → routes ≡ record c.routes { opens = empty } → Stops why k told (routes_with routes c) now
run_ends why k b c routes told now gates links routes_are g x y points stands shows holds steps =
    let port : c.routes.hbone_port ≡ g.hbone_port =
    ap (λ (r : Routes). r.hbone_port) (links.routes ∙ ap (λ (w : Relays). w.routes) (gates shows.gate_numbered).rest)
    ∙ ap (λ (r : Routing). r.hbone_port) shows.counted in
    links.follows g x y points stands steps (gates_shown why g k b x y points stands shows steps gates) routes
    (ap code_routing routes_are ∙ ap (λ (p : ℕ). record { opens = empty; hbone_port = p }) port)
