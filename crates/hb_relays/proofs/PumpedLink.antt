-- What may be put of a link on its stream is: where the code of both does so, that of all links goes on.
use Rattle.std.proofs.Common.{◌≡◌, ◌≢◌, ⊎_elim, ℕ, ◌<◌, ◌^◌, ◌==◌, ◌||◌, Bool, true, false, List, Option, Some, None, is_some, refl, ap, ap₂, sym, ◌∙◌, subst}
use Rattle.std.proofs.lemmas.Bool.{cases_eq, ne_eqb, false≢true}
use Rattle.std.specs.FinMap.{get, insert}
use Rattle.hb_base.specs.declared.note.Note.{Note}
use Rattle.hb_captured.specs.Captured as m
use Rattle.hb_captured.specs.Captured.{Captured, Stage, due}
use Rattle.hb_captured.specs.Part.{note_if}
use Rattle.hb_captured.specs.Runs.{Lives}
use Rattle.hb_gate.specs.declared.gate.Gate.{Gate}
use Rattle.hb_gateway.specs.Calm.{IsCalm, close_due}
use Rattle.hb_gateway.specs.Gateway as gateway
use Rattle.hb_gateway.specs.Gateway.{Gateway, Phase, carries}
use Rattle.hb_link.specs.Noted.{Told, Takes}
use Rattle.hb_map.proofs.Laws.{put_here, put_elsewhere, written_where_some}
use Rattle.hb_model.specs.declared.config.NodeConfig.{NodeConfig}
use Rattle.hb_proxy.specs.Machine.{Machine, outward}
use Rattle.hb_proxy.specs.Points.{Point}
use Rattle.hb_proxy.specs.Runs.{StandsFor, StreamRestsBy, RestsAmong}
use Rattle.hb_proxy.specs.Seen.{IsGateThere}
use Rattle.hb_relay.specs.Answering.{routing_of as code_routing}
use Rattle.hb_relay.specs.Shows.{Shows}
use Rattle.hb_relay.specs.Streamed as streamed
use Rattle.hb_relay.specs.declared.relay.Relay.{Relay}
use Rattle.hb_relay.specs.declared.routes.Routes.{Routes}
use Rattle.hb_relays.specs.Joining.{Streams, ShowsSome, GoesOn, all, with_link}
use Rattle.hb_relays.specs.Pumping as pumping
use Rattle.hb_relays.specs.Pumping.{OnStream, LivesAt, NoneDueBut, Pumps, RestsAt, RestsOn}
use Rattle.hb_relays.specs.Shows.{IsIdle, IsAway, IsAwayBy, IsGateAway, ShowsRelay, ShowsGate}
use Rattle.hb_relays.specs.Stirring.{Stirs}
use Rattle.hb_relays.specs.Walks.{relays_with, routes_with, touched_at}
use Rattle.hb_relays.specs.declared.relays.Relays.{Relays}
use Rattle.hb_relays.proofs.Carrying.{Carried, live_carries}
use Rattle.hb_relays.proofs.Paired.{paired}
use Rattle.hb_relays.proofs.Pumped.{rests_now}
use Rattle.hb_relays.proofs.Onward.{shows_as, goes_nowhere}
use Rattle.hb_relays.proofs.Showing.{opens_by, same_ups, there_by, ups_same}
use Rattle.hb_relays.proofs.Stirs.{told_stirs, gate_told_stirs, stirs_all_then}
use Rattle.hb_relays.proofs.Touching.{untouched}

-- A LINK THAT LIVES ON NO STREAM RESTS

pub unlive_rests : (gates : ℕ → Gateway) (x : Captured) → (Lives x → ⊥) → RestsAmong gates x
unlive_rests gates x dead on = by x.stage refl
  where
    by : (stage : Stage) → x.stage ≡ stage → StreamRestsBy stage x (gates x.gate)
    by m.live is = absurd (dead (on, is))
    by m.unborn is = tt
    by m.arriving is = tt
    by m.fronting is = tt
    by m.due is = tt
    by m.opening is = tt
    by m.accepting is = tt
    by (m.failed why) is = tt
    by (m.ended why) is = tt
    by (m.over why) is = tt

-- one that isn't there doesn't live, nor is it due
away_stage : (stage : Stage) (x : Captured) → IsAwayBy stage x → (stage ≢ m.live) × (stage ≢ due)
away_stage m.unborn x away = (λ is. cc is, λ is. cc is)
away_stage (m.over why) x away = (λ is. cc is, λ is. cc is)
away_stage m.arriving x away = absurd away
away_stage m.fronting x away = absurd away
away_stage m.due x away = absurd away
away_stage m.opening x away = absurd away
away_stage m.accepting x away = absurd away
away_stage m.live x away = absurd away
away_stage (m.failed why) x away = absurd away
away_stage (m.ended why) x away = absurd away

pub away_dead : (x : Captured) → IsAway x → Lives x → ⊥
away_dead x away lives = (away_stage x.stage x away).0 lives.1

pub away_undue : (x : Captured) → IsAway x → x.stage ≢ due
away_undue x away = (away_stage x.stage x away).1

-- a link to a gateway that isn't there carries none
pub away_carries : (phase : Phase) → IsGateAway phase → carries phase ≡ true → ⊥
away_carries gateway.unborn away is = false≢true is
away_carries gateway.closed away is = false≢true is
away_carries gateway.opening away is = absurd away
away_carries gateway.serving away is = absurd away
away_carries (gateway.faulted code) away is = absurd away
away_carries (gateway.closing why) away is = absurd away

or_other : (b : Bool) (c : Bool) → b ≡ false → (b || c) ≡ true → c ≡ true
or_other b c is some = ap (λ (a : Bool). a || c) (sym is) ∙ some

module _ (g : NodeConfig) (k : Relays) (resting : Streams) (x : Machine) (points : List Point) (stands : StandsFor g x points)
    (shows : ShowsSome all resting all g k (outward x)) where
  -- what every run says of a link that lives on a stream
  pub carried_of : (l : ℕ) → Lives (x.plain l) → Carried x l
  carried_of l lives = live_carries g x points stands l lives ((shows.gates_calm (x.plain l).gate refl).0 (x.plain l).stream)

  pub rests_already : (l : ℕ) (told : Told) → RestsAmong x.gates (x.plain l) → GoesOn all (with_link l resting) all g x k told told
  rests_already l told rests =
      goes_nowhere all (with_link l resting) all g x k told
      (shows_as all all resting (with_link l resting) all g k (outward x) shows
      (λ j is. ⊎_elim (λ at. subst (λ (i : ℕ). RestsAmong x.gates (x.plain i)) (sym at) rests)
      (λ apart. shows.streams j (or_other (j == l) (resting j (x.plain j)) (ne_eqb j l apart) is)) (cases_eq j l))
      (λ j is. shows.wanting j is))

  -- its link to a gateway is there
  pub gate_there : (l : ℕ) → Lives (x.plain l) → get k.gates (x.plain l).gate ≡ None → ⊥
  gate_there l lives none =
      away_carries (x.gates (x.plain l).gate).phase
      (subst (λ (o : Option Gate). ShowsGate (x.plain l).gate o (x.gates (x.plain l).gate)) none (shows.gates (x.plain l).gate))
      (carried_of l lives).carries

  module _ (l n s : ℕ) (old one : Relay) (kept two : Gate) (routes : Routes) (made : Option Note) (told now : Told)
      (is : get k.relays l ≡ Some old) (is_gate : get k.gates n ≡ Some kept) (lives : Lives (x.plain l)) (on_gate : (x.plain l).gate ≡ n)
      (on_stream : (x.plain l).stream ≡ s) (undue : NoneDueBut l x)
      (rests : pumping.Rests s pumping.any old kept (code_routing k.routes) one two (code_routing routes) made)
      (takes : Takes told (note_if made) now) where
    shown_one : ShowsRelay l (Some old) (x.plain l)
    shown_one = subst (λ (o : Option Relay). ShowsRelay l o (x.plain l)) is (shows.relays l)

    shown_two : ShowsGate n (Some kept) (x.gates n)
    shown_two = subst (λ (o : Option Gate). ShowsGate n o (x.gates n)) is_gate (shows.gates n)

    there : Carried x l
    there = carried_of l lives

    ended : pumping.Ends l n g x one two (code_routing routes) made
    ended =
        rests l n g x points stands (record {
          number = shown_one.0;
          gate_number = shown_two.0;
          shows = shown_one.1;
          gate_shows = shown_two.1;
          lives = lives;
          on_gate = on_gate;
          on_stream = on_stream;
          carries = ap (λ (i : ℕ). carries (x.gates i).phase) (sym on_gate) ∙ there.carries;
          stage = ap₂ (λ (i j : ℕ). ((x.gates i).streams j).stage) (sym on_gate) (sym on_stream) ∙ there.stage;
          told = (shows.gates_calm n refl).0 s;
          here = tt;
        }) shows.counted

    abbrev y : Machine
    y = ended.reached

    all_undue : (j : ℕ) → (x.plain j).stage ≢ due
    all_undue j =
        ⊎_elim (λ at due_is. let no : m.live ≡ due = sym lives.1 ∙ ap (λ (i : ℕ). (x.plain i).stage) (sym at) ∙ due_is in cc)
        (λ apart. undue j apart) (cases_eq j l)

    still_undue : (j : ℕ) → (y.plain j).stage ≢ due
    still_undue j =
        ⊎_elim (λ at due_is. ended.undue (ap (λ (i : ℕ). (y.plain i).stage) (sym at) ∙ due_is))
        (λ apart due_is. all_undue j (ap (λ (w : Captured). w.stage) (sym (ended.beside.plain j apart)) ∙ due_is)) (cases_eq j l)

    pumped_shows : ShowsSome all (with_link l resting) all g (paired l n one two routes k) (outward y)
    pumped_shows = record {
      relays = λ j. ⊎_elim
          (λ at. subst (λ (i : ℕ). ShowsRelay i (get (insert k.relays l one) i) (y.plain i)) (sym at)
          (subst (λ (o : Option Relay). ShowsRelay l o (y.plain l)) (sym (put_here k.relays l one)) (
            ended.number,
            ended.shows,
            there_by one (y.plain l) ended.shows
                (ended.beside.closed ∙ opens_by (x.plain l).stage (x.plain l).closed shown_one.2),
          )))
          (λ apart. subst (λ (o : Option Relay). ShowsRelay j o (y.plain j)) (sym (put_elsewhere k.relays l one j apart))
          (subst (ShowsRelay j (get k.relays j)) (sym (ended.beside.plain j apart)) (shows.relays j)))
          (cases_eq j l);
      index = same_ups k.ups x.plain y.plain (ups_same x.plain y.plain l ended.beside.plain ended.beside.up) shows.index;
      numbered = λ j some. ⊎_elim (λ at. subst (λ (i : ℕ). i < 2 ^ 64) (sym at) (shows.numbered l (ap is_some is)))
          (λ apart. shows.numbered j (sym (ap is_some (put_elsewhere k.relays l one j apart)) ∙ some)) (cases_eq j l);
      idle = λ j none. (let was = untouched l k.due j none in
          subst IsIdle (sym (ended.beside.plain j was.0)) (shows.idle j was.1));
      counted = ended.counted;
      gates = λ j. ⊎_elim
          (λ at. subst (λ (i : ℕ). ShowsGate i (get (insert k.gates n two) i) (y.gates i)) (sym at)
          (subst (λ (o : Option Gate). ShowsGate n o (y.gates n)) (sym (put_here k.gates n two))
          (ended.gate_number, ended.gate_shows, subst IsGateThere (sym ended.beside.phase) shown_two.2)))
          (λ apart. subst (λ (o : Option Gate). ShowsGate j o (y.gates j)) (sym (put_elsewhere k.gates n two j apart))
          (subst (ShowsGate j (get k.gates j)) (sym (ended.beside.gates j apart)) (shows.gates j)))
          (cases_eq j n);
      gate_numbered = λ j some. ⊎_elim (λ at. subst (λ (i : ℕ). i < 2 ^ 64) (sym at) (shows.gate_numbered n (ap is_some is_gate)))
          (λ apart. shows.gate_numbered j (sym (ap is_some (put_elsewhere k.gates n two j apart)) ∙ some)) (cases_eq j n);
      gate_idle = λ j none. (let was = untouched n k.gate_due j none in
          ap (λ (w : Gateway). close_due w.phase) (ended.beside.gates j was.0) ∙ shows.gate_idle j was.1);
      gates_calm = λ j quiet. ⊎_elim
          (λ at. subst (λ (i : ℕ). IsCalm (y.gates i)) (sym at) (ended.beside.calm (shows.gates_calm n refl)))
          (λ apart. subst IsCalm (sym (ended.beside.gates j apart)) (shows.gates_calm j quiet))
          (cases_eq j n);
      streams = λ j rest. ⊎_elim
          (λ at. subst (λ (i : ℕ). RestsAmong y.gates (y.plain i)) (sym at) ended.rests)
          (λ apart. ended.beside.rests j apart (shows.streams j
          (subst (λ (w : Captured). resting j w ≡ true) (ended.beside.plain j apart)
          (or_other (j == l) (resting j (y.plain j)) (ne_eqb j l apart) rest))))
          (cases_eq j l);
      wanting = λ j waits stage. absurd (still_undue j stage);
    }

    pub pumped_goes : GoesOn all (with_link l resting) all g x (paired l n one two routes k) told now
    pumped_goes = record {
      more = ended.more;
      reached = y;
      leads = ended.leads;
      shows = pumped_shows;
      undue = λ j was. still_undue j;
      noted = subst (λ (ns : List Note). Takes told ns now) (sym ended.noted) takes;
    }

-- ON WHICH STREAM A LINK LIVES
module _ (k : Relays) (l : ℕ) where
  pub lives_away : get k.relays l ≡ None → LivesAt l k None
  lives_away none waiting resting g x points stands shows lives =
      away_dead (x.plain l) (subst (λ (o : Option Relay). ShowsRelay l o (x.plain l)) none (shows.relays l)) lives

  module _ (w : Relay) (found : get k.relays l ≡ Some w) (alive : Bool) (says : streamed.LivesOn w alive) where
    here : (x : Machine) → ((j : ℕ) → ShowsRelay j (get k.relays j) (x.plain j)) → Shows w (x.plain l)
    here x shown = (subst (λ (o : Option Relay). ShowsRelay l o (x.plain l)) found (shown l)).1

    pub lives_not : alive ≡ false → LivesAt l k None
    lives_not isnt waiting resting g x points stands shows lives =
        false≢true (sym isnt ∙ (says (x.plain l) (here x shows.relays)).1 lives)

    pub lives_at : alive ≡ true → (o : Option (ℕ × ℕ)) → streamed.HasStream w o → LivesAt l k o
    lives_at is_so None raw =
        λ waiting resting g x points stands shows lives. false≢true (sym lives.0 ∙ raw (x.plain l) (here x shows.relays))
    lives_at is_so (Some at) on = (
      ap is_some found,
      λ waiting resting g x points stands shows. (
          let link = here x shows.relays in
          let stream = on (x.plain l) link in
          ((says (x.plain l) link).0 is_so, stream.1, stream.2)
          ),
    )

-- WHETHER IT RESTS THERE
pub rests_there : (k : Relays) (l n : ℕ) (old : Relay) (kept : Gate) (is : Bool) → get k.relays l ≡ Some old → get k.gates n ≡ Some kept
    → RestsOn old kept is → RestsAt l n k is
rests_there k l n old kept is at at_gate rests so waiting resting g x points stands shows lives on =
    let one = subst (λ (o : Option Relay). ShowsRelay l o (x.plain l)) at (shows.relays l) in
    let two = subst (λ (o : Option Gate). ShowsGate n o (x.gates n)) at_gate (shows.gates n) in
    let there = live_carries g x points stands l lives ((shows.gates_calm (x.plain l).gate refl).0 (x.plain l).stream) in
    rests_now (x.plain l) x.gates n on lives.1
    (rests so (x.plain l) (x.gates n) one.1 two.1 lives
    (subst (λ (i : ℕ). carries (x.gates i).phase ≡ true) on there.carries))

-- WHAT IT MAKES OF ALL LINKS: nothing where it lives on none
pub pumps_none : (k : Relays) (l : ℕ) (told : Told) → LivesAt l k None → Pumps l k told k told
pumps_none k l told none resting g x points stands shows undue =
    rests_already g k resting x points stands shows l told
    (unlive_rests x.gates (x.plain l) (none all resting g x points stands shows))

pub pumps_away : (k : Relays) (l : ℕ) (told : Told) (at : ℕ × ℕ) → LivesAt l k (Some at) → get k.gates at.0 ≡ None → Pumps l k told k told
pumps_away k l told at lives none resting g x points stands shows undue =
    let on = lives.1 all resting g x points stands shows in
    absurd (gate_there g k resting x points stands shows l on.0 (ap (get k.gates) on.1 ∙ none))

pub pumps_resting : (k : Relays) (l : ℕ) (told : Told) (at : ℕ × ℕ) (is : Bool) → LivesAt l k (Some at) → RestsAt l at.0 k is → is ≡ true
    → Pumps l k told k told
pumps_resting k l told at is lives rests so resting g x points stands shows undue =
    let on = lives.1 all resting g x points stands shows in
    rests_already g k resting x points stands shows l told (rests so all resting g x points stands shows on.0 on.1)

pub pumps_both : (k new : Relays) (l : ℕ) (at : ℕ × ℕ) (old one : Relay) (kept two : Gate) (routes : Routes) (made : Option Note)
    (told now : Told) → LivesAt l k (Some at) → get k.relays l ≡ Some old → get k.gates at.0 ≡ Some kept
    → pumping.Rests at.1 pumping.any old kept (code_routing k.routes) one two (code_routing routes) made → Takes told (note_if made) now
    → new ≡ paired l at.0 one two routes k → Pumps l k told new now
pumps_both k new l at old one kept two routes made told now lives is is_gate rests takes new_is resting g x points stands shows undue =
    let on = lives.1 all resting g x points stands shows in
    subst (λ (w : Relays). GoesOn all (with_link l resting) all g x w told now) (sym new_is)
    (pumped_goes g k resting x points stands shows l at.0 at.1 old one kept two routes made told now is is_gate on.0 on.1 on.2 undue rests
    takes)

-- AND WHAT IT STIRS
pub paired_stirs : (k : Relays) (l n : ℕ) (old one : Relay) (kept two : Gate) (routes : Routes) → get k.relays l ≡ Some old
    → get k.gates n ≡ Some kept → Stirs k (paired l n one two routes k)
paired_stirs k l n old one kept two routes is is_gate =
    let mid = touched_at l (routes_with routes (relays_with (insert k.relays l one) k.ups k)) in
    stirs_all_then k mid (paired l n one two routes k)
    (told_stirs k mid (insert k.relays l one) routes l one refl (sym (written_where_some k.relays l one (ap is_some is))))
    (gate_told_stirs mid (paired l n one two routes k) (insert k.gates n two) n two
    (sym (written_where_some k.gates n two (ap is_some is_gate))) refl)
