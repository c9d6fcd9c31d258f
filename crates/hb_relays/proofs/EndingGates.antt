-- The end of the run is told to one link to a gateway after another.
use Rattle.std.proofs.Common.{◌≡◌, ◌≢◌, inl, inr, ⊎_elim, ℕ, ◌<◌, Bool, true, false, List, Option, Some, None, is_some, IsSome, refl, ap, sym, ◌∙◌, subst, arith}
use Rattle.std.proofs.lemmas.Bool.{cases_eq, cases_order, false≢true, ltb-false, lt-ltb, ltb-true, true≢false}
use Rattle.std.specs.FinMap.{FinMap, get, insert}
use Rattle.std.specs.Ordering.{nat_cmp}
use Rattle.hb_base.specs.declared.cause.Cause.{Cause}
use Rattle.hb_gate.specs.Calls.{Enters}
use Rattle.hb_gate.specs.declared.gate.Gate.{Gate}
use Rattle.hb_gateway.specs.Calm.{close_due}
use Rattle.hb_gateway.specs.Gateway as gateway
use Rattle.hb_gateway.specs.Gateway.{Gateway, Phase, stops_by}
use Rattle.hb_gateway.specs.Part.{stopped}
use Rattle.hb_gateway.specs.Runs as gateways
use Rattle.hb_gateway.specs.Runs.{stopped_for}
use Rattle.hb_map.proofs.Laws.{put_here, put_elsewhere, written_where_some}
use Rattle.hb_map.specs.Keyed.{IsFirstFrom, written}
use Rattle.hb_model.specs.Point as point
use Rattle.hb_model.specs.declared.config.NodeConfig.{NodeConfig}
use Rattle.hb_proxy.proofs.Gates.{gates_run}
use Rattle.hb_proxy.specs.Machine.{Machine, outward}
use Rattle.hb_proxy.specs.Points.{Point, of_control, gates_of}
use Rattle.hb_proxy.specs.Runs.{Steps, StandsFor}
use Rattle.hb_proxy.specs.Seen.{IsGateThere}
use Rattle.hb_relays.specs.Joining.{Gates, IsBehind}
use Rattle.hb_relays.specs.Leaving.{AreNumbered, GatesStop, HasStopped, ShowsEnding, StopsGate, StopsGates}
use Rattle.hb_relays.specs.Pumping.{is_before}
use Rattle.hb_relays.specs.Shows.{IsGateAway, IsIndex, ShowsGate, ShowsRelay, ShowsRelays}
use Rattle.hb_relays.specs.Touched.{is_touched}
use Rattle.hb_relays.specs.Walks.{Index, Map, gate_touched_at}
use Rattle.hb_relays.specs.declared.relays.Relays.{Relays}
use Rattle.hb_relays.proofs.Offering.{before_first, between}
use Rattle.hb_relays.proofs.Touching.{touched_here, touched_still}
use Rattle.hb_relays.proofs.Walking.{close_away}

-- ONE, as the code comes to it
pub gate_stop_is : (cause : Cause) (k m : Relays) (gates : Gates) (n : ℕ) (kept after : Gate) → get k.gates n ≡ Some kept
    → Enters (stopped cause) kept after → gates ≡ written k.gates n after → m ≡ gate_touched_at n (record k { gates = gates })
    → StopsGate cause (get k.gates n) n k m
gate_stop_is cause k m gates n kept after is enters gates_is m_is =
    subst (λ (o : Option Gate). StopsGate cause o n k m) (sym is) (
      after,
      enters,
      m_is ∙ ap (λ (all : Gates). gate_touched_at n (record k { gates = all }))
          (gates_is ∙ written_where_some k.gates n after (ap is_some is)),
    )

-- the others stay, and those that were touched; this one has ended, and is touched
record GateEnds (cause : Cause) (n : ℕ) (a b : Relays) : Type 0 where
  here : HasStopped cause (get a.gates n) (get b.gates n)
  touched : IsSome (get a.gates n) → is_touched b.gate_due n ≡ true
  still : (j : ℕ) → is_touched a.gate_due j ≡ true → is_touched b.gate_due j ≡ true
  others : (j : ℕ) → j ≢ n → get b.gates j ≡ get a.gates j
  there : IsSome (get b.gates n) → IsSome (get a.gates n)
  rest : b ≡ record a { gates = b.gates; gate_due = b.gate_due; gate_stirs = b.gate_stirs }

gate_ends : (cause : Cause) (n : ℕ) (a b : Relays) → StopsGate cause (get a.gates n) n a b → GateEnds cause n a b
gate_ends cause n a b stops = by (get a.gates n) refl stops
  where
    by : (o : Option Gate) → get a.gates n ≡ o → StopsGate cause o n a b → GateEnds cause n a b
    by None none same = subst (GateEnds cause n a) (sym same) (record {
      here = subst (λ (o : Option Gate). HasStopped cause o o) (sym none) refl;
      touched = λ some. absurd (false≢true (sym (ap is_some none) ∙ some));
      still = λ j was. was;
      others = λ j apart. refl;
      there = λ some. some;
      rest = refl;
    })
    by (Some kept) is (after, enters, b_is) = subst (GateEnds cause n a) (sym b_is) (record {
      here = subst (λ (o : Option Gate). HasStopped cause o (get (insert a.gates n after) n)) (sym is)
          (after, enters, put_here a.gates n after);
      touched = λ some. touched_here n a.gate_due;
      still = λ j was. touched_still n a.gate_due j was;
      others = λ j apart. put_elsewhere a.gates n after j apart;
      there = λ some. ap is_some is;
      rest = refl;
    })

-- SO FAR those in front of a number have ended
pub record EndedBefore (cause : Cause) (from : Option ℕ) (old new : Relays) : Type 0 where
  pub ended : (n : ℕ) → is_before n from ≡ true → HasStopped cause (get old.gates n) (get new.gates n)
  pub touched : (n : ℕ) → is_before n from ≡ true → IsSome (get old.gates n) → is_touched new.gate_due n ≡ true
  pub same : (n : ℕ) → is_before n from ≡ false → get new.gates n ≡ get old.gates n
  pub there : (n : ℕ) → IsSome (get new.gates n) → IsSome (get old.gates n)
  pub rest : new ≡ record old { gates = new.gates; gate_due = new.gate_due; gate_stirs = new.gate_stirs }

abbrev pub GatesEnding : Cause → Option ℕ → Relays → Relays → Type 0
GatesEnding cause from old new = AreNumbered old.gates → EndedBefore cause from old new

pub gates_start : (cause : Cause) (k : Relays) (first : Option ℕ) → IsFirstFrom k.gates 0 first → GatesEnding cause first k k
gates_start cause k first is few = record {
  ended = λ n before. subst (λ (o : Option Gate). HasStopped cause o o) (sym (before_first k.gates first is n before)) refl;
  touched = λ n before some. absurd (false≢true (sym (ap is_some (before_first k.gates first is n before)) ∙ some));
  same = λ n behind. refl;
  there = λ n some. some;
  rest = refl;
}

-- one that is not in front of the next one is behind this one
pub behind_this : {T : Type 0} (m : FinMap nat_cmp T) (n : ℕ) (next : Option ℕ) → IsBehind m n next → (j : ℕ) → is_before j next ≡ false
    → n < j
behind_this m n None is j behind = absurd (true≢false behind)
behind_this m n (Some first) (inl is) j behind = (let low = ltb-false j first behind in let above = is.0 in omega (arith, low, above))
behind_this m n (Some first) (inr last) j behind = absurd (let none = last.0 in cc)

pub not_before : (n : ℕ) → is_before n (Some n) ≡ false
not_before n = by (is_before n (Some n)) refl
  where
    by : (b : Bool) → is_before n (Some n) ≡ b → b ≡ false
    by false is = refl
    by true is = absurd (let less = ltb-true n n is in omega (arith, less))

pub still_behind : (n j : ℕ) → n < j → is_before j (Some n) ≡ false
still_behind n j above = by (is_before j (Some n)) refl
  where
    by : (b : Bool) → is_before j (Some n) ≡ b → b ≡ false
    by false is = refl
    by true is = absurd (let less = ltb-true j n is in omega (arith, less, above))

pub gates_go : (cause : Cause) (old a b : Relays) (n : ℕ) (next : Option ℕ) → GatesEnding cause (Some n) old a
    → StopsGate cause (get a.gates n) n a b → IsBehind b.gates n next → GatesEnding cause next old b
gates_go cause old a b n next so_far stops is few = record {
  ended = λ j before. ⊎_elim
      (λ same. subst (λ (i : ℕ). HasStopped cause (get old.gates i) (get b.gates i)) (sym same)
      (subst (λ (o : Option Gate). HasStopped cause o (get b.gates n)) (was.same n (not_before n)) one.here))
      (⊎_elim
      (λ low. subst (λ (o : Option Gate). HasStopped cause (get old.gates j) o) (sym (one.others j (λ same. omega (arith, same, low))))
      (was.ended j (lt-ltb j n low)))
      (λ high. (let none = gone j high before in
      subst (λ (o : Option Gate). HasStopped cause o (get b.gates j)) (sym (at_once j high ∙ none)) none)))
      (cases_order j n);
  touched = λ j before some. ⊎_elim
      (λ same. subst (λ (i : ℕ). is_touched b.gate_due i ≡ true) (sym same)
      (one.touched (ap is_some (was.same n (not_before n)) ∙ subst (λ (i : ℕ). IsSome (get old.gates i)) same some)))
      (⊎_elim
      (λ low. one.still j (was.touched j (lt-ltb j n low) some))
      (λ high. absurd (false≢true (sym (ap is_some (at_once j high ∙ gone j high before)) ∙ some))))
      (cases_order j n);
  same = λ j behind. (let above = behind_this b.gates n next is j behind in sym (at_once j above));
  there = there;
  rest = one.rest ∙ ap (λ (k : Relays). record k { gates = b.gates; gate_due = b.gate_due; gate_stirs = b.gate_stirs }) was.rest;
}
  where
    was : EndedBefore cause (Some n) old a
    was = so_far few

    one : GateEnds cause n a b
    one = gate_ends cause n a b stops

    there : (j : ℕ) → IsSome (get b.gates j) → IsSome (get old.gates j)
    there j some =
        was.there j (⊎_elim
        (λ same. subst (λ (i : ℕ). IsSome (get a.gates i)) (sym same) (one.there (subst (λ (i : ℕ). IsSome (get b.gates i)) same some)))
        (λ apart. sym (ap is_some (one.others j apart)) ∙ some) (cases_eq j n))

    gone : (j : ℕ) → n < j → is_before j next ≡ true → get b.gates j ≡ None
    gone j high before = between b.gates n next (λ i some. few i (there i some)) is j high before

    at_once : (j : ℕ) → n < j → get old.gates j ≡ get b.gates j
    at_once j high = sym (one.others j (λ same. omega (arith, same, high)) ∙ was.same j (still_behind n j high))

pub gates_end : (cause : Cause) (old new : Relays) → GatesEnding cause None old new → StopsGates cause old new
gates_end cause old new ending few =
    let all = ending few in
    record { ended = λ n. all.ended n refl; touched = λ n some. all.touched n refl some; rest = all.rest }

-- IN THE MACHINE

stops_away : (cause : Cause) (phase : Phase) → IsGateAway phase → IsGateAway (stops_by cause phase)
stops_away cause gateway.unborn away = tt
stops_away cause gateway.closed away = tt
stops_away cause gateway.opening away = absurd away
stops_away cause gateway.serving away = absurd away
stops_away cause (gateway.faulted code) away = absurd away
stops_away cause (gateway.closing why) away = absurd away

stops_there : (cause : Cause) (phase : Phase) → IsGateThere phase → IsGateThere (stops_by cause phase)
stops_there cause gateway.unborn there = absurd there
stops_there cause gateway.closed there = absurd there
stops_there cause gateway.opening there = tt
stops_there cause gateway.serving there = tt
stops_there cause (gateway.faulted code) there = tt
stops_there cause (gateway.closing why) there = tt

-- they are shown behind the end of the run, and the plain links in front of it
pub gates_shown : (cause : Cause) (g : NodeConfig) (k b : Relays) (x y : Machine) (points : List Point) → StandsFor g x points
    → ShowsRelays g k (outward x) → Steps g x (of_control (point.stopped cause)) y → StopsGates cause k b → ShowsEnding g b x y
gates_shown cause g k b x y points stands shows steps stops = record {
  relays = λ l. subst (λ (relays : Map). ShowsRelay l (get relays l) (x.plain l)) (sym relays_are) (shows.relays l);
  index = subst (λ (ups : Index). IsIndex ups x.plain) (sym (ap (λ (w : Relays). w.ups) all.rest)) shows.index;
  numbered = λ l some. shows.numbered l (ap (λ (relays : Map). is_some (get relays l)) (sym relays_are) ∙ some);
  gates = gates;
  gate_numbered = λ n some. shows.gate_numbered n (by_some n (get k.gates n) refl (all.ended n) some);
  gate_idle = λ n none. by_due n none (get k.gates n) refl (shows.gates n);
}
  where
    all : GatesStop cause k b
    all = stops shows.gate_numbered

    relays_are : b.relays ≡ k.relays
    relays_are = ap (λ (w : Relays). w.relays) all.rest

    gate_is : (n : ℕ) → y.gates n ≡ stopped_for cause (x.gates n)
    gate_is n = ap (λ (w : Machine). w.gates n) steps.3

    gates : (n : ℕ) → ShowsGate n (get b.gates n) (y.gates n)
    gates n = subst (ShowsGate n (get b.gates n)) (sym (gate_is n)) (by (get k.gates n) (shows.gates n) (all.ended n))
      where
        by : (o : Option Gate) → ShowsGate n o (x.gates n) → HasStopped cause o (get b.gates n)
            → ShowsGate n (get b.gates n) (stopped_for cause (x.gates n))
        by None away none = subst (λ (o : Option Gate). ShowsGate n o (stopped_for cause (x.gates n))) (sym none)
            (stops_away cause (x.gates n).phase away)
        by (Some kept) shown (after, enters, is) = subst (λ (o : Option Gate). ShowsGate n o (stopped_for cause (x.gates n))) (sym is) (
          enters.0 ∙ shown.0,
          enters.1 (x.gates n) (gates_of n points)
              (subst (λ (i : ℕ). gateways.StandsFor i (x.gates n) (gates_of n points)) (sym shown.0) (gates_run g x points n stands))
              shown.1 (stopped_for cause (x.gates n)) (steps.2.gates n, refl),
          stops_there cause (x.gates n).phase shown.2,
        )

    by_some : (n : ℕ) (o : Option Gate) → get k.gates n ≡ o → HasStopped cause o (get b.gates n) → IsSome (get b.gates n)
        → IsSome (get k.gates n)
    by_some n None none same some = absurd (false≢true (sym (ap is_some same) ∙ some))
    by_some n (Some kept) is same some = ap is_some is

    by_due : (n : ℕ) → is_touched b.gate_due n ≡ false → (o : Option Gate) → get k.gates n ≡ o → ShowsGate n o (x.gates n)
        → close_due (y.gates n).phase ≡ None
    by_due n none None gone away =
        ap (λ (w : Gateway). close_due w.phase) (gate_is n)
        ∙ close_away (stops_by cause (x.gates n).phase) (stops_away cause (x.gates n).phase away)
    by_due n none (Some kept) is shown = absurd (false≢true (sym none ∙ all.touched n (ap is_some is)))
