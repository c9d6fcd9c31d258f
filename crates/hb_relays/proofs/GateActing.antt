-- The close of a link to a gateway that is due is one of all links.
use Rattle.std.proofs.Common.{◌≡◌, ◌≢◌, inr, ⊎_elim, ℕ, Bool, true, cond, List, Option, Some, None, is_some, refl, ap, sym, ◌∙◌, subst}
use Rattle.std.proofs.lemmas.Bool.{cases_eq, eq-eqb, false≢true, ne_eqb, or_right}
use Rattle.std.specs.FinMap.{get, insert, remove}
use Rattle.hb_base.specs.declared.cause.Cause.{Cause}
use Rattle.hb_captured.specs.Answer.{key_of}
use Rattle.hb_conn.specs.Connection.{Connection}
use Rattle.hb_gate.specs.Calls as gate
use Rattle.hb_gate.specs.declared.gate.Gate.{Gate}
use Rattle.hb_gateway.specs.Calm.{IsCalm, close_due}
use Rattle.hb_gateway.specs.Gateway.{Gateway, Phase, offers}
use Rattle.hb_gateway.specs.Hears.{all_hear}
use Rattle.hb_gateway.specs.Key.{Key}
use Rattle.hb_gateway.specs.Part.{Part, entry}
use Rattle.hb_gateway.specs.Runs as gateways
use Rattle.hb_map.proofs.Laws.{put_here, put_elsewhere, removed_here, removed_elsewhere, written_where_some}
use Rattle.hb_map.specs.Keyed.{written}
use Rattle.hb_model.specs.declared.config.NodeConfig.{NodeConfig}
use Rattle.hb_proxy.proofs.Gates.{gates_run}
use Rattle.hb_proxy.specs.Machine.{Machine, outward, with_gate as with_gateway}
use Rattle.hb_proxy.specs.Points.{Point, gates_of}
use Rattle.hb_proxy.specs.Runs.{ControlRests, GateLets, GateMayCome, IfThrough, Lets, NoneOffersAmong, PlainLets, RestsAmong, StandsFor, gate_first, is_gate_faulted}
use Rattle.hb_world.specs.declared.act.Act.{Act}
use Rattle.hb_world.specs.declared.act.Act.TheVariants as act
use Rattle.hb_world.specs.declared.entry.Entry.TheVariants as e
use Rattle.hb_relays.specs.Acts.{DoesGate}
use Rattle.hb_relays.specs.Joining.{Gates}
use Rattle.hb_relays.specs.Shows.{ShowsGate, ShowsRelays}
use Rattle.hb_relays.specs.Stirring.{StirsBut, closed_in}
use Rattle.hb_relays.specs.Walks.{GateActs, ShowsGatesBut, closing_as, gate_touched_at}
use Rattle.hb_relays.specs.declared.relays.Relays.{Relays}
use Rattle.hb_relays.proofs.Acting.{calm_by}
use Rattle.hb_relays.proofs.Resting.{Keeps, same_keeps, rests_still}
use Rattle.hb_relays.proofs.Stirs.{gate_gone_stirs}
use Rattle.hb_relays.proofs.Touching.{untouched}
use Rattle.hb_relays.proofs.Walking.{close_away}

-- it is kept no more, and touched
abbrev closed_at : ℕ → Gates → Relays → Relays
closed_at n gates k = gate_touched_at n (record k { gates = gates })

act_first : (phase : Phase) (n : ℕ) (why : Cause) → gate_first phase (e.Closed n why) ≡ true
act_first phase n why = or_right (is_gate_faulted phase) true refl

module _ (k : Relays) (n : ℕ) (kept after : Gate) (why : Cause) (is : get k.gates n ≡ Some kept) (numbered : after.number ≡ kept.number)
    (acts : gate.OnEach kept (λ x. IsCalm x → gate.Goes (entry (e.Closed n why)) x after)) (g : NodeConfig) (x : Machine)
    (points : List Point) (stands : StandsFor g x points) (shows : ShowsGatesBut g n k (outward x)) (rests : ControlRests x.control)
    (lets : (j : ℕ) → Lets true (x.inbound j)) where
  shown : ShowsGate n (Some kept) (x.gates n)
  shown = subst (λ (o : Option Gate). ShowsGate n o (x.gates n)) is (shows.gates n)

  goes : gate.Goes (entry (e.Closed n why)) (x.gates n) after
  goes = acts (x.gates n) (gates_of n points)
      (subst (λ (i : ℕ). gateways.StandsFor i (x.gates n) (gates_of n points)) (sym shown.0) (gates_run g x points n stands))
      shown.1 (shows.calm.gates n)

  abbrev p : Part
  p = entry (e.Closed n why)

  abbrev next : Gateway
  next = gateways.entered (e.Closed n why) (all_hear p (x.gates n))

  abbrev y : Machine
  y = with_gateway n p next x

  guard : GateMayCome x n (e.Closed n why)
  guard = record {
    birth = tt;
    control = rests;
    links = λ j. subst (λ (first : Bool). Lets first (x.inbound j)) (sym (act_first (x.gates n).phase n why)) (lets j);
    plain = λ j. subst (λ (first : Bool). PlainLets first (x.plain j)) (sym (act_first (x.gates n).phase n why))
        (calm_by j (get k.relays j) (x.plain j) (shows.relays j));
    others = λ j apart. subst (λ (first : Bool). GateLets first (x.gates j)) (sym (act_first (x.gates n).phase n why)) (shows.calm.gates j);
    streams = shows.calm.streams;
  }

  here : y.gates n ≡ next
  here = ap (λ (t : Bool). cond t next (x.gates n)) (eq-eqb n n refl)

  there : (j : ℕ) → j ≢ n → y.gates j ≡ x.gates j
  there j apart = ap (λ (t : Bool). cond t next (x.gates j)) (ne_eqb j n apart)

  conn_same : (m : ℕ) → (y.gates m).conn ≡ (x.gates m).conn
  conn_same m = ⊎_elim
      (λ at. subst (λ (i : ℕ). (y.gates i).conn ≡ (x.gates i).conn) (sym at) (ap (λ (w : Gateway). w.conn) here))
      (λ apart. ap (λ (w : Gateway). w.conn) (there m apart)) (cases_eq m n)

  rest_on : (l : ℕ) → RestsAmong y.gates (x.plain l)
  rest_on l on =
      let m = (x.plain l).gate in
      rests_still (x.plain l).stage (x.plain l) (x.gates m) (y.gates m)
      (subst (λ (c : Connection). Keeps (x.gates m).conn c (x.plain l).stream) (sym (conn_same m)) (same_keeps (x.gates m).conn (x.plain l).stream))
      (shows.calm.streams l on)

  offers_none : (key : Key) → NoneOffersAmong x.gates key → NoneOffersAmong y.gates key
  offers_none key none m keyed = ⊎_elim
      (λ at. ap (λ (i : ℕ). offers (y.gates i)) at ∙ ap offers here)
      (λ apart. ap offers (there m apart) ∙ none m (ap (λ (w : Gateway). w.key) (sym (there m apart)) ∙ keyed)) (cases_eq m n)

  wants_none : (o : Option Key) → IfThrough o (NoneOffersAmong x.gates) → IfThrough o (NoneOffersAmong y.gates)
  wants_none None none = tt
  wants_none (Some key) none = offers_none key none

  pub closes : (gates : Gates) → ((j : ℕ) → j ≢ n → get gates j ≡ get k.gates j) → get gates n ≡ None
      → DoesGate (closed_at n gates k) g x n p
  closes gates same gone = record {
    y = y;
    steps = (
      next,
      subst (λ (i : ℕ). gateways.Steps i (x.gates n) p next) (numbered ∙ shown.0)
          (goes.steps.0, refl),
      guard,
      refl,
    );
    shows = record {
      relays = shows.relays;
      index = shows.index;
      numbered = shows.numbered;
      idle = shows.idle;
      counted = shows.counted;
      gates = λ m. ⊎_elim
          (λ at. subst (λ (i : ℕ). ShowsGate i (get gates i) (y.gates i)) (sym at)
          (subst (λ (o : Option Gate). ShowsGate n o (y.gates n)) (sym gone) (subst (ShowsGate n None) (sym here) tt)))
          (λ apart. subst (λ (o : Option Gate). ShowsGate m o (y.gates m)) (sym (same m apart))
          (subst (ShowsGate m (get k.gates m)) (sym (there m apart)) (shows.gates m)))
          (cases_eq m n);
      gate_numbered = λ m some. ⊎_elim
          (λ at. absurd (false≢true (sym (ap (λ (i : ℕ). is_some (get gates i)) at ∙ ap is_some gone) ∙ some)))
          (λ apart. shows.gate_numbered m (sym (ap is_some (same m apart)) ∙ some)) (cases_eq m n);
      gate_idle = λ m none. (let was = untouched n k.gate_due m none in
          ap (λ (w : Gateway). close_due w.phase) (there m was.0) ∙ shows.gate_idle m was.0 was.1);
      calm = record {
        gates = λ m. ⊎_elim
            (λ at. subst (λ (i : ℕ). IsCalm (y.gates i)) (sym at) (subst IsCalm (sym here) ((shows.calm.gates n).0, tt)))
            (λ apart. subst IsCalm (sym (there m apart)) (shows.calm.gates m)) (cases_eq m n);
        streams = rest_on;
      };
      wanting = λ l waits. wants_none (key_of (x.plain l).aim) (shows.wanting l waits);
    };
  }

-- as the code comes to it: the close is of the link of this number
pub gate_gives : (k new : Relays) (gates : Gates) (n : ℕ) (kept after : Gate) (given : Act) → get k.gates n ≡ Some kept
    → gates ≡ written k.gates n after → new ≡ gate_touched_at n (record k { gates = remove gates n }) → gate.Acts (Some given) kept after
    → GateActs n (Some (closing_as n given)) k new
gate_gives k new gates n kept after (act.Dial to why) is gates_is new_is acts = absurd acts
gate_gives k new gates n kept after (act.Shut u) is gates_is new_is acts = absurd acts
gate_gives k new gates n kept after (act.Close u why) is gates_is new_is acts = λ g x points stands shows rests lets.
    let shown = subst (λ (o : Option Gate). ShowsGate n o (x.gates n)) is (shows.gates n) in
    let at : u ≡ n = acts.0 ∙ shown.0 in
    let all = gates_is ∙ written_where_some k.gates n after (ap is_some is) in
    inr (inr (subst (λ (m : Relays). DoesGate m g x n (entry (e.Closed n why))) (sym new_is)
    (closes k n kept after why is acts.1
    (subst (λ (i : ℕ). gate.OnEach kept (λ w. IsCalm w → gate.Goes (entry (e.Closed i why)) w after)) at acts.2) g x points stands shows
    rests lets (remove gates n)
    (λ j apart. removed_elsewhere gates n j apart ∙ ap (λ (m : Gates). get m j) all ∙ put_elsewhere k.gates n after j apart)
    (removed_here gates n))))

pub gate_given_stirs : (k new : Relays) (gates : Gates) (n : ℕ) (kept after : Gate) (given : Act) → gates ≡ written k.gates n after
    → new ≡ gate_touched_at n (record k { gates = remove gates n }) → gate.Acts (Some given) kept after
    → StirsBut (closed_in (Some (closing_as n given))) k new
gate_given_stirs k new gates n kept after (act.Dial to why) gates_is new_is acts = absurd acts
gate_given_stirs k new gates n kept after (act.Shut u) gates_is new_is acts = absurd acts
gate_given_stirs k new gates n kept after (act.Close u why) gates_is new_is acts =
    λ i apart. gate_gone_stirs k new gates n after gates_is new_is i (λ same. apart (ap Some (sym same)))

-- where none is due all are shown still
pub none_gives : (k new : Relays) (gates : Gates) (n : ℕ) (kept after : Gate) → get k.gates n ≡ Some kept
    → gates ≡ written k.gates n after → new ≡ record k { gates = gates } → gate.Acts None kept after → GateActs n None k new
none_gives k new gates n kept after is gates_is new_is acts = (
  ap (λ (m : Relays). m.due) new_is,
  ap (λ (m : Relays). m.gate_due) new_is,
  λ g x points stands shows. subst (λ (m : Relays). ShowsRelays g m (outward x)) (sym new_is) (still g x points stands shows),
)
  where
    all : gates ≡ insert k.gates n kept
    all = gates_is ∙ written_where_some k.gates n after (ap is_some is) ∙ ap (insert k.gates n) acts.0

    same : (j : ℕ) → get gates j ≡ get k.gates j
    same j = ⊎_elim
        (λ at. ap (λ (m : Gates). get m j) all ∙ ap (get (insert k.gates n kept)) at ∙ put_here k.gates n kept ∙ sym is
        ∙ ap (get k.gates) (sym at))
        (λ apart. ap (λ (m : Gates). get m j) all ∙ put_elsewhere k.gates n kept j apart) (cases_eq j n)

    still : (g : NodeConfig) (x : Machine) (points : List Point) → StandsFor g x points → ShowsGatesBut g n k (outward x)
        → ShowsRelays g (record k { gates = gates }) (outward x)
    still g x points stands shows =
        let shown = subst (λ (o : Option Gate). ShowsGate n o (x.gates n)) is (shows.gates n) in
        record {
          relays = shows.relays;
          index = shows.index;
          numbered = shows.numbered;
          idle = shows.idle;
          counted = shows.counted;
          gates = λ m. subst (λ (o : Option Gate). ShowsGate m o (x.gates m)) (sym (same m)) (shows.gates m);
          gate_numbered = λ m some. shows.gate_numbered m (sym (ap is_some (same m)) ∙ some);
          gate_idle = λ m none. ⊎_elim
              (λ at. subst (λ (i : ℕ). close_due (x.gates i).phase ≡ None) (sym at)
              (acts.1 (x.gates n) (gates_of n points)
              (subst (λ (i : ℕ). gateways.StandsFor i (x.gates n) (gates_of n points)) (sym shown.0) (gates_run g x points n stands))
              shown.1))
              (λ apart. shows.gate_idle m apart none) (cases_eq m n);
          calm = shows.calm;
          wanting = shows.wanting;
        }

-- nor where it isn't kept
pub gone_gives : (k : Relays) (n : ℕ) → get k.gates n ≡ None → GateActs n None k k
gone_gives k n gone = (
  refl,
  refl,
  λ g x points stands shows. record {
    relays = shows.relays;
    index = shows.index;
    numbered = shows.numbered;
    idle = shows.idle;
    counted = shows.counted;
    gates = shows.gates;
    gate_numbered = shows.gate_numbered;
    gate_idle = λ m none. ⊎_elim
        (λ at. subst (λ (i : ℕ). close_due (x.gates i).phase ≡ None) (sym at)
        (close_away (x.gates n).phase (subst (λ (o : Option Gate). ShowsGate n o (x.gates n)) gone (shows.gates n))))
        (λ apart. shows.gate_idle m apart none) (cases_eq m n);
    calm = shows.calm;
    wanting = shows.wanting;
  },
)
