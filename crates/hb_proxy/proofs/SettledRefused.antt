-- What the settled law refuses, and what it lets.
use Rattle.std.proofs.Common.{◌≡◌, inl, inr, ℕ, ◌<◌, ◌==◌, Bool, true, false, cond, List, [], ◌∷◌, length, refl, ap, sym, ◌∙◌, subst, arith}
use Rattle.std.proofs.lemmas.Bool.{cond_both, eqb-true, false≢true}
use Rattle.hb_base.specs.declared.door.Door.TheVariants as door
use Rattle.hb_base.specs.declared.door.Why.TheVariants as whys
use Rattle.hb_captured.specs.Captured as plain
use Rattle.hb_captured.specs.Captured.{Captured, is_raw}
use Rattle.hb_conn.specs.Observed as connection
use Rattle.hb_gateway.specs.Calm as gateway_calm
use Rattle.hb_gateway.specs.Gateway as gateway
use Rattle.hb_gateway.specs.Gateway.{Gateway}
use Rattle.hb_inbound.specs.Calm.{LiveRests, IsQuiet, RestsIn, RestsBy, IsIdleBy}
use Rattle.hb_inbound.specs.Inbound as link
use Rattle.hb_inbound.specs.Inbound.{Inbound, no_link, serving}
use Rattle.hb_inbound.specs.Tunnel as t
use Rattle.hb_inbound.specs.Tunnel.{Tunnel, Stage, live}
use Rattle.hb_model.specs.Discovery as discovery
use Rattle.hb_model.specs.Discovery.{Discovery}
use Rattle.hb_model.specs.Machine as control
use Rattle.hb_model.specs.Point as point
use Rattle.hb_model.specs.Runs as model
use Rattle.hb_model.specs.Runs.{IsCalmBy}
use Rattle.hb_model.specs.declared.config.NodeConfig.{NodeConfig}
use Rattle.hb_ready.specs.Sight.{asleep, fresh as born, has_ended, is_open, with_finish}
use Rattle.hb_tunnel.specs.Tunnel.{down_size}
use Rattle.hb_tunnel.specs.Way.{Way}
use Rattle.hb_world.specs.Trace.{lives}
use Rattle.hb_world.specs.declared.entry.Entry.{Entry}
use Rattle.hb_world.specs.declared.entry.Entry.TheVariants as e
use Rattle.hb_world.specs.declared.entry.ReadyItem.TheVariants as item
use Rattle.hb_world.specs.declared.entry.Way.TheVariants as way
use Rattle.hb_proxy.specs.Doors.{without_doors, TellSame}
use Rattle.hb_proxy.specs.Machine.{Machine, fresh, with_control}
use Rattle.hb_proxy.specs.Points.{Point, of_control}
use Rattle.hb_proxy.specs.Runs.{GateLets, GatesLet, StandsFor, begins, goes_on}
use Rattle.hb_proxy.specs.Seen.{Seen, HasLink, IsThere, IsGateThere, GateOpenBy, OpenBy, UpOpenBy, RelayOpenBy}
use Rattle.hb_proxy.specs.Settled.{Reads, Writes, Finishes, Looks, IsCrowded, IsFull, TakesNoMore, ControlSettledBy, LinkSettledBy, UpSettledBy, RelaySettledBy, GateSettledBy, IsSettled, SettledIn}
use Rattle.hb_proxy.specs.SettledRefused.{HasLive, KeepsDown, KeepsUp, LeavesUnread, KeepsCredit, LeavesUnshut, LeavesUnended, LeavesUndialled}
use Rattle.hb_proxy.specs.SettledRefused.{LeavesUnwritten, LeavesLinkUnread, LeavesUnlooked, AsksNothing, AcceptsNothing, AsksOnce}
use Rattle.hb_proxy.specs.Ups.{Joins}
use Rattle.hb_proxy.proofs.Doors.{doors_tell_none}
use Rattle.hb_proxy.proofs.Seen.{runs_are_seen}

-- A TUNNEL

module _ (g : NodeConfig) (x : Machine) (points : List Point) (trace : List Entry) (settled : IsSettled g x points trace) where
  module _ (l s : ℕ) (has : HasLive x l s) where
    lives_rest : LiveRests (x.inbound l).conn s ((x.inbound l).tunnels s)
    lives_rest =
        subst (λ (r : Stage). RestsBy r (x.inbound l).conn s ((x.inbound l).tunnels s)) has.live
        ((subst (λ (p : link.Phase). RestsIn p (x.inbound l)) has.serving (settled.links_quiet l).calm.rests).1 s)

    idle_live : t.may_shut ((x.inbound l).tunnels s) ≡ false
    idle_live = subst (λ (r : Stage). IsIdleBy r ((x.inbound l).tunnels s)) has.live ((settled.links_quiet l).idle s)

    up_live : (u : ℕ) → Joins ((x.inbound l).tunnels s) u
        → Reads trace u (TakesNoMore ((x.inbound l).tunnels s)) × Writes trace u (((x.inbound l).tunnels s).ways.up.held ≡ [])
    up_live u joins =
        subst (λ (r : Stage). UpSettledBy r trace u ((x.inbound l).tunnels s)) has.live (settled.ups l s u joins)

  link_serves : (l : ℕ) → (x.inbound l).phase ≡ serving
      → Reads trace l (IsCrowded (x.inbound l).conn) × Writes trace l (connection.output (x.inbound l).conn ≡ [])
  link_serves l is = subst (λ (p : link.Phase). LinkSettledBy p trace l (x.inbound l)) is (settled.links l)

pub none_is : (n : ℕ) → n ≡ 0 → 0 < n → ⊥
none_is n none some = omega (arith, none, some)

some_waits : (bytes : List ℕ) → bytes ≡ [] → 0 < length bytes → ⊥
some_waits bytes none some = none_is (length bytes) (ap (λ (xs : List ℕ). length xs) none) some

pub writes_none : (trace : List Entry) (l : ℕ) (bytes : List ℕ) → Writes trace l (bytes ≡ []) → 0 < length bytes
    → asleep (way.Write l) trace ≡ false → ⊥
writes_none trace l bytes (inl sleeps) some awake = false≢true (sym awake ∙ sleeps)
writes_none trace l bytes (inr none) some awake = some_waits bytes none some

pub keeps_down : KeepsDown
keeps_down g x points trace l s has some settled =
    none_is (connection.count_put (x.inbound l).conn s ((x.inbound l).tunnels s).ways.down.held)
    (lives_rest g x points trace settled l s has).none_goes some

pub keeps_up : KeepsUp
keeps_up g x points trace l s u has joins some awake settled =
    writes_none trace u ((x.inbound l).tunnels s).ways.up.held (up_live g x points trace settled l s has u joins).1 some awake

pub reads_full : (trace : List Entry) (l size : ℕ) (w : Way) → Reads trace l (IsFull size w) → w.has_ended ≡ false → length w.held < size
    → asleep (way.Read l) trace ≡ false → ⊥
reads_full trace l size w (inl sleeps) going room awake = false≢true (sym awake ∙ sleeps)
reads_full trace l size w (inr (inl ended)) going room awake = false≢true (sym going ∙ ended)
reads_full trace l size w (inr (inr full)) going room awake = omega (arith, full, room)

pub leaves_unread : LeavesUnread
leaves_unread g x points trace l s u has joins going room awake settled =
    reads_full trace u down_size ((x.inbound l).tunnels s).ways.down (up_live g x points trace settled l s has u joins).0 going room awake

pub keeps_credit : KeepsCredit
keeps_credit g x points trace l s has some settled =
    none_is ((x.inbound l).tunnels s).owed (lives_rest g x points trace settled l s has).given_back some

pub leaves_unshut : LeavesUnshut
leaves_unshut g x points trace l s has may settled = false≢true (sym (idle_live g x points trace settled l s has) ∙ may)

pub leaves_unended : LeavesUnended
leaves_unended g x points trace l s has may settled =
    false≢true (sym (lives_rest g x points trace settled l s has).not_ended ∙ may)

pub leaves_undialled : LeavesUndialled
leaves_undialled g x points trace l s is settled =
    subst (λ (r : Stage). IsIdleBy r ((x.inbound l).tunnels s)) is ((settled.links_quiet l).idle s)

-- A LINK

pub leaves_unwritten : LeavesUnwritten
leaves_unwritten g x points trace l is some awake settled =
    writes_none trace l (connection.output (x.inbound l).conn) (link_serves g x points trace settled l is).1 some awake

pub leaves_link_unread : LeavesLinkUnread
leaves_link_unread g x points trace l is few awake settled = by (link_serves g x points trace settled l is).0
  where
    by : Reads trace l (IsCrowded (x.inbound l).conn) → ⊥
    by (inl sleeps) = false≢true (sym awake ∙ sleeps)
    by (inr many) = omega (arith, few, many)

pub leaves_unlooked : LeavesUnlooked
leaves_unlooked g x points trace l alive opens ended awake settled = by (settled.looks l alive opens)
  where
    by : Looks trace l → ⊥
    by (inl sends) = false≢true (sym sends ∙ ended)
    by (inr sleeps) = false≢true (sym awake ∙ sleeps)

-- TRACES

-- a link that lives and isn't open is asleep for finishing
module _ (g : NodeConfig) (trace : List Entry) (n : ℕ) (alive : lives n trace ≡ true) (pending : is_open n trace ≡ false)
    (awake : asleep (way.Finish n) trace ≡ false) where
  never : Finishes trace n → ⊥
  never sleeps = false≢true (sym awake ∙ sleeps)

  control_asks : (points : List Point) (phase : discovery.Phase) (y : Discovery) → IsThere phase → OpenBy phase false
      → ControlSettledBy g points phase trace n y → ⊥
  control_asks points discovery.unborn y there opens settled = there
  control_asks points discovery.closed y there opens settled = there
  control_asks points discovery.dialling y there opens settled = never settled
  control_asks points discovery.live y there opens settled = false≢true opens
  control_asks points (discovery.faulted code) y there opens settled = settled
  control_asks points (discovery.ending why) y there opens settled = settled

  up_asks : (stage : Stage) (y : Tunnel) → UpOpenBy stage false → UpSettledBy stage trace n y → ⊥
  up_asks t.opening y opens settled = never settled
  up_asks t.live y opens settled = false≢true opens
  up_asks _ y opens settled = settled

  relay_asks : (stage : plain.Stage) (y : Captured) → RelayOpenBy stage false → RelaySettledBy stage trace n y → ⊥
  relay_asks plain.opening y opens settled = never settled
  relay_asks plain.live y opens settled = false≢true opens
  relay_asks _ y opens settled = settled

  gate_asks : (phase : gateway.Phase) (y : Gateway) → IsGateThere phase → GateOpenBy phase false → GateSettledBy phase trace n y → ⊥
  gate_asks gateway.unborn y there opens settled = there
  gate_asks gateway.closed y there opens settled = there
  gate_asks gateway.opening y there opens settled = never settled
  gate_asks gateway.serving y there opens settled = false≢true opens
  gate_asks (gateway.faulted code) y there opens settled = settled
  gate_asks (gateway.closing why) y there opens settled = settled

  pub asks : SettledIn g trace → ⊥
  asks s = by (seen.has n (same.lives n ∙ alive))
    where
      same : TellSame trace (without_doors trace)
      same = doors_tell_none trace

      seen : Seen s.machine (without_doors trace)
      seen = subst (λ (zs : List Entry). Seen s.machine zs) (sym s.trace_is) (runs_are_seen g s.machine s.points s.run)

      shut : is_open n (without_doors trace) ≡ false
      shut = same.is_open n ∙ pending

      by : HasLink s.machine n → ⊥
      by (inl there) =
          let one = s.machine.control.links n in
          control_asks s.points one.phase one there (subst (OpenBy one.phase) shut (seen.control_open n)) (s.settled.control n)
      by (inr (inl there)) = false≢true (sym shut ∙ (seen.link n there).1)
      by (inr (inr (inl (k, q, joins)))) =
          let tunnel = (s.machine.inbound k).tunnels q in
          up_asks tunnel.stage tunnel (subst (UpOpenBy tunnel.stage) shut (seen.up k q n joins).2) (s.settled.ups k q n joins)
      by (inr (inr (inr (inl (inl there))))) = false≢true (sym shut ∙ (seen.plain.link n there).1)
      by (inr (inr (inr (inl (inr (k, joins)))))) =
          let one = s.machine.plain k in
          relay_asks one.stage one (subst (RelayOpenBy one.stage) shut (seen.plain.up k n joins).2) (s.settled.relays k n joins)
      by (inr (inr (inr (inr there)))) =
          let one = s.machine.gates n in
          gate_asks one.phase one there (subst (GateOpenBy one.phase) shut (seen.gates.link_open n there)) (s.settled.gates n)

pub asks_nothing : AsksNothing
asks_nothing g to how waited law =
    let trace = e.Dialled 1 to whys.Discovery ∷ [] in
    asks g trace 1 refl refl refl (law trace (e.Wait [] how) [] refl waited)

pub accepts_nothing : AcceptsNothing
accepts_nothing g how then waited law =
    let s = law (e.Wait (item.Door door.Inbound ∷ []) how ∷ []) (e.Wait [] then) [] refl waited in
    false≢true (sym (s.settled.doors door.Inbound))

-- A GOOD ONE

pub quiet_link : IsQuiet no_link
quiet_link = record { calm = record { answered = λ s. refl; rests = tt }; no_close = refl; idle = λ s. tt }

-- no link to a gateway is there, and no plain link has a stream
pub none_carries : (first : Bool) (x : Machine) → x.gates ≡ (λ g. gateway.no_link) → ((l : ℕ) → is_raw (x.plain l) ≡ true)
    → GatesLet first x
none_carries first x none raw = record {
  gates = λ g. by first (x.gates g) (ap (λ (f : ℕ → Gateway). f g) none);
  streams = λ l on. absurd (false≢true (sym on ∙ raw l));
}
  where
    calm : gateway_calm.IsCalm gateway.no_link
    calm = (λ s. refl, tt)

    by : (first : Bool) (y : Gateway) → y ≡ gateway.no_link → GateLets first y
    by true y is = subst gateway_calm.IsCalm (sym is) calm
    by false y is = subst gateway_calm.IsQuiet (sym is) (record { calm = calm; no_close = refl })

-- the control plane is dialled, and asked whether it is open
module _ (g : NodeConfig) where
  abbrev pub dial : Entry
  dial = e.Dialled 1 g.discovery whys.Discovery

  abbrev pub balk : Entry
  balk = e.Balked (way.Finish 1)

  abbrev pub asked : List Point
  asked = of_control (point.entry dial) ∷ of_control (point.entry balk) ∷ []

  abbrev pub asking : control.Machine
  asking = control.entered g dial (control.fresh g)

  abbrev pub asking_all : Machine
  asking_all = with_control (point.entry dial) asking (fresh g)

  abbrev fresh_one : Discovery
  fresh_one = discovery.dialled g.id g.discovery (control.fresh g).held

  pub quiet_control : model.IsQuiet asking
  quiet_control = record {
    no_dial = refl;
    goes = refl;
    calm = λ l. cond_both (1 == l) fresh_one discovery.no_link (λ (d : Discovery). IsCalmBy d.phase d) (λ is. tt) (λ is. tt);
  }

  -- it sleeps, whatever else the trace tells
  pub control_asleep : (points : List Point) (trace : List Entry) → asleep (way.Finish 1) trace ≡ true → (l : ℕ)
      → ControlSettledBy g points (asking.links l).phase trace l (asking.links l)
  control_asleep points trace sleeps l =
      cond_both (1 == l) fresh_one discovery.no_link (λ (d : Discovery). ControlSettledBy g points d.phase trace l d)
      (λ is. subst (λ (n : ℕ). asleep (way.Finish n) trace ≡ true) (eqb-true 1 l is) sleeps) (λ is. tt)

  dialled_so : StandsFor g asking_all (of_control (point.entry dial) ∷ [])
  dialled_so =
      goes_on (begins refl refl) (of_control (point.entry dial)) (
        asking,
        ((refl, omega arith, refl, refl), refl),
        record { birth = refl; links = λ l. quiet_link.calm; plain = λ l. tt; gates = none_carries true (fresh g) refl (λ l. refl) },
        refl,
      ) refl

  pub asked_so : StandsFor g asking_all asked
  asked_so =
      goes_on dialled_so (of_control (point.entry balk)) (
        asking,
        ((refl, (quiet_control, refl)), refl),
        record {
          birth = tt;
          links = λ l. quiet_link;
          plain = λ l. (tt, tt);
          gates = none_carries false asking_all refl (λ l. refl);
        },
        refl,
      ) refl

-- no link ended
unended : (b : Bool)
    → (cond b (with_finish true (cond b (born false) (born false))) (cond b (born false) (born false))).has_ended ≡ false
unended true = refl
unended false = refl

pub asks_once : AsksOnce
asks_once g = record {
  machine = asking_all g;
  points = asked g;
  run = asked_so g;
  trace_is = refl;
  settled = record {
    control_quiet = quiet_control g;
    links_quiet = λ l. quiet_link;
    doors = λ d. refl;
    control = control_asleep g (asked g) (dial g ∷ balk g ∷ []) refl;
    links = λ l. tt;
    ups = λ l s u joins. absurd (omega (arith, joins.0, joins.1));
    plain_quiet = λ l. (tt, tt);
    plain = λ l. tt;
    relays = λ l u joins. absurd (omega (arith, joins.0, joins.1));
    gates_quiet = none_carries false (asking_all g) refl (λ l. refl);
    gates = λ n. tt;
    looks = λ l alive opens. inl (unended (1 == l));
  };
}
