-- What the settled law refuses of a plain link, and what it lets.
use Rattle.std.proofs.Common.{◌≡◌, ◌≢◌, inl, inr, ⊎_elim, ℕ, ◌<◌, ◌≤◌, ◌==◌, Bool, true, false, cond, List, [], ◌∷◌, ◌++◌, length, refl, ap, sym, ◌∙◌, subst, arith}
use Rattle.std.proofs.lemmas.Bool.{cond_both, eqb-true, false≢true}
use Rattle.hb_base.specs.declared.door.Door.TheVariants as door
use Rattle.hb_base.specs.declared.door.Why.TheVariants as whys
use Rattle.hb_base.specs.declared.target.Target.{Target}
use Rattle.hb_captured.proofs.Kept.{Keeps, all_keep}
use Rattle.hb_captured.proofs.Stages.{KnowsBy}
use Rattle.hb_captured.specs.Calm as plain_calm
use Rattle.hb_front.specs.Room.{longest_front}
use Rattle.hb_captured.specs.Calm.{IsIdleBy}
use Rattle.hb_captured.specs.Captured.{Captured, Stage, unborn, arriving, fronting, due, opening, live, over, ring_up, ring_down, is_raw, at_stage, no_link}
use Rattle.hb_captured.specs.Part as part
use Rattle.hb_captured.specs.Sides.{header_of, link_came}
use Rattle.hb_gateway.specs.Gateway as gateway
use Rattle.hb_gateway.specs.Gateway.{Phase}
use Rattle.hb_model.specs.declared.config.NodeConfig.{NodeConfig}
use Rattle.hb_ready.specs.Sight.{fresh as born, with_finish, with_read}
use Rattle.hb_ready.specs.declared.link.Link.{Link}
use Rattle.hb_world.specs.Trace.{recv}
use Rattle.hb_world.specs.declared.entry.Entry.{Entry}
use Rattle.hb_world.specs.declared.entry.Entry.TheVariants as e
use Rattle.hb_world.specs.declared.entry.Way.TheVariants as way
use Rattle.hb_proxy.specs.Held.{at_start}
use Rattle.hb_proxy.specs.Load.{most_tunnels}
use Rattle.hb_proxy.specs.Machine.{Machine, plain_local, with_plain}
use Rattle.hb_proxy.specs.Owners.{Owner, nobody, control_plane, plain_link, relay_of, gateway_link, owner}
use Rattle.hb_proxy.specs.PlainWaits.{KeepsUp, KeepsDown, LeavesUpUnread, LeavesUnread, LeavesFrontUnread, LeavesUnshut, LeavesUndialled, LeavesUnclosed, accepted, ReadsNothing, AsksNoUpstream, ReadsOnce}
use Rattle.hb_proxy.specs.Points.{Point, of_plain, plain_of, gates_of}
use Rattle.hb_proxy.specs.Runs.{ControlRests, StandsFor, goes_on}
use Rattle.hb_proxy.specs.Settled.{Reads, PlainSettledBy, RelaySettledBy, IsSettled, SettledIn}
use Rattle.hb_proxy.specs.Ups.{IsRelayOf}
use Rattle.hb_proxy.proofs.Agreed.{ByOwner, told_in, all_agree}
use Rattle.hb_proxy.proofs.GateChanges.{is_gate_born}
use Rattle.hb_proxy.proofs.Gates.{gates_run}
use Rattle.hb_proxy.proofs.Look.{Look, open_now, look}
use Rattle.hb_proxy.proofs.Owned.{whose_in, all_owned}
use Rattle.hb_proxy.proofs.Plain.{plain_runs}
use Rattle.hb_proxy.proofs.PlainChanges.{PlainFits, PlainFitsBy}
use Rattle.hb_proxy.proofs.PlainStays.{RelayOn, RelayBy}
use Rattle.hb_proxy.proofs.Room.{room_for_place, place_alone, one_place}
use Rattle.hb_proxy.proofs.SettledRefused.{none_is, writes_none, reads_full, asks, quiet_link, none_carries, asked, asking, asking_all, quiet_control, control_asleep, asked_so}
use Rattle.hb_proxy.proofs.Sides.{runs_share}
use Rattle.hb_proxy.proofs.Streams.{runs_agree}
use Rattle.hb_proxy.proofs.Tunnels.{unborn_free}

module _ (g : NodeConfig) (x : Machine) (points : List Point) (trace : List Entry) (settled : IsSettled g x points trace) (l : ℕ) where
  plain_at : (stage : Stage) → (x.plain l).stage ≡ stage → PlainSettledBy stage (x.plain l).closed trace l (x.plain l)
  plain_at stage is = subst (λ (s : Stage). PlainSettledBy s (x.plain l).closed trace l (x.plain l)) is (settled.plain l)

  relay_live : (u : ℕ) → (x.plain l).stage ≡ live → IsRelayOf (x.plain l) u → RelaySettledBy live trace u (x.plain l)
  relay_live u is joins = subst (λ (s : Stage). RelaySettledBy s trace u (x.plain l)) is (settled.relays l u joins)

  plain_idle : (stage : Stage) → (x.plain l).stage ≡ stage → IsIdleBy stage (x.plain l)
  plain_idle stage is = subst (λ (s : Stage). IsIdleBy s (x.plain l)) is (settled.plain_quiet l).1

pub keeps_up : KeepsUp
keeps_up g x points trace l u is joins some awake settled =
    writes_none trace u (x.plain l).ways.up.held (relay_live g x points trace settled l u is joins).1 some awake

pub keeps_down : KeepsDown
keeps_down g x points trace l is some awake settled =
    writes_none trace l (x.plain l).ways.down.held (plain_at g x points trace settled l live is).1 some awake

pub leaves_up_unread : LeavesUpUnread
leaves_up_unread g x points trace l u is joins going room awake settled =
    reads_full trace u (ring_down (x.plain l).door) (x.plain l).ways.down (relay_live g x points trace settled l u is joins).0 going room
    awake

pub leaves_unread : LeavesUnread
leaves_unread g x points trace l is going room awake settled =
    reads_full trace l (ring_up (x.plain l).door) (x.plain l).ways.up
    (⊎_elim (λ h. plain_at g x points trace settled l opening h) (λ h. (plain_at g x points trace settled l live h).0) is)
    going room awake

pub leaves_front_unread : LeavesFrontUnread
leaves_front_unread g x points trace l is room awake settled = by (plain_at g x points trace settled l fronting is)
  where
    by : Reads trace l (longest_front ≤ length (x.plain l).front) → ⊥
    by (inl sleeps) = false≢true (sym awake ∙ sleeps)
    by (inr full) = omega (arith, full, room)

pub leaves_unshut : LeavesUnshut
leaves_unshut g x points trace l is may settled =
    let idle = plain_idle g x points trace settled l live is in
    ⊎_elim (λ h. false≢true (sym idle.0 ∙ h)) (λ h. false≢true (sym idle.1 ∙ h)) may

pub leaves_undialled : LeavesUndialled
leaves_undialled g x points trace l is settled = plain_idle g x points trace settled l due is

pub leaves_unclosed : LeavesUnclosed
leaves_unclosed g x points trace l why is late settled =
    let idle = plain_idle g x points trace settled l (over why) is in
    ⊎_elim (λ h. false≢true (sym h ∙ idle.0)) (λ h. none_is (x.plain l).up idle.1 h) late

-- TRACES

-- a link is accepted, and nothing comes
module _ (g : NodeConfig) (to : Target) (s : SettledIn g (accepted to)) where
  abbrev one : Captured
  one = s.machine.plain 2

  whose_is : (n : ℕ) → whose_in s.points n ≡ owner n (accepted to)
  whose_is n = ap (owner n) (sym s.trace_is)

  -- it is open, and was never closed
  fits : PlainFits one (open_now false)
  fits =
      subst (λ (v : Look). PlainFits one v) (ap (look 2) (sym s.trace_is))
      (subst (λ (o : Owner). ByOwner o s.machine 2 (told_in s.points 2)) (whose_is 2)
      ((all_agree g s.machine s.points s.run).each 2))

  -- it has no upstream
  alone : (u : ℕ) → whose_in s.points u ≡ relay_of 2 → ⊥
  alone u is = by (1 == u) (2 == u) (sym (whose_is u) ∙ is)
    where
      by : (a b : Bool) → cond b plain_link (cond a control_plane nobody) ≡ relay_of 2 → ⊥
      by a true is = cc
      by true false is = cc
      by false false is = cc

  -- nor a stream of a link to a gateway
  no_gate : (n : ℕ) → whose_in s.points n ≡ gateway_link → ⊥
  no_gate n is = by (1 == n) (2 == n) (sym (whose_is n) ∙ is)
    where
      by : (a b : Bool) → cond b plain_link (cond a control_plane nobody) ≡ gateway_link → ⊥
      by a true is = cc
      by true false is = cc
      by false false is = cc

  no_stream : is_raw one ≡ false → ⊥
  no_stream on =
      no_gate one.gate ((all_owned g s.machine s.points s.run).gate one.gate (by (s.machine.gates one.gate).phase (λ is.
      unborn_free one.gate (s.machine.gates one.gate) (gates_of one.gate s.points) (gates_run g s.machine s.points one.gate s.run)
      is one.stream ((runs_agree g s.machine s.points s.run).carried 2 on).0)))
    where
      by : (phase : Phase) → (phase ≡ gateway.unborn → ⊥) → is_gate_born phase ≡ true
      by gateway.unborn none = absurd (none refl)
      by _ none = refl

  -- nothing came of it
  none_came : link_came (plain_of 2 s.points) ≡ []
  none_came =
      sym ((runs_share g s.machine s.points s.run).plain 2 (whose_is 2)).came ∙ ap (recv 2) (sym s.trace_is)

  reads : ⊥
  reads = by one.stage fits (s.settled.plain 2) keeps.knows ((all_owned g s.machine s.points s.run).relay 2)
    where
      keeps : Keeps (at_start g) (plain_local s.machine 2) (plain_of 2 s.points)
      keeps = all_keep 2 (at_start g) (plain_local s.machine 2) (plain_of 2 s.points) (plain_runs g s.machine s.points 2 s.run)

      -- it has an upstream, or a stream
      unless : (raw : Bool) → is_raw one ≡ raw → RelayOn raw (whose_in s.points) 2 one.up → ⊥
      unless true is relay = alone one.up relay
      unless false is relay = no_stream is

      by : (stage : Stage) → PlainFitsBy stage one.shut one.closed (open_now false)
          → PlainSettledBy stage one.closed (accepted to) 2 one
          → KnowsBy stage (header_of (plain_of 2 s.points)) (link_came (plain_of 2 s.points)) (plain_local s.machine 2).held one
          → RelayBy stage (is_raw one) (whose_in s.points) 2 one.up → ⊥
      by unborn is settled knows relay = is
      by fronting is (inl sleeps) knows relay = false≢true sleeps
      by fronting is (inr full) knows relay =
          let none : length one.front ≡ 0 = ap (λ (bs : List ℕ). length bs) (sym knows.front ∙ none_came) in omega (arith, full, none)
      by opening is settled knows relay = unless (is_raw one) refl relay
      by live is settled knows relay = unless (is_raw one) refl relay
      by (over why) is settled knows relay = false≢true (ap (λ (v : Look). v.closed) is ∙ settled)
      by _ is settled knows relay = settled

pub reads_nothing : ReadsNothing
reads_nothing g to how waited law = reads g to (law (accepted to) (e.Wait [] how) [] refl waited)

pub asks_no_upstream : AsksNoUpstream
asks_no_upstream g to other bytes how waited law =
    let trace = accepted to ++ e.Came 2 bytes ∷ e.Dialled 3 other (whys.Plain 2) ∷ [] in
    asks g trace 3 refl refl refl (law trace (e.Wait [] how) [] refl waited)

-- A GOOD ONE

module _ (g : NodeConfig) where
  -- the link is accepted, taken in and read
  abbrev arrived : Captured
  arrived = at_stage arriving no_link

  abbrev taken : Captured
  taken = at_stage fronting no_link

  abbrev then : Machine
  then = with_plain 2 (part.entry (e.Accepted 2 door.Plain)) arrived (asking_all g)

  abbrev later : Machine
  later = with_plain 2 part.welcomed taken then

  abbrev last : Machine
  last = with_plain 2 (part.entry (e.Balked (way.Read 2))) taken later

  abbrev points : List Point
  points = asked g ++ of_plain 2 (part.entry (e.Accepted 2 door.Plain)) ∷ of_plain 2 part.welcomed
      ∷ of_plain 2 (part.entry (e.Balked (way.Read 2))) ∷ []

  abbrev trace : List Entry
  trace = accepted g.discovery ++ e.Balked (way.Read 2) ∷ []

  rests : ControlRests (asking g)
  rests = record { no_dial = refl; calm = (quiet_control g).calm }

  -- what holds of it, and of none, holds of each
  each : (P : ℕ → Captured → Type 0) → P 2 taken → ((l : ℕ) → P l no_link) → (l : ℕ) → P l (last.plain l)
  each P here none l = by (l == 2) refl
    where
      by : (b : Bool) → (l == 2) ≡ b → P l (cond b taken (cond b taken (cond b arrived no_link)))
      by true is = subst (λ (n : ℕ). P n taken) (sym (eqb-true l 2 is)) here
      by false is = none l

  other : (k : ℕ) → k ≢ 2 → plain_calm.IsQuiet (later.plain k)
  other k apart = by (k == 2) refl
    where
      by : (b : Bool) → (k == 2) ≡ b → plain_calm.IsQuiet (cond b taken (cond b arrived no_link))
      by true is = absurd (apart (eqb-true k 2 is))
      by false is = (tt, tt)

  quiet_taken : plain_calm.IsQuiet taken
  quiet_taken = ((refl, omega arith), tt)

  -- it has no stream, nor has another one
  raw : (l : ℕ) → is_raw (last.plain l) ≡ true
  raw l = each (λ k c. is_raw c ≡ true) refl (λ k. refl) l

  then_raw : (l : ℕ) → is_raw (later.plain l) ≡ true
  then_raw l = cond_both (l == 2) taken (then.plain l) (λ (c : Captured). is_raw c ≡ true) (λ is. refl)
      (λ is. cond_both (l == 2) arrived no_link (λ (c : Captured). is_raw c ≡ true) (λ other. refl) (λ other. refl))

  runs : 0 < most_tunnels g → StandsFor g last points
  runs some = goes_on taken_in (of_plain 2 (part.entry (e.Balked (way.Read 2)))) (
    (refl, (inl (quiet_taken, refl), omega arith)),
    record {
      birth = tt;
      control = rests;
      links = λ k. quiet_link;
      others = other;
      gates = none_carries false later refl then_raw;
    },
    refl,
  ) refl
    where
      came : StandsFor g then (asked g ++ of_plain 2 (part.entry (e.Accepted 2 door.Plain)) ∷ [])
      came = goes_on (asked_so g) (of_plain 2 (part.entry (e.Accepted 2 door.Plain))) (
        (refl, refl, tt),
        record {
          birth = (refl, refl);
          control = rests;
          links = λ k. quiet_link;
          others = λ k apart. (tt, tt);
          gates = none_carries false (asking_all g) refl (λ l. refl);
        },
        refl,
      ) refl

      taken_in : StandsFor g later (asked g ++ of_plain 2 (part.entry (e.Accepted 2 door.Plain)) ∷ of_plain 2 part.welcomed ∷ [])
      taken_in = goes_on came (of_plain 2 part.welcomed) (refl, room_for_place g then 2 some (place_alone 2 arrived) one_place, refl) refl

-- link 1 behind a finish that moved nothing
abbrev asked_at : Bool → Link
asked_at b = cond b (with_finish true (cond b (born false) (born false))) (cond b (born false) (born false))

-- no link ended
unended : (b c : Bool)
    → (cond c (with_read true (cond c (born true) (asked_at b))) (cond c (born true) (asked_at b))).has_ended ≡ false
unended true true = refl
unended true false = refl
unended false true = refl
unended false false = refl

pub reads_once : ReadsOnce
reads_once g some = record {
  machine = last g;
  points = points g;
  run = runs g some;
  trace_is = refl;
  settled = record {
    control_quiet = quiet_control g;
    links_quiet = λ l. quiet_link;
    doors = λ d. refl;
    control = control_asleep g (points g) (trace g) refl;
    links = λ l. tt;
    ups = λ l s u joins. absurd (omega (arith, joins.0, joins.1));
    plain_quiet = each g (λ l c. plain_calm.IsQuiet c) (quiet_taken g) (λ l. (tt, tt));
    plain = each g (λ l c. PlainSettledBy c.stage c.closed (trace g) l c) (inl refl) (λ l. tt);
    relays = each g (λ l c. (u : ℕ) → IsRelayOf c u → RelaySettledBy c.stage (trace g) u c)
        (λ u joins. absurd (omega (arith, joins.0, joins.1))) (λ l u joins. absurd (omega (arith, joins.0, joins.1)));
    gates_quiet = none_carries false (last g) refl (raw g);
    gates = λ n. tt;
    looks = λ l alive opens. inl (unended (1 == l) (2 == l));
  };
}
