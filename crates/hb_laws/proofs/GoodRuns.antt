-- Runs whose traces are lawful.
use Rattle.std.proofs.Common.{◌≡◌, ◌≢◌, inl, inr, ⊎_elim, ℕ, zero, suc, ◌<◌, ◌≤◌, ◌==◌, Bool, true, false, cond, List, [], ◌∷◌, ◌++◌, length, Some, None, refl, ap, sym, ◌∙◌, subst, arith}
use Rattle.std.specs.FinMap.{len-empty}
use Rattle.std.specs.List.{list_all}
use Rattle.std.specs.Ordering.{nat_cmp}
use Rattle.std.specs.Prelude.{nat_lt}
use Rattle.std.proofs.lemmas.Bool.{cases_eq, cond_both, eq-eqb, false≢true, ltb-true, ne_eqb}
use Rattle.hb_base.specs.declared.cause.Cause.{Cause}
use Rattle.hb_base.specs.declared.cause.Cause.TheVariants as cause
use Rattle.hb_base.specs.declared.door.Door.{Door}
use Rattle.hb_base.specs.declared.door.Door.TheVariants as door
use Rattle.hb_captured.specs.Answer.{Routing, answer_on, refused_with}
use Rattle.hb_captured.specs.Calm as plain_calm
use Rattle.hb_captured.specs.Captured as plain
use Rattle.hb_captured.specs.Captured.{peer_noted, is_raw}
use Rattle.hb_captured.specs.Part as captured
use Rattle.hb_captured.specs.Runs.{Captures, MayGo, next_link, verdict_note}
use Rattle.hb_conn.specs.Connection.{fresh_server, taken}
use Rattle.hb_conn.specs.Observed.{streams_open}
use Rattle.hb_front.specs.Faults.{number_of}
use Rattle.hb_front.specs.Reading.{Seen, IsAnswer, Whole, More}
use Rattle.hb_front.specs.Written.{header_of, front_text}
use Rattle.hb_front.specs.declared.fault.FrontFault.TheVariants.{BadSignature}
use Rattle.hb_frames.specs.Frames.{AreOctets}
use Rattle.hb_gateway.specs.Gateway as gateway
use Rattle.hb_inbound.specs.Calm.{IsCalm, IsQuiet, close_due}
use Rattle.hb_inbound.specs.Inbound.{Inbound, no_link, arriving, fronting, closing, closed, with_phase, fronted_by, came, link_ended}
use Rattle.hb_inbound.specs.Part as part
use Rattle.hb_inbound.specs.Part.{Part}
use Rattle.hb_model.specs.Machine as control
use Rattle.hb_model.specs.Point as point
use Rattle.hb_model.specs.Runs as model
use Rattle.hb_model.specs.Runs.{IsCalmBy}
use Rattle.hb_model.specs.declared.config.NodeConfig.{NodeConfig}
use Rattle.hb_streams.specs.declared.sides.Sides.{Sides}
use Rattle.hb_world.specs.declared.entry.Entry.{Entry}
use Rattle.hb_world.specs.declared.entry.Entry.TheVariants as e
use Rattle.hb_world.specs.declared.entry.ReadyItem.TheVariants as item
use Rattle.hb_world.specs.declared.entry.Way.TheVariants as way
use Rattle.hb_world.specs.declared.entry.Woken.TheVariants as woken
use Rattle.hb_proxy.proofs.Room.{room_for_link, room_for_place, link_alone, place_alone, one_place}
use Rattle.hb_proxy.specs.Load.{most_links, most_tunnels}
use Rattle.hb_proxy.specs.Machine.{Machine, fresh, plain_local, with_control, with_part, with_plain}
use Rattle.hb_proxy.specs.Points.{Point, of_control, of_link, of_plain}
use Rattle.hb_proxy.specs.Runs.{goes_first, BirthMayCome, Lets, PlainLets, GateLets, GatesLet, ControlRests, PlainGuard, routing_of, StandsFor, begins, goes_on}
use Rattle.hb_laws.specs.Good.{good_trace, GoodTraceIsLawful, good_link, GoodLinkIsLawful, source, destination, good_end, GoodEndIsLawful, good_plain, GoodPlainIsLawful, good_refusal, GoodRefusalIsLawful, good_unsynced, GoodUnsyncedIsLawful}
use Rattle.hb_laws.specs.Refused.{dials, fails, waits, waits_tick, balks}
use Rattle.hb_laws.specs.RefusedLinks.{accepts}
use Rattle.hb_laws.proofs.Runs.{run_is_lawful}
use Rattle.hb_laws.proofs.Tests.{and_both}

-- a link that was never born is quiet
calm : IsCalm no_link
calm = record { answered = λ s. refl; rests = tt }

quiet : IsQuiet no_link
quiet = record { calm = calm; no_close = refl; idle = λ s. tt }

-- a link to a gateway that was never born is too, and no plain link has a stream of one
gate_lets : (first : Bool) → GateLets first gateway.no_link
gate_lets true = (λ s. refl, tt)
gate_lets false = record { calm = (λ s. refl, tt); no_close = refl }

bare : (x : Machine) → ((n : ℕ) → x.gates n ≡ gateway.no_link) → ((l : ℕ) → is_raw (x.plain l) ≡ true) → (first : Bool) → GatesLet first x
bare x none raw first = record {
  gates = λ n. subst (GateLets first) (sym (none n)) (gate_lets first);
  streams = λ l on. absurd (false≢true (sym on ∙ raw l));
}

-- octets, by a test of each
are_octets : (bytes : List ℕ) → list_all (λ b. nat_lt b 256) bytes ≡ true → AreOctets bytes
are_octets [] all i = omega arith
are_octets (b ∷ bytes) all zero = ltb-true b 256 (and_both (nat_lt b 256) (list_all (λ b. nat_lt b 256) bytes) all).0
are_octets (b ∷ bytes) all (suc i) = are_octets bytes (and_both (nat_lt b 256) (list_all (λ b. nat_lt b 256) bytes) all).1 i

-- no stream of a new connection is open
none_open : streams_open (taken fresh_server []) ≡ 0
none_open = len-empty nat_cmp Sides

module _ (g : NodeConfig) where
  -- an entry of the control plane leads the machine on
  abbrev on : Entry → Machine → Machine
  on z x = with_control (point.entry z) (control.entered g z x.control) x

  goes : (x : Machine) (points : List Point) (z : Entry) → StandsFor g x points → model.MayCome g x.control z → BirthMayCome x z
      → ((l : ℕ) → Lets (goes_first x.control z) (x.inbound l)) → ((l : ℕ) → PlainLets (goes_first x.control z) (x.plain l))
      → GatesLet (goes_first x.control z) x
      → StandsFor g (on z x) (points ++ of_control (point.entry z) ∷ [])
  goes x points z stands may birth lets plain gates =
      goes_on stands (of_control (point.entry z))
      (control.entered g z x.control, (may, refl), record { birth = birth; links = lets; plain = plain; gates = gates }, refl) refl

  abbrev asks : Entry
  asks = balks (way.Finish 1)

  abbrev wakes : Entry
  wakes = e.Wait (item.Link 1 ∷ []) woken.Woke

  abbrev breaks : Entry
  breaks = e.Broke 1

  abbrev closes : Entry
  closes = e.Closed 1 cause.Broken

  -- the machine behind each entry
  abbrev x1 : Machine
  x1 = on (dials g) (fresh g)

  abbrev x2 : Machine
  x2 = on asks x1

  abbrev x3 : Machine
  x3 = on wakes x2

  abbrev x4 : Machine
  x4 = on breaks x3

  abbrev x5 : Machine
  x5 = on closes x4

  abbrev x6 : Machine
  x6 = on waits_tick x5

  abbrev x7 : Machine
  x7 = on e.Tick x6

  abbrev x8 : Machine
  x8 = on (fails g) x7

  -- while link 1 isn't open, and once it is closed, all is calm
  unopened_calm : (l : ℕ) → IsCalmBy (x1.control.links l).phase (x1.control.links l)
  unopened_calm l = by (1 == l) refl
    where
      by : (b : Bool) → (1 == l) ≡ b → IsCalmBy (x1.control.links l).phase (x1.control.links l)
      by true is = rw is tt
      by false is = rw is tt

  closed_calm : (l : ℕ) → IsCalmBy (x5.control.links l).phase (x5.control.links l)
  closed_calm l = by (1 == l) refl
    where
      by : (b : Bool) → (1 == l) ≡ b → IsCalmBy (x5.control.links l).phase (x5.control.links l)
      by true is = rw is tt
      by false is = rw is tt

  unopened : model.IsQuiet x1.control
  unopened = record { no_dial = refl; goes = refl; calm = unopened_calm }

  over : model.IsQuiet x5.control
  over = record { no_dial = refl; goes = refl; calm = closed_calm }

  failed : model.IsQuiet x8.control
  failed = record { no_dial = refl; goes = refl; calm = closed_calm }

  dialled : StandsFor g x1 (of_control (point.entry (dials g)) ∷ [])
  dialled = goes (fresh g) [] (dials g) (begins refl refl) (refl, omega arith, refl, refl) refl (λ l. calm) (λ l. tt)
      (bare (fresh g) (λ n. refl) (λ l. refl) true)

  runs : StandsFor g (on waits x8) (of_control (point.entry (dials g)) ∷ of_control (point.entry asks) ∷ of_control (point.entry wakes)
      ∷ of_control (point.entry breaks) ∷ of_control (point.entry closes) ∷ of_control (point.entry waits_tick)
      ∷ of_control (point.entry e.Tick) ∷ of_control (point.entry (fails g)) ∷ of_control (point.entry waits) ∷ [])
  runs =
      goes x8 _ waits
      (goes x7 _ (fails g)
      (goes x6 _ e.Tick
      (goes x5 _ waits_tick
      (goes x4 _ closes
      (goes x3 _ breaks
      (goes x2 _ wakes
      (goes x1 _ asks dialled (refl, (unopened, refl)) tt (λ l. quiet) (λ l. (tt, tt)) (bare x1 (λ n. refl) (λ l. refl) false))
      unopened tt (λ l. quiet) (λ l. (tt, tt)) (bare x2 (λ n. refl) (λ l. refl) false))
      (inl (unopened, refl)) tt (λ l. quiet) (λ l. (tt, tt)) (bare x3 (λ n. refl) (λ l. refl) false))
      refl tt (λ l. calm) (λ l. tt) (bare x4 (λ n. refl) (λ l. refl) true))
      over tt (λ l. quiet) (λ l. (tt, tt)) (bare x5 (λ n. refl) (λ l. refl) false))
      over tt (λ l. quiet) (λ l. (tt, tt)) (bare x6 (λ n. refl) (λ l. refl) false))
      (refl, refl, refl) tt (λ l. calm) (λ l. tt) (bare x7 (λ n. refl) (λ l. refl) true))
      failed tt (λ l. quiet) (λ l. (tt, tt)) (bare x8 (λ n. refl) (λ l. refl) false)

  -- AN INBOUND LINK

  rests : ControlRests x1.control
  rests = record { no_dial = refl; calm = unopened_calm }

  -- a part of link 2 leads the machine on; no other link was ever born
  abbrev OnlyTwo : Machine → Type 0
  OnlyTwo x = (k : ℕ) → k ≢ 2 → x.inbound k ≡ no_link

  only_two : (x : Machine) (p : Part) (next : Inbound) → OnlyTwo x → OnlyTwo (with_part 2 p next x)
  only_two x p next only k apart = ap (λ (b : Bool). cond b next (x.inbound k)) (ne_eqb k 2 apart) ∙ only k apart

  others : (x : Machine) → OnlyTwo x → (first : Bool) → (k : ℕ) → k ≢ 2 → Lets first (x.inbound k)
  others x only true k apart = subst IsCalm (sym (only k apart)) calm
  others x only false k apart = subst IsQuiet (sym (only k apart)) quiet

  abbrev began : Entry
  began = e.Came 2 (0 ∷ [])

  abbrev ends : Entry
  ends = e.Closed 2 (cause.FrontFault (number_of BadSignature))

  abbrev arrived : Inbound
  arrived = with_phase arriving no_link

  abbrev taken_in : Inbound
  taken_in = with_phase fronting arrived

  abbrev read : Inbound
  read = came (0 ∷ []) taken_in

  abbrev at_fault : Inbound
  at_fault = with_phase (closing (cause.FrontFault (number_of BadSignature))) read

  abbrev gone : Inbound
  gone = with_phase closed at_fault

  abbrev y2 : Machine
  y2 = with_part 2 (part.entry accepts) arrived x1

  abbrev y3 : Machine
  y3 = with_part 2 part.welcomed taken_in y2

  abbrev y4 : Machine
  y4 = with_part 2 (part.entry began) read y3

  abbrev y5 : Machine
  y5 = with_part 2 (part.misfronted BadSignature) at_fault y4

  abbrev y6 : Machine
  y6 = with_part 2 (part.entry ends) gone y5

  only3 : OnlyTwo y3
  only3 = only_two y2 part.welcomed taken_in (only_two x1 (part.entry accepts) arrived (λ k apart. refl))

  only5 : OnlyTwo y5
  only5 = only_two y4 (part.misfronted BadSignature) at_fault (only_two y3 (part.entry began) read only3)

  taken_quiet : IsQuiet taken_in
  taken_quiet = record { calm = record { answered = λ s. refl; rests = (refl, omega arith) }; no_close = refl; idle = λ s. tt }

  gone_quiet : IsQuiet gone
  gone_quiet = record { calm = record { answered = λ s. refl; rests = tt }; no_close = refl; idle = λ s. tt }

  all_quiet : (l : ℕ) → IsQuiet (y6.inbound l)
  all_quiet l =
      cond_both (l == 2) gone (y5.inbound l) IsQuiet (λ is. gone_quiet)
      (λ is. others y5 only5 false l (λ same. false≢true (sym is ∙ eq-eqb l 2 same)))

  welcomed_in : 0 < most_links g → StandsFor g y3 (of_control (point.entry (dials g)) ∷ of_link 2 (part.entry accepts) ∷ of_link 2 part.welcomed ∷ [])
  welcomed_in some =
      goes_on
      (goes_on dialled (of_link 2 (part.entry accepts)) (
        arrived,
        ((refl, refl, refl), refl),
        record {
          birth = (refl, refl);
          control = rests;
          others = λ k apart. quiet;
          plain = λ k. (tt, tt);
          gates = bare x1 (λ n. refl) (λ l. refl) false;
        },
        refl,
      ) refl)
      (of_link 2 part.welcomed)
      (taken_in, (refl, refl), room_for_link g y2 2 some (link_alone 2 arrived) (omega arith), refl) refl

  link_runs : 0 < most_links g → StandsFor g (on waits y6) (of_control (point.entry (dials g)) ∷ of_link 2 (part.entry accepts) ∷ of_link 2 part.welcomed
      ∷ of_link 2 (part.entry began) ∷ of_link 2 (part.misfronted BadSignature) ∷ of_link 2 (part.entry ends)
      ∷ of_control (point.entry waits) ∷ [])
  link_runs some =
      let came_in = goes_on (welcomed_in some) (of_link 2 (part.entry began)) (
        read,
        ((refl, (inl (taken_quiet, refl), omega arith), are_octets (0 ∷ []) refl, omega arith, omega arith), refl),
        record {
          birth = tt;
          control = rests;
          others = others y3 only3 false;
          plain = λ k. (tt, tt);
          gates = bare y3 (λ n. refl) (λ l. refl) false;
        },
        refl,
      ) refl in
      let fault = goes_on came_in (of_link 2 (part.misfronted BadSignature)) (at_fault, (refl, inl refl, refl), tt, refl) refl in
      let ended = goes_on fault (of_link 2 (part.entry ends)) (
        gone,
        ((refl, record { answered = λ s. refl; rests = tt }, refl), refl),
        record {
          birth = tt;
          control = rests;
          others = others y5 only5 true;
          plain = λ k. tt;
          gates = bare y5 (λ n. refl) (λ l. refl) true;
        },
        refl,
      ) refl in
      goes y6 _ waits ended (record { no_dial = refl; goes = refl; calm = unopened_calm }) tt all_quiet (λ l. (tt, tt))
      (bare y6 (λ n. refl) (λ l. refl) false)

  -- A LINK WHOSE PEER SENDS NO MORE

  abbrev front : List ℕ
  front = front_text source destination None

  abbrev fronted_entry : Entry
  fronted_entry = e.Came 2 front

  -- what the header tells
  abbrev told : Seen
  told = record { source = source; destination = destination; identity = None; length = 28 }

  abbrev held : Inbound
  held = came front taken_in

  abbrev serves : Inbound
  serves = fronted_by told None [] held

  abbrev done : Inbound
  done = link_ended serves

  abbrev shut : Inbound
  shut = with_phase closed done

  abbrev z4 : Machine
  z4 = with_part 2 (part.entry fronted_entry) held y3

  abbrev z5 : Machine
  z5 = with_part 2 (part.fronted told) serves z4

  abbrev z6 : Machine
  z6 = with_part 2 (part.entry (e.Ended 2)) done z5

  abbrev z7 : Machine
  z7 = with_part 2 (part.entry (e.Closed 2 cause.Done)) shut z6

  only_z5 : OnlyTwo z5
  only_z5 = only_two z4 (part.fronted told) serves (only_two y3 (part.entry fronted_entry) held only3)

  only_z6 : OnlyTwo z6
  only_z6 = only_two z5 (part.entry (e.Ended 2)) done only_z5

  done_now : close_due done.phase ≡ Some cause.Done
  done_now = ap (λ (n : ℕ). Some (cond (n == 0) cause.Done cause.PeerGone)) none_open

  whole : IsAnswer held.front (Whole told)
  whole = (
    header_of source destination None,
    record {
      source = refl;
      destination = refl;
      source_port = omega arith;
      destination_port = omega arith;
      tlvs = tt;
      size = omega arith;
    },
    record {
      source = refl;
      source_port = refl;
      destination = refl;
      destination_port = refl;
      identity = refl;
      size = refl;
    },
    [],
    refl,
  )

  serves_quiet : IsQuiet serves
  serves_quiet = record {
    calm = record { answered = λ s. refl; rests = ((refl, refl), λ s. tt) };
    no_close = refl;
    idle = λ s. tt;
  }

  shut_quiet : IsQuiet shut
  shut_quiet = record { calm = record { answered = λ s. refl; rests = tt }; no_close = refl; idle = λ s. tt }

  end_quiet : (l : ℕ) → IsQuiet (z7.inbound l)
  end_quiet l =
      cond_both (l == 2) shut (z6.inbound l) IsQuiet (λ is. shut_quiet)
      (λ is. others z6 only_z6 false l (λ same. false≢true (sym is ∙ eq-eqb l 2 same)))

  end_runs : 0 < most_links g → StandsFor g (on waits z7) (of_control (point.entry (dials g)) ∷ of_link 2 (part.entry accepts) ∷ of_link 2 part.welcomed
      ∷ of_link 2 (part.entry fronted_entry) ∷ of_link 2 (part.fronted told) ∷ of_link 2 (part.entry (e.Ended 2))
      ∷ of_link 2 (part.entry (e.Closed 2 cause.Done)) ∷ of_control (point.entry waits) ∷ [])
  end_runs some =
      let came_in = goes_on (welcomed_in some) (of_link 2 (part.entry fronted_entry)) (
        held,
        ((refl, (inl (taken_quiet, refl), omega arith), are_octets front refl, omega arith, omega arith), refl),
        record {
          birth = tt;
          control = rests;
          others = others y3 only3 false;
          plain = λ k. (tt, tt);
          gates = bare y3 (λ n. refl) (λ l. refl) false;
        },
        refl,
      ) refl in
      let served = goes_on came_in (of_link 2 (part.fronted told)) (serves, (refl, whole, None, refl, refl), tt, refl) refl in
      let ended = goes_on served (of_link 2 (part.entry (e.Ended 2))) (
        done,
        ((refl, (inr (serves_quiet, refl), omega arith)), refl),
        record {
          birth = tt;
          control = rests;
          others = others z5 only_z5 false;
          plain = λ k. (tt, tt);
          gates = bare z5 (λ n. refl) (λ l. refl) false;
        },
        refl,
      ) refl in
      let closed_it = goes_on ended (of_link 2 (part.entry (e.Closed 2 cause.Done))) (
        shut,
        ((refl, record { answered = λ s. refl; rests = tt }, done_now), refl),
        record {
          birth = tt;
          control = rests;
          others = others z6 only_z6 true;
          plain = λ k. tt;
          gates = bare z6 (λ n. refl) (λ l. refl) true;
        },
        refl,
      ) refl in
      goes z7 _ waits closed_it (record { no_dial = refl; goes = refl; calm = unopened_calm }) tt end_quiet (λ l. (tt, tt))
      (bare z7 (λ n. refl) (λ l. refl) false)

  -- A PLAIN LINK

  -- a part of link 2 leads the machine on; no other plain link was ever born
  abbrev on_plain : captured.Part → Machine → Machine
  on_plain p x = with_plain 2 p (next_link (x.plain 2) p) x

  goes_plain : (x : Machine) (points : List Point) (p : captured.Part) → StandsFor g x points → MayGo 2 (plain_local x 2) p
      → PlainGuard g x 2 p → StandsFor g (on_plain p x) (points ++ of_plain 2 p ∷ [])
  goes_plain x points p stands may guard = goes_on stands (of_plain 2 p) (may, guard, refl) refl

  abbrev Alone : Machine → Type 0
  Alone x = (k : ℕ) → k ≢ 2 → x.plain k ≡ plain.no_link

  alone : (x : Machine) (p : captured.Part) → Alone x → Alone (on_plain p x)
  alone x p only k apart = ap (λ (b : Bool). cond b (next_link (x.plain 2) p) (x.plain k)) (ne_eqb k 2 apart) ∙ only k apart

  -- and it has no stream
  all_raw : (x : Machine) → Alone x → is_raw (x.plain 2) ≡ true → (l : ℕ) → is_raw (x.plain l) ≡ true
  all_raw x only raw l =
      ⊎_elim (λ same. ap (λ (k : ℕ). is_raw (x.plain k)) same ∙ raw) (λ apart. ap (λ (c : plain.Captured). is_raw c) (only l apart))
      (cases_eq l 2)

  -- nothing came of a header yet
  more_first : IsAnswer [] More
  more_first = (refl, omega arith)

  -- it is over and closed, and the proxy waits
  closed_quiet : (x : Machine) (why : Cause) → (x.plain 2).stage ≡ plain.over why → (x.plain 2).up ≡ 0 → is_raw (x.plain 2) ≡ true
      → Alone x → (l : ℕ)
      → plain_calm.IsQuiet ((on_plain (captured.entry (e.Closed 2 why)) x).plain l)
  closed_quiet x why over none raw only l =
      cond_both (l == 2) (plain.entered (e.Closed 2 why) (x.plain 2)) (x.plain l) plain_calm.IsQuiet
      (λ is. rw over (raw, (refl, none)))
      (λ is. subst plain_calm.IsQuiet (sym (only l (λ same. false≢true (sym is ∙ eq-eqb l 2 same)))) (tt, tt))

  act_calm : (x : Machine) → Alone x → (k : ℕ) → k ≢ 2 → plain_calm.IsCalm (x.plain k)
  act_calm x only k apart = subst plain_calm.IsCalm (sym (only k apart)) tt

  -- at each door a header is refused while nothing is held
  unsynced : (d : Door) (routing : Routing) → answer_on d x1.control.held routing told ≡ refused_with 503
  unsynced door.Outbound routing = refl
  unsynced door.Plain routing = refl
  unsynced door.Inbound routing = refl

  -- one that is accepted at a door at which plain links are
  module _ (d : Door) (captures : Captures d) (room : 0 < most_tunnels g) where
    abbrev p2 : Machine
    p2 = on_plain (captured.entry (e.Accepted 2 d)) x1

    abbrev p3 : Machine
    p3 = on_plain captured.welcomed p2

    alone3 : Alone p3
    alone3 = alone p2 captured.welcomed (alone x1 (captured.entry (e.Accepted 2 d)) (λ k apart. refl))

    welcomed_plain : StandsFor g p3 (of_control (point.entry (dials g)) ∷ of_plain 2 (captured.entry (e.Accepted 2 d))
        ∷ of_plain 2 captured.welcomed ∷ [])
    welcomed_plain =
        goes_plain p2 _ captured.welcomed
        (goes_plain x1 _ (captured.entry (e.Accepted 2 d)) dialled (refl, refl, captures)
        (record {
          birth = (refl, refl);
          control = rests;
          links = λ k. quiet;
          others = λ k apart. (tt, tt);
          gates = bare x1 (λ n. refl) (λ l. refl) false;
        }))
        refl (room_for_place g p2 2 room (place_alone 2 (p2.plain 2)) one_place)

    -- bytes come while it waits for its header, and it is closed where it is over
    came_plain : (bytes : List ℕ) → AreOctets bytes → 0 < length bytes → length bytes ≤ 4112
        → StandsFor g (on_plain (captured.entry (e.Came 2 bytes)) p3) (of_control (point.entry (dials g))
        ∷ of_plain 2 (captured.entry (e.Accepted 2 d)) ∷ of_plain 2 captured.welcomed ∷ of_plain 2 (captured.entry (e.Came 2 bytes)) ∷ [])
    came_plain bytes octets some fits =
        goes_plain p3 _ (captured.entry (e.Came 2 bytes)) welcomed_plain
        (refl, (inl ((more_first, tt), refl), omega arith), (octets, some, fits)) (record {
          birth = tt;
          control = rests;
          links = λ k. quiet;
          others = λ k apart. subst plain_calm.IsQuiet (sym (alone3 k apart)) (tt, tt);
          gates = bare p3 (λ n. refl) (all_raw p3 alone3 refl) false;
        })

    abbrev fault : captured.Part
    fault = captured.misfronted BadSignature

    abbrev p4 : Machine
    p4 = on_plain (captured.entry began) p3

    abbrev p5 : Machine
    p5 = on_plain fault p4

    abbrev p6 : Machine
    p6 = on_plain (captured.entry ends) p5

    alone5 : Alone p5
    alone5 = alone p4 fault (alone p3 (captured.entry began) alone3)

    plain_runs : StandsFor g (on waits p6) (of_control (point.entry (dials g)) ∷ of_plain 2 (captured.entry (e.Accepted 2 d))
        ∷ of_plain 2 captured.welcomed ∷ of_plain 2 (captured.entry began) ∷ of_plain 2 fault ∷ of_plain 2 (captured.entry ends)
        ∷ of_control (point.entry waits) ∷ [])
    plain_runs =
        let begun = came_plain (0 ∷ []) (are_octets (0 ∷ []) refl) (omega arith) (omega arith) in
        let faulty = goes_plain p4 _ fault begun (refl, inl refl) tt in
        let ended = goes_plain p5 _ (captured.entry ends) faulty (refl, refl, refl, refl) (record {
          birth = tt;
          control = rests;
          links = λ k. calm;
          others = act_calm p5 alone5;
          gates = bare p5 (λ n. refl) (all_raw p5 alone5 refl) true;
        }) in
        goes p6 _ waits ended (record { no_dial = refl; goes = refl; calm = unopened_calm }) tt (λ l. quiet)
        (closed_quiet p5 (cause.FrontFault (number_of BadSignature)) refl refl refl alone5)
        (bare p6 (λ n. refl) (all_raw p6 (alone p5 (captured.entry ends) alone5) refl) false)

    abbrev shuts : Entry
    shuts = e.Closed 2 (cause.Refused 503)

    abbrev q4 : Machine
    q4 = on_plain (captured.entry fronted_entry) p3

    abbrev refusal : captured.Part
    refusal = captured.refused told (routing_of g q4) (cause.Refused 503) 503 (verdict_note 2 503 (peer_noted d told) destination)

    abbrev q5 : Machine
    q5 = on_plain refusal q4

    abbrev q6 : Machine
    q6 = on_plain (captured.entry shuts) q5

    alone_q5 : Alone q5
    alone_q5 = alone q4 refusal (alone p3 (captured.entry fronted_entry) alone3)

    refusal_runs : StandsFor g (on waits q6) (of_control (point.entry (dials g)) ∷ of_plain 2 (captured.entry (e.Accepted 2 d))
        ∷ of_plain 2 captured.welcomed ∷ of_plain 2 (captured.entry fronted_entry) ∷ of_plain 2 refusal ∷ of_plain 2 (captured.entry shuts)
        ∷ of_control (point.entry waits) ∷ [])
    refusal_runs =
        let refused = goes_plain q4 _ refusal (came_plain front (are_octets front refl) (omega arith) (omega arith))
        ((refl, whole), unsynced d (routing_of g q4), refl) refl in
        let ended = goes_plain q5 _ (captured.entry shuts) refused (refl, refl, refl, refl) (record {
          birth = tt;
          control = rests;
          links = λ k. calm;
          others = act_calm q5 alone_q5;
          gates = bare q5 (λ n. refl) (all_raw q5 alone_q5 refl) true;
        }) in
        goes q6 _ waits ended (record { no_dial = refl; goes = refl; calm = unopened_calm }) tt (λ l. quiet)
        (closed_quiet q5 (cause.Refused 503) refl refl refl alone_q5)
        (bare q6 (λ n. refl) (all_raw q6 (alone q5 (captured.entry shuts) alone_q5) refl) false)

pub good_trace_is_lawful : GoodTraceIsLawful
good_trace_is_lawful g = run_is_lawful g _ _ (good_trace g) (runs g) refl

pub good_link_is_lawful : GoodLinkIsLawful
good_link_is_lawful g some = run_is_lawful g _ _ (good_link g) (link_runs g some) refl

pub good_end_is_lawful : GoodEndIsLawful
good_end_is_lawful g some = run_is_lawful g _ _ (good_end g) (end_runs g some) refl

pub good_plain_is_lawful : GoodPlainIsLawful
good_plain_is_lawful g some = run_is_lawful g _ _ (good_plain g) (plain_runs g door.Plain tt some) refl

pub good_refusal_is_lawful : GoodRefusalIsLawful
good_refusal_is_lawful g some = run_is_lawful g _ _ (good_refusal g) (refusal_runs g door.Plain tt some) refl

pub good_unsynced_is_lawful : GoodUnsyncedIsLawful
good_unsynced_is_lawful g some = run_is_lawful g _ _ (good_unsynced g) (refusal_runs g door.Outbound tt some) refl
