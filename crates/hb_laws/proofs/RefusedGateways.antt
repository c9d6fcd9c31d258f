-- Small wrong traces of links to gateways are refused.
use Rattle.std.proofs.Common.{◌≡◌, ◌⊎◌, inl, inr, ⊎_elim, ℕ, ◌<◌, ◌≤◌, ◌==◌, ◌||◌, Bool, true, false, cond, List, [], ◌∷◌, ◌++◌, fold, length, take, Some, None, refl, ap, ap₂, sym, ◌∙◌, subst, arith, length-append}
use Rattle.std.specs.List.{list_any}
use Rattle.std.proofs.lemmas.Bool.{eqb-true, false≢true, ne_eqb}
use Rattle.std.proofs.lemmas.List.{append_assoc}
use Rattle.std.proofs.lemmas.List.Concat.{flat_map-append}
use Rattle.std.proofs.lemmas.List.Folds.{list_any-append}
use Rattle.std.proofs.lemmas.List.Sums.{fold-append}
use Rattle.hb_base.specs.declared.door.Door.TheVariants as door
use Rattle.hb_base.specs.declared.door.Why.TheVariants as whys
use Rattle.hb_base.specs.declared.target.Target.{Target}
use Rattle.hb_captured.proofs.Asked.{all_ask}
use Rattle.hb_captured.specs.Answer.{Aim, key_of}
use Rattle.hb_captured.specs.Captured.{judges}
use Rattle.hb_captured.specs.Part as captured
use Rattle.hb_captured.specs.Sides.{door_of, link_came, came_in, was, is_asked}
use Rattle.hb_front.specs.Header.{spelling}
use Rattle.hb_front.specs.Reading.{Seen, IsAnswer, Whole}
use Rattle.hb_gateway.specs.Gateway as gateway_link
use Rattle.hb_gateway.specs.Gateway.{Gateway, Phase, carries, has_room}
use Rattle.hb_gateway.specs.Key.{Key, front_of}
use Rattle.hb_gateway.specs.Part as gateway
use Rattle.hb_gateway.specs.Part.{front_in, front_header, link_went}
use Rattle.hb_gateway.specs.Runs as gateway_runs
use Rattle.hb_gateway.specs.Runs.{IsWritable}
use Rattle.hb_model.proofs.Grown.{one_more}
use Rattle.hb_model.specs.Calls.{is_control_of}
use Rattle.hb_model.specs.Point as point
use Rattle.hb_model.specs.declared.config.NodeConfig.{NodeConfig}
use Rattle.hb_proxy.proofs.GateChanges.{is_gate_born}
use Rattle.hb_proxy.proofs.Owned.{all_owned}
use Rattle.hb_proxy.proofs.Plain.{plain_runs}
use Rattle.hb_proxy.proofs.PlainStays.{is_plain_born}
use Rattle.hb_proxy.proofs.Seen.{runs_are_seen}
use Rattle.hb_proxy.specs.Held.{at_start}
use Rattle.hb_proxy.specs.Machine.{Machine, plain_local}
use Rattle.hb_proxy.specs.Owners.{plain_link, relay_of, gateway_link, owner, link_of}
use Rattle.hb_proxy.specs.Points.{Point, of_control, of_link, of_plain, of_gate, of_stream, entry_in, entries, plain_in, plain_of, gate_in, gates_of}
use Rattle.hb_proxy.specs.Runs.{Steps, StandsFor, begins, goes_on}
use Rattle.hb_proxy.specs.Seen.{IsGateThere, GateOpenBy}
use Rattle.hb_proxy.specs.Shared.{Shared, asks, tells, puts, finishes, credits, drops, completes, gateway_part}
use Rattle.hb_proxy.specs.Streams.{IsAsked}
use Rattle.hb_ready.specs.Sight.{is_open}
use Rattle.hb_world.specs.Trace.{recv, sent}
use Rattle.hb_world.specs.declared.entry.Entry.{Entry}
use Rattle.hb_world.specs.declared.entry.Entry.TheVariants as e
use Rattle.hb_laws.specs.Lawful.{Lawful}
use Rattle.hb_laws.specs.Refused.{dials, fails}
use Rattle.hb_laws.specs.RefusedGateways.{DialsForPlain, DialsUnasked, DialsUntold, WritesUnopened, WritesNoFront, InventsBytes, ShutsGateway}
use Rattle.hb_laws.specs.RefusedOutbound.{accepts_outbound}
use Rattle.hb_laws.specs.RefusedPlain.{accepts_plain}
use Rattle.hb_laws.proofs.Asked.{Answered, answers, judged_straight}
use Rattle.hb_laws.proofs.BirthDoor.{door_at}
use Rattle.hb_laws.proofs.Bytes.{came_within}
use Rattle.hb_laws.proofs.Lawful.{goes_at, own_in, laws_of}
use Rattle.hb_laws.proofs.Places.{DialOf, place, dial_point, of_gateway, of_plain_link}
use Rattle.hb_laws.proofs.PlainLinks.{header_len}
use Rattle.hb_laws.proofs.RefusedOutbound.{never_aimed}
use Rattle.hb_laws.proofs.RefusedPlain.{birth_door}
use Rattle.hb_laws.proofs.Tests.{none_of_both, and_both}

-- DIALS

-- where a link to a gateway is dialled for a plain link, that one's header got an answer by which it goes by a gateway
record Wanted (g : NodeConfig) (front : List Point) (l : ℕ) : Type 0 where
  pub key : Key
  pub aim : Aim
  pub keyed : key_of aim ≡ Some key
  pub there : Answered g l front aim

wanted_at : (g : NodeConfig) (trace : List Entry) → (h : Lawful g trace) → (front : List Point) (p : Point) (rest : List Point)
    → h.points ≡ front ++ p ∷ rest → (l u : ℕ) (to : Target) → entry_in p ≡ e.Dialled u to (whys.Gateway l) ∷ [] → Wanted g front l
wanted_at g trace h front p rest are l u to is =
    let at = goes_at g trace h front p rest are in
    let x = at.machine in
    let why = whys.Gateway l in
    let dial : DialOf (e.Dialled u to why) u gateway_link p = dial_point g x at.next p u to why at.steps is in
    let wanted = (subst (λ (q : Point). Steps g x q at.next) dial.1 at.steps).2.1 in
    let aim = (x.plain l).aim in
    let told = all_ask l (at_start g) (plain_local x l) (plain_of l front) (plain_runs g x front l at.run) wanted.due in
    record { key = dial.0; aim = aim; keyed = wanted.keyed; there = answers g l x front at.run aim told }

pub dials_for_plain : DialsForPlain
dials_for_plain to came g h =
    let s = place h.points (dials g ∷ accepts_plain ∷ e.Came 2 came ∷ []) (e.Dialled 3 to (whys.Gateway 2)) [] (sym h.trace_is) in
    let wanted = wanted_at g _ h s.front s.p s.rest s.points_are 2 3 to s.is in
    let at = birth_door g _ h s.front s.p s.rest s.points_are 2 (ap (owner 2) s.before_is) ∙ ap (door_at 2) s.before_is in
    let straight = judged_straight (door_of (plain_of 2 s.front)) _ wanted.there.routing wanted.there.seen wanted.aim (ap judges at)
    wanted.there.answered in
    let no : None ≡ Some wanted.key = sym straight ∙ wanted.keyed in
    cc

-- a header that got an answer came whole
whole_size : (bytes : List ℕ) (seen : Seen) → IsAnswer bytes (Whole seen) → seen.length ≤ length bytes
whole_size bytes seen (head, fits, says, rest, is) =
    omega (arith, says.size, ap (λ (bs : List ℕ). length bs) is, length-append (spelling head) rest)

pub dials_unasked : DialsUnasked
dials_unasked to g h =
    let s = place h.points (dials g ∷ accepts_outbound ∷ []) (e.Dialled 3 to (whys.Gateway 2)) [] (sym h.trace_is) in
    let there = (wanted_at g _ h s.front s.p s.rest s.points_are 2 3 to s.is).there in
    let at = goes_at g _ h s.front s.p s.rest s.points_are in
    let laws = h.laws s.front (s.p ∷ s.rest) s.points_are in
    let fronted = captured.fronted there.seen there.routing (wanted_at g _ h s.front s.p s.rest s.points_are 2 3 to s.is).aim in
    let before = plain_of 2 there.front in
    let behind = plain_of 2 there.rest in
    let parts = ap (plain_of 2) there.points_are ∙ flat_map-append (plain_in 2) there.front (there.p ∷ there.rest)
    ∙ ap (λ (qs : List captured.Part). before ++ (qs ++ behind)) there.is in
    let whole = (laws.plain 2).verdicts before fronted behind parts in
    let came = ap link_came parts ∙ flat_map-append came_in before (fronted ∷ behind) in
    let none = sym (ap (recv 2) s.before_is) ∙ (laws.sides.plain 2 (ap (owner 2) s.before_is)).came in
    absurd (omega (
      arith,
      header_len 2 (at_start g) (plain_local at.machine 2) (plain_of 2 s.front) there.seen (plain_runs g at.machine s.front 2 at.run)
          there.told,
      whole_size (link_came before) there.seen whole.0,
      ap (λ (bs : List ℕ). length bs) came,
      ap (λ (bs : List ℕ). length bs) none,
      length-append (link_came before) (link_came (fronted ∷ behind)),
    ))

pub dials_untold : DialsUntold
dials_untold to came g h =
    let s = place h.points (fails g ∷ e.Accepted 1 door.Outbound ∷ e.Came 1 came ∷ []) (e.Dialled 2 to (whys.Gateway 1)) []
    (sym h.trace_is) in
    let wanted = wanted_at g _ h s.front s.p s.rest s.points_are 1 2 to s.is in
    never_aimed g _ h s.front s.p s.rest s.points_are 1 wanted.aim wanted.there (λ l. ap (list_any (is_control_of l)) s.before_is)

-- CALLS

-- an entry on a link to a gateway is one that may come there
gate_call : (g : NodeConfig) (trace before : List Entry) (z : Entry) (after : List Entry) (n : ℕ) → (h : Lawful g trace)
    → entries h.points ≡ before ++ z ∷ after → link_of z ≡ Some n → owner n before ≡ gateway_link
    → (x : Machine) × (points : List Point) × StandsFor g x points × (entries points ≡ before) × gateway_runs.MayCome n (x.gates n) z
gate_call g trace before z after n h is on mine =
    let s = place h.points before z after is in
    let at = goes_at g trace h s.front s.p s.rest s.points_are in
    let same = of_gateway s.front z n on s.p (own_in g trace h s.front s.p s.rest s.points_are) s.is (ap (owner n) s.before_is ∙ mine) in
    (at.machine, s.front, at.run, s.before_is, (subst (λ (q : Point). Steps g at.machine q at.next) same at.steps).1.0)

pub writes_unopened : WritesUnopened
writes_unopened to came bytes g h =
    let before = dials g ∷ accepts_outbound ∷ e.Came 2 came ∷ e.Dialled 3 to (whys.Gateway 2) ∷ [] in
    let call = gate_call g _ before (e.Went 3 bytes) [] 3 h (sym h.trace_is) refl refl in
    by (call.0.gates 3) (λ there. subst (GateOpenBy (call.0.gates 3).phase) (ap (is_open 3) call.3)
    ((runs_are_seen g call.0 call.1 call.2).gates.link_open 3 there)) call.4.1
  where
    by : (x : Gateway) → (IsGateThere x.phase → GateOpenBy x.phase false) → IsWritable x → ⊥
    by x opens (inl at) =
        false≢true
        (subst (λ (phase : Phase). GateOpenBy phase false) at.1 (opens (subst IsGateThere (sym at.1) tt)))
    by x opens (inr at) =
        false≢true
        (subst (λ (phase : Phase). GateOpenBy phase false) at.2 (opens (subst IsGateThere (sym at.2) tt)))

pub shuts_gateway : ShutsGateway
shuts_gateway to came g h =
    (gate_call g _ (dials g ∷ accepts_outbound ∷ e.Came 2 came ∷ e.Dialled 3 to (whys.Gateway 2) ∷ e.Opened 3 ∷ []) (e.Shut 3) [] 3 h
    (sym h.trace_is) refl refl).4

-- THE FRONT HEADER

-- a front header begins with its signature
begins_so : (parts : List gateway.Part) → (front_header parts ≡ []) ⊎ ((more : List ℕ) × (front_header parts ≡ 13 ∷ more))
begins_so [] = inl refl
begins_so (p ∷ parts) = by p (begins_so parts)
  where
    by : (q : gateway.Part) → (front_header parts ≡ []) ⊎ ((more : List ℕ) × (front_header parts ≡ 13 ∷ more))
        → (front_header (q ∷ parts) ≡ []) ⊎ ((more : List ℕ) × (front_header (q ∷ parts) ≡ 13 ∷ more))
    by (gateway.dialled z key) later = inr (_, refl)
    by _ later = later

pub writes_no_front : WritesNoFront
writes_no_front to came bytes byte other g h =
    let dial = e.Dialled 3 to (whys.Gateway 2) in
    let goes = e.Opened 3 ∷ e.Went 3 (byte ∷ bytes) ∷ [] in
    let s = place h.points (dials g ∷ accepts_outbound ∷ e.Came 2 came ∷ []) dial goes (sym h.trace_is) in
    let at = goes_at g _ h s.front s.p s.rest s.points_are in
    let born : DialOf dial 3 gateway_link s.p = dial_point g at.machine at.next s.p 3 to (whys.Gateway 2) at.steps s.is in
    let laws = laws_of g _ h in
    let parts = gates_of 3 h.points in
    let before = gates_of 3 s.front in
    let behind = gates_of 3 s.rest in
    let parts_are = ap (gates_of 3) s.points_are ∙ flat_map-append (gate_in 3) s.front (s.p ∷ s.rest)
    ∙ ap (λ (q : Point). before ++ (gate_in 3 q ++ behind)) born.1 in
    let has_front = ap front_header parts_are ∙ flat_map-append front_in before (gateway.dialled dial born.0 ∷ behind) in
    let went = sym (laws.sides.gate 3 (ap (owner 3) (sym h.trace_is))).went ∙ ap (sent 3) (sym h.trace_is) in
    ⊎_elim (λ none. absurd (omega (
      arith,
      ap (λ (bs : List ℕ). length bs) has_front,
      ap (λ (bs : List ℕ). length bs) none,
      length-append (front_header before) (front_header (gateway.dialled dial born.0 ∷ behind)),
      length-append (front_of born.0) (front_header behind),
    )))
    (λ so. other (first parts so.0 so.1 went (laws.gates 3).connection.unwritten (laws.gates 3).connection.front)) (begins_so parts)
  where
    first : (parts : List gateway.Part) (more : List ℕ) → front_header parts ≡ 13 ∷ more → link_went parts ≡ byte ∷ (bytes ++ [])
        → (rest : List ℕ) → front_header parts ≡ take (length (front_header parts)) (link_went parts) ++ rest → byte ≡ 13
    first parts more is went rest front =
        let both : 13 ∷ more ≡ byte ∷ (take (length more) (bytes ++ []) ++ rest) =
        sym is ∙ front ∙ ap₂ (λ (bs cs : List ℕ). take (length bs) cs ++ rest) is went in
        cc

-- WHAT A GATEWAY SAYS

-- a stream was asked for, for a plain link
record AskedPlace (points : List Point) (l : ℕ) : Type 0 where
  pub gate : ℕ
  pub stream : ℕ
  pub asked : IsAsked points l gate stream

longer : (points : List Point) (l : ℕ) (p : Point) → AskedPlace points l → AskedPlace (points ++ p ∷ []) l
longer points l p old = record {
  gate = old.gate;
  stream = old.stream;
  asked = record {
    authority = old.asked.authority;
    before = old.asked.before;
    behind = old.asked.behind ++ p ∷ [];
    at = ap (λ (ps : List Point). ps ++ p ∷ []) old.asked.at
        ∙ append_assoc old.asked.before (of_stream l old.gate old.stream (asks old.asked.authority) ∷ old.asked.behind) (p ∷ []);
  };
}

module _ (l : ℕ) where
  abbrev asked_behind : Bool → List captured.Part → Bool
  asked_behind b parts = fold (λ (was : Bool) (p : captured.Part). is_asked p || was) b parts

  not_this : (b same : Bool) (q : captured.Part) → is_asked q ≡ false → asked_behind b (cond same (q ∷ []) []) ≡ b
  not_this b true q none = ap (λ (is : Bool). is || b) none
  not_this b false q none = refl

  here : (g : NodeConfig) (x y : Machine) (points : List Point) (p : Point) → Steps g x p y → (b : Bool)
      → asked_behind b (plain_in l p) ≡ true → (b ≡ true) ⊎ AskedPlace (points ++ p ∷ []) l
  here g x y points (of_control (point.applied k r)) steps b is = inl is
  here g x y points (of_control (point.stopped why)) steps b is = inl is
  here g x y points (of_control q) steps b is = inl is
  here g x y points (of_link k q) steps b is = inl is
  here g x y points (of_gate k q) steps b is = inl is
  here g x y points (of_plain k (captured.asked n s)) steps b is = absurd steps.1
  here g x y points (of_plain k q) steps b is = inl (sym (not_this b (k == l) q refl) ∙ is)
  here g x y points (of_stream k n s (asks authority)) steps b is = by (k == l) refl is
    where
      by : (same : Bool) → (k == l) ≡ same → asked_behind b (cond same (captured.asked n s ∷ []) []) ≡ true
          → (b ≡ true) ⊎ AskedPlace (points ++ of_stream k n s (asks authority) ∷ []) l
      by false apart is = inl is
      by true same is =
          inr (record {
            gate = n;
            stream = s;
            asked = record {
              authority = authority;
              before = points;
              behind = [];
              at = ap (λ (j : ℕ). points ++ of_stream j n s (asks authority) ∷ []) (eqb-true k l same);
            };
          })
  here g x y points (of_stream k n s (tells heard begun)) steps b is = inl (sym (not_this b (k == l) _ refl) ∙ is)
  here g x y points (of_stream k n s (puts waiting count)) steps b is = inl (sym (not_this b (k == l) _ refl) ∙ is)
  here g x y points (of_stream k n s finishes) steps b is = inl (sym (not_this b (k == l) _ refl) ∙ is)
  here g x y points (of_stream k n s (credits count)) steps b is = inl (sym (not_this b (k == l) _ refl) ∙ is)
  here g x y points (of_stream k n s (drops begun)) steps b is = inl (sym (not_this b (k == l) _ refl) ∙ is)
  here g x y points (of_stream k n s (completes begun note)) steps b is = inl (sym (not_this b (k == l) _ refl) ∙ is)

  asked_at : (g : NodeConfig) (x : Machine) (points : List Point) → StandsFor g x points → was is_asked (plain_of l points) ≡ true
      → AskedPlace points l
  asked_at g x points (begins fresh none) is =
      absurd (false≢true (sym (ap (λ (ps : List Point). was is_asked (plain_of l ps)) none) ∙ is))
  asked_at g y more (goes_on {x = x} {points = points} stands p steps are) is =
      subst (λ (ps : List Point). AskedPlace ps l) (sym are)
      (⊎_elim (λ before. longer points l p (asked_at g x points stands before)) (λ now. now)
      (here g x y points p steps (was is_asked (plain_of l points))
      (sym (fold-append (λ (b : Bool) (q : captured.Part). is_asked q || b) false (plain_of l points) (plain_in l p))
      ∙ ap (was is_asked) (sym (one_more (plain_in l) points p) ∙ sym (ap (plain_of l) are)) ∙ is)))

-- the link to a gateway of a stream has not the number of the plain link
carries_born : (phase : Phase) → carries phase ≡ true → is_gate_born phase ≡ true
carries_born gateway_link.unborn is = absurd (false≢true is)
carries_born _ is = refl

other_number : (g : NodeConfig) (trace : List Entry) → (h : Lawful g trace) → (l n s : ℕ) → IsAsked h.points l n s → l ≡ n → ⊥
other_number g trace h l n s asked same =
    let at = goes_at g trace h asked.before (of_stream l n s (asks asked.authority)) asked.behind asked.at in
    let x = at.machine in
    let owned = all_owned g x asked.before at.run in
    let mine = owned.plain l (ap is_plain_born at.steps.0.0) in
    let its = owned.gate n (carries_born (x.gates n).phase (and_both (carries (x.gates n).phase) (has_room (x.gates n)) at.steps.2.0).0) in
    let no : plain_link ≡ gateway_link = sym mine ∙ ap (λ (k : ℕ). owner k (entries asked.before)) same ∙ its in
    cc

-- where no byte came on a link its part tells of none
abbrev came_of : ℕ → Entry → Bool
came_of n (e.Came k bytes) = k == n
came_of n _ = false

module _ (n : ℕ) where
  told_none : (q : gateway.Part) (same : Bool) → gateway.came_in q ≡ [] → gateway.link_came (cond same (q ∷ []) []) ≡ []
  told_none q true none = ap (λ (bs : List ℕ). bs ++ []) none
  told_none q false none = refl

  silent_here : (g : NodeConfig) (x y : Machine) (p : Point) → Steps g x p y → list_any (came_of n) (entry_in p) ≡ false
      → gateway.link_came (gate_in n p) ≡ []
  silent_here g x y (of_control (point.stopped why)) steps none = refl
  silent_here g x y (of_control q) steps none = refl
  silent_here g x y (of_link k q) steps none = refl
  silent_here g x y (of_plain k q) steps none = refl
  silent_here g x y (of_gate k (gateway.entry (e.Came j bytes))) steps none = by (k == n) refl
    where
      by : (same : Bool) → (k == n) ≡ same → gateway.link_came (cond same (gateway.entry (e.Came j bytes) ∷ []) []) ≡ []
      by false apart = refl
      by true same =
          absurd (false≢true (sym (none_of_both (j == n) false none).0 ∙ ap (λ (i : ℕ). i == n) steps.1.0.0 ∙ same))
  silent_here g x y (of_gate k q) steps none = told_none q (k == n) refl
  silent_here g x y (of_stream l k s w) steps none = told_none (gateway_part l s w) (k == n) (by w)
    where
      by : (w : Shared) → gateway.came_in (gateway_part l s w) ≡ []
      by (asks authority) = refl
      by (tells heard begun) = refl
      by (puts waiting count) = refl
      by finishes = refl
      by (credits count) = refl
      by (drops begun) = refl
      by (completes begun note) = refl

  silent : (g : NodeConfig) (x : Machine) (points : List Point) → StandsFor g x points
      → list_any (came_of n) (entries points) ≡ false → gateway.link_came (gates_of n points) ≡ []
  silent g x points (begins fresh none) whole = ap (λ (ps : List Point). gateway.link_came (gates_of n ps)) none
  silent g y more (goes_on {x = x} {points = points} stands p steps are) whole =
      let wholes = none_of_both (list_any (came_of n) (entries points)) (list_any (came_of n) (entry_in p))
      (sym (list_any-append (came_of n) (entries points) (entry_in p))
      ∙ sym (ap (list_any (came_of n)) (ap entries are ∙ one_more entry_in points p)) ∙ whole) in
      ap gateway.link_came (ap (gates_of n) are ∙ one_more (gate_in n) points p)
      ∙ flat_map-append gateway.came_in (gates_of n points) (gate_in n p)
      ∙ ap₂ (λ (bs cs : List ℕ). bs ++ cs) (silent g x points stands wholes.0) (silent_here g x y p steps wholes.1)

pub invents_bytes : InventsBytes
invents_bytes to came bytes g h = by (was is_asked (plain_of 2 h.points)) refl
  where
    goes : Entry
    goes = e.Went 2 bytes

    before : List Entry
    before = dials g ∷ accepts_outbound ∷ e.Came 2 came ∷ e.Dialled 3 to (whys.Gateway 2) ∷ e.Opened 3 ∷ []

    mine : owner 2 (entries h.points) ≡ plain_link
    mine = ap (owner 2) (sym h.trace_is)

    went : sent 2 (entries h.points) ≡ bytes ++ []
    went = ap (sent 2) (sym h.trace_is)

    some : 0 < length bytes
    some =
        let s = place h.points before goes [] (sym h.trace_is) in
        let at = goes_at g _ h s.front s.p s.rest s.points_are in
        let same = of_plain_link s.front goes 2 refl s.p (own_in g _ h s.front s.p s.rest s.points_are) s.is (ap (owner 2) s.before_is) in
        (subst (λ (q : Point). Steps g at.machine q at.next) same at.steps).0.2.0

    undialled : (u : ℕ) (a b c : Bool) → (3 == u) ≡ a → (2 == u) ≡ b → (1 == u) ≡ c → owner u (before ++ goes ∷ []) ≡ relay_of 2 → ⊥
    undialled u true b c three two one = rw (three) (λ is. cc)
    undialled u false true c three two one = rw (three, two) (λ is. cc)
    undialled u false false true three two one = rw (three, two, one) (λ is. cc)
    undialled u false false false three two one = rw (three, two, one) (λ is. cc)

    by : (b : Bool) → was is_asked (plain_of 2 h.points) ≡ b → ⊥
    by false none =
        let law = (laws_of g _ h).relay.plain_none 2 mine
        (λ u is. undialled u (3 == u) (2 == u) (1 == u) refl refl refl (ap (owner u) h.trace_is ∙ is)) none in
        absurd (omega (
          arith,
          some,
          ap (λ (bs : List ℕ). length bs) law,
          ap (λ (bs : List ℕ). length bs) went,
          length-append bytes [],
        ))
    by true is =
        let asked = asked_at 2 g h.machine h.points h.run is in
        let n = asked.gate in
        let parts = gates_of n h.points in
        let down = (laws_of g _ h).relay.stream_downs 2 n asked.stream asked.asked in
        let apart = ne_eqb 2 n (other_number g _ h 2 n asked.stream asked.asked) in
        let none = silent n g h.machine h.points h.run
        (ap (list_any (came_of n)) (sym h.trace_is) ∙ ap (λ (b : Bool). b || false) apart) in
        let one = (laws_of g _ h).gates n in
        absurd (omega (
          arith,
          some,
          ap (λ (bs : List ℕ). length bs) down.front,
          length-append (sent 2 (entries h.points)) down.rest,
          ap (λ (bs : List ℕ). length bs) went,
          length-append bytes [],
          came_within asked.stream (gateway.moves parts) _ (gateway.link_came parts) one.connection.stands.came.frames_are,
          ap (λ (bs : List ℕ). length bs) none,
        ))
