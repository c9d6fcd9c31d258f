-- What is put on the stream of a link, and given back to its window, one part after another.
use Rattle.std.proofs.Common.{◌≡◌, ℕ, zero, suc, ◌<◌, ◌≤◌, ◌^◌, ◌==◌, ◌&&◌, not, nat_le, min, Bool, true, false, cond, List, [], ◌∷◌, ◌++◌, length, take, drop, Option, Some, None, refl, ap, ap₂, sym, ◌∙◌, subst, arith}
use Rattle.std.proofs.lemmas.Bool.{and_parts, cond_both, eqb-true, false≢true}
use Rattle.std.proofs.lemmas.List.Concat.{flat_map-append}
use Rattle.std.proofs.lemmas.List.{nil_from_length, take-append-drop, length-take-le}
use Rattle.hb_base.specs.declared.cause.Cause.TheVariants as cause
use Rattle.hb_base.specs.declared.note.Note.{Note}
use Rattle.hb_captured.specs.Answer.{Routing}
use Rattle.hb_captured.specs.Captured as captured_link
use Rattle.hb_captured.specs.Captured.{Captured, Stage, live, is_raw, is_through}
use Rattle.hb_captured.specs.Part as part
use Rattle.hb_captured.specs.Runs.{MayGo, counted, next_link}
use Rattle.hb_conn.specs.Connection.{Connection, core_of}
use Rattle.hb_conn.specs.Observed as connection
use Rattle.hb_conn.specs.Observed.{own_side_open, creditable, count_put, data_put, end_put, end_waits}
use Rattle.hb_conn.specs.Payload as payload
use Rattle.hb_frames.specs.Numbers.{largest}
use Rattle.hb_gate.specs.Calls as gate
use Rattle.hb_gate.specs.Shows as shown
use Rattle.hb_gate.specs.declared.gate.Gate.{Gate}
use Rattle.hb_gateway.specs.Calm.{IsCalm, IsCalmBy, AllTold, is_failing}
use Rattle.hb_gateway.specs.Gateway as gateway
use Rattle.hb_gateway.specs.Gateway.{Gateway, Phase, Stream, at_stage, at_stream, is_active}
use Rattle.hb_gateway.specs.Response.{over}
use Rattle.hb_gateway.specs.Part as gateway_part
use Rattle.hb_gateway.specs.Runs as gateways
use Rattle.hb_inbound.specs.Calm.{data_waits}
use Rattle.hb_kept.proofs.Shut.{put_shuts, end_stays_shut}
use Rattle.hb_model.specs.declared.config.NodeConfig.{NodeConfig}
use Rattle.hb_outgoing.specs.Waiting.{octets_of}
use Rattle.hb_proxy.specs.Machine.{Machine, plain_local, with_stream}
use Rattle.hb_proxy.specs.Notes.{notes, note_in}
use Rattle.hb_proxy.specs.Points.{Point, of_stream}
use Rattle.hb_proxy.specs.Runs.{LiveRests, StandsFor, StreamRestsBy, RestsAmong, may_finish, is_complete, routing_of}
use Rattle.hb_proxy.specs.Shared.{puts, finishes, credits, completes}
use Rattle.hb_route.specs.Opens.{Counts}
use Rattle.hb_tunnel.specs.Way.{is_done}
use Rattle.hb_relay.specs.Reaches.{rerouted}
use Rattle.hb_relay.specs.Shows.{Shows, captured_of}
use Rattle.hb_relay.specs.Streamed as streamed
use Rattle.hb_relay.specs.declared.relay.Relay.{Relay}
use Rattle.hb_relays.specs.Pumping.{OnStream, Beside, Turns, GivenBack, IsPut, IsFinished, MayPut, Rests, RestsOn}
use Rattle.hb_relays.proofs.Paired.{link_here, link_other, gate_here, gate_other, others_rest, stream_is, carried, of_gate, shows_then, stays, goes}
use Rattle.hb_relays.proofs.Progress.{leads_append, stands_on}
use Rattle.hb_relays.proofs.Resting.{put_keeps, credit_keeps, end_keeps, same_keeps}

-- WHAT IS GIVEN BACK

pub none_owed : (P : Captured → Gateway → Type 0) (s n : ℕ) (old : Relay) (kept : Gate) → streamed.Owes old n → n ≡ 0
    → Turns s P GivenBack old kept old kept
none_owed P s n old kept owes none l m g x points stands on =
    stays l m s P g x points stands old kept on GivenBack kept refl on.gate_shows
    (let owed = owes (x.plain l) on.shows in omega (arith, owed, none))

gives_count : (owed creditable : ℕ) → creditable < 2 ^ 32 → min (counted owed) creditable ≡ min owed creditable
gives_count owed creditable few = omega (arith, few)

pub gives_back : (P : Captured → Gateway → Type 0) (s n : ℕ) (old one : Relay) (kept two : Gate) → streamed.Owes old n → 0 < n
    → gate.Credits s n kept two → streamed.Credits old one → Turns s P GivenBack old kept one two
gives_back P s n old one kept two owes some credits_two credits_one l m g x points stands on =
    let c = x.plain l in
    let y = x.gates m in
    let gives = of_gate l m s P g x points stands old kept on _ credits_two.1 in
    let count = min c.owed (creditable y.conn s) in
    let same : min n (creditable y.conn s) ≡ count =
    ap (λ (i : ℕ). min i (creditable y.conn s)) (owes c on.shows) ∙ gives_count c.owed (creditable y.conn s) gives.0 in
    let step = subst (λ (i : ℕ). gate.Goes (gateway_part.credited s i) y two) same gives.1 in
    let d = connection.credited y.conn s count in
    let steps =
    subst (λ (i : ℕ). gateways.Steps i y (gateway_part.credited s count) step.next) (credits_two.0 ∙ on.gate_number) step.steps in
    let owing : 0 < c.owed = (let owed = owes c on.shows in omega (arith, owed, some)) in
    let may : MayGo l (plain_local x l) (part.credited count) = (on.lives, owing, omega arith) in
    goes l m s P g x points stands old kept on (credits count) d may (steps.0, steps.1, refl)
    (stream_is l m s P g x points stands old kept on, refl) (λ looked. looked)
    (λ j apart. credit_keeps y.conn s count j) refl GivenBack one two
    (record {
      number = (credits_one count (routing_of g x)).number ∙ on.number;
      gate_number = credits_two.0 ∙ on.gate_number;
      shows = shows_then l m s P g x points stands old kept on (part.credited count) one (credits_one count (routing_of g x)) may on.lives;
      gate_shows = subst (shown.Shows two) steps.2 step.shows;
      lives = on.lives;
      on_gate = on.on_gate;
      on_stream = on.on_stream;
      carries = on.carries;
      stage = on.stage;
      told = on.told;
      here = refl;
    }) refl refl refl

-- WHAT IS PUT

-- of nothing nothing goes
pub count_none : (c : Connection) (s : ℕ) → count_put c s [] ≡ 0
count_none c s =
    let k = core_of c in
    cond_both k.over 0 (cond (nat_le s largest && length (octets_of k.out) == 0) (min 0 (payload.allowed k s)) 0) (λ (n : ℕ). n ≡ 0)
    (λ is. refl)
    (λ is. cond_both (nat_le s largest && length (octets_of k.out) == 0) (min 0 (payload.allowed k s)) 0 (λ (n : ℕ). n ≡ 0)
    (λ may. omega arith) (λ may. refl))

-- the bytes that wait are those of the link
pub waits_held : (old : Relay) → streamed.Waits old (captured_of old).ways.up.held
waits_held old x shows = sym (ap (λ (w : Captured). w.ways.up.held) shows.same)

-- as many as may be are put: none
pub puts_none : (s n : ℕ) (old : Relay) (kept two : Gate) (bytes : List ℕ) → streamed.Waits old bytes → gate.Puts s bytes n kept two
    → n ≡ 0 → Turns s GivenBack IsPut old kept old two
puts_none s n old kept two bytes waits puts_two none l m g x points stands on =
    let tells = of_gate l m s GivenBack g x points stands old kept on _ puts_two.1 in
    stays l m s GivenBack g x points stands old kept on IsPut two puts_two.0 (tells.1 none) (on.here, goes_none tells.0)
  where
    c : Captured
    c = x.plain l

    y : Gateway
    y = x.gates m

    goes_none : n ≡ cond (own_side_open y.conn s) (count_put y.conn s bytes) 0 → count_put y.conn c.stream c.ways.up.held ≡ 0
    goes_none is =
        ap₂ (λ (i : ℕ) (bs : List ℕ). count_put y.conn i bs) on.on_stream (sym (waits c on.shows)) ∙ by (own_side_open y.conn s) refl is
      where
        on_own : (b : Bool) → c.up_shut ≡ b → own_side_open y.conn s ≡ false → bytes ≡ []
        on_own false shut closed =
            absurd (false≢true (sym closed ∙ ap₂ (λ (k i : ℕ). own_side_open (x.gates k).conn i) (sym on.on_gate) (sym on.on_stream)
            ∙ (carried l m s GivenBack g x points stands old kept on).own shut))
        on_own true shut closed =
            let done = (carried l m s GivenBack g x points stands old kept on).spent shut in
            waits c on.shows
            ∙ nil_from_length c.ways.up.held
            (eqb-true (length c.ways.up.held) 0 (and_parts c.ways.up.has_ended (length c.ways.up.held == 0) done).1)

        by : (b : Bool) → own_side_open y.conn s ≡ b → n ≡ cond b (count_put y.conn s bytes) 0 → count_put y.conn s bytes ≡ 0
        by true speaks is = sym is ∙ none
        by false closed is = ap (count_put y.conn s) (on_own c.up_shut refl closed) ∙ count_none y.conn s

-- or some
pub puts_some : (s n : ℕ) (old one : Relay) (kept two : Gate) (bytes : List ℕ) → streamed.Waits old bytes → gate.Puts s bytes n kept two
    → 0 < n → n ≤ length bytes → streamed.Puts n old one → Turns s GivenBack IsPut old kept one two
puts_some s n old one kept two bytes waits puts_two some most puts_one l m g x points stands on =
    let c = x.plain l in
    let y = x.gates m in
    let held : bytes ≡ c.ways.up.held = waits c on.shows in
    let tells = of_gate l m s GivenBack g x points stands old kept on _ puts_two.1 in
    let step = tells.2 some in
    let d = data_put y.conn s bytes in
    let steps = subst (λ (i : ℕ). gateways.Steps i y (gateway_part.put s bytes n) step.next) (puts_two.0 ∙ on.gate_number) step.steps in
    let first = take n bytes in
    let size : length first ≡ n = length-take-le n bytes most in
    let some_first : 0 < length first = omega (arith, size, some) in
    let front : c.ways.up.held ≡ first ++ drop n bytes = sym held ∙ sym (take-append-drop n bytes) in
    let may : MayGo l (plain_local x l) (part.put first) = (on.lives, (some_first, (drop n bytes, front))) in
    let goes_some : 0 < count_put y.conn s bytes = subst (λ (i : ℕ). 0 < i) steps.3 some in
    goes l m s GivenBack g x points stands old kept on (puts bytes n) d may (steps.0, steps.1, steps.2, steps.3, refl)
    (stream_is l m s GivenBack g x points stands old kept on, held) (λ looked. looked)
    (λ j apart. put_keeps y.conn s bytes j) refl IsPut one two
    (record {
      number = (puts_one first size (routing_of g x)).number ∙ on.number;
      gate_number = puts_two.0 ∙ on.gate_number;
      shows = shows_then l m s GivenBack g x points stands old kept on (part.put first) one (puts_one first size (routing_of g x)) may
          on.lives;
      gate_shows = subst (shown.Shows two) steps.4 step.shows;
      lives = on.lives;
      on_gate = on.on_gate;
      on_stream = on.on_stream;
      carries = on.carries;
      stage = on.stage;
      told = on.told;
      here = (on.here, put_shuts y.conn s bytes goes_some c.stream (drop (length first) c.ways.up.held));
    }) refl refl refl

-- END_STREAM

-- it may not be put
unfinished : (s : ℕ) (old : Relay) (kept : Gate) → ((g : NodeConfig) (x : Machine) (points : List Point) (l m : ℕ)
    → StandsFor g x points → OnStream l m s IsPut old kept (x.plain l) (x.gates m) → may_finish (x.plain l) (x.gates m) ≡ true → ⊥)
    → Turns s IsPut IsFinished old kept old kept
unfinished s old kept none l m g x points stands on =
    stays l m s IsPut g x points stands old kept on IsFinished kept refl on.gate_shows
    (on.here.0, on.here.1, by (may_finish (x.plain l) (x.gates m)) refl)
  where
    by : (b : Bool) → may_finish (x.plain l) (x.gates m) ≡ b → b ≡ false
    by false is = refl
    by true is = absurd (none g x points l m stands on is)

record MayFinish (c : Captured) (y : Gateway) : Type 0 where
  done : is_done c.ways.up ≡ true
  speaks : c.up_shut ≡ false
  own : own_side_open y.conn c.stream ≡ true
  clear : data_waits y.conn c.stream ≡ false

pub not_true : (b : Bool) → not b ≡ true → b ≡ false
not_true true is = absurd (false≢true is)
not_true false is = refl

finish_parts : (c : Captured) (y : Gateway) → may_finish c y ≡ true → MayFinish c y
finish_parts c y is =
    let last = and_parts (is_done c.ways.up && not c.up_shut && own_side_open y.conn c.stream) (not (data_waits y.conn c.stream)) is in
    let own = and_parts (is_done c.ways.up && not c.up_shut) (own_side_open y.conn c.stream) last.0 in
    let first = and_parts (is_done c.ways.up) (not c.up_shut) own.0 in
    record { done = first.0; speaks = not_true c.up_shut first.1; own = own.1; clear = not_true (data_waits y.conn c.stream) last.1 }

pub unfinished_link : (s : ℕ) (old : Relay) (kept : Gate) (may : Bool) → streamed.MayFinish old may → may ≡ false
    → Turns s IsPut IsFinished old kept old kept
unfinished_link s old kept may says isnt =
    unfinished s old kept (λ g x points l m stands on is.
    let parts = finish_parts (x.plain l) (x.gates m) is in
    false≢true (sym isnt ∙ (says (x.plain l) on.shows).1 (on.lives, parts.done, parts.speaks)))

pub unfinished_gate : (s : ℕ) (old : Relay) (kept : Gate) (may : Bool) → gate.MayFinish s kept may → may ≡ false
    → Turns s IsPut IsFinished old kept old kept
unfinished_gate s old kept may says isnt =
    unfinished s old kept (λ g x points l m stands on is.
    let parts = finish_parts (x.plain l) (x.gates m) is in
    false≢true (sym isnt ∙ (of_gate l m s IsPut g x points stands old kept on _ says).1 (
      ap (own_side_open (x.gates m).conn) (sym on.on_stream) ∙ parts.own,
      ap (data_waits (x.gates m).conn) (sym on.on_stream) ∙ parts.clear,
    )))

-- or it is
shut_finishes : (a b c : Bool) → (a && false && b && c) ≡ false
shut_finishes true b c = refl
shut_finishes false b c = refl

pub finishes_both : (s : ℕ) (old one : Relay) (kept two : Gate) (may goes_on : Bool) → streamed.MayFinish old may → may ≡ true
    → gate.MayFinish s kept goes_on → goes_on ≡ true → gate.Finishes s kept two → streamed.Finishes old one
    → Turns s IsPut IsFinished old kept one two
finishes_both s old one kept two may goes_on says is_so says_gate gate_so finishes_two finishes_one l m g x points stands on =
    let c = x.plain l in
    let y = x.gates m in
    let link = (says c on.shows).0 is_so in
    let speaks = (of_gate l m s IsPut g x points stands old kept on _ says_gate).0 gate_so in
    let step = of_gate l m s IsPut g x points stands old kept on _ finishes_two.1 speaks.0 speaks.1 in
    let d = end_put y.conn s in
    let steps = subst (λ (i : ℕ). gateways.Steps i y (gateway_part.finished s) step.next) (finishes_two.0 ∙ on.gate_number) step.steps in
    let may_go : MayGo l (plain_local x l) part.finished = (on.lives, link.1, link.2) in
    goes l m s IsPut g x points stands old kept on finishes d may_go (steps.0, steps.1, steps.2, refl)
    (stream_is l m s IsPut g x points stands old kept on) (λ looked. looked)
    (λ j apart. end_keeps y.conn s j apart) refl IsFinished one two
    (record {
      number = (finishes_one (routing_of g x)).number ∙ on.number;
      gate_number = finishes_two.0 ∙ on.gate_number;
      shows = shows_then l m s IsPut g x points stands old kept on part.finished one (finishes_one (routing_of g x)) may_go on.lives;
      gate_shows = subst (shown.Shows two) steps.3 step.shows;
      lives = on.lives;
      on_gate = on.on_gate;
      on_stream = on.on_stream;
      carries = on.carries;
      stage = on.stage;
      told = on.told;
      here = (
        on.here.0,
        end_stays_shut c.stream y.conn s c.ways.up.held on.here.1,
        shut_finishes (is_done c.ways.up) (own_side_open d c.stream) (not (data_waits d c.stream)),
      );
    }) refl refl refl

-- IT IS DONE

record IsComplete (c : Captured) (y : Gateway) : Type 0 where
  through : is_through c ≡ true
  shut : c.up_shut ≡ true
  closed : is_active y.conn c.stream ≡ false
  went : end_waits y.conn c.stream ≡ false

complete_parts : (c : Captured) (y : Gateway) → is_complete c y ≡ true → IsComplete c y
complete_parts c y is =
    let last = and_parts (is_through c && c.up_shut && not (is_active y.conn c.stream)) (not (end_waits y.conn c.stream)) is in
    let closed = and_parts (is_through c && c.up_shut) (not (is_active y.conn c.stream)) last.0 in
    let first = and_parts (is_through c) c.up_shut closed.0 in
    record {
      through = first.0;
      shut = first.1;
      closed = not_true (is_active y.conn c.stream) closed.1;
      went = not_true (end_waits y.conn c.stream) last.1;
    }

-- or not yet: it rests
pub rests_now : (c : Captured) (gates : ℕ → Gateway) (n : ℕ) → c.gate ≡ n → c.stage ≡ live → LiveRests c (gates n) → RestsAmong gates c
rests_now c gates n at is rests on =
    subst (λ (st : Stage). StreamRestsBy st c (gates c.gate)) (sym is) (subst (λ (i : ℕ). LiveRests c (gates i)) (sym at) rests)

incomplete : (s : ℕ) (old : Relay) (kept : Gate) (before : Routing) → ((g : NodeConfig) (x : Machine) (points : List Point) (l m : ℕ)
    → StandsFor g x points → OnStream l m s IsFinished old kept (x.plain l) (x.gates m)
    → is_complete (x.plain l) (x.gates m) ≡ true → ⊥) → Rests s IsFinished old kept before old kept before None
incomplete s old kept before none l m g x points stands on counted = record {
  more = [];
  reached = x;
  leads = refl;
  number = on.number;
  gate_number = on.gate_number;
  shows = on.shows;
  gate_shows = on.gate_shows;
  rests = rests_now (x.plain l) x.gates m on.on_gate on.lives.1 (record {
    given_back = on.here.0;
    none_goes = on.here.1;
    not_finished = on.here.2;
    not_complete = by (is_complete (x.plain l) (x.gates m)) refl;
  });
  undue = λ is. (let no = sym on.lives.1 ∙ is in cc);
  beside = record {
    plain = λ k apart. refl;
    gates = λ i apart. refl;
    rests = λ k apart rests. rests;
    calm = λ calm. calm;
    phase = refl;
    up = refl;
    closed = refl;
  };
  counted = counted;
  noted = refl;
}
  where
    by : (b : Bool) → is_complete (x.plain l) (x.gates m) ≡ b → b ≡ false
    by false is = refl
    by true is = absurd (none g x points l m stands on is)

pub incomplete_link : (s : ℕ) (old : Relay) (kept : Gate) (before : Routing) (may : Bool) → streamed.MayComplete old may → may ≡ false
    → Rests s IsFinished old kept before old kept before None
incomplete_link s old kept before may says isnt =
    incomplete s old kept before (λ g x points l m stands on is.
    let parts = complete_parts (x.plain l) (x.gates m) is in
    false≢true (sym isnt ∙ (says (x.plain l) on.shows).1 (on.lives, parts.through, parts.shut)))

pub incomplete_gate : (s : ℕ) (old : Relay) (kept : Gate) (before : Routing) (through : Bool) → gate.IsThrough s kept through
    → through ≡ false → Rests s IsFinished old kept before old kept before None
incomplete_gate s old kept before through says isnt =
    incomplete s old kept before (λ g x points l m stands on is.
    let parts = complete_parts (x.plain l) (x.gates m) is in
    false≢true (sym isnt ∙ (of_gate l m s IsFinished g x points stands old kept on _ says).1
    (ap (is_active (x.gates m).conn) (sym on.on_stream) ∙ parts.closed, ap (end_waits (x.gates m).conn) (sym on.on_stream) ∙ parts.went)))

-- A LINK THAT RESTS WHATEVER ITS STREAM ALLOWS
pub none_waits : (old : Relay) (kept : Gate) (waits : Bool) → streamed.HasWaiting old waits → waits ≡ false → MayPut old kept false
none_waits old kept waits has isnt so x y shows gate_shows carries =
    ap (count_put y.conn x.stream) (nothing (length x.ways.up.held) refl) ∙ count_none y.conn x.stream
  where
    nothing : (n : ℕ) → length x.ways.up.held ≡ n → x.ways.up.held ≡ []
    nothing zero size = nil_from_length x.ways.up.held size
    nothing (suc n) size = absurd (false≢true (sym isnt ∙ (has x shows).1 (omega (arith, size))))

pub none_fits : (old : Relay) (kept : Gate) (may : Bool) → gate.MayPut kept may → MayPut old kept may
none_fits old kept may says isnt x y shows gate_shows carries =
    let c = y.conn in
    let k = core_of c in
    let s = x.stream in
    let bytes = x.ways.up.held in
    cond_both k.over 0 (cond (nat_le s largest && length (octets_of k.out) == 0) (min (length bytes) (payload.allowed k s)) 0)
    (λ (n : ℕ). n ≡ 0) (λ is. refl)
    (λ is. cond_both (nat_le s largest && length (octets_of k.out) == 0) (min (length bytes) (payload.allowed k s)) 0 (λ (n : ℕ). n ≡ 0)
    (λ clear.
    let empty = eqb-true (length (octets_of k.out)) 0 (and_parts (nat_le s largest) (length (octets_of k.out) == 0) clear).1 in
    absurd (false≢true (sym isnt ∙ (says y gate_shows carries).1 empty)))
    (λ is. refl))

pub rests_on : (old : Relay) (kept : Gate) (owed : ℕ) (may finish complete is : Bool) → streamed.Owes old owed → MayPut old kept may
    → streamed.MayFinish old finish → streamed.MayComplete old complete → owed ≡ 0 → may ≡ false → finish ≡ false
    → (is ≡ true → complete ≡ false) → RestsOn old kept is
rests_on old kept owed may finish complete is owes none_put may_end may_be_done none not_put not_finish not_complete so x y shows
    gate_shows lives carries = record {
      given_back = (let told = owes x shows in omega (arith, told, none));
      none_goes = none_put not_put x y shows gate_shows carries;
      not_finished = unless (may_finish x y) (λ ends.
          let parts = finish_parts x y ends in
          false≢true (sym not_finish ∙ (may_end x shows).1 (lives, parts.done, parts.speaks)));
      not_complete = unless (is_complete x y) (λ ends.
          let parts = complete_parts x y ends in
          false≢true (sym (not_complete so) ∙ (may_be_done x shows).1 (lives, parts.through, parts.shut)));
    }
  where
    unless : (b : Bool) → (b ≡ true → ⊥) → b ≡ false
    unless false never = refl
    unless true never = absurd (never refl)

-- a stream that is over leaves the link to a gateway calm
over_calm : (y : Gateway) (s : ℕ) → IsCalm y → IsCalm (at_stream s (at_stage over) y)
over_calm y s calm = (told, by y.phase calm.1)
  where
    told : AllTold (at_stream s (at_stage over) y)
    told k =
        cond_both (k == s) (at_stage over (y.streams k)) (y.streams k) (λ (t : Stream). t.mail ≡ None) (λ is. calm.0 k) (λ is. calm.0 k)

    reset : ((k : ℕ) → is_failing (y.streams k).stage ≡ false) → (k : ℕ)
        → is_failing (cond (k == s) (at_stage over (y.streams k)) (y.streams k)).stage ≡ false
    reset all k =
        cond_both (k == s) (at_stage over (y.streams k)) (y.streams k) (λ (t : Stream). is_failing t.stage ≡ false) (λ is. refl)
        (λ is. all k)

    by : (phase : Phase) → IsCalmBy phase y → IsCalmBy phase (at_stream s (at_stage over) y)
    by gateway.opening is = reset is
    by gateway.serving is = (reset is.0, is.1)
    by phase is = tt

pub completes_both : (s : ℕ) (old one : Relay) (kept two : Gate) (before behind : Routing) (may through : Bool) (begun : ℕ) (made : Note)
    → streamed.MayComplete old may → may ≡ true → gate.IsThrough s kept through → through ≡ true → gate.IsDone s begun kept two
    → streamed.Completes begun old before one behind made → Rests s IsFinished old kept before one two behind (Some made)
completes_both s old one kept two before behind may through begun made says is_so says_gate gate_so done_two done_one l m g x points
    stands on counted_is =
    let link_may = (says c on.shows).0 is_so in
    let closed = (of_gate l m s IsFinished g x points stands old kept on _ says_gate).0 gate_so in
    let told = of_gate l m s IsFinished g x points stands old kept on _ done_two.1 closed.0 closed.1 on.told in
    let count = told.0 in
    let step = told.2 in
    let steps = subst (λ (i : ℕ). gateways.Steps i y (gateway_part.done s count) step.next) (done_two.0 ∙ on.gate_number) step.steps in
    let one_goes = done_one.reaches count told.1 (plain_local x l) on.shows link_may.0 link_may.1 link_may.2 in
    let may_go = subst (λ (i : ℕ). MayGo i (plain_local x l) (part.completed count made)) on.number one_goes.0 in
    let link = next_link c (part.completed count made) in
    let left = at_stream s (at_stage over) y in
    let z = with_stream l m link left x in
    record {
      more = of_stream l m s (completes count made) ∷ [];
      reached = z;
      leads = (
        tt,
        z,
        (may_go, left, (steps.0, steps.1, steps.2, refl), stream_is l m s IsFinished g x points stands old kept on, refl),
        refl,
      );
      number = done_one.number ∙ on.number;
      gate_number = done_two.0 ∙ on.gate_number;
      shows = subst (Shows one) (sym (link_here l m link left x)) one_goes.1;
      gate_shows = subst (shown.Shows two) (sym (gate_here l m link left x)) (subst (shown.Shows two) steps.3 step.shows);
      rests = subst (λ (w : Captured). RestsAmong z.gates w) (sym (link_here l m link left x)) (λ raw. absurd (false≢true (sym raw)));
      undue = λ is.
          (let no : captured_link.over cause.Done ≡ captured_link.due =
          sym (ap (λ (w : Captured). w.stage) (link_here l m link left x)) ∙ is in
          cc);
      beside = record {
        plain = link_other l m link left x;
        gates = gate_other l m link left x;
        rests = others_rest l m link left x (λ k apart raw at. same_keeps y.conn (x.plain k).stream);
        calm = λ calm. subst IsCalm (sym (gate_here l m link left x)) (over_calm y s calm);
        phase = ap (λ (w : Gateway). w.phase) (gate_here l m link left x);
        up = ap (λ (w : Captured). w.up) (link_here l m link left x);
        closed = ap (λ (w : Captured). w.closed) (link_here l m link left x);
      };
      counted = one_goes.2 ∙ ap (rerouted c link) counted_is;
      noted = refl;
    }
  where
    c : Captured
    c = x.plain l

    y : Gateway
    y = x.gates m

-- ONE PART BEHIND ANOTHER

beside_then : (l n : ℕ) (x y z : Machine) → Beside l n x y → Beside l n y z → Beside l n x z
beside_then l n x y z first more = record {
  plain = λ k apart. more.plain k apart ∙ first.plain k apart;
  gates = λ i apart. more.gates i apart ∙ first.gates i apart;
  rests = λ k apart rests. more.rests k apart (first.rests k apart rests);
  calm = λ calm. more.calm (first.calm calm);
  phase = more.phase ∙ first.phase;
  up = more.up ∙ first.up;
  closed = more.closed ∙ first.closed;
}

pub turns_then : (s : ℕ) (P Q R : Captured → Gateway → Type 0) (a b c : Relay) (h i j : Gate) → Turns s P Q a h b i → Turns s Q R b i c j
    → Turns s P R a h c j
turns_then s P Q R a b c h i j first more l n g x points stands on =
    let one = first l n g x points stands on in
    let then = stands_on g x points one.more one.reached stands one.leads in
    let two = more l n g one.reached then.0 then.1 one.shows in
    record {
      more = one.more ++ two.more;
      reached = two.reached;
      leads = leads_append g x one.reached two.reached one.more two.more one.leads two.leads;
      shows = two.shows;
      beside = beside_then l n x one.reached two.reached one.beside two.beside;
      opens = two.opens ∙ one.opens;
      noted = flat_map-append note_in one.more two.more ∙ ap₂ (λ (a b : List Note). a ++ b) one.noted two.noted;
    }

pub rests_then : (s : ℕ) (P Q : Captured → Gateway → Type 0) (a b c : Relay) (h i j : Gate) (before behind : Routing) (made : Option Note)
    → Turns s P Q a h b i → Rests s Q b i before c j behind made → Rests s P a h before c j behind made
rests_then s P Q a b c h i j before behind made first more l n g x points stands on counted =
    let one = first l n g x points stands on in
    let then = stands_on g x points one.more one.reached stands one.leads in
    let two = more l n g one.reached then.0 then.1 one.shows
    (counted ∙ ap (λ (o : Counts). record { opens = o; hbone_port = g.hbone_port }) (sym one.opens)) in
    record {
      more = one.more ++ two.more;
      reached = two.reached;
      leads = leads_append g x one.reached two.reached one.more two.more one.leads two.leads;
      number = two.number;
      gate_number = two.gate_number;
      shows = two.shows;
      gate_shows = two.gate_shows;
      rests = two.rests;
      undue = two.undue;
      beside = beside_then l n x one.reached two.reached one.beside two.beside;
      counted = two.counted;
      noted = flat_map-append note_in one.more two.more ∙ ap (λ (ns : List Note). ns ++ notes two.more) one.noted ∙ two.noted;
    }
