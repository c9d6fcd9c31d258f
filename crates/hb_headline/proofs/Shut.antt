-- Where the peer's side of a stream is shut it stays so, and no DATA of the stream is told any more.
use Rattle.std.proofs.Common.{◌≡◌, ◌≢◌, ◌⊎◌, inl, inr, ⊎_elim, ℕ, ◌≤◌, ◌<◌, ◌==◌, ◌&&◌, ◌||◌, Bool, true, false, cond, List, [], ◌∷◌, ◌++◌, length, take, Option, Some, None, Result, Ok, Err, refl, ap, ap₂, sym, ◌∙◌, subst, arith}
use Rattle.std.specs.FinMap.{get}
use Rattle.std.specs.List.{flat_map}
use Rattle.std.specs.Prelude.{nat_lt}
use Rattle.std.proofs.lemmas.Bool.{false≢true, and_parts, cases_eq, cond_both, eqb-true, eq-eqb}
use Rattle.std.proofs.lemmas.Bool.Decides.{nat_tests}
use Rattle.std.proofs.lemmas.List.{append_assoc}
use Rattle.hb_conn.specs.Data.{used as all_used, padded, continued, data_goes, data_answered, is_of_idle, on_data}
use Rattle.hb_conn.specs.Faults.{faulted, is_active, broken}
use Rattle.hb_conn.specs.Frames.{frame, sent}
use Rattle.hb_conn.specs.Glance.{glance_at, has_flag}
use Rattle.hb_conn.specs.Handling.{Handles, HandlesBy}
use Rattle.hb_conn.specs.Outcome.{Outcome, outcome, Gives}
use Rattle.hb_conn.specs.Payload.{count_put}
use Rattle.hb_conn.specs.Places.{is_misplaced}
use Rattle.hb_conn.specs.declared.found.Found.{Found}
use Rattle.hb_conn.specs.declared.found.Found.TheVariants as found
use Rattle.hb_conn.specs.declared.glance.Glance.{Glance}
use Rattle.hb_conn.specs.declared.glance.Glance.TheVariants as glance
use Rattle.hb_conn.specs.declared.machine.Core.{Core}
use Rattle.hb_flow.specs.Flows.{spent}
use Rattle.hb_flow.specs.Windows.{Windows}
use Rattle.hb_frames.specs.Bodies.{lent_of}
use Rattle.hb_frames.specs.Numbers.{data_kind, headers_kind, rst_stream_kind, refused_stream, end_stream_flag, flow_control_error, protocol_error, stream_closed}
use Rattle.hb_frames.specs.RawFrame.{RawFrame}
use Rattle.hb_history.proofs.Acted.{move_keeps}
use Rattle.hb_history.proofs.Glanced.{data_are}
use Rattle.hb_history.proofs.Handled.{Grows}
use Rattle.hb_history.proofs.Lives.{Moved, used, Lives, lives_runs}
use Rattle.hb_history.proofs.Parts.{Amid, calm, Keeps, Puts, PutsAck, Resizes}
use Rattle.hb_history.specs.Points.{Point, Move, got, point, After, Runs, got_by, frames_got}
use Rattle.hb_inbound.specs.Sides.{data_by, data_told}
use Rattle.hb_kept.proofs.Rises.{frame_rises}
use Rattle.hb_kept.proofs.Sides.{On, handles_on}
use Rattle.hb_kept.proofs.SidesAt.{sides_at}
use Rattle.hb_kept.proofs.Told.{IsOther, handles_so}
use Rattle.hb_map.proofs.Laws.{written_elsewhere}
use Rattle.hb_map.specs.Keyed.{written}
use Rattle.hb_outgoing.specs.Waiting.{room_of}
use Rattle.hb_streams.proofs.Begins.{uses_number, number_is_above}
use Rattle.hb_streams.proofs.Follows.{numbers_rise}
use Rattle.hb_streams.proofs.Keys.{held-insert, held-remove, held-written}
use Rattle.hb_streams.specs.Answers.{answer_of, data_answer, number_of}
use Rattle.hb_streams.specs.Moves.{Move as StreamMove, receives, begins, sends_end, sends_reset, begun, closed, refused as refuses, own_side_ended, peer_side_ended, peer_ended, after_answer, after_number, after}
use Rattle.hb_streams.specs.Numbers.{is_even}
use Rattle.hb_streams.specs.Resets.{is_among}
use Rattle.hb_streams.specs.Sides.{both_open, sides_of}
use Rattle.hb_streams.specs.States.{States, state_of, state_by, state_of_others}
use Rattle.hb_streams.specs.declared.fault.OpenFault.{OpenFault}
use Rattle.hb_streams.specs.declared.fault.StreamFault.{StreamFault}
use Rattle.hb_streams.specs.declared.role.Role.{Role}
use Rattle.hb_streams.specs.declared.sides.Sides.{Sides}
use Rattle.hb_streams.specs.declared.state.State.{State}
use Rattle.hb_streams.specs.declared.state.State.TheVariants.{Idle, Open, HalfClosedLocal, HalfClosedRemote, Closed, Reset}
use Rattle.hb_streams.specs.declared.step.Step.{Step}
use Rattle.hb_streams.specs.declared.step.Step.TheVariants as step
use Rattle.hb_headline.specs.Relay.{IsFront, data_in, data_on}
use Rattle.hb_headline.proofs.Chunks.{chunk_of_frame}

module _ (s : ℕ) where
  -- its number was used, and its peer's side is shut where it is active
  abbrev pub Shut : States → Type 0
  Shut st = (s ≤ st.highest) × ((w : Sides) → get st.active s ≡ Some w → w.peer ≡ false)

  -- MOVES OF STREAMS keep it so
  closes : (st : States) (n : ℕ) → Shut st → Shut (closed st n)
  closes st n shut = (shut.0, λ w there. shut.1 w (held-remove st.active n w s there))

  begins_above : (st : States) (n : ℕ) (sides : Sides) → st.highest < n → Shut st → Shut (begun st n sides)
  begins_above st n sides above shut = (
    omega (arith, above, shut.0),
    λ w there.
        ⊎_elim (λ new. absurd (omega (arith, new.0, above, shut.0))) (λ before. shut.1 w before) (held-insert st.active n sides w s there),
  )

  sides_by : (st : States) (n : ℕ) (old new : Sides) → get st.active n ≡ Some old → (old.peer ≡ false → new.peer ≡ false) → (b : Bool)
      → Shut st → Shut (cond b (record st { active = written st.active n new }) (closed st n))
  sides_by st n old new is less true shut = (
    shut.0,
    λ w there.
        ⊎_elim
        (λ (same : s ≡ n).
        ⊎_elim (λ now. ap (λ (x : Sides). x.peer) now.0 ∙ less (shut.1 old (ap (get st.active) same ∙ is)))
        (λ before. shut.1 w before) (held-written st.active n new w s there))
        (λ (apart : s ≢ n). shut.1 w (sym (written_elsewhere st.active n new s apart) ∙ there))
        (cases_eq s n),
  )
  sides_by st n old new is less false shut = closes st n shut

  own_ends : (st : States) (n : ℕ) (o : Option Sides) → get st.active n ≡ o → Shut st → Shut (own_side_ended st n o)
  own_ends st n None is shut = shut
  own_ends st n (Some w) is shut = sides_by st n w (record w { own = false }) is (λ none. none) (false || w.peer) shut

  peer_ends : (st : States) (n : ℕ) (o : Option Sides) → get st.active n ≡ o → Shut st → Shut (peer_side_ended st n o)
  peer_ends st n None is shut = shut
  peer_ends st n (Some w) is shut = sides_by st n w (record w { peer = false }) is (λ none. refl) (w.own || false) shut

  going_by : (st : States) (n : ℕ) (a b : Bool) → Shut st → Shut (cond a (closed st n) (cond b (peer_ended st n) st))
  going_by st n true b shut = closes st n shut
  going_by st n false true shut = peer_ends st n (get st.active n) refl shut
  going_by st n false false shut = shut

  refused_by : (st : States) (n : ℕ) (b : Bool) → (b ≡ true → st.highest < n) → Shut st → Shut (cond b (refuses st n) st)
  refused_by st n true above shut = let up : st.highest < n = above refl in (omega (arith, up, shut.0), shut.1)
  refused_by st n false above shut = shut

  answers : (st : States) (kind n : ℕ) (end : Bool) (r : Result Step StreamFault) → answer_of st kind n ≡ r → Shut st
      → Shut (after_answer st kind n end r)
  answers st kind n end (Ok step.New) is shut =
      begins_above st n _ (number_is_above st kind n (ap uses_number is)).1 shut
  answers st kind n end (Ok step.Goes) is shut =
      going_by st n (kind == rst_stream_kind) (end && (kind == data_kind || kind == headers_kind)) shut
  answers st kind n end (Ok step.Ignored) is shut = shut
  answers st kind n end (Err fault) is shut =
      refused_by st n (fault.code == refused_stream) (λ b. (number_is_above st kind n (ap uses_number is ∙ b)).1) shut

  numbers : (st : States) (limit : ℕ) (r : Result ℕ OpenFault) → number_of st limit ≡ r → Shut st → Shut (after_number st r)
  numbers st limit (Ok n) is shut = begins_above st n both_open (numbers_rise st limit n is).1 shut
  numbers st limit (Err why) is shut = shut

  moved : (st : States) (m : StreamMove) → Shut st → Shut (after st m)
  moved st (receives kind n end) shut = answers st kind n end (answer_of st kind n) refl shut
  moved st (begins limit) shut = numbers st limit (number_of st limit) refl shut
  moved st (sends_end n) shut = own_ends st n (get st.active n) refl shut
  moved st (sends_reset n) shut = (shut.0, λ w there. shut.1 w (held-remove st.active n w s there))

  -- MOVES OF A CONNECTION keep it so, where no error of the connection was told
  abbrev pub Dead : Amid → Core → Type 0
  Dead a c = (c.over ≡ true) ⊎ Shut c.streams

  carry : (c : Core) (st : States) → (Shut c.streams → Shut st) → Dead calm c → (c.over ≡ true) ⊎ Shut st
  carry c st so (inl over) = inl over
  carry c st so (inr shut) = inr (so shut)

  over_now : (c : Core) (code : ℕ) → Dead calm (faulted c code).core
  unfolding faulted
  over_now c code = inl refl

  keeps : Keeps Dead
  keeps = record {
    ends = λ q c h. h;
    goes = λ q c h. h;
    other = λ a c e b p t h. h;
    sends = λ a c f plain h. h;
    owes = λ a c m opens h. h;
    moves = λ b q c t on h. carry c t (λ shut. subst Shut (sym on.is) (moved c.streams on.move shut)) h;
    withdraws = λ q c h. h;
    releases = λ q c h. cond_both (is_active c.streams q) c _ (λ (x : Core). Dead calm x) (λ is. h) (λ is. h);
    leaves = λ q c none h. h;
    takes_in = λ a c m taking may h. h;
    begins = λ q c sides m above becomes h. carry c (begun c.streams q sides) (begins_above c.streams q sides above) h;
    faults = λ a c f code h. over_now (record c { flow = f }) code;
  }

  puts : Puts Dead
  puts c q bytes h =
      let k = count_put c q bytes in
      cond_both (k == 0) c (sent (record c { flow = spent c.flow q k }) (frame data_kind 0 q (take k bytes)))
      (λ (x : Core). Dead calm x) (λ is. h) (λ is. h)

  acks : PutsAck Dead
  acks c f answer h = h

  resizes : Resizes Dead
  resizes c k within fits h = h

  grows : (c : Core) (q m : ℕ) → Dead calm c → Grows Dead c q m
  grows c q m h = record {
    fault = λ code. over_now c code;
    whole = λ zero fits. h;
    one = λ some w is fits. h;
    broken = λ some live. h;
    ignored = λ some live why. h;
  }

  stays : (c : Core) (m : Move) (new : Core) (told : Found) → Dead calm c → After c m new told → Dead calm new
  stays c m new told h is = move_keeps Dead keeps puts resizes acks grows (λ d n within h. h) c m new told h is

  -- DATA IS TOLD only where the peer's side is open
  open_by : (own peer : Bool)
      → data_answer s (cond (own && peer) Open (cond peer HalfClosedLocal (cond own HalfClosedRemote Closed))) ≡ Ok step.Goes
      → peer ≡ true
  open_by true true is = refl
  open_by false true is = refl
  open_by true false is = absurd cc
  open_by false false is = absurd cc

  none_goes : (a b : Bool) → data_answer s (cond a Idle (cond b Reset Closed)) ≡ Ok step.Goes → ⊥
  none_goes true b is = cc
  none_goes false true is = cc
  none_goes false false is = cc

  pub goes_open : (st : States) (o : Option Sides) → data_answer s (state_by o (state_of_others st s)) ≡ Ok step.Goes
      → (w : Sides) × (o ≡ Some w) × (w.peer ≡ true)
  goes_open st None is = absurd (none_goes (is_even s || nat_lt st.highest s) (is_among st.resets s) is)
  goes_open st (Some w) is = (w, refl, open_by w.own w.peer is)

  abbrev Went : Core → Found → Core → Type 0
  Went c (found.Chunk k end) new = answer_of c.streams data_kind k ≡ Ok step.Goes
  Went c told new = Unit {0}

  went_other : (c : Core) (told : Found) (new : Core) → IsOther told → Went c told new
  went_other c (found.Chunk k end) new is = absurd is
  went_other c _ new is = tt

  pub chunk_goes : (c : Core) (g : Glance) (bytes : List ℕ) (new : Core) (end : Bool) → Handles c g bytes new (found.Chunk s end)
      → answer_of c.streams data_kind s ≡ Ok step.Goes
  chunk_goes c g bytes new end is =
      handles_so (Went c) (went_other c) c g bytes new (found.Chunk s end) (record {
        opens = λ blocks k end is. tt;
        heads = λ blocks k end is. tt;
        chunks = λ d k end same is. is;
      }) is

  never_told : (c : Core) (f : RawFrame) (new : Core) (end : Bool) → Dead calm c → After c (got f) new (found.Chunk s end) → ⊥
  never_told c f new end (inl over) after = false≢true (sym after.0 ∙ ap (λ (b : Bool). b || nat_lt (room_of c.out) 256) over)
  never_told c f new end (inr shut) after =
      let side = goes_open c.streams (get c.streams.active s) (chunk_goes c (glance_at f) (lent_of f) new end after.1) in
      false≢true (sym (shut.1 side.0 side.1) ∙ side.2)

  -- DATA OF THE STREAM THAT ISN'T TOLD ends it: by an error of the connection or of the stream, or it was reset a short while ago
  abbrev pub Ends : Core → Found → Core → Type 0
  Ends c (found.Chunk k end) new = Unit {0}
  Ends c (found.Broken k code) new = (k ≡ s) × (is_of_idle (data_answer s (state_of c.streams s)) ≡ false)
  Ends c found.Silent new = state_of c.streams s ≡ Reset
  Ends c (found.Fault code) new = new.over ≡ true
  Ends c told new = ⊥

  module _ (c : Core) where
    abbrev Shows : Outcome → Type 0
    Shows o = Ends c o.found o.core

    given : (o : Outcome) (new : Core) (told : Found) → Shows o → Gives o new told → Ends c told new
    given o new told shows is =
        subst (λ (t : Found). Ends c t new) (sym is.1) (subst (λ (d : Core). Ends c o.found d) (sym is.0) shows)

    either : (b : Bool) (o p : Outcome) → Shows o → Shows p → Shows (cond b o p)
    either true o p first second = first
    either false o p first second = second

    fault : (d : Core) (code : ℕ) → Shows (faulted d code)
    unfolding faulted
    fault d code = refl

    module _ (k size : ℕ) (end : Bool) where
      goes_by : (d : Core) (o : Option Windows) → is_of_idle (data_answer s (state_of c.streams s)) ≡ false
          → Shows (data_goes d s k size end o)
      goes_by d None used = tt
      goes_by d (Some w) used =
          either (nat_lt w.taking.granted k) (broken d s flow_control_error)
          (outcome (continued (padded d s k size) s end) (found.Chunk s end)) (refl, used) tt

      answered_by : (d : Core) (st : State) → state_of c.streams s ≡ st → is_of_idle (data_answer s st) ≡ false
          → Shows (data_answered d s k size end (data_answer s st))
      answered_by d Idle is used = absurd (false≢true (sym used))
      answered_by d Open is used =
          goes_by d (get d.flow.streams s) (ap (λ (x : State). is_of_idle (data_answer s x)) is)
      answered_by d HalfClosedLocal is used =
          goes_by d (get d.flow.streams s) (ap (λ (x : State). is_of_idle (data_answer s x)) is)
      answered_by d HalfClosedRemote is used = (refl, ap (λ (x : State). is_of_idle (data_answer s x)) is)
      answered_by d Closed is used = fault d stream_closed
      answered_by d Reset is used = is

      shows : Shows (on_data c s k size end)
      shows = by (is_of_idle (data_answer s (state_of c.streams s))) refl
        where
          by : (b : Bool) → is_of_idle (data_answer s (state_of c.streams s)) ≡ b
              → Shows (cond b (faulted c protocol_error) (cond (nat_lt c.flow.taking.granted k) (faulted c flow_control_error)
              (data_answered (all_used c k) s k size end (data_answer s (state_of c.streams s)))))
          by true idle = fault c protocol_error
          by false used =
              either (nat_lt c.flow.taking.granted k) (faulted c flow_control_error) _ (fault c flow_control_error)
              (answered_by (all_used c k) (state_of c.streams s) refl used)

    handles_by : (b : Bool) (k : ℕ) (end : Bool) (bytes : List ℕ) (new : Core) (told : Found)
        → HandlesBy b c (glance.Data s k end) bytes new told → Ends c told new
    handles_by true k end bytes new told is = given (faulted c protocol_error) new told (fault c protocol_error) is
    handles_by false k end bytes new told is = given (on_data c s k (length bytes) end) new told (shows k (length bytes) end) is

  -- its number was used
  low_by : (a b d : Bool) → is_of_idle (data_answer s (cond (a || b) Idle (cond d Reset Closed))) ≡ false → b ≡ false
  low_by true b d used = absurd (false≢true (sym used))
  low_by false true d used = absurd (false≢true (sym used))
  low_by false false d used = refl

  low : (role : Role) (st : States) (o : Option Sides) → Moved role st → get st.active s ≡ o
      → is_of_idle (data_answer s (state_by o (state_of_others st s))) ≡ false → s ≤ st.highest
  low role st (Some w) moves is idle = (used role st s w moves is).1
  low role st None moves is idle =
      let below = low_by (is_even s) (nat_lt st.highest s) (is_among st.resets s) idle in grind (arith, nat_tests, below)

  peer_by : (own peer : Bool)
      → (sides_of (cond (own && peer) Open (cond peer HalfClosedLocal (cond own HalfClosedRemote Closed)))).peer ≡ peer
  peer_by true true = refl
  peer_by true false = refl
  peer_by false true = refl
  peer_by false false = refl

  shut_at : (st : States) → s ≤ st.highest → (sides_at st s).peer ≡ false → Shut st
  shut_at st most shut = (
    most,
    λ w there. sym (peer_by w.own w.peer)
        ∙ ap (λ (o : Option Sides). (sides_of (state_by o (state_of_others st s))).peer) (sym there) ∙ shut,
  )

  abbrev IsUntold : Found → Type 0
  IsUntold (found.Chunk k end) = ⊥
  IsUntold _ = Unit {0}

  dead_by : (c new : Core) (told : Found) → IsUntold told
      → (is_of_idle (data_answer s (state_of c.streams s)) ≡ false → s ≤ new.streams.highest) → Ends c told new
      → On told c.streams new.streams → Dead calm new
  dead_by c new (found.Chunk k end) untold most ends on = absurd untold
  dead_by c new (found.Broken k code) untold most ends on =
      inr (shut_at new.streams (most ends.1) (ap (λ (x : Sides). x.peer) (ap (sides_at new.streams) (sym ends.0) ∙ on.here)))
  dead_by c new found.Silent untold most ends on =
      inr (shut_at new.streams (most (ap (λ (x : State). is_of_idle (data_answer s x)) ends))
      (ap (λ (x : Sides). x.peer) (on s ∙ ap sides_of ends)))
  dead_by c new (found.Fault code) untold most ends on = inl ends
  dead_by c new _ untold most ends on = absurd ends

  pub ends_by : (c : Core) (f : RawFrame) (new : Core) (told : Found) → f.kind ≡ data_kind → f.stream ≡ s → After c (got f) new told
      → Ends c told new
  ends_by c f new told kind stream after =
      handles_by c (is_misplaced c (glance.Data s (length f.payload) (has_flag f end_stream_flag))) (length f.payload)
      (has_flag f end_stream_flag) (lent_of f) new told handled
    where
      handled : Handles c (glance.Data s (length f.payload) (has_flag f end_stream_flag)) (lent_of f) new told
      handled =
          subst (λ (g : Glance). Handles c g (lent_of f) new told)
          ((data_are f (eq-eqb f.kind data_kind kind)).0
          ∙ ap (λ (n : ℕ). glance.Data n (length f.payload) (has_flag f end_stream_flag)) stream) after.1

  dead_now : (role : Role) (c : Core) (f : RawFrame) (new : Core) (told : Found) → Lives role calm c → f.kind ≡ data_kind → f.stream ≡ s
      → IsUntold told → After c (got f) new told → Dead calm new
  dead_now role c f new told lives kind stream untold after =
      dead_by c new told untold
      (λ used. frame_rises s c (glance_at f) (lent_of f) new told (low role c.streams (get c.streams.active s) lives.0 refl used) after.1)
      (ends_by c f new told kind stream after)
      (handles_on (is_misplaced c (glance_at f)) c (glance_at f) (lent_of f) new told after.1)

  -- SO WHAT IS TOLD is a front of the DATA that came

  none_told : (c : Core) (points : List Point) (new : Core) → Dead calm c → Runs c points new → flat_map (data_by s) points ≡ []
  none_told c [] new dead runs = refl
  none_told c (p ∷ ps) new dead runs =
      by p.move p.told runs.1 (none_told runs.0 ps new (stays c p.move runs.0 p.told dead runs.1) runs.2)
    where
      chunk : (f : RawFrame) (k : ℕ) (end : Bool) (b : Bool) → (k == s) ≡ b → After c (got f) runs.0 (found.Chunk k end)
          → flat_map (data_by s) ps ≡ [] → cond b (lent_of f) [] ++ flat_map (data_by s) ps ≡ []
      chunk f k end true is after none =
          absurd (never_told c f runs.0 end dead
          (subst (λ (n : ℕ). After c (got f) runs.0 (found.Chunk n end)) (eqb-true k s is) after))
      chunk f k end false is after none = none

      by : (m : Move) (told : Found) → After c m runs.0 told → flat_map (data_by s) ps ≡ []
          → data_told s m told ++ flat_map (data_by s) ps ≡ []
      by (got f) (found.Chunk k end) after none = chunk f k end (k == s) refl after none
      by (got f) _ after none = none
      by _ told after none = none

  pub data_is : (f : RawFrame) → f.kind ≡ data_kind → f.stream ≡ s → data_in s f ≡ lent_of f
  data_is f kind stream =
      ap₂ (λ (a b : Bool). cond (a && b) (lent_of f) []) (eq-eqb f.kind data_kind kind) (eq-eqb f.stream s stream)

  -- nothing is told of it
  nothing_of : (f : RawFrame) (b : Bool) → (f.kind == data_kind && f.stream == s) ≡ b → (came told : List ℕ)
      → (b ≡ true → told ≡ []) → IsFront told came → IsFront told (cond b (lent_of f) [] ++ came)
  nothing_of f true is came told none front =
      record { rest = lent_of f ++ came; is = ap (λ (bs : List ℕ). bs ++ (lent_of f ++ came)) (sym (none refl)) }
  nothing_of f false is came told none front = front

  pub front_told : (role : Role) (c : Core) (points : List Point) (new : Core) → Lives role calm c → Runs c points new
      → IsFront (flat_map (data_by s) points) (data_on s (frames_got points))
  front_told role c [] new lives runs = record { rest = []; is = refl }
  front_told role c (p ∷ ps) new lives runs =
      by p.move p.told runs.1
      (front_told role runs.0 ps new (lives_runs role (p ∷ []) c runs.0 lives (runs.0, runs.1, refl)) runs.2)
    where
      chunk : (f : RawFrame) (k : ℕ) (end : Bool) (b : Bool) → (k == s) ≡ b → After c (got f) runs.0 (found.Chunk k end)
          → IsFront (flat_map (data_by s) ps) (data_on s (frames_got ps))
          → IsFront (cond b (lent_of f) [] ++ flat_map (data_by s) ps) (data_in s f ++ data_on s (frames_got ps))
      chunk f k end true is after more =
          let of = chunk_of_frame c f (lent_of f) runs.0 k end after.1 in
          record {
            rest = more.rest;
            is = ap₂ (λ (xs ys : List ℕ). xs ++ ys) (data_is f of.0 (of.1 ∙ eqb-true k s is)) more.is
                ∙ sym (append_assoc (lent_of f) (flat_map (data_by s) ps) more.rest);
          }
      chunk f k end false is after more =
          let of = chunk_of_frame c f (lent_of f) runs.0 k end after.1 in
          nothing_of f (f.kind == data_kind && f.stream == s) refl (data_on s (frames_got ps)) (flat_map (data_by s) ps)
          (λ both.
          let on = (and_parts (f.kind == data_kind) (f.stream == s) both).1 in
          absurd (false≢true (sym is ∙ ap (λ (n : ℕ). n == s) (sym of.1) ∙ on)))
          more

      other : (f : RawFrame) (told : Found) → IsUntold told → After c (got f) runs.0 told
          → IsFront (flat_map (data_by s) ps) (data_on s (frames_got ps))
          → IsFront (flat_map (data_by s) ps) (data_in s f ++ data_on s (frames_got ps))
      other f told untold after more =
          nothing_of f (f.kind == data_kind && f.stream == s) refl (data_on s (frames_got ps)) (flat_map (data_by s) ps)
          (λ both.
          let is = and_parts (f.kind == data_kind) (f.stream == s) both in
          none_told runs.0 ps new
          (dead_now role c f runs.0 told lives (eqb-true f.kind data_kind is.0) (eqb-true f.stream s is.1) untold after) runs.2)
          more

      by : (m : Move) (told : Found) → After c m runs.0 told → IsFront (flat_map (data_by s) ps) (data_on s (frames_got ps))
          → IsFront (data_told s m told ++ flat_map (data_by s) ps) (data_on s (got_by (point m told) ++ frames_got ps))
      by (got f) (found.Chunk k end) after more = chunk f k end (k == s) refl after more
      by (got f) found.Silent after more = other f found.Silent tt after more
      by (got f) (found.Opened k end) after more = other f (found.Opened k end) tt after more
      by (got f) (found.Ended k) after more = other f (found.Ended k) tt after more
      by (got f) (found.Reset k code) after more = other f (found.Reset k code) tt after more
      by (got f) (found.Broken k code) after more = other f (found.Broken k code) tt after more
      by (got f) (found.GoneAway last) after more = other f (found.GoneAway last) tt after more
      by (got f) (found.Fault code) after more = other f (found.Fault code) tt after more
      by _ told after more = more
