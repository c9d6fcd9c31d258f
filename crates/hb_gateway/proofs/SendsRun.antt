-- What goes on a stream was put, and how much of it has begun is counted, in every run of a link.
use Rattle.std.proofs.Common.{◌≡◌, ℕ, ◌+◌, ◌-◌, ◌<◌, ◌≤◌, ◌==◌, Bool, true, false, cond, List, [], ◌∷◌, ◌++◌, length, take, None, Ok, refl, ap, ap₂, sym, ◌∙◌, subst, arith, length-append}
use Rattle.std.proofs.lemmas.Bool.{false≢true, cond_both, eqb-true, eq-eqb}
use Rattle.std.proofs.lemmas.Grind.{flat_map-append}
use Rattle.std.proofs.lemmas.List.{append-nil, append_assoc}
use Rattle.hb_conn.specs.Connection.{Connection, core_of}
use Rattle.hb_conn.specs.Observed as observed
use Rattle.hb_conn.specs.Observed.{outgoing, frames_begun, count_put, data_put}
use Rattle.hb_conn.specs.declared.found.Found.TheVariants.{Silent}
use Rattle.hb_frames.specs.RawFrame.{RawFrame}
use Rattle.hb_history.specs.Calls.{Makes, acts}
use Rattle.hb_history.specs.History.{StandsFor as ConnStandsFor, LeadsWith, fresh}
use Rattle.hb_history.specs.History as conn
use Rattle.hb_history.specs.Points as history
use Rattle.hb_history.specs.Points.{begins_by}
use Rattle.hb_history.proofs.Connections.{wrote_leaves}
use Rattle.hb_history.proofs.Looking.{looks_begin_none, looks_rest}
use Rattle.hb_history.proofs.Runs.{begins_one, begins_more}
use Rattle.hb_inbound.proofs.Sending.{reached, none_begun}
use Rattle.hb_kept.specs.Numbers.{highest_used}
use Rattle.hb_kept.specs.Payloads.{payload_on, payloads, Follows}
use Rattle.hb_kept.proofs.Begun.{act_leaves_begun}
use Rattle.hb_kept.proofs.Payloads.{looks_follow, writes_follow, uses_follow, ends_follow, resets_follow, others_follow}
use Rattle.hb_outgoing.specs.Laws.{Shows}
use Rattle.hb_outgoing.proofs.Sent.{write_begins}
use Rattle.hb_streams.specs.declared.role.Role.TheVariants.{Client}
use Rattle.hb_world.specs.declared.entry.Entry.{Entry}
use Rattle.hb_world.specs.declared.entry.Entry.TheVariants as e
use Rattle.hb_gateway.specs.Connections.{IsOneHistory, conn_went}
use Rattle.hb_gateway.specs.Gateway.{Gateway, Stream, no_stream, stage_of, at_stage, at_stream, asked_on, request_of, dropped_to}
use Rattle.hb_gateway.specs.Gateway as gateway
use Rattle.hb_gateway.specs.Hears.{all_hear}
use Rattle.hb_gateway.specs.Laws.{RunsSend, RunsCount}
use Rattle.hb_gateway.specs.Part.{Part, entry, dialled, lacked, looked, asks, tells, put, finished, credited, reset, dropped, done, stopped, wrote_by, act, moves_by, moves, moves_in, left_of, tellings, link_came}
use Rattle.hb_gateway.specs.Response.{unused, asked, carrying, over}
use Rattle.hb_gateway.specs.Runs.{MayCome, entered, Steps, StandsFor, begins, goes_on}
use Rattle.hb_gateway.specs.Sides.{put_in, put_on, HaveBegun, CountsAt}
use Rattle.hb_gateway.proofs.Asking.{number_above, all_know}
use Rattle.hb_gateway.proofs.Grown.{one_more, more_moves, at_parts}
use Rattle.hb_gateway.proofs.Runs.{Keeps, IsStill, behind_stays, birth_unborn, dial_behind, behind_front, went_within, went_more, went_moves, writes_output, all_keep}
use Rattle.hb_gateway.proofs.Sending.{size_of, opens_follow, puts_all}

-- These frames have begun: the moves of the link begin them, and they spell what went behind the front header. The bytes that were put on
-- each stream are in them, or wait to begin; and those that have begun are counted
pub record AllSend (parts : List Part) (x : Gateway) : Type 0 where
  pub begun : List RawFrame
  pub begins : LeadsWith (fresh Client) (moves parts) begun x.conn
  pub shows : Shows (conn.opening Client) (conn_went parts) begun (outgoing x.conn)
  pub follows : (s : ℕ) → Follows s begun (put_on s parts) [] x.conn
  pub counts : (s : ℕ) → (x.streams s).begun ≡ length (payloads s begun)

module _ (g : ℕ) (x : Gateway) (parts : List Part) (keeps : Keeps parts x) (all : AllSend parts x) where
  one : ConnStandsFor Client (moves parts) (tellings parts) (link_came parts) (conn_went parts) x.conn
  one = keeps.stands

  -- with a part that makes these moves, with which these frames begin
  more_begins : (p : Part) (d : Connection) (ps : List history.Point) (more : List RawFrame) → moves_in (left_of parts) p ≡ ps
      → LeadsWith x.conn ps more d → LeadsWith (fresh Client) (moves (parts ++ p ∷ [])) (all.begun ++ more) d
  more_begins p d ps more made leads =
      subst (λ (qs : List history.Point). LeadsWith (fresh Client) qs (all.begun ++ more) d)
      (ap (λ (qs : List history.Point). moves parts ++ qs) (sym made) ∙ sym (more_moves parts p))
      (begins_more (moves parts) ps (core_of (fresh Client)) (core_of x.conn) (core_of d) all.begun more all.begins leads)

  -- with one by which nothing is written
  now : (p : Part) (y : Gateway) (ps : List history.Point) → conn_went (parts ++ p ∷ []) ≡ conn_went parts
      → moves_in (left_of parts) p ≡ ps → LeadsWith x.conn ps [] y.conn → (outgoing y.conn).rest ≡ (outgoing x.conn).rest
      → ((s : ℕ) → Follows s all.begun (put_on s (parts ++ p ∷ [])) [] y.conn)
      → ((s : ℕ) → (y.streams s).begun ≡ length (payloads s all.begun)) → AllSend (parts ++ p ∷ []) y
  now p y ps went made leads rest follows counts = record {
    begun = all.begun;
    begins = subst (λ (fs : List RawFrame). LeadsWith (fresh Client) (moves (parts ++ p ∷ [])) fs y.conn) (append-nil all.begun)
        (more_begins p y.conn ps [] made leads);
    shows = ap₂ (λ (xs ys : List ℕ). xs ++ ys) went rest ∙ all.shows;
    follows = follows;
    counts = counts;
  }

  abbrev FollowsOn : Connection → Type 0
  FollowsOn d = (s : ℕ) → Follows s all.begun (put_on s parts) [] x.conn → Follows s all.begun (put_on s parts) [] d

  abbrev Counts : Gateway → Type 0
  Counts y = (s : ℕ) → (y.streams s).begun ≡ (x.streams s).begun

  abbrev PutsNone : Part → Type 0
  PutsNone p = (s : ℕ) → put_in s p ≡ []

  same_put : (p : Part) (s : ℕ) → put_in s p ≡ [] → put_on s (parts ++ p ∷ []) ≡ put_on s parts
  same_put p s none =
      one_more (put_in s) parts p ∙ ap (λ (bs : List ℕ). put_on s parts ++ bs) none ∙ append-nil (put_on s parts)

  quiet : (p : Part) (y : Gateway) (ps : List history.Point) → IsStill p → moves_in (left_of parts) p ≡ ps → LeadsWith x.conn ps [] y.conn
      → (outgoing y.conn).rest ≡ (outgoing x.conn).rest → PutsNone p → FollowsOn y.conn → Counts y → AllSend (parts ++ p ∷ []) y
  quiet p y ps still made leads rest none follows counts =
      now p y ps (behind_stays parts p still) made leads rest
      (λ s. subst (λ (bs : List ℕ). Follows s all.begun bs [] y.conn) (sym (same_put p s (none s))) (follows s (all.follows s)))
      (λ s. counts s ∙ all.counts s)

  -- that leaves the connection
  calm : (p : Part) (y : Gateway) → IsStill p → moves_in (left_of parts) p ≡ [] → y.conn ≡ x.conn → PutsNone p → Counts y
      → AllSend (parts ++ p ∷ []) y
  calm p y still made same none counts =
      quiet p y [] still made (ap core_of same, refl) (ap (λ (c : Connection). (outgoing c).rest) same) none
      (λ s h. subst (Follows s all.begun (put_on s parts) []) (sym same) h) counts

  -- an act of this end
  act_leads : (m : history.Move) (d : Connection) → begins_by (core_of x.conn) m ≡ [] → Makes x.conn (acts m) d
      → LeadsWith x.conn (act m) [] d
  act_leads m d none makes = begins_one (history.point m Silent) (core_of x.conn) (core_of d) [] none makes.1

  act_rest : (m : history.Move) (d : Connection) → Makes x.conn (acts m) d → (outgoing d).rest ≡ (outgoing x.conn).rest
  act_rest m d makes =
      act_leaves_begun (λ rest head. rest ≡ (outgoing x.conn).rest) x.conn d (history.point m Silent) makes.0 makes.1 refl

  acted : (p : Part) (y : Gateway) (m : history.Move) → IsStill p → moves_in (left_of parts) p ≡ act m
      → begins_by (core_of x.conn) m ≡ [] → Makes x.conn (acts m) y.conn → PutsNone p → FollowsOn y.conn → Counts y
      → AllSend (parts ++ p ∷ []) y
  acted p y m still made silent makes none follows counts =
      quiet p y (act m) still made (act_leads m y.conn silent makes) (act_rest m y.conn makes) none follows counts

  to : (p : Part) (y z : Gateway) → y ≡ z → AllSend (parts ++ p ∷ []) z → AllSend (parts ++ p ∷ []) y
  to p y z is sends = subst (AllSend (parts ++ p ∷ [])) (sym is) sends

  -- a stream changes, and what has begun of it is as much
  counts_kept : (k : ℕ) (change : Stream → Stream) → ((t : Stream) → (change t).begun ≡ t.begun) → Counts (at_stream k change x)
  counts_kept k change same s =
      cond_both (s == k) (change (x.streams s)) (x.streams s) (λ (t : Stream). t.begun ≡ (x.streams s).begun)
      (λ is. same (x.streams s)) (λ apart. refl)

  -- ENTRIES

  still_call : (call : Entry) → wrote_by call ≡ [] → IsStill (entry call)
  still_call call none = record { went = none; front = refl; left = λ n. ap (λ (bs : List ℕ). n - length bs) none ∙ omega arith }

  calm_call : (call : Entry) → wrote_by call ≡ [] → moves_by (left_of parts) call ≡ []
      → (entered call (all_hear (entry call) x)).conn ≡ x.conn → Counts (entered call (all_hear (entry call) x))
      → AllSend (parts ++ entry call ∷ []) (entered call (all_hear (entry call) x))
  calm_call call wrote made same counts =
      calm (entry call) (entered call (all_hear (entry call) x)) (still_call call wrote) made same (λ s. refl) counts

  came_now : (k : ℕ) (bytes : List ℕ)
      → AllSend (parts ++ entry (e.Came k bytes) ∷ []) (entered (e.Came k bytes) (all_hear (entry (e.Came k bytes)) x))
  came_now k bytes =
      quiet (entry (e.Came k bytes)) (entered (e.Came k bytes) (all_hear (entry (e.Came k bytes)) x)) []
      (still_call (e.Came k bytes) refl) refl (refl, refl) refl (λ s. refl)
      (λ s h. record { rest = h.rest; front = h.front; goes = λ on. h.goes on; unused = λ above. h.unused above }) (λ s. refl)

  went_now : (k : ℕ) (bytes rest : List ℕ) → gateway.output x ≡ bytes ++ rest
      → AllSend (parts ++ entry (e.Went k bytes) ∷ []) (entered (e.Went k bytes) (all_hear (entry (e.Went k bytes)) x))
  went_now k bytes rest is =
      let p = entry (e.Went k bytes) in
      let c = x.conn in
      let n = behind_front x parts keeps k bytes rest is in
      let within = went_within x parts keeps k bytes rest is in
      let d = observed.wrote c n in
      let new = frames_begun n c in
      let shown = (write_begins (conn.opening Client) (conn_went parts) all.begun (outgoing c) n within all.shows).0 in
      record {
        begun = all.begun ++ new;
        begins = more_begins p d (act (history.wrote n)) new (went_moves x parts keeps k bytes rest is)
            (begins_one (history.point (history.wrote n) Silent) (core_of c) (core_of d) new refl (within, (refl, refl)));
        shows = ap₂ (λ (xs ys : List ℕ). xs ++ ys) (went_more x parts keeps k bytes rest is) (wrote_leaves c n) ∙ shown;
        follows = λ s.
            subst (λ (bs : List ℕ). Follows s (all.begun ++ new) bs [] d) (sym (same_put p s refl))
            (writes_follow Client (moves parts) (tellings parts) (link_came parts) (conn_went parts) c one s n all.begun (put_on s parts) []
            (all.follows s));
        counts = λ s.
            ap₂ ◌+◌ (all.counts s) (size_of s new) ∙ sym (length-append (payloads s all.begun) (payloads s new))
            ∙ sym (ap length (flat_map-append (payload_on s) all.begun new));
      }

  call_sends : (call : Entry) → MayCome g x call → AllSend (parts ++ entry call ∷ []) (entered call (all_hear (entry call) x))
  call_sends (e.Opened k) may = calm_call (e.Opened k) refl refl refl (λ s. refl)
  call_sends (e.Came k bytes) may = came_now k bytes
  call_sends (e.Ended k) may = calm_call (e.Ended k) refl refl refl (λ s. refl)
  call_sends (e.Went k bytes) may = went_now k bytes may.3.0 (sym (writes_output x may.1) ∙ may.3.1)
  call_sends (e.Broke k) may = calm_call (e.Broke k) refl refl refl (λ s. refl)
  call_sends (e.Closed k why) may = calm_call (e.Closed k why) refl refl refl (λ s. refl)
  call_sends (e.Balked how) may = calm_call (e.Balked how) refl refl refl (λ s. refl)
  call_sends (e.Accepted k door) may = absurd may
  call_sends (e.Dialled k to why) may = absurd may
  call_sends (e.DialFailed to why) may = absurd may
  call_sends (e.Shut k) may = absurd may
  call_sends e.Tick may = absurd may
  call_sends (e.Wait ready how) may = absurd may

  -- STREAMS

  asks_now : (k captured : ℕ) (authority : _) → observed.next_stream x.conn ≡ Ok k
      → AllSend (parts ++ asks k captured authority ∷ []) (asked_on k captured authority x)
  asks_now k captured authority number =
      let p = asks k captured authority in
      let y = asked_on k captured authority x in
      let m = history.opened k (request_of authority) false in
      let makes : Makes x.conn (acts m) y.conn = (tt, (number, (refl, refl)), refl) in
      now p y (act m) (behind_stays parts p (record { went = refl; front = refl; left = λ n. refl })) refl (act_leads m y.conn refl makes)
      (act_rest m y.conn makes)
      (λ s. subst (λ (bs : List ℕ). Follows s all.begun bs [] y.conn) (sym (same_put p s refl))
      (opens_follow x.conn k (request_of authority) number s all.begun (put_on s parts) (all.follows s)))
      (λ s. cond_both (s == k) (record no_stream { stage = asked; captured = captured }) (x.streams s)
      (λ (t : Stream). t.begun ≡ length (payloads s all.begun))
      (λ is. none_begun s all.begun (put_on s parts) [] x.conn
      ((all.follows s).unused (subst (λ (n : ℕ). highest_used x.conn < n) (sym (eqb-true s k is)) (number_above x.conn k number))).0
      (all.follows s))
      (λ apart. all.counts s))

  put_now : (k : ℕ) (bytes : List ℕ) (count : ℕ) → k ≤ highest_used x.conn → 0 < count → count ≡ count_put x.conn k bytes
      → AllSend (parts ++ put k bytes count ∷ []) (record x { conn = data_put x.conn k bytes })
  put_now k bytes count used some is =
      let p = put k bytes count in
      let c = x.conn in
      let d = data_put c k bytes in
      let makes : Makes c (acts (history.put k bytes)) d = (tt, (refl, refl), refl) in
      now p (record x { conn = d }) (act (history.put k bytes))
      (behind_stays parts p (record { went = refl; front = refl; left = λ n. refl })) refl
      (act_leads (history.put k bytes) d refl makes) (act_rest (history.put k bytes) d makes) (λ s. by s (k == s) refl) all.counts
    where
      by : (s : ℕ) (b : Bool) → (k == s) ≡ b → Follows s all.begun (put_on s (parts ++ put k bytes count ∷ [])) [] (data_put x.conn k bytes)
      by s true same =
          let at : k ≡ s = eqb-true k s same in
          let puts : put_in k (put k bytes count) ≡ take (count_put x.conn k bytes) bytes =
          ap (λ (b : Bool). cond b (take count bytes) []) (eq-eqb k k refl) ∙ ap (λ (n : ℕ). take n bytes) is in
          subst (λ (n : ℕ). Follows n all.begun (put_on n (parts ++ put k bytes count ∷ [])) [] (data_put x.conn k bytes)) at
          (subst (λ (bs : List ℕ). Follows k all.begun bs [] (data_put x.conn k bytes))
          (sym (one_more (put_in k) parts (put k bytes count) ∙ ap (λ (bs : List ℕ). put_on k parts ++ bs) puts))
          (puts_all (moves parts) (tellings parts) (link_came parts) (conn_went parts) x.conn one k all.begun (put_on k parts) bytes used
          (omega (arith, some, is)) (all.follows k)))
      by s false apart =
          subst (λ (bs : List ℕ). Follows s all.begun bs [] (data_put x.conn k bytes))
          (sym (same_put (put k bytes count) s (ap (λ (b : Bool). cond b (take count bytes) []) apart)))
          (others_follow Client (moves parts) (tellings parts) (link_came parts) (conn_went parts) x.conn one s k bytes
          (λ same. false≢true (sym apart ∙ eq-eqb k s same)) all.begun (put_on s parts) [] (all.follows s))

  used : StandsFor g x parts → (k : ℕ) → stage_of x k ≡ carrying → k ≤ highest_used x.conn
  used stands k is =
      reached (highest_used x.conn) k
      (λ above. (let both : carrying ≡ unused = sym is ∙ (all_know g x parts stands).unused k above in cc))

  step_sends : (p : Part) (y : Gateway) → StandsFor g x parts → Steps g x p y → AllSend (parts ++ p ∷ []) y
  step_sends (entry call) y stands steps = to (entry call) y _ steps.1 (call_sends call steps.0)
  step_sends (dialled call key) y stands steps =
      let p = dialled call key in
      to p y _ steps.1
      (now p _ [] (dial_behind x parts keeps call key (birth_unborn g x call key steps.0)) refl (refl, refl) refl
      (λ s. subst (λ (bs : List ℕ). Follows s all.begun bs [] x.conn) (sym (same_put p s refl)) (all.follows s)) all.counts)
  step_sends lacked y stands steps =
      to lacked y _ steps.1 (calm lacked _ (record { went = refl; front = refl; left = λ n. refl }) refl refl (λ s. refl) (λ s. refl))
  step_sends (looked ps told headers) y stands steps =
      let look = steps.4 in
      to (looked ps told headers) y _ steps.6
      (quiet (looked ps told headers) _ ps (record { went = refl; front = refl; left = λ n. refl }) refl
      (looks_begin_none ps (core_of x.conn) (core_of steps.3) look.looks look.runs)
      (looks_rest ps (core_of x.conn) (core_of steps.3) look.looks look.runs) (λ s. refl)
      (λ s h. looks_follow Client (moves parts) (tellings parts) (link_came parts) (conn_went parts) x.conn one steps.3 ps told look s
      all.begun (put_on s parts) [] h)
      (λ s. refl))
  step_sends (asks k captured authority) y stands steps = to (asks k captured authority) y _ steps.2 (asks_now k captured authority steps.1)
  step_sends (tells k heard begun) y stands steps =
      to (tells k heard begun) y _ steps.2
      (calm (tells k heard begun) _ (record { went = refl; front = refl; left = λ n. refl }) refl refl (λ s. refl)
      (counts_kept k (λ t. record t { mail = None }) (λ t. refl)))
  step_sends (put k bytes count) y stands steps =
      to (put k bytes count) y _ steps.4 (put_now k bytes count (used stands k steps.0.1) steps.2 steps.3)
  step_sends (finished k) y stands steps =
      to (finished k) y _ steps.3
      (acted (finished k) _ (history.ended k) (record { went = refl; front = refl; left = λ n. refl }) refl refl (tt, (refl, refl), refl)
      (λ s. refl)
      (λ s h. ends_follow Client (moves parts) (tellings parts) (link_came parts) (conn_went parts) x.conn one k s all.begun
      (put_on s parts) [] h)
      (λ s. refl))
  step_sends (credited k n) y stands steps =
      to (credited k n) y _ steps.2
      (acted (credited k n) _ (history.credited k n) (record { went = refl; front = refl; left = λ m. refl }) refl refl
      (tt, (steps.1, (refl, refl)), refl) (λ s. refl)
      (λ s h. uses_follow Client (moves parts) (tellings parts) (link_came parts) (conn_went parts) x.conn one k n steps.1 s all.begun
      (put_on s parts) [] h)
      (λ s. refl))
  step_sends (reset k code) y stands steps =
      to (reset k code) y _ steps.2
      (acted (reset k code) _ (history.reset k code) (record { went = refl; front = refl; left = λ n. refl }) refl refl
      (tt, (refl, refl), refl) (λ s. refl)
      (λ s h. resets_follow Client (moves parts) (tellings parts) (link_came parts) (conn_went parts) x.conn one k code s all.begun
      (put_on s parts) [] h)
      (counts_kept k (at_stage over) (λ t. refl)))
  step_sends (dropped k begun) y stands steps =
      to (dropped k begun) y _ steps.3
      (calm (dropped k begun) _ (record { went = refl; front = refl; left = λ n. refl }) refl refl (λ s. refl)
      (counts_kept k (at_stage (dropped_to k x)) (λ t. refl)))
  step_sends (done k begun) y stands steps =
      to (done k begun) y _ steps.3
      (calm (done k begun) _ (record { went = refl; front = refl; left = λ n. refl }) refl refl (λ s. refl)
      (counts_kept k (at_stage over) (λ t. refl)))
  step_sends (stopped why) y stands steps =
      to (stopped why) y _ steps.1
      (calm (stopped why) _ (record { went = refl; front = refl; left = λ n. refl }) refl refl (λ s. refl) (λ s. refl))

-- so it is of every run
pub all_send : (g : ℕ) (x : Gateway) (parts : List Part) → StandsFor g x parts → AllSend parts x
all_send g x parts (begins is none) =
    subst (λ (ps : List Part). AllSend ps x) (sym none)
    (subst (AllSend []) (sym is)
    (record {
      begun = [];
      begins = (refl, refl);
      shows = refl;
      follows = λ s. record { rest = []; front = refl; goes = λ on. refl; unused = λ above. (refl, refl) };
      counts = λ s. refl;
    }))
all_send g y more (goes_on {x = x} {parts = parts} before p steps grows) =
    subst (λ (ps : List Part). AllSend ps y) (sym grows)
    (step_sends g x parts (all_keep g x parts before) (all_send g x parts before) p y before steps)

-- THE LAWS

-- the history of a link, with the frames that have begun
abbrev history_of : (x : Gateway) (parts : List Part) → Keeps parts x → AllSend parts x → IsOneHistory parts
history_of x parts keeps all = record {
  conn = x.conn;
  stands = record keeps.stands { begun = all.begun; begins = all.begins; shows = all.shows };
  unwritten = x.front;
  front = keeps.front;
}

pub send : RunsSend
send g x parts stands =
    let all = all_send g x parts stands in
    let queue = (outgoing x.conn).queue in
    record {
      history = history_of x parts (all_keep g x parts stands) all;
      rest = λ s. payloads s queue ++ (all.follows s).rest;
      front = λ s.
          (all.follows s).front
          ∙ ap (λ (xs : List ℕ). xs ++ (all.follows s).rest) (flat_map-append (payload_on s) all.begun queue)
          ∙ append_assoc (payloads s all.begun) (payloads s queue) (all.follows s).rest;
    }

counted : (g : ℕ) (x : Gateway) (before : List Part) → StandsFor g x before → (s begun : ℕ) → begun ≡ (x.streams s).begun
    → HaveBegun before s begun
counted g x before stands s begun is =
    let all = all_send g x before stands in
    record { history = history_of x before (all_keep g x before stands) all; count_is = is ∙ all.counts s }

counts_next : (g : ℕ) (x y : Gateway) (before : List Part) (p : Part) → StandsFor g x before → Steps g x p y → CountsAt before p
counts_next g x y before (tells s heard begun) stands steps = counted g x before stands s begun steps.1
counts_next g x y before (dropped s begun) stands steps = counted g x before stands s begun steps.2
counts_next g x y before (done s begun) stands steps = counted g x before stands s begun steps.2
counts_next g x y before (entry call) stands steps = tt
counts_next g x y before (dialled call key) stands steps = tt
counts_next g x y before lacked stands steps = tt
counts_next g x y before (looked ps told headers) stands steps = tt
counts_next g x y before (asks s captured authority) stands steps = tt
counts_next g x y before (put s bytes count) stands steps = tt
counts_next g x y before (finished s) stands steps = tt
counts_next g x y before (credited s n) stands steps = tt
counts_next g x y before (reset s code) stands steps = tt
counts_next g x y before (stopped why) stands steps = tt

pub count : RunsCount
count g x parts stands = at_parts g CountsAt (counts_next g) x parts stands
