-- The stream of a link that is open carries bytes, and this end's side of it is open until END_STREAM is put; in every run.
use Rattle.std.proofs.Common.{◌≡◌, ◌≢◌, ⊎_elim, ℕ, ◌<◌, ◌-◌, ◌==◌, ◌&&◌, not, nat_lt, Bool, true, false, cond, List, ◌∷◌, [], ◌++◌, length, take, drop, Option, Some, None, Ok, refl, ap, ap₂, sym, ◌∙◌, subst, arith, length-drop}
use Rattle.std.proofs.lemmas.Bool.{and_parts, cond_both, eqb-true, eq-eqb, ne_eqb, false≢true}
use Rattle.std.specs.List.{flat_map}
use Rattle.hb_base.specs.declared.cause.Cause.{Cause}
use Rattle.hb_base.specs.declared.cause.Cause.TheVariants as cause
use Rattle.hb_base.specs.declared.target.Target.{Target}
use Rattle.hb_captured.proofs.Streamed.{Streamed, said, road_of, never, has, was_left, MayStream, all_streamed}
use Rattle.hb_captured.specs.Calm.{wants_by}
use Rattle.hb_captured.specs.Captured as captured
use Rattle.hb_captured.specs.Captured.{Captured, is_raw, judges, is_judged, ends_by, hung_up, came_by, entered, up_entered, left_by, judged_by, rejudged, told_by}
use Rattle.hb_captured.specs.Part as part
use Rattle.hb_captured.specs.Part.{Part}
use Rattle.hb_captured.specs.Runs.{MayGo, MayCome, UpMayCome, Lives, next_link}
use Rattle.hb_conn.specs.Connection.{Connection, Finds}
use Rattle.hb_conn.specs.Observed as observed
use Rattle.hb_conn.specs.Observed.{sides, streams, own_side_open}
use Rattle.hb_conn.specs.declared.found.Found.{Found}
use Rattle.hb_conn.specs.declared.found.Found.TheVariants as found
use Rattle.hb_front.specs.Faults.{number_of}
use Rattle.hb_gateway.proofs.Ending.{given_up, settled_lives, end_tunnels}
use Rattle.hb_gateway.specs.Gateway.{Gateway, Stream, no_stream, carries, asked_on, at_stage, stage_of, settled, is_active, dropped_to, break_cause, request_of}
use Rattle.hb_gateway.specs.Hears.{left_behind, after, all_hear}
use Rattle.hb_gateway.specs.Part as gateway
use Rattle.hb_gateway.specs.Response as response
use Rattle.hb_gateway.specs.Response.{Stage, unused, asked, carrying, failing, over, Heard, opens, brings, fails, is_living, answered, brought, ended, failed, heard_of, is_success, refusal_of}
use Rattle.hb_gateway.specs.Runs as gateways
use Rattle.hb_held.specs.Held.{Resources}
use Rattle.hb_held.specs.Outcome.{after_response}
use Rattle.hb_history.specs.Points as history
use Rattle.hb_history.specs.Points.{data_in}
use Rattle.hb_hpack.specs.declared.header.Header.{Header}
use Rattle.hb_kept.proofs.Sides.{finds_sides, write_leaves_all, put_leaves_all, use_leaves_all, end_ends_side, reset_ends_both}
use Rattle.hb_kept.proofs.SidesAt.{sides_at, begins as begins_at}
use Rattle.hb_kept.specs.Sides.{peer_ends, SidesBehind}
use Rattle.hb_model.specs.Discovery.{status_of, is_interim}
use Rattle.hb_model.specs.Point as point
use Rattle.hb_model.specs.declared.config.NodeConfig.{NodeConfig}
use Rattle.hb_streams.specs.Moves.{after_number}
use Rattle.hb_streams.specs.Sides.{both_open}
use Rattle.hb_streams.specs.declared.sides.Sides.{Sides}
use Rattle.hb_table.specs.Judgement.{judged}
use Rattle.hb_table.specs.declared.judgement.Judged.{Judged}
use Rattle.hb_table.specs.declared.judgement.Judged.TheVariants.{Admitted, Unknown, Denied}
use Rattle.hb_tunnel.specs.Way.{Way, is_done, takes, ends}
use Rattle.hb_tunnel.specs.Way as way
use Rattle.hb_world.specs.declared.entry.Entry.{Entry}
use Rattle.hb_world.specs.declared.entry.Entry.TheVariants as e
use Rattle.hb_proxy.proofs.Agreed.{all_agree}
use Rattle.hb_proxy.proofs.Gates.{gates_run}
use Rattle.hb_proxy.proofs.Plain.{plain_runs}
use Rattle.hb_proxy.proofs.PlainChanges.{PlainDueBy}
use Rattle.hb_proxy.proofs.Streams.{PlainKeeps, part_keeps, seen_keeps, unshared, runs_agree}
use Rattle.hb_proxy.proofs.Tunnels.{IsShared, mails_fit, lives_on}
use Rattle.hb_proxy.specs.Held.{at_start}
use Rattle.hb_proxy.specs.Machine.{Machine, plain_local, with_control, with_stream, plain_seen_by, gate_seen_by}
use Rattle.hb_proxy.specs.Points.{Point, of_control, of_link, of_plain, of_gate, of_stream, plain_of, gates_of}
use Rattle.hb_proxy.specs.Runs.{PlainGuard, IsStreamOf, StreamGuard, Steps, StandsFor, begins, goes_on}
use Rattle.hb_proxy.specs.Shared.{Shared, asks, tells, puts, finishes, credits, drops, completes, captured_part, gateway_part}
use Rattle.hb_proxy.specs.Streams.{HasTunnel}
use Rattle.hb_relays.proofs.Speaking.{finds_speak}

-- WHAT A STREAM KEEPS, from one stage and connection to another: it is asked for only where it was, it lives only where it did, and while
-- it does this end's side of it stays open
record Keeps (a b : Stage) (c d : Connection) (s : ℕ) : Type 0 where
  asked : b ≡ asked → a ≡ asked
  lives : is_living b ≡ true → is_living a ≡ true
  own : is_living b ≡ true → own_side_open c s ≡ true → own_side_open d s ≡ true

own_same : (c d : Connection) (s : ℕ) → sides d s ≡ sides c s → own_side_open c s ≡ true → own_side_open d s ≡ true
own_same c d s same is = ap (λ (w : Sides). w.own) same ∙ is

keeps_same : (a : Stage) (c d : Connection) (s : ℕ) → sides d s ≡ sides c s → Keeps a a c d s
keeps_same a c d s same = record { asked = λ is. is; lives = λ is. is; own = λ lives is. own_same c d s same is }

keeps_dead : (a b : Stage) (c d : Connection) (s : ℕ) → is_living b ≡ false → Keeps a b c d s
keeps_dead a b c d s dead = record {
  asked = λ is. absurd (false≢true (sym dead ∙ ap is_living is));
  lives = λ is. absurd (false≢true (sym dead ∙ is));
  own = λ is was. absurd (false≢true (sym dead ∙ is));
}

-- where it hears its failure
keeps_failed : (p : gateway.Part) (why : Cause) (a : Stage) (c d : Connection) (s : ℕ) → is_living (left_behind p why) ≡ false
    → Keeps a (after p a (failed why a)) c d s
keeps_failed p why asked c d s left = keeps_dead asked (left_behind p why) c d s left
keeps_failed p why carrying c d s left = keeps_dead carrying (left_behind p why) c d s left
keeps_failed p why unused c d s left = keeps_dead unused unused c d s refl
keeps_failed p why (failing code) c d s left = keeps_dead (failing code) (failing code) c d s refl
keeps_failed p why over c d s left = keeps_dead over over c d s refl

-- also where one that was to be reset is over
settled_asked : (active : Bool) (stage : Stage) → settled active stage ≡ asked → stage ≡ asked
settled_asked true stage is = is
settled_asked false unused is = is
settled_asked false asked is = is
settled_asked false carrying is = is
settled_asked false (failing code) is = absurd (let no : over ≡ asked = is in cc)
settled_asked false over is = is

keeps_settled : (active : Bool) (a b : Stage) (c d : Connection) (s : ℕ) → Keeps a b c d s → Keeps a (settled active b) c d s
keeps_settled active a b c d s keeps = record {
  asked = λ is. keeps.asked (settled_asked active b is);
  lives = λ is. keeps.lives (sym (settled_lives active b) ∙ is);
  own = λ is was. keeps.own (sym (settled_lives active b) ∙ is) was;
}

-- A LOOK AT WHAT CAME
module _ (ps : List history.Point) (headers : List Header) (c d : Connection) (s : ℕ) where
  abbrev Told : Found → Stage → Option Heard → Type 0
  Told told a heard = Keeps a (after (gateway.looked ps told headers) a heard) c d s

  -- headers of the stream
  headed_keeps : (k : ℕ) (end : Bool) (status : Option ℕ) (a : Stage) → (own_side_open c s ≡ true → own_side_open d s ≡ true)
      → Told (found.Opened k end) a (response.headed a status end)
  headed_keeps k end status asked speaks = by (is_interim status && not end) (is_success status)
    where
      by : (b e : Bool) → Told (found.Opened k end) asked
          (cond b None (cond e (Some (opens end)) (Some (fails (cause.UpRefused (refusal_of status))))))
      by true e = record { asked = λ is. is; lives = λ is. is; own = λ is was. speaks was }
      by false true = record {
        asked = λ is. absurd (let no : carrying ≡ asked = is in cc);
        lives = λ is. refl;
        own = λ is was. speaks was;
      }
      by false false = keeps_dead asked _ c d s refl
  headed_keeps k end status carrying speaks = keeps_dead carrying _ c d s refl
  headed_keeps k end status unused speaks = keeps_dead unused unused c d s refl
  headed_keeps k end status (failing code) speaks = keeps_dead (failing code) (failing code) c d s refl
  headed_keeps k end status over speaks = keeps_dead over over c d s refl

  -- DATA of it, and its end
  brought_keeps : (k : ℕ) (end : Bool) (bytes : List ℕ) (a : Stage) → (own_side_open c s ≡ true → own_side_open d s ≡ true)
      → Told (found.Chunk k end) a (brought a bytes)
  brought_keeps k end bytes asked speaks = keeps_dead asked _ c d s refl
  brought_keeps k end bytes carrying speaks = record { asked = λ is. is; lives = λ is. is; own = λ is was. speaks was }
  brought_keeps k end bytes unused speaks = keeps_dead unused unused c d s refl
  brought_keeps k end bytes (failing code) speaks = keeps_dead (failing code) (failing code) c d s refl
  brought_keeps k end bytes over speaks = keeps_dead over over c d s refl

  ended_keeps : (k : ℕ) (a : Stage) → sides d s ≡ sides c s → Told (found.Ended k) a (ended a)
  ended_keeps k asked same = keeps_dead asked _ c d s refl
  ended_keeps k carrying same = keeps_same carrying c d s same
  ended_keeps k unused same = keeps_same unused c d s same
  ended_keeps k (failing code) same = keeps_same (failing code) c d s same
  ended_keeps k over same = keeps_same over c d s same

  -- of this stream, or of another
  either_keeps : (told : Found) (b : Bool) (a : Stage) (heard : Option Heard) → (b ≡ true → Told told a heard)
      → (b ≡ false → Told told a None) → Told told a (cond b heard None)
  either_keeps told b a heard here there = cond_both b heard None (λ (h : Option Heard). Told told a h) here there

  apart : (k : ℕ) → (k == s) ≡ false → s ≢ k
  apart k other is = false≢true (sym other ∙ eq-eqb k s (sym is))

  chunk_own : (end : Bool) (w : Sides) → (peer_ends end w).own ≡ w.own
  chunk_own true w = refl
  chunk_own false w = refl

  looked_keeps : (told : Found) (a : Stage) (bytes : List ℕ) → SidesBehind told c d
      → ((k : ℕ) (end : Bool) → told ≡ found.Opened k end → own_side_open c k ≡ true → own_side_open d k ≡ true)
      → Told told a (heard_of s a headers bytes told)
  looked_keeps found.Silent a bytes behind speak = keeps_same a c d s (behind s)
  looked_keeps (found.Opened k end) a bytes behind speak =
      either_keeps (found.Opened k end) (k == s) a _
      (λ same. headed_keeps k end (status_of headers) a
      (subst (λ (i : ℕ). own_side_open c i ≡ true → own_side_open d i ≡ true) (eqb-true k s same) (speak k end refl)))
      (λ other. keeps_same a c d s (behind s (apart k other)))
  looked_keeps (found.Chunk k end) a bytes behind speak =
      either_keeps (found.Chunk k end) (k == s) a _
      (λ same. brought_keeps k end bytes a
      (subst (λ (i : ℕ). own_side_open c i ≡ true → own_side_open d i ≡ true) (eqb-true k s same)
      (λ was. ap (λ (w : Sides). w.own) behind.here ∙ chunk_own end (sides c k) ∙ was)))
      (λ other. keeps_same a c d s (behind.others s (apart k other)))
  looked_keeps (found.Ended k) a bytes behind speak =
      either_keeps (found.Ended k) (k == s) a _ (λ same. ended_keeps k a (behind s)) (λ other. keeps_same a c d s (behind s))
  looked_keeps (found.Reset k code) a bytes behind speak =
      either_keeps (found.Reset k code) (k == s) a _
      (λ same. keeps_failed (gateway.looked ps (found.Reset k code) headers) (cause.PeerReset code) a c d s refl)
      (λ other. keeps_same a c d s (behind.others s (apart k other)))
  looked_keeps (found.Broken k code) a bytes behind speak =
      either_keeps (found.Broken k code) (k == s) a _
      (λ same. keeps_failed (gateway.looked ps (found.Broken k code) headers) (cause.StreamFault code) a c d s refl)
      (λ other. keeps_same a c d s (behind.others s (apart k other)))
  looked_keeps (found.GoneAway last) a bytes behind speak =
      either_keeps (found.GoneAway last) (nat_lt last s) a _
      (λ above. keeps_failed (gateway.looked ps (found.GoneAway last) headers) cause.GoneAway a c d s refl)
      (λ below. keeps_same a c d s (behind s))
  looked_keeps (found.Fault code) a bytes behind speak =
      keeps_failed (gateway.looked ps (found.Fault code) headers) (cause.ConnFault code) a c d s refl

-- EVERY STEP OF A LINK TO A GATEWAY
abbrev GateKeeps : Gateway → Gateway → ℕ → Type 0
GateKeeps x y s = Keeps (stage_of x s) (stage_of y s) x.conn y.conn s

entered_keeps : (x : Gateway) (call : Entry) (s : ℕ) → GateKeeps x (gateways.entered call (all_hear (gateway.entry call) x)) s
entered_keeps x (e.Ended k) s = keeps_failed (gateway.entry (e.Ended k)) cause.PeerGone (stage_of x s) x.conn x.conn s refl
entered_keeps x (e.Broke k) s = keeps_failed (gateway.entry (e.Broke k)) (break_cause x.phase) (stage_of x s) x.conn x.conn s refl
entered_keeps x (e.Went k bytes) s =
    keeps_same (stage_of x s) x.conn _ s (write_leaves_all x.conn (length bytes - length x.front) s)
entered_keeps x (e.Opened k) s = keeps_same (stage_of x s) x.conn x.conn s refl
entered_keeps x (e.Came k bytes) s = keeps_same (stage_of x s) x.conn _ s refl
entered_keeps x (e.Closed k why) s = keeps_same (stage_of x s) x.conn x.conn s refl
entered_keeps x _ s = keeps_same (stage_of x s) x.conn x.conn s refl

-- of one stream that becomes this, and of the others
one_keeps : (x : Gateway) (k s : ℕ) (stage : Stage) (d : Connection) → is_living stage ≡ false
    → (s ≢ k → sides d s ≡ sides x.conn s)
    → Keeps (stage_of x s) (cond (s == k) (at_stage stage (x.streams s)) (x.streams s)).stage x.conn d s
one_keeps x k s stage d dead same =
    cond_both (s == k) (at_stage stage (x.streams s)) (x.streams s) (λ (t : Stream). Keeps (stage_of x s) t.stage x.conn d s)
    (λ here. keeps_dead (stage_of x s) stage x.conn d s dead)
    (λ other. keeps_same (stage_of x s) x.conn d s (same (λ is. false≢true (sym other ∙ eq-eqb s k is))))

module _ (g : ℕ) (x : Gateway) (y : Gateway) (s : ℕ) where
  turned : (z : Gateway) → y ≡ z → GateKeeps x z s → GateKeeps x y s
  turned z is keeps = subst (λ (w : Gateway). GateKeeps x w s) (sym is) keeps

  own_keeps : (p : gateway.Part) → gateways.Steps g x p y → (IsShared p → ⊥) → GateKeeps x y s
  own_keeps (gateway.entry call) steps own = turned _ steps.1 (entered_keeps x call s)
  own_keeps (gateway.dialled call key) steps own = turned _ steps.1 (keeps_same (stage_of x s) x.conn x.conn s refl)
  own_keeps gateway.lacked steps own =
      turned _ steps.1 (keeps_failed gateway.lacked cause.NoMemory (stage_of x s) x.conn x.conn s refl)
  own_keeps (gateway.looked ps told headers) steps own =
      turned _ steps.6
      (keeps_settled (is_active steps.3 s) (stage_of x s) (stage_of (all_hear (gateway.looked ps told headers) x) s) x.conn steps.3 s
      (looked_keeps ps headers x.conn steps.3 s told (stage_of x s) (flat_map data_in ps)
      (finds_sides x.conn steps.3 told steps.4.finds)
      (λ k end is. finds_speak x.conn steps.3 k end (subst (λ (t : Found). Finds x.conn steps.3 t) is steps.4.finds))))
  own_keeps (gateway.reset k code) steps own =
      turned _ steps.2
      (one_keeps x k s over (observed.aborted x.conn k code) refl (λ other. (reset_ends_both x.conn k code).others s other))
  own_keeps (gateway.stopped why) steps own =
      turned _ steps.1 (keeps_failed (gateway.stopped why) why (stage_of x s) x.conn x.conn s refl)
  own_keeps (gateway.asks k link authority) steps own = absurd (own tt)
  own_keeps (gateway.tells k heard begun) steps own = absurd (own tt)
  own_keeps (gateway.put k bytes count) steps own = absurd (own tt)
  own_keeps (gateway.finished k) steps own = absurd (own tt)
  own_keeps (gateway.credited k n) steps own = absurd (own tt)
  own_keeps (gateway.dropped k begun) steps own = absurd (own tt)
  own_keeps (gateway.done k begun) steps own = absurd (own tt)

-- a stream is asked for by this alone, and its side ends by that
abbrev asks_one : Shared → Bool
asks_one (asks authority) = true
asks_one w = false

abbrev ends_one : Shared → Bool
ends_one finishes = true
ends_one w = false

shared_keeps : (l n k : ℕ) (w : Shared) (x y : Gateway) → gateways.Steps n x (gateway_part l k w) y → asks_one w ≡ false → (s : ℕ)
    → (ends_one w ≡ true → s ≢ k) → GateKeeps x y s
shared_keeps l n k (asks authority) x y steps other s far = absurd (false≢true (sym other))
shared_keeps l n k (tells heard begun) x y steps other s far =
    turned n x y s _ steps.2
    (cond_both (s == k) (record (x.streams s) { mail = None }) (x.streams s)
    (λ (u : Stream). Keeps (stage_of x s) u.stage x.conn x.conn s)
    (λ same. keeps_same (stage_of x s) x.conn x.conn s refl) (λ apart. keeps_same (stage_of x s) x.conn x.conn s refl))
shared_keeps l n k (puts waiting count) x y steps other s far =
    turned n x y s _ steps.4 (keeps_same (stage_of x s) x.conn _ s (put_leaves_all x.conn k waiting s))
shared_keeps l n k finishes x y steps other s far =
    turned n x y s _ steps.3 (keeps_same (stage_of x s) x.conn _ s ((end_ends_side x.conn k).others s (far refl)))
shared_keeps l n k (credits count) x y steps other s far =
    turned n x y s _ steps.2 (keeps_same (stage_of x s) x.conn _ s (use_leaves_all x.conn k count s))
shared_keeps l n k (drops begun) x y steps other s far =
    turned n x y s _ steps.3 (one_keeps x k s (dropped_to k x) x.conn (given_up k x) (λ apart. refl))
shared_keeps l n k (completes begun note) x y steps other s far =
    turned n x y s _ steps.3 (one_keeps x k s over x.conn refl (λ apart. refl))

-- A LINK IS OPEN only where it was, or where it hears that

abbrev is_open : captured.Stage → Bool
is_open captured.accepting = true
is_open captured.live = true
is_open stage = false

ends_open : (why : Cause) (stage : captured.Stage) → is_open (ends_by why stage) ≡ true → ⊥
ends_open why captured.unborn is = false≢true is
ends_open why captured.arriving is = false≢true is
ends_open why captured.fronting is = false≢true is
ends_open why captured.due is = false≢true is
ends_open why captured.opening is = false≢true is
ends_open why captured.accepting is = false≢true is
ends_open why captured.live is = false≢true is
ends_open why (captured.failed first) is = false≢true is
ends_open why (captured.ended first) is = false≢true is
ends_open why (captured.over first) is = false≢true is

hung_open : (stage : captured.Stage) → is_open (hung_up stage) ≡ true → is_open stage ≡ true
hung_open captured.fronting is = absurd (false≢true is)
hung_open captured.unborn is = is
hung_open captured.arriving is = is
hung_open captured.due is = is
hung_open captured.opening is = is
hung_open captured.accepting is = is
hung_open captured.live is = is
hung_open (captured.failed why) is = is
hung_open (captured.ended why) is = is
hung_open (captured.over why) is = is

left_open : (stage : captured.Stage) → is_open (left_by stage) ≡ true → is_open stage ≡ true
left_open (captured.failed why) is = absurd (false≢true is)
left_open (captured.ended why) is = absurd (false≢true is)
left_open captured.fronting is = is
left_open captured.unborn is = is
left_open captured.arriving is = is
left_open captured.due is = is
left_open captured.opening is = is
left_open captured.accepting is = is
left_open captured.live is = is
left_open (captured.over why) is = is

came_open : (stage : captured.Stage) (bytes : List ℕ) (x : Captured) → (came_by stage bytes x).stage ≡ x.stage
came_open captured.fronting bytes x = refl
came_open captured.unborn bytes x = refl
came_open captured.arriving bytes x = refl
came_open captured.due bytes x = refl
came_open captured.opening bytes x = refl
came_open captured.accepting bytes x = refl
came_open captured.live bytes x = refl
came_open (captured.failed why) bytes x = refl
came_open (captured.ended why) bytes x = refl
came_open (captured.over why) bytes x = refl

-- WHAT A LINK KEEPS: it is open only where it was, END_STREAM is put where it was, and what was done stays so
record LinkKeeps (x y : Captured) : Type 0 where
  opened : is_open y.stage ≡ true → is_open x.stage ≡ true
  shut : y.up_shut ≡ x.up_shut
  spent : is_done x.ways.up ≡ true → is_done y.ways.up ≡ true

ended_done : (w : Way) → is_done w ≡ true → is_done (way.after w ends) ≡ true
ended_done w done = (and_parts w.has_ended (length w.held == 0) done).1

ended_of : (w : Way) → is_done w ≡ true → w.has_ended ≡ true
ended_of w done = (and_parts w.has_ended (length w.held == 0) done).0

-- nothing is read of a link whose way has ended
unread : (x : Captured) (stage : captured.Stage) (bytes : List ℕ) → is_done x.ways.up ≡ true → 0 < wants_by stage x
    → is_done (came_by stage bytes x).ways.up ≡ true
unread x captured.fronting bytes done some = done
unread x captured.opening bytes done some =
    absurd (let none = ap (λ (b : Bool). cond b 0 (captured.ring_up x.door - length x.ways.up.held)) (ended_of x.ways.up done) in
    omega (arith, none, some))
unread x captured.live bytes done some =
    absurd (let none = ap (λ (b : Bool). cond b 0 (captured.ring_up x.door - length x.ways.up.held)) (ended_of x.ways.up done) in
    omega (arith, none, some))
unread x captured.unborn bytes done some = absurd (omega (arith, some))
unread x captured.arriving bytes done some = absurd (omega (arith, some))
unread x captured.due bytes done some = absurd (omega (arith, some))
unread x captured.accepting bytes done some = absurd (omega (arith, some))
unread x (captured.failed why) bytes done some = absurd (omega (arith, some))
unread x (captured.ended why) bytes done some = absurd (omega (arith, some))
unread x (captured.over why) bytes done some = absurd (omega (arith, some))

came_shut : (stage : captured.Stage) (bytes : List ℕ) (x : Captured) → (came_by stage bytes x).up_shut ≡ x.up_shut
came_shut captured.fronting bytes x = refl
came_shut captured.unborn bytes x = refl
came_shut captured.arriving bytes x = refl
came_shut captured.due bytes x = refl
came_shut captured.opening bytes x = refl
came_shut captured.accepting bytes x = refl
came_shut captured.live bytes x = refl
came_shut (captured.failed why) bytes x = refl
came_shut (captured.ended why) bytes x = refl
came_shut (captured.over why) bytes x = refl

link_same : (x : Captured) → LinkKeeps x x
link_same x = record { opened = λ is. is; shut = refl; spent = λ is. is }

rejudged_keeps : (h : Resources) (x : Captured) → LinkKeeps x (rejudged h x)
rejudged_keeps h x = by (judges x.door && is_judged x.stage)
  where
    of : (j : Judged) → LinkKeeps x (judged_by j x)
    of Admitted = link_same x
    of Unknown = record { opened = λ is. absurd (ends_open cause.Revoked x.stage is); shut = refl; spent = λ is. is }
    of Denied = record { opened = λ is. absurd (ends_open cause.Revoked x.stage is); shut = refl; spent = λ is. is }

    by : (b : Bool) → LinkKeeps x (cond b (judged_by (judged h x.peer x.target) x) x)
    by true = of (judged h x.peer x.target)
    by false = link_same x

seen_link : (h : Resources) (q : point.Point) (x : Captured) → LinkKeeps x (plain_seen_by h q x)
seen_link h (point.applied l r) x = rejudged_keeps (after_response h r) x
seen_link h (point.stopped why) x = record { opened = λ is. absurd (ends_open why x.stage is); shut = refl; spent = λ is. is }
seen_link h _ x = link_same x

entry_link : (l : ℕ) (z : Entry) (x : Captured) → MayCome l x z → LinkKeeps x (entered z x)
entry_link l (e.Accepted k d) x may = record { opened = λ is. absurd (false≢true is); shut = refl; spent = λ is. is }
entry_link l (e.Came k bytes) x may = record {
  opened = λ is. ap is_open (sym (came_open x.stage bytes x)) ∙ is;
  shut = came_shut x.stage bytes x;
  spent = λ is. unread x x.stage bytes is may.1.1;
}
entry_link l (e.Ended k) x may = record { opened = λ is. hung_open x.stage is; shut = refl; spent = λ is. ended_done x.ways.up is }
entry_link l (e.Went k bytes) x may = record { opened = λ is. is; shut = refl; spent = λ is. is }
entry_link l (e.Broke k) x may =
    record { opened = λ is. absurd (ends_open cause.PeerGone x.stage is); shut = refl; spent = λ is. is }
entry_link l (e.Shut k) x may = record { opened = λ is. is; shut = refl; spent = λ is. is }
entry_link l (e.Closed k why) x may = record { opened = λ is. is; shut = refl; spent = λ is. is }
entry_link l _ x may = link_same x

-- one on a stream has no upstream
no_upstream : (x : Captured) (u : ℕ) → x.up ≡ 0 → x.up ≡ u → 0 < u → ⊥
no_upstream x u none at some = omega (arith, none, at, some)

up_link : (l : ℕ) (z : Entry) (x : Captured) → UpMayCome l x z → x.up ≡ 0 → LinkKeeps x (up_entered z x)
up_link l (e.Dialled u to why) x may none = record { opened = λ is. absurd (false≢true is); shut = refl; spent = λ is. is }
up_link l (e.DialFailed to why) x may none =
    record { opened = λ is. absurd (ends_open cause.UpFault x.stage is); shut = refl; spent = λ is. is }
up_link l (e.Opened u) x may none = absurd (no_upstream x u none may.1 may.2)
up_link l (e.Came u bytes) x may none = record { opened = λ is. is; shut = refl; spent = λ is. is }
up_link l (e.Ended u) x may none = record { opened = λ is. is; shut = refl; spent = λ is. is }
up_link l (e.Went u bytes) x may none = absurd (no_upstream x u none may.0.1 may.0.2)
up_link l (e.Broke u) x may none =
    record { opened = λ is. absurd (ends_open cause.UpFault x.stage is); shut = refl; spent = λ is. is }
up_link l (e.Shut u) x may none = absurd (no_upstream x u none may.2 may.3)
up_link l (e.Closed u why) x may none = record { opened = λ is. is; shut = refl; spent = λ is. is }
up_link l _ x may none = link_same x

ended_link : (why : Cause) (x : Captured) → LinkKeeps x (captured.ends_for why x)
ended_link why x = record { opened = λ is. absurd (ends_open why x.stage is); shut = refl; spent = λ is. is }

part_link : (g : NodeConfig) (x : Machine) (l : ℕ) (p : Part) → MayGo l (plain_local x l) p → PlainGuard g x l p → (x.plain l).up ≡ 0
    → MayStream (x.plain l).stage → LinkKeeps (x.plain l) (next_link (x.plain l) p)
part_link g x l (part.entry z) may guard none streams = entry_link l z (x.plain l) may
part_link g x l (part.up z) may guard none streams = up_link l z (x.plain l) may none
part_link g x l part.welcomed may guard none streams = record { opened = λ is. absurd (false≢true is); shut = refl; spent = λ is. is }
part_link g x l part.crowded may guard none streams = ended_link cause.NoRoom (x.plain l)
part_link g x l part.lacked may guard none streams = ended_link cause.NoMemory (x.plain l)
part_link g x l (part.misfronted fault) may guard none streams = ended_link (cause.FrontFault (number_of fault)) (x.plain l)
part_link g x l (part.fronted seen by aim) may guard none streams = absurd (subst MayStream may.0.0 streams)
part_link g x l (part.refused seen by why status made) may guard none streams = absurd (subst MayStream may.0.0 streams)
part_link g x l (part.accepted made) may guard none streams = record { opened = λ is. ap is_open may.0; shut = refl; spent = λ is. is }
part_link g x l part.roomless may guard none streams = ended_link cause.NoRoom (x.plain l)
part_link g x l (part.left made) may guard none streams =
    record { opened = λ is. left_open (x.plain l).stage is; shut = refl; spent = λ is. is }
part_link g x l (part.done made) may guard none streams = record { opened = λ is. absurd (false≢true is); shut = refl; spent = λ is. is }
part_link g x l (part.asked gate stream) may guard none streams = absurd guard
part_link g x l (part.hears heard begun) may guard none streams = absurd guard
part_link g x l (part.put bytes) may guard none streams = absurd guard
part_link g x l part.finished may guard none streams = absurd guard
part_link g x l (part.credited n) may guard none streams = absurd guard
part_link g x l (part.loosed begun) may guard none streams = absurd guard
part_link g x l (part.completed begun made) may guard none streams = absurd guard
part_link g x l (part.applied r) may guard none streams = absurd guard
part_link g x l (part.stopped why) may guard none streams = absurd guard

-- IN EVERY RUN

-- The stream of one that is open isn't asked for only; while it lives this end's side is open until END_STREAM is put, behind all bytes
record FitsOn (y : Gateway) (s : ℕ) (q : Captured) : Type 0 where
  opened : is_open q.stage ≡ true → stage_of y s ≡ asked → ⊥
  own : is_living (stage_of y s) ≡ true → q.up_shut ≡ false → own_side_open y.conn s ≡ true
  spent : q.up_shut ≡ true → is_done q.ways.up ≡ true

abbrev FitOf : (ℕ → Gateway) → Captured → Type 0
FitOf gates q = is_raw q ≡ false → FitsOn (gates q.gate) q.stream q

carry_on : (y z : Gateway) (s : ℕ) (q r : Captured) → FitsOn y s q → LinkKeeps q r → GateKeeps y z s → FitsOn z s r
carry_on y z s q r fits link gate = record {
  opened = λ opens_so is. fits.opened (link.opened opens_so) (gate.asked is);
  own = λ lives shut. gate.own lives (fits.own (gate.lives lives) (sym link.shut ∙ shut));
  spent = λ shut. link.spent (fits.spent (sym link.shut ∙ shut));
}

carry : (gates then : ℕ → Gateway) (q r : Captured) → FitOf gates q → PlainKeeps q r → (is_raw q ≡ false → LinkKeeps q r)
    → (is_raw q ≡ false → GateKeeps (gates q.gate) (then q.gate) q.stream) → FitOf then r
carry gates then q r fits keeps link gate on =
    let raw : is_raw q ≡ false = ap (λ (n : ℕ). n == 0) (sym keeps.gate) ∙ on in
    subst (λ (n : ℕ). FitsOn (then n) r.stream r) (sym keeps.gate)
    (subst (λ (s : ℕ). FitsOn (then q.gate) s r) (sym keeps.stream)
    (carry_on (gates q.gate) (then q.gate) q.stream q r (fits raw) (link raw) (gate raw)))

-- of a link on a stream: it has no upstream
record OnRoad (x : Captured) : Type 0 where
  no_up : x.up ≡ 0
  streams : MayStream x.stage

module _ (g : NodeConfig) (x : Machine) (points : List Point) (stands : StandsFor g x points)
    (fits : (l : ℕ) → FitOf x.gates (x.plain l)) where
  on_road : (l : ℕ) → is_raw (x.plain l) ≡ false → OnRoad (x.plain l)
  on_road l on = by (all_streamed l (at_start g) (plain_local x l) (plain_of l points) (plain_runs g x points l stands))
    where
      off : (x.plain l).gate ≡ 0 → ⊥
      off none = false≢true (sym on ∙ ap (λ (n : ℕ). n == 0) none)

      by : Streamed (said (plain_of l points)) (road_of (x.plain l)) → OnRoad (x.plain l)
      by (never told begun gate went) = absurd (off gate)
      by (has told begun gate up may) = record { no_up = up; streams = may }
      by (was_left told begun gate ended) = absurd (off gate)

  keeps_all : (l : ℕ) → PlainKeeps (x.plain l) (x.plain l)
  keeps_all l = record { gate = refl; stream = refl }

  -- the link to a gateway of a link changes, or stays
  gate_keeps : (n : ℕ) (next : Gateway) (m s : ℕ) → (m ≡ n → GateKeeps (x.gates n) next s)
      → GateKeeps (x.gates m) (cond (m == n) next (x.gates m)) s
  gate_keeps n next m s keeps =
      cond_both (m == n) next (x.gates m) (λ (z : Gateway). GateKeeps (x.gates m) z s)
      (λ at. subst (λ (k : ℕ). GateKeeps (x.gates k) next s) (sym (eqb-true m n at)) (keeps (eqb-true m n at)))
      (λ other. keeps_same (stage_of (x.gates m) s) (x.gates m).conn (x.gates m).conn s refl)

  -- a link that stays
  unmoved : (gates : ℕ → Gateway) (l : ℕ)
      → (is_raw (x.plain l) ≡ false → GateKeeps (x.gates (x.plain l).gate) (gates (x.plain l).gate) (x.plain l).stream)
      → FitOf gates (x.plain l)
  unmoved gates l keeps = carry x.gates gates (x.plain l) (x.plain l) (fits l) (keeps_all l) (λ raw. link_same (x.plain l)) keeps

  control_fits : (q : point.Point) (next : _) (l : ℕ) → FitOf (with_control q next x).gates ((with_control q next x).plain l)
  control_fits q next l =
      carry x.gates (λ n. gate_seen_by q (x.gates n)) (x.plain l) (plain_seen_by x.control.held q (x.plain l)) (fits l)
      (seen_keeps x.control.held q (x.plain l)) (λ raw. seen_link x.control.held q (x.plain l))
      (λ raw. by q (x.plain l).gate (x.plain l).stream)
    where
      by : (q : point.Point) (n s : ℕ) → GateKeeps (x.gates n) (gate_seen_by q (x.gates n)) s
      by (point.stopped why) n s =
          keeps_failed (gateway.stopped why) why (stage_of (x.gates n) s) (x.gates n).conn (x.gates n).conn s refl
      by _ n s = keeps_same (stage_of (x.gates n) s) (x.gates n).conn (x.gates n).conn s refl

  plain_fits : (k : ℕ) (p : Part) → MayGo k (plain_local x k) p → PlainGuard g x k p → (l : ℕ)
      → FitOf x.gates (cond (l == k) (next_link (x.plain k) p) (x.plain l))
  plain_fits k p may guard l =
      cond_both (l == k) (next_link (x.plain k) p) (x.plain l) (FitOf x.gates)
      (λ at. carry x.gates x.gates (x.plain k) (next_link (x.plain k) p) (fits k) (part_keeps g x k p guard)
      (λ raw. part_link g x k p may guard (on_road k raw).no_up (on_road k raw).streams)
      (λ raw. keeps_same _ (x.gates (x.plain k).gate).conn (x.gates (x.plain k).gate).conn (x.plain k).stream refl))
      (λ other. fits l)

  -- A LINK AND ITS STREAM

  -- it is asked for
  asked_fits : (k n s : ℕ) (authority : Target) (gates : ℕ → Gateway) → gates n ≡ asked_on s k authority (x.gates n)
      → observed.next_stream (x.gates n).conn ≡ Ok s → (x.plain k).stage ≡ captured.due
      → FitOf gates (next_link (x.plain k) (part.asked n s))
  asked_fits k n s authority gates is number due on = record {
    opened = λ opens_so asked. false≢true opens_so;
    own = λ lives shut.
        ap (λ (z : Gateway). own_side_open z.conn s) is
        ∙ ap (λ r. (sides_at (after_number (streams (x.gates n).conn) r) s).own) number
        ∙ ap (λ (w : Sides). w.own) (begins_at (streams (x.gates n).conn) s both_open).here;
    spent = λ shut. absurd (false≢true (sym unshut ∙ shut));
  }
    where
      unshut : (x.plain k).up_shut ≡ false
      unshut =
          (subst (λ (st : captured.Stage). PlainDueBy st (is_raw (x.plain k)) (x.plain k).up_shut (x.plain k).shut (x.plain k).closed) due
          ((all_agree g x points stands).plain_due k)).0

  -- it is told something
  told_fits : (k n s : ℕ) (heard : Heard) (begun : ℕ) (gates : ℕ → Gateway) → IsStreamOf x k n s
      → ((x.gates n).streams s).mail ≡ Some heard
      → (is_raw (x.plain k) ≡ false → GateKeeps (x.gates (x.plain k).gate) (gates (x.plain k).gate) (x.plain k).stream)
      → FitOf gates (told_by heard begun (x.plain k))
  told_fits k n s (opens end) begun gates of mail keeps = λ on. record {
    opened = λ opens_so is. open_now ((keeps on).asked is);
    own = λ lives shut. (keeps on).own lives ((fits k on).own ((keeps on).lives lives) shut);
    spent = (fits k on).spent;
  }
    where
      open_now : stage_of (x.gates (x.plain k).gate) (x.plain k).stream ≡ asked → ⊥
      open_now is =
          let t = (x.gates n).streams s in
          let fit = mails_fit n (x.gates n) (gates_of n points) (gates_run g x points n stands) s in
          let carries_it : t.stage ≡ carrying = lives_on t (opens end) fit mail refl in
          let here : t.stage ≡ asked = ap₂ (λ (m i : ℕ). stage_of (x.gates m) i) (sym of.gate) (sym of.number) ∙ is in
          let no : carrying ≡ asked = sym carries_it ∙ here in
          cc
  told_fits k n s (brings bytes) begun gates of mail keeps =
      carry x.gates gates (x.plain k) (told_by (brings bytes) begun (x.plain k)) (fits k) (record { gate = refl; stream = refl })
      (λ raw. record { opened = λ is. is; shut = refl; spent = λ is. is }) keeps
  told_fits k n s response.ends begun gates of mail keeps =
      carry x.gates gates (x.plain k) (told_by response.ends begun (x.plain k)) (fits k) (record { gate = refl; stream = refl })
      (λ raw. record { opened = λ is. is; shut = refl; spent = λ is. is }) keeps
  told_fits k n s (fails why) begun gates of mail keeps = λ on. absurd (false≢true (sym on))

  none_left : (count : ℕ) (w : Way) → is_done w ≡ true → is_done (way.after w (takes count)) ≡ true
  none_left count w done =
      let parts = and_parts w.has_ended (length w.held == 0) done in
      let none : length w.held ≡ 0 = eqb-true (length w.held) 0 parts.1 in
      ap (λ (b : Bool). b && length (drop count w.held) == 0) parts.0
      ∙ eq-eqb (length (drop count w.held)) 0 (omega (arith, length-drop count w.held, none))

  -- the link of the stream
  here_fits : (k n s : ℕ) (w : Shared) → MayGo k (plain_local x k) (captured_part n s w) → (next : Gateway)
      → gateways.Steps n (x.gates n) (gateway_part k s w) next → StreamGuard x k n s w
      → FitOf (λ m. cond (m == n) next (x.gates m)) (next_link (x.plain k) (captured_part n s w))
  here_fits k n s (asks authority) may next steps guard =
      asked_fits k n s authority (λ m. cond (m == n) next (x.gates m))
      (ap (λ (b : Bool). cond b next (x.gates n)) (eq-eqb n n refl) ∙ steps.2) steps.1 may.0
  here_fits k n s (tells heard begun) may next steps guard =
      told_fits k n s heard begun (λ m. cond (m == n) next (x.gates m)) guard steps.0
      (λ raw. gate_keeps n next (x.plain k).gate (x.plain k).stream
      (λ at. shared_keeps k n s (tells heard begun) (x.gates n) next steps refl (x.plain k).stream (λ no. absurd (false≢true no))))
  here_fits k n s (puts waiting count) may next steps guard =
      carry x.gates (λ m. cond (m == n) next (x.gates m)) (x.plain k) (next_link (x.plain k) (part.put (take count waiting))) (fits k)
      (record { gate = refl; stream = refl })
      (λ raw. record { opened = λ is. is; shut = refl; spent = λ is. none_left (length (take count waiting)) (x.plain k).ways.up is })
      (λ raw. gate_keeps n next (x.plain k).gate (x.plain k).stream
      (λ at. shared_keeps k n s (puts waiting count) (x.gates n) next steps refl (x.plain k).stream (λ no. absurd (false≢true no))))
  here_fits k n s finishes may next steps guard = λ on. record {
    opened = λ opens_so is. (fits k on).opened opens_so (gate_asked is);
    own = λ lives shut. absurd (false≢true (sym shut));
    spent = λ shut. may.1;
  }
    where
      gate_asked : stage_of (cond ((x.plain k).gate == n) next (x.gates (x.plain k).gate)) (x.plain k).stream ≡ asked
          → stage_of (x.gates (x.plain k).gate) (x.plain k).stream ≡ asked
      gate_asked =
          cond_both ((x.plain k).gate == n) next (x.gates (x.plain k).gate)
          (λ (z : Gateway). stage_of z (x.plain k).stream ≡ asked → stage_of (x.gates (x.plain k).gate) (x.plain k).stream ≡ asked)
          (λ at is. ap (λ (m : ℕ). stage_of (x.gates m) (x.plain k).stream) (eqb-true (x.plain k).gate n at)
          ∙ sym (ap (λ (z : Gateway). stage_of z (x.plain k).stream) steps.3) ∙ is) (λ other is. is)
  here_fits k n s (credits count) may next steps guard =
      carry x.gates (λ m. cond (m == n) next (x.gates m)) (x.plain k) (next_link (x.plain k) (part.credited count)) (fits k)
      (record { gate = refl; stream = refl }) (λ raw. record { opened = λ is. is; shut = refl; spent = λ is. is })
      (λ raw. gate_keeps n next (x.plain k).gate (x.plain k).stream
      (λ at. shared_keeps k n s (credits count) (x.gates n) next steps refl (x.plain k).stream (λ no. absurd (false≢true no))))
  here_fits k n s (drops begun) may next steps guard = λ on. absurd (false≢true (sym on))
  here_fits k n s (completes begun note) may next steps guard = λ on. absurd (false≢true (sym on))

  -- another one has another stream
  module _ (k n s : ℕ) (w : Shared) (may : MayGo k (plain_local x k) (captured_part n s w)) (next : Gateway)
      (steps : gateways.Steps n (x.gates n) (gateway_part k s w) next) (guard : StreamGuard x k n s w) (l : ℕ) (apart : l ≢ k)
      (on : is_raw (x.plain l) ≡ false) where
    abbrev then : Machine
    then = with_stream k n (next_link (x.plain k) (captured_part n s w)) next x

    same : then.plain l ≡ x.plain l
    same = ap (λ (b : Bool). cond b (next_link (x.plain k) (captured_part n s w)) (x.plain l)) (ne_eqb l k apart)

    whose : ((then.gates (x.plain l).gate).streams (x.plain l).stream).captured ≡ l
    whose =
        let agrees = runs_agree g then (points ++ of_stream k n s w ∷ [])
        (goes_on stands (of_stream k n s w) (may, next, steps, guard, refl) refl) in
        subst (λ (z : Captured). ((then.gates z.gate).streams z.stream).captured ≡ l) same (agrees.carried l (ap is_raw same ∙ on)).1

    whose_next : (x.plain l).gate ≡ n → (next.streams (x.plain l).stream).captured ≡ l
    whose_next at =
        sym (ap (λ (z : Gateway). (z.streams (x.plain l).stream).captured)
        (ap (λ (b : Bool). cond b next (x.gates (x.plain l).gate)) (eq-eqb (x.plain l).gate n at))) ∙ whose

    far : (x.plain l).gate ≡ n → (next.streams s).captured ≡ k → (x.plain l).stream ≢ s
    far at mine stream = apart (sym (whose_next at) ∙ ap (λ (i : ℕ). (next.streams i).captured) stream ∙ mine)

  -- whatever its stream is, where none is asked for and none ends
  moved_apart : (k n s : ℕ) (w : Shared) (next : Gateway) → gateways.Steps n (x.gates n) (gateway_part k s w) next → asks_one w ≡ false
      → ends_one w ≡ false → (l : ℕ) → FitOf (λ m. cond (m == n) next (x.gates m)) (x.plain l)
  moved_apart k n s w next steps unasked endless l =
      unmoved (λ m. cond (m == n) next (x.gates m)) l (λ on. gate_keeps n next (x.plain l).gate (x.plain l).stream
      (λ at. shared_keeps k n s w (x.gates n) next steps unasked (x.plain l).stream (λ is. absurd (false≢true (sym endless ∙ is)))))

  other_fits : (k n s : ℕ) (w : Shared) → MayGo k (plain_local x k) (captured_part n s w) → (next : Gateway)
      → gateways.Steps n (x.gates n) (gateway_part k s w) next → StreamGuard x k n s w → (l : ℕ) → l ≢ k
      → FitOf (λ m. cond (m == n) next (x.gates m)) (x.plain l)
  other_fits k n s (asks authority) may next steps guard l apart =
      unmoved (λ m. cond (m == n) next (x.gates m)) l (λ on. gate_keeps n next (x.plain l).gate (x.plain l).stream
      (λ at. beside (x.plain l).stream (far k n s (asks authority) may next steps guard l apart on at mine)))
    where
      mine : (next.streams s).captured ≡ k
      mine =
          ap (λ (z : Gateway). (z.streams s).captured) steps.2
          ∙ ap (λ (b : Bool). (cond b (record no_stream { stage = asked; captured = k }) ((x.gates n).streams s)).captured)
          (eq-eqb s s refl)

      beside : (t : ℕ) → t ≢ s → GateKeeps (x.gates n) next t
      beside t other =
          turned n (x.gates n) next t _ steps.2
          (subst (λ (b : Bool). Keeps (stage_of (x.gates n) t)
          (cond b (record no_stream { stage = asked; captured = k }) ((x.gates n).streams t)).stage (x.gates n).conn
          (observed.opened (x.gates n).conn s (request_of authority) false) t) (sym (ne_eqb t s other))
          (keeps_same (stage_of (x.gates n) t) (x.gates n).conn _ t
          (ap (λ r. sides_at (after_number (streams (x.gates n).conn) r) t) steps.1
          ∙ (begins_at (streams (x.gates n).conn) s both_open).others t other)))
  other_fits k n s finishes may next steps guard l apart =
      unmoved (λ m. cond (m == n) next (x.gates m)) l (λ on. gate_keeps n next (x.plain l).gate (x.plain l).stream
      (λ at. shared_keeps k n s finishes (x.gates n) next steps refl (x.plain l).stream
      (λ ends. far k n s finishes may next steps guard l apart on at mine)))
    where
      mine : (next.streams s).captured ≡ k
      mine =
          ap (λ (z : Gateway). (z.streams s).captured) steps.3
          ∙ ap₂ (λ (m i : ℕ). ((x.gates m).streams i).captured) (sym guard.gate) (sym guard.number)
          ∙ ((runs_agree g x points stands).carried k may.0.0).1
  other_fits k n s (tells heard begun) may next steps guard l apart = moved_apart k n s (tells heard begun) next steps refl refl l
  other_fits k n s (puts waiting count) may next steps guard l apart = moved_apart k n s (puts waiting count) next steps refl refl l
  other_fits k n s (credits count) may next steps guard l apart = moved_apart k n s (credits count) next steps refl refl l
  other_fits k n s (drops begun) may next steps guard l apart = moved_apart k n s (drops begun) next steps refl refl l
  other_fits k n s (completes begun note) may next steps guard l apart = moved_apart k n s (completes begun note) next steps refl refl l

  step_fits : (p : Point) (y : Machine) → Steps g x p y → (l : ℕ) → FitOf y.gates (y.plain l)
  step_fits (of_control q) y steps l = subst (λ (z : Machine). FitOf z.gates (z.plain l)) (sym steps.3) (control_fits q steps.0 l)
  step_fits (of_link k p) y steps l = subst (λ (z : Machine). FitOf z.gates (z.plain l)) (sym steps.3) (fits l)
  step_fits (of_plain k p) y steps l =
      subst (λ (z : Machine). FitOf z.gates (z.plain l)) (sym steps.2) (plain_fits k p steps.0 steps.1 l)
  step_fits (of_gate n p) y steps l =
      subst (λ (z : Machine). FitOf z.gates (z.plain l)) (sym steps.3)
      (unmoved (λ m. cond (m == n) steps.0 (x.gates m)) l (λ on. gate_keeps n steps.0 (x.plain l).gate (x.plain l).stream
      (λ at. own_keeps n (x.gates n) steps.0 (x.plain l).stream p steps.1 (unshared g x n p steps.2))))
  step_fits (of_stream k n s w) y steps l =
      subst (λ (z : Machine). FitOf z.gates (z.plain l)) (sym steps.4)
      (cond_both (l == k) (next_link (x.plain k) (captured_part n s w)) (x.plain l)
      (FitOf (λ m. cond (m == n) steps.1 (x.gates m))) (λ at. here_fits k n s w steps.0 steps.1 steps.2 steps.3)
      (λ apart. other_fits k n s w steps.0 steps.1 steps.2 steps.3 l (λ at. false≢true (sym apart ∙ eq-eqb l k at))))

all_fit : (g : NodeConfig) (x : Machine) (points : List Point) → StandsFor g x points → (l : ℕ) → FitOf x.gates (x.plain l)
all_fit g x points (begins is none) l =
    subst (λ (z : Machine). FitOf z.gates (z.plain l)) (sym is) (λ on. absurd (false≢true (sym on)))
all_fit g y more (goes_on {x = x} {points = points} stands p steps are) l =
    step_fits g x points stands (all_fit g x points stands) p y steps l

-- A LINK THAT LIVES ON A STREAM whose tunnel was told all
pub record Carried (x : Machine) (l : ℕ) : Type 0 where
  pub carries : carries (x.gates (x.plain l).gate).phase ≡ true
  pub stage : stage_of (x.gates (x.plain l).gate) (x.plain l).stream ≡ carrying
  pub whose : ((x.gates (x.plain l).gate).streams (x.plain l).stream).captured ≡ l
  pub own : (x.plain l).up_shut ≡ false → own_side_open (x.gates (x.plain l).gate).conn (x.plain l).stream ≡ true
  pub spent : (x.plain l).up_shut ≡ true → is_done (x.plain l).ways.up ≡ true

pub live_carries : (g : NodeConfig) (x : Machine) (points : List Point) → StandsFor g x points → (l : ℕ) → Lives (x.plain l)
    → ((x.gates (x.plain l).gate).streams (x.plain l).stream).mail ≡ None → Carried x l
live_carries g x points stands l lives told = record {
  carries = by_phase (carries y.phase) refl;
  stage = by_stage t.stage refl alive;
  whose = agrees.1;
  own = λ shut. fit.own alive shut;
  spent = fit.spent;
}
  where
    y : Gateway
    y = x.gates (x.plain l).gate

    t : Stream
    t = y.streams (x.plain l).stream

    agrees : HasTunnel t × (t.captured ≡ l)
    agrees = (runs_agree g x points stands).carried l lives.0

    alive : is_living t.stage ≡ true
    alive = ⊎_elim (λ is. is) (λ some. absurd (some told)) agrees.0

    fit : FitsOn y (x.plain l).stream (x.plain l)
    fit = all_fit g x points stands l lives.0

    by_phase : (b : Bool) → carries y.phase ≡ b → carries y.phase ≡ true
    by_phase true is = is
    by_phase false is = absurd (false≢true (sym (end_tunnels (x.plain l).gate y (gates_of (x.plain l).gate points)
        (gates_run g x points (x.plain l).gate stands) (λ had. false≢true (sym is ∙ had)) (x.plain l).stream) ∙ alive))

    by_stage : (stage : Stage) → t.stage ≡ stage → is_living stage ≡ true → t.stage ≡ carrying
    by_stage asked is lives_so = absurd (fit.opened (ap is_open lives.1) is)
    by_stage carrying is lives_so = is
    by_stage unused is lives_so = absurd (false≢true lives_so)
    by_stage (failing code) is lives_so = absurd (false≢true lives_so)
    by_stage over is lives_so = absurd (false≢true lives_so)
