-- What a tunnel is told came is a front of the DATA that came on its stream, in every run of a link.
use Rattle.std.proofs.Common.{◌≡◌, ℕ, ◌<◌, ◌==◌, Bool, true, false, cond, List, [], ◌∷◌, ◌++◌, Option, Some, None, refl, ap, ap₂, sym, ◌∙◌, subst, arith}
use Rattle.std.specs.List.{flat_map}
use Rattle.std.proofs.lemmas.Bool.{false≢true, cond_both, eqb-true}
use Rattle.std.proofs.lemmas.Grind.{flat_map-append}
use Rattle.std.proofs.lemmas.List.{append-nil, append_assoc}
use Rattle.hb_base.specs.declared.cause.Cause.{Cause}
use Rattle.hb_base.specs.declared.cause.Cause.TheVariants as cause
use Rattle.hb_conn.specs.Connection.{Connection}
use Rattle.hb_conn.specs.Observed.{chunk_of, aborted}
use Rattle.hb_conn.specs.declared.found.Found.{Found}
use Rattle.hb_conn.specs.declared.found.Found.TheVariants as found
use Rattle.hb_history.specs.Points as history
use Rattle.hb_history.specs.Points.{data_in}
use Rattle.hb_hpack.specs.declared.header.Header.{Header}
use Rattle.hb_inbound.proofs.Relaying as inbound
use Rattle.hb_inbound.proofs.Relaying.{told_data, none_in}
use Rattle.hb_inbound.specs.Sides.{data_by}
use Rattle.hb_kept.specs.Looks.{IsLook}
use Rattle.hb_kept.specs.Numbers.{highest_used}
use Rattle.hb_model.specs.Discovery.{status_of}
use Rattle.hb_world.specs.declared.entry.Entry.{Entry}
use Rattle.hb_world.specs.declared.entry.Entry.TheVariants as e
use Rattle.hb_gateway.specs.Gateway.{Gateway, Phase, Stream, no_stream, stage_of, at_stage, at_stream, is_active, dropped_to, break_cause}
use Rattle.hb_gateway.specs.Hears.{hears, hears_call, after, all_hear}
use Rattle.hb_gateway.specs.Laws.{RunsBring}
use Rattle.hb_gateway.specs.Order as order
use Rattle.hb_gateway.specs.Order.{if_heard, HearsAll}
use Rattle.hb_gateway.specs.Part.{Part, entry, dialled, lacked, looked, asks, tells, put, finished, credited, reset, dropped, done, stopped, moves, moves_by, moves_in, left_of, tellings, link_came}
use Rattle.hb_gateway.specs.Connections.{conn_went}
use Rattle.hb_gateway.specs.Response.{Stage, unused, asked, carrying, failing, over, is_living, Heard, opens, brings, ends, fails, is_success, refusal_of, answered, headed, brought, ended, failed, heard_of}
use Rattle.hb_gateway.specs.Runs.{entered, Steps, StandsFor}
use Rattle.hb_gateway.specs.Runs as runs
use Rattle.hb_gateway.specs.Sides.{told_on, brought_by, brought_on, came_on}
use Rattle.hb_gateway.proofs.Asking.{step_rises, number_above, call_streams}
use Rattle.hb_gateway.proofs.Ending.{given_up, settled_lives}
use Rattle.hb_gateway.proofs.Grown.{more_moves}
use Rattle.hb_gateway.proofs.Hearing.{IsOf, failed_of, told_of, called_of, stands_for}
use Rattle.hb_gateway.proofs.Numbered.{data_of_used}
use Rattle.hb_gateway.proofs.Runs.{all_keep}
use Rattle.hb_gateway.proofs.Telling.{tell}

-- DATA THAT COMES WITH A PART

call_comes : (s left : ℕ) (call : Entry) → flat_map (data_by s) (moves_by left call) ≡ []
call_comes s left (e.Accepted k door) = refl
call_comes s left (e.Dialled k to why) = refl
call_comes s left (e.DialFailed to why) = refl
call_comes s left (e.Opened k) = refl
call_comes s left (e.Came k bytes) = refl
call_comes s left (e.Ended k) = refl
call_comes s left (e.Went k bytes) = refl
call_comes s left (e.Broke k) = refl
call_comes s left (e.Balked how) = refl
call_comes s left (e.Shut k) = refl
call_comes s left (e.Closed k why) = refl
call_comes s left e.Tick = refl
call_comes s left (e.Wait ready how) = refl

came_more : (s : ℕ) (parts : List Part) (p : Part)
    → came_on s (parts ++ p ∷ []) ≡ came_on s parts ++ flat_map (data_by s) (moves_in (left_of parts) p)
came_more s parts p =
    ap (flat_map (data_by s)) (more_moves parts p) ∙ flat_map-append (data_by s) (moves parts) (moves_in (left_of parts) p)

-- NONE CAME ON A STREAM ABOVE ALL THAT WERE USED

module _ (g s : ℕ) (x y : Gateway) (parts : List Part) (stands : StandsFor g x parts) where
  look_comes : (ps : List history.Point) (told : Found) (d : Connection) → IsLook x.conn ps told d → highest_used d < s
      → inbound.told_on s told (chunk_of d told) ≡ []
  look_comes ps (found.Chunk k end) d look above =
      cond_both (k == s) (chunk_of d (found.Chunk k end)) [] (λ (bs : List ℕ). bs ≡ [])
      (λ is. absurd (let low =
      data_of_used (moves parts) (tellings parts) (link_came parts) (conn_went parts) x.conn d k end (all_keep g x parts stands).stands
      look.finds in
      let same : k ≡ s = eqb-true k s is in
      omega (arith, low, same, above)))
      (λ is. refl)
  look_comes ps found.Silent d look above = refl
  look_comes ps (found.Opened k end) d look above = refl
  look_comes ps (found.Ended k) d look above = refl
  look_comes ps (found.Reset k code) d look above = refl
  look_comes ps (found.Broken k code) d look above = refl
  look_comes ps (found.GoneAway last) d look above = refl
  look_comes ps (found.Fault code) d look above = refl

  comes_none : (p : Part) → Steps g x p y → highest_used y.conn < s → flat_map (data_by s) (moves_in (left_of parts) p) ≡ []
  comes_none (entry call) steps above = call_comes s (left_of parts) call
  comes_none (looked ps told headers) steps above =
      told_data s x.conn steps.3 ps told steps.4.looks steps.4.tells steps.4.hands_out
      ∙ look_comes ps told steps.3 steps.4 (subst (λ (c : Connection). highest_used c < s) (ap (λ (z : Gateway). z.conn) steps.6) above)
  comes_none (dialled call key) steps above = refl
  comes_none lacked steps above = refl
  comes_none (asks k captured authority) steps above = refl
  comes_none (tells k heard begun) steps above = refl
  comes_none (put k bytes count) steps above = refl
  comes_none (finished k) steps above = refl
  comes_none (credited k n) steps above = refl
  comes_none (reset k code) steps above = refl
  comes_none (dropped k begun) steps above = refl
  comes_none (done k begun) steps above = refl
  comes_none (stopped why) steps above = refl

none_came : (g s : ℕ) (x : Gateway) (parts : List Part) → StandsFor g x parts → highest_used x.conn < s → came_on s parts ≡ []
none_came g s x parts (runs.begins is none) above = ap (came_on s) none
none_came g s y more (runs.goes_on {x = x} {parts = parts} before p steps grown) above =
    let rises = step_rises g x y p steps in
    ap (came_on s) grown ∙ came_more s parts p
    ∙ ap₂ (λ (xs bs : List ℕ). xs ++ bs) (none_came g s x parts before (omega (arith, rises, above)))
    (comes_none g s x y parts before p steps above)

-- WHAT IS HEARD OF IT

abbrev pub bytes_of : Option Heard → List ℕ
bytes_of heard = flat_map brought_by (if_heard heard)

failed_bytes : (why : Cause) (stage : Stage) → bytes_of (failed why stage) ≡ []
failed_bytes why unused = refl
failed_bytes why asked = refl
failed_bytes why carrying = refl
failed_bytes why (failing code) = refl
failed_bytes why over = refl

answered_bytes : (status : Option ℕ) (end : Bool) → bytes_of (answered status end) ≡ []
answered_bytes status end =
    cond_both _ None (cond (is_success status) (Some (opens end)) (Some (fails (cause.UpRefused (refusal_of status)))))
    (λ (h : Option Heard). bytes_of h ≡ [])
    (λ passed. refl)
    (λ not_passed. cond_both (is_success status) (Some (opens end)) (Some (fails (cause.UpRefused (refusal_of status))))
    (λ (h : Option Heard). bytes_of h ≡ []) (λ well. refl) (λ ill. refl))

headed_bytes : (stage : Stage) (status : Option ℕ) (end : Bool) → bytes_of (headed stage status end) ≡ []
headed_bytes unused status end = refl
headed_bytes asked status end = answered_bytes status end
headed_bytes carrying status end = refl
headed_bytes (failing code) status end = refl
headed_bytes over status end = refl

ended_bytes : (stage : Stage) → bytes_of (ended stage) ≡ []
ended_bytes unused = refl
ended_bytes asked = refl
ended_bytes carrying = refl
ended_bytes (failing code) = refl
ended_bytes over = refl

where_none : (b : Bool) (heard : Option Heard) → bytes_of heard ≡ [] → bytes_of (cond b heard None) ≡ []
where_none true heard none = none
where_none false heard none = refl

call_bytes : (phase : Phase) (stage : Stage) (call : Entry) → bytes_of (hears_call phase stage call) ≡ []
call_bytes phase stage (e.Accepted k door) = refl
call_bytes phase stage (e.Dialled k to why) = refl
call_bytes phase stage (e.DialFailed to why) = refl
call_bytes phase stage (e.Opened k) = refl
call_bytes phase stage (e.Came k bytes) = refl
call_bytes phase stage (e.Ended k) = failed_bytes cause.PeerGone stage
call_bytes phase stage (e.Went k bytes) = refl
call_bytes phase stage (e.Broke k) = failed_bytes (break_cause phase) stage
call_bytes phase stage (e.Balked how) = refl
call_bytes phase stage (e.Shut k) = refl
call_bytes phase stage (e.Closed k why) = refl
call_bytes phase stage e.Tick = refl
call_bytes phase stage (e.Wait ready how) = refl

-- what lives behind a part lived before
lived : (p : Part) (stage : Stage) (heard : Option Heard) → IsOf stage heard → is_living (after p stage heard) ≡ true
    → is_living stage ≡ true
lived p stage None of lives = lives
lived p asked (Some (opens end)) of lives = refl
lived p asked (Some (fails why)) of lives = refl
lived p carrying (Some (brings bytes)) of lives = refl
lived p carrying (Some ends) of lives = refl
lived p carrying (Some (fails why)) of lives = refl
lived p unused (Some heard) of lives = absurd of
lived p (failing code) (Some heard) of lives = absurd of
lived p over (Some heard) of lives = absurd of
lived p asked (Some (brings bytes)) of lives = absurd of
lived p asked (Some ends) of lives = absurd of
lived p carrying (Some (opens end)) of lives = absurd of

-- what came and isn't heard, behind a part with which this came and this is heard: none while the tunnel lives
abbrev pub Rests : Part → Stage → Option Heard → (before comes : List ℕ) → Type 0
Rests p stage heard before comes =
    (rest : List ℕ) × (before ++ comes ≡ bytes_of heard ++ rest) × (is_living (after p stage heard) ≡ true → rest ≡ [])

module _ (p : Part) (before : List ℕ) where
  none_rests : (stage : Stage) (heard : Option Heard) (comes : List ℕ) → IsOf stage heard → bytes_of heard ≡ [] → comes ≡ []
      → (is_living stage ≡ true → before ≡ []) → Rests p stage heard before comes
  none_rests stage heard comes of silent none all = (
    before,
    ap (λ (bs : List ℕ). before ++ bs) none ∙ append-nil before ∙ ap (λ (bs : List ℕ). bs ++ before) (sym silent),
    λ lives. all (lived p stage heard of lives),
  )

  -- DATA of the stream comes: it is heard where the stream carries bytes
  data_rests : (stage : Stage) (bytes comes : List ℕ) → bytes ≡ comes → (is_living stage ≡ true → before ≡ [])
      → ((why : Cause) → is_living (after p asked (Some (fails why))) ≡ false) → Rests p stage (brought stage bytes) before comes
  data_rests carrying bytes comes is all ends_it = (
    [],
    ap₂ (λ (xs bs : List ℕ). xs ++ bs) (all refl) (sym is) ∙ sym (append-nil bytes) ∙ sym (append-nil (bytes ++ [])),
    λ lives. refl,
  )
  data_rests asked bytes comes is all ends_it = (before ++ comes, refl, λ lives. absurd (false≢true (sym (ends_it _) ∙ lives)))
  data_rests unused bytes comes is all ends_it = (before ++ comes, refl, λ lives. absurd (false≢true lives))
  data_rests (failing code) bytes comes is all ends_it = (before ++ comes, refl, λ lives. absurd (false≢true lives))
  data_rests over bytes comes is all ends_it = (before ++ comes, refl, λ lives. absurd (false≢true lives))

module _ (s : ℕ) (stage : Stage) (before : List ℕ) (ps : List history.Point) (headers : List Header) (c d : Connection)
    (all : is_living stage ≡ true → before ≡ []) where
  abbrev LooksRest : Found → Type 0
  LooksRest told =
      Rests (looked ps told headers) stage (heard_of s stage headers (flat_map data_in ps) told) before
      (inbound.told_on s told (chunk_of d told))

  plain : (told : Found) → bytes_of (heard_of s stage headers (flat_map data_in ps) told) ≡ []
      → inbound.told_on s told (chunk_of d told) ≡ [] → LooksRest told
  plain told silent none =
      none_rests (looked ps told headers) before stage (heard_of s stage headers (flat_map data_in ps) told)
      (inbound.told_on s told (chunk_of d told)) (told_of s stage headers (flat_map data_in ps) told) silent none all

  look_rests : (told : Found) → IsLook c ps told d → LooksRest told
  look_rests (found.Chunk k end) look = by (k == s)
    where
      bytes : List ℕ
      bytes = flat_map data_in ps

      by : (b : Bool) → Rests (looked ps (found.Chunk k end) headers) stage (cond b (brought stage bytes) None) before
          (cond b (chunk_of d (found.Chunk k end)) [])
      by true =
          data_rests (looked ps (found.Chunk k end) headers) before stage bytes (chunk_of d (found.Chunk k end)) look.hands_out all
          (λ why. refl)
      by false = none_rests (looked ps (found.Chunk k end) headers) before stage None [] tt refl refl all
  look_rests found.Silent look = plain found.Silent refl refl
  look_rests (found.Opened k end) look =
      plain (found.Opened k end) (where_none (k == s) (headed stage (status_of headers) end) (headed_bytes stage (status_of headers) end))
      refl
  look_rests (found.Ended k) look = plain (found.Ended k) (where_none (k == s) (ended stage) (ended_bytes stage)) refl
  look_rests (found.Reset k code) look =
      plain (found.Reset k code)
      (where_none (k == s) (failed (cause.PeerReset code) stage) (failed_bytes (cause.PeerReset code) stage)) refl
  look_rests (found.Broken k code) look =
      plain (found.Broken k code)
      (where_none (k == s) (failed (cause.StreamFault code) stage) (failed_bytes (cause.StreamFault code) stage)) refl
  look_rests (found.GoneAway last) look =
      plain (found.GoneAway last) (where_none _ (failed cause.GoneAway stage) (failed_bytes cause.GoneAway stage)) refl
  look_rests (found.Fault code) look = plain (found.Fault code) (failed_bytes (cause.ConnFault code) stage) refl

-- THE INVARIANT: what came is what is heard, and more only where the tunnel lives no more
pub record Brought (parts : List Part) (x : Gateway) (s : ℕ) (all : List Heard) : Type 0 where
  pub rest : List ℕ
  pub front : came_on s parts ≡ flat_map brought_by all ++ rest
  pub whole : is_living (stage_of x s) ≡ true → rest ≡ []

module _ (g s : ℕ) (x y : Gateway) (parts : List Part) (all : List Heard) (stands : StandsFor g x parts)
    (was : Brought parts x s all) where
  abbrev Now : Part → Type 0
  Now p = Brought (parts ++ p ∷ []) y s (all ++ if_heard (hears x p s))

  comes : Part → List ℕ
  comes p = flat_map (data_by s) (moves_in (left_of parts) p)

  grows : (p : Part) (come : List ℕ) → flat_map (data_by s) (moves_in (left_of parts) p) ≡ come → (rest : List ℕ)
      → was.rest ++ come ≡ bytes_of (hears x p s) ++ rest → (is_living (stage_of y s) ≡ true → rest ≡ []) → Now p
  grows p come comes_so rest is whole = record {
    rest = rest;
    front = came_more s parts p ∙ ap₂ (λ (xs bs : List ℕ). xs ++ bs) was.front comes_so
        ∙ append_assoc (flat_map brought_by all) was.rest come
        ∙ ap (λ (bs : List ℕ). flat_map brought_by all ++ bs) is
        ∙ sym (append_assoc (flat_map brought_by all) (bytes_of (hears x p s)) rest)
        ∙ ap (λ (bs : List ℕ). bs ++ rest) (sym (flat_map-append brought_by all (if_heard (hears x p s))));
    whole = whole;
  }

  -- a part with which none comes and nothing is heard, and behind which the stream lives only where it did
  quiet : (p : Part) → flat_map (data_by s) (moves_in (left_of parts) p) ≡ [] → hears x p s ≡ None
      → (is_living (stage_of y s) ≡ true → was.rest ≡ []) → Now p
  quiet p none silent whole =
      grows p [] none was.rest (append-nil was.rest ∙ ap (λ (h : Option Heard). bytes_of h ++ was.rest) (sym silent)) whole

  -- one that is heard
  heard_now : (p : Part) (come : List ℕ) → flat_map (data_by s) (moves_in (left_of parts) p) ≡ come
      → is_living (stage_of y s) ≡ is_living (after p (stage_of x s) (hears x p s))
      → Rests p (stage_of x s) (hears x p s) was.rest come → Now p
  heard_now p come comes_so same rests = grows p come comes_so rests.0 rests.1 (λ lives. rests.2 (sym same ∙ lives))

  ends_now : (p : Part) → flat_map (data_by s) (moves_in (left_of parts) p) ≡ [] → stage_of y s ≡ after p (stage_of x s) (hears x p s)
      → IsOf (stage_of x s) (hears x p s) → bytes_of (hears x p s) ≡ [] → Now p
  ends_now p none stage of silent =
      heard_now p [] none (ap is_living stage) (none_rests p was.rest (stage_of x s) (hears x p s) [] of silent refl was.whole)

  stage_at : (z : Gateway) → y ≡ z → stage_of y s ≡ stage_of z s
  stage_at z is = ap (λ (w : Gateway). stage_of w s) is

  still : (z : Gateway) → y ≡ z → stage_of z s ≡ stage_of x s → is_living (stage_of y s) ≡ true → was.rest ≡ []
  still z is same lives = was.whole (sym (ap is_living (stage_at z is ∙ same)) ∙ lives)

  -- the stream k is at this stage, which doesn't live
  gone : (k : ℕ) (stage : Stage) (c : Connection) → is_living stage ≡ false → y ≡ record (at_stream k (at_stage stage) x) { conn = c }
      → is_living (stage_of y s) ≡ true → was.rest ≡ []
  gone k stage c over_now is lives =
      cond_both (s == k) (at_stage stage (x.streams s)) (x.streams s) (λ (t : Stream). is_living t.stage ≡ true → was.rest ≡ [])
      (λ same now. absurd (false≢true (sym over_now ∙ now))) (λ apart now. was.whole now)
      (sym (ap (λ (w : Gateway). is_living (stage_of w s)) is) ∙ lives)

  step_brings : (p : Part) → Steps g x p y → Now p
  step_brings (entry call) steps =
      ends_now (entry call) (call_comes s (left_of parts) call)
      (stage_at _ steps.1 ∙ call_streams call (all_hear (entry call) x) s) (called_of x.phase (stage_of x s) call)
      (call_bytes x.phase (stage_of x s) call)
  step_brings (dialled call key) steps = quiet (dialled call key) refl refl (still _ steps.1 refl)
  step_brings lacked steps =
      ends_now lacked refl (stage_at _ steps.1) (failed_of cause.NoMemory (stage_of x s)) (failed_bytes cause.NoMemory (stage_of x s))
  step_brings (looked ps told headers) steps =
      heard_now (looked ps told headers) (inbound.told_on s told (chunk_of steps.3 told))
      (told_data s x.conn steps.3 ps told steps.4.looks steps.4.tells steps.4.hands_out)
      (ap is_living (stage_at _ steps.6) ∙ settled_lives (is_active steps.3 s) (stage_of (all_hear (looked ps told headers) x) s))
      (look_rests s (stage_of x s) was.rest ps headers x.conn steps.3 was.whole told steps.4)
  step_brings (asks k captured authority) steps =
      quiet (asks k captured authority) refl refl
      (λ lives. cond_both (s == k) (record no_stream { stage = asked; captured = captured }) (x.streams s)
      (λ (t : Stream). is_living t.stage ≡ true → was.rest ≡ [])
      (λ is now. (none_in (flat_map brought_by all) was.rest (sym (none_came g s x parts stands
      (subst (λ (n : ℕ). highest_used x.conn < n) (sym (eqb-true s k is)) (number_above x.conn k steps.1))) ∙ was.front)).0)
      (λ apart now. was.whole now) (sym (ap (λ (w : Gateway). is_living (stage_of w s)) steps.2) ∙ lives))
  step_brings (tells k heard begun) steps =
      quiet (tells k heard begun) refl refl
      (still _ steps.2 (cond_both (s == k) (record (x.streams s) { mail = None }) (x.streams s) (λ (t : Stream). t.stage ≡ stage_of x s)
      (λ is. refl) (λ is. refl)))
  step_brings (put k bytes count) steps = quiet (put k bytes count) refl refl (still _ steps.4 refl)
  step_brings (finished k) steps = quiet (finished k) refl refl (still _ steps.3 refl)
  step_brings (credited k n) steps = quiet (credited k n) refl refl (still _ steps.2 refl)
  step_brings (reset k code) steps = quiet (reset k code) refl refl (gone k over (aborted x.conn k code) refl steps.2)
  step_brings (dropped k begun) steps = quiet (dropped k begun) refl refl (gone k (dropped_to k x) x.conn (given_up k x) steps.3)
  step_brings (done k begun) steps = quiet (done k begun) refl refl (gone k over x.conn refl steps.3)
  step_brings (stopped why) steps =
      ends_now (stopped why) refl (stage_at _ steps.1) (failed_of why (stage_of x s)) (failed_bytes why (stage_of x s))

all_bring : (g s : ℕ) (x : Gateway) (parts : List Part) (all : List Heard) → HearsAll g s x parts all → Brought parts x s all
all_bring g s x parts all (order.begins is none silent) = record {
  rest = [];
  front = ap (came_on s) none ∙ ap (λ (hs : List Heard). flat_map brought_by hs ++ []) (sym silent);
  whole = λ lives. refl;
}
all_bring g s y more now (order.goes_on {x = x} {parts = parts} {all = all} before p steps grown told) =
    subst (λ (ps : List Part). Brought ps y s now) (sym grown)
    (subst (Brought (parts ++ p ∷ []) y s) (sym told)
    (step_brings g s x y parts all (stands_for g s x parts all before) (all_bring g s x parts all before) p steps))

-- in each run each stream hears something, or nothing
hears_some : (g s : ℕ) (x : Gateway) (parts : List Part) → StandsFor g x parts → (all : List Heard) × HearsAll g s x parts all
hears_some g s x parts (runs.begins is none) = ([], order.begins is none refl)
hears_some g s y more (runs.goes_on {x = x} {parts = parts} before p steps grown) =
    let so_far = hears_some g s x parts before in
    (so_far.0 ++ if_heard (hears x p s), order.goes_on so_far.1 p steps grown refl)

pub bring : RunsBring
bring g x parts stands s =
    let heard = hears_some g s x parts stands in
    let one = all_bring g s x parts heard.0 heard.1 in
    record {
      rest = bytes_of (x.streams s).mail ++ one.rest;
      front = one.front
          ∙ ap (λ (hs : List Heard). flat_map brought_by hs ++ one.rest) (tell g s x parts heard.0 heard.1)
          ∙ ap (λ (bs : List ℕ). bs ++ one.rest) (flat_map-append brought_by (told_on s parts) (if_heard (x.streams s).mail))
          ∙ append_assoc (brought_on s parts) (bytes_of (x.streams s).mail) one.rest;
    }
