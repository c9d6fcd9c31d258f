-- What every run of a link keeps of the bytes that come on its streams and go to upstreams.
use Rattle.std.proofs.Common.{◌≡◌, ℕ, ◌+◌, ◌<◌, ◌≤◌, ◌==◌, Bool, true, false, cond, List, [], ◌∷◌, ◌++◌, length, Option, Some, None, refl, ap, sym, ◌∙◌, arith, length-append}
use Rattle.std.specs.List.{flat_map, list_any}
use Rattle.std.proofs.lemmas.Bool.{false≢true, cond_both, or_left, or_right}
use Rattle.std.proofs.lemmas.Grind.{flat_map-append}
use Rattle.std.proofs.lemmas.List.{append-nil, append_assoc}
use Rattle.std.proofs.lemmas.List.Folds.{list_any-append}
use Rattle.hb_base.specs.declared.cause.Cause.{Cause}
use Rattle.hb_conn.specs.Connection.{Connection, ended_by}
use Rattle.hb_conn.specs.Observed.{chunk_of}
use Rattle.hb_conn.specs.Outcome.{is_silent}
use Rattle.hb_conn.specs.declared.found.Found.{Found}
use Rattle.hb_conn.specs.declared.found.Found.TheVariants as found
use Rattle.hb_history.specs.Calls.{in_list, AreLooks}
use Rattle.hb_history.specs.History.{ends_in, happenings}
use Rattle.hb_history.specs.Points as history
use Rattle.hb_history.specs.Points.{data_of, data_in}
use Rattle.hb_kept.specs.Numbers.{highest_used}
use Rattle.hb_inbound.specs.Part.{Part, moves_in, moves}
use Rattle.hb_inbound.specs.Sides.{data_told, data_by, stream_came, up_went_in, up_went, is_accept, is_peer_end, Was}
use Rattle.hb_inbound.specs.Tunnel.{Tunnel, Stage, unasked, requested, refusing, malformed, due, opening, accepting, live, failed, ended, over, gone, is_live, ends_by}
use Rattle.hb_inbound.proofs.Grown.{one_more}

-- THE OCTETS OF DATA THAT ARE TOLD

-- those of this stream
abbrev pub told_on : ℕ → Found → List ℕ → List ℕ
told_on k (found.Chunk s end) bytes = cond (s == k) bytes []
told_on k _ bytes = []

none_on : (k : ℕ) (told : Found) → told_on k told [] ≡ []
none_on k found.Silent = refl
none_on k (found.Opened s end) = refl
none_on k (found.Chunk s end) = cond_both (s == k) [] [] (λ (x : List ℕ). x ≡ []) (λ is. refl) (λ is. refl)
none_on k (found.Ended s) = refl
none_on k (found.Reset s code) = refl
none_on k (found.Broken s code) = refl
none_on k (found.GoneAway last) = refl
none_on k (found.Fault code) = refl

none_told : (k : ℕ) (m : history.Move) → data_told k m found.Silent ≡ []
none_told k (history.got f) = refl
none_told k m = refl

none_data : (m : history.Move) → data_of m found.Silent ≡ []
none_data (history.got f) = refl
none_data m = refl

of_one : (k : ℕ) (m : history.Move) (told : Found) → data_told k m told ≡ told_on k told (data_of m told)
of_one k (history.got f) found.Silent = refl
of_one k (history.got f) (found.Opened s end) = refl
of_one k (history.got f) (found.Chunk s end) = refl
of_one k (history.got f) (found.Ended s) = refl
of_one k (history.got f) (found.Reset s code) = refl
of_one k (history.got f) (found.Broken s code) = refl
of_one k (history.got f) (found.GoneAway last) = refl
of_one k (history.got f) (found.Fault code) = refl
of_one k m told = sym (none_on k told)

-- of looks the last alone tells anything
abbrev tells_of : Found → List Found
tells_of told = cond (is_silent told) [] (told ∷ ends_in (ended_by told))

record Lone (ps : List history.Point) : Type 0 where
  pub last : history.Point
  pub tells : happenings ps ≡ tells_of last.told ++ []
  pub each : (f : history.Point → List ℕ) → ((q : history.Point) → q.told ≡ found.Silent → f q ≡ []) → flat_map f ps ≡ f last ++ []

lone : (p : history.Point) (ps : List history.Point) → AreLooks (p ∷ ps) → Lone (p ∷ ps)
lone p [] looks = record { last = p; tells = refl; each = λ f none. refl }
lone p (q ∷ ps) looks =
    let rest = lone q ps looks.2 in
    record {
      last = rest.last;
      tells = ap (λ (t : Found). tells_of t ++ happenings (q ∷ ps)) looks.1 ∙ rest.tells;
      each = λ f none. ap (λ (xs : List ℕ). xs ++ flat_map f (q ∷ ps)) (none p looks.1) ∙ rest.each f none;
    }

is_chunk : (s : ℕ) (end : Bool) (q : Found) (o : Option ℕ) (more : List Found) → ends_in o ++ (tells_of q ++ []) ≡ found.Chunk s end ∷ more
    → q ≡ found.Chunk s end
is_chunk s end found.Silent None more is = absurd (cc)
is_chunk s end (found.Opened t e) None more is = cc
is_chunk s end (found.Chunk t e) None more is = cc
is_chunk s end (found.Ended t) None more is = cc
is_chunk s end (found.Reset t code) None more is = cc
is_chunk s end (found.Broken t code) None more is = cc
is_chunk s end (found.GoneAway last) None more is = cc
is_chunk s end (found.Fault code) None more is = cc
is_chunk s end q (Some x) more is = absurd (cc)

last_is : (k : ℕ) (d : Connection) (told q : Found) (o : Option ℕ) → ends_in o ++ (tells_of q ++ []) ≡ in_list told ++ ends_in d.ended
    → told_on k q (chunk_of d told) ≡ told_on k told (chunk_of d told)
last_is k d found.Silent q o tells = none_on k q
last_is k d (found.Opened s end) q o tells = none_on k q
last_is k d (found.Chunk s end) q o tells =
    ap (λ (r : Found). told_on k r (chunk_of d (found.Chunk s end))) (is_chunk s end q o (ends_in d.ended) tells)
last_is k d (found.Ended s) q o tells = none_on k q
last_is k d (found.Reset s code) q o tells = none_on k q
last_is k d (found.Broken s code) q o tells = none_on k q
last_is k d (found.GoneAway last) q o tells = none_on k q
last_is k d (found.Fault code) q o tells = none_on k q

pub told_data : (k : ℕ) (c d : Connection) (ps : List history.Point) (told : Found) → AreLooks ps
    → ends_in c.ended ++ happenings ps ≡ in_list told ++ ends_in d.ended → flat_map data_in ps ≡ chunk_of d told
    → flat_map (data_by k) ps ≡ told_on k told (chunk_of d told)
told_data k c d [] told looks tells hands = sym (ap (told_on k told) (sym hands) ∙ none_on k told)
told_data k c d (p ∷ ps) told looks tells hands =
    let one = lone p ps looks in
    let q = one.last in
    let mine : flat_map (data_by k) (p ∷ ps) ≡ data_told k q.move q.told =
    one.each (data_by k) (λ r is. ap (λ (t : Found). data_told k r.move t) is ∙ none_told k r.move) ∙ append-nil (data_by k q) in
    let all : data_of q.move q.told ≡ chunk_of d told =
    sym (append-nil (data_in q))
    ∙ sym (one.each data_in (λ r is. ap (λ (t : Found). data_of r.move t) is ∙ none_data r.move)) ∙ hands in
    mine ∙ of_one k q.move q.told ∙ ap (told_on k q.told) all
    ∙ last_is k d told q.told c.ended (ap (λ (xs : List Found). ends_in c.ended ++ xs) (sym one.tells) ∙ tells)

-- WHAT IS KEPT

-- a request waits for its answer; and it came with the end of the peer's side
abbrev pub is_asked : Stage → Bool
is_asked (requested headers end) = true
is_asked _ = false

abbrev pub comes_ended : Stage → Bool
comes_ended (requested headers end) = end
comes_ended _ = false

-- What came on the stream went up, or waits. On a stream that wasn't used nothing was asked for and nothing came; nothing came yet
-- where the request isn't answered. What went is counted. A tunnel that lives was accepted, and its peer's side ended where its way
-- up did
pub record Relays (parts : List Part) (c : Connection) (s : ℕ) (t : Tunnel) : Type 0 where
  pub front : stream_came s parts ≡ up_went s parts ++ t.ways.up.held
  pub new : highest_used c < s → (t.stage ≡ unasked) × (stream_came s parts ≡ [])
  pub early : is_asked t.stage ≡ true → (t.ways.up.held ≡ []) × (up_went s parts ≡ [])
  pub counts : t.went_up ≡ length (up_went s parts)
  pub lives : is_live t.stage ≡ true → Was (is_accept s) parts
  pub ends : t.ways.up.has_ended ≡ true → Was (is_peer_end s) parts
  pub asked : comes_ended t.stage ≡ true → Was (is_peer_end s) parts

-- where nothing came nothing went, and nothing waits
pub none_in : (went held : List ℕ) → [] ≡ went ++ held → (held ≡ []) × (went ≡ [])
none_in [] held is = (sym is, refl)
none_in (x ∷ xs) held is = absurd (cc)

pub was_more : (is : Part → Bool) (parts : List Part) (p : Part) → Was is parts → Was is (parts ++ p ∷ [])
was_more is parts p was = list_any-append is parts (p ∷ []) ∙ or_left (list_any is parts) (list_any is (p ∷ [])) was

pub was_now : (is : Part → Bool) (parts : List Part) (p : Part) → is p ≡ true → Was is (parts ++ p ∷ [])
was_now is parts p now =
    list_any-append is parts (p ∷ []) ∙ or_right (list_any is parts) (list_any is (p ∷ [])) (or_left (is p) false now)

came_more : (s : ℕ) (parts : List Part) (p : Part)
    → stream_came s (parts ++ p ∷ []) ≡ stream_came s parts ++ flat_map (data_by s) (moves_in p)
came_more s parts p =
    ap (flat_map (data_by s)) (one_more moves_in parts p) ∙ flat_map-append (data_by s) (moves parts) (moves_in p)

-- a part with which these bytes come on the stream, and these go up
pub grows : (parts : List Part) (p : Part) (c d : Connection) (s : ℕ) (old new : Tunnel) (comes goes : List ℕ)
    → flat_map (data_by s) (moves_in p) ≡ comes → up_went_in s p ≡ goes → old.ways.up.held ++ comes ≡ goes ++ new.ways.up.held
    → highest_used c ≤ highest_used d → (highest_used d < s → (new.stage ≡ unasked) × (comes ≡ []))
    → (is_asked new.stage ≡ true → (new.ways.up.held ≡ []) × (up_went s parts ++ goes ≡ []))
    → new.went_up ≡ length (up_went s parts) + length goes → (is_live new.stage ≡ true → Was (is_accept s) (parts ++ p ∷ []))
    → (new.ways.up.has_ended ≡ true → Was (is_peer_end s) (parts ++ p ∷ []))
    → (comes_ended new.stage ≡ true → Was (is_peer_end s) (parts ++ p ∷ []))
    → Relays parts c s old → Relays (parts ++ p ∷ []) d s new
grows parts p c d s old new comes goes came went held rises unused early counts lives ends asked is =
    let came_now : stream_came s (parts ++ p ∷ []) ≡ stream_came s parts ++ comes =
    came_more s parts p ∙ ap (λ (xs : List ℕ). stream_came s parts ++ xs) came in
    let went_now : up_went s (parts ++ p ∷ []) ≡ up_went s parts ++ goes =
    one_more (up_went_in s) parts p ∙ ap (λ (xs : List ℕ). up_went s parts ++ xs) went in
    record {
      front = came_now ∙ ap (λ (xs : List ℕ). xs ++ comes) is.front ∙ append_assoc (up_went s parts) old.ways.up.held comes
          ∙ ap (λ (xs : List ℕ). up_went s parts ++ xs) held ∙ sym (append_assoc (up_went s parts) goes new.ways.up.held)
          ∙ ap (λ (xs : List ℕ). xs ++ new.ways.up.held) (sym went_now);
      new = λ above. (
        (unused above).0,
        came_now ∙ ap (λ (xs : List ℕ). xs ++ comes) (is.new (omega (arith, rises, above))).1 ∙ (unused above).1,
      );
      early = λ asks. ((early asks).0, went_now ∙ (early asks).1);
      counts = counts ∙ sym (ap length went_now ∙ length-append (up_went s parts) goes);
      lives = lives;
      ends = ends;
      asked = asked;
    }

-- a stage that begins nothing
pub record Follows (old new : Stage) : Type 0 where
  pub unasked : old ≡ unasked → new ≡ unasked
  pub asks : is_asked new ≡ true → is_asked old ≡ true
  pub lives : is_live new ≡ true → is_live old ≡ true
  pub ends : comes_ended new ≡ true → comes_ended old ≡ true

pub same_stage : (stage : Stage) → Follows stage stage
same_stage stage = record { unasked = λ is. is; asks = λ is. is; lives = λ is. is; ends = λ is. is }

absurdly : {A : Type 0} (b : Bool) → b ≡ false → b ≡ true → A
absurdly b none some = absurd (false≢true (sym none ∙ some))

-- behind a stage at which something was asked
pub later : (old new : Stage) → (old ≡ unasked → ⊥) → is_asked new ≡ false → is_live new ≡ false → comes_ended new ≡ false → Follows old new
later old new some asks lives ends = record {
  unasked = λ is. absurd (some is);
  asks = absurdly (is_asked new) asks;
  lives = absurdly (is_live new) lives;
  ends = absurdly (comes_ended new) ends;
}

pub ends_follow : (why : Cause) (stage : Stage) → Follows stage (ends_by why stage)
ends_follow why unasked = same_stage unasked
ends_follow why (requested headers end) = same_stage (requested headers end)
ends_follow why (refusing status target) = same_stage (refusing status target)
ends_follow why malformed = same_stage malformed
ends_follow why due = later due (failed why) (λ is. cc) refl refl refl
ends_follow why opening = later opening (failed why) (λ is. cc) refl refl refl
ends_follow why accepting = later accepting (failed why) (λ is. cc) refl refl refl
ends_follow why live = later live (ended why) (λ is. cc) refl refl refl
ends_follow why (failed cause) = same_stage (failed cause)
ends_follow why (ended cause) = same_stage (ended cause)
ends_follow why (over cause) = same_stage (over cause)
ends_follow why gone = same_stage gone

-- a tunnel whose way up and count are the same, and whose stage begins nothing
pub record Alike (old new : Tunnel) : Type 0 where
  pub way : new.ways.up ≡ old.ways.up
  pub went : new.went_up ≡ old.went_up
  pub stage : Follows old.stage new.stage

pub quiet : (parts : List Part) (p : Part) (c d : Connection) (s : ℕ) (old new : Tunnel) → flat_map (data_by s) (moves_in p) ≡ []
    → up_went_in s p ≡ [] → highest_used c ≤ highest_used d → Alike old new → Relays parts c s old → Relays (parts ++ p ∷ []) d s new
quiet parts p c d s old new came went rises alike is =
    grows parts p c d s old new [] [] came went (append-nil old.ways.up.held ∙ ap (λ w. w.held) (sym alike.way)) rises
    (λ above. (alike.stage.unasked (is.new (omega (arith, rises, above))).0, refl))
    (λ asks. (
      ap (λ w. w.held) alike.way ∙ (is.early (alike.stage.asks asks)).0,
      append-nil (up_went s parts) ∙ (is.early (alike.stage.asks asks)).1,
    ))
    (alike.went ∙ is.counts ∙ (let same : length (up_went s parts) ≡ length (up_went s parts) + 0 = omega arith in same))
    (λ lives. was_more (is_accept s) parts p (is.lives (alike.stage.lives lives)))
    (λ ends. was_more (is_peer_end s) parts p (is.ends (sym (ap (λ w. w.has_ended) alike.way) ∙ ends)))
    (λ asked. was_more (is_peer_end s) parts p (is.asked (alike.stage.ends asked))) is
