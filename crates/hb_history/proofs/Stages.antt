-- A client that asks on one stream, stage by stage.
use Rattle.std.proofs.Common.{◌≡◌, ℕ, ◌+◌, ◌-◌, ◌≤◌, ◌==◌, ◌&&◌, ◌||◌, not, Bool, true, false, cond, if◌then◌else◌, fold, List, [], ◌∷◌, ◌++◌, length, drop, Option, Some, None, Ok, refl, ap, sym, ◌∙◌, subst, arith, length-drop}
use Rattle.std.specs.Prelude.{nat_lt}
use Rattle.std.specs.List.{list_any}
use Rattle.std.proofs.lemmas.Bool.{false≢true}
use Rattle.std.proofs.lemmas.Bool.Decides.{nat_tests}
use Rattle.std.proofs.lemmas.List.{append_assoc, append-nil, length-take}
use Rattle.std.proofs.lemmas.List.Folds.{list_any-append}
use Rattle.hb_frames.specs.RawFrame.{RawFrame}
use Rattle.hb_frames.specs.Numbers.{data_kind, protocol_error}
use Rattle.hb_frames.specs.Bodies.{content_of, lent_of}
use Rattle.hb_frames.specs.Refusals.{front_len, padding_len}
use Rattle.hb_hpack.specs.declared.header.Header.{Header}
use Rattle.hb_streams.specs.Answers.{number_of}
use Rattle.hb_outgoing.specs.Selected.{is_meant, data_size}
use Rattle.hb_flow.specs.Flows.{creditable}
use Rattle.hb_outgoing.specs.Waiting.{room_of}
use Rattle.hb_outgoing.specs.Written.{begun_by}
use Rattle.hb_conn.specs.Connection.{fresh_client, ended_by}
use Rattle.hb_conn.specs.Credit.{credit}
use Rattle.hb_conn.specs.Glance.{glance_at, has_flag}
use Rattle.hb_conn.specs.Handling.{HandlesBy, Handles}
use Rattle.hb_conn.specs.Opening.{opened_with}
use Rattle.hb_conn.specs.Faults.{faulted as fault_of}
use Rattle.hb_conn.specs.Outcome.{is_silent, Gives}
use Rattle.hb_conn.specs.Payload.{data_put}
use Rattle.hb_conn.specs.Places.{is_misplaced}
use Rattle.hb_conn.specs.Receiving.{pauses}
use Rattle.hb_conn.specs.declared.machine.Core.{Core}
use Rattle.hb_conn.specs.declared.found.Found.{Found}
use Rattle.hb_conn.specs.declared.found.Found.TheVariants as found
use Rattle.hb_conn.specs.declared.glance.Glance.{Glance}
use Rattle.hb_conn.specs.declared.glance.Glance.TheVariants as glance
use Rattle.hb_history.specs.Points.{Move, got, refused, misbegan, opened, answered, ended, reset, credited, put, wrote, Point, point, After, RunsWith, begins_by, got_by, frames_got}
use Rattle.hb_history.specs.History.{ends_in, told_of, happenings}
use Rattle.hb_history.specs.OwnFrames.{first_stream, Stage, begins, asks, faulted, cut, strays, told_stage, stage_after, stage, is_fault}
use Rattle.hb_history.specs.OwnCredits.{kept_by, kept_after, kept, is_left}
use Rattle.hb_history.proofs.Asking.{Goes, IsOver, Later, left_by, handled, data_handled_by, credit_goes, data_put_goes, fault_over, wrote_goes, wrote_over, opened_goes}
use Rattle.hb_history.proofs.FrameLists.{Own}
use Rattle.hb_history.proofs.Glanced.{data_are, no_data}
use Rattle.hb_history.proofs.Payloads.{size_on, size_push}

-- what is so at each stage, once this was told and these frames came, of whose octets k are kept, and these frames began
abbrev pub At : List Found → List RawFrame → ℕ → Stage → List RawFrame → Core → Type 0
At told gs k begins front c = (front ≡ []) × (c ≡ fresh_client.receiver.core) × (gs ≡ []) × (told ≡ []) × (k ≡ 0)
At told gs k asks front c = Goes front (data_size None gs) (data_size (Some first_stream) gs) k (list_any is_left told) c
At told gs k faulted front c = IsOver front c × (list_any is_fault told ≡ true)
At told gs k cut front c = (queue : List RawFrame) × Own (front ++ queue)
At told gs k strays front c = Unit {0}

-- what is told of a frame
abbrev tells : Found → List Found
tells t = if is_silent t then [] else t ∷ ends_in (ended_by t)

or_none : (p : Bool) → (p || false) ≡ p
or_none true = refl
or_none false = refl

left_of : (t : Found) → list_any is_left (tells t) ≡ left_by t
left_of found.Silent = refl
left_of (found.Opened s end) = or_none end
left_of (found.Chunk s true) = refl
left_of (found.Chunk s false) = refl
left_of (found.Ended s) = refl
left_of (found.Reset s code) = refl
left_of (found.Broken s code) = refl
left_of (found.GoneAway last) = refl
left_of (found.Fault code) = refl

or_swap : (p q : Bool) → (p || q) ≡ (q || p)
or_swap true true = refl
or_swap true false = refl
or_swap false true = refl
or_swap false false = refl

left_more : (told : List Found) (t : Found) → (left_by t || list_any is_left told) ≡ list_any is_left (told ++ tells t)
left_more told t =
    sym (list_any-append is_left told (tells t) ∙ ap (λ p. list_any is_left told || p) (left_of t)
    ∙ or_swap (list_any is_left told) (left_by t))

or_true : (p : Bool) → (p || true) ≡ true
or_true true = refl
or_true false = refl

any_behind : (xs ys : List Found) → list_any is_fault ys ≡ true → list_any is_fault (xs ++ ys) ≡ true
any_behind xs ys any =
    list_any-append is_fault xs ys ∙ ap (λ p. list_any is_fault xs || p) any ∙ or_true (list_any is_fault xs)

any_in_front : (xs ys : List Found) → list_any is_fault xs ≡ true → list_any is_fault (xs ++ ys) ≡ true
any_in_front xs ys any = list_any-append is_fault xs ys ∙ ap (λ p. p || list_any is_fault ys) any

-- the octets of DATA without padding are no more than with it
pub content_fits : (f : RawFrame) → length (content_of f) ≤ length f.payload
content_fits f =
    let all = length f.payload - padding_len f in
    omega (arith, length-take (all - front_len f) (drop (front_len f) f.payload), length-drop (front_len f) f.payload)

module _ (told : List Found) (gs : List RawFrame) (k : ℕ) (front : List RawFrame) (c : Core) where
  abbrev Was : Type 0
  Was = Goes front (data_size None gs) (data_size (Some first_stream) gs) k (list_any is_left told) c

  -- after a move
  abbrev Will : Move → Found → Stage → Core → Type 0
  Will m t st new = At (told ++ tells t) (gs ++ got_by (point m t)) (kept_by k m t) st (front ++ begins_by c m) new

  -- with it no frame begins
  still : (ts : List Found) (fs : List RawFrame) (n : ℕ) (st : Stage) (new : Core) → At ts fs n st front new
      → At ts fs n st (front ++ []) new
  still ts fs n st new at = subst (λ (xs : List RawFrame). At ts fs n st xs new) (sym (append-nil front)) at

  same_left : (t : Found) (fs : List RawFrame) (n : ℕ) (new : Core)
      → Goes front (data_size None fs) (data_size (Some first_stream) fs) n (left_by t || list_any is_left told) new
      → At (told ++ tells t) fs n asks (front ++ []) new
  same_left t fs n new goes =
      still (told ++ tells t) fs n asks new
      (subst (λ p. Goes front (data_size None fs) (data_size (Some first_stream) fs) n p new) (left_more told t) goes)

  -- frames
  looked_by : (f : RawFrame) (t : Found) (new : Core) → Was
      → Later front (data_size None (gs ++ f ∷ [])) (data_size (Some first_stream) (gs ++ f ∷ [])) k (length (lent_of f))
      (list_any is_left told) t new
      → Will (got f) t (told_stage t) new
  looked_by f (found.Fault code) new h over =
      still (told ++ tells (found.Fault code)) (gs ++ f ∷ []) k faulted new (over, any_behind told (found.Fault code ∷ []) refl)
  looked_by f (found.Reset s code) new h over = still (told ++ tells (found.Reset s code)) (gs ++ f ∷ []) k cut new (c.out.queue, h.2)
  looked_by f (found.Broken s code) new h over = still (told ++ tells (found.Broken s code)) (gs ++ f ∷ []) k cut new (c.out.queue, h.2)
  looked_by f found.Silent new h goes = same_left found.Silent (gs ++ f ∷ []) k new goes
  looked_by f (found.Opened s end) new h goes = same_left (found.Opened s end) (gs ++ f ∷ []) k new goes
  looked_by f (found.Chunk s end) new h goes = same_left (found.Chunk s end) (gs ++ f ∷ []) (k + length (lent_of f)) new goes
  looked_by f (found.Ended s) new h goes = same_left (found.Ended s) (gs ++ f ∷ []) k new goes
  looked_by f (found.GoneAway last) new h goes = same_left (found.GoneAway last) (gs ++ f ∷ []) k new goes

  enough_room : pauses c ≡ false → 30 ≤ room_of c.out
  enough_room goes = by c.over goes
    where
      by : (p : Bool) → (p || nat_lt (room_of c.out) 256) ≡ false → 30 ≤ room_of c.out
      by true is = absurd (false≢true (sym is))
      by false is = grind (arith, nat_tests, is)

  -- one that isn't DATA adds nothing to what came
  other_size : (x : Option ℕ) (f : RawFrame) → (f.kind == data_kind) ≡ false → data_size x gs ≡ data_size x (gs ++ f ∷ [])
  other_size x f other =
      let none : size_on x f ≡ 0 = ap (λ p. cond (p && is_meant x f.stream) (length f.payload) 0) other in
      omega (arith, size_push x gs f, none)

  data_size_all : (f : RawFrame) → (f.kind == data_kind) ≡ true → data_size None (gs ++ f ∷ []) ≡ data_size None gs + length f.payload
  data_size_all f is =
      let one : size_on None f ≡ length f.payload = ap (λ p. cond (p && true) (length f.payload) 0) is in
      omega (arith, size_push None gs f, one)

  data_size_one : (f : RawFrame) → (f.kind == data_kind) ≡ true
      → data_size (Some first_stream) (gs ++ f ∷ [])
      ≡ data_size (Some first_stream) gs + cond (f.stream == first_stream) (length f.payload) 0
  data_size_one f is =
      size_push (Some first_stream) gs f
      ∙ ap (λ p. data_size (Some first_stream) gs + cond (p && (f.stream == first_stream)) (length f.payload) 0) is

  frame_by : (f : RawFrame) (t : Found) (new : Core) (p : Bool) → (f.kind == data_kind) ≡ p → Was → pauses c ≡ false
      → Handles c (glance_at f) (lent_of f) new t
      → Later front (data_size None (gs ++ f ∷ [])) (data_size (Some first_stream) (gs ++ f ∷ [])) k (length (lent_of f))
      (list_any is_left told) t new
  frame_by f t new true test h goes is =
      let seen = data_are f test in
      let g = glance.Data f.stream (length f.payload) (has_flag f 1) in
      let fits : length (lent_of f) ≤ length f.payload = omega (arith, ap (λ (xs : List ℕ). length xs) seen.1, content_fits f) in
      data_handled_by front (data_size None (gs ++ f ∷ [])) (data_size (Some first_stream) (gs ++ f ∷ [])) k (length (lent_of f))
      (list_any is_left told) (is_misplaced c g) c f.stream (length f.payload) (data_size None gs) (data_size (Some first_stream) gs)
      (has_flag f 1) (lent_of f) new t (data_size_all f test) (data_size_one f test) refl fits (enough_room goes) h
      (subst (λ (x : Glance). Handles c x (lent_of f) new t) seen.0 is)
  frame_by f t new false test h goes is =
      handled front (data_size None (gs ++ f ∷ [])) (data_size (Some first_stream) (gs ++ f ∷ [])) k (length (lent_of f))
      (list_any is_left told) c (glance_at f) (lent_of f) new t (no_data f test)
      (subst (λ a. Goes front a (data_size (Some first_stream) (gs ++ f ∷ [])) k (list_any is_left told) c) (other_size None f test)
      (subst (λ b. Goes front (data_size None gs) b k (list_any is_left told) c) (other_size (Some first_stream) f test) h)) is

  -- a connection error
  fault_at : (n : ℕ) (fs : List RawFrame) (code : ℕ) (t : Found) (new : Core) → Was → Gives (fault_of c code) new t
      → At (told ++ tells t) fs n (told_stage t) (front ++ []) new
  fault_at n fs code t new h is =
      let over = fault_over front (data_size None gs) (data_size (Some first_stream) gs) k 0 (list_any is_left told) c new code t h is in
      subst (λ (u : Found). At (told ++ tells u) fs n (told_stage u) (front ++ []) new) (sym over.0)
      (still (told ++ tells (found.Fault code)) fs n faulted new (over.1, any_behind told (found.Fault code ∷ []) refl))

  refused_at : (p : Bool) (fs : List RawFrame) (code row kind flags : ℕ) (t : Found) (new : Core) → Was
      → HandlesBy p c (glance.Refused code row kind flags) [] new t → At (told ++ tells t) fs k (told_stage t) (front ++ []) new
  refused_at true fs code row kind flags t new h is = fault_at k fs protocol_error t new h is
  refused_at false fs code row kind flags t new h is = fault_at k fs code t new h is

  -- acts of this end, of which nothing is told
  act_at : (n : ℕ) (t : Found) (new : Core) → t ≡ found.Silent
      → Goes front (data_size None gs) (data_size (Some first_stream) gs) n (list_any is_left told) new
      → At (told ++ tells t) (gs ++ []) n asks (front ++ []) new
  act_at n t new silent goes =
      subst (λ (fs : List RawFrame). At (told ++ tells t) fs n asks (front ++ []) new) (sym (append-nil gs))
      (same_left t gs n new (subst (λ (u : Found). Goes front (data_size None gs) (data_size (Some first_stream) gs) n
      (left_by u || list_any is_left told) new) (sym silent) goes))

  on_stream : (s n : ℕ) (t : Found) (new : Core) → t ≡ found.Silent
      → (s ≡ first_stream → Goes front (data_size None gs) (data_size (Some first_stream) gs) n (list_any is_left told) new)
      → At (told ++ tells t) (gs ++ []) n (if s == first_stream then asks else strays) (front ++ []) new
  on_stream s n t new silent goes = by (s == first_stream) refl
    where
      by : (p : Bool) → (s == first_stream) ≡ p → At (told ++ tells t) (gs ++ []) n (if p then asks else strays) (front ++ []) new
      by true is = act_at n t new silent (goes (grind (arith, nat_tests, is)))
      by false is = tt

  asked : (m : Move) (t : Found) (new : Core) → Was → After c m new t → Will m t (stage_after asks (point m t)) new
  asked (got f) t new h is = looked_by f t new h (frame_by f t new (f.kind == data_kind) refl h is.0 is.1)
  asked (refused r kind flags) t new h is =
      refused_at (is_misplaced c (glance.Refused r.code r.row kind flags)) (gs ++ []) r.code r.row kind flags t new h is.1
  asked misbegan t new h is = fault_at k (gs ++ []) protocol_error t new h is.1
  asked (opened s headers end) t new h is = tt
  asked (answered s status) t new h is = tt
  asked (ended s) t new h is = tt
  asked (reset s code) t new h is = tt
  asked (credited s n) t new h is =
      on_stream s (k - n) t new is.1.1 (λ same.
      let within : n ≤ creditable c.flow first_stream = subst (λ q. n ≤ creditable c.flow q) same is.0 in
      subst (Goes front (data_size None gs) (data_size (Some first_stream) gs) (k - n) (list_any is_left told))
      (sym (is.1.0 ∙ ap (λ q. credit c q n) same))
      (credit_goes front (data_size None gs) (data_size (Some first_stream) gs) (k - n) (list_any is_left told) c n k refl within h))
  asked (put s bytes) t new h is =
      on_stream s k t new is.1 (λ same.
      subst (Goes front (data_size None gs) (data_size (Some first_stream) gs) k (list_any is_left told))
      (sym (is.0 ∙ ap (λ q. data_put c q bytes) same))
      (data_put_goes front (data_size None gs) (data_size (Some first_stream) gs) k 0 (list_any is_left told) c bytes h))
  asked (wrote n) t new h is =
      subst (λ (fs : List RawFrame). At (told ++ tells t) fs k asks (front ++ begun_by n c.out) new) (sym (append-nil gs))
      (subst (λ p. Goes (front ++ begun_by n c.out) (data_size None gs) (data_size (Some first_stream) gs) k p new)
      (ap (λ (u : Found). left_by u || list_any is_left told) (sym is.1.1) ∙ left_more told t)
      (subst (Goes (front ++ begun_by n c.out) (data_size None gs) (data_size (Some first_stream) gs) k (list_any is_left told))
      (sym is.1.0)
      (wrote_goes front (data_size None gs) (data_size (Some first_stream) gs) k (list_any is_left told) c n h)))

  over : (m : Move) (t : Found) (new : Core) → At told gs k faulted front c → After c m new t
      → Will m t (stage_after faulted (point m t)) new
  over (wrote n) t new h is = (
    subst (IsOver (front ++ begun_by n c.out)) (sym is.1.0) (wrote_over front c n h.0),
    any_in_front told (tells t) h.1,
  )
  over _ t new h is = tt

  begin_at : (s : ℕ) (headers : List Header) (t : Found) (new : Core) → At told gs k begins front c
      → number_of c.streams c.peer.streams ≡ Ok s → new ≡ opened_with c s headers false → t ≡ found.Silent → s ≡ first_stream
      → At (told ++ tells t) (gs ++ []) k asks (front ++ []) new
  begin_at s headers t new h number is silent same =
      let goes : Goes [] 0 0 0 false new =
      subst (Goes [] 0 0 0 false)
      (sym (is ∙ ap (λ q. opened_with c q headers false) same ∙ ap (λ (x : Core). opened_with x first_stream headers false) h.1))
      (opened_goes headers
      (sym (ap (λ (x : Core). number_of x.streams x.peer.streams) h.1) ∙ number ∙ ap (λ (q : ℕ). Ok q) same)) in
      let heard : told ++ tells t ≡ [] = ap (λ (u : Found). told ++ tells u) silent ∙ append-nil told ∙ h.3 in
      subst (λ (ts : List Found). At ts (gs ++ []) k asks (front ++ []) new) (sym heard)
      (subst (λ (fs : List RawFrame). At [] fs k asks (front ++ []) new) (sym (append-nil gs ∙ h.2))
      (subst (λ n. At [] [] n asks (front ++ []) new) (sym h.4)
      (subst (λ (fs : List RawFrame). At [] [] 0 asks fs new) (sym (append-nil front ∙ h.0)) goes)))

  begin_by : (s : ℕ) (headers : List Header) (end : Bool) (t : Found) (new : Core) → At told gs k begins front c
      → number_of c.streams c.peer.streams ≡ Ok s → new ≡ opened_with c s headers end → t ≡ found.Silent → (p : Bool)
      → (s == first_stream) ≡ p
      → At (told ++ tells t) (gs ++ []) k (if p && not end then asks else strays) (front ++ []) new
  begin_by s headers true t new h number is silent true test = tt
  begin_by s headers false t new h number is silent true test =
      begin_at s headers t new h number is silent (grind (arith, nat_tests, test))
  begin_by s headers end t new h number is silent false test = tt

  begun_at : (m : Move) (t : Found) (new : Core) → At told gs k begins front c → After c m new t
      → Will m t (stage_after begins (point m t)) new
  begun_at (opened s headers end) t new h is = begin_by s headers end t new h is.0 is.1.0 is.1.1 (s == first_stream) refl
  begun_at _ t new h is = tt

  moved_at : (st : Stage) (m : Move) (t : Found) (new : Core) → At told gs k st front c → After c m new t
      → Will m t (stage_after st (point m t)) new
  moved_at begins m t new h is = begun_at m t new h is
  moved_at asks m t new h is = asked m t new h is
  moved_at faulted m t new h is = over m t new h is
  moved_at cut m t new h is = tt
  moved_at strays m t new h is = tt

run_at : (points : List Point) (told : List Found) (fs : List RawFrame) (k : ℕ) (st : Stage) (front gs : List RawFrame) (c new : Core)
    → At told fs k st front c → RunsWith c points gs new
    → At (told ++ happenings points) (fs ++ frames_got points) (fold kept_after k points) (fold stage_after st points) (front ++ gs) new
run_at [] told fs k st front gs c new h runs =
    subst (λ (ts : List Found). At ts (fs ++ []) k st (front ++ gs) new) (sym (append-nil told))
    (subst (λ (xs : List RawFrame). At told xs k st (front ++ gs) new) (sym (append-nil fs))
    (subst (λ (xs : List RawFrame). At told fs k st xs new) (sym (ap (λ (xs : List RawFrame). front ++ xs) runs.1 ∙ append-nil front))
    (subst (At told fs k st front) (sym runs.0) h)))
run_at (p ∷ ps) told fs k st front gs c new h runs =
    let now = stage_after st p in
    let next = kept_after k p in
    subst (λ (ts : List Found). At ts (fs ++ (got_by p ++ frames_got ps)) (fold kept_after next ps) (fold stage_after now ps)
    (front ++ gs) new)
    (append_assoc told (told_of p) (happenings ps))
    (subst (λ (xs : List RawFrame). At ((told ++ told_of p) ++ happenings ps) xs (fold kept_after next ps) (fold stage_after now ps)
    (front ++ gs) new)
    (append_assoc fs (got_by p) (frames_got ps))
    (subst (λ (xs : List RawFrame). At ((told ++ told_of p) ++ happenings ps) ((fs ++ got_by p) ++ frames_got ps) (fold kept_after next ps)
    (fold stage_after now ps) xs new)
    (append_assoc front (begins_by c p.move) runs.2 ∙ ap (λ (xs : List RawFrame). front ++ xs) (sym runs.3))
    (run_at ps (told ++ told_of p) (fs ++ got_by p) next now (front ++ begins_by c p.move) runs.2 runs.0 new
    (moved_at told fs k front c st p.move p.told runs.0 h runs.1) runs.4)))

-- after any moves of a client
pub all_at : (points : List Point) (gs : List RawFrame) (new : Core) → RunsWith fresh_client.receiver.core points gs new
    → At (happenings points) (frames_got points) (kept points) (stage points) gs new
all_at points gs new runs =
    run_at points [] [] 0 begins [] gs fresh_client.receiver.core new (refl, refl, refl, refl, refl) runs
