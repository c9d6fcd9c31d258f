-- Each SETTINGS and each PING of the peer is answered once, in order, by frames that have begun or wait.
use Rattle.std.proofs.Common.{◌≡◌, ℕ, ◌+◌, ◌-◌, ◌*◌, ◌/◌, ◌%◌, ◌<◌, ◌==◌, ◌&&◌, ◌||◌, not, Bool, true, false, cond, List, [], ◌∷◌, ◌++◌, length, drop, filter, Option, Some, refl, ap, sym, ◌∙◌, subst, arith}
use Rattle.std.specs.Prelude.{take, slice_index}
use Rattle.std.specs.List.{flat_map}
use Rattle.std.proofs.lemmas.Bool.{false≢true}
use Rattle.std.proofs.lemmas.Bool.Decides.{nat_tests}
use Rattle.std.proofs.lemmas.List.{append_assoc, append-nil}
use Rattle.std.proofs.lemmas.List.Elements.{filter-append}
use Rattle.std.proofs.lemmas.Grind.{flat_map-append}
use Rattle.hb_frames.specs.RawFrame.{RawFrame}
use Rattle.hb_frames.specs.Frames.{AreOctets}
use Rattle.hb_frames.specs.Numbers.{data_kind, settings_kind, ping_kind, max_concurrent_streams}
use Rattle.hb_frames.specs.Numbers.{initial_window_size, max_frame_size, protocol_error}
use Rattle.hb_frames.specs.Octets.{four, four_at}
use Rattle.hb_frames.specs.Refusals.{is_ack, settings}
use Rattle.hb_frames.specs.Bodies.{lent_of}
use Rattle.hb_frames.proofs.Spelling.{four_digits}
use Rattle.hb_streams.specs.declared.role.Role.{Role}
use Rattle.hb_streams.specs.declared.role.Role.TheVariants.{Server, Client}
use Rattle.hb_flow.specs.Flows.{closed, spent}
use Rattle.hb_outgoing.specs.Waiting.{Waiting}
use Rattle.hb_outgoing.specs.Written.{begun_by, written}
use Rattle.hb_outgoing.specs.Selected.{is_meant, is_data_of, is_kept}
use Rattle.hb_outgoing.proofs.Sent.{begun_and_left}
use Rattle.hb_owed.specs.Debts.{closed as owed_closed}
use Rattle.hb_conn.specs.Frames.{word, frame, sent, settings_ack, ping_ack}
use Rattle.hb_conn.specs.Ping.{on_ping}
use Rattle.hb_conn.specs.Faults.{faulted, is_active}
use Rattle.hb_conn.specs.Glance.{glance_at}
use Rattle.hb_conn.specs.Handling.{Handles, HandlesBy}
use Rattle.hb_conn.specs.Outcome.{Gives}
use Rattle.hb_conn.specs.Payload.{count_put}
use Rattle.hb_conn.specs.Places.{is_misplaced}
use Rattle.hb_conn.specs.Settings.{allows_push, AppliesBy, Then, AppliesAll, applied, SettlesBy, DoesSettings}
use Rattle.hb_conn.specs.declared.machine.Core.{Core}
use Rattle.hb_conn.specs.declared.found.Found.{Found}
use Rattle.hb_conn.specs.declared.glance.Glance.{Glance}
use Rattle.hb_conn.specs.declared.glance.Glance.TheVariants as glance
use Rattle.hb_history.specs.Points.{Move, got, refused, misbegan, opened, answered, ended, reset, credited, wrote, Point, point, After, RunsWith, begins_by, got_by, frames_got}
use Rattle.hb_history.specs.Points.{put as puts}
use Rattle.hb_history.specs.Calls.{IsAct}
use Rattle.hb_history.specs.History.{fresh}
use Rattle.hb_history.specs.Answered.{ping_value, answer_to, is_answer, AnswersAreThose, PingsAreEchoed}
use Rattle.hb_history.proofs.Parts.{Amid, calm, amid, Keeps, Puts}
use Rattle.hb_history.proofs.Kept as kept
use Rattle.hb_history.proofs.Handled.{Grows, window_keeps, handles_keep}
use Rattle.hb_history.proofs.Acted.{act_keeps}
use Rattle.hb_history.proofs.Glanced.{settings_are, no_settings, is_settings, ping_is, no_ping, is_ping}

-- DATA answers nothing
data_first : (a m : Bool) → (a && m) ≡ true → a ≡ true
data_first true m is = refl
data_first false m is = absurd (false≢true is)

no_answer : (f : RawFrame) → (f.kind == data_kind) ≡ true → is_answer f ≡ false
no_answer f is =
    let kind : f.kind ≡ 0 = grind (arith, nat_tests, is) in ap (λ (k : ℕ). (k == settings_kind || k == ping_kind) && is_ack f) kind

-- so the answers stay where DATA is taken back
kept_answers : (x : Option ℕ) (fs : List RawFrame) → filter is_answer (filter (is_kept x) fs) ≡ filter is_answer fs
kept_answers x [] = refl
kept_answers x (f ∷ fs) = by (is_data_of x f) refl (kept_answers x fs)
  where
    by : (b : Bool) → is_data_of x f ≡ b → filter is_answer (filter (is_kept x) fs) ≡ filter is_answer fs
        → filter is_answer (filter (is_kept x) (f ∷ fs)) ≡ filter is_answer (f ∷ fs)
    by true test rest =
        let gone : filter (is_kept x) (f ∷ fs) ≡ filter (is_kept x) fs =
        ap (λ b. cond (not b) (f ∷ filter (is_kept x) fs) (filter (is_kept x) fs)) test in
        let none = no_answer f (data_first (f.kind == data_kind) (is_meant x f.stream) test) in
        let skipped : filter is_answer (f ∷ fs) ≡ filter is_answer fs =
        ap (λ b. cond b (f ∷ filter is_answer fs) (filter is_answer fs)) none in
        ap (filter is_answer) gone ∙ rest ∙ sym skipped
    by false test rest =
        let stays : filter (is_kept x) (f ∷ fs) ≡ f ∷ filter (is_kept x) fs =
        ap (λ b. cond (not b) (f ∷ filter (is_kept x) fs) (filter (is_kept x) fs)) test in
        ap (filter is_answer) stays
        ∙ ap (λ (gs : List RawFrame). cond (is_answer f) (f ∷ gs) gs) rest

-- the answers that have begun, and behind them those that wait, are these, unless a connection error was told
abbrev pub Answers : (front answers : List RawFrame) → Amid → Core → Type 0
Answers front answers a c = c.over ≡ false → front ++ filter is_answer c.out.queue ≡ answers

-- a frame that is put behind the queue
pushed_by : (b : Bool) (front queue : List RawFrame) (f : RawFrame) → is_answer f ≡ b
    → front ++ filter is_answer (queue ++ f ∷ []) ≡ (front ++ filter is_answer queue) ++ cond b (f ∷ []) []
pushed_by b front queue f test =
    ap (λ (fs : List RawFrame). front ++ fs) (filter-append is_answer queue (f ∷ []))
    ∙ ap (λ b. front ++ (filter is_answer queue ++ cond b (f ∷ []) [])) test
    ∙ sym (append_assoc front (filter is_answer queue) (cond b (f ∷ []) []))

pushed : (front answers queue : List RawFrame) (f : RawFrame) → is_answer f ≡ false → front ++ filter is_answer queue ≡ answers
    → front ++ filter is_answer (queue ++ f ∷ []) ≡ answers
pushed front answers queue f none is = pushed_by false front queue f none ∙ append-nil (front ++ filter is_answer queue) ∙ is

one_more : (front answers queue : List RawFrame) (f : RawFrame) → is_answer f ≡ true → front ++ filter is_answer queue ≡ answers
    → front ++ filter is_answer (queue ++ f ∷ []) ≡ answers ++ f ∷ []
one_more front answers queue f one is =
    pushed_by true front queue f one ∙ ap (λ (fs : List RawFrame). fs ++ f ∷ []) is

module _ (front answers : List RawFrame) where
  fault_by : (c : Core) (code : ℕ) → Answers front answers calm (faulted c code).core
  unfolding faulted
  fault_by c code = λ still. absurd (false≢true (sym still))

  released_by : (s : ℕ) (c : Core) (b : Bool) → Answers front answers (amid false s) c
      → Answers front answers calm (cond b c (record c { flow = closed c.flow s; owed = owed_closed c.owed s }))
  released_by s c true h = h
  released_by s c false h = h

  put_by : (c : Core) (s n : ℕ) (bytes : List ℕ) (b : Bool) → Answers front answers calm c
      → Answers front answers calm (cond b c (sent (record c { flow = spent c.flow s n }) (frame data_kind 0 s (take n bytes))))
  put_by c s n bytes true h = h
  put_by c s n bytes false h = λ still. pushed front answers c.out.queue (frame data_kind 0 s (take n bytes)) refl (h still)

  answers_keep : Keeps (Answers front answers)
  answers_keep = record {
    ends = λ s c h. h;
    goes = λ s c h. h;
    other = λ a c e b p t h. h;
    sends = λ a c f plain h. λ still. pushed front answers c.out.queue f plain.1 (h still);
    owes = λ a c m keeps h. h;
    moves = λ b s c t on h. h;
    withdraws = λ s c h. λ still. ap (λ (fs : List RawFrame). front ++ fs) (kept_answers (Some s) c.out.queue) ∙ h still;
    releases = λ s c h. released_by s c (is_active c.streams s) h;
    leaves = λ s c none h. h;
    takes_in = λ a c m taking may h. h;
    begins = λ s c sides m above becomes h. h;
    faults = λ a c f code h. fault_by (record c { flow = f }) code;
  }

  answers_put : Puts (Answers front answers)
  answers_put c s bytes h = put_by c s (count_put c s bytes) bytes (count_put c s bytes == 0) h

  answers_grow : (c : Core) (s n : ℕ) → Answers front answers calm c → Grows (Answers front answers) c s n
  answers_grow c s n h = record {
    fault = λ code. fault_by c code;
    whole = λ zero fits. h;
    one = λ some w is fits. h;
    broken = λ some live. h;
    ignored = λ some live why. h;
  }

  -- a frame that gets no answer
  handled_keep : (c : Core) (g : Glance) (bytes : List ℕ) (new : Core) (told : Found) → is_settings g ≡ false → is_ping g ≡ false
      → Answers front answers calm c → Handles c g bytes new told → Answers front answers calm new
  handled_keep c g bytes new told none other h is =
      handles_keep (Answers front answers) answers_keep c g bytes new told h
      (λ s n e. window_keeps (Answers front answers) answers_keep c s n (answers_grow c s n h))
      (λ ack e does. absurd (false≢true (sym none ∙ ap is_settings e)))
      (λ ack value e. absurd (false≢true (sym other ∙ ap is_ping e))) is

  no_more : (c : Core) → Answers front answers calm c → Answers front (answers ++ []) calm c
  no_more c h = λ still. h still ∙ sym (append-nil answers)

-- SETTINGS without ACK

-- the settings of a frame leave the output
abbrev SameOut : Core → Core → Type 0
SameOut c new = (new.out ≡ c.out) × (new.over ≡ c.over)

noted_by : (c : Core) (s : ℕ × ℕ) (a b : Bool)
    → SameOut c (cond a (record c { peer = record c.peer { streams = s.1 } })
    (cond b (record c { peer = record c.peer { frame_size = s.1 } }) c))
noted_by c s true b = (refl, refl)
noted_by c s false true = (refl, refl)
noted_by c s false false = (refl, refl)

one_out : (c mid : Core) (s : ℕ × ℕ) (b : Bool) → AppliesBy b c s mid true → SameOut c mid
one_out c mid s true is = (ap (λ (d : Core). d.out) is.2, ap (λ (d : Core). d.over) is.2)
one_out c mid s false is =
    let noted = noted_by c s (s.0 == max_concurrent_streams) (s.0 == max_frame_size) in
    (ap (λ (d : Core). d.out) is.0 ∙ noted.0, ap (λ (d : Core). d.over) is.0 ∙ noted.1)

all_out : (pairs : List (ℕ × ℕ)) (c new : Core) → AppliesAll c pairs new true → SameOut c new
all_out [] c new is = (ap (λ (d : Core). d.out) is.0, ap (λ (d : Core). d.over) is.0)
all_out (s ∷ more) c new is = by is.1 is.2 (all_out more is.0 new) is.3
  where
    by : (ok : Bool) → AppliesBy (s.0 == initial_window_size) c s is.0 ok → (AppliesAll is.0 more new true → SameOut is.0 new)
        → Then ok (AppliesAll is.0 more new true) ((new ≡ is.0) × (true ≡ false)) → SameOut c new
    by true one later rest =
        let first = one_out c is.0 s (s.0 == initial_window_size) one in
        let last = later rest in
        (last.0 ∙ first.0, last.1 ∙ first.1)
    by false one later rest = absurd (false≢true (sym rest.1))

-- what SETTINGS get, and what a PING gets, with ACK and without
abbrev acked : Bool → List RawFrame
acked ack = cond ack [] (settings_ack ∷ [])

abbrev echoed : Bool → ℕ → List RawFrame
echoed ack value = cond ack [] (ping_ack value ∷ [])

module _ (front answers : List RawFrame) where
  -- so many answers more
  abbrev AnswersWith : List RawFrame → Core → Type 0
  AnswersWith fs new = Answers front (answers ++ fs) calm new

  told_fault : (fs : List RawFrame) (c new : Core) (code : ℕ) (told : Found) → Gives (faulted c code) new told → AnswersWith fs new
  told_fault fs c new code told is = subst (AnswersWith fs) (sym is.0) (fault_by front (answers ++ fs) c code)

  settles_by : (c mid new : Core) (pairs : List (ℕ × ℕ)) (fits : Bool) (told : Found) → Answers front answers calm c
      → AppliesAll c pairs mid fits → Gives (applied mid fits) new told → AnswersWith (settings_ack ∷ []) new
  settles_by c mid new pairs true told h all is = λ still.
      let same = all_out pairs c mid all in
      let old = h (sym same.1 ∙ sym (ap (λ (d : Core). d.over) is.0) ∙ still) in
      ap (λ (d : Core). front ++ filter is_answer d.out.queue) is.0
      ∙ ap (λ (w : Waiting). front ++ filter is_answer (w.queue ++ settings_ack ∷ [])) same.0
      ∙ one_more front answers c.out.queue settings_ack refl old
  settles_by c mid new pairs false told h all is = told_fault (settings_ack ∷ []) mid new 3 told is

  settled_by : (b : Bool) (c : Core) (pairs : List (ℕ × ℕ)) (new : Core) (told : Found) → Answers front answers calm c
      → SettlesBy b c pairs new told → AnswersWith (settings_ack ∷ []) new
  settled_by true c pairs new told h is = told_fault (settings_ack ∷ []) c new protocol_error told is
  settled_by false c pairs new told h is = settles_by c is.0 new pairs is.1 told h is.2 is.3

  settings_by : (ack : Bool) (c : Core) (payload : List ℕ) (new : Core) (told : Found) → Answers front answers calm c
      → DoesSettings ack c payload new told → AnswersWith (acked ack) new
  settings_by true c payload new told h is = subst (AnswersWith []) (sym is.0) (no_more front answers c h)
  settings_by false c payload new told h is =
      settled_by (allows_push c.streams.role (settings payload)) c (settings payload) new told h is

  settings_handled : (b ack : Bool) (c : Core) (payload : List ℕ) (new : Core) (told : Found) → Answers front answers calm c
      → HandlesBy b c (glance.Settings ack) payload new told → AnswersWith (acked ack) new
  settings_handled true ack c payload new told h is = told_fault (acked ack) c new protocol_error told is
  settings_handled false ack c payload new told h is = settings_by ack c payload new told h is

  -- PING

  ping_by : (ack : Bool) (value : ℕ) (c new : Core) (told : Found) → Answers front answers calm c
      → Gives (on_ping c ack value) new told → AnswersWith (echoed ack value) new
  ping_by true value c new told h is = subst (AnswersWith []) (sym is.0) (no_more front answers c h)
  ping_by false value c new told h is =
      subst (AnswersWith (ping_ack value ∷ [])) (sym is.0) (λ still. one_more front answers c.out.queue (ping_ack value) refl (h still))

  ping_handled : (b ack : Bool) (value : ℕ) (c : Core) (bytes : List ℕ) (new : Core) (told : Found) → Answers front answers calm c
      → HandlesBy b c (glance.Ping ack value) bytes new told → AnswersWith (echoed ack value) new
  ping_handled true ack value c bytes new told h is = told_fault (echoed ack value) c new protocol_error told is
  ping_handled false ack value c bytes new told h is = ping_by ack value c new told h is

  -- one frame

  answer_by : (ack a b : Bool) (value : ℕ) → cond ack [] (cond a (settings_ack ∷ []) (cond b (ping_ack value ∷ []) []))
      ≡ cond a (acked ack) (cond b (echoed ack value) [])
  answer_by true true b value = refl
  answer_by true false true value = refl
  answer_by true false false value = refl
  answer_by false a b value = refl

  frame_by : (c : Core) (f : RawFrame) (a b : Bool) → (f.kind == settings_kind) ≡ a → (f.kind == ping_kind) ≡ b → (new : Core)
      (told : Found) → Answers front answers calm c → Handles c (glance_at f) (lent_of f) new told
      → AnswersWith (cond a (acked (is_ack f)) (cond b (echoed (is_ack f) (ping_value f)) [])) new
  frame_by c f true b test other new told h is =
      let seen = settings_are f test in
      settings_handled (is_misplaced c (glance.Settings (is_ack f))) (is_ack f) c f.payload new told h
      (subst (λ (xs : List ℕ). Handles c (glance.Settings (is_ack f)) xs new told) seen.1
      (subst (λ (g : Glance). Handles c g (lent_of f) new told) seen.0 is))
  frame_by c f false true test other new told h is =
      ping_handled (is_misplaced c (glance.Ping (is_ack f) (ping_value f))) (is_ack f) (ping_value f) c (lent_of f) new told h
      (subst (λ (g : Glance). Handles c g (lent_of f) new told) (ping_is f other) is)
  frame_by c f false false test other new told h is =
      no_more front answers new
      (handled_keep front answers c (glance_at f) (lent_of f) new told (no_settings f test) (no_ping f other) h is)

  frame_answered : (c : Core) (f : RawFrame) (new : Core) (told : Found) → Answers front answers calm c
      → Handles c (glance_at f) (lent_of f) new told → AnswersWith (answer_to f) new
  frame_answered c f new told h is =
      subst (λ (fs : List RawFrame). AnswersWith fs new)
      (sym (answer_by (is_ack f) (f.kind == settings_kind) (f.kind == ping_kind) (ping_value f)))
      (frame_by c f (f.kind == settings_kind) (f.kind == ping_kind) refl refl new told h is)

-- of the frames that came each is answered, by frames that have begun or wait
abbrev pub AllAnswered : (frames begun : List RawFrame) → Core → Type 0
AllAnswered frames begun c = Answers (filter is_answer begun) (flat_map answer_to frames) calm c

none_more : (frames begun : List RawFrame) (c : Core) → AllAnswered frames begun c → AllAnswered (frames ++ []) (begun ++ []) c
none_more frames begun c h =
    subst (λ (fs : List RawFrame). AllAnswered fs (begun ++ []) c) (sym (append-nil frames))
    (subst (λ (fs : List RawFrame). AllAnswered frames fs c) (sym (append-nil begun)) h)

one_got : (frames begun : List RawFrame) (c new : Core) (f : RawFrame) (told : Found) → AllAnswered frames begun c
    → Handles c (glance_at f) (lent_of f) new told → AllAnswered (frames ++ f ∷ []) (begun ++ []) new
one_got frames begun c new f told h is =
    let front = filter is_answer begun in
    let answers = flat_map answer_to frames in
    let last : flat_map answer_to (f ∷ []) ≡ answer_to f = append-nil (answer_to f) in
    subst (λ (fs : List RawFrame). AllAnswered (frames ++ f ∷ []) fs new) (sym (append-nil begun))
    (subst (λ (fs : List RawFrame). Answers front fs calm new)
    (sym (flat_map-append answer_to frames (f ∷ []) ∙ ap (λ (fs : List RawFrame). answers ++ fs) last))
    (frame_answered front answers c f new told h is))

acts : (frames begun : List RawFrame) (c : Core) (m : Move) (new : Core) (told : Found) → IsAct m → AllAnswered frames begun c
    → After c m new told → AllAnswered (frames ++ []) (begun ++ []) new
acts frames begun c m new told act h is =
    let front = filter is_answer begun in
    let answers = flat_map answer_to frames in
    none_more frames begun new
    (act_keeps (Answers front answers) (answers_keep front answers) c
    (λ s bytes. answers_put front answers c s bytes h) m new told act h is)

-- a frame that begins leaves the queue in front
written_by : (frames begun : List RawFrame) (c : Core) (n : ℕ) → AllAnswered frames begun c
    → AllAnswered frames (begun ++ begun_by n c.out) (record c { out = written n c.out })
written_by frames begun c n h = λ still.
    let front = filter is_answer begun in
    let new = begun_by n c.out in
    let left = drop (length new) c.out.queue in
    ap (λ (fs : List RawFrame). fs ++ filter is_answer left) (filter-append is_answer begun new)
    ∙ append_assoc front (filter is_answer new) (filter is_answer left)
    ∙ ap (λ (fs : List RawFrame). front ++ fs)
    (sym (filter-append is_answer new left) ∙ ap (filter is_answer) (begun_and_left (n - length c.out.rest) c.out.queue))
    ∙ h still

-- one move
pub answered_moves : (frames begun : List RawFrame) (c : Core) (m : Move) (new : Core) (told : Found) → AllAnswered frames begun c
    → After c m new told → AllAnswered (frames ++ got_by (point m told)) (begun ++ begins_by c m) new
answered_moves frames begun c (got f) new told h is = one_got frames begun c new f told h is.1
answered_moves frames begun c (refused r kind flags) new told h is =
    none_more frames begun new
    (handled_keep (filter is_answer begun) (flat_map answer_to frames) c
    (glance.Refused r.code r.row kind flags) [] new told refl refl h is.1)
answered_moves frames begun c misbegan new told h is =
    none_more frames begun new (subst (AllAnswered frames begun) (sym is.1.0)
    (fault_by (filter is_answer begun) (flat_map answer_to frames) c protocol_error))
answered_moves frames begun c (opened s headers end) new told h is = acts frames begun c (opened s headers end) new told tt h is
answered_moves frames begun c (answered s status) new told h is = acts frames begun c (answered s status) new told tt h is
answered_moves frames begun c (ended s) new told h is = acts frames begun c (ended s) new told tt h is
answered_moves frames begun c (reset s code) new told h is = acts frames begun c (reset s code) new told tt h is
answered_moves frames begun c (credited s n) new told h is = acts frames begun c (credited s n) new told tt h is
answered_moves frames begun c (puts s bytes) new told h is = acts frames begun c (puts s bytes) new told tt h is
answered_moves frames begun c (wrote n) new told h is =
    let begins = begun ++ begun_by n c.out in
    let front = filter is_answer begins in
    let answers = flat_map answer_to frames in
    subst (λ (fs : List RawFrame). AllAnswered fs begins new) (sym (append-nil frames))
    (subst (AllAnswered frames begins) (sym is.1.0)
    (kept.payment_keeps (Answers front answers) (answers_keep front answers) calm (record c { out = written n c.out })
    (written_by frames begun c n h)))

-- all moves
answered_runs : (points : List Point) (frames begun begins : List RawFrame) (c new : Core) → AllAnswered frames begun c
    → RunsWith c points begins new → AllAnswered (frames ++ frames_got points) (begun ++ begins) new
answered_runs [] frames begun begins c new h is =
    subst (λ (fs : List RawFrame). AllAnswered (frames ++ []) (begun ++ fs) new) (sym is.1)
    (none_more frames begun new (subst (AllAnswered frames begun) (sym is.0) h))
answered_runs (p ∷ ps) frames begun begins c new h is =
    subst (λ (fs : List RawFrame). AllAnswered fs (begun ++ begins) new) (append_assoc frames (got_by p) (frames_got ps))
    (subst (λ (fs : List RawFrame). AllAnswered ((frames ++ got_by p) ++ frames_got ps) fs new)
    (append_assoc begun (begins_by c p.move) is.2 ∙ ap (λ (fs : List RawFrame). begun ++ fs) (sym is.3))
    (answered_runs ps (frames ++ got_by p) (begun ++ begins_by c p.move) is.2 is.0 new
    (answered_moves frames begun c p.move is.0 p.told h is.1) is.4))

pub answered_new : (role : Role) → AllAnswered [] [] (fresh role).receiver.core
answered_new Server = λ still. refl
answered_new Client = λ still. refl

pub answers_are_those : AnswersAreThose
answers_are_those role points given came written c stands still =
    filter-append is_answer stands.begun c.receiver.core.out.queue
    ∙ answered_runs points [] [] stands.begun (fresh role).receiver.core c.receiver.core (answered_new role) stands.begins still

-- the octets of a PING

eight : (bytes : List ℕ) → length bytes ≡ 8
    → bytes ≡ slice_index bytes 0 ∷ slice_index bytes 1 ∷ slice_index bytes 2 ∷ slice_index bytes 3 ∷ slice_index bytes 4
    ∷ slice_index bytes 5 ∷ slice_index bytes 6 ∷ slice_index bytes 7 ∷ []
eight [] h = absurd (omega (arith, h))
eight (a ∷ []) h = absurd (omega (arith, h))
eight (a ∷ b ∷ []) h = absurd (omega (arith, h))
eight (a ∷ b ∷ c ∷ []) h = absurd (omega (arith, h))
eight (a ∷ b ∷ c ∷ d ∷ []) h = absurd (omega (arith, h))
eight (a ∷ b ∷ c ∷ d ∷ e ∷ []) h = absurd (omega (arith, h))
eight (a ∷ b ∷ c ∷ d ∷ e ∷ f ∷ []) h = absurd (omega (arith, h))
eight (a ∷ b ∷ c ∷ d ∷ e ∷ f ∷ g ∷ []) h = absurd (omega (arith, h))
eight (a ∷ b ∷ c ∷ d ∷ e ∷ f ∷ g ∷ i ∷ []) h = refl
eight (a ∷ b ∷ c ∷ d ∷ e ∷ f ∷ g ∷ i ∷ j ∷ rest) h = absurd (omega (arith, h))

four_is : (bytes : List ℕ) (i : ℕ) → AreOctets bytes
    → four (four_at bytes i) ≡ slice_index bytes i ∷ slice_index bytes (i + 1) ∷ slice_index bytes (i + 2) ∷ slice_index bytes (i + 3) ∷ []
four_is bytes i octets = four_digits _ _ _ _ (octets i) (octets (i + 1)) (octets (i + 2)) (octets (i + 3))

high : (a b : ℕ) → b < 4294967296 → (a * 4294967296 + b) / 4294967296 ≡ a
high a b small = omega (arith, small)

low : (a b : ℕ) → b < 4294967296 → (a * 4294967296 + b) % 4294967296 ≡ b
low a b small = omega (arith, small)

payload_is : (bytes : List ℕ) → AreOctets bytes → length bytes ≡ 8
    → let value = four_at bytes 0 * 4294967296 + four_at bytes 4 in word (value / 4294967296) ++ word (value % 4294967296) ≡ bytes
unfolding word
payload_is bytes octets len =
    let small : four_at bytes 4 < 4294967296 = omega (arith, octets 4, octets 5, octets 6, octets 7) in
    ap (λ (n : ℕ). four n ++ word ((four_at bytes 0 * 4294967296 + four_at bytes 4) % 4294967296))
    (high (four_at bytes 0) (four_at bytes 4) small)
    ∙ ap (λ (n : ℕ). four (four_at bytes 0) ++ four n) (low (four_at bytes 0) (four_at bytes 4) small)
    ∙ ap (λ (xs : List ℕ). xs ++ four (four_at bytes 4)) (four_is bytes 0 octets)
    ∙ ap (λ (xs : List ℕ). (slice_index bytes 0 ∷ slice_index bytes 1 ∷ slice_index bytes 2 ∷ slice_index bytes 3 ∷ []) ++ xs)
    (four_is bytes 4 octets)
    ∙ sym (eight bytes len)

pub pings_are_echoed : PingsAreEchoed
pings_are_echoed f kind plain octets len =
    ap (λ b. cond b [] (cond (f.kind == settings_kind) (settings_ack ∷ []) (cond (f.kind == ping_kind) (ping_ack (ping_value f) ∷ []) [])))
    plain
    ∙ ap (λ k. cond (k == settings_kind) (settings_ack ∷ []) (cond (k == ping_kind) (ping_ack (ping_value f) ∷ []) [])) kind
    ∙ ap (λ (xs : List ℕ). frame ping_kind 1 0 xs ∷ []) (payload_is f.payload octets len)
