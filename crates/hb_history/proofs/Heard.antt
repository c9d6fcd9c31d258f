-- What is told of frames of a client's stream.
use Rattle.std.proofs.Common.{◌≡◌, ℕ, ◌+◌, ◌==◌, ◌&&◌, ◌||◌, not, Bool, true, false, cond, fold, List, [], ◌∷◌, ◌++◌, length, Option, Some, None, Result, Ok, Err, refl, ap, sym, ◌∙◌, subst, arith}
use Rattle.std.specs.Prelude.{nat_lt}
use Rattle.std.specs.List.{list_any}
use Rattle.std.proofs.lemmas.Bool.{false≢true}
use Rattle.std.proofs.lemmas.Bool.Decides.{nat_tests}
use Rattle.std.proofs.lemmas.List.Concat.{flat_map-append}
use Rattle.std.proofs.lemmas.List.Folds.{list_any-append}
use Rattle.std.proofs.lemmas.List.Sums.{fold-append}
use Rattle.hb_blocks.specs.Assembly.{complete, too_long, longest_block}
use Rattle.hb_blocks.specs.Outcome.{Makes}
use Rattle.hb_blocks.specs.declared.fault.BlockFault.{BlockFault}
use Rattle.hb_blocks.specs.declared.whole.Whole.{Whole}
use Rattle.hb_conn.specs.Data.{used, data_goes, data_answered, is_of_idle, on_data}
use Rattle.hb_conn.specs.Faults.{faulted as fault_of}
use Rattle.hb_conn.specs.Glance.{glance_at, has_flag}
use Rattle.hb_conn.specs.Handling.{HandlesBy, Handles}
use Rattle.hb_conn.specs.Headers.{headers_answered, block_told, with_memory}
use Rattle.hb_frames.specs.Numbers.{protocol_error, flow_control_error, data_kind, headers_kind, rst_stream_kind, end_stream_flag, end_headers_flag}
use Rattle.hb_conn.specs.Outcome.{Outcome, Gives}
use Rattle.hb_conn.specs.Resets.{reset_answered, on_reset}
use Rattle.hb_conn.specs.declared.found.Found.{Found}
use Rattle.hb_conn.specs.declared.found.Found.TheVariants as found
use Rattle.hb_conn.specs.declared.glance.Glance.{Glance}
use Rattle.hb_conn.specs.declared.glance.Glance.TheVariants as glance
use Rattle.hb_conn.specs.declared.machine.Core.{Core}
use Rattle.hb_flow.specs.Windows.{Windows}
use Rattle.hb_frames.specs.Bodies.{lent_of}
use Rattle.hb_frames.specs.Octets.{four_at}
use Rattle.hb_frames.specs.RawFrame.{RawFrame}
use Rattle.hb_history.proofs.Alone.{IsAlone, IsPeerOpen}
use Rattle.hb_history.proofs.Glanced.{data_are, headers_are, reset_is}
use Rattle.hb_history.proofs.Runs.{begins_split}
use Rattle.hb_history.proofs.Stages.{At, all_at}
use Rattle.hb_history.specs.Heard.{is_heard, ends_stream, FramesAreHeard, NoneEndedIt}
use Rattle.hb_history.specs.History.{fresh, StandsFor, told_of, happenings}
use Rattle.hb_history.specs.OwnCredits.{kept, is_left}
use Rattle.hb_history.specs.OwnFrames.{first_stream, Stage, begins, asks, faulted, cut, strays, stage_after, stage}
use Rattle.hb_history.specs.Points.{Move, got, refused, misbegan, opened, answered, ended, reset, credited, put, wrote, Point, point, After, RunsWith, frames_got}
use Rattle.hb_streams.specs.Answers.{headers_answer, data_answer, control_answer, answer_of}
use Rattle.hb_streams.specs.Sides.{sides_of}
use Rattle.hb_streams.specs.States.{state_of, is_full}
use Rattle.hb_streams.specs.declared.fault.StreamFault.{StreamFault}
use Rattle.hb_streams.specs.declared.role.Role.{Role}
use Rattle.hb_streams.specs.declared.role.Role.TheVariants.{Client}
use Rattle.hb_streams.specs.declared.state.State.{State}
use Rattle.hb_streams.specs.declared.state.State.TheVariants as state
use Rattle.hb_streams.specs.declared.step.Step.{Step}
use Rattle.hb_streams.specs.declared.step.Step.TheVariants as step

-- anything is told, and where `end` is true it is that the stream ended, or an error
abbrev says : Bool → Found → Bool
says end (found.Opened s e) = e || not end
says end (found.Chunk s e) = e || not end
says end found.Silent = false
says end (found.GoneAway last) = not end
says end _ = true

says_same : (end : Bool) → (end || not end) ≡ true
says_same true = refl
says_same false = refl

-- what frames are answered on a stream that the peer hasn't ended
control_by : (st : State) → (sides_of st).peer ≡ true → control_answer st ≡ Ok step.Goes
control_by state.Idle peer = absurd (false≢true peer)
control_by state.Open peer = refl
control_by state.HalfClosedLocal peer = refl
control_by state.HalfClosedRemote peer = absurd (false≢true peer)
control_by state.Closed peer = absurd (false≢true peer)
control_by state.Reset peer = absurd (false≢true peer)

data_by : (st : State) → (sides_of st).peer ≡ true → data_answer first_stream st ≡ Ok step.Goes
data_by state.Idle peer = absurd (false≢true peer)
data_by state.Open peer = refl
data_by state.HalfClosedLocal peer = refl
data_by state.HalfClosedRemote peer = absurd (false≢true peer)
data_by state.Closed peer = absurd (false≢true peer)
data_by state.Reset peer = absurd (false≢true peer)

headers_by : (full : Bool) (st : State) → (sides_of st).peer ≡ true → headers_answer Client full first_stream st ≡ Ok step.Goes
headers_by full state.Idle peer = absurd (false≢true peer)
headers_by full state.Open peer = refl
headers_by full state.HalfClosedLocal peer = refl
headers_by full state.HalfClosedRemote peer = absurd (false≢true peer)
headers_by full state.Closed peer = absurd (false≢true peer)
headers_by full state.Reset peer = absurd (false≢true peer)

-- an outcome that says so
abbrev Says : Bool → Outcome → Type 0
Says end o = says end o.found ≡ true

fault_says : (end : Bool) (c : Core) (code : ℕ) → Says end (fault_of c code)
unfolding fault_of
fault_says end c code = refl

either : (p : Bool) (end : Bool) (o q : Outcome) → Says end o → Says end q → Says end (cond p o q)
either true end o q first second = first
either false end o q first second = second

given : (end : Bool) (o : Outcome) (new : Core) (told : Found) → Says end o → Gives o new told → says end told ≡ true
given end o new told h is = ap (says end) is.1 ∙ h

module _ (c : Core) (alone : IsAlone c.streams) (peer : IsPeerOpen c.streams) where
  reset_says : (end : Bool) (code : ℕ) → Says end (on_reset c first_stream code)
  reset_says end code = ap (λ r. says end (reset_answered c first_stream code r).found) (control_by (state_of c.streams first_stream) peer)

  goes_says : (d : Core) (n size : ℕ) (end : Bool) (o : Option Windows) → Says end (data_goes d first_stream n size end o)
  goes_says d n size end None = says_same end
  goes_says d n size end (Some w) = either (nat_lt w.taking.granted n) end _ _ refl (says_same end)

  data_says : (n size : ℕ) (end : Bool) → Says end (on_data c first_stream n size end)
  data_says n size end =
      let r = answer_of c.streams data_kind first_stream in
      either (is_of_idle r) end _ _ (fault_says end c protocol_error)
      (either (nat_lt c.flow.taking.granted n) end _ _ (fault_says end c flow_control_error)
      (subst (λ (x : Result Step StreamFault). Says end (data_answered (used c n) first_stream n size end x))
      (sym (data_by (state_of c.streams first_stream) peer)) (goes_says (used c n) n size end _)))

  whole_says : (blocks : _) (end : Bool)
      → Says end (block_told (record c { blocks = blocks }) (Ok (Some (record { stream = first_stream; end_stream = end }))))
  whole_says blocks end =
      let d = record c { blocks = blocks } in
      let goes : answer_of c.streams headers_kind first_stream ≡ Ok step.Goes =
      ap (λ (role : Role). headers_answer role (is_full c.streams) first_stream (state_of c.streams first_stream)) alone.0
      ∙ headers_by (is_full c.streams) (state_of c.streams first_stream) peer in
      ap (λ r. says end (headers_answered d first_stream end r).found) goes ∙ says_same end

  -- a header block that is whole
  block_says : (blocks : _) (end : Bool) (bytes : List ℕ) (long : Bool) (told : Result (Option Whole) BlockFault)
      → Makes (cond long too_long (complete (record { stream = first_stream; end_stream = end }) bytes)) c.blocks blocks (with_memory told)
      → Says end (block_told (record c { blocks = blocks }) told)
  block_says blocks end bytes long (Err why) makes = fault_says end (record c { blocks = blocks }) _
  block_says blocks end bytes true (Ok None) makes = absurd makes
  block_says blocks end bytes false (Ok None) makes = absurd makes
  block_says blocks end bytes true (Ok (Some whole)) makes = absurd makes
  block_says blocks end bytes false (Ok (Some whole)) makes =
      subst (λ (w : Whole). Says end (block_told (record c { blocks = blocks }) (Ok (Some w)))) (sym makes.0) (whole_says blocks end)

  -- each of the three types in its place or not
  reset_told : (b end : Bool) (code : ℕ) (bytes : List ℕ) (new : Core) (told : Found)
      → HandlesBy b c (glance.Reset first_stream code) bytes new told → says end told ≡ true
  reset_told true end code bytes new told is = given end _ new told (fault_says end c protocol_error) is
  reset_told false end code bytes new told is = given end _ new told (reset_says end code) is

  data_told : (b : Bool) (n : ℕ) (end : Bool) (bytes : List ℕ) (new : Core) (told : Found)
      → HandlesBy b c (glance.Data first_stream n end) bytes new told → says end told ≡ true
  data_told true n end bytes new told is = given end _ new told (fault_says end c protocol_error) is
  data_told false n end bytes new told is = given end _ new told (data_says n (length bytes) end) is

  headers_told : (b end : Bool) (bytes : List ℕ) (new : Core) (told : Found)
      → HandlesBy b c (glance.Headers first_stream end true) bytes new told → says end told ≡ true
  headers_told true end bytes new told is = given end _ new told (fault_says end c protocol_error) is
  headers_told false end bytes new told is =
      let none : List ℕ = [] in
      given end _ new told (block_says is.0 end bytes (nat_lt longest_block (length none + length bytes)) is.1 is.2) is.3

  -- of a frame of the stream
  frame_told : (f : RawFrame) (new : Core) (told : Found) (r d h w : Bool)
      → (f.kind == rst_stream_kind) ≡ r → (f.kind == data_kind) ≡ d → (f.kind == headers_kind) ≡ h → has_flag f end_headers_flag ≡ w
      → f.stream ≡ first_stream → (r || d || h && w) ≡ true → Handles c (glance_at f) (lent_of f) new told
      → says (r || has_flag f end_stream_flag) told ≡ true
  frame_told f new told true d h w is_reset is_data is_headers whole same some is =
      reset_told _ true (four_at f.payload 0) (lent_of f) new told
      (subst (λ (x : Glance). Handles c x (lent_of f) new told)
      (reset_is f is_reset ∙ ap (λ s. glance.Reset s (four_at f.payload 0)) same) is)
  frame_told f new told false true h w is_reset is_data is_headers whole same some is =
      let end = has_flag f end_stream_flag in
      data_told _ (length f.payload) end (lent_of f) new told
      (subst (λ (x : Glance). Handles c x (lent_of f) new told)
      ((data_are f is_data).0 ∙ ap (λ s. glance.Data s (length f.payload) end) same) is)
  frame_told f new told false false true true is_reset is_data is_headers whole same some is =
      let end = has_flag f end_stream_flag in
      headers_told _ end (lent_of f) new told
      (subst (λ (x : Glance). Handles c x (lent_of f) new told)
      (headers_are f is_headers ∙ ap (λ s. glance.Headers s end (has_flag f end_headers_flag)) same
      ∙ ap (glance.Headers first_stream end) whole) is)
  frame_told f new told false false true false is_reset is_data is_headers whole same some is = absurd (false≢true some)
  frame_told f new told false false false w is_reset is_data is_headers whole same some is = absurd (false≢true some)

-- tests that hold together
both_hold : (p q : Bool) → (p && q) ≡ true → (p ≡ true) × (q ≡ true)
both_hold true true is = (refl, refl)
both_hold true false is = absurd (false≢true is)
both_hold false q is = absurd (false≢true is)

neither : (p q : Bool) → (p || q) ≡ false → (p ≡ false) × (q ≡ false)
neither true q is = absurd (false≢true (sym is))
neither false q is = (refl, is)

heard_told : (c : Core) (f : RawFrame) (new : Core) (told : Found) → IsAlone c.streams → IsPeerOpen c.streams → is_heard f ≡ true
    → After c (got f) new told → says (f.kind == rst_stream_kind || has_flag f end_stream_flag) told ≡ true
heard_told c f new told alone peer is after =
    let tests = both_hold (f.stream == first_stream) _ is in
    frame_told c alone peer f new told _ _ _ _ refl refl refl refl (grind (arith, nat_tests, tests.0)) tests.1 after.1

-- the connection in front of a place of its history
record AtPlace (f : RawFrame) (told : Found) : Type 0 where
  pub core : Core
  pub new : Core
  pub alone : IsAlone core.streams
  pub peer : IsPeerOpen core.streams
  pub after : After core (got f) new told

at_place : (points : List Point) (given : List Found) (came written : List ℕ) (c : _)
    → StandsFor Client points given came written c → (before after : List Point) (f : RawFrame) (told : Found)
    → points ≡ before ++ point (got f) told ∷ after → stage before ≡ asks → list_any is_left (happenings before) ≡ false
    → AtPlace f told
at_place points given came written c stands before after f told are asking unended =
    let s = begins_split before (point (got f) told ∷ after) (fresh Client).receiver.core c.receiver.core stands.begun
    (subst (λ (ps : List Point). RunsWith (fresh Client).receiver.core ps stands.begun c.receiver.core) are stands.begins) in
    let goes = subst (λ (st : Stage). At (happenings before) (frames_got before) (kept before) st s.front s.mid) asking
    (all_at before s.front s.mid s.leads) in
    record { core = s.mid; new = s.goes_on.0; alone = goes.0; peer = (goes.3.1.soon unended).0; after = s.goes_on.1 }

silent_says : (end : Bool) → says end found.Silent ≡ true → ⊥
silent_says end is = false≢true is

none_true : (b : Bool) → (b ≡ true → ⊥) → b ≡ false
none_true true never = absurd (never refl)
none_true false never = refl

pub frames_are_heard : FramesAreHeard
frames_are_heard points given came written c stands before after f are asking unended =
    none_true (is_heard f) (λ heard.
    let at = at_place points given came written c stands before after f found.Silent are asking unended in
    silent_says (f.kind == rst_stream_kind || has_flag f end_stream_flag)
    (heard_told at.core f at.new found.Silent at.alone at.peer heard at.after))

-- a stage at which the stream goes on isn't come back to
abbrev goes : Stage → Bool
goes begins = true
goes asks = true
goes _ = false

moved_over : (m : Move) (t : Found) → goes (stage_after faulted (point m t)) ≡ false
moved_over (wrote n) t = refl
moved_over _ t = refl

over_next : (s : Stage) (p : Point) → goes s ≡ false → goes (stage_after s p) ≡ false
over_next begins p is = absurd (false≢true (sym is))
over_next asks p is = absurd (false≢true (sym is))
over_next faulted p is = moved_over p.move p.told
over_next cut p is = refl
over_next strays p is = refl

over_all : (ps : List Point) (s : Stage) → goes s ≡ false → goes (fold stage_after s ps) ≡ false
over_all [] s is = is
over_all (p ∷ ps) s is = over_all ps (stage_after s p) (over_next s p is)

never_back : (ps : List Point) (s : Stage) → goes s ≡ false → fold stage_after s ps ≡ asks → ⊥
never_back ps s is back = false≢true (sym (over_all ps s is) ∙ ap goes back)

was_asking : (s : Stage) (f : RawFrame) (t : Found) (after : List Point) → fold stage_after s (point (got f) t ∷ after) ≡ asks → s ≡ asks
was_asking begins f t after is = absurd (never_back after strays refl is)
was_asking asks f t after is = refl
was_asking faulted f t after is = absurd (never_back after strays refl is)
was_asking cut f t after is = absurd (never_back after strays refl is)
was_asking strays f t after is = absurd (never_back after strays refl is)

-- where it was told that the stream ended it doesn't go on
ended_told : (f : RawFrame) (t : Found) (after : List Point) → says true t ≡ true
    → fold stage_after asks (point (got f) t ∷ after) ≡ asks → list_any is_left (told_of (point (got f) t)) ≡ false → ⊥
ended_told f (found.Opened s true) after is back none = false≢true (sym none)
ended_told f (found.Opened s false) after is back none = false≢true is
ended_told f (found.Chunk s true) after is back none = false≢true (sym none)
ended_told f (found.Chunk s false) after is back none = false≢true is
ended_told f (found.Ended s) after is back none = false≢true (sym none)
ended_told f (found.Reset s code) after is back none = never_back after cut refl back
ended_told f (found.Broken s code) after is back none = never_back after cut refl back
ended_told f (found.Fault code) after is back none = never_back after faulted refl back
ended_told f (found.GoneAway last) after is back none = false≢true is
ended_told f found.Silent after is back none = false≢true is

-- a frame among those that came has its place
record Place (points : List Point) : Type 0 where
  pub before : List Point
  pub f : RawFrame
  pub told : Found
  pub after : List Point
  pub are : points ≡ before ++ point (got f) told ∷ after
  pub ends : ends_stream f ≡ true

behind : (p : Point) (ps : List Point) → Place ps → Place (p ∷ ps)
behind p ps at = record {
  before = p ∷ at.before;
  f = at.f;
  told = at.told;
  after = at.after;
  are = ap (λ (qs : List Point). p ∷ qs) at.are;
  ends = at.ends;
}

place : (points : List Point) → list_any ends_stream (frames_got points) ≡ true → Place points
place [] some = absurd (false≢true some)
place (p ∷ ps) some = by p.move p.told (place ps) some
  where
    first : (f : RawFrame) (t : Found) (b : Bool) → (list_any ends_stream (frames_got ps) ≡ true → Place ps) → ends_stream f ≡ b
        → (b || list_any ends_stream (frames_got ps)) ≡ true
        → Place (point (got f) t ∷ ps)
    first f t true rest is some = record { before = []; f = f; told = t; after = ps; are = refl; ends = is }
    first f t false rest is some = behind (point (got f) t) ps (rest some)

    by : (m : Move) (t : Found) → (list_any ends_stream (frames_got ps) ≡ true → Place ps)
        → list_any ends_stream (frames_got (point m t ∷ ps)) ≡ true → Place (point m t ∷ ps)
    by (got f) t rest some = first f t (ends_stream f) rest refl some
    by (refused r kind flags) t rest some = behind _ ps (rest some)
    by misbegan t rest some = behind _ ps (rest some)
    by (opened s headers end) t rest some = behind _ ps (rest some)
    by (answered s status) t rest some = behind _ ps (rest some)
    by (ended s) t rest some = behind _ ps (rest some)
    by (reset s code) t rest some = behind _ ps (rest some)
    by (credited s n) t rest some = behind _ ps (rest some)
    by (put s bytes) t rest some = behind _ ps (rest some)
    by (wrote n) t rest some = behind _ ps (rest some)

pub none_ended_it : NoneEndedIt
none_ended_it points given came written c stands asking unended =
    none_true (list_any ends_stream (frames_got points)) (λ some.
    let at = place points some in
    let p = point (got at.f) at.told in
    let back : fold stage_after (stage at.before) (p ∷ at.after) ≡ asks =
    sym (ap stage at.are ∙ fold-append stage_after begins at.before (p ∷ at.after)) ∙ asking in
    let was = was_asking (stage at.before) at.f at.told at.after back in
    let parts = neither (list_any is_left (happenings at.before)) _
    (sym (ap (λ (ps : List Point). list_any is_left (happenings ps)) at.are
    ∙ ap (list_any is_left) (flat_map-append told_of at.before (p ∷ at.after))
    ∙ list_any-append is_left (happenings at.before) (happenings (p ∷ at.after))) ∙ unended) in
    let here = neither (list_any is_left (told_of p)) _
    (sym (list_any-append is_left (told_of p) (happenings at.after)) ∙ parts.1) in
    let in_front = at_place points given came written c stands at.before at.after at.f at.told at.are was parts.0 in
    let tests = both_hold (is_heard at.f) _ at.ends in
    ended_told at.f at.told at.after
    (sym (ap (λ (b : Bool). says b at.told) tests.1)
    ∙ heard_told in_front.core at.f in_front.new at.told in_front.alone in_front.peer tests.0 in_front.after)
    (subst (λ (st : Stage). fold stage_after st (p ∷ at.after) ≡ asks) was back) here.0)
