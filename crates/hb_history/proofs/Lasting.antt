-- This end's side of a stream stays open, and DATA frames stay allowed as long as any may be, until an end is told.
use Rattle.std.proofs.Common.{◌≡◌, ◌⊎◌, inl, inr, ℕ, ◌≤◌, ◌==◌, ◌&&◌, ◌||◌, Bool, true, false, cond, List, [], ◌∷◌, Option, Some, None, is_some, Result, Ok, Err, refl, ap, sym, ◌∙◌, subst, arith}
use Rattle.std.specs.Prelude.{nat_lt, not}
use Rattle.std.specs.List.{list_any}
use Rattle.std.specs.FinMap.{get, insert}
use Rattle.std.proofs.lemmas.Bool.{cond_both, cases_eq, false≢true}
use Rattle.std.proofs.lemmas.Bool.Decides.{nat_tests}
use Rattle.hb_base.specs.declared.scope.Scope.{Scope}
use Rattle.hb_base.specs.declared.scope.Scope.TheVariants as scope
use Rattle.hb_frames.specs.RawFrame.{RawFrame, raw_at}
use Rattle.hb_frames.specs.Numbers.{data_kind, headers_kind, rst_stream_kind, settings_kind, window_update_kind}
use Rattle.hb_frames.specs.Numbers.{enable_push, max_concurrent_streams, initial_window_size, max_frame_size, protocol_error}
use Rattle.hb_frames.specs.Numbers.{flow_control_error, refused_stream}
use Rattle.hb_frames.specs.Bodies.{lent_of}
use Rattle.hb_frames.specs.Refusals.{settings, is_refused_setting, refuses, first_refusal, stream_refusal, padding_refusal, size_refusal, value_refusal, ◌else◌}
use Rattle.hb_frames.specs.Reading.{Reading, asked, after_frame, first_of}
use Rattle.hb_frames.specs.declared.refusal.Refusal.{Refusal}
use Rattle.hb_frames.proofs.Runs.{first_some}
use Rattle.hb_map.specs.Keyed.{written}
use Rattle.hb_map.proofs.Laws.{put_here, put_elsewhere, removed_elsewhere}
use Rattle.hb_streams.specs.Answers.{answer_of}
use Rattle.hb_streams.specs.States.{States}
use Rattle.hb_streams.specs.Moves.{after, receives, after_answer, peer_ended, peer_side_ended, begun, closed, refused as stream_refused}
use Rattle.hb_streams.specs.Sides.{both_open}
use Rattle.hb_streams.specs.declared.sides.Sides.{Sides}
use Rattle.hb_streams.specs.declared.step.Step.{Step}
use Rattle.hb_streams.specs.declared.step.Step.TheVariants as step
use Rattle.hb_streams.specs.declared.fault.StreamFault.{StreamFault}
use Rattle.hb_flow.specs.Windows.{Windows}
use Rattle.hb_flow.specs.Flows.{granted, granted_on, paid_on, due_on}
use Rattle.hb_blocks.specs.Assembly.{Progress}
use Rattle.hb_blocks.specs.declared.fault.BlockFault.{BlockFault}
use Rattle.hb_blocks.specs.declared.whole.Whole.{Whole}
use Rattle.hb_owed.specs.declared.due.Due.{Due}
use Rattle.hb_conn.specs.Connection.{Connection, Finds}
use Rattle.hb_conn.specs.Credit.{used_on, credit}
use Rattle.hb_conn.specs.Data.{updated, credited_on, used, padded, is_of_idle, continued, data_goes, data_answered, on_data}
use Rattle.hb_conn.specs.Faults.{faulted, is_active, released, broken, refused, refused_by}
use Rattle.hb_conn.specs.Glance.{glance_at, glance_by, glance_of}
use Rattle.hb_conn.specs.Handling.{does, Answers, HandlesBy}
use Rattle.hb_conn.specs.Headers.{headed, headers_answered, block_told, DoesBlock}
use Rattle.hb_conn.specs.Outcome.{Outcome, outcome, Gives}
use Rattle.hb_conn.specs.Owing.{put_now, put_later, goes_at_once, with_due, with_update, owed_paid}
use Rattle.hb_conn.specs.Places.{is_misplaced}
use Rattle.hb_conn.specs.Resets.{reset_answered}
use Rattle.hb_conn.specs.Settings.{noted, Resized, AppliesBy, AppliesAll, Then, applied, SettlesBy, DoesSettings}
use Rattle.hb_conn.specs.Frames.{sent, ping_ack}
use Rattle.hb_conn.specs.Windows.{connection_grows, stream_grows, stream_answered, on_window}
use Rattle.hb_conn.specs.declared.machine.Core.{Core}
use Rattle.hb_conn.specs.declared.machine.Peer.{Peer}
use Rattle.hb_conn.specs.declared.found.Found.{Found}
use Rattle.hb_conn.specs.declared.found.Found.TheVariants as found
use Rattle.hb_conn.specs.declared.glance.Glance.{Glance}
use Rattle.hb_conn.specs.declared.glance.Glance.TheVariants as glance
use Rattle.hb_history.proofs.Found.{Holds, finds_so}
use Rattle.hb_history.proofs.Glanced.{settings_are, no_settings, is_settings}

-- this end's side of the stream n is open
abbrev pub IsOpen : ℕ → States → Type 0
IsOpen n s = (sides : Sides) × (get s.active n ≡ Some sides) × (sides.own ≡ true)

-- and the peer takes frames of 16,384 octets
abbrev pub SendsBy : ℕ → States × Peer → Type 0
SendsBy n p = IsOpen n p.0 × (16384 ≤ p.1.frame_size)

abbrev pub parts : Core → States × Peer
parts c = (c.streams, c.peer)

abbrev pub Sends : ℕ → Core → Type 0
Sends n c = SendsBy n (parts c)

-- the end of a stream, or of all, that isn't the peer's end of its side
abbrev pub is_end : Found → Bool
is_end (found.Reset s code) = true
is_end (found.Broken s code) = true
is_end (found.Fault code) = true
is_end _ = false

-- what is put, owed or granted leaves streams and what the peer takes
due_parts : (c : Core) (s : ℕ) (d : Due) → parts (with_due c s d) ≡ parts c
unfolding with_due
due_parts c s d =
    cond_both (goes_at_once c s d) (put_now c s d) (put_later c s d) (λ (x : Core). parts x ≡ parts c) (λ is. refl) (λ is. refl)

update_parts : (c : Core) (s : ℕ) (o : Option ℕ) → parts (with_update c s o) ≡ parts c
update_parts c s None = refl
update_parts c s (Some n) = due_parts c s _

updated_parts : (c : Core) (o : Option ℕ) → parts (updated c o) ≡ parts c
updated_parts c None = refl
updated_parts c (Some n) = refl

pub paid_parts : (c : Core) → parts (owed_paid c) ≡ parts c
unfolding owed_paid
paid_parts c = refl

released_parts : (c : Core) (s : ℕ) → parts (released c s) ≡ parts c
released_parts c s = cond_both (is_active c.streams s) c _ (λ (x : Core). parts x ≡ parts c) (λ is. refl) (λ is. refl)

credited_parts : (c : Core) (s : ℕ) → parts (credited_on c s) ≡ parts c
credited_parts c s = update_parts (record c { flow = paid_on c.flow s }) s (due_on c.flow s)

pub credit_parts : (c : Core) (s n : ℕ) → parts (credit c s n) ≡ parts c
credit_parts c s n =
    cond_both _ (credited_on (used_on c s n) s) (used_on c s n) (λ (x : Core). parts x ≡ parts c)
    (λ is. credited_parts (used_on c s n) s) (λ is. refl)

-- of a setting that no row refuses
third_no : (a b c d : Bool) → (a || (b && (c || d))) ≡ false → b ≡ true → c ≡ false
third_no true b c d none is = absurd (false≢true (sym none))
third_no false false c d none is = absurd (false≢true is)
third_no false true true d none is = absurd (false≢true (sym none))
third_no false true false d none is = refl

large : (s : ℕ × ℕ) → is_refused_setting s ≡ false → (s.0 == max_frame_size) ≡ true → 16384 ≤ s.1
large s fine is =
    let no : nat_lt s.1 16384 ≡ false =
    third_no (s.0 == enable_push && nat_lt 1 s.1) (s.0 == max_frame_size) (nat_lt s.1 16384) (nat_lt 16777215 s.1) fine is in
    grind (arith, nat_tests, no)

both_no : (a b : Bool) → (a || b) ≡ false → (a ≡ false) × (b ≡ false)
both_no false false none = (refl, refl)
both_no true b none = absurd (false≢true (sym none))
both_no false true none = absurd (false≢true (sym none))

-- of no frame that a reader gives a row refuses a setting
abbrev IsFine : Glance → List ℕ → Type 0
IsFine (glance.Settings ack) bytes = list_any is_refused_setting (settings bytes) ≡ false
IsFine _ bytes = Unit {0}

fine_others : (g : Glance) (bytes : List ℕ) → is_settings g ≡ false → IsFine g bytes
fine_others (glance.Settings ack) bytes other = absurd (false≢true (sym other))
fine_others _ bytes other = tt

last_none : (a b : Option Refusal) → (a else b) ≡ None → b ≡ None
last_none None b none = none
last_none (Some r) b none = absurd cc

first_none : (a b : Option Refusal) → (a else b) ≡ None → a ≡ None
first_none None b none = refl
first_none (Some r) b none = absurd cc

refuses_none : (t : Bool) (code row : ℕ) → refuses t code row ≡ None → t ≡ false
refuses_none true code row none = absurd cc
refuses_none false code row none = refl

fine_settings : (f : RawFrame) → first_refusal f ≡ None → (f.kind == settings_kind) ≡ true
    → list_any is_refused_setting (settings f.payload) ≡ false
fine_settings f none is =
    let value : value_refusal f ≡ None =
    last_none (stream_refusal f else padding_refusal f else size_refusal f) (value_refusal f) none in
    let all = list_any is_refused_setting (settings f.payload) in
    let no : ((f.kind == settings_kind) && all) ≡ false =
    refuses_none ((f.kind == settings_kind) && all) protocol_error 11 (first_none _ _ value) in
    sym (ap (λ b. b && all) is) ∙ no

fine_by : (f : RawFrame) → first_refusal f ≡ None → (b : Bool) → (f.kind == settings_kind) ≡ b → IsFine (glance_at f) (lent_of f)
fine_by f none true is =
    let seen = settings_are f is in
    subst (λ (g : Glance). IsFine g (lent_of f)) (sym seen.0)
    (subst (λ (xs : List ℕ). list_any is_refused_setting (settings xs) ≡ false) (sym seen.1) (fine_settings f none is))
fine_by f none false is = fine_others (glance_at f) (lent_of f) (no_settings f is)

fine_front : (r : Reading) (o : Result (Option ℕ) Refusal) → first_of r.max r.held ≡ o
    → IsFine (glance_by r o) (after_frame r o).last
fine_front r (Ok None) is = tt
fine_front r (Err why) is = tt
fine_front r (Ok (Some n)) is =
    fine_by (raw_at r.held) (first_some r.max n r.held is).accepted ((raw_at r.held).kind == settings_kind) refl

module _ (n : ℕ) where
  abbrev Lasts : Core → Core → Found → Type 0
  Lasts c new told = (is_end told ≡ true) ⊎ (Sends n c → Sends n new)

  abbrev OutLasts : Core → Outcome → Type 0
  OutLasts c o = Lasts c o.core o.found

  stays : (c d : Core) → parts d ≡ parts c → Sends n c → Sends n d
  stays c d same sends = subst (SendsBy n) (sym same) sends

  given : (c : Core) (o : Outcome) (new : Core) (told : Found) → OutLasts c o → Gives o new told → Lasts c new told
  given c o new told (inl end) is = inl (ap is_end is.1 ∙ end)
  given c o new told (inr lasts) is = inr (λ sends. stays o.core new (ap parts is.0) (lasts sends))

  either : (c : Core) (b : Bool) (o p : Outcome) → OutLasts c o → OutLasts c p → OutLasts c (cond b o p)
  either c true o p first second = first
  either c false o p first second = second

  fault : (c d : Core) (code : ℕ) → OutLasts c (faulted d code)
  unfolding faulted
  fault c d code = inl refl

  refusal : (c d : Core) (why : StreamFault) → OutLasts c (refused d why)
  refusal c d why = by why.scope
    where
      by : (reach : Scope) → OutLasts c (refused_by d reach why.code)
      by scope.Connection = fault c d why.code
      by (scope.Stream s) = inl refl

  -- a frame that is received ends at most the peer's side of its stream
  sides_open : (s : States) (k : ℕ) (w : Sides) (b : Bool) → is_some (get s.active k) ≡ true
      → (n ≡ k → (w.own ≡ true) × (b ≡ true)) → IsOpen n s
      → IsOpen n (cond b (record s { active = written s.active k w }) (closed s k))
  sides_open s k w true there own had =
      let is : written s.active k w ≡ insert s.active k w = ap (λ b. cond b (insert s.active k w) s.active) there in
      elim (cases_eq n k) [
        | inl same ↦ (w, ap (λ m. get m n) is ∙ ap (λ q. get (insert s.active k w) q) same ∙ put_here s.active k w, (own same).0)
        | inr apart ↦ (had.0, ap (λ m. get m n) is ∙ put_elsewhere s.active k w n apart ∙ had.1, had.2)
      ]
  sides_open s k w false there own had =
      (had.0, removed_elsewhere s.active k n (λ same. false≢true (own same).1) ∙ had.1, had.2)

  peer_open : (s : States) (k : ℕ) (o : Option Sides) → get s.active k ≡ o → IsOpen n s → IsOpen n (peer_side_ended s k o)
  peer_open s k None is had = had
  peer_open s k (Some sides) is had =
      let own : n ≡ k → sides.own ≡ true = λ same.
      (let both : Some had.0 ≡ Some sides = sym had.1 ∙ ap (λ q. get s.active q) same ∙ is in
      let one : had.0 ≡ sides = cc in sym (ap (λ (x : Sides). x.own) one) ∙ had.2) in
      sides_open s k (record sides { peer = false }) (sides.own || false) (ap is_some is)
      (λ same. (own same, ap (λ o. o || false) (own same))) had

  going_open : (s : States) (k : ℕ) (b t : Bool) → b ≡ false → IsOpen n s
      → IsOpen n (cond b (closed s k) (cond t (peer_ended s k) s))
  going_open s k true t is had = absurd (false≢true (sym is))
  going_open s k false true is had = peer_open s k (get s.active k) refl had
  going_open s k false false is had = had

  begun_open : (s : States) (k : ℕ) (w : Sides) → w.own ≡ true → IsOpen n s → IsOpen n (begun s k w)
  begun_open s k w own had = elim (cases_eq n k) [
    | inl same ↦ (w, ap (λ q. get (insert s.active k w) q) same ∙ put_here s.active k w, own)
    | inr apart ↦ (had.0, put_elsewhere s.active k w n apart ∙ had.1, had.2)
  ]

  pub answer_open : (s : States) (kind k : ℕ) (end : Bool) (r : Result Step StreamFault) → (kind == rst_stream_kind) ≡ false
      → IsOpen n s → IsOpen n (after_answer s kind k end r)
  answer_open s kind k end (Ok step.New) other had = begun_open s k (record both_open { peer = not end }) refl had
  answer_open s kind k end (Ok step.Goes) other had =
      going_open s k (kind == rst_stream_kind) (end && (kind == data_kind || kind == headers_kind)) other had
  answer_open s kind k end (Ok step.Ignored) other had = had
  answer_open s kind k end (Err why) other had =
      cond_both (why.code == refused_stream) (stream_refused s k) s (λ (t : States). IsOpen n t) (λ is. had) (λ is. had)

  received : (c : Core) (kind k : ℕ) (end : Bool) → (kind == rst_stream_kind) ≡ false → Sends n c
      → Sends n (record c { streams = after c.streams (receives kind k end) })
  received c kind k end other sends = (answer_open c.streams kind k end (answer_of c.streams kind k) other sends.0, sends.1)

  -- frame by frame
  continues : (c : Core) (s : ℕ) (end : Bool) → Sends n c → Sends n (continued c s end)
  continues c s true sends =
      let ended = record c { streams = after c.streams (receives data_kind s true) } in
      stays ended (released ended s) (released_parts ended s) (received c data_kind s true refl sends)
  continues c s false sends = stays c (credited_on c s) (credited_parts c s) sends

  data_by : (c d : Core) (s k size : ℕ) (end : Bool) (o : Option Windows) → parts d ≡ parts c
      → OutLasts c (data_goes d s k size end o)
  data_by c d s k size end None same = inr (λ sends. continues d s end (stays c d same sends))
  data_by c d s k size end (Some w) same =
      either c (nat_lt w.taking.granted k) (broken d s flow_control_error)
      (outcome (continued (padded d s k size) s end) (found.Chunk s end)) (inl refl)
      (inr (λ sends. continues (padded d s k size) s end (stays c (padded d s k size) same sends)))

  data_answers : (c d : Core) (s k size : ℕ) (end : Bool) (r : Result Step StreamFault) → parts d ≡ parts c
      → OutLasts c (data_answered d s k size end r)
  data_answers c d s k size end (Ok step.Goes) same = data_by c d s k size end (get d.flow.streams s) same
  data_answers c d s k size end (Ok step.New) same = inr (stays c d same)
  data_answers c d s k size end (Ok step.Ignored) same = inr (stays c d same)
  data_answers c d s k size end (Err why) same = refusal c d why

  data_lasts : (c : Core) (s k size : ℕ) (end : Bool) → OutLasts c (on_data c s k size end)
  data_lasts c s k size end =
      let r = answer_of c.streams data_kind s in
      let goes = data_answered (used c k) s k size end r in
      either c (is_of_idle r) (faulted c protocol_error)
      (cond (nat_lt c.flow.taking.granted k) (faulted c flow_control_error) goes) (fault c c protocol_error)
      (either c (nat_lt c.flow.taking.granted k) (faulted c flow_control_error) goes (fault c c flow_control_error)
      (data_answers c (used c k) s k size end r (updated_parts _ _)))

  reset_answers : (c : Core) (s code : ℕ) (r : Result Step StreamFault) → OutLasts c (reset_answered c s code r)
  reset_answers c s code (Ok step.Goes) = inl refl
  reset_answers c s code (Ok step.New) = inr (λ sends. sends)
  reset_answers c s code (Ok step.Ignored) = inr (λ sends. sends)
  reset_answers c s code (Err why) = refusal c c why

  window_grows : (c : Core) (s k : ℕ) (o : Option Windows) → OutLasts c (stream_grows c s k o)
  window_grows c s k None = inr (λ sends. sends)
  window_grows c s k (Some w) =
      either c _ (broken c s flow_control_error) (outcome (record c { flow = granted_on c.flow s k }) found.Silent)
      (inl refl) (inr (λ sends. sends))

  window_answers : (c : Core) (s k : ℕ) (r : Result Step StreamFault) → OutLasts c (stream_answered c s k r)
  window_answers c s k (Ok step.Goes) =
      either c (k == 0) (broken c s protocol_error) (stream_grows c s k (get c.flow.streams s)) (inl refl)
      (window_grows c s k (get c.flow.streams s))
  window_answers c s k (Ok step.New) = inr (λ sends. sends)
  window_answers c s k (Ok step.Ignored) = inr (λ sends. sends)
  window_answers c s k (Err why) = refusal c c why

  window_lasts : (c : Core) (s k : ℕ) → OutLasts c (on_window c s k)
  window_lasts c s k =
      let r = answer_of c.streams window_update_kind s in
      either c (s == 0) (connection_grows c k) (stream_answered c s k r)
      (either c _ (faulted c flow_control_error) (outcome (record c { flow = granted c.flow k }) found.Silent)
      (fault c c flow_control_error) (inr (λ sends. sends)))
      (window_answers c s k r)

  headers_answers : (c d : Core) (s : ℕ) (end : Bool) (r : Result Step StreamFault) → parts d ≡ parts c
      → OutLasts c (headers_answered d s end r)
  headers_answers c d s end (Ok step.New) same = inr (λ sends. received d headers_kind s end refl (stays c d same sends))
  headers_answers c d s end (Ok step.Goes) same =
      inr (λ sends. stays (headed d s end) (released (headed d s end) s) (released_parts (headed d s end) s)
      (received d headers_kind s end refl (stays c d same sends)))
  headers_answers c d s end (Ok step.Ignored) same = inr (stays c d same)
  headers_answers c d s end (Err why) same = refusal c (headed d s end) why

  block_tells : (c d : Core) (told : Result (Option Whole) BlockFault) → parts d ≡ parts c → OutLasts c (block_told d told)
  block_tells c d (Ok None) same = inr (stays c d same)
  block_tells c d (Ok (Some whole)) same = headers_answers c d whole.stream whole.end_stream _ same
  block_tells c d (Err why) same = fault c d _

  block_lasts : (progress : Progress) (c new : Core) (told : Found) → DoesBlock progress c new told → Lasts c new told
  block_lasts progress c new told does =
      given c _ new told (block_tells c (record c { blocks = does.0 }) does.1 refl) does.3

  noted_sends : (c : Core) (s : ℕ × ℕ) → is_refused_setting s ≡ false → Sends n c → Sends n (noted c s)
  noted_sends c s fine sends = by (s.0 == max_concurrent_streams) (s.0 == max_frame_size) (large s fine)
    where
      by : (a b : Bool) → (b ≡ true → 16384 ≤ s.1) → Sends n (cond a (record c { peer = record c.peer { streams = s.1 } })
          (cond b (record c { peer = record c.peer { frame_size = s.1 } }) c))
      by true b many = sends
      by false true many = (sends.0, many refl)
      by false false many = sends

  resized_parts : (c new : Core) (k : ℕ) (fits : Bool) → Resized c k new fits → parts new ≡ parts c
  resized_parts c new k true is = ap parts is.2
  resized_parts c new k false (inl over) = ap parts over.1
  resized_parts c new k false (inr over) = ap parts over.3

  one_sends : (b : Bool) (c new : Core) (s : ℕ × ℕ) (fits : Bool) → is_refused_setting s ≡ false → AppliesBy b c s new fits
      → Sends n c → Sends n new
  one_sends true c new s fits fine is sends = stays c new (resized_parts c new s.1 fits is) sends
  one_sends false c new s fits fine is sends = stays (noted c s) new (ap parts is.0) (noted_sends c s fine sends)

  all_send : (pairs : List (ℕ × ℕ)) (c new : Core) (fits : Bool) → list_any is_refused_setting pairs ≡ false
      → AppliesAll c pairs new fits → Sends n c → Sends n new
  all_send [] c new fits fine is sends = stays c new (ap parts is.0) sends
  all_send (s ∷ more) c new fits fine is sends =
      let no = both_no (is_refused_setting s) (list_any is_refused_setting more) fine in
      by is.1 (all_send more is.0 new fits no.1) is.3 (one_sends (s.0 == initial_window_size) c is.0 s is.1 no.0 is.2 sends)
    where
      by : (ok : Bool) → (AppliesAll is.0 more new fits → Sends n is.0 → Sends n new)
          → Then ok (AppliesAll is.0 more new fits) ((new ≡ is.0) × (fits ≡ false)) → Sends n is.0 → Sends n new
      by true later rest here = later rest here
      by false later rest here = stays is.0 new (ap parts rest.0) here

  applied_lasts : (c mid : Core) (fits : Bool) → (Sends n c → Sends n mid) → OutLasts c (applied mid fits)
  applied_lasts c mid true lasts = inr lasts
  applied_lasts c mid false lasts = fault c mid _

  settings_by : (b : Bool) (c : Core) (pairs : List (ℕ × ℕ)) (new : Core) (told : Found)
      → list_any is_refused_setting pairs ≡ false → SettlesBy b c pairs new told → Lasts c new told
  settings_by true c pairs new told fine is = given c _ new told (fault c c _) is
  settings_by false c pairs new told fine is =
      given c _ new told (applied_lasts c is.0 is.1 (all_send pairs c is.0 is.1 fine is.2)) is.3

  settings_last : (ack : Bool) (c : Core) (payload : List ℕ) (new : Core) (told : Found)
      → list_any is_refused_setting (settings payload) ≡ false → DoesSettings ack c payload new told → Lasts c new told
  settings_last true c payload new told fine is = inr (stays c new (ap parts is.0))
  settings_last false c payload new told fine is = settings_by _ c _ new told fine is

  answers_last : (c : Core) (g : Glance) (bytes : List ℕ) (new : Core) (told : Found) → IsFine g bytes
      → Answers c g bytes new told → Lasts c new told
  answers_last c glance.Nothing bytes new told fine is = given c _ new told (inr (λ sends. sends)) is
  answers_last c (glance.Data s k end) bytes new told fine is = given c _ new told (data_lasts c s k _ end) is
  answers_last c (glance.Headers s end whole) bytes new told fine is = block_lasts _ c new told is
  answers_last c (glance.Reset s code) bytes new told fine is = given c _ new told (reset_answers c s code _) is
  answers_last c (glance.Settings ack) bytes new told fine is = settings_last ack c bytes new told fine is
  answers_last c (glance.Ping ack value) bytes new told fine is =
      given c (does c (glance.Ping ack value) bytes) new told
      (either c ack (outcome c found.Silent) (outcome (sent c (ping_ack value)) found.Silent) (inr (λ sends. sends))
      (inr (λ sends. sends))) is
  answers_last c (glance.GoAway last) bytes new told fine is = given c _ new told (inr (λ sends. sends)) is
  answers_last c (glance.Window s k) bytes new told fine is = given c _ new told (window_lasts c s k) is
  answers_last c (glance.Continuation s whole) bytes new told fine is = block_lasts _ c new told is
  answers_last c glance.Other bytes new told fine is = given c _ new told (inr (λ sends. sends)) is
  answers_last c (glance.Refused code row kind flags) bytes new told fine is = given c _ new told (fault c c code) is

  handles_by : (b : Bool) (c : Core) (g : Glance) (bytes : List ℕ) (new : Core) (told : Found) → IsFine g bytes
      → HandlesBy b c g bytes new told → Lasts c new told
  handles_by true c g bytes new told fine is = given c _ new told (fault c c _) is
  handles_by false c g bytes new told fine is = answers_last c g bytes new told fine is

  lasts_on : (c mid new : Core) (told : Found) → Lasts c mid found.Silent → Lasts mid new told → Lasts c new told
  lasts_on c mid new told first (inl end) = inl end
  lasts_on c mid new told (inl never) (inr then) = absurd (false≢true never)
  lasts_on c mid new told (inr first) (inr then) = inr (λ sends. then (first sends))

  lasting : Holds Lasts
  lasting = record {
    same = λ c new told still is. inr (stays c new (ap parts is));
    on = lasts_on;
    handled = λ r c new told is. handles_by (is_misplaced c (glance_of r)) c (glance_of r) (asked r).last new told
        (fine_front r (first_of r.max r.held) refl) is;
    faults = λ c new code told is. given c _ new told (fault c c code) is;
  }

  pub finds_last : (c d : Connection) (told : Found) → Finds c d told → is_end told ≡ false → Sends n c.receiver.core
      → Sends n d.receiver.core
  finds_last c d told finds goes = by (finds_so Lasts lasting c d told finds)
    where
      by : Lasts c.receiver.core d.receiver.core told → Sends n c.receiver.core → Sends n d.receiver.core
      by (inl end) sends = absurd (false≢true (sym goes ∙ end))
      by (inr lasts) sends = lasts sends
