-- The peer's initial size of windows is the last that it set.
use Rattle.std.proofs.Common.{◌≡◌, ℕ, ◌==◌, ◌&&◌, not, Bool, true, false, cond, List, [], ◌∷◌, ◌++◌, take, fold, Some, refl, ap, sym, ◌∙◌, subst}
use Rattle.std.proofs.lemmas.Bool.{false≢true}
use Rattle.hb_frames.specs.RawFrame.{RawFrame}
use Rattle.hb_frames.specs.Numbers.{data_kind, settings_kind, max_concurrent_streams, initial_window_size, max_frame_size, protocol_error}
use Rattle.hb_frames.specs.Refusals.{is_ack, settings}
use Rattle.hb_frames.specs.Bodies.{lent_of}
use Rattle.hb_streams.specs.declared.role.Role.{Role}
use Rattle.hb_streams.specs.declared.role.Role.TheVariants.{Server, Client}
use Rattle.hb_flow.specs.Windows.{less, more}
use Rattle.hb_flow.specs.Flows.{Flows, closed, spent, granted, sending_by}
use Rattle.hb_flow.proofs.Changes.{still_initial}
use Rattle.hb_outgoing.specs.Selected.{data_size}
use Rattle.hb_outgoing.specs.Written.{written}
use Rattle.hb_owed.specs.Debts.{closed as owed_closed}
use Rattle.hb_conn.specs.Frames.{frame, sent}
use Rattle.hb_conn.specs.Faults.{faulted, is_active}
use Rattle.hb_conn.specs.Glance.{glance_at}
use Rattle.hb_conn.specs.Handling.{Handles, HandlesBy}
use Rattle.hb_conn.specs.Outcome.{Gives}
use Rattle.hb_conn.specs.Payload.{count_put}
use Rattle.hb_conn.specs.Places.{is_misplaced}
use Rattle.hb_conn.specs.Settings.{allows_push, AppliesBy, Then, AppliesAll, applied, SettlesBy, DoesSettings}
use Rattle.hb_conn.specs.declared.machine.Core.{Core}
use Rattle.hb_conn.specs.declared.found.Found.{Found}
use Rattle.hb_conn.specs.declared.glance.Glance.{Glance}
use Rattle.hb_conn.specs.declared.glance.Glance.TheVariants as glance
use Rattle.hb_history.specs.Points.{Move, got, refused, misbegan, opened, answered, ended, reset, credited, put, wrote, Point, point, After, Runs, got_by, frames_got}
use Rattle.hb_history.specs.History.{fresh}
use Rattle.hb_history.specs.Sending.{size_after, size_with, InitialIsLast}
use Rattle.hb_history.specs.Calls.{IsAct}
use Rattle.hb_history.proofs.Parts.{Amid, calm, amid, Keeps, Puts, PutsAck}
use Rattle.hb_history.proofs.Kept as kept
use Rattle.hb_history.proofs.Handled.{Grows, window_keeps, ping_keeps, handles_keep}
use Rattle.hb_history.proofs.Acted.{act_keeps}
use Rattle.hb_history.proofs.Sums.{taking_kept}
use Rattle.hb_history.proofs.Glanced.{settings_are, no_settings, is_settings}

abbrev pub Initial : ℕ → Amid → Core → Type 0
Initial size a c = c.over ≡ false → c.flow.initial ≡ size

released_by : (size s : ℕ) (c : Core) (b : Bool) → Initial size (amid false s) c
    → Initial size calm (cond b c (record c { flow = closed c.flow s; owed = owed_closed c.owed s }))
released_by size s c true h = h
released_by size s c false h = h

regained_by : (f : Flows) (n : ℕ) (b : Bool) → (cond b f (granted f n)).initial ≡ f.initial
regained_by f n true = refl
regained_by f n false = refl

put_by : (size : ℕ) (c : Core) (s n : ℕ) (bytes : List ℕ) (b : Bool) → Initial size calm c
    → Initial size calm (cond b c (sent (record c { flow = spent c.flow s n }) (frame data_kind 0 s (take n bytes))))
put_by size c s n bytes true h = h
put_by size c s n bytes false h = λ still. still_initial c.flow s (sending_by (λ w. less w n)) ∙ h still

fault_by : (size : ℕ) (c : Core) (code : ℕ) → Initial size calm (faulted c code).core
unfolding faulted
fault_by size c code = λ still. absurd (false≢true (sym still))

pub initial_keeps : (size : ℕ) → Keeps (Initial size)
initial_keeps size = record {
  ends = λ s c h. h;
  goes = λ s c h. h;
  other = λ a c e b p t h. h;
  sends = λ a c f none h. h;
  owes = λ a c m keeps h. h;
  moves = λ b s c t on h. h;
  withdraws = λ s c h. λ still. regained_by c.flow (data_size (Some s) c.out.queue) _ ∙ h still;
  releases = λ s c h. released_by size s c (is_active c.streams s) h;
  leaves = λ s c none h. h;
  takes_in = λ a c m taking may h. λ still. (taking_kept c.flow m taking).initial ∙ h still;
  begins = λ s c sides m above becomes h. h;
  faults = λ a c f code h. fault_by size (record c { flow = f }) code;
}

pub initial_puts : (size : ℕ) → Puts (Initial size)
initial_puts size c s bytes h = put_by size c s (count_put c s bytes) bytes (count_put c s bytes == 0) h

pub initial_acks : (size : ℕ) → PutsAck (Initial size)
initial_acks size c f answer h = h

pub initial_grows : (size : ℕ) (c : Core) (s n : ℕ) → Initial size calm c → Grows (Initial size) c s n
initial_grows size c s n h = record {
  fault = λ code. fault_by size c code;
  whole = λ zero fits. h;
  one = λ some w is fits. λ still. still_initial c.flow s (sending_by (λ v. more v n)) ∙ h still;
  broken = λ some live. h;
  ignored = λ some live why. h;
}

-- the settings of a frame, one after another

-- the initial size that settings leave, and whether the connection is over
abbrev Sized : Core → Core → ℕ → Type 0
Sized c new size = (new.flow.initial ≡ size) × (new.over ≡ c.over)

noted_by : (c : Core) (s : ℕ × ℕ) (a b : Bool)
    → Sized c (cond a (record c { peer = record c.peer { streams = s.1 } })
    (cond b (record c { peer = record c.peer { frame_size = s.1 } }) c)) c.flow.initial
noted_by c s true b = (refl, refl)
noted_by c s false true = (refl, refl)
noted_by c s false false = (refl, refl)

one_sized : (c mid : Core) (s : ℕ × ℕ) (b : Bool) → AppliesBy b c s mid true → Sized c mid (cond b s.1 c.flow.initial)
one_sized c mid s true is = (ap (λ (d : Core). d.flow.initial) is.2, ap (λ (d : Core). d.over) is.2)
one_sized c mid s false is =
    let noted = noted_by c s (s.0 == max_concurrent_streams) (s.0 == max_frame_size) in
    (ap (λ (d : Core). d.flow.initial) is.0 ∙ noted.0, ap (λ (d : Core). d.over) is.0 ∙ noted.1)

all_sized : (pairs : List (ℕ × ℕ)) (c new : Core) → AppliesAll c pairs new true → Sized c new (fold size_after c.flow.initial pairs)
all_sized [] c new is = (ap (λ (d : Core). d.flow.initial) is.0, ap (λ (d : Core). d.over) is.0)
all_sized (s ∷ more) c new is = by is.1 is.2 (all_sized more is.0 new) is.3
  where
    by : (ok : Bool) → AppliesBy (s.0 == initial_window_size) c s is.0 ok
        → (AppliesAll is.0 more new true → Sized is.0 new (fold size_after is.0.flow.initial more))
        → Then ok (AppliesAll is.0 more new true) ((new ≡ is.0) × (true ≡ false)) → Sized c new (fold size_after c.flow.initial (s ∷ more))
    by true one later rest =
        let first = one_sized c is.0 s (s.0 == initial_window_size) one in
        let last = later rest in
        (last.0 ∙ ap (λ size. fold size_after size more) first.0, last.1 ∙ first.1)
    by false one later rest = absurd (false≢true (sym rest.1))

settles_by : (size : ℕ) (c mid new : Core) (pairs : List (ℕ × ℕ)) (fits : Bool) (told : Found) → Initial size calm c
    → AppliesAll c pairs mid fits
    → Gives (applied mid fits) new told → Initial (fold size_after size pairs) calm new
settles_by size c mid new pairs true told h all is = λ still.
    let sized = all_sized pairs c mid all in
    ap (λ (d : Core). d.flow.initial) is.0 ∙ sized.0
    ∙ ap (λ n. fold size_after n pairs) (h (sym sized.1 ∙ sym (ap (λ (d : Core). d.over) is.0) ∙ still))
settles_by size c mid new pairs false told h all is =
    subst (Initial (fold size_after size pairs) calm) (sym is.0) (fault_by (fold size_after size pairs) mid 3)

pushed_by : (size : ℕ) (b : Bool) (c : Core) (pairs : List (ℕ × ℕ)) (new : Core) (told : Found) → Initial size calm c
    → SettlesBy b c pairs new told → Initial (fold size_after size pairs) calm new
pushed_by size true c pairs new told h is =
    subst (Initial (fold size_after size pairs) calm) (sym is.0) (fault_by (fold size_after size pairs) c protocol_error)
pushed_by size false c pairs new told h is = settles_by size c is.0 new pairs is.1 told h is.2 is.3

settings_by : (size : ℕ) (ack : Bool) (c : Core) (payload : List ℕ) (new : Core) (told : Found) → Initial size calm c
    → DoesSettings ack c payload new told → Initial (cond (not ack) (fold size_after size (settings payload)) size) calm new
settings_by size true c payload new told h is = subst (Initial size calm) (sym is.0) h
settings_by size false c payload new told h is =
    pushed_by size (allows_push c.streams.role (settings payload)) c (settings payload) new told h is

handled_by : (size : ℕ) (b ack : Bool) (c : Core) (payload : List ℕ) (new : Core) (told : Found) → Initial size calm c
    → HandlesBy b c (glance.Settings ack) payload new told
    → Initial (cond (not ack) (fold size_after size (settings payload)) size) calm new
handled_by size true ack c payload new told h is =
    subst (Initial (cond (not ack) (fold size_after size (settings payload)) size) calm) (sym is.0)
    (fault_by (cond (not ack) (fold size_after size (settings payload)) size) c protocol_error)
handled_by size false ack c payload new told h is = settings_by size ack c payload new told h is

-- one frame
frame_by : (size : ℕ) (c : Core) (f : RawFrame) (b : Bool) → (f.kind == settings_kind) ≡ b → (new : Core) (told : Found)
    → Initial size calm c
    → Handles c (glance_at f) (lent_of f) new told
    → Initial (cond (b && not (is_ack f)) (fold size_after size (settings f.payload)) size) calm new
frame_by size c f true test new told h is =
    let seen = settings_are f test in
    handled_by size (is_misplaced c (glance.Settings (is_ack f))) (is_ack f) c f.payload new told h
    (subst (λ (xs : List ℕ). Handles c (glance.Settings (is_ack f)) xs new told) seen.1
    (subst (λ (g : Glance). Handles c g (lent_of f) new told) seen.0 is))
frame_by size c f false test new told h is =
    handles_keep (Initial size) (initial_keeps size) c (glance_at f) (lent_of f) new told h
    (λ s n e. window_keeps (Initial size) (initial_keeps size) c s n (initial_grows size c s n h))
    (λ ack e does. absurd (false≢true (sym (no_settings f test) ∙ ap is_settings e)))
    (λ ack value e. ping_keeps (Initial size) (initial_keeps size) (initial_acks size) c ack value h) is

-- an act of this end
acts : (size : ℕ) (c : Core) (m : Move) (new : Core) (told : Found) → IsAct m → Initial size calm c → After c m new told
    → Initial size calm new
acts size c m new told act h is =
    act_keeps (Initial size) (initial_keeps size) c (λ s bytes. initial_puts size c s bytes h) m new told act h is

-- one move
pub moves : (size : ℕ) (c : Core) (m : Move) (new : Core) (told : Found) → Initial size calm c → After c m new told
    → Initial (fold size_with size (got_by (point m told))) calm new
moves size c (got f) new told h is = frame_by size c f (f.kind == settings_kind) refl new told h is.1
moves size c (refused r kind flags) new told h is =
    handles_keep (Initial size) (initial_keeps size) c (glance.Refused r.code r.row kind flags) [] new told h
    (λ s n e. window_keeps (Initial size) (initial_keeps size) c s n (initial_grows size c s n h))
    (λ ack e does. absurd (false≢true (ap is_settings e)))
    (λ ack value e. ping_keeps (Initial size) (initial_keeps size) (initial_acks size) c ack value h) is.1
moves size c misbegan new told h is = subst (Initial size calm) (sym is.1.0) (fault_by size c protocol_error)
moves size c (opened s headers end) new told h is = acts size c (opened s headers end) new told tt h is
moves size c (answered s status) new told h is = acts size c (answered s status) new told tt h is
moves size c (ended s) new told h is = acts size c (ended s) new told tt h is
moves size c (reset s code) new told h is = acts size c (reset s code) new told tt h is
moves size c (credited s n) new told h is = acts size c (credited s n) new told tt h is
moves size c (put s bytes) new told h is = acts size c (put s bytes) new told tt h is
moves size c (wrote n) new told h is =
    subst (Initial size calm) (sym is.1.0)
    (kept.payment_keeps (Initial size) (initial_keeps size) calm (record c { out = written n c.out }) h)

fold_both : (size : ℕ) (fs gs : List RawFrame) → fold size_with size (fs ++ gs) ≡ fold size_with (fold size_with size fs) gs
fold_both size [] gs = refl
fold_both size (f ∷ fs) gs = fold_both (size_with size f) fs gs

runs : (points : List Point) (size : ℕ) (c new : Core) → Initial size calm c → Runs c points new
    → Initial (fold size_with size (frames_got points)) calm new
runs [] size c new h is = subst (Initial size calm) (sym is) h
runs (p ∷ ps) size c new h is =
    subst (λ n. Initial n calm new) (sym (fold_both size (got_by p) (frames_got ps)))
    (runs ps (fold size_with size (got_by p)) is.0 new (moves size c p.move is.0 p.told h is.1) is.2)

pub initial_new : (role : Role) → Initial 65535 calm (fresh role).receiver.core
initial_new Server = λ still. refl
initial_new Client = λ still. refl

pub initial_is_last : InitialIsLast
initial_is_last role points given came written c stands still =
    runs points 65535 (fresh role).receiver.core c.receiver.core (initial_new role) stands.runs still
