-- The octets of DATA that came on a stream and aren't used up, behind what is found, and behind what this end does.
use Rattle.std.proofs.Common.{◌≡◌, ◌≢◌, inl, inr, ℕ, ◌+◌, ◌≤◌, ◌==◌, ◌||◌, if◌then◌else◌, Bool, true, false, cond, List, [], ◌∷◌, ◌++◌, length, take, Option, Some, None, refl, ap, sym, ◌∙◌, subst, arith}
use Rattle.std.specs.List.{flat_map}
use Rattle.std.specs.FinMap.{get}
use Rattle.std.proofs.lemmas.Bool.{cases_eq, cond_both, false≢true}
use Rattle.std.proofs.lemmas.Grind.{flat_map-append}
use Rattle.std.proofs.lemmas.List.{append-nil}
use Rattle.hb_frames.specs.Bodies.{lent_of}
use Rattle.hb_frames.specs.Numbers.{data_kind, protocol_error}
use Rattle.hb_frames.specs.RawFrame.{RawFrame}
use Rattle.hb_streams.specs.States.{States}
use Rattle.hb_streams.specs.declared.role.Role.{Role}
use Rattle.hb_streams.specs.declared.role.Role.TheVariants.{Server}
use Rattle.hb_flow.specs.Flows.{Flows, creditable, spent}
use Rattle.hb_flow.proofs.Taking.{stream_takes}
use Rattle.hb_outgoing.specs.Written.{written}
use Rattle.hb_owed.specs.declared.due.Due.TheVariants as due
use Rattle.hb_conn.specs.Connection.{Connection, core_of, ended_by}
use Rattle.hb_conn.specs.Ending.{own_ended}
use Rattle.hb_conn.specs.Faults.{faulted}
use Rattle.hb_conn.specs.Frames.{frame, sent}
use Rattle.hb_conn.specs.Glance.{glance_at}
use Rattle.hb_conn.specs.Observed.{chunk_of}
use Rattle.hb_conn.specs.Outcome.{is_silent, Gives}
use Rattle.hb_conn.specs.Owing.{with_due}
use Rattle.hb_conn.specs.Payload.{count_put}
use Rattle.hb_conn.specs.Places.{is_misplaced}
use Rattle.hb_conn.specs.declared.found.Found.{Found}
use Rattle.hb_conn.specs.declared.found.Found.TheVariants as found
use Rattle.hb_conn.specs.declared.glance.Glance.{Glance}
use Rattle.hb_conn.specs.declared.glance.Glance.TheVariants as glance
use Rattle.hb_conn.specs.declared.machine.Core.{Core}
use Rattle.hb_history.specs.Calls.{in_list, IsLook, AreLooks}
use Rattle.hb_history.specs.History.{StandsFor, fresh, ends_in, happenings}
use Rattle.hb_history.specs.Points.{Move, got, refused, misbegan, opened, answered, ended, reset, credited, put, wrote, Point, Runs, After, data_of, data_in}
use Rattle.hb_history.proofs.Acted.{runs_keep}
use Rattle.hb_history.proofs.Flowed.{Flow, flow_keeps, flow_puts, flow_resizes, flow_acks, flow_grows, flow_new}
use Rattle.hb_history.proofs.Glanced.{is_data, data_are, no_data}
use Rattle.hb_history.proofs.Lives.{Lives, lives_new, lives_runs}
use Rattle.hb_history.proofs.Parts.{calm}
use Rattle.hb_history.proofs.Runs.{runs_one}
use Rattle.hb_history.proofs.Stages.{content_fits}
use Rattle.hb_kept.specs.Creditable.{CreditableBehind, LooksAdd, WritesLeaveCreditable, PutsLeaveCreditable, AnswersLeaveCreditable, EndsLeaveCreditable, ResetsLeaveCreditable, UsesTake, BeyondIsRefused, NoneAddedIsRefused, AllMayCome}
use Rattle.hb_kept.specs.Looks as Looks
use Rattle.hb_kept.proofs.Creditable.{Same, Others, Had, Comes, On, HandsOut, handles_on, aborted_same, due_same, due_ended_same, put_same, wrote_flow, credit_here, credit_others}
use Rattle.hb_kept.proofs.Sides as sides
use Rattle.hb_kept.proofs.SidesAt.{sides_at}

-- ONE POINT

-- what is had behind every run
record Kept (role : Role) (c : Core) : Type 0 where
  pub lives : Lives role calm c
  pub flows : Flow calm c

had_of : (role : Role) (c : Core) → Kept role c → c.over ≡ false → Had c
had_of role c kept still =
    let live = kept.lives.1 still in
    let flowed = kept.flows still in
    record {
      windows = live.held;
      whole = λ n w is. stream_takes flowed.0 flowed.2 n w (ap (λ (f : Flows). get f.streams n) (sym flowed.1) ∙ is);
    }

kept_run : (role : Role) (points : List Point) (c new : Core) → Kept role c → Runs c points new → Kept role new
kept_run role points c new kept runs = record {
  lives = lives_runs role points c new kept.lives runs;
  flows = runs_keep Flow flow_keeps flow_puts flow_resizes flow_acks (λ d s n h. flow_grows d s n h) (λ d n within h. h) points c new
      kept.flows runs;
}

-- while frames are looked at no connection error was told
not_over : (over full : Bool) → (over || full) ≡ false → over ≡ false
not_over true full is = absurd (false≢true (sym is))
not_over false full is = refl

hands_by : (g : Glance) (bytes : List ℕ) → is_data g ≡ false → HandsOut g bytes
hands_by (glance.Data k size end) bytes none = absurd (false≢true (sym none))
hands_by glance.Nothing bytes none = tt
hands_by (glance.Headers k end whole) bytes none = tt
hands_by (glance.Reset k code) bytes none = tt
hands_by (glance.Settings ack) bytes none = tt
hands_by (glance.Ping ack value) bytes none = tt
hands_by (glance.GoAway last) bytes none = tt
hands_by (glance.Window k m) bytes none = tt
hands_by (glance.Continuation k whole) bytes none = tt
hands_by glance.Other bytes none = tt
hands_by (glance.Refused code row kind flags) bytes none = tt

hands_out : (f : RawFrame) → HandsOut (glance_at f) (lent_of f)
hands_out f = by (f.kind == data_kind) refl
  where
    by : (b : Bool) → (f.kind == data_kind) ≡ b → HandsOut (glance_at f) (lent_of f)
    by true is =
        let seen = data_are f is in
        let fits : length (lent_of f) ≤ length f.payload = omega (arith, ap (λ (xs : List ℕ). length xs) seen.1, content_fits f) in
        subst (λ (g : Glance). HandsOut g (lent_of f)) (sym seen.0) fits
    by false is = hands_by (glance_at f) (lent_of f) (no_data f is)

-- how many octets count where nothing is handed out doesn't matter
recounted : (n m : ℕ) (told : Found) (c d : Core) → ((k : ℕ) (end : Bool) → told ≡ found.Chunk k end → n ≡ m) → On n told c d
    → On m told c d
recounted n m (found.Chunk k end) c d same is = subst (λ i. Comes i k c d) (same k end refl) is
recounted n m (found.Opened k end) c d same is = is
recounted n m (found.Fault code) c d same is = tt
recounted n m found.Silent c d same is = is
recounted n m (found.Ended k) c d same is = is
recounted n m (found.Reset k code) c d same is = is
recounted n m (found.Broken k code) c d same is = is
recounted n m (found.GoneAway last) c d same is = is

-- what a point makes of the sides of streams, and of their octets
record Step (n : ℕ) (told : Found) (c d : Core) : Type 0 where
  pub sides : sides.On told c.streams d.streams
  pub on : On n told c d

fault_step : (c new : Core) (told : Found) → Gives (faulted c protocol_error) new told → Step 0 told c new
unfolding faulted
fault_step c new told is =
    subst (λ t. Step 0 t c new) (sym is.1) (record { sides = tt; on = tt })

one : (role : Role) (m : Move) (told : Found) (c new : Core) → Kept role c → IsLook m → After c m new told → Step (length (data_of m told)) told c new
one role (got f) told c new kept look is =
    let had = had_of role c kept (not_over c.over _ is.0) in
    record {
      sides = sides.handles_on (is_misplaced c (glance_at f)) c (glance_at f) (lent_of f) new told is.1;
      on = recounted (length (lent_of f)) (length (data_of (got f) told)) told c new
          (λ k end same. ap (λ t. length (data_of (got f) t)) (sym same))
          (handles_on (is_misplaced c (glance_at f)) c (glance_at f) (lent_of f) new told had (hands_out f) is.1);
    }
one role (refused r kind flags) told c new kept look is =
    let g = glance.Refused r.code r.row kind flags in
    record {
      sides = sides.handles_on (is_misplaced c g) c g [] new told is.1;
      on = handles_on (is_misplaced c g) c g [] new told (had_of role c kept (not_over c.over _ is.0)) tt is.1;
    }
one role misbegan told c new kept look is = fault_step c new told is.1
one role (opened s headers end) told c new kept look is = absurd look
one role (answered s status) told c new kept look is = absurd look
one role (ended s) told c new kept look is = absurd look
one role (reset s code) told c new kept look is = absurd look
one role (credited s n) told c new kept look is = absurd look
one role (put s bytes) told c new kept look is = absurd look
one role (wrote n) told c new kept look is = absurd look

-- ONE POINT AFTER ANOTHER

-- a stream whose peer's side is open behind what is told had it open before, but where it is opened
keeps_open : (end : Bool) (w : Bool) → (cond end false w) ≡ true → w ≡ true
keeps_open true w is = absurd (false≢true is)
keeps_open false w is = is

peer_at : (s : ℕ) (old new : States) → sides_at new s ≡ sides_at old s → (sides_at new s).peer ≡ true → (sides_at old s).peer ≡ true
peer_at s old new is peer = sym (ap (λ w. w.peer) is) ∙ peer

-- of a stream that ended on both sides none is open
peer_but : (k s : ℕ) (old new : States) → (sides_at new k).peer ≡ false → ((m : ℕ) → m ≢ k → sides_at new m ≡ sides_at old m)
    → (sides_at new s).peer ≡ true → (sides_at old s).peer ≡ true
peer_but k s old new none others peer = elim (cases_eq s k) [
  | inl same ↦ absurd (false≢true (sym none ∙ sym (ap (λ n. (sides_at new n).peer) same) ∙ peer))
  | inr apart ↦ peer_at s old new (others s apart) peer
]

same_then : (m n : ℕ) (told : Found) (c mid d : Core) → Step m found.Silent c mid → Step n told mid d → On n told c d
same_then m n (found.Opened k end) c mid d first later =
    λ s apart peer. later.on s apart peer ∙ first.on s (peer_at s mid.streams d.streams (later.sides s apart) peer)
same_then m n (found.Chunk k end) c mid d first later =
    let had = first.on k later.on.was in
    record {
      was = peer_at k c.streams mid.streams (first.sides k) later.on.was;
      fits = omega (arith, later.on.fits, had);
      here = λ peer. later.on.here peer ∙ ap (λ i. i + n) had;
      others =
          λ s apart peer. later.on.others s apart peer ∙ first.on s (peer_at s mid.streams d.streams (later.sides.others s apart) peer);
    }
same_then m n (found.Fault code) c mid d first later = tt
same_then m n found.Silent c mid d first later =
    λ s peer. later.on s peer ∙ first.on s (peer_at s mid.streams d.streams (later.sides s) peer)
same_then m n (found.Ended k) c mid d first later =
    λ s peer. later.on s peer ∙ first.on s (peer_at s mid.streams d.streams (later.sides s) peer)
same_then m n (found.GoneAway last) c mid d first later =
    λ s peer. later.on s peer ∙ first.on s (peer_at s mid.streams d.streams (later.sides s) peer)
same_then m n (found.Reset k code) c mid d first later =
    λ s peer. later.on s peer ∙ first.on s (peer_but k s mid.streams d.streams (ap (λ w. w.peer) later.sides.here) later.sides.others peer)
same_then m n (found.Broken k code) c mid d first later =
    λ s peer. later.on s peer ∙ first.on s (peer_but k s mid.streams d.streams (ap (λ w. w.peer) later.sides.here) later.sides.others peer)

step_then : (m n : ℕ) (told : Found) (c mid d : Core) → Step m found.Silent c mid → Step n told mid d → Step n told c d
step_then m n told c mid d first later = record {
  sides = sides.on_from told c.streams mid.streams d.streams first.sides later.sides;
  on = same_then m n told c mid d first later;
}

-- what the last of them tells
abbrev last_told : List Point → Found
last_told [] = found.Silent
last_told (p ∷ []) = p.told
last_told (p ∷ q ∷ ps) = last_told (q ∷ ps)

-- where nothing is told nothing is handed out
none_handed : (m : Move) → IsLook m → data_of m found.Silent ≡ []
none_handed (got f) look = refl
none_handed (refused r kind flags) look = refl
none_handed misbegan look = refl
none_handed (opened s headers end) look = absurd look
none_handed (answered s status) look = absurd look
none_handed (ended s) look = absurd look
none_handed (reset s code) look = absurd look
none_handed (credited s n) look = absurd look
none_handed (put s bytes) look = absurd look
none_handed (wrote n) look = absurd look

ran : (role : Role) (ps : List Point) (c new : Core) → Kept role c → AreLooks ps → Runs c ps new → Step (length (flat_map data_in ps)) (last_told ps) c new
ran role [] c new kept looks runs = record {
  sides = λ m. ap (λ (x : Core). sides_at x.streams m) runs;
  on = λ s peer. ap (λ (x : Core). creditable x.flow s) runs;
}
ran role (p ∷ []) c new kept looks runs =
    subst (λ (x : Core). Step (length (data_in p ++ [])) p.told c x) (sym runs.2)
    (subst (λ (xs : List ℕ). Step (length xs) p.told c runs.0) (sym (append-nil (data_in p)))
    (one role p.move p.told c runs.0 kept looks runs.1))
ran role (p ∷ q ∷ ps) c new kept looks runs =
    let mid = runs.0 in
    let first = subst (λ t. Step (length (data_of p.move t)) t c mid) looks.1 (one role p.move p.told c mid kept looks.0 runs.1) in
    let later = ran role (q ∷ ps) mid new (kept_run role (p ∷ []) c mid kept (runs_one p c mid runs.1)) looks.2 runs.2 in
    let none : data_in p ≡ [] = ap (data_of p.move) looks.1 ∙ none_handed p.move looks.0 in
    subst (λ (xs : List ℕ). Step (length (xs ++ flat_map data_in (q ∷ ps))) (last_told (q ∷ ps)) c new) (sym none)
    (step_then (length (data_of p.move found.Silent)) (length (flat_map data_in (q ∷ ps))) (last_told (q ∷ ps)) c mid new first later)

-- WHAT IS TOLD BY THEM

-- what is told of one point
abbrev tells : Found → List Found
tells told = if is_silent told then [] else told ∷ ends_in (ended_by told)

happen : (ps : List Point) → AreLooks ps → happenings ps ≡ tells (last_told ps)
happen [] looks = refl
happen (p ∷ []) looks = append-nil (tells p.told)
happen (p ∷ q ∷ ps) looks = ap (λ t. tells t ++ happenings (q ∷ ps)) looks.1 ∙ happen (q ∷ ps) looks.2

-- of what is told, that behind which the octets aren't the same everywhere
abbrev marks : Found → List Found
marks (found.Opened k end) = found.Opened k end ∷ []
marks (found.Chunk k end) = found.Chunk k end ∷ []
marks (found.Fault code) = found.Fault code ∷ []
marks told = []

abbrev marked : List Found → List Found
marked tolds = flat_map marks tolds

none_marked : (o : Option ℕ) → marked (ends_in o) ≡ []
none_marked None = refl
none_marked (Some s) = refl

behind : (told : Found) (o : Option ℕ) → marks told ++ marked (ends_in o) ≡ marks told
behind told o = ap (λ (ts : List Found). marks told ++ ts) (none_marked o) ∙ append-nil (marks told)

tells_marked : (told : Found) → marked (tells told) ≡ marks told
tells_marked found.Silent = refl
tells_marked (found.Opened k end) = behind (found.Opened k end) (ended_by (found.Opened k end))
tells_marked (found.Chunk k end) = behind (found.Chunk k end) (ended_by (found.Chunk k end))
tells_marked (found.Ended k) = refl
tells_marked (found.Reset k code) = refl
tells_marked (found.Broken k code) = refl
tells_marked (found.GoneAway last) = refl
tells_marked (found.Fault code) = refl

listed_marked : (told : Found) → marked (in_list told) ≡ marks told
listed_marked found.Silent = refl
listed_marked (found.Opened k end) = refl
listed_marked (found.Chunk k end) = refl
listed_marked (found.Ended k) = refl
listed_marked (found.Reset k code) = refl
listed_marked (found.Broken k code) = refl
listed_marked (found.GoneAway last) = refl
listed_marked (found.Fault code) = refl

same_marks : (o p : Option ℕ) (first told : Found) → ends_in o ++ tells first ≡ in_list told ++ ends_in p → marks first ≡ marks told
same_marks o p first told is =
    sym (tells_marked first)
    ∙ ap (λ (ts : List Found). ts ++ marked (tells first)) (sym (none_marked o))
    ∙ sym (flat_map-append marks (ends_in o) (tells first))
    ∙ ap marked is
    ∙ flat_map-append marks (in_list told) (ends_in p)
    ∙ ap (λ (ts : List Found). ts ++ marked (ends_in p)) (listed_marked told)
    ∙ behind told p

unmarked : (n : ℕ) (first : Found) (c d : Core) → marks first ≡ [] → On n first c d → Same c d
unmarked n (found.Opened k end) c d none is = absurd (cc)
unmarked n (found.Chunk k end) c d none is = absurd (cc)
unmarked n (found.Fault code) c d none is = absurd (cc)
unmarked n found.Silent c d none is = is
unmarked n (found.Ended k) c d none is = is
unmarked n (found.Reset k code) c d none is = is
unmarked n (found.Broken k code) c d none is = is
unmarked n (found.GoneAway last) c d none is = is

opened_by : (n k : ℕ) (end : Bool) (first : Found) (c d : Core) → marks first ≡ found.Opened k end ∷ [] → On n first c d → Others k c d
opened_by n k end (found.Opened j last) c d same is = let at : j ≡ k = cc in subst (λ i. Others i c d) at is
opened_by n k end (found.Chunk j last) c d same is = absurd (cc)
opened_by n k end (found.Fault code) c d same is = absurd (cc)
opened_by n k end found.Silent c d same is = absurd (cc)
opened_by n k end (found.Ended j) c d same is = absurd (cc)
opened_by n k end (found.Reset j code) c d same is = absurd (cc)
opened_by n k end (found.Broken j code) c d same is = absurd (cc)
opened_by n k end (found.GoneAway last) c d same is = absurd (cc)

chunk_by : (n k : ℕ) (end : Bool) (first : Found) (c d : Core) → marks first ≡ found.Chunk k end ∷ [] → On n first c d → Comes n k c d
chunk_by n k end (found.Chunk j last) c d same is = let at : j ≡ k = cc in subst (λ i. Comes n i c d) at is
chunk_by n k end (found.Opened j last) c d same is = absurd (cc)
chunk_by n k end (found.Fault code) c d same is = absurd (cc)
chunk_by n k end found.Silent c d same is = absurd (cc)
chunk_by n k end (found.Ended j) c d same is = absurd (cc)
chunk_by n k end (found.Reset j code) c d same is = absurd (cc)
chunk_by n k end (found.Broken j code) c d same is = absurd (cc)
chunk_by n k end (found.GoneAway last) c d same is = absurd (cc)

by_told : (n : ℕ) (first told : Found) (c d : Connection) → (n ≡ length (chunk_of d told)) → marks first ≡ marks told
    → On n first (core_of c) (core_of d) → CreditableBehind told c d
by_told n first (found.Chunk k end) c d size same is =
    let comes = subst (λ i. Comes i k (core_of c) (core_of d)) size (chunk_by n k end first (core_of c) (core_of d) same is) in
    record { was = comes.was; fits = comes.fits; here = comes.here; others = comes.others }
by_told n first (found.Opened k end) c d size same is = opened_by n k end first (core_of c) (core_of d) same is
by_told n first (found.Fault code) c d size same is = tt
by_told n first found.Silent c d size same is = unmarked n first (core_of c) (core_of d) same is
by_told n first (found.Ended k) c d size same is = unmarked n first (core_of c) (core_of d) same is
by_told n first (found.Reset k code) c d size same is = unmarked n first (core_of c) (core_of d) same is
by_told n first (found.Broken k code) c d size same is = unmarked n first (core_of c) (core_of d) same is
by_told n first (found.GoneAway last) c d size same is = unmarked n first (core_of c) (core_of d) same is

-- so it is at each end
pub looks_add_as : (role : Role) (points more : List Point) (given : List Found) (came written : List ℕ) (c d : Connection) (told : Found)
    → StandsFor role points given came written c → Looks.IsLook c more told d → CreditableBehind told c d
looks_add_as role points more given came written c d told stands look =
    let start = core_of (fresh role) in
    let new : Kept role start = record { lives = lives_new role; flows = flow_new role } in
    let kept = kept_run role points start (core_of c) new stands.runs in
    let step = ran role more (core_of c) (core_of d) kept look.looks look.runs in
    by_told (length (flat_map data_in more)) (last_told more) told c d (ap (λ (xs : List ℕ). length xs) look.hands_out)
    (same_marks c.ended d.ended (last_told more) told
    (ap (λ (ts : List Found). ends_in c.ended ++ ts) (sym (happen more look.looks)) ∙ look.tells)) step.on

pub looks_add : LooksAdd
looks_add = looks_add_as Server

-- WHAT THIS END DOES

pub writes_leave_creditable : WritesLeaveCreditable
writes_leave_creditable c n = wrote_flow (record (core_of c) { out = written n (core_of c).out })

pub puts_leave_creditable : PutsLeaveCreditable
puts_leave_creditable c k bytes =
    let old = core_of c in
    let n = count_put old k bytes in
    cond_both (n == 0) old (sent (record old { flow = spent old.flow k n }) (frame data_kind 0 k (take n bytes)))
    (λ (d : Core). Same old d) (λ is s peer. refl) (λ is s peer. put_same old k n s)

pub answers_leave_creditable : AnswersLeaveCreditable
answers_leave_creditable c k status =
    let old = core_of c in
    cond_both status.end (own_ended (with_due old k (due.Status status)) k) (with_due old k (due.Status status)) (λ (d : Core). Same old d)
    (λ is. due_ended_same old k (due.Status status)) (λ is. due_same old k (due.Status status))

pub ends_leave_creditable : EndsLeaveCreditable
ends_leave_creditable c k = due_ended_same (core_of c) k due.End

pub resets_leave_creditable : ResetsLeaveCreditable
resets_leave_creditable c k code = aborted_same (core_of c) k code

pub uses_take : UsesTake
uses_take c k n = record { here = credit_here (core_of c) k n; others = λ s apart. credit_others (core_of c) k n s apart }

-- EXAMPLES

pub beyond_is_refused : BeyondIsRefused
beyond_is_refused k c d full adds = absurd (omega (arith, adds.fits, full))

pub none_added_is_refused : NoneAddedIsRefused
none_added_is_refused k c peer none adds = absurd (omega (arith, adds.here peer, none))

pub all_may_come : AllMayCome
all_may_come k c d was none closed others = record {
  was = was;
  fits = omega (arith, none);
  here = λ peer. absurd (false≢true (sym closed ∙ peer));
  others = others;
}
