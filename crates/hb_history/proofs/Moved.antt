-- Moves of streams by which none begins.
use Rattle.std.proofs.Common.{◌≡◌, ◌≢◌, ℕ, Bool, true, false, cond, ◌||◌, ◌&&◌, ◌==◌, Option, Some, None, Result, Ok, Err, refl, ap, sym, ◌∙◌, subst}
use Rattle.std.specs.FinMap.{get}
use Rattle.std.proofs.lemmas.Bool.{false≢true}
use Rattle.hb_map.specs.Keyed.{written}
use Rattle.hb_map.proofs.Laws.{removed_here, removed_elsewhere, written_elsewhere, written_where_none}
use Rattle.hb_streams.specs.Numbers.{is_even}
use Rattle.hb_frames.specs.Numbers.{data_kind, headers_kind, rst_stream_kind, refused_stream}
use Rattle.hb_streams.specs.Resets.{is_among}
use Rattle.hb_streams.specs.Sides.{sides_of}
use Rattle.hb_streams.specs.States.{States, state_of, state_by, state_of_others}
use Rattle.hb_streams.specs.Answers.{answer_of, data_answer, control_answer}
use Rattle.hb_streams.specs.Moves.{receives, sends_end, sends_reset, after, after_answer, closed, refused, reset, own_side_ended, peer_side_ended, peer_ended}
use Rattle.hb_streams.specs.declared.state.State.{State}
use Rattle.hb_streams.specs.declared.state.State.TheVariants.{Idle, Open, HalfClosedLocal, HalfClosedRemote, Closed, Reset}
use Rattle.hb_streams.specs.declared.sides.Sides.{Sides}
use Rattle.hb_streams.specs.declared.step.Step.{Step}
use Rattle.hb_streams.specs.declared.step.Step.TheVariants.{New, Goes, Ignored}
use Rattle.hb_streams.specs.declared.fault.StreamFault.{StreamFault}
use Rattle.hb_streams.proofs.Begins.{is_new}
use Rattle.hb_conn.specs.Faults.{is_active}
use Rattle.hb_history.proofs.Parts.{MovesOn}

-- the active streams after such a move
abbrev Stays : ℕ → States → States → Type 0
Stays s old new = ((n : ℕ) → n ≢ s → get new.active n ≡ get old.active n) × (get old.active s ≡ None → get new.active s ≡ None)

same : (s : ℕ) (old new : States) → new.active ≡ old.active → Stays s old new
same s old new is = (λ n apart. ap (λ m. get m n) is, λ none. ap (λ m. get m s) is ∙ none)

removed : (s : ℕ) (old : States) → Stays s old (closed old s)
removed s old = (λ n apart. removed_elsewhere old.active s n apart, λ none. removed_here old.active s)

sides_by : (s : ℕ) (old : States) (sides : Sides) (b : Bool)
    → Stays s old (cond b (record old { active = written old.active s sides }) (closed old s))
sides_by s old sides true = (
  λ n apart. written_elsewhere old.active s sides n apart,
  λ none. ap (λ m. get m s) (written_where_none old.active s sides none) ∙ none,
)
sides_by s old sides false = removed s old

own_ends : (s : ℕ) (old : States) (o : Option Sides) → Stays s old (own_side_ended old s o)
own_ends s old None = same s old old refl
own_ends s old (Some sides) = sides_by s old (record sides { own = false }) (false || sides.peer)

peer_ends : (s : ℕ) (old : States) (o : Option Sides) → Stays s old (peer_side_ended old s o)
peer_ends s old None = same s old old refl
peer_ends s old (Some sides) = sides_by s old (record sides { peer = false }) (sides.own || false)

going_by : (s : ℕ) (old : States) (a b : Bool) → Stays s old (cond a (closed old s) (cond b (peer_ended old s) old))
going_by s old true b = removed s old
going_by s old false true = peer_ends s old (get old.active s)
going_by s old false false = same s old old refl

refused_by : (q s : ℕ) (old : States) (b : Bool) → Stays q old (cond b (refused old s) old)
refused_by q s old true = same q old (refused old s) refl
refused_by q s old false = same q old old refl

answered : (s : ℕ) (old : States) (kind : ℕ) (end : Bool) (r : Result Step StreamFault) → is_new r ≡ false
    → Stays s old (after_answer old kind s end r)
answered s old kind end (Ok New) old_one = absurd (false≢true (sym old_one))
answered s old kind end (Ok Goes) old_one =
    going_by s old (kind == rst_stream_kind) (end && (kind == data_kind || kind == headers_kind))
answered s old kind end (Ok Ignored) old_one = same s old old refl
answered s old kind end (Err fault) old_one = refused_by s s old (fault.code == refused_stream)

-- a frame by which no stream begins
pub received : (s : ℕ) (old : States) (kind : ℕ) (end : Bool) → is_new (answer_of old kind s) ≡ false
    → MovesOn s old (after old (receives kind s end))
received s old kind end none =
    let stays = answered s old kind end (answer_of old kind s) none in
    record { move = receives kind s end; is = refl; elsewhere = stays.0; fewer = stays.1 }

-- one that is refused changes no active stream
pub received_refused : (q s : ℕ) (old : States) (kind : ℕ) (end : Bool) (fault : StreamFault) → answer_of old kind s ≡ Err fault
    → MovesOn q old (after old (receives kind s end))
received_refused q s old kind end fault is =
    let stays : Stays q old (after old (receives kind s end)) =
    subst (λ (r : Result Step StreamFault). Stays q old (after_answer old kind s end r)) (sym is)
    (refused_by q s old (fault.code == refused_stream)) in
    record { move = receives kind s end; is = refl; elsewhere = stays.0; fewer = stays.1 }

pub own_ended : (s : ℕ) (old : States) → MovesOn s old (after old (sends_end s))
own_ended s old =
    let stays = own_ends s old (get old.active s) in
    record { move = sends_end s; is = refl; elsewhere = stays.0; fewer = stays.1 }

pub was_reset : (s : ℕ) (old : States) → MovesOn s old (reset old s)
was_reset s old =
    let stays = removed s old in record { move = sends_reset s; is = refl; elsewhere = stays.0; fewer = stays.1 }

data_none : (n : ℕ) (st : State) → is_new (data_answer n st) ≡ false
data_none n Idle = refl
data_none n Open = refl
data_none n HalfClosedLocal = refl
data_none n HalfClosedRemote = refl
data_none n Closed = refl
data_none n Reset = refl

control_none : (st : State) → is_new (control_answer st) ≡ false
control_none Idle = refl
control_none Open = refl
control_none HalfClosedLocal = refl
control_none HalfClosedRemote = refl
control_none Closed = refl
control_none Reset = refl

-- no stream begins with DATA or RST_STREAM
pub data_begins_none : (s : ℕ) (old : States) → is_new (answer_of old data_kind s) ≡ false
data_begins_none s old = data_none s (state_of old s)

pub reset_begins_none : (s : ℕ) (old : States) → is_new (answer_of old rst_stream_kind s) ≡ false
reset_begins_none s old = control_none (state_of old s)

-- a RST_STREAM that goes closes its stream
pub reset_closes : (s : ℕ) (old : States) (end : Bool) → answer_of old rst_stream_kind s ≡ Ok Goes
    → after old (receives rst_stream_kind s end) ≡ closed old s
reset_closes s old end is = ap (after_answer old rst_stream_kind s end) is

-- a stream that has no sides isn't active
others_by : (s : ℕ) (even above among : Bool)
    → (sides_of (cond (even || above) Idle (cond among Reset Closed))).own ||
    (sides_of (cond (even || above) Idle (cond among Reset Closed))).peer ≡ false
others_by s true above among = refl
others_by s false true among = refl
others_by s false false true = refl
others_by s false false false = refl

pub no_sides : (s : ℕ) (st : States) → get st.active s ≡ None → is_active st s ≡ false
no_sides s st none =
    ap (λ o. (sides_of (state_by o (state_of_others st s))).own || (sides_of (state_by o (state_of_others st s))).peer) none
    ∙ others_by s (is_even s) _ (is_among st.resets s)

pub closed_inactive : (s : ℕ) (st : States) → is_active (closed st s) s ≡ false
closed_inactive s st = no_sides s (closed st s) (removed_here st.active s)

pub reset_inactive : (s : ℕ) (st : States) → is_active (reset st s) s ≡ false
reset_inactive s st = no_sides s (reset st s) (removed_here st.active s)
