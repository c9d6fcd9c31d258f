-- A stream that is the only one, with what is received on it.
use Rattle.std.proofs.Common.{◌≡◌, ◌≢◌, inl, inr, ℕ, ◌==◌, ◌&&◌, ◌||◌, Bool, true, false, cond, Option, Some, None, Result, Ok, Err, refl, ap, sym, ◌∙◌}
use Rattle.std.specs.FinMap.{get}
use Rattle.std.proofs.lemmas.Bool.{cond_both, cases_eq}
use Rattle.hb_streams.specs.Answers.{data_answer, headers_answer, answer_of}
use Rattle.hb_streams.specs.Moves.{receives, after, after_answer, peer_ended, peer_side_ended, closed}
use Rattle.hb_frames.specs.Numbers.{data_kind, headers_kind, rst_stream_kind, refused_stream}
use Rattle.hb_streams.specs.Sides.{sides_of, state_with}
use Rattle.hb_streams.specs.States.{States, state_of, state_by, state_of_others, is_full}
use Rattle.hb_streams.specs.declared.role.Role.{Role}
use Rattle.hb_streams.specs.declared.role.Role.TheVariants.{Client}
use Rattle.hb_streams.specs.declared.sides.Sides.{Sides}
use Rattle.hb_streams.specs.declared.state.State.{State}
use Rattle.hb_streams.specs.declared.state.State.TheVariants as state
use Rattle.hb_streams.specs.declared.step.Step.{Step}
use Rattle.hb_streams.specs.declared.step.Step.TheVariants as step
use Rattle.hb_streams.specs.declared.fault.StreamFault.{StreamFault}
use Rattle.hb_streams.proofs.Begins.{is_new}
use Rattle.hb_conn.specs.Faults.{is_active}
use Rattle.hb_history.specs.OwnFrames.{first_stream}
use Rattle.hb_history.proofs.Lasting.{IsOpen, answer_open}
use Rattle.hb_history.proofs.Moved as moved

-- the stream is the only one that is open or half-closed, and this end's side of it is open
abbrev pub IsAlone : States → Type 0
IsAlone s = (s.role ≡ Client) × IsOpen first_stream s × ((q : ℕ) → q ≢ first_stream → get s.active q ≡ None)

-- and the peer's
abbrev pub IsPeerOpen : States → Type 0
IsPeerOpen s = (sides_of (state_of s first_stream)).peer ≡ true

active_by : (w : Sides) → w.own ≡ true → ((sides_of (state_with w)).own || (sides_of (state_with w)).peer) ≡ true
active_by w own = by w.peer
  where
    by : (peer : Bool)
        → ((sides_of (state_with (record w { peer = peer }))).own || (sides_of (state_with (record w { peer = peer }))).peer) ≡ true
    by true = rw own refl
    by false = rw own refl

pub is_live : (s : States) → IsAlone s → is_active s first_stream ≡ true
is_live s alone =
    let other = state_of_others s first_stream in
    ap (λ o. (sides_of (state_by o other)).own || (sides_of (state_by o other)).peer) alone.1.1 ∙ active_by alone.1.0 alone.1.2

-- frames with which the peer's frames go, go on this stream

no_data : (n : ℕ) (a b : Bool) → data_answer n (cond a state.Idle (cond b state.Reset state.Closed)) ≡ Ok step.Goes → ⊥
no_data n true b is = absurd cc
no_data n false true is = absurd cc
no_data n false false is = absurd cc

no_headers : (full : Bool) (n : ℕ) (a b : Bool)
    → headers_answer Client full n (cond a state.Idle (cond b state.Reset state.Closed)) ≡ Ok step.Goes → ⊥
no_headers full n true b is = absurd cc
no_headers full n false true is = absurd cc
no_headers full n false false is = absurd cc

none_new : (full : Bool) (n : ℕ) (st : State) → headers_answer Client full n st ≡ Ok step.New → ⊥
none_new full n state.Idle is = absurd cc
none_new full n state.Open is = absurd cc
none_new full n state.HalfClosedLocal is = absurd cc
none_new full n state.HalfClosedRemote is = absurd cc
none_new full n state.Closed is = absurd cc
none_new full n state.Reset is = absurd cc

pub data_here : (s : States) (n : ℕ) → IsAlone s → answer_of s data_kind n ≡ Ok step.Goes → n ≡ first_stream
data_here s n alone is = elim (cases_eq n first_stream) [
  | inl same ↦ same
  | inr apart ↦ absurd (no_data n _ _
      (sym (ap (λ o. data_answer n (state_by o (state_of_others s n))) (alone.2 n apart)) ∙ is))
]

pub headers_here : (s : States) (n : ℕ) → IsAlone s → answer_of s headers_kind n ≡ Ok step.Goes → n ≡ first_stream
headers_here s n alone is = elim (cases_eq n first_stream) [
  | inl same ↦ same
  | inr apart ↦ absurd (no_headers (is_full s) n _ _
      (sym (ap (λ (r : Role). headers_answer r (is_full s) n (state_of_others s n)) alone.0)
      ∙ sym (ap (λ o. headers_answer s.role (is_full s) n (state_by o (state_of_others s n))) (alone.2 n apart)) ∙ is))
]

pub no_new : (s : States) (n : ℕ) → IsAlone s → answer_of s headers_kind n ≡ Ok step.New → ⊥
no_new s n alone is =
    none_new (is_full s) n (state_of s n) (sym (ap (λ (r : Role). headers_answer r (is_full s) n (state_of s n)) alone.0) ∙ is)

-- with what is received on it the stream stays the only one

sides_role : (s : States) (n : ℕ) (b : Bool) (t : States) → t.role ≡ s.role → (cond b t (closed s n)).role ≡ s.role
sides_role s n true t same = same
sides_role s n false t same = refl

peer_role : (s : States) (n : ℕ) (o : Option Sides) → (peer_side_ended s n o).role ≡ s.role
peer_role s n None = refl
peer_role s n (Some w) = sides_role s n (w.own || false) _ refl

going_role : (s : States) (n : ℕ) (a b : Bool) → (cond a (closed s n) (cond b (peer_ended s n) s)).role ≡ s.role
going_role s n true b = refl
going_role s n false true = peer_role s n (get s.active n)
going_role s n false false = refl

answer_role : (s : States) (kind n : ℕ) (end : Bool) (r : Result Step StreamFault) → (after_answer s kind n end r).role ≡ s.role
answer_role s kind n end (Ok step.New) = refl
answer_role s kind n end (Ok step.Goes) = going_role s n (kind == rst_stream_kind) (end && (kind == data_kind || kind == headers_kind))
answer_role s kind n end (Ok step.Ignored) = refl
answer_role s kind n end (Err why) = cond_both (why.code == refused_stream) _ s (λ (t : States). t.role ≡ s.role) (λ is. refl) (λ is. refl)

pub received : (s : States) (kind : ℕ) (end : Bool) → (kind == rst_stream_kind) ≡ false
    → is_new (answer_of s kind first_stream) ≡ false → IsAlone s → IsAlone (after s (receives kind first_stream end))
received s kind end other none alone = (
  answer_role s kind first_stream end (answer_of s kind first_stream) ∙ alone.0,
  answer_open first_stream s kind first_stream end (answer_of s kind first_stream) other alone.1,
  λ q apart. (moved.received first_stream s kind end none).elsewhere q apart ∙ alone.2 q apart,
)

-- HEADERS that don't end the peer's side leave the streams
pub headers_leave : (s : States) → answer_of s headers_kind first_stream ≡ Ok step.Goes
    → after s (receives headers_kind first_stream false) ≡ s
headers_leave s is = ap (after_answer s headers_kind first_stream false) is

-- DATA on the stream isn't ignored
ignored_by : (w : Sides) → w.own ≡ true → data_answer first_stream (state_with w) ≡ Ok step.Ignored → ⊥
ignored_by w own = by w.peer
  where
    by : (peer : Bool) → data_answer first_stream (state_with (record w { peer = peer })) ≡ Ok step.Ignored → ⊥
    by true = rw own (λ is. absurd cc)
    by false = rw own (λ is. absurd cc)

pub not_ignored : (s : States) → IsAlone s → answer_of s data_kind first_stream ≡ Ok step.Ignored → ⊥
not_ignored s alone is =
    ignored_by alone.1.0 alone.1.2
    (sym (ap (λ o. data_answer first_stream (state_by o (state_of_others s first_stream))) alone.1.1) ∙ is)
