-- A stream on which this end can send: what keeps it so, and that only a window that is used up lets none go.
use Rattle.std.proofs.Common.{◌≡◌, ◌⊎◌, inl, inr, ℕ, zero, suc, ◌+◌, ◌≤◌, ◌==◌, Bool, true, false, min, pos, ◌+ℤ◌, ◌≤ℤ◌, fold, List, [], Ok, Option, Some, None, is_some, refl, ap, sym, ◌∙◌, subst, arith}
use Rattle.std.specs.FinMap.{get}
use Rattle.std.proofs.lemmas.Bool.{cond_both, false≢true}
use Rattle.std.proofs.lemmas.Int.{ints}
use Rattle.hb_frames.specs.RawFrame.{RawFrame}
use Rattle.hb_hpack.specs.declared.header.Header.{Header}
use Rattle.hb_map.proofs.Laws.{put_here}
use Rattle.hb_windows.specs.Sending.{Sending}
use Rattle.hb_streams.specs.Moves.{after_number}
use Rattle.hb_streams.specs.Sides.{both_open, sides_of, state_with}
use Rattle.hb_streams.specs.States.{States, state_of, state_by, state_of_others}
use Rattle.hb_streams.specs.declared.role.Role.{Role}
use Rattle.hb_streams.specs.declared.sides.Sides.{Sides}
use Rattle.hb_flow.specs.Windows.{Windows, room, first_size}
use Rattle.hb_flow.specs.Flows.{sendable_by}
use Rattle.hb_flow.specs.Sizes.{unbegun_on}
use Rattle.hb_outgoing.specs.Selected.{data_size, first_data}
use Rattle.hb_outgoing.specs.Written.{written as out_written}
use Rattle.hb_conn.specs.Connection.{Connection, core_of, fresh_client}
use Rattle.hb_conn.specs.Observed.{output, is_over, own_side_open, sendable, count_put, wrote, opened, data_put, credited}
use Rattle.hb_conn.specs.Windows.{unbegun, unbegun_by}
use Rattle.hb_conn.specs.declared.machine.Core.{Core}
use Rattle.hb_conn.specs.declared.found.Found.{Found}
use Rattle.hb_history.specs.Points.{Point, frames_got}
use Rattle.hb_history.specs.History.{StandsFor}
use Rattle.hb_history.specs.Sending.{increments, size_with}
use Rattle.hb_history.proofs.First.{none_waits}
use Rattle.hb_history.proofs.Initial.{initial_is_last}
use Rattle.hb_history.proofs.Lasting.{IsOpen, SendsBy, parts, Sends, paid_parts, credit_parts}
use Rattle.hb_history.proofs.Lives.{live_streams}
use Rattle.hb_history.proofs.Sent.{connection_sends, streams_send}
use Rattle.hb_history.proofs.Steady.{first_stream}

-- this end's side of the stream is open, and the peer takes frames of 16,384 octets
abbrev pub CanSend : ℕ → Connection → Type 0
CanSend n c = Sends n (core_of c)

-- streams, and what the peer takes, are the same
abbrev pub KeepsStreams : Connection → Connection → Type 0
KeepsStreams c d = parts (core_of d) ≡ parts (core_of c)

pub sends_on : (n : ℕ) (c d : Connection) → KeepsStreams c d → CanSend n c → CanSend n d
sends_on n c d same sends = subst (SendsBy n) (sym same) sends

pub wrote_keeps : (c : Connection) (n : ℕ) → KeepsStreams c (wrote c n)
wrote_keeps c n = paid_parts (record (core_of c) { out = out_written n (core_of c).out })

pub credited_keeps : (c : Connection) (stream n : ℕ) → KeepsStreams c (credited c stream n)
credited_keeps c stream n = credit_parts (core_of c) stream n

pub put_keeps : (c : Connection) (stream : ℕ) (bytes : List ℕ) → KeepsStreams c (data_put c stream bytes)
put_keeps c stream bytes =
    let old = core_of c in
    cond_both (count_put c stream bytes == 0) old _ (λ (d : Core). parts d ≡ parts old) (λ is. refl) (λ is. refl)

-- the first stream of a new client
pub first_sends : (headers : List Header) → CanSend 1 (opened fresh_client 1 headers false)
first_sends headers =
    let old = (core_of fresh_client).streams in
    let had : IsOpen 1 (after_number old (Ok 1)) = (both_open, put_here old.active 1 both_open, refl) in
    (subst (λ r. IsOpen 1 (after_number old r)) (sym first_stream) had, omega arith)

own_by : (w : Sides) → w.own ≡ true → (sides_of (state_with w)).own ≡ true
own_by w own = by w.peer
  where
    by : (peer : Bool) → (sides_of (state_with (record w { peer = peer }))).own ≡ true
    by true = rw own refl
    by false = rw own refl

own_open : (n : ℕ) (s : States) → IsOpen n s → (sides_of (state_of s n)).own ≡ true
own_open n s had = ap (λ o. (sides_of (state_by o (state_of_others s n))).own) had.1 ∙ own_by had.0 had.2

-- where this end can send its side is open
pub side_is_open : (n : ℕ) (c : Connection) → CanSend n c → own_side_open c n ≡ true
side_is_open n c sends = own_open n (core_of c).streams sends.0

-- a window that lets none go
no_room : (s f : ℕ) → min s (min f 16384) ≡ 0 → 16384 ≤ f → s ≡ 0
no_room s f is many = omega (arith, is, many)

either_none : (a b : ℕ) → min a b ≡ 0 → (a ≡ 0) ⊎ (b ≡ 0)
either_none zero b is = inl refl
either_none (suc a) b is = inr (omega (arith, is))

low : (w : Sending) → room w ≡ 0 → w.held ≤ℤ pos 0
low w none = grind (arith, ints, none)

used_by : (w : Sending) (q b g : ℕ) → room w ≡ 0 → q ≡ 0 → ((w.held +ℤ pos q) +ℤ pos b) ≡ pos g → g ≤ b
used_by w q b g none zero_is sum = omega (arith, ints, low w none, zero_is, sum)

-- of no stream's DATA nothing hasn't begun
none_unbegun : (n : ℕ) → unbegun_on 0 0 n ≡ 0
none_unbegun n = cond_both _ 0 0 (λ k. k ≡ 0) (λ is. refl) (λ is. refl)

some_value : {T : Type 0} (o : Option T) → is_some o ≡ true → (x : T) × (o ≡ Some x)
some_value None some = absurd (false≢true some)
some_value (Some x) some = (x, refl)

-- what the peer granted on the connection, or on the stream, is no more than the payload of the DATA frames that have begun
abbrev pub IsUsedUp : ℕ → (begun got : List RawFrame) → Type 0
IsUsedUp n begun got =
    (first_size + increments 0 got ≤ data_size None begun)
    ⊎ (fold size_with first_size got + increments n got ≤ data_size (Some n) begun)

module _ (role : Role) (points : List Point) (given : List Found) (came written : List ℕ) (c : Connection)
    (stands : StandsFor role points given came written c) (still : is_over c ≡ false) (n : ℕ) where
  abbrev k : Core
  k = core_of c

  abbrev got : List RawFrame
  got = frames_got points

  used_windows : (w : Windows) → get k.flow.streams n ≡ Some w → k.out.queue ≡ []
      → (room k.flow.sending ≡ 0) ⊎ (room w.sending ≡ 0) → IsUsedUp n stands.begun got
  used_windows w is none (inl whole) =
      inl (used_by k.flow.sending (unbegun k).size (data_size None stands.begun) (first_size + increments 0 got) whole
      (ap (λ fs. (unbegun_by (first_data fs)).size) none)
      (connection_sends role points given came written c stands still))
  used_windows w is none (inr part) =
      inr (used_by w.sending (unbegun_on (unbegun k).stream (unbegun k).size n) (data_size (Some n) stands.begun)
      (fold size_with first_size got + increments n got) part
      (ap (λ fs. unbegun_on (unbegun_by (first_data fs)).stream (unbegun_by (first_data fs)).size n) none ∙ none_unbegun n)
      (streams_send role points given came written c stands still n w is
      ∙ ap (λ i. pos (i + increments n got)) (initial_is_last role points given came written c stands still)))

  -- where nothing waits, and the stream lets none go, a window is used up
  pub used_up : CanSend n c → output c ≡ [] → sendable c n ≡ 0 → IsUsedUp n stands.begun got
  used_up sends empty shut =
      let lives = live_streams role points given came written c stands still in
      let w = some_value (get k.flow.streams n) (lives.windows n ∙ ap is_some sends.0.1) in
      let none_goes = no_room (sendable_by k.flow (get k.flow.streams n)) k.peer.frame_size shut sends.1 in
      used_windows w.0 w.1 (none_waits k.out empty)
      (either_none (room k.flow.sending) (room w.0.sending) (sym (ap (sendable_by k.flow) w.1) ∙ none_goes))
