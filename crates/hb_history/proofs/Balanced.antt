-- Sending windows as sums, move after move.
use Rattle.std.proofs.Common.{◌≡◌, ◌≢◌, ◌⊎◌, inl, inr, ℕ, ◌-◌, ◌≤◌, ◌==◌, ◌&&◌, ◌||◌, Bool, true, false, cond, pos, ◌+ℤ◌, ◌≤ℤ◌, List, [], ◌∷◌, ◌++◌, length, take, Option, Some, None, is_some, refl, ap, sym, ◌∙◌, subst, arith}
use Rattle.std.specs.Prelude.{min, nat_lt, nat_le}
use Rattle.std.specs.FinMap.{get}
use Rattle.std.proofs.lemmas.Bool.{false≢true}
use Rattle.std.proofs.lemmas.Bool.Decides.{nat_tests}
use Rattle.std.proofs.lemmas.List.{append_assoc, append-nil, length-take-le}
use Rattle.hb_frames.specs.RawFrame.{RawFrame}
use Rattle.hb_frames.specs.Numbers.{data_kind, window_update_kind, protocol_error, largest}
use Rattle.hb_frames.specs.Refusals.{increment_of}
use Rattle.hb_frames.specs.Bodies.{lent_of}
use Rattle.hb_streams.specs.Numbers.{is_even}
use Rattle.hb_streams.specs.Resets.{is_among}
use Rattle.hb_streams.specs.States.{States, state_of, state_by}
use Rattle.hb_streams.specs.declared.role.Role.{Role}
use Rattle.hb_streams.specs.declared.sides.Sides.{Sides}
use Rattle.hb_streams.specs.declared.state.State.TheVariants.{Idle, Closed, Reset}
use Rattle.hb_streams.proofs.Begins.{is_idle}
use Rattle.hb_streams.proofs.Follows.{highest_stays}
use Rattle.hb_flow.specs.Windows.{Windows}
use Rattle.hb_flow.specs.Flows.{Flows, closed, spent, sendable_by}
use Rattle.hb_flow.specs.Sizes.{Fits}
use Rattle.hb_outgoing.specs.Waiting.{octets_of}
use Rattle.hb_outgoing.specs.Written.{begun_by, written}
use Rattle.hb_outgoing.specs.Selected.{has_data}
use Rattle.hb_owed.specs.Debts.{closed as owed_closed}
use Rattle.hb_conn.specs.Frames.{frame, sent}
use Rattle.hb_conn.specs.Faults.{faulted, is_active}
use Rattle.hb_conn.specs.Glance.{glance_at}
use Rattle.hb_conn.specs.Handling.{Handles, HandlesBy}
use Rattle.hb_conn.specs.Payload.{allowed, count_put}
use Rattle.hb_conn.specs.Places.{is_misplaced}
use Rattle.hb_conn.specs.Windows.{unbegun}
use Rattle.hb_conn.specs.declared.machine.Core.{Core}
use Rattle.hb_conn.specs.declared.found.Found.{Found}
use Rattle.hb_conn.specs.declared.glance.Glance.{Glance}
use Rattle.hb_conn.specs.declared.glance.Glance.TheVariants as glance
use Rattle.hb_history.specs.Points.{Move, got, refused, misbegan, opened, answered, ended, reset, credited, put, wrote, Point, point, After, RunsWith, begins_by, got_by, frames_got}
use Rattle.hb_history.specs.Waits.{IsFirst}
use Rattle.hb_history.specs.Calls.{IsAct}
use Rattle.hb_history.proofs.Parts.{Amid, calm, amid, ending, gone, Keeps, Puts, PutsAck, Resizes}
use Rattle.hb_history.proofs.Kept as kept
use Rattle.hb_history.proofs.Handled.{Grows, window_keeps, settings_keep, ping_keeps, handles_keep}
use Rattle.hb_history.proofs.Acted.{act_keeps}
use Rattle.hb_history.proofs.Shown.{out_keeps, out_puts, out_grows}
use Rattle.hb_history.proofs.First.{first_keeps, first_puts, first_acks, first_written}
use Rattle.hb_history.proofs.Lives.{Lives, Moved, used, used_some, inactive_none, lives_keep, lives_puts, lives_acks, lives_resize, lives_grow}
use Rattle.hb_history.proofs.Flowed.{put_within}
use Rattle.hb_history.proofs.Payloads.{size_append, size_push, size_begun, no_size, IsAll, is_all}
use Rattle.hb_history.proofs.Sums as sums
use Rattle.hb_history.proofs.Sums.{Sums, Counts, Passes, SameSending, same_flows, still_passes, carried}
use Rattle.hb_history.proofs.Grants as grants
use Rattle.hb_history.proofs.Glanced.{window_is, no_window, is_window}

abbrev pub Sent : Role → List RawFrame → List RawFrame → Amid → Core → Type 0
Sent role frames begun a c =
    IsFirst c.out × Lives role a c × (c.over ≡ false → Sums frames begun a c.flow c.out.queue c.streams.highest)

all_of : (c : Core) → IsFirst c.out → IsAll c.out.queue (unbegun c)
all_of c first = is_all c.out.rest c.out.queue first

fault_over : (c : Core) (code : ℕ) → (faulted c code).core.over ≡ true
unfolding faulted
fault_over c code = refl

no_sum : (c : Core) (code : ℕ) (T : Type 0) → (faulted c code).core.over ≡ false → T
no_sum c code T still = absurd (false≢true (sym still ∙ fault_over c code))

-- nothing changes that is summed
still_sums : (frames begun queue : List RawFrame) (a b : Amid) (f g : Flows) (highest high : ℕ) → ((n : ℕ) → Counts b n → Counts a n)
    → SameSending f g → highest ≤ high → Sums frames begun a f queue highest → Sums frames begun b g queue high
still_sums frames begun queue a b f g highest high counts same more s =
    carried frames frames (λ n. refl) begun queue begun queue a b f g highest high (still_passes begun queue) counts same more s

-- a frame without payload that windows count
push_passes : (begun queue : List RawFrame) (f : RawFrame) → has_data f ≡ false → Passes begun queue begun (queue ++ f ∷ [])
push_passes begun queue f none = record {
  both = λ x. omega (arith, size_push x queue f, no_size x f none);
  less = λ x. omega (arith, size_push x queue f, no_size x f none);
}

-- which streams have windows, and what their numbers are

none_of : {T : Type 0} (o : Option T) → (is_some o ≡ true → false ≡ true) → o ≡ None
none_of None none = refl
none_of (Some x) none = absurd (false≢true (none refl))

module _ (role : Role) (c : Core) (lives : Lives role calm c) (still : c.over ≡ false) where
  low : (n : ℕ) → is_some (get c.flow.streams n) ≡ true → n ≤ c.streams.highest
  low n some = (used_some role c.streams n lives.0 ((lives.1 still).only n tt some)).2.1

  none_at_zero : get c.flow.streams 0 ≡ None
  none_at_zero = none_of (get c.flow.streams 0) (λ some.
      sym (used_some role c.streams 0 lives.0 ((lives.1 still).only 0 tt some)).2.0)

  none_inactive : (n : ℕ) → is_active c.streams n ≡ false → get c.flow.streams n ≡ None
  none_inactive n off = none_of (get c.flow.streams n) (λ some.
      inactive_none role c.streams n lives.0 off ((lives.1 still).only n tt some))

used_by : (role : Role) (s : States) (n : ℕ) → Moved role s → (o : Option Sides) (even above among : Bool) → get s.active n ≡ o
    → nat_lt s.highest n ≡ above → is_idle (state_by o (cond (even || above) Idle (cond among Reset Closed))) ≡ false → n ≤ s.highest
used_by role s n moved (Some sides) even above among is test live = (used role s n sides moved is).1
used_by role s n moved None true above among is test live = absurd (false≢true (sym live))
used_by role s n moved None false true among is test live = absurd (false≢true (sym live))
used_by role s n moved None false false among is test live = grind (arith, nat_tests, test)

used_low : (role : Role) (s : States) (n : ℕ) → Moved role s → is_idle (state_of s n) ≡ false → n ≤ s.highest
used_low role s n moved live =
    used_by role s n moved (get s.active n) (is_even n) (nat_lt s.highest n) (is_among s.resets n) refl refl live

-- how much is put

length_by : (o a b : Bool) (n x y : ℕ) → n ≡ cond o 0 (cond (a && b) (min x y) 0) → n ≤ x
length_by true a b n x y is = omega (arith, is)
length_by false true true n x y is = omega (arith, is)
length_by false true false n x y is = omega (arith, is)
length_by false false b n x y is = omega (arith, is)

pub put_length : (c : Core) (s : ℕ) (bytes : List ℕ) → length (take (count_put c s bytes) bytes) ≡ count_put c s bytes
put_length c s bytes =
    length-take-le (count_put c s bytes) bytes
    (length_by c.over (nat_le s largest) (length (octets_of c.out) == 0) (count_put c s bytes) (length bytes) (allowed c s) refl)

has_window : (f : Flows) (o : Option Windows) (n : ℕ) → (n == 0) ≡ false → n ≤ sendable_by f o → is_some o ≡ true
has_window f None n some within = absurd (false≢true (sym some ∙ grind (arith, nat_tests, within)))
has_window f (Some w) n some within = refl

module _ (role : Role) (frames begun : List RawFrame) where
  released_sums : (s : ℕ) (c : Core) (b : Bool) → (c.over ≡ false → Sums frames begun (ending s) c.flow c.out.queue c.streams.highest)
      → let d = cond b c (record c { flow = closed c.flow s; owed = owed_closed c.owed s }) in
      d.over ≡ false → Sums frames begun calm d.flow d.out.queue d.streams.highest
  released_sums s c true h still =
      still_sums frames begun c.out.queue (ending s) calm c.flow c.flow c.streams.highest c.streams.highest (λ n u. tt) (same_flows c.flow)
      (omega arith) (h still)
  released_sums s c false h still =
      still_sums frames begun c.out.queue (ending s) calm c.flow (closed c.flow s) c.streams.highest c.streams.highest (λ n u. tt)
      (sums.closed_same c.flow s) (omega arith) (h still)

  put_by : (c : Core) (s : ℕ) (bytes : List ℕ) → Sent role frames begun calm c → (b : Bool) → (count_put c s bytes == 0) ≡ b
      → let d = cond b c (sent (record c { flow = spent c.flow s (count_put c s bytes) })
      (frame data_kind 0 s (take (count_put c s bytes) bytes))) in
      d.over ≡ false → Sums frames begun calm d.flow d.out.queue d.streams.highest
  put_by c s bytes h true is still = h.2 still
  put_by c s bytes h false is still =
      let small = low role c h.1 still s (has_window c.flow (get c.flow.streams s) (count_put c s bytes) is (put_within c s bytes)) in
      sums.put_sums frames begun c.out.queue c.flow c.streams.highest s (count_put c s bytes) bytes (put_length c s bytes) small (h.2 still)

  -- a frame without payload that windows count
  pushed_sums : (a : Amid) (c : Core) (f : RawFrame) → has_data f ≡ false → Sums frames begun a c.flow c.out.queue c.streams.highest
      → Sums frames begun a c.flow (c.out.queue ++ f ∷ []) c.streams.highest
  pushed_sums a c f none s =
      carried frames frames (λ n. refl) begun c.out.queue begun (c.out.queue ++ f ∷ []) a a c.flow c.flow c.streams.highest
      c.streams.highest (push_passes begun c.out.queue f none) (λ n u. u) (same_flows c.flow) (omega arith) s

  pub sent_keeps : Keeps (Sent role frames begun)
  sent_keeps =
      let first = out_keeps IsFirst first_keeps in
      let lives = lives_keep role in
      record {
        ends = λ s c h. (
          h.0,
          lives.ends s c h.1,
          λ still. still_sums frames begun c.out.queue calm (ending s) c.flow c.flow
              c.streams.highest c.streams.highest (λ n u. tt) (same_flows c.flow) (omega arith) (h.2 still),
        );
        goes = λ s c h. (
          h.0,
          lives.goes s c h.1,
          λ still. still_sums frames begun c.out.queue (ending s) (gone s) c.flow c.flow
              c.streams.highest c.streams.highest (λ n u. tt) (same_flows c.flow) (omega arith) (h.2 still),
        );
        other = λ a c e b p t h. h;
        sends = λ a c f plain h. (
          first.sends a c f plain h.0,
          lives.sends a c f plain h.1,
          λ still. pushed_sums a c f plain.0 (h.2 still),
        );
        owes = λ a c m keeps h. (h.0, lives.owes a c m keeps h.1, h.2);
        moves = λ b s c t on h. (
          h.0,
          lives.moves b s c t on h.1,
          λ still. still_sums frames begun c.out.queue (amid b s) (amid b s) c.flow c.flow c.streams.highest t.highest (λ n u. u)
              (same_flows c.flow)
              (subst (λ (u : States). c.streams.highest ≤ u.highest) (sym on.is) (highest_stays c.streams on.move)) (h.2 still),
        );
        withdraws = λ s c h. (
          first.withdraws s c h.0,
          lives.withdraws s c h.1,
          λ still. sums.back_sums frames begun c.out.queue c.flow c.streams.highest s (h.2 still),
        );
        releases = λ s c h. (first.releases s c h.0, lives.releases s c h.1, released_sums s c (is_active c.streams s) h.2);
        leaves = λ s c none h. (
          h.0,
          lives.leaves s c none h.1,
          λ still. sums.left_sums frames begun c.out.queue c.flow c.streams.highest s (h.2 still),
        );
        takes_in = λ a c m taking may h. (
          h.0,
          lives.takes_in a c m taking may h.1,
          λ still. still_sums frames begun c.out.queue a a c.flow _ c.streams.highest c.streams.highest (λ n u. u)
              (sums.taking_kept c.flow m taking) (omega arith) (h.2 still),
        );
        begins = λ s c sides m above becomes h. (
          h.0,
          lives.begins s c sides m above becomes h.1,
          λ still. sums.opened_sums frames begun c.out.queue c.flow c.streams.highest s above (h.2 still),
        );
        faults = λ a c f code h. (
          first.faults a c f code h.0,
          lives.faults a c f code h.1,
          λ still. no_sum
              (record c { flow = f }) code _ still,
        );
      }

  pub sent_puts : Puts (Sent role frames begun)
  sent_puts c s bytes h = (
    out_puts IsFirst first_puts c s bytes h.0,
    lives_puts role c s bytes h.1,
    put_by c s bytes h (count_put c s bytes == 0) refl,
  )

  pub sent_acks : PutsAck (Sent role frames begun)
  sent_acks c f answer h =
      (first_acks c f answer h.0, lives_acks role c f answer h.1, λ still. pushed_sums calm c f answer.0 (h.2 still))

  pub sent_resizes : Resizes (Sent role frames begun)
  sent_resizes c k within fits h = (
    h.0,
    lives_resize role c k within fits h.1,
    λ still. sums.resized_sums frames begun c.out.queue c.flow c.streams.highest k within
        (λ n. subst (λ q. Fits k q (get c.flow.streams n)) (sym ((all_of c h.0).one n)) (fits n)) (h.2 still),
  )

  -- a WINDOW_UPDATE
  pub sent_grows : (c : Core) (f : RawFrame) → (f.kind == window_update_kind) ≡ true → Sent role frames begun calm c
      → Grows (Sent role (frames ++ f ∷ []) begun) c f.stream (increment_of f)
  sent_grows c f kind h =
      let first = out_grows IsFirst first_keeps c f.stream (increment_of f) h.0 in
      let lives = lives_grow role c f.stream (increment_of f) h.1 in
      record {
        fault = λ code. (first.fault code, lives.fault code, λ still. no_sum c code _ still);
        whole = λ zero fits. (
          first.whole zero fits,
          lives.whole zero fits,
          λ still. grants.whole_granted frames begun c.out.queue c.flow c.streams.highest f kind zero (none_at_zero role c h.1 still)
              (subst (λ q. ((c.flow.sending.held +ℤ pos q) +ℤ pos (increment_of f)) ≤ℤ pos largest) (sym (all_of c h.0).whole) fits)
              (h.2 still),
        );
        one = λ some w is fits. (
          first.one some w is fits,
          lives.one some w is fits,
          λ still. grants.one_granted frames begun c.out.queue c.flow c.streams.highest f kind (not_zero some)
              (low role c h.1 still f.stream (ap is_some is)) w is
              (subst (λ q. ((w.sending.held +ℤ pos q) +ℤ pos (increment_of f)) ≤ℤ pos largest) (sym ((all_of c h.0).one f.stream)) fits)
              (h.2 still),
        );
        broken = λ some live. (
          first.broken some live,
          lives.broken some live,
          λ still. grants.gone_granted frames begun c.out.queue c.flow c.streams.highest f kind (not_zero some)
              (used_low role c.streams f.stream h.1.0 live) (h.2 still),
        );
        ignored = λ some live why. (
          first.ignored some live why,
          lives.ignored some live why,
          λ still. grants.none_granted frames begun c.out.queue c.flow c.streams.highest f kind (not_zero some)
              (used_low role c.streams f.stream h.1.0 live) (none_by why still) (h.2 still),
        );
      }
    where
      not_zero : (f.stream == 0) ≡ false → f.stream ≢ 0
      not_zero some zero = absurd (false≢true (sym some ∙ grind (arith, nat_tests, zero)))

      none_by : (get c.flow.streams f.stream ≡ None) ⊎ (is_active c.streams f.stream ≡ false) → c.over ≡ false
          → get c.flow.streams f.stream ≡ None
      none_by (inl none) still = none
      none_by (inr off) still = none_inactive role c h.1 still f.stream off

window_by : (role : Role) (frames begun : List RawFrame) (c : Core) (f : RawFrame) → (f.kind == window_update_kind) ≡ true
    → Sent role frames begun calm c → (b : Bool) (bytes : List ℕ) (new : Core) (told : Found)
    → HandlesBy b c (glance.Window f.stream (increment_of f)) bytes new told → Sent role (frames ++ f ∷ []) begun calm new
window_by role frames begun c f kind h true bytes new told is =
    subst (Sent role (frames ++ f ∷ []) begun calm) (sym is.0) ((sent_grows role frames begun c f kind h).fault protocol_error)
window_by role frames begun c f kind h false bytes new told is =
    subst (Sent role (frames ++ f ∷ []) begun calm) (sym is.0)
    (window_keeps (Sent role (frames ++ f ∷ []) begun) (sent_keeps role (frames ++ f ∷ []) begun) c f.stream (increment_of f)
    (sent_grows role frames begun c f kind h))

-- a frame that is no WINDOW_UPDATE
with_frame : (role : Role) (frames begun : List RawFrame) (c : Core) (f : RawFrame) → (f.kind == window_update_kind) ≡ false
    → Sent role frames begun calm c → Sent role (frames ++ f ∷ []) begun calm c
with_frame role frames begun c f kind h = (
  h.0,
  h.1,
  λ still. carried frames (frames ++ f ∷ []) (λ n. grants.grants_nothing n frames f kind) begun c.out.queue begun c.out.queue calm calm
      c.flow c.flow c.streams.highest c.streams.highest (still_passes begun c.out.queue) (λ n u. u) (same_flows c.flow) (omega arith)
      (h.2 still),
)

got_by_kind : (role : Role) (frames begun : List RawFrame) (c : Core) (f : RawFrame) (b : Bool) → (f.kind == window_update_kind) ≡ b
    → Sent role frames begun calm c → (new : Core) (told : Found) → Handles c (glance_at f) (lent_of f) new told
    → Sent role (frames ++ f ∷ []) begun calm new
got_by_kind role frames begun c f true kind h new told is =
    window_by role frames begun c f kind h (is_misplaced c (glance.Window f.stream (increment_of f))) (lent_of f) new told
    (subst (λ (g : Glance). Handles c g (lent_of f) new told) (window_is f kind) is)
got_by_kind role frames begun c f false kind h new told is =
    handles_keep (Sent role (frames ++ f ∷ []) begun) (sent_keeps role (frames ++ f ∷ []) begun) c (glance_at f) (lent_of f) new told
    (with_frame role frames begun c f kind h)
    (λ s n e. absurd (false≢true (sym (no_window f kind) ∙ ap is_window e)))
    (λ ack e does. settings_keep (Sent role (frames ++ f ∷ []) begun) (sent_keeps role (frames ++ f ∷ []) begun)
    (sent_resizes role (frames ++ f ∷ []) begun) (sent_acks role (frames ++ f ∷ []) begun) ack c (lent_of f) new told
    (with_frame role frames begun c f kind h) does)
    (λ ack value e. ping_keeps (Sent role (frames ++ f ∷ []) begun) (sent_keeps role (frames ++ f ∷ []) begun)
    (sent_acks role (frames ++ f ∷ []) begun) c ack value (with_frame role frames begun c f kind h)) is

write_passes : (c : Core) (n : ℕ) (begun : List RawFrame)
    → Passes begun c.out.queue (begun ++ begun_by n c.out) (written n c.out).queue
write_passes c n begun = record {
  both = λ x. omega (arith, size_append x begun (begun_by n c.out), size_begun x (n - length c.out.rest) c.out.queue);
  less = λ x. omega (arith, size_begun x (n - length c.out.rest) c.out.queue);
}

wrote_by : (role : Role) (frames begun : List RawFrame) (c : Core) (n : ℕ) → Sent role frames begun calm c
    → Sent role frames (begun ++ begun_by n c.out) calm (record c { out = written n c.out })
wrote_by role frames begun c n h = (
  first_written c.out n h.0,
  h.1,
  λ still. carried frames frames (λ m. refl) begun c.out.queue (begun ++ begun_by n c.out) (written n c.out).queue calm calm c.flow c.flow
      c.streams.highest c.streams.highest (write_passes c n begun) (λ m u. u) (same_flows c.flow) (omega arith) (h.2 still),
)

no_more : (role : Role) (frames begun : List RawFrame) (new : Core) → Sent role frames begun calm new
    → Sent role (frames ++ []) (begun ++ []) calm new
no_more role frames begun new h =
    subst (λ (fs : List RawFrame). Sent role fs (begun ++ []) calm new) (sym (append-nil frames))
    (subst (λ (fs : List RawFrame). Sent role frames fs calm new) (sym (append-nil begun)) h)

-- an act of this end
acts : (role : Role) (frames begun : List RawFrame) (c : Core) (m : Move) (new : Core) (told : Found) → IsAct m
    → Sent role frames begun calm c → After c m new told → Sent role (frames ++ []) (begun ++ []) calm new
acts role frames begun c m new told act h is =
    no_more role frames begun new
    (act_keeps (Sent role frames begun) (sent_keeps role frames begun) c
    (λ s bytes. sent_puts role frames begun c s bytes h) m new told act h is)

-- one move
pub moves : (role : Role) (frames begun : List RawFrame) (c : Core) (m : Move) (new : Core) (told : Found) → Sent role frames begun calm c
    → After c m new told → Sent role (frames ++ got_by (point m told)) (begun ++ begins_by c m) calm new
moves role frames begun c (got f) new told h is =
    subst (λ (fs : List RawFrame). Sent role (frames ++ f ∷ []) fs calm new) (sym (append-nil begun))
    (got_by_kind role frames begun c f (f.kind == window_update_kind) refl h new told is.1)
moves role frames begun c (refused r kind flags) new told h is =
    no_more role frames begun new
    (handles_keep (Sent role frames begun) (sent_keeps role frames begun) c (glance.Refused r.code r.row kind flags) [] new told h
    (λ s n e. absurd (false≢true (ap is_window e)))
    (λ ack e does. settings_keep (Sent role frames begun) (sent_keeps role frames begun)
    (sent_resizes role frames begun) (sent_acks role frames begun) ack c [] new told h does)
    (λ ack value e. ping_keeps (Sent role frames begun) (sent_keeps role frames begun) (sent_acks role frames begun) c ack value h)
    is.1)
moves role frames begun c misbegan new told h is =
    no_more role frames begun new
    (subst (Sent role frames begun calm) (sym is.1.0)
    (kept.faulted_keeps (Sent role frames begun) (sent_keeps role frames begun) calm c protocol_error h))
moves role frames begun c (opened s headers end) new told h is =
    acts role frames begun c (opened s headers end) new told tt h is
moves role frames begun c (answered s status) new told h is =
    acts role frames begun c (answered s status) new told tt h is
moves role frames begun c (ended s) new told h is =
    acts role frames begun c (ended s) new told tt h is
moves role frames begun c (reset s code) new told h is =
    acts role frames begun c (reset s code) new told tt h is
moves role frames begun c (credited s n) new told h is =
    acts role frames begun c (credited s n) new told tt h is
moves role frames begun c (put s bytes) new told h is =
    acts role frames begun c (put s bytes) new told tt h is
moves role frames begun c (wrote n) new told h is =
    let begins = begun ++ begun_by n c.out in
    subst (λ (fs : List RawFrame). Sent role fs begins calm new) (sym (append-nil frames))
    (subst (Sent role frames begins calm) (sym is.1.0)
    (kept.payment_keeps (Sent role frames begins) (sent_keeps role frames begins) calm (record c { out = written n c.out })
    (wrote_by role frames begun c n h)))

pub runs : (role : Role) (points : List Point) (frames begun begins : List RawFrame) (c new : Core) → Sent role frames begun calm c
    → RunsWith c points begins new → Sent role (frames ++ frames_got points) (begun ++ begins) calm new
runs role [] frames begun begins c new h is =
    subst (λ (fs : List RawFrame). Sent role fs (begun ++ begins) calm new) (sym (append-nil frames))
    (subst (λ (fs : List RawFrame). Sent role frames fs calm new)
    (sym (append-nil begun) ∙ ap (λ (fs : List RawFrame). begun ++ fs) (sym is.1))
    (subst (Sent role frames begun calm) (sym is.0) h))
runs role (p ∷ ps) frames begun begins c new h is =
    subst (λ (fs : List RawFrame). Sent role fs (begun ++ begins) calm new) (append_assoc frames (got_by p) (frames_got ps))
    (subst (λ (fs : List RawFrame). Sent role ((frames ++ got_by p) ++ frames_got ps) fs calm new)
    (append_assoc begun (begins_by c p.move) is.2 ∙ ap (λ (fs : List RawFrame). begun ++ fs) (sym is.3))
    (runs role ps (frames ++ got_by p) (begun ++ begins_by c p.move) is.2 is.0 new
    (moves role frames begun c p.move is.0 p.told h is.1) is.4))
