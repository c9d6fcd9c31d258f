-- Where no DATA can go, and what leaves it so.
use Rattle.std.proofs.Common.{◌≡◌, ℕ, ◌<◌, ◌≤◌, ◌==◌, ◌&&◌, Bool, true, false, cond, min, List, [], ◌∷◌, ◌++◌, length, take, Option, Some, None, refl, ap, sym, ◌∙◌, subst, arith}
use Rattle.std.specs.Prelude.{nat_le}
use Rattle.std.specs.FinMap.{get}
use Rattle.std.proofs.lemmas.Bool.{cond_both, false≢true}
use Rattle.std.proofs.lemmas.Bool.Decides.{nat_tests}
use Rattle.std.proofs.lemmas.List.{nil_from_length}
use Rattle.hb_frames.specs.RawFrame.{RawFrame}
use Rattle.hb_frames.specs.Numbers.{data_kind, largest}
use Rattle.hb_streams.specs.Sides.{sides_of}
use Rattle.hb_streams.specs.States.{state_of}
use Rattle.hb_flow.specs.Windows.{Windows, room}
use Rattle.hb_streams.specs.Moves.{after, sends_end}
use Rattle.hb_flow.specs.Flows.{Flows, closed, owed_on, paid_on, sendable, sendable_by, due_on}
use Rattle.hb_flow.specs.Moves.{owes_on, pays_on}
use Rattle.hb_outgoing.specs.Waiting.{Waiting, octets_of, put}
use Rattle.hb_owed.specs.Debts.{Debts}
use Rattle.hb_owed.specs.Debts.{closed as owed_closed}
use Rattle.hb_owed.specs.Frames.{frame_of}
use Rattle.hb_owed.specs.declared.due.Due.{Due}
use Rattle.hb_owed.specs.declared.due.Due.TheVariants as due
use Rattle.hb_conn.specs.Connection.{core_of}
use Rattle.hb_conn.specs.Credit.{used_on}
use Rattle.hb_conn.specs.Data.{credited_on}
use Rattle.hb_conn.specs.Ending.{own_ended}
use Rattle.hb_conn.specs.Faults.{is_active, released}
use Rattle.hb_conn.specs.Frames.{frame}
use Rattle.hb_conn.specs.Observed.{output, count_put}
use Rattle.hb_conn.specs.Opening.{begun, headers_put}
use Rattle.hb_conn.specs.Owing.{goes_at_once, put_now, put_later, with_due, with_update}
use Rattle.hb_conn.specs.Payload as payload
use Rattle.hb_conn.specs.Payload.{allowed}
use Rattle.hb_conn.specs.declared.machine.Core.{Core}
use Rattle.hb_history.proofs.First.{none_waits}
use Rattle.hb_history.proofs.Sums.{SameSending, taking_kept, closed_same}
use Rattle.hb_kept.specs.Shut.{WaitingShuts, FrameShuts, PutShuts, OpeningShuts, StayingStaysShut, PutStaysShut, UseStaysShut, AnswerStaysShut, EndStaysShut}

-- an octet waits

none_by : (over number : Bool) (x : ℕ) → cond over 0 (cond (number && false) x 0) ≡ 0
none_by true number x = refl
none_by false true x = refl
none_by false false x = refl

none_while : (c : Core) (s : ℕ) (bytes : List ℕ) → (length (octets_of c.out) == 0) ≡ false → payload.count_put c s bytes ≡ 0
none_while c s bytes some =
    let x = min (length bytes) (allowed c s) in
    subst (λ b. cond c.over 0 (cond (nat_le s largest && b) x 0) ≡ 0) (sym some) (none_by c.over (nat_le s largest) x)

pub waiting_shuts : WaitingShuts
waiting_shuts c some s bytes =
    let test : (length (output c) == 0) ≡ false = grind (arith, nat_tests, some) in
    none_while (core_of c) s bytes test

none_behind : {A : Type 0} → (f : RawFrame) (fs : List RawFrame) → fs ++ f ∷ [] ≡ [] → A
none_behind f [] none = absurd (cc)
none_behind f (g ∷ fs) none = absurd (cc)

-- behind a frame some octet waits
waits_by : (b : Bool) (f : RawFrame) (w : Waiting) → (length (octets_of (put f w)) == 0) ≡ b → b ≡ false
waits_by false f w is = refl
waits_by true f w is =
    let none : length (octets_of (put f w)) ≡ 0 = grind (arith, nat_tests, is) in
    none_behind f w.queue (none_waits (put f w) (nil_from_length (octets_of (put f w)) none))

-- no core in which a frame is put lets DATA go
pub frame_shuts_core : (c : Core) (f : RawFrame) (w : Waiting) → c.out ≡ put f w → (s : ℕ) (bytes : List ℕ)
    → payload.count_put c s bytes ≡ 0
frame_shuts_core c f w out s bytes =
    none_while c s bytes
    (ap (λ (v : Waiting). length (octets_of v) == 0) out ∙ waits_by (length (octets_of (put f w)) == 0) f w refl)

pub frame_shuts : FrameShuts
frame_shuts c f w out = frame_shuts_core (core_of c) f w out

put_out : (c : Core) (s : ℕ) (bytes : List ℕ) → (payload.count_put c s bytes == 0) ≡ false
    → (payload.data_put c s bytes).out ≡ put (frame data_kind 0 s (take (payload.count_put c s bytes) bytes)) c.out
put_out c s bytes some = rw some refl

pub put_shuts : PutShuts
put_shuts c s bytes some =
    let test : (count_put c s bytes == 0) ≡ false = grind (arith, nat_tests, some) in
    frame_shuts_core (payload.data_put (core_of c) s bytes) _ (core_of c).out (put_out (core_of c) s bytes test)

pub opening_shuts : OpeningShuts
opening_shuts c s headers =
    frame_shuts_core (headers_put (begun (core_of c) s) s headers false) _ (begun (core_of c) s).out refl

-- what stays

stays_by : (o a p q : Bool) (n x y : ℕ) → (p ≡ false → q ≡ false) → y ≤ x → cond o 0 (cond (a && p) (min n x) 0) ≡ 0
    → cond o 0 (cond (a && q) (min n y) 0) ≡ 0
stays_by true a p q n x y waits less none = refl
stays_by false false p q n x y waits less none = refl
stays_by false true p false n x y waits less none = refl
stays_by false true true true n x y waits less none = omega (arith, less, none)
stays_by false true false true n x y waits less none = absurd (false≢true (sym (waits refl)))

-- where nothing could go nothing can, on the stream j
abbrev Shuts : ℕ → Core → Core → Type 0
Shuts j c d = (bytes : List ℕ) → payload.count_put c j bytes ≡ 0 → payload.count_put d j bytes ≡ 0

stays_shut : (j : ℕ) (c d : Core) → d.over ≡ c.over → allowed d j ≤ allowed c j
    → ((length (octets_of c.out) == 0) ≡ false → (length (octets_of d.out) == 0) ≡ false) → Shuts j c d
stays_shut j c d over less waits bytes none =
    subst (λ o. cond o 0 (cond (nat_le j largest && (length (octets_of d.out) == 0)) (min (length bytes) (allowed d j)) 0) ≡ 0) (sym over)
    (stays_by c.over (nat_le j largest) (length (octets_of c.out) == 0) (length (octets_of d.out) == 0) (length bytes) (allowed c j)
    (allowed d j) waits less none)

some_again : (n m : ℕ) → (0 < n → 0 < m) → (n == 0) ≡ false → (m == 0) ≡ false
some_again n m waits some =
    let more : 0 < m = waits (grind (arith, nat_tests, some)) in
    grind (arith, nat_tests, more)

pub staying_stays_shut : StayingStaysShut
staying_stays_shut j c d stays =
    stays_shut j (core_of c) (core_of d) stays.over stays.less (some_again (length (output c)) (length (output d)) stays.waits)

shuts_on : (j : ℕ) (c mid d : Core) → Shuts j c mid → Shuts j mid d → Shuts j c d
shuts_on j c mid d first then bytes none = then bytes (first bytes none)

-- windows that are the same, of no more streams, let no more go
less_by : (f g : Flows) → SameSending f g → (j : ℕ) (o : Option Windows) → get g.streams j ≡ o → sendable_by g o ≤ sendable f j
less_by f g same j None is = omega arith
less_by f g same j (Some w) is =
    let v = same.streams j w is in
    let before : sendable f j ≡ min (room f.sending) (room v.0.sending) = ap (sendable_by f) v.1 in
    let whole : room g.sending ≡ room f.sending = ap room same.whole in
    let one : room w.sending ≡ room v.0.sending = ap room v.2 in
    omega (arith, before, whole, one)

allowed_by : (m n frames : ℕ) → n ≤ m → min n (min frames 16384) ≤ min m (min frames 16384)
allowed_by m n frames less = omega (arith, less)

-- so nothing can go where nothing could
same_shuts : (j : ℕ) (c : Core) (g : Flows) (m : Debts) → SameSending c.flow g → Shuts j c (record c { flow = g; owed = m })
same_shuts j c g m same =
    stays_shut j c (record c { flow = g; owed = m }) refl
    (allowed_by (sendable c.flow j) (sendable g j) c.peer.frame_size (less_by c.flow g same j (get g.streams j) refl)) (λ some. some)

-- a frame that is put lets none go, and one that is owed changes nothing
due_shuts : (j : ℕ) (c : Core) (s : ℕ) (d : Due) → Shuts j c (with_due c s d)
unfolding with_due
due_shuts j c s d =
    cond_both (goes_at_once c s d) (put_now c s d) (put_later c s d) (λ (x : Core). Shuts j c x)
    (λ is bytes none. frame_shuts_core (put_now c s d) (frame_of c.encoder s d) c.out refl j bytes) (λ is bytes none. none)

update_shuts : (j : ℕ) (c : Core) (s : ℕ) (o : Option ℕ) → Shuts j c (with_update c s o)
update_shuts j c s None = λ bytes none. none
update_shuts j c s (Some n) = due_shuts j c s (due.Credit n)

released_shuts : (j : ℕ) (c : Core) (s : ℕ) → Shuts j c (released c s)
released_shuts j c s =
    cond_both (is_active c.streams s) c _ (λ (x : Core). Shuts j c x) (λ is bytes none. none)
    (λ is. same_shuts j c (closed c.flow s) (owed_closed c.owed s) (closed_same c.flow s))

ended_shuts : (j : ℕ) (c : Core) (s : ℕ) → Shuts j c (own_ended c s)
ended_shuts j c s = released_shuts j (record c { streams = after c.streams (sends_end s) }) s

paid_shuts : (j : ℕ) (c : Core) (s : ℕ) → Shuts j c (credited_on c s)
paid_shuts j c s =
    let paid = record c { flow = paid_on c.flow s } in
    shuts_on j c paid (credited_on c s) (same_shuts j c (paid_on c.flow s) c.owed (taking_kept c.flow (pays_on s) refl))
    (update_shuts j paid s (due_on c.flow s))

used_shuts : (j : ℕ) (c : Core) (s n : ℕ) → Shuts j c (used_on c s n)
used_shuts j c s n = same_shuts j c (owed_on c.flow s n) c.owed (taking_kept c.flow (owes_on s n) refl)

pub use_stays_shut : UseStaysShut
use_stays_shut j c s n =
    let k = core_of c in
    let used = used_on k s n in
    cond_both (sides_of (state_of k.streams s)).peer (credited_on used s) used (λ (x : Core). Shuts j k x)
    (λ is. shuts_on j k used (credited_on used s) (used_shuts j k s n) (paid_shuts j used s)) (λ is. used_shuts j k s n)

pub answer_stays_shut : AnswerStaysShut
answer_stays_shut j c s status =
    let k = core_of c in
    let put = with_due k s (due.Status status) in
    let shuts = due_shuts j k s (due.Status status) in
    cond_both status.end (own_ended put s) put (λ (x : Core). Shuts j k x)
    (λ is. shuts_on j k put (own_ended put s) shuts (ended_shuts j put s)) (λ is. shuts)

pub end_stays_shut : EndStaysShut
end_stays_shut j c s =
    let k = core_of c in
    let put = with_due k s due.End in
    shuts_on j k put (own_ended put s) (due_shuts j k s due.End) (ended_shuts j put s)

put_by : (j : ℕ) (c : Core) (s : ℕ) (bytes : List ℕ) (b : Bool) → (payload.count_put c s bytes == 0) ≡ b
    → Shuts j c (payload.data_put c s bytes)
put_by j c s bytes true is = λ more none. rw is none
put_by j c s bytes false is = λ more none. frame_shuts_core (payload.data_put c s bytes) _ c.out (put_out c s bytes is) j more

pub put_stays_shut : PutStaysShut
put_stays_shut j c s bytes = put_by j (core_of c) s bytes (payload.count_put (core_of c) s bytes == 0) refl
