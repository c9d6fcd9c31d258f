-- What the answer to each frame takes of the room, and that nothing is owed behind it.
use Rattle.std.proofs.Common.{◌≡◌, inl, inr, ℕ, ◌+◌, ◌≤◌, Bool, true, false, cond, [], ◌∷◌, ◌++◌, length, Option, Some, None, refl, ap, ◌∙◌, arith, length-append}
use Rattle.std.specs.Prelude.{nat_lt}
use Rattle.std.specs.FinMap.{empty, get-empty}
use Rattle.std.specs.Ordering.{nat_cmp}
use Rattle.std.proofs.lemmas.List.{append-nil}
use Rattle.std.proofs.lemmas.Grind.{flat_map-append}
use Rattle.hb_frames.specs.RawFrame.{RawFrame, header, spelling}
use Rattle.hb_outgoing.specs.Waiting.{Waiting, room_of, spelled, put}
use Rattle.hb_outgoing.specs.Selected.{is_kept, all_taken_back}
use Rattle.hb_outgoing.proofs.Views.{filter_is_short}
use Rattle.hb_streams.specs.States.{last_of_peer}
use Rattle.hb_owed.specs.declared.due.Due.{Due}
use Rattle.hb_owed.specs.declared.due.Due.TheVariants as due
use Rattle.hb_owed.specs.Debts.{dues, dues_by}
use Rattle.hb_frames.specs.Numbers.{largest}
use Rattle.hb_owed.specs.Frames.{frame_of}
use Rattle.hb_owed.specs.Paid.{Payment, with_put, paid}
use Rattle.hb_owed.proofs.Walks.{nothing_due}
use Rattle.hb_conn.specs.Frames.{word, sent, goaway}
use Rattle.hb_conn.specs.Faults.{is_active, faulted, released}
use Rattle.hb_conn.specs.Owing.{goes_at_once, put_now, put_later, with_due, with_update}
use Rattle.hb_conn.specs.declared.machine.Core.{Core}
use Rattle.hb_conn.proofs.Keeping.{frames_keep_up}
use Rattle.hb_history.specs.Budget.{goaway_of}
use Rattle.hb_history.proofs.CatchUpDues.{AtMost, closed_owes}

-- with a frame the room falls by its octets
room_behind : (f : RawFrame) (w : Waiting) → room_of w ≤ room_of (put f w) + length (spelling f)
room_behind f w =
    let all = length-append w.rest (spelled (w.queue ++ f ∷ [])) in
    let old = length-append w.rest (spelled w.queue) in
    let queue = ap length (flat_map-append spelling w.queue (f ∷ [])) ∙ length-append (spelled w.queue) (spelled (f ∷ [])) in
    let last = ap length (append-nil (spelling f)) in
    omega (arith, all, old, queue, last)

-- and with frames that are taken back it rises
pub room_kept : (stream : Option ℕ) (w other : Waiting) → other ≡ record w { queue = Rattle.std.specs.List.filter (is_kept stream) w.queue }
    → room_of w ≤ room_of other
room_kept stream w other is =
    let shorter = filter_is_short (is_kept stream) w.queue in
    let all = length-append w.rest (spelled w.queue) in
    let left = length-append w.rest (spelled (Rattle.std.specs.List.filter (is_kept stream) w.queue)) in
    rw is (omega (arith, shorter, all, left))

frame_len : (f : RawFrame) → length (spelling f) ≡ 9 + length f.payload
frame_len f = length-append (header (length f.payload) f.kind f.flags f.stream) f.payload

pub word_len : (n : ℕ) → length (word n) ≡ 4
unfolding word
word_len n = refl

-- the room falls by so much at most, and nothing is owed
pub record Lowers (most : ℕ) (c d : Core) : Type 0 where
  pub room : room_of c.out ≤ room_of d.out + most
  pub clear : dues d.owed ≡ []

-- and by a GOAWAY besides, where that was put
pub record Costs (most : ℕ) (c d : Core) : Type 0 where
  pub room : room_of c.out ≤ room_of d.out + most + goaway_of d
  pub clear : dues d.owed ≡ []

pub costs : (most more : ℕ) (c d : Core) → Lowers most c d → most ≤ more → Costs more c d
costs most more c d lowers within = record { room = omega (arith, lowers.room, within); clear = lowers.clear }

pub costs_by : (most : ℕ) (b : Bool) (c x y : Core) → Costs most c x → Costs most c y → Costs most c (cond b x y)
costs_by most true c x y of_x of_y = of_x
costs_by most false c x y of_x of_y = of_y

pub lowers_by : (most : ℕ) (b : Bool) (c x y : Core) → Lowers most c x → Lowers most c y → Lowers most c (cond b x y)
lowers_by most true c x y of_x of_y = of_x
lowers_by most false c x y of_x of_y = of_y

pub after : (first second : ℕ) (c m d : Core) → Lowers first c m → Costs second m d → Costs (first + second) c d
after first second c m d one other = record { room = omega (arith, one.room, other.room); clear = other.clear }

pub then : (first second : ℕ) (c m d : Core) → Lowers first c m → Lowers second m d → Lowers (first + second) c d
then first second c m d one other = record { room = omega (arith, one.room, other.room); clear = other.clear }

-- nothing but streams, windows and header blocks changed
pub stays : (c d : Core) → d.out ≡ c.out → d.owed ≡ c.owed → dues c.owed ≡ [] → Lowers 0 c d
stays c d out owed clear = record { room = rw out (omega arith); clear = ap dues owed ∙ clear }

pub sent_lowers : (c : Core) (f : RawFrame) (size : ℕ) → length f.payload ≡ size → dues c.owed ≡ [] → Lowers (9 + size) c (sent c f)
sent_lowers c f size is clear = record { room = omega (arith, room_behind f c.out, frame_len f, is); clear = clear }

goaway_len : (last code : ℕ) → length (goaway last code).payload ≡ 8
goaway_len last code = length-append (word last) (word code) ∙ rw (word_len last, word_len code) refl

pub faulted_costs : (c : Core) (code : ℕ) → Costs 0 c (faulted c code).core
unfolding faulted
faulted_costs c code =
    let f = goaway (last_of_peer c.streams) code in
    let back = room_kept None c.out (all_taken_back c.out) refl in
    let put = room_behind f (all_taken_back c.out) in
    record {
      room = omega (arith, back, put, frame_len f, goaway_len (last_of_peer c.streams) code);
      clear = nothing_due empty (λ q. ap dues_by (get-empty nat_cmp q));
    }

pub released_lowers : (c : Core) (s : ℕ) → dues c.owed ≡ [] → Lowers 0 c (released c s)
released_lowers c s clear =
    lowers_by 0 (is_active c.streams s) c c _ (stays c c refl refl clear)
    (record { room = omega arith; clear = closed_owes c.owed s clear })

-- an increment or an error code
pub due_room : (b : Bool) (c : Core) (s : ℕ) (d : Due) → length (frame_of c.encoder s d).payload ≡ 4
    → room_of c.out ≤ room_of (cond b (put_now c s d) (put_later c s d)).out + 13
due_room true c s d four = omega (arith, room_behind (frame_of c.encoder s d) c.out, frame_len (frame_of c.encoder s d), four)
due_room false c s d four = omega arith

credit_room : (c : Core) (s n : ℕ) → room_of c.out ≤ room_of (with_due c s (due.Credit n)).out + 13
unfolding with_due
credit_room c s n = due_room (goes_at_once c s (due.Credit n)) c s (due.Credit n) refl

pub update_lowers : (o : Option ℕ) (c : Core) (s : ℕ) → s ≤ largest → 30 ≤ room_of c.out → dues c.owed ≡ []
    → Lowers 13 c (with_update c s o)
update_lowers None c s number room clear = record { room = omega arith; clear = clear }
update_lowers (Some n) c s number room clear =
    let left = credit_room c s n in
    record { room = left; clear = frames_keep_up c s (due.Credit n) number (λ _. clear) (omega (arith, left, room)) }

-- a payment of nothing, or of one error code
payment_by : (b : Bool) (p : Payment) (s code : ℕ) → room_of p.out ≤ room_of (cond b p (with_put s (due.Reset code) p)).out + 13
payment_by true p s code = omega arith
payment_by false p s code =
    let f = frame_of p.writing s (due.Reset code) in omega (arith, room_behind f p.out, frame_len f)

pub payment_room : (p : Payment) (s code : ℕ) → AtMost s code (dues p.owed) → room_of p.out ≤ room_of (paid p).out + 13
payment_room p s code (inl none) = rw none (omega arith)
payment_room p s code (inr one) = rw one (payment_by (nat_lt (room_of p.out) 13) p s code)

pub free_room : (p : Payment) → dues p.owed ≡ [] → room_of p.out ≤ room_of (paid p).out
free_room p none = rw none (omega arith)

pub sent_shrinks : (c : Core) (f : RawFrame) → room_of (sent c f).out ≤ room_of c.out
sent_shrinks c f =
    let all = length-append c.out.rest (spelled (c.out.queue ++ f ∷ [])) in
    let old = length-append c.out.rest (spelled c.out.queue) in
    let queue = ap length (flat_map-append spelling c.out.queue (f ∷ [])) ∙ length-append (spelled c.out.queue) (spelled (f ∷ [])) in
    omega (arith, all, old, queue)
