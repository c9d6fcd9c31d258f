-- Where the output has room, nothing is owed.
use Rattle.std.proofs.Common.{◌≡◌, ℕ, ◌≤◌, Bool, true, false, cond, List, [], ◌∷◌, ◌++◌, length, Option, Some, None, is_some, refl, ap, sym, ◌∙◌, subst, inl, inr, rules, arith, length-append}
use Rattle.std.specs.Prelude.{map, ◌==◌, nat_le}
use Rattle.std.specs.List.{filter}
use Rattle.std.specs.FinMap.{get, remove}
use Rattle.std.proofs.lemmas.Bool.{cases_eq}
use Rattle.std.proofs.lemmas.Bool.Decides.{nat_tests}
use Rattle.std.proofs.lemmas.Grind.{flat_map-append}
use Rattle.hb_map.proofs.Laws.{put_here, put_elsewhere, removed_here, written_here}
use Rattle.hb_frames.specs.RawFrame.{RawFrame, spelling}
use Rattle.hb_outgoing.specs.Waiting.{Waiting, room_of, spelled, put}
use Rattle.hb_owed.specs.declared.due.Due.{Due}
use Rattle.hb_owed.specs.declared.due.Due.TheVariants as due
use Rattle.hb_owed.specs.Dues.{Debt, clear}
use Rattle.hb_owed.specs.Debts.{Debts, opened, changed, changed_by, closed, shut, is_done_by, dues, dues_on, dues_by}
use Rattle.hb_frames.specs.Numbers.{largest}
use Rattle.hb_owed.specs.Frames.{frame_of, size_of}
use Rattle.hb_owed.proofs.Walks.{nothing_due, settled_elsewhere}
use Rattle.hb_owed.proofs.Payments.{room_pays_all}
use Rattle.hb_owed.proofs.Orders.{each_stream}
use Rattle.hb_flow.specs.Flows.{due_on}
use Rattle.hb_streams.specs.Sides.{sides_of}
use Rattle.hb_streams.specs.States.{state_of}
use Rattle.hb_conn.specs.Owing.{goes_at_once, put_now, put_later, with_due, with_update, owed_paid}
use Rattle.hb_conn.specs.Faults.{is_active, released, aborted}
use Rattle.hb_conn.specs.Credit.{used_on}
use Rattle.hb_conn.specs.Laws.{IsCaughtUp, FramesKeepUp, StatusesKeepUp, EndsKeepUp, CreditKeepsUp, OpeningKeepsUp, WritesCatchUp, ResetsCatchUp}
use Rattle.hb_conn.specs.declared.machine.Core.{Core}

-- nothing is owed on any stream where nothing is owed
none_on : (m : Debts) (q : ℕ) → dues m ≡ [] → dues_on m q ≡ []
none_on m q none =
    sym (each_stream m q) ∙ ap (λ (xs : List (ℕ × Due)). map (λ x. x.1) (filter (λ x. x.0 == q) xs)) none

-- a frame that is put leaves no more room
less_room : (f : RawFrame) (w : Waiting) → room_of (put f w) ≤ room_of w
less_room f w =
    let all = length-append w.rest (spelled (w.queue ++ f ∷ [])) in
    let old = length-append w.rest (spelled w.queue) in
    let queue = ap length (flat_map-append spelling w.queue (f ∷ [])) ∙ length-append (spelled w.queue) (spelled (f ∷ [])) in
    omega (arith, all, old, queue)

small : (d : Due) → size_of d ≤ 17
small (due.Status status) = omega arith
small (due.Credit n) = omega arith
small due.End = omega arith
small (due.Reset code) = omega arith

-- where there is room and nothing is owed, the frame is put
at_once : (c : Core) (stream : ℕ) (d : Due) → stream ≤ largest → 17 ≤ room_of c.out → dues c.owed ≡ [] → goes_at_once c stream d ≡ true
at_once c stream d number room none =
    let first : nat_le stream largest ≡ true = grind (arith, nat_tests, number) in
    let size : size_of d ≤ room_of c.out = omega (arith, room, small d) in
    let fits : nat_le (size_of d) (room_of c.out) ≡ true = grind (arith, nat_tests, size) in
    rw (first, none_on c.owed stream none, fits) refl

frames_by : (b : Bool) (c : Core) (stream : ℕ) (d : Due) → goes_at_once c stream d ≡ b → stream ≤ largest → IsCaughtUp c
    → IsCaughtUp (cond b (put_now c stream d) (put_later c stream d))
frames_by true c stream d is number caught = λ room. caught (omega (arith, room, less_room (frame_of c.encoder stream d) c.out))
frames_by false c stream d is number caught = λ room. absurd (search (rules, is, at_once c stream d number room (caught room)))

pub frames_keep_up : FramesKeepUp
unfolding with_due
frames_keep_up c stream d number caught = frames_by (goes_at_once c stream d) c stream d refl number caught

-- a stream that is closed owes no more than before
shut_here : (m : Debts) (s : ℕ) (o : Option Debt) → get m s ≡ o → dues_on (changed_by m s shut o) s ≡ dues_by o
shut_here m s None is = ap dues_by is
shut_here m s (Some d) is = ap dues_by (written_here m s (shut d) (ap is_some is))

settled_here : (b : Bool) (m : Debts) (s : ℕ) → dues_on m s ≡ [] → dues_on (cond b (remove m s) m) s ≡ []
settled_here true m s none = ap dues_by (removed_here m s)
settled_here false m s none = none

closed_owes : (m : Debts) (s : ℕ) → dues m ≡ [] → dues (closed m s) ≡ []
closed_owes m s none = nothing_due (closed m s) (λ q. elim (cases_eq q s) [
  | inl same ↦
      subst (λ k. dues_on (closed m s) k ≡ []) (sym same)
      (settled_here (is_done_by (get (changed m s shut) s)) (changed m s shut) s (shut_here m s (get m s) refl ∙ none_on m s none))
  | inr apart ↦ ap dues_by (settled_elsewhere m s q shut apart) ∙ none_on m q none
])

released_by : (b : Bool) (c other : Core) → IsCaughtUp c → IsCaughtUp other → IsCaughtUp (cond b c other)
released_by true c other x y = x
released_by false c other x y = y

released_keeps : (c : Core) (stream : ℕ) → IsCaughtUp c → IsCaughtUp (released c stream)
released_keeps c stream caught =
    released_by (is_active c.streams stream) c _ caught (λ room. closed_owes c.owed stream (caught room))

pub ends_keep_up : EndsKeepUp
ends_keep_up c stream number caught = released_keeps _ stream (frames_keep_up c stream due.End number caught)

pub statuses_keep_up : StatusesKeepUp
statuses_keep_up c stream status number caught =
    let put = frames_keep_up c stream (due.Status status) number caught in
    released_by status.end _ _ (released_keeps _ stream put) put

update_keeps : (o : Option ℕ) (c : Core) (stream : ℕ) → stream ≤ largest → IsCaughtUp c → IsCaughtUp (with_update c stream o)
update_keeps None c stream number caught = caught
update_keeps (Some n) c stream number caught = frames_keep_up c stream (due.Credit n) number caught

pub credit_keeps_up : CreditKeepsUp
credit_keeps_up c stream n number caught =
    released_by (sides_of (state_of c.streams stream)).peer _ _ (update_keeps
    (due_on (used_on c stream n).flow stream) _ stream number caught) caught

opened_owes : (m : Debts) (s : ℕ) → dues m ≡ [] → dues (opened m s) ≡ []
opened_owes m s none = nothing_due (opened m s) (λ q. elim (cases_eq q s) [
  | inl same ↦ subst (λ k. dues_on (opened m s) k ≡ []) (sym same) (ap dues_by (put_here m s clear))
  | inr apart ↦ ap dues_by (put_elsewhere m s clear q apart) ∙ none_on m q none
])

pub opening_keeps_up : OpeningKeepsUp
opening_keeps_up c stream caught = λ room. opened_owes c.owed stream (caught room)

payment_catches : (c : Core) → IsCaughtUp (owed_paid c)
unfolding owed_paid
payment_catches c = λ room. room_pays_all _ room

pub writes_catch_up : WritesCatchUp
writes_catch_up c n = payment_catches _

pub resets_catch_up : ResetsCatchUp
unfolding aborted
resets_catch_up c stream code = (payment_catches _, payment_catches _)
