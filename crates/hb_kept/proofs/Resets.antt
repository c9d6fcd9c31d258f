-- Behind the reset of a stream a frame waits: its RST_STREAM, or what had to wait for room.
use Rattle.std.proofs.Common.{◌≡◌, ◌≢◌, ◌⊎◌, inl, inr, ℕ, ◌<◌, ◌≤◌, ◌==◌, ◌&&◌, ◌++◌, Bool, true, false, cond, List, [], ◌∷◌, length, Option, Some, None, is_some, refl, ap, sym, ◌∙◌, subst, arith, length-append, append_assoc}
use Rattle.std.specs.Prelude.{map, nat_le}
use Rattle.std.specs.List.{filter}
use Rattle.std.specs.FinMap.{get, remove}
use Rattle.std.proofs.lemmas.Bool.{cond_both, false≢true}
use Rattle.std.proofs.lemmas.Bool.Decides.{nat_tests}
use Rattle.std.proofs.lemmas.Grind.{flat_map-append}
use Rattle.hb_frames.specs.RawFrame.{RawFrame, spelling}
use Rattle.hb_frames.specs.Numbers.{largest}
use Rattle.hb_map.proofs.Laws.{written_here}
use Rattle.hb_outgoing.specs.Waiting.{Waiting, octets_of, room_of, spelled, put}
use Rattle.hb_outgoing.proofs.Queues.{spelling_len}
use Rattle.hb_owed.specs.Debts.{Debts, changed, changed_by, closed, shut, is_done_by, with_reset, dues, dues_on, dues_by}
use Rattle.hb_owed.specs.Dues.{Debt, dues_of, is_nil, status_due}
use Rattle.hb_owed.specs.Frames.{frame_of, behind, size_of}
use Rattle.hb_owed.specs.Laws.{frames_for, LacksRoom, IsPayment}
use Rattle.hb_owed.specs.Paid.{Payment, paid}
use Rattle.hb_owed.specs.declared.due.Due.{Due}
use Rattle.hb_owed.specs.declared.due.Due.TheVariants as due
use Rattle.hb_owed.specs.declared.status.Status.{Status}
use Rattle.hb_owed.proofs.Orders.{each_stream}
use Rattle.hb_owed.proofs.Payments.{pays_in_order}
use Rattle.hb_conn.specs.Connection.{core_of}
use Rattle.hb_conn.specs.Faults.{is_active, released, cancelled, withdrawn, aborted}
use Rattle.hb_conn.specs.Observed.{aborted as conn_aborted}
use Rattle.hb_conn.specs.Owing.{put_now, put_later, with_due, owed_paid}
use Rattle.hb_conn.specs.declared.machine.Core.{Core}
use Rattle.hb_kept.specs.Shut.{ResetShuts}
use Rattle.hb_kept.proofs.Shut.{waiting_shuts}

-- some octet waits
abbrev IsWaiting : Waiting → Type 0
IsWaiting w = 0 < length (octets_of w)

waits_more : (w : Waiting) (fs : List RawFrame) → IsWaiting w → IsWaiting (record w { queue = w.queue ++ fs })
waits_more w fs some =
    let all = length-append w.rest (spelled (w.queue ++ fs)) in
    let old = length-append w.rest (spelled w.queue) in
    let queue = ap length (flat_map-append spelling w.queue fs) ∙ length-append (spelled w.queue) (spelled fs) in
    omega (arith, some, all, old, queue)

waits_put : (f : RawFrame) (w : Waiting) → IsWaiting (put f w)
waits_put f w =
    let all = length-append w.rest (spelled (w.queue ++ f ∷ [])) in
    let queue = ap length (flat_map-append spelling w.queue (f ∷ [])) ∙ length-append (spelled w.queue) (spelled (f ∷ [])) in
    let one = length-append (spelling f) (spelled []) in
    omega (arith, all, queue, one, spelling_len f)

seventeen : (d : Due) → size_of d ≤ 17
seventeen (due.Status status) = omega arith
seventeen (due.Credit n) = omega arith
seventeen due.End = omega arith
seventeen (due.Reset code) = omega arith

-- where what is owed is put, as far as there is room, some octet waits
lacks_waits : (xs : List (ℕ × Due)) (w : Waiting) → LacksRoom xs w → xs ≢ [] → IsWaiting w
lacks_waits [] w lacks some = absurd (some refl)
lacks_waits (x ∷ xs) w lacks some = omega (arith, lacks, seventeen x.1)

paid_by : (p q : Payment) (put_ones : List (ℕ × Due)) → q.out ≡ record p.out { queue = p.out.queue ++ frames_for p.writing put_ones }
    → dues p.owed ≡ put_ones ++ dues q.owed → LacksRoom (dues q.owed) q.out → dues p.owed ≢ [] → IsWaiting q.out
paid_by p q [] is owed lacks some = lacks_waits (dues q.owed) q.out lacks (λ none. some (owed ∙ none))
paid_by p q (x ∷ xs) is owed lacks some =
    let f = frame_of p.writing x.0 x.1 in
    let more = frames_for (behind x.1 p.writing) xs in
    let long : IsWaiting (record p.out { queue = (p.out.queue ++ f ∷ []) ++ more }) = waits_more (put f p.out) more (waits_put f p.out) in
    let same = append_assoc p.out.queue (f ∷ []) more in
    let there : IsWaiting (record p.out { queue = p.out.queue ++ f ∷ more }) =
    subst (λ (fs : List RawFrame). IsWaiting (record p.out { queue = fs })) same long in
    subst IsWaiting (sym is) there

abbrev Waits : Core → Type 0
Waits c = IsWaiting c.out ⊎ (dues c.owed ≢ [])

payment_waits : (c : Core) → Waits c → IsWaiting (owed_paid c).out
unfolding owed_paid
payment_waits c waits =
    let p : Payment = record { owed = c.owed; out = c.out; writing = c.encoder } in
    let q = paid p in
    let pays : IsPayment p q = pays_in_order p in
    let out : q.out ≡ record p.out { queue = p.out.queue ++ frames_for p.writing pays.put } =
    pays.begun ∙ ap (λ (fs : List RawFrame). record p.out { queue = fs }) pays.queue in
    by p q pays out waits
  where
    by : (p q : Payment) (pays : IsPayment p q) → q.out ≡ record p.out { queue = p.out.queue ++ frames_for p.writing pays.put }
        → IsWaiting p.out ⊎ (dues p.owed ≢ []) → IsWaiting q.out
    by p q pays out (inl some) = subst IsWaiting (sym out) (waits_more p.out (frames_for p.writing pays.put) some)
    by p q pays out (inr some) = paid_by p q pays.put out pays.owed pays.lacking some

-- a stream that owes a frame

owes_some : (m : Debts) (s : ℕ) → dues_on m s ≢ [] → dues m ≢ []
owes_some m s some none =
    some (sym (each_stream m s) ∙ ap (λ (xs : List (ℕ × Due)). map (λ x. x.1) (filter (λ x. x.0 == s) xs)) none)

reset_owed : (d : Debt) (code : ℕ) → dues_of (with_reset code d) ≢ []
reset_owed d code is = by d.status is
  where
    by : (o : Option Status) → status_due o ++ due.Reset code ∷ [] ≡ [] → ⊥
    by None is = cc
    by (Some status) is = cc

-- a record that owes a RST_STREAM owes it once its stream is closed
shut_owes : (m : Debts) (s : ℕ) (d : Debt) → get m s ≡ Some d → dues_of d ≢ [] → dues_on (closed m s) s ≢ []
shut_owes m s d is some none =
    let there : get (changed m s shut) s ≡ Some (shut d) =
    ap (λ o. get (changed_by m s shut o) s) is ∙ written_here m s (shut d) (ap is_some is) in
    by (is_done_by (get (changed m s shut) s)) refl there none
  where
    nil : (xs : List Due) → xs ≢ [] → is_nil xs ≡ false
    nil [] some = absurd (some refl)
    nil (x ∷ xs) some = refl

    by : (b : Bool) → is_done_by (get (changed m s shut) s) ≡ b → get (changed m s shut) s ≡ Some (shut d)
        → dues_on (cond b (remove (changed m s shut) s) (changed m s shut)) s ≡ [] → ⊥
    by true done there none = false≢true (sym (ap is_done_by there ∙ nil (dues_of d) some) ∙ done)
    by false done there none = some (sym (ap dues_by there) ∙ none)

still_owes : (c : Core) (s : ℕ) (d : Debt) → get c.owed s ≡ Some d → dues_of d ≢ [] → dues (released c s).owed ≢ []
still_owes c s d is some =
    cond_both (is_active c.streams s) c _ (λ (x : Core). dues x.owed ≢ [])
    (λ active. owes_some c.owed s (λ none. some (sym (ap dues_by is) ∙ none)))
    (λ active. owes_some (closed c.owed s) s (shut_owes c.owed s d is some))

-- RST_STREAM is put, or owed

released_waits : (c : Core) (s : ℕ) → IsWaiting c.out → Waits (released c s)
released_waits c s some = cond_both (is_active c.streams s) c _ (λ (x : Core). Waits x) (λ is. inl some) (λ is. inl some)

later_by : (c : Core) (s code : ℕ) (o : Option Debt) → get c.owed s ≡ o → is_nil (dues_by o) ≡ false
    → Waits (released (put_later c s (due.Reset code)) s)
later_by c s code None is some = absurd (false≢true (sym some))
later_by c s code (Some d) is some =
    let m = changed c.owed s (with_reset code) in
    let there : get m s ≡ Some (with_reset code d) =
    ap (λ o. get (changed_by c.owed s (with_reset code) o) s) is ∙ written_here c.owed s (with_reset code d) (ap is_some is) in
    inr (still_owes (put_later c s (due.Reset code)) s (with_reset code d) there (reset_owed d code))

due_by : (c : Core) (s code : ℕ) (a b e : Bool) → nat_le s largest ≡ a → is_nil (dues_on c.owed s) ≡ b
    → nat_le 13 (room_of c.out) ≡ e → s ≤ largest
    → Waits (released (cond (a && b && e) (put_now c s (due.Reset code)) (put_later c s (due.Reset code))) s)
due_by c s code false b e number none room low = absurd (false≢true (sym number ∙ grind (arith, nat_tests, low)))
due_by c s code true false e number none room low = later_by c s code (get c.owed s) refl none
due_by c s code true true false number none room low =
    let little : room_of c.out < 13 = grind (arith, nat_tests, room) in
    let some : IsWaiting c.out = omega (arith, little) in
    released_waits (put_later c s (due.Reset code)) s some
due_by c s code true true true number none room low =
    released_waits (put_now c s (due.Reset code)) s (waits_put (frame_of c.encoder s (due.Reset code)) c.out)

due_waits : (c : Core) (s code : ℕ) → s ≤ largest → Waits (released (with_due c s (due.Reset code)) s)
unfolding with_due
due_waits c s code low =
    due_by c s code (nat_le s largest) (is_nil (dues_on c.owed s)) (nat_le 13 (room_of c.out)) refl refl refl low

aborted_waits : (c : Core) (s code : ℕ) → s ≤ largest → IsWaiting (aborted c s code).out
unfolding aborted
aborted_waits c s code low = payment_waits _ (due_waits (withdrawn (cancelled c s) s) s code low)

pub reset_shuts : ResetShuts
reset_shuts c s code low = waiting_shuts (conn_aborted c s code) (aborted_waits (core_of c) s code low)
