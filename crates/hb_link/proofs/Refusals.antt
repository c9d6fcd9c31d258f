-- What a refusal takes of the room.
use Rattle.std.proofs.Common.{◌≡◌, ℕ, ◌+◌, ◌<◌, ◌≤◌, Bool, true, false, cond, [], length, refl, ap, arith, length-append}
use Rattle.std.proofs.lemmas.Bool.{cond_both}
use Rattle.hb_conn.specs.Connection.{Connection, core_of}
use Rattle.hb_conn.specs.Faults.{released, is_active}
use Rattle.hb_conn.specs.Observed.{room, OwesNoneWithRoom, status_put, aborted}
use Rattle.hb_conn.specs.Owing.{goes_at_once, put_now, put_later, with_due}
use Rattle.hb_conn.specs.declared.machine.Core.{Core}
use Rattle.hb_conn.proofs.Keeping.{statuses_keep_up}
use Rattle.hb_frames.specs.Numbers.{largest}
use Rattle.hb_history.proofs.CatchUpAnswers.{sent_lowers}
use Rattle.hb_history.proofs.CatchUpResets.{aborted_lowers}
use Rattle.hb_hpack.specs.Encoding.{Writing, opening, header_of, status_header}
use Rattle.hb_hpack.specs.declared.spelling.Spelling.TheVariants.{Plain}
use Rattle.hb_hpack.proofs.Statuses.{status_is}
use Rattle.hb_kept.specs.Kept.{Fares, IsKept}
use Rattle.hb_kept.proofs.Acts.{answers_kept, resets_kept}
use Rattle.hb_outgoing.specs.Waiting.{room_of}
use Rattle.hb_owed.specs.Debts.{dues}
use Rattle.hb_owed.specs.Frames.{status_frame}
use Rattle.hb_owed.specs.declared.due.Due.TheVariants as due
use Rattle.hb_owed.specs.declared.status.Status.{Status}
use Rattle.hb_owed.proofs.Payments.{status_octets, opening_octets}
use Rattle.hb_inbound.specs.Runs.{refused_on}
use Rattle.hb_streams.specs.Moves.{after, sends_end}
use Rattle.hb_link.specs.Asking.{HasSpare}

payload_len : (w : Writing) (s : ℕ) (status : Status) → 100 ≤ status.number → status.number < 1000
    → length (status_frame w s status).payload ≤ 6
payload_len w s status low high =
    let parts = length-append (opening w.started) (header_of Plain (status_header status.number)) in
    let same = ap length (status_is status.number low high) in
    omega (arith, parts, same, status_octets status.number, opening_octets w.started)

due_by : (b : Bool) (c : Core) (s : ℕ) (status : Status) → 100 ≤ status.number → status.number < 1000 → dues c.owed ≡ []
    → room_of c.out ≤ room_of (cond b (put_now c s (due.Status status)) (put_later c s (due.Status status))).out + 15
due_by true c s status low high clear =
    let f = status_frame c.encoder s status in
    omega (arith, payload_len c.encoder s status low high, (sent_lowers c f (length f.payload) refl clear).room)
due_by false c s status low high clear = omega arith

due_room : (c : Core) (s : ℕ) (status : Status) → 100 ≤ status.number → status.number < 1000 → dues c.owed ≡ []
    → room_of c.out ≤ room_of (with_due c s (due.Status status)).out + 15
unfolding with_due
due_room c s status low high clear = due_by (goes_at_once c s (due.Status status)) c s status low high clear

released_out : (c : Core) (s : ℕ) → (released c s).out ≡ c.out
released_out c s = cond_both (is_active c.streams s) c _ (λ (x : Core). x.out ≡ c.out) (λ is. refl) (λ is. refl)

-- so much room a refusal takes at most
module _ (c : Connection) (s : ℕ) (number : s ≤ largest) (enough : 60 ≤ room c) (caught : OwesNoneWithRoom c) where
  status_room : (n : ℕ) → 100 ≤ n → n < 1000 → room c ≤ room (status_put c s (record { number = n; end = true })) + 15
  status_room n low high =
      let clear = caught (omega (arith, enough)) in
      let put = due_room (core_of c) s (record { number = n; end = true }) low high clear in
      let owing = with_due (core_of c) s (due.Status (record { number = n; end = true })) in
      let same = ap room_of (released_out (record owing { streams = after owing.streams (sends_end s) }) s) in
      omega (arith, put, same)

  pub refused_room : (n : ℕ) (resets : Bool) → 100 ≤ n → n < 1000 → room c ≤ room (refused_on s n resets c) + 28
  refused_room n false low high = let first = status_room n low high in omega (arith, first)
  refused_room n true low high =
      let first = status_room n low high in
      let mid = status_put c s (record { number = n; end = true }) in
      let clear = statuses_keep_up (core_of c) s (record { number = n; end = true }) number caught (omega (arith, first, enough)) in
      let last = aborted_lowers (core_of mid) s 0 (omega (arith, first, enough)) clear in
      omega (arith, first, last.room)

  pub reset_room : (code : ℕ) → room c ≤ room (aborted c s code) + 13
  reset_room code = (aborted_lowers (core_of c) s code (omega (arith, enough)) (caught (omega (arith, enough)))).room

refused_kept : (c : Connection) (s n : ℕ) (resets : Bool) → s ≤ largest → IsKept c → IsKept (refused_on s n resets c)
refused_kept c s n false number kept = answers_kept c s (record { number = n; end = true }) number kept
refused_kept c s n true number kept =
    resets_kept (status_put c s (record { number = n; end = true })) s 0
    (answers_kept c s (record { number = n; end = true }) number kept)

spare_enough : (c : Connection) → HasSpare c → 60 ≤ room c
spare_enough c spare = omega (arith, spare)

-- behind it there is room for all that is held
pub refused_fares : (c : Connection) (s n : ℕ) (resets : Bool) → s ≤ largest → 100 ≤ n → n < 1000 → HasSpare c → IsKept c
    → Fares (refused_on s n resets c)
refused_fares c s n false number low high spare kept =
    let less = refused_room c s number (spare_enough c spare) kept.caught_up n false low high in
    record { kept = refused_kept c s n false number kept; has_room = omega (arith, less, spare) }
refused_fares c s n true number low high spare kept =
    let less = refused_room c s number (spare_enough c spare) kept.caught_up n true low high in
    record { kept = refused_kept c s n true number kept; has_room = omega (arith, less, spare) }

pub reset_fares : (c : Connection) (s code : ℕ) → s ≤ largest → HasSpare c → IsKept c → Fares (aborted c s code)
reset_fares c s code number spare kept =
    let less = reset_room c s number (spare_enough c spare) kept.caught_up code in
    record { kept = resets_kept c s code kept; has_room = omega (arith, less, spare) }
