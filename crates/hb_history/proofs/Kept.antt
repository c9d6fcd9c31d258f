-- What each part of a move keeps is kept by what is made of these parts: owed frames, stream errors, ends of sides.
use Rattle.std.proofs.Common.{◌≡◌, ℕ, ◌≤◌, Bool, true, false, cond, List, [], ◌∷◌, ◌++◌, Option, Some, None, refl, ap, sym, ◌∙◌, subst, arith}
use Rattle.std.specs.List.{AllByRecursion}
use Rattle.std.proofs.lemmas.List.{append_assoc, append-nil}
use Rattle.hb_base.specs.declared.scope.Scope.{Scope}
use Rattle.hb_base.specs.declared.scope.Scope.TheVariants.{Connection, Stream}
use Rattle.hb_frames.specs.RawFrame.{RawFrame}
use Rattle.hb_hpack.specs.Encoding.{Writing}
use Rattle.hb_streams.specs.States.{States}
use Rattle.hb_streams.specs.Moves.{after, sends_end, reset}
use Rattle.hb_streams.specs.declared.fault.StreamFault.{StreamFault}
use Rattle.hb_flow.specs.Windows.{due_of}
use Rattle.hb_flow.specs.Flows.{took, owed, due_on, paid_on}
use Rattle.hb_flow.specs.Flows.{paid as paid_flow}
use Rattle.hb_flow.specs.Moves.{takes, owes, pays, pays_on}
use Rattle.hb_owed.specs.declared.due.Due.{Due}
use Rattle.hb_owed.specs.declared.due.Due.TheVariants as due
use Rattle.hb_owed.specs.Frames.{frame_of, behind}
use Rattle.hb_owed.specs.Debts.{taken_back as end_taken_back}
use Rattle.hb_owed.specs.Laws.{frames_for, IsPayment}
use Rattle.hb_owed.specs.Paid.{Payment, paid}
use Rattle.hb_owed.proofs.Payments.{pays_in_order}
use Rattle.hb_conn.specs.Frames.{sent, window_update}
use Rattle.hb_conn.specs.Owing.{goes_at_once, put_now, put_later, also, with_due, with_update, owed_paid}
use Rattle.hb_conn.specs.Faults.{faulted, is_active, withdrawn, released, given_up, cancelled, aborted, broken, refused, refused_by}
use Rattle.hb_conn.specs.Data.{updated, credited_on, used}
use Rattle.hb_conn.specs.Ending.{own_ended}
use Rattle.hb_conn.specs.declared.machine.Core.{Core}
use Rattle.hb_history.proofs.Parts.{Amid, calm, ending, gone, IsPlain, Keeps, KeepsOpen}
use Rattle.hb_history.proofs.Moved.{own_ended as ends_own, was_reset, reset_inactive}
use Rattle.hb_history.proofs.Records as records

-- frames that are owed have no payload that windows count, and answer no SETTINGS and no PING
pub due_is_plain : (w : Writing) (s : ℕ) (d : Due) → IsPlain (frame_of w s d)
due_is_plain w s (due.Status status) = (refl, refl)
due_is_plain w s (due.Credit n) = (refl, refl)
due_is_plain w s due.End = (refl, refl)
due_is_plain w s (due.Reset code) = (refl, refl)

pub dues_are_plain : (w : Writing) (xs : List (ℕ × Due)) → AllByRecursion IsPlain (frames_for w xs)
dues_are_plain w [] = tt
dues_are_plain w (x ∷ xs) = (due_is_plain w x.0 x.1, dues_are_plain (behind x.1 w) xs)

streams_by : (c : Core) (s : ℕ) (d : Due) (b : Bool) → (cond b (put_now c s d) (put_later c s d)).streams ≡ c.streams
streams_by c s d true = refl
streams_by c s d false = refl

-- a frame that is put or owed leaves the streams
pub due_streams : (c : Core) (s : ℕ) (d : Due) → (with_due c s d).streams ≡ c.streams
unfolding with_due
due_streams c s d = streams_by c s d (goes_at_once c s d)

cancelled_by : (c : Core) (s : ℕ) (b : Bool) → is_active c.streams s ≡ b
    → is_active (cond b (record c { streams = reset c.streams s }) c).streams s ≡ false
cancelled_by c s true is = reset_inactive s c.streams
cancelled_by c s false is = is

module _ (P : Amid → Core → Type 0) (k : Keeps P) where
  due_by : (a : Amid) (c : Core) (s : ℕ) (d : Due) → P a c → (b : Bool) → P a (cond b (put_now c s d) (put_later c s d))
  due_by a c s d h true =
      k.sends a (record c { encoder = behind d c.encoder }) (frame_of c.encoder s d) (due_is_plain c.encoder s d)
      (k.other a c (behind d c.encoder) c.blocks c.peer c.settled h)
  due_by a c s d h false = k.owes a c (also c.owed s d) (records.also_keeps c.owed s d) h

  pub due_keeps : (a : Amid) (c : Core) (s : ℕ) (d : Due) → P a c → P a (with_due c s d)
  unfolding with_due
  due_keeps a c s d h = due_by a c s d h (goes_at_once c s d)

  pub update_keeps : (a : Amid) (c : Core) (s : ℕ) (o : Option ℕ) → P a c → P a (with_update c s o)
  update_keeps a c s None h = h
  update_keeps a c s (Some n) h = due_keeps a c s (due.Credit n) h

  -- frames that are put one after another
  all_sent : (fs : List RawFrame) → AllByRecursion IsPlain fs → (a : Amid) (c : Core) → P a c
      → P a (record c { out = record c.out { queue = c.out.queue ++ fs } })
  all_sent [] plain a c h =
      subst (λ (q : List RawFrame). P a (record c { out = record c.out { queue = q } })) (sym (append-nil c.out.queue)) h
  all_sent (f ∷ fs) plain a c h =
      subst (λ (q : List RawFrame). P a (record c { out = record c.out { queue = q } })) (append_assoc c.out.queue (f ∷ []) fs)
      (all_sent fs plain.1 a (sent c f) (k.sends a c f plain.0 h))

  payment_by : (a : Amid) (c : Core) (p : Payment) → IsPayment (record { owed = c.owed; out = c.out; writing = c.encoder }) p
      → KeepsOpen c.owed p.owed → P a c → P a (record c { owed = p.owed; out = p.out; encoder = p.writing })
  payment_by a c p paying keeps h =
      let fs = frames_for c.encoder paying.put in
      let queue : P a (record c { out = record c.out { queue = c.out.queue ++ fs } }) = all_sent fs
      (dues_are_plain c.encoder paying.put) a c h in
      let there : record c.out { queue = c.out.queue ++ fs } ≡ p.out =
      sym (paying.begun ∙ ap (λ (q : List RawFrame). record c.out { queue = q }) paying.queue) in
      let out : P a (record c { out = p.out }) = subst (λ w. P a (record c { out = w })) there queue in
      k.other a (record c { out = p.out; owed = p.owed }) p.writing c.blocks c.peer c.settled
      (k.owes a (record c { out = p.out }) p.owed keeps out)

  pub payment_keeps : (a : Amid) (c : Core) → P a c → P a (owed_paid c)
  unfolding owed_paid
  payment_keeps a c h =
      let p : Payment = record { owed = c.owed; out = c.out; writing = c.encoder } in
      payment_by a c (paid p) (pays_in_order p) (records.payment_keeps p) h

  pub gone_released : (s : ℕ) (c : Core) → is_active c.streams s ≡ false → P (gone s) c → P calm (released c s)
  gone_released s c none h = rw none (k.leaves s c none h)

  withdrawn_keeps : (s : ℕ) (c : Core) → P (gone s) c → P (gone s) (withdrawn c s)
  withdrawn_keeps s c h =
      k.owes (gone s) _ (end_taken_back c.owed s) (records.end_taken_back c.owed s) (k.withdraws s c h)

  -- a stream that is closed is given up
  pub given_up_keeps : (s : ℕ) (c : Core) → is_active c.streams s ≡ false → P (gone s) c → P calm (given_up c s)
  given_up_keeps s c none h =
      payment_keeps calm (released (withdrawn c s) s) (gone_released s (withdrawn c s) none (withdrawn_keeps s c h))

  cancelled_keeps : (s : ℕ) (c : Core) (b : Bool) → P (gone s) c → P (gone s) (cond b (record c { streams = reset c.streams s }) c)
  cancelled_keeps s c true h = k.moves true s c (reset c.streams s) (was_reset s c.streams) h
  cancelled_keeps s c false h = h

  -- a stream that this end resets
  pub aborted_keeps : (s : ℕ) (c : Core) (code : ℕ) → P (gone s) c → P calm (aborted c s code)
  unfolding aborted
  aborted_keeps s c code h =
      let d = withdrawn (cancelled c s) s in
      let there : P (gone s) d = withdrawn_keeps s (cancelled c s) (cancelled_keeps s c (is_active c.streams s) h) in
      let e = with_due d s (due.Reset code) in
      let none : is_active e.streams s ≡ false =
      ap (λ (t : States). is_active t s) (due_streams d s (due.Reset code)) ∙ cancelled_by c s (is_active c.streams s) refl in
      payment_keeps calm (released e s) (gone_released s e none (due_keeps (gone s) d s (due.Reset code) there))

  pub broken_keeps : (s : ℕ) (c : Core) (code : ℕ) → P (ending s) c → P calm (broken c s code).core
  broken_keeps s c code h = aborted_keeps s c code (k.goes s c h)

  pub faulted_keeps : (a : Amid) (c : Core) (code : ℕ) → P a c → P calm (faulted c code).core
  faulted_keeps a c code h = k.faults a c c.flow code h

  refused_at : (c : Core) (scope : Scope) (code : ℕ) → ((q : ℕ) → P (ending q) c) → P calm (refused_by c scope code).core
  refused_at c Connection code h = faulted_keeps (ending 0) c code (h 0)
  refused_at c (Stream s) code h = broken_keeps s c code (h s)

  pub refused_keeps : (c : Core) (fault : StreamFault) → ((q : ℕ) → P (ending q) c) → P calm (refused c fault).core
  refused_keeps c fault h = refused_at c fault.scope fault.code h

  pub own_ended_keeps : (c : Core) (s : ℕ) → P calm c → P calm (own_ended c s)
  own_ended_keeps c s h =
      k.releases s (record c { streams = after c.streams (sends_end s) })
      (k.moves false s c (after c.streams (sends_end s)) (ends_own s c.streams) (k.ends s c h))

  -- windows of what came

  updated_keeps : (a : Amid) (c : Core) (o : Option ℕ) → P a c → P a (updated c o)
  updated_keeps a c None h = h
  updated_keeps a c (Some n) h = k.sends a c (window_update 0 n) (refl, refl) h

  pub used_keeps : (c : Core) (n : ℕ) → n ≤ c.flow.taking.granted → P calm c → P calm (used c n)
  used_keeps c n within h =
      let came = record c { flow = took c.flow n } in
      let owing = record c { flow = owed (took c.flow n) n } in
      updated_keeps calm (record c { flow = paid_flow owing.flow }) (due_of owing.flow.taking)
      (k.takes_in calm owing pays refl tt
      (k.takes_in calm came (owes n) refl (omega arith)
      (k.takes_in calm c (takes n) refl within h)))

  pub credited_keeps : (c : Core) (s : ℕ) → P calm c → P calm (credited_on c s)
  credited_keeps c s h =
      update_keeps calm (record c { flow = paid_on c.flow s }) s (due_on c.flow s) (k.takes_in calm c (pays_on s) refl tt h)
