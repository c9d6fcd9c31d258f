-- The DATA of a stream that is put, of which some may be taken back with the stream's end.
use Rattle.std.proofs.Common.{◌≡◌, ◌≢◌, ◌⊎◌, inl, inr, ℕ, ◌-◌, ◌≤◌, ◌<◌, ◌==◌, ◌&&◌, not, Bool, true, false, cond, List, [], ◌∷◌, ◌++◌, length, drop, take, Option, Some, None, is_some, refl, ap, ap₂, sym, ◌∙◌, subst, arith}
use Rattle.std.specs.List.{filter, AllByRecursion}
use Rattle.std.specs.FinMap.{get}
use Rattle.std.proofs.lemmas.Bool.{false≢true, cond_both, cases_eq, eq-eqb, ne_eqb}
use Rattle.std.proofs.lemmas.Bool.Decides.{nat_tests}
use Rattle.std.proofs.lemmas.List.{append_assoc, append-nil, nil_from_length, take-append-drop}
use Rattle.std.proofs.lemmas.Grind.{flat_map-append}
use Rattle.hb_frames.specs.RawFrame.{RawFrame}
use Rattle.hb_frames.specs.Numbers.{data_kind}
use Rattle.hb_map.proofs.Laws.{put_elsewhere}
use Rattle.hb_streams.specs.Moves.{begun as stream_begun}
use Rattle.hb_streams.specs.States.{States}
use Rattle.hb_streams.specs.declared.sides.Sides.{Sides}
use Rattle.hb_streams.specs.declared.role.Role.{Role}
use Rattle.hb_streams.proofs.Follows.{highest_stays}
use Rattle.hb_outgoing.specs.Selected.{has_data, is_data_of, is_kept, all_taken_back}
use Rattle.hb_outgoing.specs.Waiting.{Waiting}
use Rattle.hb_outgoing.specs.Written.{begun_by, written}
use Rattle.hb_outgoing.proofs.Sent.{begun_and_left}
use Rattle.hb_flow.specs.Flows.{closed, spent}
use Rattle.hb_owed.specs.Debts.{closed as owed_closed}
use Rattle.hb_owed.specs.declared.due.Due.{Due}
use Rattle.hb_owed.specs.declared.due.Due.TheVariants as due
use Rattle.hb_owed.specs.declared.status.Status.{Status}
use Rattle.hb_conn.specs.Connection.{Connection, core_of}
use Rattle.hb_conn.specs.Ending.{own_ended}
use Rattle.hb_conn.specs.Frames.{frame, sent}
use Rattle.hb_conn.specs.Headers.{registered}
use Rattle.hb_conn.specs.Observed.{outgoing, frames_begun, count_put, wrote, data_put, credited, status_put, end_put, aborted}
use Rattle.hb_conn.specs.Owing.{with_due}
use Rattle.hb_conn.specs.Owing.{wrote as wrote_by}
use Rattle.hb_conn.specs.Payload as payload
use Rattle.hb_conn.specs.Faults.{faulted, is_active}
use Rattle.hb_conn.specs.Faults.{aborted as aborted_core}
use Rattle.hb_conn.specs.declared.machine.Core.{Core}
use Rattle.hb_conn.specs.declared.found.Found.{Found}
use Rattle.hb_history.specs.Points.{Move, Point, After}
use Rattle.hb_history.specs.History.{StandsFor}
use Rattle.hb_history.specs.Calls.{IsLook}
use Rattle.hb_history.specs.Live.{AreLive}
use Rattle.hb_history.specs.Waits.{IsFirstBy, IsFirst}
use Rattle.hb_history.proofs.Parts.{Amid, calm, amid, ending, gone, Keeps, PutsAck, Resizes, MovesOn}
use Rattle.hb_history.proofs.Handled.{Grows, window_keeps}
use Rattle.hb_history.proofs.Acted.{look_keeps, credit_keeps}
use Rattle.hb_history.proofs.Connections.{of_core, looks_keep}
use Rattle.hb_history.proofs.Kept as kept
use Rattle.hb_history.proofs.Shown.{out_puts, none_behind}
use Rattle.hb_history.proofs.First.{first_keeps, first_puts, first_acks, first_written, data_stands_first}
use Rattle.hb_history.proofs.Flowed.{put_within}
use Rattle.hb_history.proofs.Lives.{Moved, moved_on, inactive_none, used_some, streams_move, live_streams}
use Rattle.hb_kept.specs.Payloads.{payload_on, payloads, Follows, Stays, LooksFollow, WritesFollow, UsesFollow, AnswersFollow, EndsFollow, ResetsFollow, OthersFollow, PutsFollow, MoreFollows, InventedIsRefused, LostIsRefused, BothMayWait}
use Rattle.hb_kept.proofs.Used.{has_window}

abbrev NoData : List RawFrame → Type 0
NoData fs = AllByRecursion (λ f. has_data f ≡ false) fs

nil_behind : (xs ys : List ℕ) → [] ≡ xs ++ ys → ys ≡ []
nil_behind [] ys is = sym is
nil_behind (x ∷ xs) ys is = absurd (cc)

none_by : (a m : Bool) (xs : List ℕ) → (a && not (length xs == 0)) ≡ false → cond (a && m) xs [] ≡ []
none_by true true xs none = nil_from_length xs (grind (arith, nat_tests, none))
none_by true false xs none = refl
none_by false m xs none = refl

module _ (role : Role) (stream : ℕ) where
  no_payload : (f : RawFrame) → has_data f ≡ false → payload_on stream f ≡ []
  no_payload f none = none_by (f.kind == data_kind) (f.stream == stream) f.payload none

  no_payloads : (fs : List RawFrame) → NoData fs → payloads stream fs ≡ []
  no_payloads [] none = refl
  no_payloads (f ∷ fs) none = ap₂ (λ (xs ys : List ℕ). xs ++ ys) (no_payload f none.0) (no_payloads fs none.1)

  none_filtered : (p : RawFrame → Bool) (fs : List RawFrame) → NoData fs → payloads stream (filter p fs) ≡ []
  none_filtered p [] none = refl
  none_filtered p (f ∷ fs) none = by (p f) (none_filtered p fs none.1)
    where
      by : (b : Bool) → payloads stream (filter p fs) ≡ [] → payloads stream (cond b (f ∷ filter p fs) (filter p fs)) ≡ []
      by true rest = ap₂ (λ (xs ys : List ℕ). xs ++ ys) (no_payload f none.0) rest
      by false rest = rest

  -- where DATA with payload stands first, what is taken back is the end of the payload
  abbrev Withdraws : (RawFrame → Bool) → List RawFrame → Type 0
  Withdraws p fs = (back : List ℕ) × (payloads stream fs ≡ payloads stream (filter p fs) ++ back)

  withdraws : (p : RawFrame → Bool) (rest : List ℕ) (fs : List RawFrame) → IsFirstBy rest fs → Withdraws p fs
  withdraws p rest [] first = ([], refl)
  withdraws p rest (f ∷ fs) first = by (p f)
    where
      by : (b : Bool) → (back : List ℕ) × (payloads stream (f ∷ fs) ≡ payloads stream (cond b (f ∷ filter p fs) (filter p fs)) ++ back)
      by true = (
        [],
        ap (λ (xs : List ℕ). payload_on stream f ++ xs) (no_payloads fs first.1 ∙ sym (none_filtered p fs first.1))
            ∙ sym (append-nil (payloads stream (f ∷ filter p fs))),
      )
      by false = (
        payload_on stream f,
        ap (λ (xs : List ℕ). payload_on stream f ++ xs) (no_payloads fs first.1) ∙ append-nil (payload_on stream f)
            ∙ ap (λ (xs : List ℕ). xs ++ payload_on stream f) (sym (none_filtered p fs first.1)),
      )

  other_by : (a : Bool) (q s : ℕ) (xs : List ℕ) → s ≢ stream → (a && (q == s)) ≡ true → cond (a && (q == stream)) xs [] ≡ []
  other_by true q s xs apart is =
      let there : q ≡ s = grind (arith, nat_tests, is) in
      ap (λ b. cond b xs []) (ne_eqb q stream (λ e. apart (sym there ∙ e)))
  other_by false q s xs apart is = refl

  -- what is taken back of another stream is no payload of this one
  others_stay : (s : ℕ) → s ≢ stream → (fs : List RawFrame) → payloads stream (filter (is_kept (Some s)) fs) ≡ payloads stream fs
  others_stay s apart [] = refl
  others_stay s apart (f ∷ fs) = by (is_data_of (Some s) f) refl (others_stay s apart fs)
    where
      by : (b : Bool) → is_data_of (Some s) f ≡ b → payloads stream (filter (is_kept (Some s)) fs) ≡ payloads stream fs
          → payloads stream (cond (not b) (f ∷ filter (is_kept (Some s)) fs) (filter (is_kept (Some s)) fs)) ≡ payloads stream (f ∷ fs)
      by true test rest = rest ∙ ap (λ (xs : List ℕ). xs ++ payloads stream fs)
          (sym (other_by (f.kind == data_kind) f.stream s f.payload apart test))
      by false test rest = ap (λ (xs : List ℕ). payload_on stream f ++ xs) rest

  payload_pushed : (begun queue : List RawFrame) (f : RawFrame) → payloads stream (begun ++ (queue ++ f ∷ []))
      ≡ payloads stream (begun ++ queue) ++ payload_on stream f
  payload_pushed begun queue f =
      ap (payloads stream) (sym (append_assoc begun queue (f ∷ []))) ∙ flat_map-append (payload_on stream) (begun ++ queue) (f ∷ [])
      ∙ ap (λ (xs : List ℕ). payloads stream (begun ++ queue) ++ xs) (append-nil (payload_on stream f))

  -- The payload of the frames begun, and of those that wait, is a front of what is to be sent; while the stream goes on the rest
  -- is what no frame has yet
  abbrev FollowsBy : List RawFrame → List ℕ → List ℕ → Type 0 → List RawFrame → Type 0
  FollowsBy begun all waiting on queue = (rest : List ℕ) × (all ≡ payloads stream (begun ++ queue) ++ rest) × (on → rest ≡ waiting)

  -- the stream goes on: none of its DATA is taken back, no connection error was told, and it is open or half-closed
  abbrev Spared : Amid → Type 0
  Spared (amid true s) = s ≢ stream
  Spared _ = Unit {0}

  abbrev Going : Amid → Core → Type 0
  Going a c = Spared a × (c.over ≡ false) × (is_some (get c.streams.active stream) ≡ true)

  -- before the stream is used nothing is to be sent
  abbrev Unused : List ℕ → List ℕ → ℕ → Type 0
  Unused all waiting highest = highest < stream → (all ≡ []) × (waiting ≡ [])

  -- what every look keeps
  abbrev Asks : List RawFrame → List ℕ → List ℕ → Amid → Core → Type 0
  Asks begun all waiting a c =
      IsFirst c.out × Moved role c.streams × Unused all waiting c.streams.highest × FollowsBy begun all waiting (Going a c) c.out.queue

  module _ (begun : List RawFrame) (all waiting : List ℕ) where
    less : (on off : Type 0) (queue : List RawFrame) → (off → on) → FollowsBy begun all waiting on queue
        → FollowsBy begun all waiting off queue
    less on off queue still h = (h.0, h.1, λ o. h.2 (still o))

    pushed : (on : Type 0) (queue : List RawFrame) (f : RawFrame) → has_data f ≡ false → FollowsBy begun all waiting on queue
        → FollowsBy begun all waiting on (queue ++ f ∷ [])
    pushed on queue f none h = (
      h.0,
      h.1 ∙ ap (λ (xs : List ℕ). xs ++ h.0)
          (sym (payload_pushed begun queue f ∙ ap (λ (xs : List ℕ). payloads stream (begun ++ queue) ++ xs) (no_payload f none)
          ∙ append-nil (payloads stream (begun ++ queue)))),
      h.2,
    )

    -- frames are taken back, and the stream doesn't go on
    taken : (on off : Type 0) (p : RawFrame → Bool) (rest : List ℕ) (queue : List RawFrame) → IsFirstBy rest queue → (off → ⊥)
        → FollowsBy begun all waiting on queue → FollowsBy begun all waiting off (filter p queue)
    taken on off p rest queue first never h =
        let back = withdraws p rest queue first in (
          back.0 ++ h.0,
          h.1
              ∙ ap (λ (xs : List ℕ). xs ++ h.0) (flat_map-append (payload_on stream) begun queue
              ∙ ap (λ (xs : List ℕ). payloads stream begun ++ xs) back.1
              ∙ sym (append_assoc (payloads stream begun) (payloads stream (filter p queue)) back.0)
              ∙ ap (λ (xs : List ℕ). xs ++ back.0) (sym (flat_map-append (payload_on stream) begun (filter p queue))))
              ∙ append_assoc (payloads stream (begun ++ filter p queue)) back.0 h.0,
          λ o. absurd (never o),
        )

    -- frames of another stream are taken back
    spared : (on off : Type 0) (s : ℕ) (queue : List RawFrame) → s ≢ stream → (off → on) → FollowsBy begun all waiting on queue
        → FollowsBy begun all waiting off (filter (is_kept (Some s)) queue)
    spared on off s queue apart still h = (
      h.0,
      h.1 ∙ ap (λ (xs : List ℕ). xs ++ h.0) (flat_map-append (payload_on stream) begun queue
          ∙ ap (λ (xs : List ℕ). payloads stream begun ++ xs) (sym (others_stay s apart queue))
          ∙ sym (flat_map-append (payload_on stream) begun (filter (is_kept (Some s)) queue))),
      λ o. h.2 (still o),
    )

    was_by : (s : ℕ) (old new : States) → MovesOn s old new → (o : Option _) → get old.active s ≡ o → is_some (get new.active s) ≡ true
        → is_some o ≡ true
    was_by s old new on (Some x) is some = refl
    was_by s old new on None is some = sym (ap is_some (on.fewer is)) ∙ some

    -- the stream was active where it is
    was : (s : ℕ) (old new : States) → MovesOn s old new → is_some (get new.active stream) ≡ true → is_some (get old.active stream) ≡ true
    was s old new on some = elim (cases_eq stream s) [
      | inl same ↦ ap (λ q. is_some (get old.active q)) same
          ∙ was_by s old new on (get old.active s) refl (sym (ap (λ q. is_some (get new.active q)) same) ∙ some)
      | inr apart ↦ sym (ap is_some (on.elsewhere stream apart)) ∙ some
    ]

    fault_asks : (a : Amid) (c : Core) (code : ℕ) → Asks begun all waiting a c → Asks begun all waiting calm (faulted c code).core
    unfolding faulted
    fault_asks a c code h = (
      first_keeps.puts (all_taken_back c.out) _ (refl, refl) (first_keeps.takes_all_back c.out h.0),
      h.1,
      h.2,
      pushed _ (filter (is_kept None) c.out.queue) _ refl
          (taken (Going a c) _ (is_kept None) c.out.rest c.out.queue h.0 (λ o. false≢true (sym o.1)) h.3),
    )

    released_by : (s : ℕ) (c : Core) (b : Bool) → Asks begun all waiting calm c
        → Asks begun all waiting calm (cond b c (record c { flow = closed c.flow s; owed = owed_closed c.owed s }))
    released_by s c true h = h
    released_by s c false h = h

    withdrawn_by : (s : ℕ) (c : Core) → Asks begun all waiting (gone s) c → (s ≡ stream) ⊎ (s ≢ stream)
        → FollowsBy begun all waiting (Going (gone s) c) (filter (is_kept (Some s)) c.out.queue)
    withdrawn_by s c h (inl same) =
        taken (Going (gone s) c) _ (is_kept (Some s)) c.out.rest c.out.queue h.0 (λ o. o.0 same) h.3
    withdrawn_by s c h (inr apart) = spared (Going (gone s) c) _ s c.out.queue apart (λ o. o) h.3

    left : (s : ℕ) (c : Core) → is_active c.streams s ≡ false → Asks begun all waiting (gone s) c → Going calm c → Going (gone s) c
    left s c none h o = (
      λ same. false≢true (inactive_none role c.streams s h.1 none (ap (λ q. is_some (get c.streams.active q)) same ∙ o.2)),
      o.1,
      o.2,
    )

    -- a stream begins: this one, of which there was nothing to be sent, or another one
    begun_by_stream : (s : ℕ) (c : Core) (sides : Sides) → c.streams.highest < s → Asks begun all waiting calm c
        → (s ≡ stream) ⊎ (s ≢ stream)
        → FollowsBy begun all waiting (Going calm (registered (record c { streams = stream_begun c.streams s sides }) s)) c.out.queue
    begun_by_stream s c sides above h (inl same) =
        let none = h.2 (subst (λ (n : ℕ). c.streams.highest < n) same above) in
        let follows = h.3 in (
          follows.0,
          follows.1,
          λ o. nil_behind (payloads stream (begun ++ c.out.queue)) follows.0 (sym none.0 ∙ follows.1) ∙ sym none.1,
        )
    begun_by_stream s c sides above h (inr apart) =
        less (Going calm c) _ c.out.queue
        (λ o. (tt, o.1, sym (ap is_some (put_elsewhere c.streams.active s sides stream (λ same. apart (sym same)))) ∙ o.2)) h.3

    asks_keep : Keeps (Asks begun all waiting)
    asks_keep = record {
      ends = λ s c h. h;
      goes = λ s c h. (h.0, h.1, h.2, less (Going (ending s) c) (Going (gone s) c) c.out.queue (λ o. (tt, o.1, o.2)) h.3);
      other = λ a c e b p t h. h;
      sends = λ a c f plain h. (first_keeps.puts c.out f plain h.0, h.1, h.2, pushed (Going a c) c.out.queue f plain.0 h.3);
      owes = λ a c m keeps h. h;
      moves = λ b s c t on h. (
        h.0,
        moved_on role c.streams t on.move on.is h.1,
        λ above. (
            let up : c.streams.highest ≤ t.highest = subst (λ (u : States). c.streams.highest ≤ u.highest) (sym on.is)
            (highest_stays c.streams on.move) in
            h.2 (omega (arith, up, above))
            ),
        less (Going (amid b s) c) _ c.out.queue (λ o. (o.0, o.1, was s c.streams t on o.2)) h.3,
      );
      withdraws = λ s c h. (first_keeps.takes_back c.out s h.0, h.1, h.2, withdrawn_by s c h (cases_eq s stream));
      releases = λ s c h. released_by s c (is_active c.streams s) h;
      leaves = λ s c none h. (h.0, h.1, h.2, less (Going (gone s) c) (Going calm c) c.out.queue (left s c none h) h.3);
      takes_in = λ a c m taking may h. h;
      begins = λ s c sides m above becomes h. (
        h.0,
        moved_on role c.streams _ m (sym becomes) h.1,
        λ more. h.2 (omega (arith, above, more)),
        begun_by_stream s c sides above h (cases_eq s stream),
      );
      faults = λ a c f code h. fault_asks a (record c { flow = f }) code h;
    }

    asks_ack : PutsAck (Asks begun all waiting)
    asks_ack c f answer h = (first_acks c f answer h.0, h.1, h.2, pushed (Going calm c) c.out.queue f answer.0 h.3)

    asks_resize : Resizes (Asks begun all waiting)
    asks_resize c k within fits h = h

    asks_grow : (c : Core) (s n : ℕ) → Asks begun all waiting calm c → Grows (Asks begun all waiting) c s n
    asks_grow c s n h = record {
      fault = λ code. fault_asks calm c code h;
      whole = λ zero fits. h;
      one = λ some w is fits. h;
      broken = λ some live. (h.0, h.1, h.2, less (Going calm c) (Going (gone s) c) c.out.queue (λ o. (tt, o.1, o.2)) h.3);
      ignored = λ some live why. h;
    }

  -- of a connection between moves
  abbrev AsksOn : List RawFrame → List ℕ → List ℕ → Connection → Type 0
  AsksOn begun all waiting c = Asks begun all waiting calm (core_of c)

  module _ (begun : List RawFrame) (all waiting : List ℕ) where
    asks : (c : Connection) → IsFirst (core_of c).out → Moved role (core_of c).streams → Follows stream begun all waiting c
        → AsksOn begun all waiting c
    asks c first moved h = (first, moved, h.unused, (h.rest, h.front, λ o. h.goes (o.1, o.2)))

    follows : (c : Connection) → AsksOn begun all waiting c → Follows stream begun all waiting c
    follows c h = record { rest = h.3.0; front = h.3.1; goes = λ o. h.3.2 (tt, o.0, o.1); unused = h.2 }

    -- a look keeps it
    look_asks : (c : Core) (m : Move) (new : Core) (told : Found) → IsLook m → After c m new told → Asks begun all waiting calm c
        → Asks begun all waiting calm new
    look_asks c m new told look after h =
        let P = Asks begun all waiting in
        let k = asks_keep begun all waiting in
        look_keeps P k (asks_resize begun all waiting) (asks_ack begun all waiting) c m new told look h
        (λ s n. window_keeps P k c s n (asks_grow begun all waiting c s n h)) after

    -- frames begin
    write_asks : (n : ℕ) (c : Core) → Asks begun all waiting calm c → Asks (begun ++ begun_by n c.out) all waiting calm (wrote_by c n)
    write_asks n c h =
        let fs = begun ++ begun_by n c.out in
        let old = record c { out = written n c.out } in
        let same : payloads stream (begun ++ c.out.queue) ≡ payloads stream (fs ++ (written n c.out).queue) =
        ap (payloads stream) (ap (λ (gs : List RawFrame). begun ++ gs) (sym (begun_and_left (n - length c.out.rest) c.out.queue))
        ∙ sym (append_assoc begun (begun_by n c.out) (written n c.out).queue)) in
        kept.payment_keeps (Asks fs all waiting) (asks_keep fs all waiting) calm old
        (first_written c.out n h.0, h.1, h.2, (h.3.0, h.3.1 ∙ ap (λ (xs : List ℕ). xs ++ h.3.0) same, h.3.2))

    -- a status, an end and a reset
    due_asks : (c : Core) (s : ℕ) (d : Due) → Asks begun all waiting calm c → Asks begun all waiting calm (with_due c s d)
    due_asks c s d h = kept.due_keeps (Asks begun all waiting) (asks_keep begun all waiting) calm c s d h

    answer_asks : (c : Core) (s : ℕ) (status : Status) → Asks begun all waiting calm c
        → Asks begun all waiting calm (cond status.end (own_ended (with_due c s (due.Status status)) s) (with_due c s (due.Status status)))
    answer_asks c s status h =
        let put = with_due c s (due.Status status) in
        let went = due_asks c s (due.Status status) h in
        cond_both status.end (own_ended put s) put (λ (x : Core). Asks begun all waiting calm x)
        (λ is. kept.own_ended_keeps (Asks begun all waiting) (asks_keep begun all waiting) put s went) (λ is. went)

    end_asks : (c : Core) (s : ℕ) → Asks begun all waiting calm c → Asks begun all waiting calm (own_ended (with_due c s due.End) s)
    end_asks c s h =
        kept.own_ended_keeps (Asks begun all waiting) (asks_keep begun all waiting) (with_due c s due.End) s (due_asks c s due.End h)

    reset_asks : (c : Core) (s code : ℕ) → Asks begun all waiting calm c → Asks begun all waiting calm (aborted_core c s code)
    reset_asks c s code h =
        let k = asks_keep begun all waiting in
        kept.aborted_keeps (Asks begun all waiting) k s c code (k.goes s c (k.ends s c h))

    -- DATA of another stream
    other_put : (c : Core) (s n : ℕ) (bytes : List ℕ) (b : Bool) → s ≢ stream
        → IsFirst (cond b c (sent (record c { flow = spent c.flow s n }) (frame data_kind 0 s (take n bytes)))).out
        → Asks begun all waiting calm c
        → Asks begun all waiting calm (cond b c (sent (record c { flow = spent c.flow s n }) (frame data_kind 0 s (take n bytes))))
    other_put c s n bytes true apart first h = h
    other_put c s n bytes false apart first h =
        let f = frame data_kind 0 s (take n bytes) in
        let none : payload_on stream f ≡ [] = ap (λ b. cond b (take n bytes) []) (ne_eqb s stream apart) in (
          first,
          h.1,
          h.2,
          (
            h.3.0,
            h.3.1 ∙ ap (λ (xs : List ℕ). xs ++ h.3.0)
                (sym (payload_pushed begun c.out.queue f ∙ ap (λ (xs : List ℕ). payloads stream (begun ++ c.out.queue) ++ xs) none
                ∙ append-nil (payloads stream (begun ++ c.out.queue)))),
            h.3.2,
          ),
        )

    other_asks : (s : ℕ) (bytes : List ℕ) (c : Core) → s ≢ stream → Asks begun all waiting calm c
        → Asks begun all waiting calm (payload.data_put c s bytes)
    other_asks s bytes c apart h =
        other_put c s (payload.count_put c s bytes) bytes (payload.count_put c s bytes == 0) apart (out_puts IsFirst first_puts c s bytes h.0) h

    -- some of what waits is put
    put_by : (c : Core) (n : ℕ) (b : Bool) → b ≡ false → Going calm c
        → IsFirst (cond b c (sent (record c { flow = spent c.flow stream n }) (frame data_kind 0 stream (take n waiting)))).out
        → Asks begun all waiting calm c
        → Asks begun all (drop n waiting) calm
        (cond b c (sent (record c { flow = spent c.flow stream n }) (frame data_kind 0 stream (take n waiting))))
    put_by c n true some on first h = absurd (false≢true (sym some))
    put_by c n false some on first h =
        let f = frame data_kind 0 stream (take n waiting) in
        let mine : payload_on stream f ≡ take n waiting = ap (λ b. cond b (take n waiting) []) (eq-eqb stream stream refl) in (
          first,
          h.1,
          λ above. absurd (let low = (used_some role c.streams stream h.1 on.2).2.1 in omega (arith, low, above)),
          (
            drop n waiting,
            h.3.1 ∙ ap (λ (xs : List ℕ). payloads stream (begun ++ c.out.queue) ++ xs) (h.3.2 on ∙ sym (take-append-drop n waiting))
                ∙ sym (append_assoc (payloads stream (begun ++ c.out.queue)) (take n waiting) (drop n waiting))
                ∙ ap (λ (xs : List ℕ). xs ++ drop n waiting)
                (sym (payload_pushed begun c.out.queue f ∙ ap (λ (xs : List ℕ). payloads stream (begun ++ c.out.queue) ++ xs) mine)),
            λ o. refl,
          ),
        )

    put_asks : (c : Core) → (payload.count_put c stream waiting == 0) ≡ false → Going calm c → Asks begun all waiting calm c
        → Asks begun all (drop (payload.count_put c stream waiting) waiting) calm (payload.data_put c stream waiting)
    put_asks c some on h =
        put_by c (payload.count_put c stream waiting) (payload.count_put c stream waiting == 0) some on
        (out_puts IsFirst first_puts c stream waiting h.0) h

-- of a connection after a history
module _ (role : Role) (points : List Point) (given : List Found) (came written : List ℕ) (c : Connection)
    (stands : StandsFor role points given came written c) where
  begins_asked : (stream : ℕ) (begun : List RawFrame) (all waiting : List ℕ) → Follows stream begun all waiting c
      → AsksOn role stream begun all waiting c
  begins_asked stream begun all waiting h =
      asks role stream begun all waiting c (data_stands_first role points given came written c stands)
      (streams_move role points given came written c stands) h

  stays : (d : Connection) → ((stream : ℕ) (begun : List RawFrame) (all waiting : List ℕ) → AsksOn role stream begun all waiting c
      → AsksOn role stream begun all waiting d) → Stays c d
  stays d keeps stream begun all waiting h =
      follows role stream begun all waiting d (keeps stream begun all waiting (begins_asked stream begun all waiting h))

pub looks_follow : LooksFollow
looks_follow role points given came written c stands d ps told look =
    stays role points given came written c stands d
    (λ stream begun all waiting h.
    looks_keep (Asks role stream begun all waiting calm) (look_asks role stream begun all waiting) ps c d look.looks look.runs h)

pub writes_follow : WritesFollow
writes_follow role points given came written c stands stream n begun all waiting h =
    follows role stream (begun ++ frames_begun n c) all waiting (wrote c n)
    (of_core (write_asks role stream begun all waiting n) c (begins_asked role points given came written c stands stream begun all waiting h))

pub uses_follow : UsesFollow
uses_follow role points given came written c stands used n within =
    stays role points given came written c stands (credited c used n)
    (λ stream begun all waiting h.
    of_core (λ (k : Core). credit_keeps (Asks role stream begun all waiting) (asks_keep role stream begun all waiting) k used n) c within h)

pub answers_follow : AnswersFollow
answers_follow role points given came written c stands s status =
    stays role points given came written c stands (status_put c s status)
    (λ stream begun all waiting h. answer_asks role stream begun all waiting (core_of c) s status h)

pub ends_follow : EndsFollow
ends_follow role points given came written c stands s =
    stays role points given came written c stands (end_put c s)
    (λ stream begun all waiting h. end_asks role stream begun all waiting (core_of c) s h)

pub resets_follow : ResetsFollow
resets_follow role points given came written c stands s code =
    stays role points given came written c stands (aborted c s code)
    (λ stream begun all waiting h. reset_asks role stream begun all waiting (core_of c) s code h)

pub others_follow : OthersFollow
others_follow role points given came written c stands stream s bytes apart begun all waiting h =
    follows role stream begun all waiting (data_put c s bytes)
    (other_asks role stream begun all waiting s bytes (core_of c) apart
    (begins_asked role points given came written c stands stream begun all waiting h))

-- DATA goes only on a stream that goes on
puts_on : (c : Connection) (stream : ℕ) (bytes : List ℕ) → (payload.count_put (core_of c) stream bytes == 0) ≡ false
    → ((core_of c).over ≡ false → AreLive (core_of c)) → ((core_of c).over ≡ false) × (is_some (get (core_of c).streams.active stream) ≡ true)
puts_on c stream bytes some live =
    let k = core_of c in
    let over = none_behind k stream bytes some in (
      over,
      sym ((live over).windows stream)
          ∙ has_window k.flow (get k.flow.streams stream) (payload.count_put k stream bytes) some (put_within k stream bytes),
    )

pub puts_follow : PutsFollow
puts_follow role points given came written c stands stream begun all waiting some h =
    let count : (payload.count_put (core_of c) stream waiting == 0) ≡ false = grind (arith, nat_tests, some) in
    let on = puts_on c stream waiting count (live_streams role points given came written c stands) in
    follows role stream begun all (drop (count_put c stream waiting) waiting) (data_put c stream waiting)
    (put_asks role stream begun all waiting (core_of c) count (tt, on.0, on.1)
    (begins_asked role points given came written c stands stream begun all waiting h))

pub more_follows : MoreFollows
more_follows stream begun all waiting more c used h = record {
  rest = h.rest ++ more;
  front = ap (λ (xs : List ℕ). xs ++ more) h.front
      ∙ append_assoc (payloads stream (begun ++ (outgoing c).queue)) h.rest more;
  goes = λ o. ap (λ (xs : List ℕ). xs ++ more) (h.goes o);
  unused = λ above. absurd (omega (arith, used, above));
}

pub invented_is_refused : InventedIsRefused
invented_is_refused stream octet c f is h =
    absurd (let all : [] ≡ (octet ∷ [] ++ payloads stream (outgoing c).queue) ++ h.rest = h.front
    ∙ ap (λ (xs : List ℕ). (xs ++ payloads stream (outgoing c).queue) ++ h.rest) is in cc)

pub lost_is_refused : LostIsRefused
lost_is_refused stream first second c on none h =
    let rest : first ∷ second ∷ [] ≡ h.rest = h.front ∙ ap (λ (w : Waiting). payloads stream w.queue ++ h.rest) none in
    absurd (let both : first ∷ second ∷ [] ≡ second ∷ [] = rest ∙ h.goes on in cc)

pub both_may_wait : BothMayWait
both_may_wait stream first second c used none = record {
  rest = first ∷ second ∷ [];
  front = ap (λ (w : Waiting). payloads stream w.queue ++ first ∷ second ∷ []) (sym none);
  goes = λ on. refl;
  unused = λ above. absurd (omega (arith, used, above));
}
