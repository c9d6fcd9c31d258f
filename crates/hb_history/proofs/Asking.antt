-- What acts of this end and frames of the peer make of a client that asks on one stream.
use Rattle.hb_base.specs.declared.scope.Scope.TheVariants as scope
use Rattle.hb_base.specs.declared.scope.Scope.{Scope}
use Rattle.hb_blocks.specs.Assembly.{Progress}
use Rattle.hb_blocks.specs.declared.fault.BlockFault.{BlockFault}
use Rattle.hb_blocks.specs.declared.whole.Whole.{Whole}
use Rattle.hb_conn.specs.Connection.{fresh_client}
use Rattle.hb_conn.specs.Credit.{used_on, credit}
use Rattle.hb_conn.specs.Data.{updated, credited_on, used, padded, is_of_idle, continued, data_goes, data_answered, on_data}
use Rattle.hb_conn.specs.Faults.{faulted as fault_of, released, broken, refused as refused_for, refused_by}
use Rattle.hb_conn.specs.Frames.{word, frame, sent, window_update, settings_ack, ping_ack}
use Rattle.hb_conn.specs.Handling.{does, Answers, HandlesBy, Handles}
use Rattle.hb_conn.specs.Headers.{headed, headers_answered, block_told, DoesBlock}
use Rattle.hb_frames.specs.Numbers.{data_kind, headers_kind, rst_stream_kind, window_update_kind, max_concurrent_streams}
use Rattle.hb_frames.specs.Numbers.{initial_window_size, max_frame_size, protocol_error, flow_control_error, largest}
use Rattle.hb_conn.specs.Opening.{opened_with}
use Rattle.hb_conn.specs.Outcome.{Outcome, outcome, Gives}
use Rattle.hb_conn.specs.Owing as owing
use Rattle.hb_conn.specs.Owing.{put_now, put_later, goes_at_once, with_due, with_update, owed_paid}
use Rattle.hb_conn.specs.Payload.{count_put, data_put}
use Rattle.hb_conn.specs.Places.{is_misplaced}
use Rattle.hb_conn.specs.Resets.{reset_answered}
use Rattle.hb_conn.specs.Settings.{Resized, AppliesBy, AppliesAll, Then, applied, SettlesBy, DoesSettings, allows_push}
use Rattle.hb_conn.specs.Windows.{connection_grows, stream_grows, stream_answered, on_window}
use Rattle.hb_conn.specs.declared.found.Found.TheVariants as found
use Rattle.hb_conn.specs.declared.found.Found.{Found}
use Rattle.hb_conn.specs.declared.glance.Glance.TheVariants as glance
use Rattle.hb_conn.specs.declared.glance.Glance.{Glance}
use Rattle.hb_conn.specs.declared.machine.Core.{Core}
use Rattle.hb_flow.proofs.Changes.{still_taking, changed_here, changed_elsewhere}
use Rattle.hb_flow.specs.Flows.{Flows, changed, sending_by, taking_by, took_on, granted, granted_on, creditable, creditable_by, due_by as due_by_windows, paid_on, spent}
use Rattle.hb_flow.proofs.Sizes.{resizes_each}
use Rattle.hb_flow.specs.Flows.{closed as flow_closed, paid as paid_flow, new_windows, owed, took}
use Rattle.hb_flow.specs.Sizes.{resized, with_size}
use Rattle.hb_flow.specs.Windows.{Windows, worth_granting, taken, owing, due_of, paid_of}
use Rattle.hb_flow.specs.Windows.{more as window_more, less as window_less}
use Rattle.hb_frames.proofs.Spelling.{digits_of_four}
use Rattle.hb_frames.specs.RawFrame.{RawFrame}
use Rattle.hb_frames.specs.Refusals.{settings, increment_of}
use Rattle.hb_history.proofs.Alone.{IsAlone, IsPeerOpen, is_live, data_here, headers_here, no_new, received, headers_leave, not_ignored}
use Rattle.hb_history.proofs.Crediting.{OfConnection, OfStream, whole_new, part_new, granting, used_short, used_granted, owed_fits, part_came, part_owed, part_put, part_later, part_paid, part_fits}
use Rattle.hb_history.proofs.FrameLists.{Own, Farewell, own_kept, own_pushed}
use Rattle.hb_history.proofs.CatchUpAnswers.{word_len}
use Rattle.hb_history.proofs.Glanced.{is_data}
use Rattle.hb_history.proofs.Grants.{granted_more}
use Rattle.hb_history.proofs.Moved as moved
use Rattle.hb_history.proofs.OnlyCredit.{OnlyCredit, OwesCredit, struck_only, struck_none, also_only, also_credit, alone_dues, only_dues, none_owed, owes_none}
use Rattle.hb_history.specs.OwnFrames.{first_stream, is_later}
use Rattle.hb_history.specs.Sending.{increment_on, increments}
use Rattle.hb_hpack.specs.declared.header.Header.{Header}
use Rattle.hb_map.proofs.Laws.{put_here, put_elsewhere}
use Rattle.hb_outgoing.proofs.Sent.{begun_and_left}
use Rattle.hb_outgoing.proofs.Views.{put_is_long}
use Rattle.hb_outgoing.specs.Selected.{is_kept}
use Rattle.hb_outgoing.specs.Waiting.{Waiting, room_of, put}
use Rattle.hb_outgoing.specs.Written.{begun_by, written}
use Rattle.hb_owed.specs.Debts.{Debts, credit_on, dues, dues_on, dues_by}
use Rattle.hb_owed.specs.Debts.{closed as owed_closed, credit_by as credit_by_debt}
use Rattle.hb_owed.specs.Dues.{clear, is_nil}
use Rattle.hb_owed.specs.Frames.{credit_frame}
use Rattle.hb_owed.specs.Paid.{Payment, with_put, put_while_fits, paid}
use Rattle.hb_owed.specs.declared.due.Due.TheVariants as due
use Rattle.hb_owed.proofs.Walks.{on}
use Rattle.hb_streams.specs.Answers.{answer_of, number_of}
use Rattle.hb_streams.specs.Moves.{receives, after, after_number, begins as begins_next}
use Rattle.hb_streams.specs.Sides.{both_open, sides_of}
use Rattle.hb_streams.proofs.Begins.{is_new}
use Rattle.hb_streams.specs.States.{States, state_of, state_by, state_of_others}
use Rattle.hb_streams.specs.declared.fault.StreamFault.{StreamFault}
use Rattle.hb_streams.specs.declared.step.Step.TheVariants as step
use Rattle.hb_streams.specs.declared.step.Step.{Step}
use Rattle.hb_windows.specs.Sending.{Sending}
use Rattle.hb_windows.specs.Taking.{Taking}
use Rattle.std.proofs.Common.{◌≡◌, inl, inr, ℕ, ◌+◌, ◌-◌, ◌%◌, ◌≤◌, ◌<◌, ◌==◌, ◌&&◌, ◌||◌, Bool, true, false, cond, filter, List, [], ◌∷◌, ◌++◌, length, take, Option, Some, None, Result, Ok, Err, refl, ap, sym, ◌∙◌, subst, arith}
use Rattle.std.proofs.lemmas.Bool.Decides.{nat_tests}
use Rattle.std.proofs.lemmas.Bool.{cases_eq, eq-eqb, ne_eqb, false≢true}
use Rattle.std.proofs.lemmas.List.{append_assoc}
use Rattle.std.specs.FinMap.{FinMap, get, insert, get-empty}
use Rattle.std.specs.Option.{option_map}
use Rattle.std.specs.Ordering.{nat_cmp}
use Rattle.std.specs.Prelude.{nat_lt, nat_le}

-- the stream's windows, beside b octets of DATA that came and k that are kept, where these frames have begun; unless the peer
-- ended its side, less is owed than is worth granting
pub record OnStream (front : List RawFrame) (b k : ℕ) (e : Bool) (s : States) (streams : FinMap nat_cmp Windows) (m : Debts)
    (queue : List RawFrame) : Type 0 where
  pub windows : Windows
  pub has : get streams first_stream ≡ Some windows
  pub part : OfStream windows.taking b (increments first_stream (front ++ queue)) (credit_on m first_stream) k
  pub soon : e ≡ false → IsPeerOpen s × (windows.taking.owed < worth_granting)

-- and those of the connection, beside a octets that came; where there is room for a frame no increment is owed
abbrev pub Credits : List RawFrame → (a b k : ℕ) → Bool → States → Flows → Debts → Waiting → Type 0
Credits front a b k e s f m out =
    OfConnection f.taking a (increments 0 (front ++ out.queue))
    × OnStream front b k e s f.streams m out.queue
    × (17 ≤ room_of out → credit_on m first_stream ≡ 0)

-- a connection whose stream goes on, and one behind a connection error, of which these frames have begun
abbrev pub Goes : List RawFrame → (a b k : ℕ) → Bool → Core → Type 0
Goes front a b k e c =
    IsAlone c.streams × OnlyCredit c.owed × Own (front ++ c.out.queue) × Credits front a b k e c.streams c.flow c.owed c.out

abbrev pub IsOver : List RawFrame → Core → Type 0
IsOver front c = ((q : ℕ) → get c.owed q ≡ None) × Farewell (front ++ c.out.queue)

-- what a frame grants
small_word : (n : ℕ) → n < 2147483648 → n % 2147483648 ≡ n
small_word n fits = omega (arith, fits)

pub word_grants : (s n : ℕ) → n < 2147483648 → increment_of (window_update s n) ≡ n
unfolding word
word_grants s n fits = ap (λ k. k % 2147483648) (digits_of_four n) ∙ small_word n fits

credit_grants : (s n : ℕ) → n < 2147483648 → increment_of (credit_frame s n) ≡ n
credit_grants s n fits = ap (λ k. k % 2147483648) (digits_of_four n) ∙ small_word n fits

grants_more : (n : ℕ) (front queue : List RawFrame) (f : RawFrame)
    → increments n (front ++ (queue ++ f ∷ [])) ≡ increments n (front ++ queue) + increment_on n f
grants_more n front queue f = ap (increments n) (sym (append_assoc front queue (f ∷ []))) ∙ granted_more n (front ++ queue) f

grants_none : (n : ℕ) (front queue : List RawFrame) (f : RawFrame) → increment_on n f ≡ 0
    → increments n (front ++ (queue ++ f ∷ [])) ≡ increments n (front ++ queue)
grants_none n front queue f none = omega (arith, grants_more n front queue f, none)

room_falls : (f : RawFrame) (w : Waiting) → room_of (put f w) ≤ room_of w
room_falls f w = omega (arith, put_is_long f w)

-- sending windows change
sending_here : (f : Flows) (s : ℕ) (change : Sending → Sending) (w : Windows) → get f.streams first_stream ≡ Some w
    → (v : Windows) × (get (changed f s (sending_by change)).streams first_stream ≡ Some v) × (v.taking ≡ w.taking)
sending_here f s change w has = elim (cases_eq first_stream s) [
  | inl same ↦ (
    sending_by change w,
    ap (λ q. get (changed f s (sending_by change)).streams q) same ∙ changed_here f s (sending_by change)
        ∙ ap (λ q. option_map (sending_by change) (get f.streams q)) (sym same) ∙ ap (option_map (sending_by change)) has,
    refl,
  )
  | inr apart ↦ (w, changed_elsewhere f s (sending_by change) first_stream apart ∙ has, refl)
]

module _ (front : List RawFrame) (a b k : ℕ) (e : Bool) where
  -- the stream's windows with the same taking window
  same_taking : (s : States) (m : Debts) (queue : List RawFrame) (f g : FinMap nat_cmp Windows)
      (on : OnStream front b k e s f m queue)
      → ((v : Windows) × (get g first_stream ≡ Some v) × (v.taking ≡ on.windows.taking)) → OnStream front b k e s g m queue
  same_taking s m queue f g on is = record {
    windows = is.0;
    has = is.1;
    part = subst (λ t. OfStream t b (increments first_stream (front ++ queue)) (credit_on m first_stream) k) (sym is.2) on.part;
    soon = λ i. ((on.soon i).0, subst (λ t. t.owed < worth_granting) (sym is.2) (on.soon i).1);
  }

  sending_changes : (c : Core) (s : ℕ) (change : Sending → Sending) → Goes front a b k e c
      → Goes front a b k e (record c { flow = changed c.flow s (sending_by change) })
  sending_changes c s change h = (
    h.0,
    h.1,
    h.2,
    (
      subst (λ t. OfConnection t a (increments 0 (front ++ c.out.queue))) (sym (still_taking c.flow s (sending_by change))) h.3.0,
      same_taking c.streams c.owed c.out.queue c.flow.streams (changed c.flow s (sending_by change)).streams h.3.1
          (sending_here c.flow s change h.3.1.windows h.3.1.has),
      h.3.2,
    ),
  )

  -- a frame that grants nothing
  puts : (c : Core) (f : RawFrame) → is_later f ≡ true → ((n : ℕ) → increment_on n f ≡ 0) → Goes front a b k e c
      → Goes front a b k e (sent c f)
  puts c f later none h = (
    h.0,
    h.1,
    own_pushed front c.out.queue f later h.2,
    (
      subst (λ i. OfConnection c.flow.taking a i) (sym (grants_none 0 front c.out.queue f (none 0))) h.3.0,
      record {
        windows = h.3.1.windows;
        has = h.3.1.has;
        part = subst (λ i. OfStream h.3.1.windows.taking b i (credit_on c.owed first_stream) k)
            (sym (grants_none first_stream front c.out.queue f (none first_stream))) h.3.1.part;
        soon = h.3.1.soon;
      },
      λ enough. h.3.2 (omega (arith, enough, room_falls f c.out)),
    ),
  )

  -- what is owed on the stream is granted again: the stream's windows are so already, and a frame is to be put or owed
  abbrev Grants : Core → Windows → Type 0
  Grants c w =
      (get c.flow.streams first_stream ≡ Some (record w { taking = granting w.taking }))
      × IsAlone c.streams × OnlyCredit c.owed × Own (front ++ c.out.queue)
      × OfConnection c.flow.taking a (increments 0 (front ++ c.out.queue))
      × OfStream w.taking b (increments first_stream (front ++ c.out.queue)) (credit_on c.owed first_stream) k
      × (e ≡ false → IsPeerOpen c.streams)

  -- it is put
  put_goes : (c : Core) (w : Windows) → Grants c w → credit_on c.owed first_stream ≡ 0
      → Goes front a b k e (put_now c first_stream (due.Credit w.taking.owed))
  put_goes c w h none =
      let n = w.taking.owed in
      let f = credit_frame first_stream n in
      let old = increments first_stream (front ++ c.out.queue) in
      let new = increments first_stream (front ++ (c.out.queue ++ f ∷ [])) in
      let fits = part_fits w.taking b _ _ k h.5 in
      let more : new ≡ old + n = omega (arith, grants_more first_stream front c.out.queue f, credit_grants first_stream n fits.1) in (
        h.1,
        h.2,
        own_pushed front c.out.queue f refl h.3,
        (
          subst (λ i. OfConnection c.flow.taking a i) (sym (grants_none 0 front c.out.queue f refl)) h.4,
          record {
            windows = record w { taking = granting w.taking };
            has = h.0;
            part = subst (λ q. OfStream (granting w.taking) b new q k) (sym none)
                (subst (λ i. OfStream (granting w.taking) b i 0 k) (sym more)
                (part_put w.taking b old k (subst (λ q. OfStream w.taking b old q k) none h.5)));
            soon = λ i. (h.6 i, omega arith);
          },
          λ enough. none,
        ),
      )

  -- it is owed, since there is no room for it
  later_goes : (c : Core) (w : Windows) → Grants c w → (17 ≤ room_of c.out → ⊥)
      → Goes front a b k e (put_later c first_stream (due.Credit w.taking.owed))
  later_goes c w h never =
      let n = w.taking.owed in
      let i = increments first_stream (front ++ c.out.queue) in
      let fits = part_fits w.taking b _ _ k h.5 in (
        h.1,
        also_only c.owed n h.2,
        h.3,
        (
          h.4,
          record {
            windows = record w { taking = granting w.taking };
            has = h.0;
            part = subst (λ q. OfStream (granting w.taking) b i q k) (sym (also_credit c.owed n h.2 fits.0))
                (part_later w.taking b i (credit_on c.owed first_stream) k h.5);
            soon = λ i. (h.6 i, omega arith);
          },
          λ enough. absurd (never enough),
        ),
      )

  and_all : (p q r : Bool) → (p && q && r) ≡ true → q ≡ true
  and_all true true r is = refl
  and_all true false r is = absurd (false≢true is)
  and_all false q r is = absurd (false≢true is)

  never_waits : (c : Core) (n : ℕ) → OnlyCredit c.owed → (17 ≤ room_of c.out → credit_on c.owed first_stream ≡ 0)
      → goes_at_once c first_stream (due.Credit n) ≡ false → 17 ≤ room_of c.out → ⊥
  never_waits c n only caught test enough =
      let nil = owes_none c.owed only (caught enough) in
      let room : nat_le 13 (room_of c.out) ≡ true = grind (arith, nat_tests, enough) in
      false≢true (sym test ∙ ap (λ p. nat_le first_stream largest && p && nat_le 13 (room_of c.out)) nil ∙ room)

  due_by : (c : Core) (w : Windows) (p : Bool) → goes_at_once c first_stream (due.Credit w.taking.owed) ≡ p → Grants c w
      → (17 ≤ room_of c.out → credit_on c.owed first_stream ≡ 0)
      → let d = due.Credit w.taking.owed in Goes front a b k e (cond p (put_now c first_stream d) (put_later c first_stream d))
  due_by c w true test h caught =
      put_goes c w h (none_owed c.owed h.2 (and_all (nat_le first_stream largest) (is_nil (dues_on c.owed first_stream)) _ test))
  due_by c w false test h caught = later_goes c w h (never_waits c w.taking.owed h.2 caught test)

  due_goes : (c : Core) (w : Windows) → Grants c w → (17 ≤ room_of c.out → credit_on c.owed first_stream ≡ 0)
      → Goes front a b k e (with_due c first_stream (due.Credit w.taking.owed))
  unfolding with_due
  due_goes c w h caught = due_by c w (goes_at_once c first_stream (due.Credit w.taking.owed)) refl h caught

  -- where that is worth it
  credited_goes : (c : Core) → (e ≡ false → IsPeerOpen c.streams) → Goes front a b k true c
      → Goes front a b k e (credited_on c first_stream)
  credited_goes c opens h =
      subst (λ o. Goes front a b k e (with_update new first_stream o)) (sym (ap due_by_windows h.3.1.has))
      (by (nat_lt w.taking.owed worth_granting) refl)
    where
      w : Windows
      w = h.3.1.windows

      new : Core
      new = record c { flow = paid_on c.flow first_stream }

      has : get new.flow.streams first_stream ≡ Some (record w { taking = paid_of w.taking })
      has = changed_here c.flow first_stream (taking_by paid_of) ∙ ap (option_map (taking_by paid_of)) h.3.1.has

      whole : OfConnection new.flow.taking a (increments 0 (front ++ c.out.queue))
      whole = subst (λ t. OfConnection t a (increments 0 (front ++ c.out.queue)))
          (sym (still_taking c.flow first_stream (taking_by paid_of))) h.3.0

      by : (p : Bool) → nat_lt w.taking.owed worth_granting ≡ p
          → Goes front a b k e (with_update new first_stream (cond p None (Some w.taking.owed)))
      by true test =
          let same : paid_of w.taking ≡ w.taking = ap (λ q. cond q w.taking (granting w.taking)) test in (
            h.0,
            h.1,
            h.2,
            (
              whole,
              record {
                windows = record w { taking = paid_of w.taking };
                has = has;
                part = subst (λ t. OfStream t b (increments first_stream (front ++ c.out.queue)) (credit_on c.owed first_stream) k)
                    (sym same) h.3.1.part;
                soon = λ i. (opens i, subst (λ t. t.owed < worth_granting) (sym same) (grind (arith, nat_tests, test)));
              },
              h.3.2,
            ),
          )
      by false test =
          let same : paid_of w.taking ≡ granting w.taking = ap (λ q. cond q w.taking (granting w.taking)) test in
          due_goes new w (has ∙ ap (λ t. Some (record w { taking = t })) same, h.0, h.1, h.2, whole, h.3.1.part, opens) h.3.2

  -- n octets that are kept are used up
  used_on_goes : (c : Core) (n k_old : ℕ) → k ≡ k_old - n → n ≤ creditable c.flow first_stream → Goes front a b k_old e c
      → Goes front a b k true (used_on c first_stream n)
  used_on_goes c n k_old left within h =
      let w = h.3.1.windows in
      let most : n ≤ w.taking.kept = omega (arith, within, ap creditable_by h.3.1.has) in (
        h.0,
        h.1,
        h.2,
        (
          subst (λ t. OfConnection t a (increments 0 (front ++ c.out.queue)))
              (sym (still_taking c.flow first_stream (taking_by (λ t. owing t n)))) h.3.0,
          record {
            windows = taking_by (λ t. owing t n) w;
            has = changed_here c.flow first_stream (taking_by (λ t. owing t n))
                ∙ ap (option_map (taking_by (λ t. owing t n))) h.3.1.has;
            part = subst
                (λ q. OfStream (owing w.taking n) b (increments first_stream (front ++ c.out.queue)) (credit_on c.owed first_stream) q)
                (sym left) (part_owed w.taking b _ _ k_old n most h.3.1.part);
            soon = λ i. absurd (false≢true (sym i));
          },
          h.3.2,
        ),
      )

  credit_by : (c : Core) (n k_old : ℕ) (p : Bool) → k ≡ k_old - n → n ≤ creditable c.flow first_stream
      → (sides_of (state_of c.streams first_stream)).peer ≡ p → Goes front a b k_old e c
      → Goes front a b k e (cond p (credited_on (used_on c first_stream n) first_stream) (used_on c first_stream n))
  credit_by c n k_old true left within is h =
      credited_goes (used_on c first_stream n) (λ i. is) (used_on_goes c n k_old left within h)
  credit_by c n k_old false left within is h =
      let used = used_on_goes c n k_old left within h in
      let never : e ≡ false → ⊥ = λ i. false≢true (sym is ∙ (h.3.1.soon i).0) in (
        used.0,
        used.1,
        used.2,
        (
          used.3.0,
          record {
            windows = used.3.1.windows;
            has = used.3.1.has;
            part = used.3.1.part;
            soon = λ i. absurd (never i);
          },
          used.3.2,
        ),
      )

  pub credit_goes : (c : Core) (n k_old : ℕ) → k ≡ k_old - n → n ≤ creditable c.flow first_stream → Goes front a b k_old e c
      → Goes front a b k e (credit c first_stream n)
  credit_goes c n k_old left within h =
      credit_by c n k_old (sides_of (state_of c.streams first_stream)).peer left within refl h

  -- n octets of DATA come, and are owed on the connection
  used_goes : (c : Core) (n a_old : ℕ) → a ≡ a_old + n → n ≤ c.flow.taking.granted → Goes front a_old b k e c
      → Goes front a b k e (used c n)
  used_goes c n a_old more within h =
      subst (λ q. Goes front q b k e (used c n)) (sym more) (by (nat_lt t.owed worth_granting) refl)
    where
      t : Taking
      t = owing (taken c.flow.taking n) n

      by : (p : Bool) → nat_lt t.owed worth_granting ≡ p
          → Goes front (a_old + n) b k e
          (updated (record c { flow = record c.flow { taking = cond p t (granting t) } }) (cond p None (Some t.owed)))
      by true test = (h.0, h.1, h.2, (used_short c.flow.taking a_old _ n within test h.3.0, h.3.1, h.3.2))
      by false test =
          let f = window_update 0 t.owed in
          let whole = used_granted c.flow.taking a_old (increments 0 (front ++ c.out.queue)) n within h.3.0 in
          let more : increments 0 (front ++ (c.out.queue ++ f ∷ [])) ≡ increments 0 (front ++ c.out.queue) + t.owed =
          omega (arith, grants_more 0 front c.out.queue f, word_grants 0 t.owed (owed_fits c.flow.taking a_old _ n within h.3.0)) in (
            h.0,
            h.1,
            own_pushed front c.out.queue f refl h.2,
            (
              subst (λ i. OfConnection (granting t) (a_old + n) i) (sym more) whole,
              record {
                windows = h.3.1.windows;
                has = h.3.1.has;
                part = subst (λ i. OfStream h.3.1.windows.taking b i (credit_on c.owed first_stream) k)
                    (sym (grants_none first_stream front c.out.queue f refl)) h.3.1.part;
                soon = h.3.1.soon;
              },
              λ enough. h.3.2 (omega (arith, enough, room_falls f c.out)),
            ),
          )

  -- and are kept on the stream, but for padding
  padded_goes : (c : Core) (w : Windows) (n size b_old k_old : ℕ) → b ≡ b_old + n → k ≡ k_old + size
      → get c.flow.streams first_stream ≡ Some w → n ≤ w.taking.granted → size ≤ n → 17 ≤ room_of c.out
      → Goes front a b_old k_old e c → Goes front a b k true (padded c first_stream n size)
  padded_goes c w n size b_old k_old more left is within fits enough h =
      let none = h.3.2 enough in
      let one : Some h.3.1.windows ≡ Some w = sym h.3.1.has ∙ is in
      let same : h.3.1.windows ≡ w = cc in
      let i = increments first_stream (front ++ c.out.queue) in
      let t = owing (taken w.taking n) (n - size) in
      let old = subst (λ (v : Windows). OfStream v.taking b_old i 0 k_old) same
      (subst (λ q. OfStream h.3.1.windows.taking b_old i q k_old) none h.3.1.part) in
      let first = taking_by (λ t. taken t n) in
      let next = taking_by (λ t. owing t (n - size)) in
      let f = took_on c.flow first_stream n in (
        h.0,
        h.1,
        h.2,
        (
          subst (λ t. OfConnection t a (increments 0 (front ++ c.out.queue)))
              (sym (still_taking f first_stream next ∙ still_taking c.flow first_stream first)) h.3.0,
          record {
            windows = next (first w);
            has = changed_here f first_stream next
                ∙ ap (option_map next) (changed_here c.flow first_stream first ∙ ap (option_map first) is);
            part = subst (λ q. OfStream t b i q k) (sym none)
                (subst (λ q. OfStream t q i 0 k) (sym more)
                (subst (λ q. OfStream t (b_old + n) i 0 q) (sym left) (part_came w.taking b_old _ k_old n size within fits old)));
            soon = λ i. absurd (false≢true (sym i));
          },
          h.3.2,
        ),
      )

-- a payment
module _ (front : List RawFrame) (a b k : ℕ) (e : Bool) (s : States) (f : Flows) where
  abbrev Pays : Payment → Type 0
  Pays p =
      OnlyCredit p.owed × Own (front ++ p.out.queue) × OfConnection f.taking a (increments 0 (front ++ p.out.queue))
      × OnStream front b k e s f.streams p.owed p.out.queue

  abbrev IsPaid : Payment → Type 0
  IsPaid p = Pays p × (17 ≤ room_of p.out → credit_on p.owed first_stream ≡ 0)

  put_one : (p : Payment) (n : ℕ) → credit_on p.owed first_stream ≡ n → Pays p → IsPaid (with_put first_stream (due.Credit n) p)
  put_one p n is pays =
      let g = credit_frame first_stream n in
      let on = pays.3 in
      let none = struck_none p.owed n pays.0 in
      let most = part_fits on.windows.taking b _ _ k on.part in
      let fits : n < 2147483648 = omega (arith, most.0, is) in
      let more : increments first_stream (front ++ p.out.queue) + credit_on p.owed first_stream
      ≡ increments first_stream (front ++ (p.out.queue ++ g ∷ [])) =
      omega (arith, is, grants_more first_stream front p.out.queue g, credit_grants first_stream n fits) in (
        (
          struck_only p.owed n pays.0,
          own_pushed front p.out.queue g refl pays.1,
          subst (λ i. OfConnection f.taking a i) (sym (grants_none 0 front p.out.queue g refl)) pays.2,
          record {
            windows = on.windows;
            has = on.has;
            part = subst (λ q. OfStream on.windows.taking b (increments first_stream (front ++ (p.out.queue ++ g ∷ []))) q k) (sym none)
                (subst (λ i. OfStream on.windows.taking b i 0 k) more (part_paid on.windows.taking b _ _ k on.part));
            soon = on.soon;
          },
        ),
        λ enough. none,
      )

  pay_by : (p : Payment) (n : ℕ) → credit_on p.owed first_stream ≡ n → Pays p → (z : Bool) → (n == 0) ≡ z
      → IsPaid (put_while_fits (cond z [] ((first_stream, due.Credit n) ∷ [])) p)
  pay_by p n is pays true test = (pays, λ enough. is ∙ grind (arith, nat_tests, test))
  pay_by p n is pays false test = by (nat_lt (room_of p.out) 13) refl
    where
      by : (l : Bool) → nat_lt (room_of p.out) 13 ≡ l → IsPaid (cond l p (with_put first_stream (due.Credit n) p))
      by true lacks = (pays, λ enough. absurd (grind (arith, nat_tests, lacks, enough)))
      by false room = put_one p n is pays

  paid_goes : (p : Payment) → Pays p → IsPaid (paid p)
  paid_goes p pays =
      subst (λ xs. IsPaid (put_while_fits xs p)) (sym (only_dues p.owed pays.0))
      (pay_by p (credit_on p.owed first_stream) refl pays (credit_on p.owed first_stream == 0) refl)

module _ (front : List RawFrame) where
  -- octets were written, with which frames began
  same_frames : (w : Waiting) (n : ℕ) → (front ++ begun_by n w) ++ (written n w).queue ≡ front ++ w.queue
  same_frames w n =
      append_assoc front (begun_by n w) (written n w).queue
      ∙ ap (λ (fs : List RawFrame). front ++ fs) (begun_and_left (n - length w.rest) w.queue)

  pub wrote_goes : (a b k : ℕ) (e : Bool) (c : Core) (n : ℕ) → Goes front a b k e c
      → Goes (front ++ begun_by n c.out) a b k e (owing.wrote c n)
  unfolding owed_paid
  wrote_goes a b k e c n h =
      let fs = front ++ begun_by n c.out in
      let p : Payment = record { owed = c.owed; out = written n c.out; writing = c.encoder } in
      let same = sym (same_frames c.out n) in
      let on = h.3.1 in
      let all = paid_goes fs a b k e c.streams c.flow p (
        h.1,
        subst Own same h.2,
        subst (λ (gs : List RawFrame). OfConnection c.flow.taking a (increments 0 gs)) same h.3.0,
        record {
          windows = on.windows;
          has = on.has;
          part = subst (λ (gs : List RawFrame). OfStream on.windows.taking b (increments first_stream gs) (credit_on c.owed first_stream) k)
              same on.part;
          soon = on.soon;
        },
      ) in
      (h.0, all.0.0, all.0.1, (all.0.2, all.0.3, all.1))

  pub wrote_over : (c : Core) (n : ℕ) → IsOver front c → IsOver (front ++ begun_by n c.out) (owing.wrote c n)
  unfolding owed_paid
  wrote_over c n h =
      let p : Payment = record { owed = c.owed; out = written n c.out; writing = c.encoder } in
      let none : dues c.owed ≡ [] = alone_dues c.owed (λ q apart. h.0 q) ∙ ap (λ o. on first_stream (dues_by o)) (h.0 first_stream) in
      let same : p ≡ paid p = sym (ap (λ xs. put_while_fits xs p) none) in
      subst (λ (x : Payment). ((q : ℕ) → get x.owed q ≡ None) × Farewell ((front ++ begun_by n c.out) ++ x.out.queue)) same
      (h.0, subst Farewell (sym (same_frames c.out n)) h.1)

-- what is told of a frame says that the peer ended its side, and how many octets are kept then
abbrev pub left_by : Found → Bool
left_by (found.Opened s end) = end
left_by (found.Chunk s end) = end
left_by (found.Ended s) = true
left_by _ = false

module _ (front : List RawFrame) (a b k size : ℕ) (e : Bool) where
  abbrev Now : Core → Type 0
  Now c = Goes front a b k e c

  -- what a frame of the peer makes of it, by what is told
  abbrev pub Later : Found → Core → Type 0
  Later (found.Fault code) d = IsOver front d
  Later (found.Reset s code) d = Unit {0}
  Later (found.Broken s code) d = Unit {0}
  Later (found.Opened s end) d = Goes front a b k (end || e) d
  Later (found.Chunk s end) d = Goes front a b (k + size) (end || e) d
  Later (found.Ended s) d = Goes front a b k true d
  Later _ d = Goes front a b k e d

  abbrev Out : Outcome → Type 0
  Out o = Later o.found o.core

  given : (o : Outcome) (new : Core) (told : Found) → Out o → Gives o new told → Later told new
  given o new told h is =
      subst (λ (t : Found). Later t new) (sym is.1) (subst (λ (d : Core). Later o.found d) (sym is.0) h)

  either : (p : Bool) (o q : Outcome) → Out o → Out q → Out (cond p o q)
  either true o q first second = first
  either false o q first second = second

  fault : (c : Core) (code : ℕ) → Own (front ++ c.out.queue) → Out (fault_of c code)
  unfolding fault_of
  fault c code own = (
    λ q. get-empty nat_cmp q,
    (
      front ++ filter (is_kept None) c.out.queue,
      _,
      sym (append_assoc front (filter (is_kept None) c.out.queue) _),
      own_kept front c.out.queue own,
      refl,
      refl,
    ),
  )

  refusal : (c : Core) (why : StreamFault) → Own (front ++ c.out.queue) → Out (refused_for c why)
  refusal c why own = by why.scope
    where
      by : (reach : Scope) → Out (refused_by c reach why.code)
      by scope.Connection = fault c why.code own
      by (scope.Stream s) = tt

  abbrev without_stream : Core → Core
  without_stream c = record c { flow = flow_closed c.flow first_stream; owed = owed_closed c.owed first_stream }

  -- the peer's side ends
  left : (q : ℕ) (kind : ℕ) (c : Core) → (kind == rst_stream_kind) ≡ false → is_new (answer_of c.streams kind first_stream) ≡ false
      → (i : Bool) → Goes front a b q i c
      → Goes front a b q true (released (record c { streams = after c.streams (receives kind first_stream true) }) first_stream)
  left q kind c other none i h =
      let new = record c { streams = after c.streams (receives kind first_stream true) } in
      let alone = received c.streams kind true other none h.0 in
      subst (λ p. Goes front a b q true (cond p new (without_stream new)))
      (sym (is_live new.streams alone)) (
        alone,
        h.1,
        h.2,
        (
          h.3.0,
          record {
            windows = h.3.1.windows;
            has = h.3.1.has;
            part = h.3.1.part;
            soon = λ j. absurd (false≢true (sym j));
          },
          h.3.2,
        ),
      )

  -- DATA
  continues : (c : Core) (end : Bool) → (e ≡ false → IsPeerOpen c.streams) → Goes front a b (k + size) true c
      → Goes front a b (k + size) (end || e) (continued c first_stream end)
  continues c true opens h = left (k + size) data_kind c refl (moved.data_begins_none first_stream c.streams) true h
  continues c false opens h = credited_goes front a b (k + size) e c opens h

  data_by : (c : Core) (n b_old : ℕ) (end : Bool) → b ≡ b_old + n → size ≤ n → 17 ≤ room_of c.out → Goes front a b_old k e c
      → Out (data_goes c first_stream n size end (get c.flow.streams first_stream))
  data_by c n b_old end more fits enough h =
      subst (λ o. Out (data_goes c first_stream n size end o)) (sym h.3.1.has) (by (nat_lt w.taking.granted n) refl)
    where
      w : Windows
      w = h.3.1.windows

      by : (p : Bool) → nat_lt w.taking.granted n ≡ p
          → Out (cond p (broken c first_stream flow_control_error)
          (outcome (continued (padded c first_stream n size) first_stream end) (found.Chunk first_stream end)))
      by true over = tt
      by false within =
          continues (padded c first_stream n size) end (λ i. (h.3.1.soon i).0)
          (padded_goes front a b (k + size) e c w n size b_old k more refl h.3.1.has (grind (arith, nat_tests, within)) fits enough h)

  data_answers : (c : Core) (s n b_old : ℕ) (end : Bool) (r : Result Step StreamFault) → answer_of c.streams data_kind s ≡ r
      → b ≡ b_old + cond (s == first_stream) n 0 → size ≤ n → 17 ≤ room_of c.out → Goes front a b_old k e c
      → Out (data_answered c s n size end r)
  data_answers c s n b_old end (Ok step.Goes) is more fits enough h =
      let same = data_here c.streams s h.0 is in
      let all : b ≡ b_old + n = more ∙ ap (λ p. b_old + cond p n 0) (eq-eqb s first_stream same) in
      subst (λ q. Out (data_goes c q n size end (get c.flow.streams q))) (sym same) (data_by c n b_old end all fits enough h)
  data_answers c s n b_old end (Ok step.New) is more fits enough h =
      absurd (false≢true (sym (moved.data_begins_none s c.streams) ∙ ap is_new is))
  data_answers c s n b_old end (Ok step.Ignored) is more fits enough h = elim (cases_eq s first_stream) [
    | inl same ↦ absurd (not_ignored c.streams h.0 (ap (λ q. answer_of c.streams data_kind q) (sym same) ∙ is))
    | inr apart ↦
        let none : b_old ≡ b = omega (arith, more, ap (λ p. cond p n 0) (ne_eqb s first_stream apart)) in
        subst (λ q. Goes front a q k e c) none h
  ]
  data_answers c s n b_old end (Err why) is more fits enough h = refusal c why h.2

  updated_streams : (c : Core) (o : Option ℕ) → (updated c o).streams ≡ c.streams
  updated_streams c None = refl
  updated_streams c (Some i) = refl

  updated_room : (c : Core) (o : Option ℕ) → room_of c.out ≤ room_of (updated c o).out + 13
  updated_room c None = omega arith
  updated_room c (Some i) = omega (arith, put_is_long (window_update 0 i) c.out, word_len i)

  used_streams : (c : Core) (n : ℕ) → (used c n).streams ≡ c.streams
  used_streams c n =
      updated_streams (record c { flow = paid_flow (owed (took c.flow n) n) }) (due_of (owed (took c.flow n) n).taking)

  used_room : (c : Core) (n : ℕ) → room_of c.out ≤ room_of (used c n).out + 13
  used_room c n =
      updated_room (record c { flow = paid_flow (owed (took c.flow n) n) }) (due_of (owed (took c.flow n) n).taking)

  data_goes_so : (c : Core) (s n a_old b_old : ℕ) (end : Bool) → a ≡ a_old + n → b ≡ b_old + cond (s == first_stream) n 0 → size ≤ n
      → 30 ≤ room_of c.out → Goes front a_old b_old k e c → Out (on_data c s n size end)
  data_goes_so c s n a_old b_old end came more fits enough h = by (is_of_idle r) (nat_lt c.flow.taking.granted n) refl
    where
      r : Result Step StreamFault
      r = answer_of c.streams data_kind s

      by : (p q : Bool) → nat_lt c.flow.taking.granted n ≡ q
          → Out (cond p (fault_of c protocol_error) (cond q (fault_of c flow_control_error) (data_answered (used c n) s n size end r)))
      by true q test = fault c protocol_error h.2
      by false true test = fault c flow_control_error h.2
      by false false test =
          let within : n ≤ c.flow.taking.granted = grind (arith, nat_tests, test) in
          data_answers (used c n) s n b_old end r (ap (λ (t : States). answer_of t data_kind s) (used_streams c n)) more fits
          (omega (arith, enough, used_room c n)) (used_goes front a b_old k e c n a_old came within h)

  -- RST_STREAM and WINDOW_UPDATE
  reset_answers : (c : Core) (s code : ℕ) (r : Result Step StreamFault) → Now c → Out (reset_answered c s code r)
  reset_answers c s code (Ok step.Goes) h = tt
  reset_answers c s code (Ok step.New) h = h
  reset_answers c s code (Ok step.Ignored) h = h
  reset_answers c s code (Err why) h = refusal c why h.2

  window_grows : (c : Core) (s n : ℕ) (o : Option Windows) → Now c → Out (stream_grows c s n o)
  window_grows c s n None h = h
  window_grows c s n (Some w) h =
      either _ (broken c s flow_control_error) (outcome (record c { flow = granted_on c.flow s n }) found.Silent) tt
      (sending_changes front a b k e c s (λ x. window_more x n) h)

  window_answers : (c : Core) (s n : ℕ) (r : Result Step StreamFault) → Now c → Out (stream_answered c s n r)
  window_answers c s n (Ok step.Goes) h =
      either (n == 0) (broken c s protocol_error) (stream_grows c s n (get c.flow.streams s)) tt
      (window_grows c s n (get c.flow.streams s) h)
  window_answers c s n (Ok step.New) h = h
  window_answers c s n (Ok step.Ignored) h = h
  window_answers c s n (Err why) h = refusal c why h.2

  window_goes : (c : Core) (s n : ℕ) → Now c → Out (on_window c s n)
  window_goes c s n h =
      let r = answer_of c.streams window_update_kind s in
      either (s == 0) (connection_grows c n) (stream_answered c s n r)
      (either _ (fault_of c flow_control_error) (outcome (record c { flow = granted c.flow n }) found.Silent)
      (fault c flow_control_error h.2) h)
      (window_answers c s n r h)

  -- HEADERS
  headed_goes : (c : Core) (end : Bool) → answer_of c.streams headers_kind first_stream ≡ Ok step.Goes → Now c
      → Goes front a b k (end || e) (released (headed c first_stream end) first_stream)
  headed_goes c true is h = left k headers_kind c refl (ap is_new is) e h
  headed_goes c false is h =
      subst (λ (t : States). Goes front a b k e (released (record c { streams = t }) first_stream)) (sym (headers_leave c.streams is))
      (subst (λ p. Goes front a b k e (cond p c (without_stream c)))
      (sym (is_live c.streams h.0)) h)

  headers_answers : (c : Core) (s : ℕ) (end : Bool) (r : Result Step StreamFault) → answer_of c.streams headers_kind s ≡ r
      → Now c → Out (headers_answered c s end r)
  headers_answers c s end (Ok step.New) is h = absurd (no_new c.streams s h.0 is)
  headers_answers c s end (Ok step.Goes) is h =
      let same = headers_here c.streams s h.0 is in
      subst (λ q. Goes front a b k (end || e) (released (headed c q end) q)) (sym same)
      (headed_goes c end (ap (λ q. answer_of c.streams headers_kind q) (sym same) ∙ is) h)
  headers_answers c s end (Ok step.Ignored) is h = h
  headers_answers c s end (Err why) is h = refusal (headed c s end) why h.2

  block_tells : (c : Core) (told : Result (Option Whole) BlockFault) → Now c → Out (block_told c told)
  block_tells c (Ok None) h = h
  block_tells c (Ok (Some whole)) h = headers_answers c whole.stream whole.end_stream _ refl h
  block_tells c (Err why) h = fault c _ h.2

  block_goes : (progress : Progress) (c new : Core) (told : Found) → Now c → DoesBlock progress c new told → Later told new
  block_goes progress c new told h makes =
      given _ new told (block_tells (record c { blocks = makes.0 }) makes.1 h) makes.3

  -- SETTINGS
  noted_by : (c : Core) (s : ℕ × ℕ) (p q : Bool) → Now c
      → Now (cond p (record c { peer = record c.peer { streams = s.1 } })
      (cond q (record c { peer = record c.peer { frame_size = s.1 } }) c))
  noted_by c s true q h = h
  noted_by c s false true h = h
  noted_by c s false false h = h

  -- after settings that fit, and after one that doesn't
  abbrev Settled : Core → Bool → Type 0
  Settled c true = Now c
  Settled c false = Own (front ++ c.out.queue)

  resized_goes : (c new : Core) (i : ℕ) (fits : Bool) → Now c → Resized c i new fits → Settled new fits
  resized_goes c new i true h is =
      let w = h.3.1.windows in
      subst Now (sym is.2) (
        h.0,
        h.1,
        h.2,
        (
          h.3.0,
          same_taking front a b k e c.streams c.owed c.out.queue c.flow.streams (resized c.flow i).streams h.3.1
              (with_size i w, resizes_each c.flow i first_stream ∙ ap (option_map (with_size i)) h.3.1.has, refl),
          h.3.2,
        ),
      )
  resized_goes c new i false h (inl large) = subst (λ (d : Core). Own (front ++ d.out.queue)) (sym large.1) h.2
  resized_goes c new i false h (inr over) = subst (λ (d : Core). Own (front ++ d.out.queue)) (sym over.3) h.2

  one_goes : (p : Bool) (c new : Core) (s : ℕ × ℕ) (fits : Bool) → Now c → AppliesBy p c s new fits → Settled new fits
  one_goes true c new s fits h is = resized_goes c new s.1 fits h is
  one_goes false c new s true h is =
      subst Now (sym is.0) (noted_by c s (s.0 == max_concurrent_streams) (s.0 == max_frame_size) h)
  one_goes false c new s false h is = absurd (false≢true is.1)

  all_go : (pairs : List (ℕ × ℕ)) (c new : Core) (fits : Bool) → Now c → AppliesAll c pairs new fits → Settled new fits
  all_go [] c new fits h is = subst (Settled new) (sym is.1) (subst Now (sym is.0) h)
  all_go (s ∷ more) c new fits h is =
      by is.1 (one_goes (s.0 == initial_window_size) c is.0 s is.1 h is.2) (all_go more is.0 new fits) is.3
    where
      by : (ok : Bool) → Settled is.0 ok → (Now is.0 → AppliesAll is.0 more new fits → Settled new fits)
          → Then ok (AppliesAll is.0 more new fits) ((new ≡ is.0) × (fits ≡ false)) → Settled new fits
      by true one later rest = later one rest
      by false one later rest = subst (Settled new) (sym rest.1) (subst (λ (d : Core). Settled d false) (sym rest.0) one)

  applied_goes : (c : Core) (fits : Bool) → Settled c fits → Out (applied c fits)
  applied_goes c true h = puts front a b k e (record c { settled = true }) settings_ack refl (λ n. refl) h
  applied_goes c false own = fault c flow_control_error own

  settings_by : (p : Bool) (c : Core) (pairs : List (ℕ × ℕ)) (new : Core) (told : Found) → Now c
      → SettlesBy p c pairs new told → Later told new
  settings_by true c pairs new told h is = given _ new told (fault c protocol_error h.2) is
  settings_by false c pairs new told h is =
      given _ new told (applied_goes is.0 is.1 (all_go pairs c is.0 is.1 h is.2)) is.3

  settings_go : (ack : Bool) (c : Core) (payload : List ℕ) (new : Core) (told : Found) → Now c
      → DoesSettings ack c payload new told → Later told new
  settings_go true c payload new told h is = given (outcome c found.Silent) new told h is
  settings_go false c payload new told h is =
      settings_by (allows_push c.streams.role (settings payload)) c (settings payload) new told h is

  -- each frame but DATA
  answers_go : (c : Core) (g : Glance) (bytes : List ℕ) (new : Core) (told : Found) → is_data g ≡ false → Now c
      → Answers c g bytes new told → Later told new
  answers_go c glance.Nothing bytes new told other h is = given (outcome c found.Silent) new told h is
  answers_go c (glance.Data s n end) bytes new told other h is = absurd (false≢true (sym other))
  answers_go c (glance.Headers s end whole) bytes new told other h is = block_goes _ c new told h is
  answers_go c (glance.Reset s code) bytes new told other h is = given _ new told (reset_answers c s code _ h) is
  answers_go c (glance.Settings ack) bytes new told other h is = settings_go ack c bytes new told h is
  answers_go c (glance.Ping ack value) bytes new told other h is =
      given (does c (glance.Ping ack value) bytes) new told
      (either ack (outcome c found.Silent) (outcome (sent c (ping_ack value)) found.Silent) h
      (puts front a b k e c (ping_ack value) refl (λ n. refl) h)) is
  answers_go c (glance.GoAway last) bytes new told other h is = given (outcome c (found.GoneAway last)) new told h is
  answers_go c (glance.Window s n) bytes new told other h is = given _ new told (window_goes c s n h) is
  answers_go c (glance.Continuation s whole) bytes new told other h is = block_goes _ c new told h is
  answers_go c glance.Other bytes new told other h is = given (outcome c found.Silent) new told h is
  answers_go c (glance.Refused code row kind flags) bytes new told other h is = given _ new told (fault c code h.2) is

  handles_by : (p : Bool) (c : Core) (g : Glance) (bytes : List ℕ) (new : Core) (told : Found) → is_data g ≡ false → Now c
      → HandlesBy p c g bytes new told → Later told new
  handles_by true c g bytes new told other h is = given _ new told (fault c protocol_error h.2) is
  handles_by false c g bytes new told other h is = answers_go c g bytes new told other h is

  pub handled : (c : Core) (g : Glance) (bytes : List ℕ) (new : Core) (told : Found) → is_data g ≡ false → Now c
      → Handles c g bytes new told → Later told new
  handled c g bytes new told other h is = handles_by (is_misplaced c g) c g bytes new told other h is

  -- DATA
  pub data_handled_by : (p : Bool) (c : Core) (s n a_old b_old : ℕ) (end : Bool) (bytes : List ℕ) (new : Core) (told : Found)
      → a ≡ a_old + n → b ≡ b_old + cond (s == first_stream) n 0 → length bytes ≡ size → size ≤ n → 30 ≤ room_of c.out
      → Goes front a_old b_old k e c → HandlesBy p c (glance.Data s n end) bytes new told → Later told new
  data_handled_by true c s n a_old b_old end bytes new told came more is fits enough h does_it =
      given _ new told (fault c protocol_error h.2) does_it
  data_handled_by false c s n a_old b_old end bytes new told came more is fits enough h does_it =
      given (on_data c s n size end) new told (data_goes_so c s n a_old b_old end came more fits enough h)
      (subst (λ i. Gives (on_data c s n i end) new told) is does_it)

  -- acts of this end
  put_by : (c : Core) (n : ℕ) (bytes : List ℕ) (p : Bool) → Now c
      → Now (cond p c (sent (record c { flow = spent c.flow first_stream n }) (frame data_kind 0 first_stream (take n bytes))))
  put_by c n bytes true h = h
  put_by c n bytes false h =
      puts front a b k e (record c { flow = spent c.flow first_stream n }) (frame data_kind 0 first_stream (take n bytes)) refl (λ i. refl)
      (sending_changes front a b k e c first_stream (λ x. window_less x n) h)

  pub data_put_goes : (c : Core) (bytes : List ℕ) → Now c → Now (data_put c first_stream bytes)
  data_put_goes c bytes h = put_by c (count_put c first_stream bytes) bytes (count_put c first_stream bytes == 0) h

  -- a connection error is told
  pub fault_over : (c new : Core) (code : ℕ) (told : Found) → Now c → Gives (fault_of c code) new told
      → (told ≡ found.Fault code) × IsOver front new
  unfolding fault_of
  fault_over c new code told h is = (is.1, subst (IsOver front) (sym is.0) (fault c code h.2))

-- a new client that opened its stream
pub opened_goes : (headers : List Header)
    → number_of fresh_client.receiver.core.streams fresh_client.receiver.core.peer.streams ≡ Ok first_stream
    → Goes [] 0 0 0 false (opened_with fresh_client.receiver.core first_stream headers false)
opened_goes headers number =
    let old = fresh_client.receiver.core in
    let w = new_windows old.flow.initial in
    let begun_is : after_number old.streams (Ok first_stream) ≡ after old.streams (begins_next old.peer.streams) =
    ap (after_number old.streams) (sym number) in
    let none : credit_on (insert old.owed first_stream clear) first_stream ≡ 0 = ap credit_by_debt (put_here old.owed first_stream clear) in
    let peer : IsPeerOpen (after_number old.streams (Ok first_stream)) =
    ap (λ o. (sides_of (state_by o (state_of_others (after_number old.streams (Ok first_stream)) first_stream))).peer)
    (put_here old.streams.active first_stream both_open) in (
      subst IsAlone begun_is (
        refl,
        (both_open, put_here old.streams.active first_stream both_open, refl),
        λ q apart. put_elsewhere old.streams.active first_stream both_open q apart ∙ get-empty nat_cmp q,
      ),
      (
        λ q apart. put_elsewhere old.owed first_stream clear q apart ∙ get-empty nat_cmp q,
        subst OwesCredit (sym (put_here old.owed first_stream clear)) (refl, refl, refl, refl),
      ),
      (refl, refl, tt),
      (
        whole_new,
        record {
          windows = w;
          has = put_here old.flow.streams first_stream w;
          part = subst (λ q. OfStream w.taking 0 0 q 0) (sym none) part_new;
          soon = λ i. (subst IsPeerOpen begun_is peer, omega arith);
        },
        λ enough. none,
      ),
    )
