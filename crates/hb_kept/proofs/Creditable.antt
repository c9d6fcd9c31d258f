-- The octets of DATA that came on a stream and aren't used up, behind each frame and each act.
use Rattle.std.proofs.Common.{◌≡◌, ◌≢◌, inl, inr, ℕ, ◌+◌, ◌-◌, ◌≤◌, ◌==◌, Bool, true, false, cond, List, [], ◌∷◌, length, Option, Some, None, is_some, Result, Ok, Err, refl, ap, sym, ◌∙◌, subst, arith}
use Rattle.std.specs.Prelude.{nat_lt}
use Rattle.std.specs.FinMap.{get}
use Rattle.std.specs.Option.{option_map}
use Rattle.std.proofs.lemmas.Bool.{cases_eq, cond_both, false≢true}
use Rattle.std.proofs.lemmas.Bool.Decides.{nat_tests}
use Rattle.hb_base.specs.declared.scope.Scope.{Scope}
use Rattle.hb_base.specs.declared.scope.Scope.TheVariants as scope
use Rattle.hb_map.proofs.Laws.{put_elsewhere, removed_elsewhere}
use Rattle.hb_frames.specs.Numbers.{data_kind, headers_kind, window_update_kind, protocol_error, flow_control_error}
use Rattle.hb_frames.specs.Numbers.{initial_window_size, max_concurrent_streams, max_frame_size}
use Rattle.hb_streams.specs.Answers.{answer_of, data_answer}
use Rattle.hb_streams.specs.Moves.{after, receives, sends_end}
use Rattle.hb_streams.specs.Sides.{sides_of}
use Rattle.hb_streams.specs.States.{States, state_of}
use Rattle.hb_streams.specs.declared.fault.StreamFault.{StreamFault}
use Rattle.hb_streams.specs.declared.state.State.{State}
use Rattle.hb_streams.specs.declared.state.State.TheVariants as state
use Rattle.hb_streams.specs.declared.step.Step.{Step}
use Rattle.hb_streams.specs.declared.step.Step.TheVariants as step
use Rattle.hb_windows.specs.Sending.{Sending}
use Rattle.hb_flow.specs.Windows.{Windows, first_size, worth_granting, less, more, taken, owing, paid_of}
use Rattle.hb_flow.specs.Flows.{Flows, creditable, creditable_by, changed, granted, granted_on, spent, took_on, owed_on, paid_on, due_on, sending_by, taking_by, new_windows}
use Rattle.hb_flow.specs.Laws.{IsWhole}
use Rattle.hb_flow.specs.Sizes.{resized}
use Rattle.hb_flow.proofs.Changes.{changed_here, changed_elsewhere}
use Rattle.hb_flow.proofs.Sizes.{get_all}
use Rattle.hb_owed.specs.declared.due.Due.{Due}
use Rattle.hb_owed.specs.declared.due.Due.TheVariants as due
use Rattle.hb_blocks.specs.Assembly.{Progress}
use Rattle.hb_blocks.specs.declared.fault.BlockFault.{BlockFault}
use Rattle.hb_blocks.specs.declared.whole.Whole.{Whole}
use Rattle.hb_conn.specs.Credit.{used_on, credit}
use Rattle.hb_conn.specs.Data.{updated, credited_on, used, padded, continued, data_goes, data_answered, is_of_idle, on_data}
use Rattle.hb_conn.specs.Ending.{own_ended}
use Rattle.hb_conn.specs.Faults.{faulted, is_active, regained, withdrawn, released, given_up, cancelled, aborted, broken, refused, refused_by}
use Rattle.hb_conn.specs.Frames.{sent, ping_ack}
use Rattle.hb_conn.specs.Handling.{does, Answers, HandlesBy}
use Rattle.hb_conn.specs.Headers.{headed, headers_answered, block_told, DoesBlock}
use Rattle.hb_conn.specs.Outcome.{Outcome, outcome, Gives}
use Rattle.hb_conn.specs.Owing.{goes_at_once, put_now, put_later, with_due, with_update, owed_paid}
use Rattle.hb_conn.specs.Resets.{peer_reset, reset_answered}
use Rattle.hb_conn.specs.Settings.{noted, AppliesBy, AppliesAll, Then, applied, SettlesBy, DoesSettings}
use Rattle.hb_conn.specs.Windows.{connection_grows, stream_grows, stream_answered, on_window}
use Rattle.hb_conn.specs.declared.found.Found.{Found}
use Rattle.hb_conn.specs.declared.found.Found.TheVariants as found
use Rattle.hb_conn.specs.declared.glance.Glance.{Glance}
use Rattle.hb_conn.specs.declared.glance.Glance.TheVariants as glance
use Rattle.hb_conn.specs.declared.machine.Core.{Core}
use Rattle.hb_kept.proofs.Opened.{active_by}
use Rattle.hb_kept.proofs.Sides.{paid_streams, released_streams, updated_streams}
use Rattle.hb_kept.proofs.SidesAt.{sides_at, inactive_neither}

-- OF WINDOWS

on_sending : (change : Sending → Sending) (o : Option Windows) → creditable_by (option_map (sending_by change) o) ≡ creditable_by o
on_sending change None = refl
on_sending change (Some w) = refl

on_paid : (o : Option Windows) → creditable_by (option_map (taking_by paid_of) o) ≡ creditable_by o
on_paid None = refl
on_paid (Some w) = by (nat_lt w.taking.owed worth_granting)
  where
    by : (b : Bool) → (cond b w.taking (record w.taking { granted = w.taking.granted + w.taking.owed; owed = 0 })).kept ≡ w.taking.kept
    by true = refl
    by false = refl

on_owing : (n : ℕ) (o : Option Windows) → creditable_by (option_map (taking_by (λ w. owing w n)) o) ≡ creditable_by o - n
on_owing n None = omega arith
on_owing n (Some w) = refl

elsewhere : (f : Flows) (k s : ℕ) (change : Windows → Windows) → s ≢ k → creditable (changed f k change) s ≡ creditable f s
elsewhere f k s change apart = ap creditable_by (changed_elsewhere f k change s apart)

-- a change that leaves them on its own stream leaves them on all
everywhere : (f : Flows) (k s : ℕ) (change : Windows → Windows)
    → ((o : Option Windows) → creditable_by (option_map change o) ≡ creditable_by o) → creditable (changed f k change) s ≡ creditable f s
everywhere f k s change leaves = elim (cases_eq s k) [
  | inl same ↦ ap (creditable (changed f k change)) same ∙ ap creditable_by (changed_here f k change) ∙ leaves (get f.streams k)
      ∙ sym (ap (creditable f) same)
  | inr apart ↦ elsewhere f k s change apart
]

regained_same : (f : Flows) (n s : ℕ) → creditable (regained f n) s ≡ creditable f s
regained_same f n s = cond_both _ f (granted f n) (λ (g : Flows). creditable g s ≡ creditable f s) (λ is. refl) (λ is. refl)

resized_same : (f : Flows) (k s : ℕ) → creditable (resized f k) s ≡ creditable f s
resized_same f k s = ap creditable_by (get_all k f.streams s) ∙ on_sending _ (get f.streams s)

-- OF A CONNECTION

-- as many as before on each stream of which the peer's side is open, and on each but one
abbrev At : (s n : ℕ) → Core → Type 0
At s n d = (sides_at d.streams s).peer ≡ true → creditable d.flow s ≡ n

abbrev pub Same : Core → Core → Type 0
Same c d = (s : ℕ) → At s (creditable c.flow s) d

abbrev pub Others : ℕ → Core → Core → Type 0
Others k c d = (s : ℕ) → s ≢ k → At s (creditable c.flow s) d

same_flow : (c d : Core) → d.flow ≡ c.flow → Same c d
same_flow c d is s peer = ap (λ (f : Flows). creditable f s) is

due_flow : (c : Core) (s : ℕ) (d : Due) → (with_due c s d).flow ≡ c.flow
unfolding with_due
due_flow c s d =
    cond_both (goes_at_once c s d) (put_now c s d) (put_later c s d) (λ (x : Core). x.flow ≡ c.flow) (λ is. refl) (λ is. refl)

paid_flow : (c : Core) → (owed_paid c).flow ≡ c.flow
unfolding owed_paid
paid_flow c = refl

updated_flow : (c : Core) (o : Option ℕ) → (updated c o).flow ≡ c.flow
updated_flow c None = refl
updated_flow c (Some n) = refl

update_flow : (c : Core) (s : ℕ) (o : Option ℕ) → (with_update c s o).flow ≡ c.flow
update_flow c s None = refl
update_flow c s (Some n) = due_flow c s (due.Credit n)

pub wrote_flow : (c : Core) → Same c (owed_paid c)
wrote_flow c = same_flow c (owed_paid c) (paid_flow c)

-- a stream that is released has no open side
released_same : (c : Core) (k : ℕ) → Same c (released c k)
released_same c k s peer =
    cond_both (is_active c.streams k) c _ (λ (x : Core). creditable x.flow s ≡ creditable c.flow s) (λ is. refl)
    (λ is. elim (cases_eq s k) [
      | inl same ↦ absurd (false≢true (sym (ap (λ w. w.peer) (inactive_neither c.streams k is))
          ∙ sym (ap (λ n. (sides_at c.streams n).peer) same) ∙ was_open))
      | inr apart ↦ ap creditable_by (removed_elsewhere c.flow.streams k s apart)
    ])
  where
    was_open : (sides_at c.streams s).peer ≡ true
    was_open = sym (ap (λ (t : States). (sides_at t s).peer) (released_streams c k)) ∙ peer

cancelled_flow : (c : Core) (k : ℕ) → (cancelled c k).flow ≡ c.flow
cancelled_flow c k = cond_both (is_active c.streams k) _ c (λ (x : Core). x.flow ≡ c.flow) (λ is. refl) (λ is. refl)

-- a stream that ends is released, and no more is owed on it
paid_release : (c : Core) (k : ℕ) → Same c (owed_paid (released c k))
paid_release c k s peer =
    ap (λ (f : Flows). creditable f s) (paid_flow (released c k))
    ∙ released_same c k s (sym (ap (λ (t : States). (sides_at t s).peer) (paid_streams (released c k))) ∙ peer)

from : (c mid d : Core) → ((s : ℕ) → creditable mid.flow s ≡ creditable c.flow s) → Same mid d → Same c d
from c mid d same then s peer = then s peer ∙ same s

given_up_same : (c : Core) (k : ℕ) → Same c (given_up c k)
given_up_same c k =
    from c (withdrawn c k) (given_up c k) (λ s. regained_same c.flow _ s) (paid_release (withdrawn c k) k)

pub aborted_same : (c : Core) (k code : ℕ) → Same c (aborted c k code)
unfolding aborted
aborted_same c k code =
    let first = cancelled c k in
    let mid = with_due (withdrawn first k) k (due.Reset code) in
    from c mid (owed_paid (released mid k))
    (λ s. ap (λ (f : Flows). creditable f s) (due_flow (withdrawn first k) k (due.Reset code)) ∙ regained_same first.flow _ s
    ∙ ap (λ (f : Flows). creditable f s) (cancelled_flow c k))
    (paid_release mid k)

credited_on_same : (c : Core) (k s : ℕ) → creditable (credited_on c k).flow s ≡ creditable c.flow s
credited_on_same c k s =
    ap (λ (f : Flows). creditable f s) (update_flow (record c { flow = paid_on c.flow k }) k (due_on c.flow k))
    ∙ everywhere c.flow k s (taking_by paid_of) on_paid

continued_same : (c : Core) (k : ℕ) (end : Bool) → Same c (continued c k end)
continued_same c k true = released_same (record c { streams = after c.streams (receives data_kind k true) }) k
continued_same c k false = λ s peer. credited_on_same c k s

-- OF WHAT THIS END DOES

pub put_same : (c : Core) (k n : ℕ) (s : ℕ) → creditable (spent c.flow k n) s ≡ creditable c.flow s
put_same c k n s = everywhere c.flow k s (sending_by (λ w. less w n)) (on_sending (λ w. less w n))

pub own_ended_same : (c mid : Core) (k : ℕ) → mid.flow ≡ c.flow → Same c (own_ended mid k)
own_ended_same c mid k is =
    from c mid (own_ended mid k) (λ s. ap (λ (f : Flows). creditable f s) is)
    (released_same (record mid { streams = after mid.streams (sends_end k) }) k)

pub due_ended_same : (c : Core) (k : ℕ) (d : Due) → Same c (own_ended (with_due c k d) k)
due_ended_same c k d = own_ended_same c (with_due c k d) k (due_flow c k d)

pub due_same : (c : Core) (k : ℕ) (d : Due) → Same c (with_due c k d)
due_same c k d = same_flow c (with_due c k d) (due_flow c k d)

used_here : (c : Core) (k n : ℕ) → creditable (used_on c k n).flow k ≡ creditable c.flow k - n
used_here c k n = ap creditable_by (changed_here c.flow k (taking_by (λ w. owing w n))) ∙ on_owing n (get c.flow.streams k)

credit_at : (c : Core) (k n s m : ℕ) → creditable (used_on c k n).flow s ≡ m → creditable (credit c k n).flow s ≡ m
credit_at c k n s m is =
    cond_both _ (credited_on (used_on c k n) k) (used_on c k n) (λ (x : Core). creditable x.flow s ≡ m)
    (λ peer. credited_on_same (used_on c k n) k s ∙ is) (λ none. is)

pub credit_here : (c : Core) (k n : ℕ) → creditable (credit c k n).flow k ≡ creditable c.flow k - n
credit_here c k n = credit_at c k n k _ (used_here c k n)

pub credit_others : (c : Core) (k n s : ℕ) → s ≢ k → creditable (credit c k n).flow s ≡ creditable c.flow s
credit_others c k n s apart = credit_at c k n s _ (elsewhere c.flow k s (taking_by (λ w. owing w n)) apart)

-- OF A FRAME

-- what is had in front of it: a stream that is active has windows, and these are whole
pub record Had (c : Core) : Type 0 where
  pub windows : (n : ℕ) → is_some (get c.streams.active n) ≡ true → is_some (get c.flow.streams n) ≡ true
  pub whole : (n : ℕ) (w : Windows) → get c.flow.streams n ≡ Some w → IsWhole w.taking

module _ (n : ℕ) where
  -- behind DATA of n octets; the peer's side was open in front of it
  pub record Comes (k : ℕ) (c d : Core) : Type 0 where
    pub was : (sides_at c.streams k).peer ≡ true
    pub fits : creditable c.flow k + n ≤ first_size
    pub here : At k (creditable c.flow k + n) d
    pub others : Others k c d

  abbrev pub On : Found → Core → Core → Type 0
  On (found.Opened k end) c d = Others k c d
  On (found.Chunk k end) c d = Comes k c d
  On (found.Fault code) c d = Unit {0}
  On told c d = Same c d

  abbrev OutcomeOn : Core → Outcome → Type 0
  OutcomeOn c o = On o.found c o.core

  given : (c : Core) (o : Outcome) (new : Core) (told : Found) → OutcomeOn c o → Gives o new told → On told c new
  given c o new told so is =
      subst (λ t. On t c new) (sym is.1) (subst (λ (d : Core). On o.found c d) (sym is.0) so)

  either : (c : Core) (b : Bool) (o p : Outcome) → OutcomeOn c o → OutcomeOn c p → OutcomeOn c (cond b o p)
  either c true o p first second = first
  either c false o p first second = second

  fault : (c d : Core) (code : ℕ) → OutcomeOn c (faulted d code)
  unfolding faulted
  fault c d code = tt

  nothing : (c : Core) → Same c c
  nothing c s peer = refl

  breaks : (c mid : Core) (k code : ℕ) → ((s : ℕ) → creditable mid.flow s ≡ creditable c.flow s) → OutcomeOn c (broken mid k code)
  breaks c mid k code same = from c mid (aborted mid k code) same (aborted_same mid k code)

  still : (c : Core) (s : ℕ) → creditable c.flow s ≡ creditable c.flow s
  still c s = refl

  refusal : (c mid : Core) (why : StreamFault) → ((s : ℕ) → creditable mid.flow s ≡ creditable c.flow s) → OutcomeOn c (refused mid why)
  refusal c mid why same = by why.scope
    where
      by : (reach : Scope) → OutcomeOn c (refused_by mid reach why.code)
      by scope.Connection = fault c mid why.code
      by (scope.Stream k) = breaks c mid k why.code same

  -- DATA

  padded_here : (c : Core) (k size : ℕ) (w : Windows) → get c.flow.streams k ≡ Some w → n ≤ size
      → creditable (padded c k size n).flow k ≡ creditable c.flow k + n
  padded_here c k size w is within =
      let took = took_on c.flow k size in
      let came : creditable took k ≡ w.taking.kept + size =
      ap creditable_by (changed_here c.flow k (taking_by (λ t. taken t size)))
      ∙ ap (λ o. creditable_by (option_map (taking_by (λ t. taken t size)) o)) is in
      let left : creditable (owed_on took k (size - n)) k ≡ creditable took k - (size - n) =
      ap creditable_by (changed_here took k (taking_by (λ t. owing t (size - n)))) ∙ on_owing (size - n) (get took.streams k) in
      let had : creditable c.flow k ≡ w.taking.kept = ap creditable_by is in
      omega (arith, came, left, had, within)

  padded_others : (c : Core) (k size s : ℕ) → s ≢ k → creditable (padded c k size n).flow s ≡ creditable c.flow s
  padded_others c k size s apart =
      elsewhere (took_on c.flow k size) k s (taking_by (λ t. owing t (size - n))) apart
      ∙ elsewhere c.flow k s (taking_by (λ t. taken t size)) apart

  data_by : (c : Core) (k size : ℕ) (end : Bool) (o : Option Windows) → get c.flow.streams k ≡ o → is_some o ≡ true
      → ((w : Windows) → o ≡ Some w → IsWhole w.taking) → (sides_at c.streams k).peer ≡ true → n ≤ size
      → OutcomeOn c (data_goes c k size n end o)
  data_by c k size end None is some whole was within = absurd (false≢true some)
  data_by c k size end (Some w) is some whole was within = by (nat_lt w.taking.granted size) refl
    where
      mid : Core
      mid = padded c k size n

      by : (b : Bool) → nat_lt w.taking.granted size ≡ b
          → OutcomeOn c (cond b (broken c k flow_control_error) (outcome (continued mid k end) (found.Chunk k end)))
      by true over = breaks c c k flow_control_error (still c)
      by false fits =
          let had : creditable c.flow k ≡ w.taking.kept = ap creditable_by is in
          let all : w.taking.granted + w.taking.kept + w.taking.owed ≡ 65535 = whole w refl in
          let most : size ≤ w.taking.granted = grind (arith, nat_tests, fits) in
          record {
            was = was;
            fits = omega (arith, had, all, most, within);
            here = λ peer. continued_same mid k end k peer ∙ padded_here c k size w is within;
            others = λ s apart peer. continued_same mid k end s peer ∙ padded_others c k size s apart;
          }

  -- on streams that are active alone, whose peer's side is open
  goes_open : (k : ℕ) (st : State) → data_answer k st ≡ Ok step.Goes → (sides_of st).peer ≡ true
  goes_open k state.Idle is = absurd cc
  goes_open k state.Open is = refl
  goes_open k state.HalfClosedLocal is = refl
  goes_open k state.HalfClosedRemote is = absurd cc
  goes_open k state.Closed is = absurd cc
  goes_open k state.Reset is = absurd cc

  data_answers : (c : Core) (k size : ℕ) (end : Bool) (r : Result Step StreamFault) → Had c → answer_of c.streams data_kind k ≡ r
      → n ≤ size → OutcomeOn c (data_answered c k size n end r)
  data_answers c k size end (Ok step.Goes) had is within =
      data_by c k size end (get c.flow.streams k) refl (had.windows k (active_by c.streams k (get c.streams.active k) refl is))
      (had.whole k) (goes_open k (state_of c.streams k) is) within
  data_answers c k size end (Ok step.New) had is within = nothing c
  data_answers c k size end (Ok step.Ignored) had is within = nothing c
  data_answers c k size end (Err why) had is within = refusal c c why (still c)

  -- what the connection's own window does leaves the streams' windows
  used_windows : (c : Core) (size : ℕ) → (used c size).flow.streams ≡ c.flow.streams
  used_windows c size = ap (λ (f : Flows). f.streams) (updated_flow _ _)

  rebased : (c mid d : Core) (told : Found) → mid.flow.streams ≡ c.flow.streams → mid.streams ≡ c.streams → On told mid d → On told c d
  rebased c mid d told windows streams is =
      by told is
    where
      same : (s : ℕ) → creditable mid.flow s ≡ creditable c.flow s
      same s = ap (λ m. creditable_by (get m s)) windows

      by : (told : Found) → On told mid d → On told c d
      by (found.Opened k end) is = λ s apart peer. is s apart peer ∙ same s
      by (found.Chunk k end) is = record {
        was = ap (λ (t : States). (sides_at t k).peer) (sym streams) ∙ is.was;
        fits = omega (arith, is.fits, same k);
        here = λ peer. is.here peer ∙ ap (λ m. m + n) (same k);
        others = λ s apart peer. is.others s apart peer ∙ same s;
      }
      by (found.Fault code) is = tt
      by found.Silent is = λ s peer. is s peer ∙ same s
      by (found.Ended k) is = λ s peer. is s peer ∙ same s
      by (found.Reset k code) is = λ s peer. is s peer ∙ same s
      by (found.Broken k code) is = λ s peer. is s peer ∙ same s
      by (found.GoneAway last) is = λ s peer. is s peer ∙ same s

  had_on : (c mid : Core) → mid.flow.streams ≡ c.flow.streams → mid.streams ≡ c.streams → Had c → Had mid
  had_on c mid windows streams had = record {
    windows =
        λ s some. ap (λ m. is_some (get m s)) windows ∙ had.windows s (ap (λ (t : States). is_some (get t.active s)) (sym streams) ∙ some);
    whole = λ s w is. had.whole s w (ap (λ m. get m s) (sym windows) ∙ is);
  }

  data_on : (c : Core) (k size : ℕ) (end : Bool) → Had c → n ≤ size → OutcomeOn c (on_data c k size n end)
  data_on c k size end had within =
      let mid = used c size in
      let r = answer_of c.streams data_kind k in
      let streams : mid.streams ≡ c.streams = updated_streams _ _ in
      let windows = used_windows c size in
      let goes = data_answered mid k size n end r in
      let so =
      data_answers mid k size end r (had_on c mid windows streams had) (ap (λ (t : States). answer_of t data_kind k) streams) within in
      either c (is_of_idle r) (faulted c protocol_error) (cond _ (faulted c flow_control_error) goes) (fault c c protocol_error)
      (either c _ (faulted c flow_control_error) goes (fault c c flow_control_error) (rebased c mid goes.core goes.found windows streams so))

  -- RST_STREAM

  reset_answers : (c : Core) (k code : ℕ) (r : Result Step StreamFault) → OutcomeOn c (reset_answered c k code r)
  reset_answers c k code (Ok step.Goes) = from c (peer_reset c k) (given_up (peer_reset c k) k) (still c) (given_up_same (peer_reset c k) k)
  reset_answers c k code (Ok step.New) = nothing c
  reset_answers c k code (Ok step.Ignored) = nothing c
  reset_answers c k code (Err why) = refusal c c why (still c)

  -- WINDOW_UPDATE

  window_grows : (c : Core) (k m : ℕ) (o : Option Windows) → OutcomeOn c (stream_grows c k m o)
  window_grows c k m None = nothing c
  window_grows c k m (Some w) =
      either c _ (broken c k flow_control_error) (outcome (record c { flow = granted_on c.flow k m }) found.Silent)
      (breaks c c k flow_control_error (still c))
      (λ s peer. everywhere c.flow k s (sending_by (λ w. more w m)) (on_sending (λ w. more w m)))

  window_answers : (c : Core) (k m : ℕ) (r : Result Step StreamFault) → OutcomeOn c (stream_answered c k m r)
  window_answers c k m (Ok step.Goes) =
      either c (m == 0) (broken c k protocol_error) (stream_grows c k m (get c.flow.streams k))
      (breaks c c k protocol_error (still c)) (window_grows c k m (get c.flow.streams k))
  window_answers c k m (Ok step.New) = nothing c
  window_answers c k m (Ok step.Ignored) = nothing c
  window_answers c k m (Err why) = refusal c c why (still c)

  window_on : (c : Core) (k m : ℕ) → OutcomeOn c (on_window c k m)
  window_on c k m =
      let r = answer_of c.streams window_update_kind k in
      either c (k == 0) (connection_grows c m) (stream_answered c k m r)
      (either c _ (faulted c flow_control_error) (outcome (record c { flow = granted c.flow m }) found.Silent)
      (fault c c flow_control_error) (λ s peer. refl))
      (window_answers c k m r)

  -- HEADERS

  headers_on : (c : Core) (k : ℕ) (end : Bool) (r : Result Step StreamFault) → OutcomeOn c (headers_answered c k end r)
  headers_on c k end (Ok step.New) =
      λ s apart peer. ap creditable_by (put_elsewhere c.flow.streams k (new_windows c.flow.initial) s apart)
  headers_on c k end (Ok step.Goes) = λ s apart peer. released_same (headed c k end) k s peer
  headers_on c k end (Ok step.Ignored) = nothing c
  headers_on c k end (Err why) = refusal c (headed c k end) why (still c)

  block_on : (c : Core) (told : Result (Option Whole) BlockFault) → OutcomeOn c (block_told c told)
  block_on c (Ok None) = nothing c
  block_on c (Ok (Some whole)) = headers_on c whole.stream whole.end_stream (answer_of c.streams headers_kind whole.stream)
  block_on c (Err why) = fault c c _

  does_block : (progress : Progress) (c new : Core) (told : Found) → DoesBlock progress c new told → On told c new
  does_block progress c new told does =
      given c (block_told (record c { blocks = does.0 }) does.1) new told
      (rebased c (record c { blocks = does.0 }) _ (block_told (record c { blocks = does.0 }) does.1).found refl refl
      (block_on (record c { blocks = does.0 }) does.1)) does.3

  -- SETTINGS

  noted_flow : (c : Core) (s : ℕ × ℕ) → (noted c s).flow ≡ c.flow
  noted_flow c s = by (s.0 == max_concurrent_streams) (s.0 == max_frame_size)
    where
      by : (a b : Bool) → (cond a (record c { peer = record c.peer { streams = s.1 } })
          (cond b (record c { peer = record c.peer { frame_size = s.1 } }) c)).flow ≡ c.flow
      by true b = refl
      by false true = refl
      by false false = refl

  -- the windows move as one, where all fit
  abbrev Resize : Core → Core → Type 0
  Resize c d = (s : ℕ) → creditable d.flow s ≡ creditable c.flow s

  one_same : (b : Bool) (c mid : Core) (s : ℕ × ℕ) (fits : Bool) → fits ≡ true → AppliesBy b c s mid fits → Resize c mid
  one_same true c mid s true all is = λ k. ap (λ (x : Core). creditable x.flow k) is.2 ∙ resized_same c.flow s.1 k
  one_same true c mid s false all is = absurd (false≢true all)
  one_same false c mid s fits all is =
      λ k. ap (λ (x : Core). creditable x.flow k) is.0 ∙ ap (λ (f : Flows). creditable f k) (noted_flow c s)

  all_same : (pairs : List (ℕ × ℕ)) (c mid : Core) → AppliesAll c pairs mid true → Resize c mid
  all_same [] c mid is = λ k. ap (λ (x : Core). creditable x.flow k) is.0
  all_same (s ∷ pairs) c mid is =
      by (λ rest k. all_same pairs is.0 mid rest k) is.1 refl is.3
    where
      by : (AppliesAll is.0 pairs mid true → Resize is.0 mid) → (ok : Bool) → is.1 ≡ ok
          → Then ok (AppliesAll is.0 pairs mid true) ((mid ≡ is.0) × (true ≡ false)) → Resize c mid
      by later true all rest = λ k. later rest k ∙ one_same (s.0 == initial_window_size) c is.0 s is.1 all is.2 k
      by later false none rest = absurd (false≢true (sym rest.1))

  applied_on : (c mid : Core) (fits : Bool) → (fits ≡ true → Resize c mid) → OutcomeOn c (applied mid fits)
  applied_on c mid true same = λ s peer. same refl s
  applied_on c mid false same = fault c mid _

  settings_by : (b : Bool) (c : Core) (pairs : List (ℕ × ℕ)) (new : Core) (told : Found) → SettlesBy b c pairs new told → On told c new
  settings_by true c pairs new told is = given c _ new told (fault c c _) is
  settings_by false c pairs new told is =
      given c _ new told (applied_on c is.0 is.1 (λ all. all_same pairs c is.0 (subst (AppliesAll c pairs is.0) all is.2))) is.3

  settings_on : (ack : Bool) (c : Core) (payload : List ℕ) (new : Core) (told : Found) → DoesSettings ack c payload new told → On told c new
  settings_on true c payload new told is = given c (outcome c found.Silent) new told (nothing c) is
  settings_on false c payload new told is = settings_by _ c _ new told is

-- ANY FRAME

-- DATA hands out no more than was counted
abbrev pub HandsOut : Glance → List ℕ → Type 0
HandsOut (glance.Data k size end) bytes = length bytes ≤ size
HandsOut g bytes = Unit {0}

answers_on : (c : Core) (g : Glance) (bytes : List ℕ) (new : Core) (told : Found) → Had c → HandsOut g bytes → Answers c g bytes new told
    → On (length bytes) told c new
answers_on c glance.Nothing bytes new told had fits is = given (length bytes) c _ new told (nothing (length bytes) c) is
answers_on c (glance.Data k size end) bytes new told had fits is =
    given (length bytes) c _ new told (data_on (length bytes) c k size end had fits) is
answers_on c (glance.Headers k end whole) bytes new told had fits is = does_block (length bytes) _ c new told is
answers_on c (glance.Reset k code) bytes new told had fits is =
    given (length bytes) c _ new told (reset_answers (length bytes) c k code _) is
answers_on c (glance.Settings ack) bytes new told had fits is = settings_on (length bytes) ack c bytes new told is
answers_on c (glance.Ping ack value) bytes new told had fits is =
    given (length bytes) c (does c (glance.Ping ack value) bytes) new told
    (either (length bytes) c ack (outcome c found.Silent) (outcome (sent c (ping_ack value)) found.Silent)
    (nothing (length bytes) c) (nothing (length bytes) c)) is
answers_on c (glance.GoAway last) bytes new told had fits is = given (length bytes) c _ new told (nothing (length bytes) c) is
answers_on c (glance.Window k m) bytes new told had fits is = given (length bytes) c _ new told (window_on (length bytes) c k m) is
answers_on c (glance.Continuation k whole) bytes new told had fits is = does_block (length bytes) _ c new told is
answers_on c glance.Other bytes new told had fits is = given (length bytes) c _ new told (nothing (length bytes) c) is
answers_on c (glance.Refused code row kind flags) bytes new told had fits is =
    given (length bytes) c _ new told (fault (length bytes) c c code) is

pub handles_on : (b : Bool) (c : Core) (g : Glance) (bytes : List ℕ) (new : Core) (told : Found) → Had c → HandsOut g bytes
    → HandlesBy b c g bytes new told → On (length bytes) told c new
handles_on true c g bytes new told had fits is = given (length bytes) c _ new told (fault (length bytes) c c _) is
handles_on false c g bytes new told had fits is = answers_on c g bytes new told had fits is
