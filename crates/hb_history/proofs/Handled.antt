-- What each part keeps is kept by each frame of the peer.
use Rattle.std.proofs.Common.{◌≡◌, ◌⊎◌, inl, inr, ℕ, ◌≤◌, ◌-◌, Bool, true, false, cond, ◌==◌, ◌||◌, not, List, [], ◌∷◌, Option, Some, None, IfSome, Result, Ok, Err, refl, ap, sym, ◌∙◌, subst, arith, ℤ, pos, ◌+ℤ◌, ◌≤ℤ◌}
use Rattle.std.specs.Prelude.{nat_lt, int_lt, length}
use Rattle.std.specs.FinMap.{get}
use Rattle.std.proofs.lemmas.Bool.{false≢true}
use Rattle.std.proofs.lemmas.Bool.Decides.{nat_tests}
use Rattle.std.proofs.lemmas.Int.{ints}
use Rattle.hb_frames.specs.Refusals.{settings}
use Rattle.hb_frames.specs.Numbers.{data_kind, headers_kind, rst_stream_kind, window_update_kind, max_concurrent_streams}
use Rattle.hb_frames.specs.Numbers.{initial_window_size, max_frame_size, protocol_error, largest}
use Rattle.hb_streams.specs.Sides.{both_open, sides_of}
use Rattle.hb_streams.specs.States.{States, state_of}
use Rattle.hb_streams.specs.Answers.{answer_of, control_answer}
use Rattle.hb_streams.specs.Moves.{after, after_answer, receives}
use Rattle.hb_streams.specs.declared.state.State.{State}
use Rattle.hb_streams.specs.declared.state.State.TheVariants.{Idle, Open, HalfClosedLocal, HalfClosedRemote, Closed, Reset}
use Rattle.hb_streams.specs.declared.step.Step.{Step}
use Rattle.hb_streams.specs.declared.step.Step.TheVariants.{New, Goes, Ignored}
use Rattle.hb_streams.specs.declared.fault.StreamFault.{StreamFault}
use Rattle.hb_streams.proofs.Begins.{is_new, uses_number, number_is_above, is_idle}
use Rattle.hb_flow.specs.Windows.{Windows, counted as counted_with}
use Rattle.hb_flow.specs.Flows.{TakesOn, granted, granted_on, took_on}
use Rattle.hb_flow.specs.Sizes.{unbegun_on}
use Rattle.hb_flow.specs.Moves.{takes_on, owes_on}
use Rattle.hb_blocks.specs.Assembly.{Progress}
use Rattle.hb_blocks.specs.declared.fault.BlockFault.{BlockFault}
use Rattle.hb_blocks.specs.declared.whole.Whole.{Whole}
use Rattle.hb_conn.proofs.Flowing.{data_is_kept}
use Rattle.hb_conn.specs.Frames.{settings_ack, ping_ack}
use Rattle.hb_conn.specs.Ping.{on_ping}
use Rattle.hb_conn.specs.Faults.{faulted, is_active, broken, released}
use Rattle.hb_conn.specs.Data.{used, padded, continued, data_goes, data_answered, is_of_idle, on_data}
use Rattle.hb_conn.specs.Resets.{peer_reset, reset_answered}
use Rattle.hb_conn.specs.Windows.{unbegun, connection_grows, stream_grows, stream_answered, on_window}
use Rattle.hb_conn.specs.Headers.{headed, begun, registered, headers_answered, block_told, DoesBlock}
use Rattle.hb_conn.specs.Settings.{allows_push, Resized, AppliesBy, Then, AppliesAll, applied, SettlesBy, DoesSettings}
use Rattle.hb_conn.specs.Places.{is_misplaced}
use Rattle.hb_conn.specs.Handling.{Answers, HandlesBy, Handles}
use Rattle.hb_conn.specs.Outcome.{outcome, Gives}
use Rattle.hb_conn.specs.declared.machine.Core.{Core}
use Rattle.hb_conn.specs.declared.found.Found.{Found}
use Rattle.hb_conn.specs.declared.found.Found.TheVariants.{Silent, Chunk}
use Rattle.hb_conn.specs.declared.glance.Glance.{Glance}
use Rattle.hb_conn.specs.declared.glance.Glance.TheVariants as glance
use Rattle.hb_history.proofs.Parts.{Amid, calm, gone, Keeps, PutsAck, Resizes}
use Rattle.hb_history.proofs.Moved.{received, received_refused, data_begins_none, reset_begins_none, reset_closes, closed_inactive}
use Rattle.hb_history.proofs.Kept as kept

-- what a WINDOW_UPDATE keeps beside these parts, where it comes on the connection, goes, is ignored, or breaks a stream
pub record Grows (P : Amid → Core → Type 0) (c : Core) (s n : ℕ) : Type 0 where
  pub fault : (code : ℕ) → P calm (faulted c code).core
  pub whole : s ≡ 0 → (counted_with c.flow.sending (unbegun c).size +ℤ pos n) ≤ℤ pos largest
      → P calm (record c { flow = granted c.flow n })
  pub one : (s == 0) ≡ false → (w : Windows) → get c.flow.streams s ≡ Some w
      → (counted_with w.sending (unbegun_on (unbegun c).stream (unbegun c).size s) +ℤ pos n) ≤ℤ pos largest
      → P calm (record c { flow = granted_on c.flow s n })
  pub broken : (s == 0) ≡ false → is_idle (state_of c.streams s) ≡ false → P (gone s) c
  pub ignored : (s == 0) ≡ false → is_idle (state_of c.streams s) ≡ false
      → (get c.flow.streams s ≡ None) ⊎ (is_active c.streams s ≡ false) → P calm c

abbrev without_sides : State → Bool
without_sides st = (sides_of st).own || (sides_of st).peer

fits_by : (x : ℤ) → int_lt (pos largest) x ≡ false → x ≤ℤ pos largest
fits_by x test = grind (arith, ints)

module _ (P : Amid → Core → Type 0) (k : Keeps P) where
  -- DATA

  ended_keeps : (c : Core) (s : ℕ) → P calm c → P calm (released (record c { streams = after c.streams (receives data_kind s true) }) s)
  ended_keeps c s h =
      k.releases s (record c { streams = after c.streams (receives data_kind s true) })
      (k.moves false s c _ (received s c.streams data_kind true (data_begins_none s c.streams)) (k.ends s c h))

  continued_keeps : (c : Core) (s : ℕ) (end : Bool) → P calm c → P calm (continued c s end)
  continued_keeps c s true h = ended_keeps c s h
  continued_keeps c s false h = kept.credited_keeps P k c s h

  padded_keeps : (c : Core) (s n size : ℕ) (w : Windows) → get c.flow.streams s ≡ Some w → n ≤ w.taking.granted → P calm c
      → P calm (padded c s n size)
  padded_keeps c s n size w is within h =
      let takes : TakesOn c.flow (took_on c.flow s n) (Ok tt) s n (get c.flow.streams s) =
      subst (λ (o : Option Windows). TakesOn c.flow (took_on c.flow s n) (Ok tt) s n o) (sym is) (within, refl) in
      let less : n - size ≤ n = omega arith in
      k.takes_in calm (record c { flow = took_on c.flow s n }) (owes_on s (n - size)) refl
      (data_is_kept c.flow (took_on c.flow s n) s n (n - size) takes less)
      (k.takes_in calm c (takes_on s n) refl
      (subst (λ (o : Option Windows). IfSome o (λ (v : Windows). n ≤ v.taking.granted)) (sym is) within) h)

  goes_by : (c : Core) (s n size : ℕ) (end : Bool) (o : Option Windows) → get c.flow.streams s ≡ o → P calm c
      → P calm (data_goes c s n size end o).core
  goes_by c s n size end None is h = continued_keeps c s end h
  goes_by c s n size end (Some w) is h = by (nat_lt w.taking.granted n) refl
    where
      by : (b : Bool) → nat_lt w.taking.granted n ≡ b
          → P calm (cond b (broken c s 3) (outcome (continued (padded c s n size) s end) (Chunk s end))).core
      by true over = kept.broken_keeps P k s c 3 (k.ends s c h)
      by false within = continued_keeps (padded c s n size) s end (padded_keeps c s n size w is (grind (arith, nat_tests, within)) h)

  answered_keeps : (c : Core) (s n size : ℕ) (end : Bool) (r : Result Step StreamFault) → P calm c
      → P calm (data_answered c s n size end r).core
  answered_keeps c s n size end (Ok Goes) h = goes_by c s n size end (get c.flow.streams s) refl h
  answered_keeps c s n size end (Ok New) h = h
  answered_keeps c s n size end (Ok Ignored) h = h
  answered_keeps c s n size end (Err fault) h = kept.refused_keeps P k c fault (λ q. k.ends q c h)

  data_by : (c : Core) (s n size : ℕ) (end : Bool) (a b : Bool) → nat_lt c.flow.taking.granted n ≡ b → P calm c
      → P calm (cond a (faulted c protocol_error)
      (cond b (faulted c 3) (data_answered (used c n) s n size end (answer_of c.streams data_kind s)))).core
  data_by c s n size end true b test h = kept.faulted_keeps P k calm c protocol_error h
  data_by c s n size end false true test h = kept.faulted_keeps P k calm c 3 h
  data_by c s n size end false false test h =
      answered_keeps (used c n) s n size end (answer_of c.streams data_kind s) (kept.used_keeps P k c n (grind (arith, nat_tests, test)) h)

  data_keeps : (c : Core) (s n size : ℕ) (end : Bool) → P calm c → P calm (on_data c s n size end).core
  data_keeps c s n size end h =
      data_by c s n size end (is_of_idle (answer_of c.streams data_kind s)) (nat_lt c.flow.taking.granted n) refl h

  -- RST_STREAM

  reset_by : (c : Core) (s code : ℕ) (r : Result Step StreamFault) → answer_of c.streams rst_stream_kind s ≡ r → P calm c
      → P calm (reset_answered c s code r).core
  reset_by c s code (Err fault) is h = kept.refused_keeps P k c fault (λ q. k.ends q c h)
  reset_by c s code (Ok Goes) is h =
      let none : is_active (peer_reset c s).streams s ≡ false =
      ap (λ (t : States). is_active t s) (reset_closes s c.streams false is) ∙ closed_inactive s c.streams in
      kept.given_up_keeps P k s (peer_reset c s) none
      (k.goes s (peer_reset c s)
      (k.moves false s c _ (received s c.streams rst_stream_kind false (reset_begins_none s c.streams)) (k.ends s c h)))
  reset_by c s code (Ok New) is h = h
  reset_by c s code (Ok Ignored) is h = h

  -- HEADERS

  begun_keeps : (c : Core) (s : ℕ) (end : Bool) → answer_of c.streams headers_kind s ≡ Ok New → P calm c → P calm (begun c s end)
  begun_keeps c s end is h =
      let sides = record both_open { peer = not end } in
      let new = number_is_above c.streams headers_kind s (ap uses_number is) in
      let becomes = ap (after_answer c.streams headers_kind s end) is in
      subst (λ (t : States). P calm (registered (record c { streams = t }) s)) (sym becomes)
      (k.begins s c sides (receives headers_kind s end) new.1 becomes h)

  headers_by : (c : Core) (s : ℕ) (end : Bool) (r : Result Step StreamFault) → answer_of c.streams headers_kind s ≡ r → P calm c
      → P calm (headers_answered c s end r).core
  headers_by c s end (Ok New) is h = begun_keeps c s end is h
  headers_by c s end (Ok Goes) is h =
      k.releases s (headed c s end)
      (k.moves false s c _ (received s c.streams headers_kind end (ap is_new is)) (k.ends s c h))
  headers_by c s end (Ok Ignored) is h = h
  headers_by c s end (Err fault) is h = kept.refused_keeps P k (headed c s end) fault
      (λ q. k.moves false q c _ (received_refused q s c.streams headers_kind end fault is) (k.ends q c h))

  told_keeps : (c : Core) (told : Result (Option Whole) BlockFault) → P calm c → P calm (block_told c told).core
  told_keeps c (Ok None) h = h
  told_keeps c (Ok (Some whole)) h =
      headers_by c whole.stream whole.end_stream (answer_of c.streams headers_kind whole.stream) refl h
  told_keeps c (Err fault) h = kept.faulted_keeps P k calm c _ h

  block_keeps : (progress : Progress) (c new : Core) (found : Found) → P calm c → DoesBlock progress c new found → P calm new
  block_keeps progress c new found h does =
      subst (P calm) (sym does.3.0)
      (told_keeps (record c { blocks = does.0 }) does.1 (k.other calm c c.encoder does.0 c.peer c.settled h))

  -- SETTINGS

  -- after settings that fit, and after one that doesn't
  abbrev Settled : Core → Bool → Type 0
  Settled c true = P calm c
  Settled c false = (code : ℕ) → P calm (faulted c code).core

  noted_by : (c : Core) (s : ℕ × ℕ) (a b : Bool) → P calm c
      → P calm (cond a (record c { peer = record c.peer { streams = s.1 } })
      (cond b (record c { peer = record c.peer { frame_size = s.1 } }) c))
  noted_by c s true b h = k.other calm c c.encoder c.blocks (record c.peer { streams = s.1 }) c.settled h
  noted_by c s false true h = k.other calm c c.encoder c.blocks (record c.peer { frame_size = s.1 }) c.settled h
  noted_by c s false false h = h

  resized_keeps : Resizes P → (c new : Core) (n : ℕ) (fits : Bool) → P calm c → Resized c n new fits → Settled new fits
  resized_keeps r c new n true h is =
      subst (P calm) (sym is.2) (r c n is.0 is.1.0 h)
  resized_keeps r c new n false h (inl large) =
      λ code. subst (λ (d : Core). P calm (faulted d code).core) (sym large.1) (kept.faulted_keeps P k calm c code h)
  resized_keeps r c new n false h (inr over) =
      λ code. subst (λ (d : Core). P calm (faulted d code).core) (sym over.3) (k.faults calm c new.flow code h)

  one_keeps : Resizes P → (c new : Core) (s : ℕ × ℕ) (b fits : Bool) → P calm c → AppliesBy b c s new fits → Settled new fits
  one_keeps r c new s true fits h is = resized_keeps r c new s.1 fits h is
  one_keeps r c new s false true h is =
      subst (P calm) (sym is.0) (noted_by c s (s.0 == max_concurrent_streams) (s.0 == max_frame_size) h)
  one_keeps r c new s false false h is = absurd (false≢true is.1)

  all_keep : Resizes P → (pairs : List (ℕ × ℕ)) (c new : Core) (fits : Bool) → P calm c → AppliesAll c pairs new fits → Settled new fits
  all_keep r [] c new fits h is =
      subst (Settled new) (sym is.1) (subst (P calm) (sym is.0) h)
  all_keep r (s ∷ more) c new fits h is =
      by is.1 (one_keeps r c is.0 s (s.0 == initial_window_size) is.1 h is.2) (all_keep r more is.0 new fits) is.3
    where
      by : (ok : Bool) → Settled is.0 ok → (P calm is.0 → AppliesAll is.0 more new fits → Settled new fits)
          → Then ok (AppliesAll is.0 more new fits) ((new ≡ is.0) × (fits ≡ false)) → Settled new fits
      by true one later rest = later one rest
      by false one later rest = subst (Settled new) (sym rest.1) (subst (λ d. Settled d false) (sym rest.0) one)

  settled_keeps : PutsAck P → (c new : Core) (fits : Bool) (found : Found) → Settled c fits → Gives (applied c fits) new found
      → P calm new
  settled_keeps acks c new true found h is =
      subst (P calm) (sym is.0) (acks (record c { settled = true }) settings_ack (refl, refl)
      (k.other calm c c.encoder c.blocks c.peer true h))
  settled_keeps acks c new false found h is = subst (P calm) (sym is.0) (h 3)

  settings_by : Resizes P → PutsAck P → (b : Bool) (c : Core) (pairs : List (ℕ × ℕ)) (new : Core) (found : Found) → P calm c
      → SettlesBy b c pairs new found → P calm new
  settings_by r acks true c pairs new found h is = subst (P calm) (sym is.0) (kept.faulted_keeps P k calm c protocol_error h)
  settings_by r acks false c pairs new found h is =
      settled_keeps acks is.0 new is.1 found (all_keep r pairs c is.0 is.1 h is.2) is.3

  pub settings_keep : Resizes P → PutsAck P → (ack : Bool) (c : Core) (payload : List ℕ) (new : Core) (found : Found) → P calm c
      → DoesSettings ack c payload new found
      → P calm new
  settings_keep r acks true c payload new found h is = subst (P calm) (sym is.0) h
  settings_keep r acks false c payload new found h is =
      settings_by r acks (allows_push c.streams.role (settings payload)) c (settings payload) new found h is

  -- PING

  pub ping_keeps : PutsAck P → (c : Core) (ack : Bool) (value : ℕ) → P calm c → P calm (on_ping c ack value).core
  ping_keeps acks c true value h = h
  ping_keeps acks c false value h = acks c (ping_ack value) (refl, refl) h

  -- WINDOW_UPDATE

  broken_by : (s : ℕ) (c : Core) (code : ℕ) → P (gone s) c → P calm (broken c s code).core
  broken_by s c code h = kept.aborted_keeps P k s c code h

  connection_by : (c : Core) (s n : ℕ) → s ≡ 0 → Grows P c s n → P calm (connection_grows c n).core
  connection_by c s n is grows = by (int_lt (pos largest) sum) refl
    where
      sum : ℤ
      sum = counted_with c.flow.sending (unbegun c).size +ℤ pos n

      by : (b : Bool) → int_lt (pos largest) sum ≡ b
          → P calm (cond b (faulted c 3) (outcome (record c { flow = granted c.flow n }) Silent)).core
      by true over = grows.fault 3
      by false fits = grows.whole is (fits_by sum fits)

  grows_by : (c : Core) (s n : ℕ) → (s == 0) ≡ false → is_idle (state_of c.streams s) ≡ false → Grows P c s n
      → (o : Option Windows) → get c.flow.streams s ≡ o → P calm (stream_grows c s n o).core
  grows_by c s n some live grows None is = grows.ignored some live (inl is)
  grows_by c s n some live grows (Some w) is = by (int_lt (pos largest) sum) refl
    where
      sum : ℤ
      sum = counted_with w.sending (unbegun_on (unbegun c).stream (unbegun c).size s) +ℤ pos n

      by : (b : Bool) → int_lt (pos largest) sum ≡ b
          → P calm (cond b (broken c s 3) (outcome (record c { flow = granted_on c.flow s n }) Silent)).core
      by true over = broken_by s c 3 (grows.broken some live)
      by false fits = grows.one some w is (fits_by sum fits)

  goes_on : (c : Core) (s n : ℕ) → (s == 0) ≡ false → is_idle (state_of c.streams s) ≡ false → Grows P c s n → (b : Bool)
      → P calm (cond b (broken c s protocol_error) (stream_grows c s n (get c.flow.streams s))).core
  goes_on c s n some live grows true = broken_by s c protocol_error (grows.broken some live)
  goes_on c s n some live grows false = grows_by c s n some live grows (get c.flow.streams s) refl

  stream_by : (c : Core) (s n : ℕ) → (s == 0) ≡ false → Grows P c s n → (st : State) → state_of c.streams s ≡ st
      → P calm (stream_answered c s n (control_answer st)).core
  stream_by c s n some grows Idle is = grows.fault protocol_error
  stream_by c s n some grows Open is = goes_on c s n some (ap is_idle is) grows (n == 0)
  stream_by c s n some grows HalfClosedLocal is = goes_on c s n some (ap is_idle is) grows (n == 0)
  stream_by c s n some grows HalfClosedRemote is = goes_on c s n some (ap is_idle is) grows (n == 0)
  stream_by c s n some grows Closed is = grows.ignored some (ap is_idle is) (inr (ap without_sides is))
  stream_by c s n some grows Reset is = grows.ignored some (ap is_idle is) (inr (ap without_sides is))

  pub window_keeps : (c : Core) (s n : ℕ) → Grows P c s n → P calm (on_window c s n).core
  window_keeps c s n grows = by (s == 0) refl
    where
      by : (b : Bool) → (s == 0) ≡ b
          → P calm (cond b (connection_grows c n) (stream_answered c s n (answer_of c.streams window_update_kind s))).core
      by true is = connection_by c s n (grind (arith, nat_tests, is)) grows
      by false some = stream_by c s n some grows (state_of c.streams s) refl

  -- a frame in its place, and any frame

  answers_keep : (c : Core) (g : Glance) (bytes : List ℕ) (new : Core) (found : Found) → P calm c
      → ((s n : ℕ) → g ≡ glance.Window s n → P calm (on_window c s n).core)
      → ((ack : Bool) → g ≡ glance.Settings ack → DoesSettings ack c bytes new found → P calm new)
      → ((ack : Bool) (value : ℕ) → g ≡ glance.Ping ack value → P calm (on_ping c ack value).core) → Answers c g bytes new found
      → P calm new
  answers_keep c glance.Nothing bytes new found h window settings ping is = subst (P calm) (sym is.0) h
  answers_keep c (glance.Data s n end) bytes new found h window settings ping is =
      subst (P calm) (sym is.0) (data_keeps c s n (length bytes) end h)
  answers_keep c (glance.Headers s end whole) bytes new found h window settings ping is = block_keeps _ c new found h is
  answers_keep c (glance.Reset s code) bytes new found h window settings ping is =
      subst (P calm) (sym is.0) (reset_by c s code (answer_of c.streams rst_stream_kind s) refl h)
  answers_keep c (glance.Settings ack) bytes new found h window settings ping is = settings ack refl is
  answers_keep c (glance.Ping ack value) bytes new found h window settings ping is =
      subst (P calm) (sym is.0) (ping ack value refl)
  answers_keep c (glance.GoAway last) bytes new found h window settings ping is = subst (P calm) (sym is.0) h
  answers_keep c (glance.Window s n) bytes new found h window settings ping is = subst (P calm) (sym is.0) (window s n refl)
  answers_keep c (glance.Continuation s whole) bytes new found h window settings ping is = block_keeps _ c new found h is
  answers_keep c glance.Other bytes new found h window settings ping is = subst (P calm) (sym is.0) h
  answers_keep c (glance.Refused code row kind flags) bytes new found h window settings ping is =
      subst (P calm) (sym is.0) (kept.faulted_keeps P k calm c code h)

  handles_by : (b : Bool) (c : Core) (g : Glance) (bytes : List ℕ) (new : Core) (found : Found) → P calm c
      → ((s n : ℕ) → g ≡ glance.Window s n → P calm (on_window c s n).core)
      → ((ack : Bool) → g ≡ glance.Settings ack → DoesSettings ack c bytes new found → P calm new)
      → ((ack : Bool) (value : ℕ) → g ≡ glance.Ping ack value → P calm (on_ping c ack value).core) → HandlesBy b c g bytes new found
      → P calm new
  handles_by true c g bytes new found h window settings ping is =
      subst (P calm) (sym is.0) (kept.faulted_keeps P k calm c protocol_error h)
  handles_by false c g bytes new found h window settings ping is = answers_keep c g bytes new found h window settings ping is

  pub handles_keep : (c : Core) (g : Glance) (bytes : List ℕ) (new : Core) (found : Found) → P calm c
      → ((s n : ℕ) → g ≡ glance.Window s n → P calm (on_window c s n).core)
      → ((ack : Bool) → g ≡ glance.Settings ack → DoesSettings ack c bytes new found → P calm new)
      → ((ack : Bool) (value : ℕ) → g ≡ glance.Ping ack value → P calm (on_ping c ack value).core) → Handles c g bytes new found
      → P calm new
  handles_keep c g bytes new found h window settings ping is = handles_by (is_misplaced c g) c g bytes new found h window settings ping is
