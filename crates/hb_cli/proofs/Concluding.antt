-- How a command that is answered by its input ends: by what was found, and how far that was told or printed.
use Rattle.std.proofs.Common.{◌≡◌, ◌≢◌, ℕ, Bool, true, false, List, [], Result, Ok, Err, refl, sym, subst, ap, ◌∙◌, inl, inr}
use Rattle.std.specs.Prelude.{IfOk, IsTrue}
use Rattle.std.specs.Bool.{MatchBool}
use Rattle.std.specs.Result.{MatchResult}
use Rattle.hb_audit.specs.Tells.{Answering}
use Rattle.hb_words.specs.Command.{Command, Replay, Route, checks, routes, shows, replays, serves, makes, prints}
use Rattle.hb_words.specs.declared.asks.Show.{Show}
use Rattle.hb_words.specs.declared.fault.WordsFault.{WordsFault}
use Rattle.hb_cli.specs.Replaying.{RunState, done_in, DoneLawfully}
use Rattle.hb_cli.specs.declared.answer.Answer.{Answer}
use Rattle.hb_cli.specs.declared.answer.Answer.TheVariants.{Judged, Told, Left, Replayed}
use Rattle.hb_cli.specs.declared.answer.Printed.{Printed}
use Rattle.hb_cli.specs.declared.ended.ReplayEnd.TheVariants as ends
use Rattle.hb_cli.specs.declared.answer.Printed.TheVariants.{NoMemory as Short}
use Rattle.hb_cli.specs.declared.stop.Stop.{Stop}
use Rattle.hb_cli.specs.declared.stop.Stop.TheVariants.{Words, TooLong, Refused, ReadFault, NoMemory}
use Rattle.hb_cli.specs.Answer.{answer_text, IsMade, Suits}
use Rattle.hb_cli.specs.Ending.{Run, Gives, DoesNothing, RunsNothing, BreaksOff, Stays, EndsWith}
use Rattle.hb_cli.specs.Hearing.{HearsBy}
use Rattle.hb_cli.specs.Making.{made_run}
use Rattle.hb_cli.specs.Looking.{LooksAt, ComesTo, takes_memory, GivesUp}
use Rattle.hb_cli.specs.Leaving.{Leaves, LeavesBy, EndsRun, end_of}
use Rattle.hb_cli.specs.Run.{status_of, stop_line, takes_input, write_fault_line}
use Rattle.hb_cli.specs.Serving.{WorldUse, Unused}
use Rattle.hb_cli.specs.Use.{Use, NoFault, Untouched, WritesAll, WritesPart, Prints, Tells}
use Rattle.hb_cli.proofs.Endings.{NoneFalls, stays_still, ends_at, finished}

-- a line that takes memory was told, or that memory is wanting
pub made : {L E : Type 0} (text : L → List ℕ) (line : Result L E) (given stop : Stop) (err : Use) (status k : ℕ) → given ≡ stop
    → IsTrue (takes_memory stop) → k ≡ status_of (Err stop) → IfOk line (λ l. text l ≡ stop_line stop)
    → MatchResult line (λ l. (status ≡ k) × Tells err (text l)) (λ _. (status ≡ 9) × Tells err (stop_line NoMemory))
    → GivesUp given err status
made text (Ok l) given stop err status k same takes own is told = rw same (inl (told.0 ∙ own, subst (λ t. Tells err t) is told.1))
made text (Err e) given stop err status k same takes own is told = rw same (inr (takes, told.0, told.1))

-- what nothing was done in is broken off lawfully
pub none_broken : {A : Type 0} {own : Answering A} (asked : Result Command WordsFault) (r : Run own) → r.left ≡ r.before
    → r.before.script.trace ≡ [] → Unused r.world
    → BreaksOff asked r
none_broken (Ok (checks q)) r left none unused = tt
none_broken (Ok (routes w)) r left none unused = tt
none_broken (Ok (shows s)) r left none unused = tt
none_broken (Ok (replays p)) r left none unused = inl (ap (λ (s : RunState). s.script.trace) left ∙ none)
none_broken (Ok (serves s)) r left none unused = inl unused
none_broken (Ok (makes m)) r left none unused = by_run m.run where
  by_run : (run : Bool) → MatchBool run (DoneLawfully made_run r.left.script.trace) (RunsNothing r)
  by_run true = inl (ap (λ (s : RunState). s.script.trace) left ∙ none)
  by_run false = (left, unused.2)
none_broken (Ok (prints p)) r left none unused = (left, unused.2)
none_broken (Err fault) r left none unused = tt

module _ {A : Type 0} {own : Answering A} (input out err : Use) (w : WorldUse own) (before left : RunState) where
  -- the run of a command
  abbrev pub run_of : Command → Run own
  run_of c = record { asked = Ok c; input = input; out = out; err = err; world = w; before = before; left = left }

  -- what was found leaves as it was what the command leaves so
  stays_by : (c : Command) (result : Result Answer Stop) → LeavesBy c input.bytes before left result
      → HearsBy c w.heard (done_in left) result → NoneFalls input out err → Stays (run_of c)
  stays_by (checks q) result leaves hears later = stays_still (run_of (checks q)) leaves hears later
  stays_by (routes w) result leaves hears later = stays_still (run_of (routes w)) leaves hears later
  stays_by (shows s) result leaves hears later = stays_still (run_of (shows s)) leaves hears later
  stays_by (replays p) result leaves hears later = record {
    idle = λ never none. absurd (never p refl);
    untold = λ takes never. absurd (never p refl);
    later_input = later.0;
    later_out = later.1;
    later_err = later.2;
  }
  stays_by (serves s) result leaves hears later = stays_still (run_of (serves s)) leaves hears later
  stays_by (makes m) result leaves hears later = stays_still (run_of (makes m)) leaves hears later
  stays_by (prints p) result leaves hears later = stays_still (run_of (prints p)) leaves hears later

  replay_idle : (p : Replay) (stop : Stop) → stop ≢ NoMemory → Leaves p input.bytes left (Err stop)
      → HearsBy (replays p) w.heard (done_in left) (Err stop) → DoesNothing (run_of (replays p))
  replay_idle p (Words fault) other leaves hears = (leaves, hears)
  replay_idle p TooLong other leaves hears = (leaves, hears)
  replay_idle p (Refused refusal) other leaves hears = (leaves, hears)
  replay_idle p ReadFault other leaves hears = (leaves, hears)
  replay_idle p NoMemory other leaves hears = absurd (other refl)

  -- where there is no answer, want of memory aside, nothing was done
  does_nothing : (c : Command) (stop : Stop) → before.script.trace ≡ [] → stop ≢ NoMemory → LeavesBy c input.bytes before left (Err stop)
      → HearsBy c w.heard (done_in left) (Err stop) → DoesNothing (run_of c)
  does_nothing (checks q) stop none other leaves hears = (ap (λ (s : RunState). s.script.trace) leaves ∙ none, hears)
  does_nothing (routes w) stop none other leaves hears = (ap (λ (s : RunState). s.script.trace) leaves ∙ none, hears)
  does_nothing (shows w) stop none other leaves hears = (ap (λ (s : RunState). s.script.trace) leaves ∙ none, hears)
  does_nothing (replays p) stop none other leaves hears = replay_idle p stop other leaves hears
  does_nothing (serves s) stop none other leaves hears = (ap (λ (s : RunState). s.script.trace) leaves ∙ none, hears)
  does_nothing (makes m) stop none other leaves hears = (ap (λ (s : RunState). s.script.trace) leaves ∙ none, hears)
  does_nothing (prints p) stop none other leaves hears = (ap (λ (s : RunState). s.script.trace) leaves ∙ none, hears)

  replay_broken : (p : Replay) (stop : Stop) → Leaves p input.bytes left (Err stop) → BreaksOff (Ok (replays p)) (run_of (replays p))
  replay_broken p (Words fault) leaves = inl leaves
  replay_broken p TooLong leaves = inl leaves
  replay_broken p (Refused refusal) leaves = inl leaves
  replay_broken p ReadFault leaves = inl leaves
  replay_broken p NoMemory leaves = leaves

  broken : (c : Command) (stop : Stop) → IsTrue (takes_input (Ok c)) → LeavesBy c input.bytes before left (Err stop)
      → BreaksOff (Ok c) (run_of c)
  broken (checks q) stop takes leaves = tt
  broken (routes w) stop takes leaves = tt
  broken (shows s) stop takes leaves = tt
  broken (replays p) stop takes leaves = replay_broken p stop leaves
  broken (serves s) stop takes leaves = absurd cc
  broken (makes m) stop takes leaves = absurd cc
  broken (prints p) stop takes leaves = absurd cc

  -- no run of the proxy stands behind these
  ends_routed : (w : Route) (a : Answer) → Suits (routes w) a → end_of a ≡ ends.Stopped
  ends_routed w (Judged judged) suits = refl
  ends_routed w (Told text) suits = refl
  ends_routed w (Left l fields) suits = refl
  ends_routed w (Replayed told) suits = absurd suits

  ends_shown : (s : Show) (a : Answer) → Suits (shows s) a → end_of a ≡ ends.Stopped
  ends_shown s (Judged judged) suits = refl
  ends_shown s (Told text) suits = refl
  ends_shown s (Left l fields) suits = refl
  ends_shown s (Replayed told) suits = absurd suits

  -- the answer is one of the command
  gives : (c : Command) (a : Answer) → Suits c a → LooksAt (Ok c) (done_in left) input (Ok (answer_text a))
      → LeavesBy c input.bytes before left (Ok a) → HearsBy c w.heard (done_in left) (Ok a)
      → Gives c (run_of c) (end_of a) (answer_text a)
  gives (checks q) (Judged judged) suits looks leaves hears = (refl, looks)
  gives (checks q) (Told text) suits looks leaves hears = (refl, looks)
  gives (checks q) (Left l fields) suits looks leaves hears = absurd suits
  gives (checks q) (Replayed told) suits looks leaves hears = absurd suits
  gives (routes w) a suits looks leaves hears = (ends_routed w a suits, looks)
  gives (shows s) a suits looks leaves hears = (ends_shown s a suits, looks)
  gives (replays p) (Judged judged) suits looks leaves hears = absurd suits
  gives (replays p) (Told text) suits looks leaves hears = absurd suits
  gives (replays p) (Left l fields) suits looks leaves hears = absurd suits
  gives (replays p) (Replayed told) suits looks leaves hears = (looks, leaves, hears)
  gives (serves s) a suits looks leaves hears = absurd suits
  gives (makes m) a suits looks leaves hears = absurd suits
  gives (prints p) a suits looks leaves hears = absurd suits

  -- memory lacked while it was printed, so it is one of `show`
  is_shown : (c : Command) (a : Answer) → (IsMade a → ⊥) → Suits c a → (s : Show) × (c ≡ shows s)
  is_shown (checks q) (Judged judged) lacks suits = absurd (lacks tt)
  is_shown (checks q) (Told text) lacks suits = absurd (lacks tt)
  is_shown (checks q) (Left l fields) lacks suits = absurd suits
  is_shown (checks q) (Replayed told) lacks suits = absurd suits
  is_shown (routes w) (Judged judged) lacks suits = absurd suits
  is_shown (routes w) (Told text) lacks suits = absurd (lacks tt)
  is_shown (routes w) (Left l fields) lacks suits = absurd suits
  is_shown (routes w) (Replayed told) lacks suits = absurd suits
  is_shown (shows s) a lacks suits = (s, refl)
  is_shown (replays p) (Judged judged) lacks suits = absurd suits
  is_shown (replays p) (Told text) lacks suits = absurd suits
  is_shown (replays p) (Left l fields) lacks suits = absurd suits
  is_shown (replays p) (Replayed told) lacks suits = absurd (lacks tt)
  is_shown (serves s) a lacks suits = absurd suits
  is_shown (makes m) a lacks suits = absurd suits
  is_shown (prints p) a lacks suits = absurd suits

  module _ (c : Command) (takes : IsTrue (takes_input (Ok c))) (later : NoneFalls input out err) where
    -- memory lacked before anything was printed
    lacked : (stop : Stop) (status : ℕ) → status ≡ 9 → NoFault input → Untouched out → Tells err (stop_line NoMemory)
        → LeavesBy c input.bytes before left (Err stop) → HearsBy c w.heard (done_in left) (Err stop) → EndsWith (run_of c) status
    lacked stop status nine well quiet told leaves hears =
        ends_at (run_of c) 9 status nine (stays_by c (Err stop) leaves hears later) (well, inl quiet, told, broken c stop takes leaves)

    -- there is no answer, and that was told
    pub gave_up : (stop : Stop) (status : ℕ) → before.script.trace ≡ [] → ComesTo (Ok c) (done_in left) input (Err stop) → Untouched out
        → LeavesBy c input.bytes before left (Err stop) → HearsBy c w.heard (done_in left) (Err stop) → GivesUp stop err status
        → EndsWith (run_of c) status
    gave_up (Words fault) status none found quiet leaves hears told = let never = found.0 in absurd cc
    gave_up TooLong status none found quiet leaves hears (inl told) =
        ends_at (run_of c) 3 status told.0 (stays_by c (Err TooLong) leaves hears later)
        (TooLong, refl, (refl, takes), found, quiet, told.1, does_nothing c TooLong none (λ is. cc) leaves hears)
    gave_up TooLong status none found quiet leaves hears (inr told) = let never = told.0 in absurd cc
    gave_up (Refused refusal) status none found quiet leaves hears (inl told) =
        ends_at (run_of c) 3 status told.0 (stays_by c (Err (Refused refusal)) leaves hears later)
        (Refused refusal, refl, (refl, takes), found, quiet, told.1, does_nothing c (Refused refusal) none (λ is. cc) leaves hears)
    gave_up (Refused refusal) status none found quiet leaves hears (inr told) =
        lacked (Refused refusal) status told.1 found.4 quiet told.2 leaves hears
    gave_up ReadFault status none found quiet leaves hears (inl told) =
        ends_at (run_of c) 6 status told.0 (stays_by c (Err ReadFault) leaves hears later)
        ((refl, takes), found.1, quiet, told.1, does_nothing c ReadFault none (λ is. cc) leaves hears)
    gave_up ReadFault status none found quiet leaves hears (inr told) = let never = told.0 in absurd cc
    gave_up NoMemory status none found quiet leaves hears (inl told) = lacked NoMemory status told.0 found quiet told.1 leaves hears
    gave_up NoMemory status none found quiet leaves hears (inr told) = let never = told.0 in absurd cc

    module _ (a : Answer) (suits : Suits c a) (looks : LooksAt (Ok c) (done_in left) input (Ok (answer_text a)))
        (leaves : LeavesBy c input.bytes before left (Ok a)) (hears : HearsBy c w.heard (done_in left) (Ok a)) where
      -- it was printed whole
      pub printed_whole : (status : ℕ) → WritesAll out (answer_text a) → EndsRun (end_of a) err status → EndsWith (run_of c) status
      printed_whole status writes told =
          finished (run_of c) (end_of a) (answer_text a) status (c, refl, gives c a suits looks leaves hears) writes told
          (stays_by c (Ok a) leaves hears later)

      -- or up to a put that failed
      pub printed_part : (status : ℕ) → status ≡ 7 → WritesPart out (answer_text a) → Tells err write_fault_line
          → EndsWith (run_of c) status
      printed_part status seven writes told =
          ends_at (run_of c) 7 status seven (stays_by c (Ok a) leaves hears later)
          (end_of a, answer_text a, (c, refl, gives c a suits looks leaves hears), writes, told)

      -- or as far as memory went
      pub printed_short : (p : Printed) (status : ℕ) → p ≡ Short → (IsMade a → p ≢ Short) → Prints out (answer_text a) p → status ≡ 9
          → Tells err (stop_line NoMemory) → EndsWith (run_of c) status
      printed_short p status short made written nine told =
          let shown = is_shown c a (λ is. made is short) suits in
          ends_at (run_of c) 9 status nine (stays_by c (Ok a) leaves hears later) (
            looks.4,
            inr (answer_text a, shown.0, ap Ok shown.1, looks, subst (Prints out (answer_text a)) short written),
            told,
            subst (λ (d : Command). BreaksOff (Ok d) (run_of c)) (sym shown.1) tt,
          )

-- words that aren't accepted: that was told, and nothing was done
pub words_refused : {A : Type 0} {own : Answering A} (r : Run own) (fault : WordsFault) (status : ℕ) → r.asked ≡ Err fault
    → Untouched r.input → Untouched r.out
    → r.left ≡ r.before → r.before.script.trace ≡ [] → Unused r.world → NoneFalls r.input r.out r.err → GivesUp (Words fault) r.err status
    → EndsWith r status
words_refused r fault status refused unread quiet left none unused later (inl told) =
    ends_at r 2 status told.0 (stays_still r left unused.2 later)
    (fault, refused, unread, quiet, told.1, (ap (λ (s : RunState). s.script.trace) left ∙ none, unused.2))
words_refused r fault status refused unread quiet left none unused later (inr told) =
    ends_at r 9 status told.1 (stays_still r left unused.2 later)
    (unread.1, inl quiet, told.2, none_broken r.asked r left none unused)

-- memory lacked for the words
pub words_unread : {A : Type 0} {own : Answering A} (r : Run own) (status : ℕ) → NoFault r.input → Untouched r.out → r.left ≡ r.before
    → r.before.script.trace ≡ []
    → Unused r.world → NoneFalls r.input r.out r.err → GivesUp NoMemory r.err status → EndsWith r status
words_unread r status well quiet left none unused later (inl told) =
    ends_at r 9 status told.0 (stays_still r left unused.2 later) (well, inl quiet, told.1, none_broken r.asked r left none unused)
words_unread r status well quiet left none unused later (inr told) = let never = told.0 in absurd cc
