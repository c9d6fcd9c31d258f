-- How a run ends: what each status says.
use Rattle.std.specs.Prelude.{⊤, ◌≡◌, ◌⊎◌, ℕ, ◌≤◌, false, IsTrue, List, [], IsOk, Result, Ok, Err}
use Rattle.std.specs.Bool.{MatchBool}
use Rattle.hb_audit.specs.Tells.{Answering}
use Rattle.hb_report.specs.Total.{total_line}
use Rattle.hb_turns.specs.declared.served.Served.{Served}
use Rattle.hb_words.specs.declared.asks.Make.{Make}
use Rattle.hb_words.specs.declared.asks.Show.{Show}
use Rattle.hb_words.specs.declared.fault.WordsFault.{WordsFault}
use Rattle.hb_words.specs.Command.{Command, Replay, Serve, checks, routes, shows, replays, serves, makes, prints}
use Rattle.hb_words.specs.Page.{page_text}
use Rattle.hb_words.specs.declared.page.Page.{Page}
use Rattle.hb_world.specs.Seen.{Seen}
use Rattle.hb_cli.specs.Replaying.{RunState, done_in, DoneLawfully}
use Rattle.hb_cli.specs.declared.ended.ReplayEnd.{ReplayEnd}
use Rattle.hb_cli.specs.declared.ended.ReplayEnd.TheVariants as ends
use Rattle.hb_cli.specs.declared.stop.Stop.{Stop}
use Rattle.hb_cli.specs.declared.stop.Stop.TheVariants.{Words, ReadFault, NoMemory}
use Rattle.hb_cli.specs.Hearing.{HearsAll, HearsNone}
use Rattle.hb_cli.specs.Looking.{LooksAt}
use Rattle.hb_cli.specs.Making.{made_run, made_text, made_total, RunsMade}
use Rattle.hb_cli.specs.Leaving.{RunsTo}
use Rattle.hb_cli.specs.Run.{is_status, status_of, stop_line, takes_input, write_fault_line, world_fault_line, turns_spent_line}
use Rattle.hb_cli.specs.Serving.{WorldUse, RanTo, Unused, Worked}
use Rattle.hb_cli.specs.Use.{Use, NoFault, OneFault, Untouched, WritesAll, WritesPart, WritesSome, Tells}

-- a run: what its words ask; what it does with the input, the output, the error text, the world of sockets and the audits; and the world of
-- the script with the notes that are kept, before and after it
pub record Run {A : Type 0} (own : Answering A) : Type 0 where
  pub asked : Result Command WordsFault
  pub input : Use
  pub out : Use
  pub err : Use
  pub world : WorldUse own
  pub before : RunState
  pub left : RunState

-- the words ask for a command that is answered by its input: each but `serve`, `make` and a page is
abbrev pub IsByInput : {A : Type 0} {own : Answering A} → Run own → Type 0
IsByInput r = IsOk r.asked × IsTrue (takes_input r.asked)

-- that command and the input come to this
abbrev pub HasOutcome : {A : Type 0} {own : Answering A} → Run own → Result (List ℕ) Stop → Type 0
HasOutcome r o = LooksAt r.asked (done_in r.left) r.input o

-- THE ANSWER OF EACH COMMAND, behind a run of the proxy that ended so; where there is no run, as if by a stop

abbrev pub ReplayGives : {A : Type 0} {own : Answering A} → Replay → Run own → ReplayEnd → List ℕ → Type 0
ReplayGives p r end text = HasOutcome r (Ok text) × RunsTo p r.input.bytes r.left end × HearsAll p r.world.heard (done_in r.left)

abbrev pub ServeGives : {A : Type 0} {own : Answering A} → Serve → Run own → ReplayEnd → List ℕ → Type 0
ServeGives s r end text = Untouched r.input × ((told : Served) × RanTo s r.world told end × (text ≡ total_line told.totals))

-- the script's world and the notes are left as they were, and no audit is told anything
abbrev pub RunsNothing : {A : Type 0} {own : Answering A} → Run own → Type 0
RunsNothing r = (r.left ≡ r.before) × HearsNone r.world.heard

abbrev pub MakeGives : {A : Type 0} {own : Answering A} → Make → Run own → ReplayEnd → List ℕ → Type 0
MakeGives m r end text = Untouched r.input × MatchBool m.run
    (RunsMade m r.world.heard r.left end × (text ≡ made_total r.left))
    ((end ≡ ends.Stopped) × RunsNothing r × (text ≡ made_text m))

abbrev pub PageGives : {A : Type 0} {own : Answering A} → Page → Run own → ReplayEnd → List ℕ → Type 0
PageGives p r end text = Untouched r.input × (end ≡ ends.Stopped) × RunsNothing r × (text ≡ page_text p)

abbrev pub Gives : {A : Type 0} {own : Answering A} → Command → Run own → ReplayEnd → List ℕ → Type 0
Gives (checks q) r end text = (end ≡ ends.Stopped) × HasOutcome r (Ok text)
Gives (routes w) r end text = (end ≡ ends.Stopped) × HasOutcome r (Ok text)
Gives (shows s) r end text = (end ≡ ends.Stopped) × HasOutcome r (Ok text)
Gives (replays p) r end text = ReplayGives p r end text
Gives (serves s) r end text = ServeGives s r end text
Gives (makes m) r end text = MakeGives m r end text
Gives (prints p) r end text = PageGives p r end text

abbrev pub Answers : {A : Type 0} {own : Answering A} → Run own → ReplayEnd → List ℕ → Type 0
Answers r end text = (c : Command) × (r.asked ≡ Ok c) × Gives c r end text

-- EACH STATUS

-- the answer is printed whole, and this is told of how a run of the proxy ended
abbrev pub Finishes : {A : Type 0} {own : Answering A} → Run own → ReplayEnd → List ℕ → Type 0
Finishes r end line = (text : List ℕ) × Answers r end text × WritesAll r.out text × Tells r.err line

-- no call was made on the script's world, and no note was told to an audit
abbrev pub DoesNothing : {A : Type 0} {own : Answering A} → Run own → Type 0
DoesNothing r = (r.left.script.trace ≡ []) × HearsNone r.world.heard

-- 0: what was asked is done
abbrev pub IsDone : {A : Type 0} {own : Answering A} → Run own → Type 0
IsDone r = Finishes r ends.Stopped []

-- 2: the words aren't accepted; nothing is read, printed or done
abbrev pub WordsRefused : {A : Type 0} {own : Answering A} → Run own → Type 0
WordsRefused r =
    (fault : WordsFault) × (r.asked ≡ Err fault) × Untouched r.input × Untouched r.out × Tells r.err (stop_line (Words fault))
    × DoesNothing r

-- 3: the input is too long, or one of its messages or lines is refused; nothing is printed or done
abbrev pub InputRefused : {A : Type 0} {own : Answering A} → Run own → Type 0
InputRefused r =
    (stop : Stop) × (status_of (Err stop) ≡ 3) × IsByInput r × HasOutcome r (Err stop) × Untouched r.out × Tells r.err (stop_line stop)
    × DoesNothing r

-- 4: a listen or a wait failed, and ended the run of the proxy
abbrev pub WorldFailed : {A : Type 0} {own : Answering A} → Run own → Type 0
WorldFailed r = Finishes r ends.WorldFault world_fault_line

-- 5: its turns were spent
abbrev pub TurnsSpent : {A : Type 0} {own : Answering A} → Run own → Type 0
TurnsSpent r = Finishes r ends.TurnsSpent turns_spent_line

-- 6: a take failed; nothing is printed or done
abbrev pub Unread : {A : Type 0} {own : Answering A} → Run own → Type 0
Unread r = IsByInput r × OneFault r.input × Untouched r.out × Tells r.err (stop_line ReadFault) × DoesNothing r

-- 7: a put failed, and the answer is printed in part
abbrev pub Unwritten : {A : Type 0} {own : Answering A} → Run own → Type 0
Unwritten r =
    (end : ReplayEnd) × (text : List ℕ) × Answers r end text × WritesPart r.out text × Tells r.err write_fault_line

-- the answer of `show` is printed in part
abbrev pub ShownInPart : {A : Type 0} {own : Answering A} → Run own → Type 0
ShownInPart r = (text : List ℕ) × (s : Show) × (r.asked ≡ Ok (shows s)) × HasOutcome r (Ok text) × WritesSome r.out text

-- a run of the proxy that memory broke off is lawful
abbrev pub BreaksOff : {A : Type 0} {own : Answering A} → Result Command WordsFault → Run own → Type 0
BreaksOff (Ok (replays p)) r = DoneLawfully p r.left.script.trace
BreaksOff (Ok (serves s)) r = Unused r.world ⊎ ((told : Served) × Worked s r.world told)
BreaksOff (Ok (makes m)) r = MatchBool m.run (DoneLawfully made_run r.left.script.trace) (RunsNothing r)
BreaksOff (Ok (prints p)) r = RunsNothing r
BreaksOff _ r = ⊤

-- 9: memory was wanting, before the answer or while it was shown
abbrev pub Wanting : {A : Type 0} {own : Answering A} → Run own → Type 0
Wanting r = NoFault r.input × (Untouched r.out ⊎ ShownInPart r) × Tells r.err (stop_line NoMemory) × BreaksOff r.asked r

-- AND AT ALL OF THEM

-- What a run leaves as it was
pub record Stays {A : Type 0} {own : Answering A} (r : Run own) : Type 0 where
  -- but for `replay` and `make` no command changes the script's world or the notes
  pub idle : ((p : Replay) → r.asked ≡ Ok (replays p) → ⊥) → ((m : Make) → r.asked ≡ Ok (makes m) → ⊥)
      → (r.left.script ≡ r.before.script) × (r.left.keep ≡ r.before.keep)
  -- but for these two and `serve` none tells an audit anything
  pub untold : IsTrue (takes_input r.asked) → ((p : Replay) → r.asked ≡ Ok (replays p) → ⊥) → HearsNone r.world.heard
  -- no count of faults falls
  pub later_input : r.input.faults ≤ r.input.faults_after
  pub later_out : r.out.faults ≤ r.out.faults_after
  pub later_err : r.err.faults ≤ r.err.faults_after

-- The run ends with this status: what it says, by the status, and at all.
pub record EndsWith {A : Type 0} {own : Answering A} (r : Run own) (status : ℕ) : Type 0 where
  pub done : status ≡ 0 → IsDone r
  pub words_refused : status ≡ 2 → WordsRefused r
  pub input_refused : status ≡ 3 → InputRefused r
  pub world_failed : status ≡ 4 → WorldFailed r
  pub turns_spent : status ≡ 5 → TurnsSpent r
  pub unread : status ≡ 6 → Unread r
  pub unwritten : status ≡ 7 → Unwritten r
  pub wanting : status ≡ 9 → Wanting r
  pub nothing_else : IsTrue (is_status status)
  pub stays : Stays r

-- of each run, and the status that it ends with
abbrev pub EachEnding : {A : Type 0} (own : Answering A) → (Run own → ℕ → Type 0) → Type 0
EachEnding own P = (r : Run own) (status : ℕ) → EndsWith r status → P r status

-- What a run leaves as it was, whole: `serve`, `make` and a page read no input; but for `serve` no command makes a call on the world of
-- sockets, and none changes the script that it follows
pub record Others {S W : Type 0} (asked : Result Command WordsFault) (seen : W → Seen) (input input_after : S) (world world_after : W)
    : Type 0 where
  pub unread : takes_input asked ≡ false → input_after ≡ input
  pub unused : ((s : Serve) → asked ≡ Ok (serves s) → ⊥) → world_after ≡ world
  pub follows : (seen world_after).script ≡ (seen world).script
