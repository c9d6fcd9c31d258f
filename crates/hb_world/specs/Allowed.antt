-- A trace that a script allows: the answer in each entry is the one that the script gives behind the entries before it.
use Rattle.std.specs.Prelude.{◌≡◌, ◌⊎◌, ℕ, true, false, if◌then◌else◌, List, [], ◌∷◌, ◌++◌, length, take}
use Rattle.hb_world.specs.declared.entry.Entry.{Entry}
use Rattle.hb_world.specs.declared.entry.Entry.TheVariants as e
use Rattle.hb_world.specs.declared.entry.Way.{Way}
use Rattle.hb_world.specs.declared.entry.Way.TheVariants as way
use Rattle.hb_world.specs.declared.entry.ReadyItem.{ReadyItem}
use Rattle.hb_world.specs.declared.entry.Woken.{Woken}
use Rattle.hb_world.specs.declared.entry.Woken.TheVariants as woken
use Rattle.hb_world.specs.declared.line.Line.{Line}
use Rattle.hb_world.specs.declared.world.Listened.TheVariants as listened
use Rattle.hb_world.specs.declared.world.Born.TheVariants as born
use Rattle.hb_world.specs.declared.world.Finished.TheVariants as finished
use Rattle.hb_world.specs.declared.world.Read.TheVariants as reads
use Rattle.hb_world.specs.declared.world.Wrote.TheVariants as wrote
use Rattle.hb_world.specs.declared.world.Looked.TheVariants as looked
use Rattle.hb_world.specs.declared.world.Waited.{Waited}
use Rattle.hb_world.specs.declared.world.Waited.TheVariants as waited
use Rattle.hb_world.specs.LinkState.{front_of}
use Rattle.hb_world.specs.Script.{standing}
use Rattle.hb_world.specs.ScriptAnswers.{listen_answer, accept_answer, dial_answer, finish_answer, read_answer, write_answer, look_answer, wait_answer, told_by_wait}
use Rattle.hb_world.specs.Trace.{AtEach, lives, was_shut}

-- a call that moves nothing, behind these entries
abbrev pub MovesNothing : List Line → List Entry → Way → Type 0
MovesNothing lines before (way.Listen door at listening) =
    listen_answer lines before ≡ (if listening then listened.Listening else listened.Failed)
MovesNothing lines before (way.Accept door) =
    (accept_answer lines before door ≡ born.Balked) ⊎ (accept_answer lines before door ≡ born.Failed)
MovesNothing lines before (way.Finish link) = finish_answer lines before link ≡ finished.Balked
MovesNothing lines before (way.Read link) = (room : ℕ) × (read_answer lines before link room ≡ reads.Balked)
MovesNothing lines before (way.Write link) = (offered : ℕ) × (write_answer lines before link offered ≡ wrote.Balked)
MovesNothing lines before (way.Look link) = look_answer lines before link ≡ looked.Fine

-- a finish, read, write or look failed, behind these entries
abbrev pub Fails : List Line → List Entry → ℕ → Type 0
Fails lines before link =
    (finish_answer lines before link ≡ finished.Failed)
    ⊎ (((room : ℕ) × (read_answer lines before link room ≡ reads.Failed))
    ⊎ (((offered : ℕ) × (write_answer lines before link offered ≡ wrote.Failed))
    ⊎ (look_answer lines before link ≡ looked.Failed)))

-- a wait answers so, and tells these items
abbrev pub Answers : List Line → List Entry → List ReadyItem → Waited → Type 0
Answers lines before ready answer = (wait_answer lines before ≡ answer) × (ready ≡ told_by_wait lines before)

-- a wait, or a glance, which finds nothing
abbrev pub Finds : List Line → List Entry → List ReadyItem → Woken → Type 0
Finds lines before ready woken.Woke = Answers lines before ready waited.Woke
Finds lines before ready woken.Tick = Answers lines before ready waited.Tick
Finds lines before ready woken.Stop = Answers lines before ready waited.Stop
Finds lines before ready woken.Failed = Answers lines before ready waited.Failed
Finds lines before ready woken.Glanced = ready ≡ []
Finds lines before ready woken.GlanceFailed = ⊥

-- the entry has the answer that the script gives behind these entries
abbrev pub IsAnswer : List Line → List Entry → Entry → Type 0
IsAnswer lines before (e.Accepted link door) = accept_answer lines before door ≡ born.New link
IsAnswer lines before (e.Dialled link to why) = dial_answer lines before ≡ born.New link
IsAnswer lines before (e.DialFailed to why) = dial_answer lines before ≡ born.Failed
IsAnswer lines before (e.Opened link) = finish_answer lines before link ≡ finished.Opened
IsAnswer lines before (e.Came link bytes) = (room : ℕ) × (read_answer lines before link room ≡ reads.Got (length bytes))
    × (bytes ≡ take (length bytes) (front_of ((standing lines before).links link).unread))
IsAnswer lines before (e.Ended link) = (room : ℕ) × (read_answer lines before link room ≡ reads.End)
IsAnswer lines before (e.Broke link) = Fails lines before link
IsAnswer lines before (e.Went link bytes) = (offered : ℕ) × (write_answer lines before link offered ≡ wrote.Took (length bytes))
IsAnswer lines before (e.Balked w) = MovesNothing lines before w
IsAnswer lines before (e.Shut link) = (lives link before ≡ true) × (was_shut link before ≡ false)
IsAnswer lines before (e.Closed link cause) = lives link before ≡ true
IsAnswer lines before e.Tick =
    (earlier : List Entry) × (ready : List ReadyItem) × (before ≡ earlier ++ e.Wait ready woken.Tick ∷ [])
IsAnswer lines before (e.Wait ready how) = Finds lines before ready how

-- each entry has its answer
abbrev pub Allowed : List Line → List Entry → Type 0
Allowed lines trace = AtEach (IsAnswer lines) trace

-- a script allows the trace in which nothing happened
abbrev pub AllowsNothing : Type 0
AllowsNothing = (lines : List Line) → Allowed lines []
