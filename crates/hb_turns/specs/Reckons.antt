-- What calls add to a trace, and what is counted of a run.
use Rattle.std.specs.Prelude.{⊤, ◌≡◌, ◌⊎◌, ◌≤◌, ◌<◌, ℕ, ◌+◌, ◌-◌, ◌*◌, ◌==◌, not, Bool, true, false, List, [], ◌∷◌, ◌++◌, Option, Some, None, map, Result, Ok, Err, OnOk}
use Rattle.std.specs.List.{All, list_all}
use Rattle.hb_base.specs.declared.cause.Cause.{Cause}
use Rattle.hb_base.specs.declared.note.Note.{Note}
use Rattle.hb_world.specs.Calls.{with_entries}
use Rattle.hb_world.specs.declared.entry.Entry.{Entry}
use Rattle.hb_world.specs.declared.entry.Entry.TheVariants as e
use Rattle.hb_world.specs.declared.entry.Way.TheVariants as way
use Rattle.hb_turns.specs.Ends.{ClosesFor, RunsOn, EndsAs, ticks, waits, moves}
use Rattle.hb_turns.specs.Listens.{DoorAt, given, listen_at, Listened, BeginsWith}
use Rattle.hb_turns.specs.Looks.{gains}
use Rattle.hb_turns.specs.Shown.{Shown}
use Rattle.hb_turns.specs.Stands.{Lacks, Stands, Keeps, IsIdle}
use Rattle.hb_turns.specs.Woken.{IsQuiet}
use Rattle.hb_turns.specs.declared.run.Records.{Records}
use Rattle.hb_turns.specs.declared.run.Run.{Run}
use Rattle.hb_turns.specs.declared.words.ServeWords.{ServeWords}
use Rattle.hb_turns.specs.declared.served.ServeEnd.{ServeEnd}
use Rattle.hb_turns.specs.declared.served.ServeEnd.TheVariants as ends

-- neither a listen nor a wait nor a tick
abbrev pub is_plain : Entry → Bool
is_plain (e.Wait ready how) = false
is_plain e.Tick = false
is_plain (e.Balked (way.Listen door at listening)) = false
is_plain _ = true

-- Entries were added, where the trace is told: no listen, no wait and no tick; where something moved, an entry of it among them;
-- and so many of them at most are a read that gave bytes or an accept that gave a link
pub record Adds (moved : Bool) (most : ℕ) (before behind : Option (List Entry)) : Type 0 where
  pub more : List Entry
  pub grows : behind ≡ with_entries more before
  pub plain : list_all is_plain more ≡ true
  pub moves_some : moved ≡ true → 0 < moves more
  pub few : gains more ≤ most

-- links were closed for this cause, where the trace is told, and nothing else was done
pub record Closes (cause : Cause) (before behind : Option (List Entry)) : Type 0 where
  pub more : List Entry
  pub grows : behind ≡ with_entries more before
  pub closes : All (ClosesFor cause) more

-- whether anything moved is told, but where memory lacked
abbrev pub moved_by : {E : Type 0} → Result Bool E → Bool
moved_by (Ok moved) = moved
moved_by (Err why) = false

-- how many tries moved something; where memory lacked, so many at most
abbrev pub made_by : {E : Type 0} → ℕ → Result ℕ E → ℕ
made_by most (Ok made) = made
made_by most (Err why) = most

-- a try did, but where memory lacked
abbrev pub some_by : {E : Type 0} → Result ℕ E → Bool
some_by (Ok made) = not (made == 0)
some_by (Err why) = false

-- What tries leave that begin where nothing is due: what stood for the trace stands for it again, nothing is due again, and entries were
-- added
pub record Tried {A E N : Type 0} (stands : List Note → N → List Entry → Type 0) (shown : N → Shown) (moved : Bool) (most : ℕ)
    (result : Result A E) (old : Run N) (before : Option (List Entry)) (new : Run N) (behind : Option (List Entry)) : Type 0 where
  pub keeps : IsIdle (shown old.node) → Keeps stands shown result old before new behind
  pub idle : OnOk result (IsIdle (shown old.node) → IsIdle (shown new.node))
  pub adds : Adds moved most before behind

-- one tick less, of which so many are to come
abbrev pub one_less : Option ℕ → Option ℕ
one_less None = None
one_less (Some left) = Some (left - 1)

abbrev pub is_spent : Option ℕ → Bool
is_spent None = false
is_spent (Some left) = left == 0

-- so many of the stated ticks are to come
abbrev pub AreLeft : Option ℕ → Option ℕ → List Entry → Type 0
AreLeft None None trace = ⊤
AreLeft (Some stated) (Some left) trace = left ≡ stated - ticks trace
AreLeft _ _ trace = ⊥

-- a run of which nothing but these listens happened
pub record Begins {N : Type 0} (stands : List Note → N → List Entry → Type 0) (shown : N → Shown) (run : Run N) (made : List DoorAt)
    (trace : List Entry) : Type 0 where
  pub stands_for : Stands stands shown run trace
  pub listens : trace ≡ map (listen_at true) made

-- of the listens at these doors, in order, the first that failed is the last
pub record FailsAt (doors : List DoorAt) (trace : List Entry) : Type 0 where
  pub made : List DoorAt
  pub at : DoorAt
  pub left : List DoorAt
  pub doors_are : doors ≡ made ++ at ∷ left
  pub trace_is : trace ≡ map (listen_at true) made ++ listen_at false at ∷ []

-- of the listens at these doors, in order, the first ones were made
pub record StopsAt (doors : List DoorAt) (trace : List Entry) : Type 0 where
  pub made : List DoorAt
  pub left : List DoorAt
  pub doors_are : doors ≡ made ++ left
  pub trace_is : trace ≡ map (listen_at true) made

-- each of the doors listens; or one failed, which is the world's fault; or memory lacked
abbrev pub Begun : {E N : Type 0} → (List Note → N → List Entry → Type 0) → (N → Shown) → Result (Option ServeEnd) E → Run N → List DoorAt
    → List Entry → Type 0
Begun stands shown (Ok None) run doors trace = Begins stands shown run doors trace
Begun stands shown (Ok (Some end)) run doors trace = (end ≡ ends.WorldFault) × Stands stands shown run trace × FailsAt doors trace
Begun stands shown (Err why) run doors trace = Lacks stands shown run.records trace × StopsAt doors trace

-- Each door that is given listens, no entry ended the run, so many of the stated ticks are to come, it has entries for n turns, and
-- w waits at most. A glance is none of these: it pays for no turn
pub record Reckons (words : ServeWords) (left : Option ℕ) (n w : ℕ) (trace : List Entry) : Type 0 where
  pub listened : Listened (given words.doors) trace
  pub runs_on : RunsOn words.ticks trace
  pub to_come : AreLeft words.ticks left trace
  pub turns : n ≤ moves trace + 2 * waits trace
  pub few_waits : waits trace ≤ w

-- Where the turns are spent, each of them is a wait, or the round in front of one, or something moved in it, but the last
abbrev pub SpendsTurns : ℕ → ServeEnd → List Entry → Type 0
SpendsTurns turns ends.TurnsSpent trace = turns ≤ moves trace + 2 * waits trace + 1
SpendsTurns turns _ trace = ⊤

-- of t turns each has its entries, of which there are enough for n, or all but the last, behind which nothing is to be tried
abbrev pub Paid : ℕ → ℕ → Records → Type 0
Paid t n r = (t ≤ n) ⊎ ((t ≤ n + 1) × IsQuiet r)

-- the run is to end so
pub record Finishes (words : ServeWords) (end : ServeEnd) (trace : List Entry) : Type 0 where
  pub begins : BeginsWith (given words.doors) end trace
  pub ends_as : EndsAs words.ticks end trace
  pub few_waits : waits trace ≤ words.turns
  pub spends : SpendsTurns words.turns end trace

-- how a turn left the run: it goes on, or it is to end
abbrev pub TurnedTo : Option ServeEnd → ServeWords → Option ℕ → ℕ → ℕ → List Entry → Type 0
TurnedTo None words left n w trace = Reckons words left n w trace
TurnedTo (Some end) words left n w trace = w ≤ words.turns → Finishes words end trace

abbrev pub Turned : {E : Type 0} → Result (Option ServeEnd) E → ServeWords → Option ℕ → ℕ → ℕ → List Entry → Type 0
Turned (Ok end) words left n w trace = TurnedTo end words left n w trace
Turned (Err why) words left n w trace = TurnedTo (Some ends.NoMemory) words left n w trace

-- a trace whose last entry is a tick: so the run was before it
pub record IsBehindTick (words : ServeWords) (left : Option ℕ) (n w : ℕ) (trace : List Entry) : Type 0 where
  pub before : List Entry
  pub trace_is : trace ≡ before ++ e.Tick ∷ []
  pub reckons : Reckons words left n w before
