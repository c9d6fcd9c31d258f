-- Ends of a run, and of the commands serve and make, that aren't what they do, and some that are.
use Rattle.std.specs.Prelude.{◌≡◌, ◌≢◌, ℕ, true, false, [], ◌∷◌, List, Option, Ok, Err, Some}
use Rattle.hb_audit.specs.Tells.{Answering}
use Rattle.hb_base.specs.declared.note.Note.{Note}
use Rattle.hb_base.specs.declared.note.Note.TheVariants.{Verdict}
use Rattle.hb_base.specs.declared.peer.Peer.{Peer}
use Rattle.hb_base.specs.declared.target.Target.{Target}
use Rattle.hb_serve.specs.declared.words.ServeWords.{ServeWords}
use Rattle.hb_turns.specs.declared.served.Served.{Served}
use Rattle.hb_world.specs.declared.entry.Entry.{Entry}
use Rattle.hb_cli.specs.declared.ended.ReplayEnd.{ReplayEnd}
use Rattle.hb_cli.specs.Replaying.{RunState, RunsAs, done_with}
use Rattle.hb_serve.specs.Served.{Heard, heard_of}
use Rattle.hb_words.specs.Command.{Question, Serve, checks}
use Rattle.hb_words.specs.Fault.{fault_line}
use Rattle.hb_words.specs.Page.{page_text}
use Rattle.hb_words.specs.declared.asks.Make.{Make}
use Rattle.hb_words.specs.declared.fault.WordsFault.TheVariants.{NoCommand}
use Rattle.hb_words.specs.declared.page.Page.{Page}
use Rattle.hb_words.specs.declared.page.Page.TheVariants.{Commands, Version}
use Rattle.hb_cli.specs.Ended.{ended_as, replay_end}
use Rattle.hb_cli.specs.Ending.{Run, EndsWith}
use Rattle.hb_cli.specs.Hearing.{HearsNone}
use Rattle.hb_cli.specs.Making.{made_text, MakesAt}
use Rattle.hb_cli.specs.Paging.{PagesAt}
use Rattle.hb_cli.specs.Run.{stop_line}
use Rattle.hb_cli.specs.Serving.{WorldUse, world_use, Unused, ServesAt}
use Rattle.hb_cli.specs.Use.{Use, use_of, Untouched, Tells}
use Rattle.hb_cli.specs.declared.stop.Stop.TheVariants.{NoMemory}

-- RUN

-- it ends with a status that isn't there
abbrev pub NoOtherStatus : {A : Type 0} → Answering A → Type 0
NoOtherStatus own = (r : Run own) → EndsWith r 1 → ⊥

-- `check` is done, and printed nothing
abbrev pub DonePrintsNothing : {A : Type 0} → Answering A → Type 0
DonePrintsNothing own = (r : Run own) (q : Question) → r.asked ≡ Ok (checks q) → r.out.bytes ≡ Some [] → r.out.bytes_after ≡ Some []
    → EndsWith r 0 → ⊥

-- the input is refused, and something was printed
abbrev pub RefusedPrints : {A : Type 0} → Answering A → Type 0
RefusedPrints own = (r : Run own) → r.out.bytes ≡ Some [] → r.out.bytes_after ≡ Some (1 ∷ []) → EndsWith r 3 → ⊥

-- a read failed, and isn't counted
abbrev pub UnreadUncounted : {A : Type 0} → Answering A → Type 0
UnreadUncounted own = (r : Run own) → r.input.faults ≡ 0 → r.input.faults_after ≡ 0 → EndsWith r 6 → ⊥

-- without words nothing of an input is read and nothing is printed; and that is told
abbrev pub without_words : {A : Type 0} (own : Answering A) → RunState → Run own
without_words own state = record {
  asked = Err NoCommand;
  input = use_of (Some (1 ∷ [])) (Some (1 ∷ [])) 0 0;
  out = use_of (Some []) (Some []) 0 0;
  err = use_of (Some []) (Some (fault_line NoCommand)) 0 0;
  world = world_use (Some []) (Some []) 0 0 (heard_of own [] []);
  before = state;
  left = state;
}

abbrev pub NoWordsAreRefused : {A : Type 0} → Answering A → Type 0
NoWordsAreRefused own = (state : RunState) → state.script.trace ≡ [] → EndsWith (without_words own state) 2

-- SERVE

-- it ends with no such status
abbrev pub NeverEndsWith : {A : Type 0} → Answering A → ℕ → Type 0
NeverEndsWith own status = (s : Serve) (w : WorldUse own) (out err : Use) → ServesAt s w out err status → ⊥

-- it ended by a stop, and nothing was printed
abbrev pub PrintsNothing : {A : Type 0} → Answering A → Type 0
PrintsNothing own = (s : Serve) (w : WorldUse own) (out err : Use) → out.bytes ≡ Some [] → out.bytes_after ≡ Some []
    → ServesAt s w out err 0 → ⊥

-- it is told to have ended by a stop, and a listen or a wait failed; or by that, and none failed
abbrev pub HidesFault : {A : Type 0} → Answering A → Type 0
HidesFault own = (s : Serve) (w : WorldUse own) (out err : Use) → w.faults ≡ 0 → w.faults_after ≡ 1 → ServesAt s w out err 0 → ⊥

abbrev pub InventsFault : {A : Type 0} → Answering A → Type 0
InventsFault own = (s : Serve) (w : WorldUse own) (out err : Use) → w.faults ≡ 0 → w.faults_after ≡ 0 → ServesAt s w out err 4 → ⊥

-- memory lacked, and something was printed
abbrev pub PrintsWanting : {A : Type 0} → Answering A → Type 0
PrintsWanting own = (s : Serve) (w : WorldUse own) (out err : Use) → out.bytes ≡ Some [] → out.bytes_after ≡ Some (1 ∷ [])
    → ServesAt s w out err 9 → ⊥

-- memory lacked before any call, and that is told
abbrev pub MayLack : {A : Type 0} → Answering A → Type 0
MayLack own = (s : Serve) (w : WorldUse own) (out err : Use) → Unused w → Untouched out → Tells err (stop_line NoMemory)
    → ServesAt s w out err 9

-- memory lacked for a request, and the run is told to have ended
abbrev pub EndsLacking : Type 0
EndsLacking = (told : Served) (end : ReplayEnd) → told.totals.lacked ≡ true → ended_as told ≡ Some end → ⊥

-- its one note answers a request 500, and memory never lacked
abbrev pub RunsLacking : Type 0
RunsLacking = (words : ServeWords) (told : Served) (keep : Option (List Note)) (end : ReplayEnd) (trace : List Entry)
    (link stream : ℕ) (peer : Peer) (target : Option Target)
    → RunsAs words told keep end (done_with trace (Verdict link stream 500 peer target ∷ [])) → ⊥

-- memory never lacked, and it ended as it is told
abbrev pub EndsAsTold : Type 0
EndsAsTold = (told : Served) → told.wanting ≡ false → told.totals.lacked ≡ false → told.unkept ≡ false
    → ended_as told ≡ replay_end told.end

-- MAKE

-- it ends with no such status: it reads no input, and its words were accepted; without a run no turns are spent and no world fails
abbrev pub MakeNeverEndsWith : {A : Type 0} → Answering A → ℕ → Type 0
MakeNeverEndsWith own status =
    (m : Make) (h : Heard own) (before left : RunState) (out err : Use) → MakesAt m h before left out err status → ⊥

abbrev pub TextNeverEndsWith : {A : Type 0} → Answering A → ℕ → Type 0
TextNeverEndsWith own status =
    (m : Make) (h : Heard own) (before left : RunState) (out err : Use) → m.run ≡ false → MakesAt m h before left out err status → ⊥

-- a script's text is asked for, and nothing is printed; or its first octet isn't that of a line; or its lines are run
abbrev pub MakesNothing : {A : Type 0} → Answering A → Type 0
MakesNothing own = (m : Make) (h : Heard own) (before left : RunState) (out err : Use) → m.run ≡ false
    → out.bytes ≡ Some [] → out.bytes_after ≡ Some [] → MakesAt m h before left out err 0 → ⊥

abbrev pub MakesAnother : {A : Type 0} → Answering A → Type 0
MakesAnother own = (m : Make) (h : Heard own) (before left : RunState) (out err : Use) (text : List ℕ) → m.run ≡ false
    → out.bytes ≡ Some [] → out.bytes_after ≡ Some (91 ∷ text) → MakesAt m h before left out err 0 → ⊥

abbrev pub RunsUnasked : {A : Type 0} → Answering A → Type 0
RunsUnasked own = (m : Make) (h : Heard own) (before left : RunState) (out err : Use) (status : ℕ) → m.run ≡ false
    → before.script.lines ≡ [] → left.script.lines ≢ [] → MakesAt m h before left out err status → ⊥

-- a run is asked for, and none is made; or nothing of it is printed
abbrev pub RunsNothing : {A : Type 0} → Answering A → Type 0
RunsNothing own = (m : Make) (h : Heard own) (before left : RunState) (out err : Use) → m.run ≡ true → left.script.lines ≡ []
    → MakesAt m h before left out err 0 → ⊥

abbrev pub RunsUntold : {A : Type 0} → Answering A → Type 0
RunsUntold own = (m : Make) (h : Heard own) (before left : RunState) (out err : Use) → m.run ≡ true
    → out.bytes ≡ Some [] → out.bytes_after ≡ Some [] → MakesAt m h before left out err 0 → ⊥

-- the text is printed; or memory lacked before any call, and that is told
abbrev pub TextMayBePrinted : {A : Type 0} → Answering A → Type 0
TextMayBePrinted own = (m : Make) (h : Heard own) (state : RunState) (out err : Use) → m.run ≡ false → HearsNone h
    → out.bytes ≡ Some [] → out.bytes_after ≡ Some (made_text m) → out.faults_after ≡ out.faults
    → err.bytes ≡ Some [] → err.bytes_after ≡ Some [] → err.faults_after ≡ err.faults
    → MakesAt m h state state out err 0

abbrev pub MakeMayLack : {A : Type 0} → Answering A → Type 0
MakeMayLack own = (m : Make) (h : Heard own) (state : RunState) (out err : Use) → m.run ≡ false → HearsNone h → Untouched out
    → Tells err (stop_line NoMemory) → MakesAt m h state state out err 9

-- PAGES

-- it ends with no such status
abbrev pub PageNeverEndsWith : {A : Type 0} → Answering A → ℕ → Type 0
PageNeverEndsWith own status =
    (p : Page) (h : Heard own) (before left : RunState) (out err : Use) → PagesAt p h before left out err status → ⊥

-- the version is asked for, and nothing is printed, or another page
abbrev pub PrintsNoPage : {A : Type 0} → Answering A → Type 0
PrintsNoPage own = (h : Heard own) (before left : RunState) (out err : Use) → out.bytes ≡ Some [] → out.bytes_after ≡ Some []
    → PagesAt Version h before left out err 0 → ⊥

abbrev pub PrintsAnotherPage : {A : Type 0} → Answering A → Type 0
PrintsAnotherPage own = (h : Heard own) (before left : RunState) (out err : Use) → out.bytes ≡ Some []
    → out.bytes_after ≡ Some (page_text Commands) → PagesAt Version h before left out err 0 → ⊥

-- it is printed
abbrev pub PageMayBePrinted : {A : Type 0} → Answering A → Type 0
PageMayBePrinted own = (p : Page) (h : Heard own) (state : RunState) (out err : Use) → HearsNone h
    → out.bytes ≡ Some [] → out.bytes_after ≡ Some (page_text p) → out.faults_after ≡ out.faults
    → err.bytes ≡ Some [] → err.bytes_after ≡ Some [] → err.faults_after ≡ err.faults
    → PagesAt p h state state out err 0
