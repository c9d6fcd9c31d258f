-- What `serve` does: it runs the proxy over a world, tells its notes to audits, reads no input and prints the totals of the run.
use Rattle.std.specs.Prelude.{◌≡◌, ◌⊎◌, ℕ, ◌==◌, Bool, true, false, List, [], Option, Some, IfSome}
use Rattle.std.specs.Bool.{MatchBool}
use Rattle.hb_audit.specs.Tells.{Answering}
use Rattle.hb_base.specs.Count.{Counts}
use Rattle.hb_base.specs.declared.note.Note.{Note}
use Rattle.hb_report.specs.Total.{total_line}
use Rattle.hb_reason.specs.Reasons.{Hear}
use Rattle.hb_serve.specs.Served.{Heard, Serves}
use Rattle.hb_turns.specs.Ends.{is_fault}
use Rattle.hb_turns.specs.declared.served.Served.{Served}
use Rattle.hb_words.specs.Command.{Serve}
use Rattle.hb_world.specs.Seen.{Seen}
use Rattle.hb_world.specs.declared.entry.Entry.{Entry}
use Rattle.hb_cli.specs.Asked.{words_of}
use Rattle.hb_cli.specs.Ended.{ended_as}
use Rattle.hb_cli.specs.Replaying.{RunsAs, done_with}
use Rattle.hb_cli.specs.declared.ended.ReplayEnd.{ReplayEnd}
use Rattle.hb_cli.specs.declared.ended.ReplayEnd.TheVariants as ends
use Rattle.hb_cli.specs.declared.stop.Stop.TheVariants.{NoMemory}
use Rattle.hb_cli.specs.Leaving.{EndsRun}
use Rattle.hb_cli.specs.Run.{stop_line, write_fault_line, world_fault_line, turns_spent_line}
use Rattle.hb_cli.specs.Use.{Use, Untouched, WritesAll, WritesPart, Tells}

-- what a run does with a world and with audits: the trace that the world tells, and its count of listens and waits that failed, before
-- and after; and the audits as they were, and those that are left
pub record WorldUse {A : Type 0} (own : Answering A) : Type 0 where
  pub trace : Option (List Entry)
  pub trace_after : Option (List Entry)
  pub faults : ℕ
  pub faults_after : ℕ
  pub heard : Heard own

abbrev pub world_use : {A : Type 0} {own : Answering A} → Option (List Entry) → Option (List Entry) → ℕ → ℕ → Heard own → WorldUse own
world_use trace trace_after faults faults_after heard =
    record { trace = trace; trace_after = trace_after; faults = faults; faults_after = faults_after; heard = heard }

-- the same, by what tells the trace and what is seen beside it
abbrev pub world_used : {A : Type 0} {own : Answering A} {W : Type 0} → (W → Option (List Entry)) → (W → Seen) → W → W → Heard own
    → WorldUse own
world_used trace seen before after heard = world_use (trace before) (trace after) (seen before).faults (seen after).faults heard

-- no call was made, and nothing was told
abbrev pub Unused : {A : Type 0} {own : Answering A} → WorldUse own → Type 0
Unused w = (w.trace_after ≡ w.trace) × (w.faults_after ≡ w.faults) × (w.heard.after ≡ w.heard.before)

-- the trace is so, where the world tells it and no call was made before
abbrev pub LeavesTrace : {A : Type 0} {own : Answering A} → WorldUse own → (List Entry → Type 0) → Type 0
LeavesTrace w P = w.trace ≡ Some [] → IfSome w.trace_after P

-- the proxy that is asked for was served over the world, or memory lacked for it and nothing was done
abbrev pub Worked : {A : Type 0} {own : Answering A} → Serve → WorldUse own → Served → Type 0
Worked s w told =
    LeavesTrace w (λ trace. (keep : Option (List Note)) × Serves (words_of s.run s.ticks) told keep w.heard trace)
    × Counts w.faults w.faults_after (is_fault told.end)

abbrev pub is_world_fault : ReplayEnd → Bool
is_world_fault ends.WorldFault = true
is_world_fault _ = false

-- It was served, ended so, and memory never lacked: the totals are those of its trace and of all its notes, and these were told to the
-- audits, one after the other, each with its reason; those audits are left that kept each
abbrev pub RanTo : {A : Type 0} {own : Answering A} → Serve → WorldUse own → Served → ReplayEnd → Type 0
RanTo {A} {own} s w told end =
    (ended_as told ≡ Some end)
    × LeavesTrace w (λ trace. (keep : Option (List Note)) × (notes : List Note)
    × RunsAs (words_of s.run s.ticks) told keep end (done_with trace notes)
    × Hear own (words_of s.run s.ticks).config trace w.heard.before w.heard.after notes)
    × Counts w.faults w.faults_after (is_world_fault end)

-- a text is printed whole, and how the run ended is told; or a put failed, and it is printed in part
abbrev pub PrintsRun : ReplayEnd → List ℕ → Use → Use → ℕ → Type 0
PrintsRun end text out err status =
    (WritesAll out text × EndsRun end err status) ⊎ ((status ≡ 7) × WritesPart out text × Tells err write_fault_line)

-- 0, 4 and 5: it ended so, the line of its totals is printed whole, and how it ended is told
abbrev pub PrintsTotals : {A : Type 0} {own : Answering A} → Serve → WorldUse own → Use → Use → ReplayEnd → List ℕ → Type 0
PrintsTotals s w out err end ending =
    (told : Served) × RanTo s w told end × WritesAll out (total_line told.totals) × Tells err ending

-- 7: a put failed, and the line is printed in part
abbrev pub PrintsPart : {A : Type 0} {own : Answering A} → Serve → WorldUse own → Use → Use → Type 0
PrintsPart s w out err =
    (told : Served) × (end : ReplayEnd) × RanTo s w told end × WritesPart out (total_line told.totals) × Tells err write_fault_line

-- 9: memory lacked before any call on the world, or in the run, or behind it, and nothing is printed
abbrev pub Lacks : {A : Type 0} {own : Answering A} → Serve → WorldUse own → Use → Use → Type 0
Lacks s w out err = (Unused w ⊎ ((told : Served) × Worked s w told)) × Untouched out × Tells err (stop_line NoMemory)

-- What `serve` does at each status.
abbrev pub ServesAt : {A : Type 0} {own : Answering A} → Serve → WorldUse own → Use → Use → ℕ → Type 0
ServesAt s w out err status =
    MatchBool (status == 0) (PrintsTotals s w out err ends.Stopped [])
    (MatchBool (status == 4) (PrintsTotals s w out err ends.WorldFault world_fault_line)
    (MatchBool (status == 5) (PrintsTotals s w out err ends.TurnsSpent turns_spent_line)
    (MatchBool (status == 7) (PrintsPart s w out err)
    (MatchBool (status == 9) (Lacks s w out err) ⊥))))
