-- What `make` does: it prints the text of a made script, or runs the proxy over the lines of one, as a replay does, and prints the
-- totals of the run.
use Rattle.std.specs.Prelude.{◌≡◌, ℕ, ◌==◌, false, true, List, [], Some, None, codes}
use Rattle.std.specs.Bool.{MatchBool}
use Rattle.hb_audit.specs.Tells.{Answering}
use Rattle.hb_base.specs.declared.ip.Ip.TheVariants.{V4}
use Rattle.hb_make.specs.Made.{made}
use Rattle.hb_report.specs.Total.{total_line}
use Rattle.hb_script.specs.Spelling.{lines_text}
use Rattle.hb_serve.specs.Served.{Heard}
use Rattle.hb_turns.specs.Totals.{totals_of}
use Rattle.hb_words.specs.Command.{Replay}
use Rattle.hb_words.specs.declared.asks.Make.{Make}
use Rattle.hb_cli.specs.Replaying.{RunState, done_in, IsRun, DoneLawfully}
use Rattle.hb_cli.specs.declared.ended.ReplayEnd.{ReplayEnd}
use Rattle.hb_cli.specs.declared.ended.ReplayEnd.TheVariants as ends
use Rattle.hb_cli.specs.Hearing.{HearsAll, HearsNone}
use Rattle.hb_cli.specs.Printing.{Lacks, PrintsAt}
use Rattle.hb_cli.specs.Run.{write_fault_line, world_fault_line, turns_spent_line}
use Rattle.hb_cli.specs.Use.{Use, WritesAll, WritesPart, Tells}

-- the text of the script that is asked for
abbrev pub made_text : Make → List ℕ
made_text m = lines_text (made m.count)

-- what its run asks: `--node n1 --id z1 --discovery 10.0.0.1:15010 --inbound 0.0.0.0:15008 --brief`
abbrev pub made_run : Replay
made_run = record {
  run = record {
    node = codes "n1";
    id = codes "z1";
    discovery = record { ip = V4 167772161; port = 15010 };
    inbound = Some (record { ip = V4 0; port = 15008 });
    outbound = None;
    plain = None;
    network = [];
    hbone_port = 15008;
    tunnels = 4096;
    turns = 18446744073709551615;
  };
  trace = false;
  brief = true;
}

-- the lines of the script were run over, the run ended so, and all its notes were told to the audits
abbrev pub RunsMade : {A : Type 0} {own : Answering A} → Make → Heard own → RunState → ReplayEnd → Type 0
RunsMade m heard left end = (left.script.lines ≡ made m.count) × IsRun made_run end (done_in left) × HearsAll made_run heard (done_in left)

-- the line of its totals
abbrev pub made_total : RunState → List ℕ
made_total left = total_line (totals_of (done_in left).trace (done_in left).notes)

-- 0, 4 and 5: it ended so, the line is printed whole, and how it ended is told
abbrev pub PrintsMade : {A : Type 0} {own : Answering A} → Make → Heard own → RunState → Use → Use → ReplayEnd → List ℕ → Type 0
PrintsMade m heard left out err end ending = RunsMade m heard left end × WritesAll out (made_total left) × Tells err ending

-- 7: a put failed, and the line is printed in part
abbrev pub PrintsMadePart : {A : Type 0} {own : Answering A} → Make → Heard own → RunState → Use → Use → Type 0
PrintsMadePart m heard left out err =
    (end : ReplayEnd) × RunsMade m heard left end × WritesPart out (made_total left) × Tells err write_fault_line

-- What `make N --run` does at each status; at 9 what was done is lawful.
abbrev pub RunsAt : {A : Type 0} {own : Answering A} → Make → Heard own → RunState → Use → Use → ℕ → Type 0
RunsAt m heard left out err status =
    MatchBool (status == 0) (PrintsMade m heard left out err ends.Stopped [])
    (MatchBool (status == 4) (PrintsMade m heard left out err ends.WorldFault world_fault_line)
    (MatchBool (status == 5) (PrintsMade m heard left out err ends.TurnsSpent turns_spent_line)
    (MatchBool (status == 7) (PrintsMadePart m heard left out err)
    (MatchBool (status == 9) (DoneLawfully made_run left.script.trace × Lacks out err) ⊥))))

-- What `make` does at each status. Where it runs nothing, its text is printed, the script's world and the notes stay, and no note is told.
abbrev pub MakesAt : {A : Type 0} {own : Answering A} → Make → Heard own → RunState → RunState → Use → Use → ℕ → Type 0
MakesAt m heard before left out err status =
    MatchBool m.run (RunsAt m heard left out err status) ((left ≡ before) × HearsNone heard × PrintsAt (made_text m) out err status)
