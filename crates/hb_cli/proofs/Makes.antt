-- What `make` does, from what is said of its run, and how a run of it ends.
use Rattle.std.proofs.Common.{◌≡◌, ℕ, ◌==◌, Bool, true, false, List, [], Ok, refl, sym, ◌∙◌, subst, inl, inr, ⊎_elim}
use Rattle.std.specs.Bool.{MatchBool}
use Rattle.std.specs.Prelude.{IsTrue}
use Rattle.hb_audit.specs.Tells.{Answering}
use Rattle.hb_make.specs.Made.{made as lines_made}
use Rattle.hb_world.specs.declared.line.Line.{Line}
use Rattle.hb_words.specs.Command.{Replay, shows, makes}
use Rattle.hb_words.specs.declared.asks.Make.{Make}
use Rattle.hb_serve.specs.Served.{Heard}
use Rattle.hb_cli.specs.Replaying.{RunState, done_in, IsRun, DoneLawfully, report_of}
use Rattle.hb_cli.specs.declared.ended.ReplayEnd.{ReplayEnd}
use Rattle.hb_cli.specs.declared.ended.ReplayEnd.TheVariants as ends
use Rattle.hb_cli.specs.Ending.{Run, RunsNothing, Answers, Finishes, IsDone, Unwritten, ShownInPart, BreaksOff, Wanting, Stays, EndsWith}
use Rattle.hb_cli.specs.Hearing.{HearsAll, HearsNone}
use Rattle.hb_cli.specs.Making.{made_run, made_text, made_total, RunsMade, PrintsMade, PrintsMadePart, RunsAt, MakesAt}
use Rattle.hb_cli.specs.Leaving.{EndsRun}
use Rattle.hb_cli.specs.Printing.{Lacks, PrintsAt}
use Rattle.hb_cli.specs.Run.{takes_input, world_fault_line, turns_spent_line}
use Rattle.hb_cli.specs.Serving.{PrintsRun}
use Rattle.hb_cli.specs.Use.{Use, Untouched, WritesAll, WritesPart}
use Rattle.hb_cli.proofs.Endings.{NoneFalls, pick, ends_at, finished, by_status, gives_of, same_command, accepted, takes_none}

module _ {A : Type 0} {own : Answering A} (m : Make) (h : Heard own) (left : RunState) (out err : Use) where
  -- the totals of a run of its lines were printed, or a part of them
  printed_at : (end : ReplayEnd) (status : ℕ) → RunsMade m h left end → PrintsRun end (made_total left) out err status
      → RunsAt m h left out err status
  printed_at ends.Stopped status run (inl p) = subst (RunsAt m h left out err) (sym p.1.0) (run, p.0, p.1.1)
  printed_at ends.WorldFault status run (inl p) = subst (RunsAt m h left out err) (sym p.1.0) (run, p.0, p.1.1)
  printed_at ends.TurnsSpent status run (inl p) = subst (RunsAt m h left out err) (sym p.1.0) (run, p.0, p.1.1)
  printed_at end status run (inr p) = subst (RunsAt m h left out err) (sym p.0) (end, run, p.1, p.2)

  pub run_printed : (r : Replay) (lines : List Line) (end : ReplayEnd) (text : List ℕ) (status : ℕ) → r ≡ made_run
      → lines ≡ lines_made m.count
      → (left.script.lines ≡ lines) × IsRun r end (done_in left) × (text ≡ report_of r (done_in left)) → HearsAll r h (done_in left)
      → PrintsRun end text out err status → RunsAt m h left out err status
  run_printed r lines end text status same are ran tells p =
      let at : IsRun made_run end (done_in left) × (text ≡ report_of made_run (done_in left)) × HearsAll made_run h (done_in left)
      = subst (λ (q : Replay). IsRun q end (done_in left) × (text ≡ report_of q (done_in left)) × HearsAll q h (done_in left)) same
      (ran.1, ran.2, tells)
      in printed_at end status (ran.0 ∙ are, at.0, at.2) (subst (λ (t : List ℕ). PrintsRun end t out err status) at.1 p)

-- Its table and the endings of a run say the same of it
module _ {A : Type 0} {own : Answering A} (m : Make) (r : Run own) (asks : r.asked ≡ Ok (makes m)) where
  -- what is said at each status, by whether the script is run
  abbrev ByRun : Bool → ℕ → Type 0
  ByRun run status =
      MatchBool run (RunsAt m r.world.heard r.left r.out r.err status)
      ((r.left ≡ r.before) × HearsNone r.world.heard × PrintsAt (made_text m) r.out r.err status)

  abbrev GivesByRun : Bool → ReplayEnd → List ℕ → Type 0
  GivesByRun run end text =
      MatchBool run (RunsMade m r.world.heard r.left end × (text ≡ made_total r.left))
      ((end ≡ ends.Stopped) × RunsNothing r × (text ≡ made_text m))

  abbrev BrokenByRun : Bool → Type 0
  BrokenByRun run = MatchBool run (DoneLawfully made_run r.left.script.trace) (RunsNothing r)

  -- it leaves the input as it was
  pub made : (status : ℕ) → Untouched r.input → NoneFalls r.input r.out r.err
      → MakesAt m r.world.heard r.before r.left r.out r.err status → EndsWith r status
  made status unread later = by_run m.run refl where
    stays : Stays r
    stays = record {
      idle = λ never none. absurd (none m asks);
      untold = λ takes never. absurd (takes_none r.asked (makes m) refl asks takes);
      later_input = later.0;
      later_out = later.1;
      later_err = later.2;
    }

    answers : (run : Bool) → m.run ≡ run → (end : ReplayEnd) (text : List ℕ) → GivesByRun run end text → Answers r end text
    answers run is end text gives = (makes m, asks, (unread, subst (λ (b : Bool). GivesByRun b end text) (sym is) gives))

    broken : (run : Bool) → m.run ≡ run → BrokenByRun run → BreaksOff r.asked r
    broken run is broke = subst (λ asked. BreaksOff asked r) (sym asks) (subst BrokenByRun (sym is) broke)

    finishes : (is : m.run ≡ true) (end : ReplayEnd) (line : List ℕ) → PrintsMade m r.world.heard r.left r.out r.err end line
        → EndsRun end r.err status → EndsWith r status
    finishes is end line a told =
        finished r end (made_total r.left) status (answers true is end (made_total r.left) (a.0, refl)) a.1 told stays

    by_run : (run : Bool) → m.run ≡ run → ByRun run status → EndsWith r status
    by_run true is at =
        pick status 0 (status == 0) refl at (λ same a. finishes is ends.Stopped [] a (same, a.2)) (λ at4.
        pick status 4 (status == 4) refl at4 (λ same a. finishes is ends.WorldFault world_fault_line a (same, a.2)) (λ at5.
        pick status 5 (status == 5) refl at5 (λ same a. finishes is ends.TurnsSpent turns_spent_line a (same, a.2)) (λ at7.
        pick status 7 (status == 7) refl at7 (λ same a. ends_at r 7 status same stays
        (a.0, made_total r.left, answers true is a.0 (made_total r.left) (a.1, refl), a.2, a.3)) (λ at9.
        pick status 9 (status == 9) refl at9 (λ same a. ends_at r 9 status same stays
        (unread.1, inl a.1.0, a.1.1, broken true is a.0)) (λ none. absurd none)))))
    by_run false is at =
        let text = answers false is ends.Stopped (made_text m) (refl, (at.0, at.1), refl) in
        pick status 0 (status == 0) refl at.2 (λ same a. finished r ends.Stopped (made_text m) status text a.0 (same, a.1) stays) (λ at7.
        pick status 7 (status == 7) refl at7 (λ same a. ends_at r 7 status same stays (ends.Stopped, made_text m, text, a.0, a.1)) (λ at9.
        pick status 9 (status == 9) refl at9 (λ same a. ends_at r 9 status same stays
        (unread.1, inl a.0, a.1, broken false is (at.0, at.1))) (λ none. absurd none)))

  lacks : Wanting r → Lacks r.out r.err
  lacks a = (
    ⊎_elim (λ (quiet : Untouched r.out). quiet)
        (λ (part : ShownInPart r). let other = same_command r.asked (makes m) (shows part.1) asks part.2 in absurd cc) a.1,
    a.2,
  )

  pub makes_at : (status : ℕ) → EndsWith r status → MakesAt m r.world.heard r.before r.left r.out r.err status
  makes_at = by_run m.run refl where
    gives : (run : Bool) → m.run ≡ run → (end : ReplayEnd) (text : List ℕ) → Answers r end text → GivesByRun run end text
    gives run is end text a = subst (λ (b : Bool). GivesByRun b end text) is (gives_of r end text (makes m) asks a).1

    broken : (run : Bool) → m.run ≡ run → Wanting r → BrokenByRun run
    broken run is a = subst BrokenByRun is (subst (λ asked. BreaksOff asked r) asks a.3)

    never : {P : Type 0} → IsTrue (takes_input r.asked) → P
    never takes = absurd (takes_none r.asked (makes m) refl asks takes)

    totals : m.run ≡ true → (end : ReplayEnd) (line : List ℕ) → Finishes r end line
        → PrintsMade m r.world.heard r.left r.out r.err end line
    totals is end line a = let g = gives true is end a.0 a.1 in (g.0, subst (WritesAll r.out) g.1 a.2, a.3)

    totals_part : m.run ≡ true → Unwritten r → PrintsMadePart m r.world.heard r.left r.out r.err
    totals_part is a = let g = gives true is a.0 a.1 a.2 in (a.0, g.0, subst (WritesPart r.out) g.1 a.3, a.4)

    text : m.run ≡ false → IsDone r → ByRun false 0
    text is a = let g = gives false is ends.Stopped a.0 a.1 in (g.1.0, g.1.1, (subst (WritesAll r.out) g.2 a.2, a.3))

    text_part : m.run ≡ false → Unwritten r → ByRun false 7
    text_part is a = let g = gives false is a.0 a.1 a.2 in (g.1.0, g.1.1, (subst (WritesPart r.out) g.2 a.3, a.4))

    text_lacks : m.run ≡ false → Wanting r → ByRun false 9
    text_lacks is a = let b = broken false is a in (b.0, b.1, lacks a)

    by_run : (run : Bool) → m.run ≡ run → (status : ℕ) → EndsWith r status → ByRun run status
    by_run true is = by_status r (ByRun true) (totals is ends.Stopped [])
        (λ a. absurd (accepted r.asked (makes m) a.0 asks a.1)) (λ a. never a.2.1)
        (totals is ends.WorldFault world_fault_line) (totals is ends.TurnsSpent turns_spent_line)
        (λ a. never a.0.1) (totals_part is) (λ a. (broken true is a, lacks a))
    by_run false is = by_status r (ByRun false) (text is)
        (λ a. absurd (accepted r.asked (makes m) a.0 asks a.1)) (λ a. never a.2.1)
        (λ a. let other = (gives false is ends.WorldFault a.0 a.1).0 in absurd cc)
        (λ a. let other = (gives false is ends.TurnsSpent a.0 a.1).0 in absurd cc)
        (λ a. never a.0.1) (text_part is) (text_lacks is)
