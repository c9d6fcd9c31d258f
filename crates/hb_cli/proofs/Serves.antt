-- What `serve` does, from what is said of its run, and how a run of it ends.
use Rattle.std.proofs.Common.{◌≡◌, ℕ, ◌==◌, List, [], Some, Ok, refl, sym, ap, subst, inl, inr, ⊎_elim}
use Rattle.std.proofs.lemmas.Option.{IfSome_then}
use Rattle.hb_audit.specs.Tells.{Answering}
use Rattle.hb_base.specs.Count.{Counts}
use Rattle.hb_report.specs.Total.{total_line}
use Rattle.hb_turns.specs.Ends.{is_fault}
use Rattle.hb_turns.specs.declared.served.Served.{Served}
use Rattle.hb_turns.specs.declared.served.ServeEnd.{ServeEnd}
use Rattle.hb_turns.specs.declared.served.ServeEnd.TheVariants as turns
use Rattle.hb_words.specs.Command.{Serve, shows, serves}
use Rattle.hb_cli.specs.Asked.{words_of}
use Rattle.hb_cli.specs.Ended.{replay_end, ended_as}
use Rattle.hb_cli.specs.Replaying.{RunState}
use Rattle.hb_cli.specs.declared.ended.ReplayEnd.{ReplayEnd}
use Rattle.hb_cli.specs.declared.ended.ReplayEnd.TheVariants as ends
use Rattle.hb_cli.proofs.Runs.{ran, ended_so}
use Rattle.hb_cli.specs.Ending.{Run, Finishes, Unwritten, ShownInPart, BreaksOff, Wanting, Stays, EndsWith}
use Rattle.hb_cli.specs.Leaving.{EndsRun}
use Rattle.hb_cli.specs.Run.{world_fault_line, turns_spent_line}
use Rattle.hb_cli.specs.Serving.{WorldUse, Worked, RanTo, PrintsRun, PrintsTotals, PrintsPart, Lacks, ServesAt, is_world_fault}
use Rattle.hb_cli.specs.Use.{Use, Untouched, WritesAll, WritesPart}
use Rattle.hb_cli.proofs.Endings.{NoneFalls, pick, ends_at, finished, by_status, gives_of, same_command, accepted, takes_none}

same_fault : (e : ServeEnd) (end : ReplayEnd) → replay_end e ≡ Some end → is_fault e ≡ is_world_fault end
same_fault turns.Stopped end is = let same : ends.Stopped ≡ end = cc in ap is_world_fault same
same_fault turns.WorldFault end is = let same : ends.WorldFault ≡ end = cc in ap is_world_fault same
same_fault turns.TurnsSpent end is = let same : ends.TurnsSpent ≡ end = cc in ap is_world_fault same
same_fault turns.NoMemory end is = absurd (cc)

module _ {A : Type 0} {own : Answering A} (s : Serve) (w : WorldUse own) where
  ran_to : (told : Served) (end : ReplayEnd) → ended_as told ≡ Some end → Worked s w told → RanTo s w told end
  ran_to told end ended worked = (
    ended,
    λ fresh. IfSome_then w.trace_after (worked.0 fresh)
        (λ trace run. let r = ran told end ended (words_of s.run s.ticks) run.0 trace w.heard run.1 in (run.0, r.0, r.2, r.3)),
    subst (Counts w.faults w.faults_after) (same_fault told.end end (ended_so told end ended)) worked.1,
  )

  module _ (out err : Use) where
    pub lacks : (status : ℕ) → status ≡ 9 → Lacks s w out err → ServesAt s w out err status
    lacks status nine lack = subst (ServesAt s w out err) (sym nine) lack

    printed_at : (told : Served) (end : ReplayEnd) (status : ℕ) → RanTo s w told end → PrintsRun end (total_line told.totals) out err status
        → ServesAt s w out err status
    printed_at told ends.Stopped status run (inl p) = subst (ServesAt s w out err) (sym p.1.0) (told, run, p.0, p.1.1)
    printed_at told ends.WorldFault status run (inl p) = subst (ServesAt s w out err) (sym p.1.0) (told, run, p.0, p.1.1)
    printed_at told ends.TurnsSpent status run (inl p) = subst (ServesAt s w out err) (sym p.1.0) (told, run, p.0, p.1.1)
    printed_at told end status run (inr p) = subst (ServesAt s w out err) (sym p.0) (told, end, run, p.1, p.2)

    -- its totals were printed, or a part of them
    pub printed : (told : Served) (end : ReplayEnd) (text : List ℕ) (status : ℕ) → ended_as told ≡ Some end → Worked s w told
        → text ≡ total_line told.totals → PrintsRun end text out err status → ServesAt s w out err status
    printed told end text status ended worked is p =
        printed_at told end status (ran_to told end ended worked)
        (subst (λ (t : List ℕ). PrintsRun end t out err status) is p)

-- Its table and the endings of a run say the same of it
module _ {A : Type 0} {own : Answering A} (s : Serve) (r : Run own) (asks : r.asked ≡ Ok (serves s)) where
  -- it leaves the input, the script's world and the notes as they were
  pub served : (status : ℕ) → Untouched r.input → r.left ≡ r.before → NoneFalls r.input r.out r.err
      → ServesAt s r.world r.out r.err status → EndsWith r status
  served status unread left later at =
      pick status 0 (status == 0) refl at (λ is a. finishes ends.Stopped [] a (is, a.3)) (λ at4.
      pick status 4 (status == 4) refl at4 (λ is a. finishes ends.WorldFault world_fault_line a (is, a.3)) (λ at5.
      pick status 5 (status == 5) refl at5 (λ is a. finishes ends.TurnsSpent turns_spent_line a (is, a.3)) (λ at7.
      pick status 7 (status == 7) refl at7 (λ is a. ends_at r 7 status is stays
      (a.1, total_line a.0.totals, (serves s, asks, (unread, (a.0, a.2, refl))), a.3, a.4)) (λ at9.
      pick status 9 (status == 9) refl at9 (λ is a. ends_at r 9 status is stays
      (unread.1, inl a.1, a.2, subst (λ asked. BreaksOff asked r) (sym asks) a.0)) (λ none. absurd none)))))
    where
      stays : Stays r
      stays = record {
        idle = λ never none. (ap (λ (x : RunState). x.script) left, ap (λ (x : RunState). x.keep) left);
        untold = λ takes never. absurd (takes_none r.asked (serves s) refl asks takes);
        later_input = later.0;
        later_out = later.1;
        later_err = later.2;
      }

      finishes : (end : ReplayEnd) (line : List ℕ) → PrintsTotals s r.world r.out r.err end line → EndsRun end r.err status
          → EndsWith r status
      finishes end line a told =
          finished r end (total_line a.0.totals) status (serves s, asks, (unread, (a.0, a.1, refl))) a.2 told stays

  totals_at : (end : ReplayEnd) (line : List ℕ) → Finishes r end line → PrintsTotals s r.world r.out r.err end line
  totals_at end line a =
      let g = gives_of r end a.0 (serves s) asks a.1 in
      (g.1.0, g.1.1, subst (WritesAll r.out) g.1.2 a.2, a.3)

  part_at : Unwritten r → PrintsPart s r.world r.out r.err
  part_at a =
      let g = gives_of r a.0 a.1 (serves s) asks a.2 in
      (g.1.0, a.0, g.1.1, subst (WritesPart r.out) g.1.2 a.3, a.4)

  lacks_at : Wanting r → Lacks s r.world r.out r.err
  lacks_at a = (
    subst (λ asked. BreaksOff asked r) asks a.3,
    ⊎_elim (λ (quiet : Untouched r.out). quiet)
        (λ (part : ShownInPart r). let other = same_command r.asked (serves s) (shows part.1) asks part.2 in absurd cc) a.1,
    a.2,
  )

  pub serves_at : (status : ℕ) → EndsWith r status → ServesAt s r.world r.out r.err status
  serves_at = by_status r (ServesAt s r.world r.out r.err) (totals_at ends.Stopped [])
      (λ a. absurd (accepted r.asked (serves s) a.0 asks a.1)) (λ a. absurd (takes_none r.asked (serves s) refl asks a.2.1))
      (totals_at ends.WorldFault world_fault_line) (totals_at ends.TurnsSpent turns_spent_line)
      (λ a. absurd (takes_none r.asked (serves s) refl asks a.0.1)) part_at lacks_at
