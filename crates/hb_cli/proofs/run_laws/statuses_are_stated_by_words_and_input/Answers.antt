use Rattle.std.proofs.Common.{◌≡◌, ℕ, List, Option, Some, None, Result, Err, refl, sym, subst, ◌∙◌, inl, inr, arith}
use Rattle.std.proofs.lemmas.Option.{IfSome_then}
use Rattle.std.specs.Prelude.{◌⊎◌, IfSome, IsTrue}
use Rattle.hb_audit.specs.Tells.{Answering}
use Rattle.hb_base.specs.Count.{Rose, one_more}
use Rattle.hb_cli.specs.Replaying.{Done, done_in}
use Rattle.hb_words.specs.Command.{Command}
use Rattle.hb_words.specs.declared.fault.WordsFault.{WordsFault}
use Rattle.hb_cli.specs.declared.stop.Stop.TheVariants.{Words}
use Rattle.hb_cli.specs.Ending.{Run, EndsWith}
use Rattle.hb_cli.specs.Run.{outcome_by, status_of, is_answered, takes_input, IsStated, ReadsEnough}
use Rattle.hb_cli.proofs.Endings.{by_status, outcome_is, is_whole}
use Rattle.hb_cli.proofs.run_laws.statuses_are_stated_by_words_and_input.Goals as goal

-- what holds of each input holds of the one that is told
of_each : {X : Type 0} {Q : X → Type 0} (o : Option X) → ((x : X) → Q x) → IfSome o Q
of_each None q = tt
of_each (Some x) q = q x

words_outcome : (asked : Result Command WordsFault) (fault : WordsFault) (done : Done) (input : List ℕ) → asked ≡ Err fault
    → outcome_by asked done input ≡ Err (Words fault)
words_outcome asked fault done input e = rw e refl

module _ {A : Type 0} {own : Answering A} (r : Run own) (takes : IsTrue (takes_input r.asked)) where
  -- the status is the stated one, or one of others that may come in its place
  abbrev Stated : ℕ → Type 0
  Stated s = IfSome r.input.bytes (λ left. IsStated (status_of (outcome_by r.asked (done_in r.left) left)) s)

  is_stated : (status : ℕ) → EndsWith r status → Stated status
  is_stated = by_status r Stated
      (λ a. IfSome_then r.input.bytes (outcome_is r _ a.0 takes a.1).1 (λ left o. rw o (inl refl)))
      (λ a. of_each r.input.bytes (λ left. rw (words_outcome r.asked a.0 (done_in r.left) left a.1) (inl refl)))
      (λ a. IfSome_then r.input.bytes a.3.1 (λ left o. rw o (inl (sym a.1))))
      (λ a. IfSome_then r.input.bytes (outcome_is r _ a.0 takes a.1).1 (λ left o. rw o (inr (inr (inl (inl refl, refl))))))
      (λ a. IfSome_then r.input.bytes (outcome_is r _ a.0 takes a.1).1 (λ left o. rw o (inr (inr (inl (inr (inl refl), refl))))))
      (λ a. of_each r.input.bytes (λ left. inr (inl refl)))
      (λ a. IfSome_then r.input.bytes (outcome_is r a.0 a.1 takes a.2).1 (λ left o. rw o (inr (inr (inl (inr (inr refl), refl))))))
      (λ a. of_each r.input.bytes (λ left. inr (inr (inr refl))))

rose : (before after : ℕ) → after ≡ one_more before → Rose before after
rose before after e = rw e (omega arith)

answered_at : (status k : ℕ) → status ≡ k → IsTrue (is_answered k) → IsTrue (is_answered status)
answered_at status k is answered = subst (λ s. IsTrue (is_answered s)) (sym is) answered

answered_or_nine : {A : Type 0} {own : Answering A} (r : Run own) (stated status : ℕ) → EndsWith r status → IsStated stated status
    → stated ≡ 0
    → (Rose r.input.faults r.input.faults_after → ⊥) → (Rose r.out.faults r.out.faults_after → ⊥)
    → IsTrue (is_answered status) ⊎ (status ≡ 9)
answered_or_nine r stated status e (inl is) zero no_reads no_puts = inl (answered_at status 0 (is ∙ zero) refl)
answered_or_nine r stated status e (inr (inl six)) zero no_reads no_puts =
    absurd (no_reads (rose r.input.faults r.input.faults_after (e.unread six).1))
answered_or_nine r stated status e (inr (inr (inl (inl four, is)))) zero no_reads no_puts = inl (answered_at status 4 four refl)
answered_or_nine r stated status e (inr (inr (inl (inr (inl five), is)))) zero no_reads no_puts = inl (answered_at status 5 five refl)
answered_or_nine r stated status e (inr (inr (inl (inr (inr seven), is)))) zero no_reads no_puts =
    absurd (no_puts (rose r.out.faults r.out.faults_after (e.unwritten seven).3.1))
answered_or_nine r stated status e (inr (inr (inr nine))) zero no_reads no_puts = inr nine

pub returns-clause-stated : goal.returns-clause-stated
returns-clause-stated g c = λ r status e takes. is_stated r takes status e

pub returns-clause-complete : goal.returns-clause-complete
returns-clause-complete g c = λ r status e takes.
    IfSome_then r.input.bytes (is_stated r takes status e) (λ left is. answered_or_nine r
    (status_of (outcome_by r.asked (done_in r.left) left)) status e is)

pub returns-clause-reads_enough : goal.returns-clause-reads_enough
returns-clause-reads_enough g c = λ r status e takes at. enough r status e takes at where
  enough : {A : Type 0} {own : Answering A} (r : Run own) (status : ℕ) → EndsWith r status → IsTrue (takes_input r.asked)
      → IsTrue (is_answered status) ⊎ (status ≡ 3) ⊎ (status ≡ 7) → ReadsEnough r.input.bytes r.input.bytes_after
  enough r status e takes (inl answered) = let a = is_whole r status e answered in (outcome_is r a.0 a.1 takes a.2).3
  enough r status e takes (inr (inl three)) = (e.input_refused three).3.3
  enough r status e takes (inr (inr seven)) = let a = e.unwritten seven in (outcome_is r a.0 a.1 takes a.2).3
