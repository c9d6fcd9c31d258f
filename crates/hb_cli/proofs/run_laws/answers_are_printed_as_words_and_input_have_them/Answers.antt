use Rattle.std.proofs.Common.{◌≡◌, ◌≢◌, ℕ, ◌≤◌, false, List, length, take, Ok, refl, inl, inr, ⊎_elim}
use Rattle.std.specs.Io.KnownBytes.{Appends}
use Rattle.std.specs.Prelude.{◌⊎◌, IfSome}
use Rattle.hb_audit.specs.Tells.{Answering}
use Rattle.hb_cli.specs.Replaying.{done_in}
use Rattle.hb_words.specs.Command.{shows}
use Rattle.hb_words.specs.declared.asks.Show.{Show}
use Rattle.hb_cli.specs.Ending.{Run, ShownInPart, Wanting}
use Rattle.hb_cli.specs.Run.{outcome_by, is_answered, IsOutcomeBy}
use Rattle.hb_cli.specs.Use.{Untouched}
use Rattle.hb_cli.proofs.Endings.{by_status, outcome_is, is_whole}
use Rattle.hb_cli.proofs.run_laws.answers_are_printed_as_words_and_input_have_them.Goals as goal

-- where memory was wanting nothing is printed, or a part of what `show` prints
in_part : {A : Type 0} {own : Answering A} (r : Run own) → Wanting r → (r.out.bytes_after ≡ r.out.bytes) ⊎ ((text : List ℕ)
    × (s : Show) × (r.asked ≡ Ok (shows s))
    × IsOutcomeBy r.asked (done_in r.left) (Ok text) × IfSome r.input.bytes (λ left. outcome_by r.asked (done_in r.left) left ≡ Ok text)
    × ((n : ℕ) × (n ≤ length text) × Appends r.out.bytes r.out.bytes_after (take n text)))
in_part r a = ⊎_elim (λ (quiet : Untouched r.out). inl quiet.0)
    (λ (part : ShownInPart r). inr (part.0, part.1, part.2, part.3.2, part.3.1, part.4.0)) a.1

pub returns-clause-printed : goal.returns-clause-printed
returns-clause-printed g c = λ r status e takes answered.
    let a = is_whole r status e answered in
    let o = outcome_is r a.0 a.1 takes a.2 in (a.1, o.2, o.1, a.3.0)

pub returns-clause-printed_part : goal.returns-clause-printed_part
returns-clause-printed_part g c = λ r status e takes seven.
    let a = e.unwritten seven in
    let o = outcome_is r a.0 a.1 takes a.2 in (a.1, o.2, o.1, a.3.0)

pub returns-clause-quiet : goal.returns-clause-quiet
returns-clause-quiet g c = λ r. by_status r (λ s. is_answered s ≡ false → s ≢ 7 → s ≢ 9 → r.out.bytes_after ≡ r.out.bytes)
    (λ a no n7 n9. absurd cc) (λ a no n7 n9. a.3.0) (λ a no n7 n9. a.4.0) (λ a no n7 n9. absurd cc) (λ a no n7 n9. absurd cc)
    (λ a no n7 n9. a.2.0) (λ a no n7 n9. absurd (n7 refl)) (λ a no n7 n9. absurd (n9 refl))

pub returns-clause-printed_wanting : goal.returns-clause-printed_wanting
returns-clause-printed_wanting g c = λ r status e nine. in_part r (e.wanting nine)
