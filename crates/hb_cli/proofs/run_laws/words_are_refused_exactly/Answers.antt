use Rattle.std.proofs.Common.{◌≡◌, ℕ, Ok, refl, inl, inr}
use Rattle.std.specs.Prelude.{◌⊎◌, IsOk, IsErr}
use Rattle.hb_audit.specs.Tells.{Answering}
use Rattle.hb_words.specs.Command.{Command}
use Rattle.hb_cli.specs.Ending.{Run}
use Rattle.hb_cli.proofs.Endings.{by_status, not_both}
use Rattle.hb_cli.proofs.run_laws.words_are_refused_exactly.Goals as goal

-- not at a status of words that are accepted
never : {A : Type 0} {own : Answering A} (r : Run own) (s : ℕ) → IsOk r.asked → IsErr r.asked → (s ≡ 2) ⊎ (s ≡ 9)
never r s accepted refused = absurd (not_both r.asked accepted refused)

never_of : {A : Type 0} {own : Answering A} (r : Run own) (s : ℕ) (c : Command) → r.asked ≡ Ok c → IsErr r.asked → (s ≡ 2) ⊎ (s ≡ 9)
never_of r s c is = never r s (rw is refl)

pub returns-clause-words_refused : goal.returns-clause-words_refused
returns-clause-words_refused g c = λ r status e two. rw (e.words_refused two).1 refl

pub returns-clause-refused_words : goal.returns-clause-refused_words
returns-clause-refused_words g c = λ r. by_status r (λ s. IsErr r.asked → (s ≡ 2) ⊎ (s ≡ 9))
    (λ a. never_of r 0 a.1.0 a.1.1) (λ a refused. inl refl) (λ a. never r 3 a.2.0) (λ a. never_of r 4 a.1.0 a.1.1)
    (λ a. never_of r 5 a.1.0 a.1.1) (λ a. never r 6 a.0.0) (λ a. never_of r 7 a.2.0 a.2.1) (λ a refused. inr refl)

pub returns-clause-reads_nothing : goal.returns-clause-reads_nothing
returns-clause-reads_nothing g c = λ r status e two. (e.words_refused two).2.0
