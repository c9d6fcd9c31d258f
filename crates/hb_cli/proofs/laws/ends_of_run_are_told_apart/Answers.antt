use Rattle.std.proofs.Common.{◌≡◌, ℕ, List, [], ◌++◌, Option, Some, Result, Ok, Err, inl, refl, sym, subst, ap, ◌∙◌, if◌then◌else◌}
use Rattle.std.proofs.Common.{Bool, true, false, arith}
use Rattle.std.specs.Io.KnownBytes.{Appends}
use Rattle.std.specs.List.{flat_map}
use Rattle.std.specs.Prelude.{nat_lt, length}
use Rattle.hb_audit.specs.HeldBy.{answers_by}
use Rattle.hb_wire.specs.Message.{and_then}
use Rattle.hb_words.specs.Command.{Command, Question, checks}
use Rattle.hb_words.specs.declared.fault.WordsFault.{WordsFault}
use Rattle.hb_words.specs.declared.fault.WordsFault.TheVariants.{NoCommand}
use Rattle.hb_cli.specs.Replaying.{Done, done_in}
use Rattle.hb_table.specs.Judgement.{judged}
use Rattle.hb_table.specs.declared.judgement.Judged.{Judged}
use Rattle.hb_table.specs.declared.judgement.Judged.TheVariants.{Admitted, Denied, Unknown}
use Rattle.hb_cli.specs.declared.input.Refused.{Refused as Refusal}
use Rattle.hb_cli.specs.declared.stop.Stop.TheVariants.{TooLong}
use Rattle.hb_cli.specs.Input.{longest_input, Leaves, left_by}
use Rattle.hb_cli.specs.Judge.{answer_line, counting, policy_line, connection, checked}
use Rattle.hb_cli.specs.Run.{answer_after, or_refused, outcome_by}
use Rattle.hb_cli.specs.Refused.{without_words}
use Rattle.hb_cli.proofs.Endings.{stays_still, ends_at, gives_of}
use Rattle.hb_cli.proofs.laws.ends_of_run_are_told_apart.Goals as goal

-- no answer of `check` is empty
no_line : (j : Judged) → answer_line j ≡ [] → ⊥
no_line Admitted is = absurd cc
no_line Denied is = absurd cc
no_line Unknown is = absurd cc

no_more : (j : Judged) (more : List ℕ) → answer_line j ++ more ≡ [] → ⊥
no_more Admitted more is = absurd cc
no_more Denied more is = absurd cc
no_more Unknown more is = absurd cc

no_text : (explain : Bool) (j : Judged) (more : List ℕ) → (if explain then answer_line j ++ more else answer_line j) ≡ [] → ⊥
no_text true j more is = no_more j more is
no_text false j more is = no_line j is

not_empty : (q : Question) (over : Bool) (left : Result Leaves Refusal)
    → (if over then Err TooLong else or_refused (and_then left (λ l. Ok (checked q l.held)))) ≡ Ok [] → ⊥
not_empty q true left is = absurd cc
not_empty q false (Ok l) is =
    let same : checked q l.held ≡ [] = cc in
    no_text q.explain (judged l.held q.peer q.target) (flat_map (policy_line (connection q)) (counting l.held (connection q))) same
not_empty q false (Err refusal) is = absurd cc

prints : (q : Question) (done : Done) (input : List ℕ) → answer_after (checks q) done input ≡ Ok [] → ⊥
unfolding answer_after
prints q done input is = not_empty q (nat_lt longest_input (length input)) (left_by false q.network q.node input) is

-- where nothing was there and nothing is, nothing was appended
none_appended : (a b : Option (List ℕ)) (text : List ℕ) → a ≡ Some [] → b ≡ Some [] → Appends a b text → text ≡ []
none_appended a b text a_is b_is appends =
    let same : Appends (Some []) (Some []) text =
    subst (λ (x : Option (List ℕ)). Appends x (Some []) text) a_is (subst (λ (y : Option (List ℕ)). Appends a y text) b_is appends) in
    sym same

pub returns-clause-status : goal.returns-clause-status
returns-clause-status g c = λ r e. let never = e.nothing_else in absurd cc

pub returns-clause-nothing : goal.returns-clause-nothing
returns-clause-nothing g c = λ r q asks before after e.
    let a = e.done refl in
    let empty = none_appended r.out.bytes r.out.bytes_after a.0 before after a.2.0 in
    let outcome = (gives_of r _ a.0 (checks q) asks a.1).1.2 in
    let by_words : outcome_by (Ok (checks q)) (done_in r.left) outcome.0 ≡ Ok a.0 =
    subst (λ (asked : Result Command WordsFault). outcome_by asked (done_in r.left) outcome.0 ≡ Ok a.0) asks outcome.1 in
    prints q (done_in r.left) outcome.0 (by_words ∙ ap Ok empty)

pub returns-clause-refused : goal.returns-clause-refused
returns-clause-refused g c = λ r before after e. absurd (let same = sym before ∙ sym (e.input_refused refl).4.0 ∙ after in cc)

pub returns-clause-uncounted : goal.returns-clause-uncounted
returns-clause-uncounted g c = λ r before after e. let same = (e.unread refl).1 in omega (arith, before, after, same)

pub returns-clause-words : goal.returns-clause-words
returns-clause-words g c = λ state none.
    let r = without_words (answers_by g.A.Audit.notes g.A.Audit.answers) state in
    ends_at r 2 2 refl (stays_still r refl refl (omega arith, omega arith, omega arith))
    (NoCommand, refl, (refl, refl), (refl, refl), inl (refl, refl), (none, refl))
