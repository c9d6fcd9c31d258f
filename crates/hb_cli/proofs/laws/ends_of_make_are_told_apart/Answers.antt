use Rattle.std.proofs.Common.{◌≡◌, ℕ, Bool, true, false, List, [], ◌∷◌, inl, Option, Some, refl, sym, ap, ◌∙◌, subst, arith}
use Rattle.std.specs.Bool.{MatchBool}
use Rattle.std.specs.Io.KnownBytes.{Appends}
use Rattle.hb_audit.specs.Tells.{Answering}
use Rattle.hb_make.specs.Made.{made}
use Rattle.hb_report.specs.Total.{total_line}
use Rattle.hb_cli.specs.Replaying.{RunState, done_in}
use Rattle.hb_serve.specs.Served.{Heard}
use Rattle.hb_turns.specs.Totals.{totals_of}
use Rattle.hb_turns.specs.declared.served.Totals.{Totals}
use Rattle.hb_words.specs.declared.asks.Make.{Make}
use Rattle.hb_cli.specs.Hearing.{HearsNone}
use Rattle.hb_cli.specs.Making.{made_text, made_total, RunsAt, MakesAt}
use Rattle.hb_cli.specs.Printing.{PrintsAt}
use Rattle.hb_cli.specs.Use.{Use}
use Rattle.hb_cli.proofs.laws.ends_of_make_are_told_apart.Goals as goal

-- what `make` does by whether it runs
abbrev ByRun : {A : Type 0} {own : Answering A} → Bool → Make → Heard own → RunState → RunState → Use → Use → ℕ → Type 0
ByRun run m h before left out err status =
    MatchBool run (RunsAt m h left out err status) ((left ≡ before) × HearsNone h × PrintsAt (made_text m) out err status)

without : {A : Type 0} {own : Answering A} (m : Make) (h : Heard own) (before left : RunState) (out err : Use) (status : ℕ) → m.run ≡ false
    → MakesAt m h before left out err status → (left ≡ before) × HearsNone h × PrintsAt (made_text m) out err status
without m h before left out err status is at = subst (λ (run : Bool). ByRun run m h before left out err status) is at

with_run : {A : Type 0} {own : Answering A} (m : Make) (h : Heard own) (before left : RunState) (out err : Use) (status : ℕ) → m.run ≡ true
    → MakesAt m h before left out err status → RunsAt m h left out err status
with_run m h before left out err status is at = subst (λ (run : Bool). ByRun run m h before left out err status) is at

printed : {A : Type 0} {own : Answering A} (m : Make) (h : Heard own) (state : RunState) (out err : Use) (status : ℕ) → m.run ≡ false
    → HearsNone h
    → PrintsAt (made_text m) out err status → MakesAt m h state state out err status
printed m h state out err status is hears at =
    subst (λ (run : Bool). ByRun run m h state state out err status) (sym is) (refl, hears, at)

-- no such status
never_2 : {A : Type 0} {own : Answering A} (run : Bool) (m : Make) (h : Heard own) (before left : RunState) (out err : Use)
    → ByRun run m h before left out err 2 → ⊥
never_2 true m h before left out err at = at
never_2 false m h before left out err at = at.2

never_3 : {A : Type 0} {own : Answering A} (run : Bool) (m : Make) (h : Heard own) (before left : RunState) (out err : Use)
    → ByRun run m h before left out err 3 → ⊥
never_3 true m h before left out err at = at
never_3 false m h before left out err at = at.2

never_6 : {A : Type 0} {own : Answering A} (run : Bool) (m : Make) (h : Heard own) (before left : RunState) (out err : Use)
    → ByRun run m h before left out err 6 → ⊥
never_6 true m h before left out err at = at
never_6 false m h before left out err at = at.2

-- no text of a script, and no line of totals, is empty; no text of a script begins as a list of JSON
appended : (a b : Option (List ℕ)) (before after text : List ℕ) → a ≡ Some before → b ≡ Some after → Appends a b text
    → Appends (Some before) (Some after) text
appended a b before after text a_is b_is appends =
    subst (λ (x : Option (List ℕ)). Appends x (Some after) text) a_is
    (subst (λ (y : Option (List ℕ)). Appends a y text) b_is appends)

no_text : (n : ℕ) → Appends (Some []) (Some []) (made_text (record { count = n; run = false })) → ⊥
no_text n is = absurd cc

no_total : (totals : Totals) → Appends (Some []) (Some []) (total_line totals) → ⊥
no_total totals is = absurd cc

abbrev first : List ℕ → ℕ
first [] = 0
first (n ∷ rest) = n

no_list : (m : Make) (text : List ℕ) → Appends (Some []) (Some (91 ∷ text)) (made_text m) → ⊥
no_list m text is = let same : 91 ≡ 123 = ap first is in omega (arith, same)

no_lines : (m : Make) → [] ≡ made m.count → ⊥
no_lines m is = absurd cc

pub returns-clause-words : goal.returns-clause-words
returns-clause-words g c = λ m h before left out err at. never_2 m.run m h before left out err at

pub returns-clause-input : goal.returns-clause-input
returns-clause-input g c = λ m h before left out err at. never_3 m.run m h before left out err at

pub returns-clause-unread : goal.returns-clause-unread
returns-clause-unread g c = λ m h before left out err at. never_6 m.run m h before left out err at

pub returns-clause-world : goal.returns-clause-world
returns-clause-world g c = λ m h before left out err is at. (without m h before left out err 4 is at).2

pub returns-clause-turns : goal.returns-clause-turns
returns-clause-turns g c = λ m h before left out err is at. (without m h before left out err 5 is at).2

pub returns-clause-nothing : goal.returns-clause-nothing
returns-clause-nothing g c = λ m h before left out err is old new at.
    let does = without m h before left out err 0 is at in
    no_text m.count (appended out.bytes out.bytes_after [] [] (made_text m) old new does.2.0.0)

pub returns-clause-another : goal.returns-clause-another
returns-clause-another g c = λ m h before left out err text is old new at.
    let does = without m h before left out err 0 is at in
    no_list m text (appended out.bytes out.bytes_after [] (91 ∷ text) (made_text m) old new does.2.0.0)

pub returns-clause-unasked : goal.returns-clause-unasked
returns-clause-unasked g c = λ m h before left out err status is none some at.
    let does = without m h before left out err status is at in
    some (ap (λ (x : RunState). x.script.lines) does.0 ∙ none)

pub returns-clause-idle : goal.returns-clause-idle
returns-clause-idle g c = λ m h before left out err is none at.
    let does = with_run m h before left out err 0 is at in
    no_lines m (sym none ∙ does.0.0)

pub returns-clause-untold : goal.returns-clause-untold
returns-clause-untold g c = λ m h before left out err is old new at.
    let does = with_run m h before left out err 0 is at in
    no_total (totals_of (done_in left).trace (done_in left).notes) (appended out.bytes out.bytes_after [] []
    (made_total left) old new does.1.0)

-- what was empty has this text now
has : (a b : Option (List ℕ)) (text : List ℕ) → a ≡ Some [] → b ≡ Some text → Appends a b text
has a b text a_is b_is =
    subst (λ (x : Option (List ℕ)). Appends x b text) (sym a_is) (subst (λ (y : Option (List ℕ)). Appends (Some []) y text) (sym b_is) refl)

pub returns-clause-printed : goal.returns-clause-printed
returns-clause-printed g c = λ m h state out err is hears old new faults told still silent.
    printed m h state out err 0 is hears
    ((has out.bytes out.bytes_after (made_text m) old new, faults), inl (has err.bytes err.bytes_after [] told still, silent))

pub returns-clause-lacks : goal.returns-clause-lacks
returns-clause-lacks g c = λ m h state out err is hears untouched tells. printed m h state out err 9 is hears (untouched, tells)
