use Rattle.std.proofs.Common.{◌||◌, ℕ, Bool, List, String, Global, bytes_eq, string_bytes, sym, ap, ap₂, ◌∙◌}
use Rattle.std.specs.List.{list_any}
use Rattle.std.proofs.lemmas.List.{take_all}
use Rattle.std.proofs.lemmas.List.Folds.{list_any_at, list_any_more}
use Rattle.clap.proofs.WalkLemmas.{list_any-map}
use Rattle.hb_words.specs.Why.{names, option_name}
use Rattle.hb_words.proofs.why.is_named.Goals as goal

-- the word has the name
abbrev test : List ℕ → String Global → Bool
test name word = names name (string_bytes word)

pub returns-then-eq : goal.returns-then-eq
returns-then-eq c =
    let name = c.args.name.now in
    let passes = ap (test name) (sym c.word-item.is) ∙ ap (λ (s : List ℕ). bytes_eq (option_name s) name) (sym c.as_str.ensures.value)
    ∙ ap (λ (s : List ℕ). bytes_eq s name) (sym c.option_name.ensures) ∙ sym c.eq.ensures ∙ c.if-eq.true in
    sym (sym (list_any-map (names name) string_bytes c.args.words.now)
    ∙ list_any_at (test name) c.args.words.now c.loop-word.word-index c.word-item.result c.loop-word-test.true passes)

pub loop-word-preserved : goal.loop-word-preserved
loop-word-preserved c =
    let name = c.args.name.now in
    let fails = ap (test name) (sym c.word-item.is) ∙ ap (λ (s : List ℕ). bytes_eq (option_name s) name) (sym c.as_str.ensures.value)
    ∙ ap (λ (s : List ℕ). bytes_eq s name) (sym c.option_name.ensures) ∙ sym c.eq.ensures ∙ c.if-eq.false in
    list_any_more (test name) c.args.words.now c.loop-word.word-index c.word-item.result c.loop-word-test.true
    ∙ ap₂ (λ (a b : Bool). a || b) c.loop-word.invariant fails

pub returns : goal.returns
returns c =
    sym (sym (list_any-map (names c.args.name.now) string_bytes c.args.words.now)
    ∙ ap (list_any (test c.args.name.now)) (sym (take_all c.loop-word.word-index c.args.words.now c.loop-word-test.false))
    ∙ c.loop-word.invariant)
