use Rattle.std.proofs.Common.{◌&&◌, Bool, String, Global, string_bytes, sym, ap, ap₂, ◌∙◌}
use Rattle.std.specs.List.{list_all}
use Rattle.std.proofs.lemmas.List.{take_all}
use Rattle.std.proofs.lemmas.List.Folds.{list_all-map, list_all_at, list_all_more}
use Rattle.hb_options.specs.Items.{is_clean}
use Rattle.hb_options.proofs.clean.are_clean.Goals as goal

-- the word's own test
abbrev test : String Global → Bool
test word = is_clean (string_bytes word)

pub returns-then-not-is_clean : goal.returns-then-not-is_clean
returns-then-not-is_clean c =
    let fails = ap test (sym c.word-item.is) ∙ ap is_clean (sym c.as_str.ensures.value) ∙ sym c.is_clean.ensures ∙ c.if-not-is_clean.true in
    sym (list_all-map is_clean string_bytes c.args.words.now
    ∙ list_all_at test c.args.words.now c.loop-word.word-index c.word-item.result c.loop-word-test.true fails)

pub loop-word-preserved : goal.loop-word-preserved
loop-word-preserved c =
    let passes = ap test (sym c.word-item.is) ∙ ap is_clean (sym c.as_str.ensures.value) ∙ sym c.is_clean.ensures
    ∙ c.if-not-is_clean.false in
    list_all_more test c.args.words.now c.loop-word.word-index c.word-item.result c.loop-word-test.true
    ∙ ap₂ (λ (a b : Bool). a && b) c.loop-word.invariant passes

pub returns : goal.returns
returns c =
    sym (list_all-map is_clean string_bytes c.args.words.now
    ∙ ap (list_all test) (sym (take_all c.loop-word.word-index c.args.words.now c.loop-word-test.false)) ∙ c.loop-word.invariant)
