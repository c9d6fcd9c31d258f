use Rattle.std.proofs.Common.{Some, None, List, Option, ℕ, arith, ap, sym, ◌∙◌}
use Rattle.std.proofs.lemmas.Str.Pattern.{split_parts}
use Rattle.clap.specs.Lexer.{name_and_value}
use Rattle.clap.proofs.LexerLemmas.{name_and_value-at, name_and_value-without}
use Rattle.hb_options.proofs.clean.behind_sign.Goals as goal

pub returns-in-Some : goal.returns-in-Some
returns-in-Some c =
    let name = c.in-Some.field-0-0 in
    let value = c.in-Some.value in
    let parts = split_parts 61 c.args.text.now (Some (name, value)) c.in-Some.ensures.cases (omega arith) in
    sym (ap (λ (t : List ℕ). (name_and_value t).1) parts.0
    ∙ ap (λ (p : List ℕ × Option (List ℕ)). p.1) (name_and_value-at name.now value.now parts.1))

pub returns-in-None : goal.returns-in-None
returns-in-None c =
    let lacks = split_parts 61 c.args.text.now None c.in-None.ensures.cases (omega arith) in
    sym (ap (λ (p : List ℕ × Option (List ℕ)). p.1) (name_and_value-without c.args.text.now lacks))
