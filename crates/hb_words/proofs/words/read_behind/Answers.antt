use Rattle.std.proofs.Common.{Option, Err, map, string_bytes, sym, subst, ap, ◌∙◌}
use Rattle.clap.specs.Matches.{first_value, found_of}
use Rattle.clap.specs.declared.parser.matches.ArgMatches.{ArgMatches}
use Rattle.hb_base.specs.Outcome.{Fails}
use Rattle.hb_options.specs.Read.{Reads}
use Rattle.hb_words.specs.declared.fault.Why.{Why}
use Rattle.hb_words.specs.declared.fault.WordsFault.TheVariants.{Behind}
use Rattle.hb_words.specs.Grammar.{commands}
use Rattle.hb_words.specs.Values.{asked_by}
use Rattle.hb_words.specs.Words.{or_behind}
use Rattle.hb_words.proofs.Spellings.{refused_told, matches_told}
use Rattle.hb_words.proofs.words.read_behind.Goals as goal

pub returns-in_default-clause-told : goal.returns-in_default-clause-told
returns-in_default-clause-told c =
    let words = map string_bytes c.args.words.now in
    refused_told c.args.command words (map string_bytes c.args.rest.now)
    (subst (λ (m : Option ArgMatches). Reads commands words m) c.in_default.is c.in_ok-matches.ensures)
    ∙ ap (λ (why : Why). Err (Behind c.args.command why)) (sym c.in_ok-why.ensures)

pub returns-in-Ok-clause-told : goal.returns-in-Ok-clause-told
returns-in-Ok-clause-told c =
    let words = map string_bytes c.args.words.now in
    matches_told words (map string_bytes c.args.rest.now) c.args.command c.in-Some.matches (found_of c.in-Some-subcommand.values.now)
    c.requires.named (subst (λ (m : Option ArgMatches). Reads commands words m) c.in-Some.is c.in_ok-matches.ensures)
    c.in-Some-subcommand.ensures.rows
    ∙ ap (or_behind c.args.command) c.in-Ok.ensures.told

pub returns-in-Err-Fault-clause-told : goal.returns-in-Err-Fault-clause-told
returns-in-Err-Fault-clause-told c =
    let words = map string_bytes c.args.words.now in
    matches_told words (map string_bytes c.args.rest.now) c.args.command c.in-Some.matches (found_of c.in-Some-subcommand.values.now)
    c.requires.named (subst (λ (m : Option ArgMatches). Reads commands words m) c.in-Some.is c.in_ok-matches.ensures)
    c.in-Some-subcommand.ensures.rows
    ∙ ap (or_behind c.args.command) (subst (Fails (asked_by c.args.command (first_value (found_of c.in-Some-subcommand.values.now)))) c.in-Err-Fault.field-0-is c.in-Err-Fault.ensures.told)
