use Rattle.std.proofs.Common.{◌≡◌, ap, subst, map, sym, true≢false, string_bytes, ◌∙◌, []}
use Rattle.clap.specs.Faults.{fault_of, is_simple_and_free}
use Rattle.clap.specs.Simple.{App, HasMatchesOf}
use Rattle.clap.specs.Takes.{takes}
use Rattle.hb_options.specs.Given.{command_of}
use Rattle.hb_options.proofs.Reading.{faultless_reads}
use Rattle.hb_options.proofs.Top.{are_simple, are_spelled_cleanly, takes_spelled_items}
use Rattle.hb_options.proofs.program.read.Goals as goal

pub returns-then-not-are_clean : goal.returns-then-not-are_clean
returns-then-not-are_clean c k items spells =
    let clean = are_spelled_cleanly (map command_of c.args.commands.now) (map string_bytes c.args.words.now) k items c.requires.proper spells in
    true≢false (sym clean ∙ sym c.are_clean.ensures ∙ c.if-not-are_clean.true)

pub returns-in-Ok : goal.returns-in-Ok
returns-in-Ok c =
    let commands = map command_of c.args.commands.now in
    let words = map string_bytes c.args.words.now in
    let built = c.in_ok-program.ensures.built in
    let free = ap is_simple_and_free built ∙ are_simple c.args.name.now commands in
    faultless_reads c.args.name.now commands words c.requires.proper c.in-Ok.matches (sym c.are_clean.ensures ∙ c.if-not-are_clean.false)
    (subst (λ (a : App). fault_of a words ≡ []) built (c.in-Ok.ensures.kinds free))
    (subst (λ (a : App). HasMatchesOf a words c.in-Ok.matches) built c.in-Ok.ensures.matches)

pub returns-else-eq : goal.returns-else-eq
returns-else-eq c k items spells =
    let words = map string_bytes c.args.words.now in
    let taken = takes_spelled_items c.args.name.now (map command_of c.args.commands.now) words k items c.requires.proper spells in
    let memory = c.in-Err.ensures.passes (ap (λ (a : App). takes a words) c.in_ok-program.ensures.built ∙ taken) in
    let same = rw (c.kind.ensures ∙ memory) at c.eq.ensures in
    true≢false (sym same ∙ c.if-eq.false)
