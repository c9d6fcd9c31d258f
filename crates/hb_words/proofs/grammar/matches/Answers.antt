use Rattle.std.proofs.Common.{◌≡◌, rules, List, map, IfOk, string_bytes, subst}
use Rattle.hb_options.specs.Given.{command_of}
use Rattle.hb_options.specs.Items.{Command}
use Rattle.hb_options.specs.Read.{Reads}
use Rattle.hb_words.specs.Grammar.{commands}
use Rattle.hb_words.proofs.grammar.matches.Goals as goal

pub returns : goal.returns
returns c =
    let are : map command_of c.as_slice.result.now ≡ commands = search rules in
    subst (λ (declared : List Command). IfOk c.read.result (Reads declared (map string_bytes c.args.words.now))) are c.read.ensures
