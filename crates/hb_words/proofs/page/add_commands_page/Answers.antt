use Rattle.std.proofs.Common.{◌≡◌, ◌++◌, rules, List, OnOk, string_bytes, subst}
use Rattle.hb_words.specs.declared.part.CommandName.{CommandName}
use Rattle.hb_words.specs.Page.{shown_commands, commands_page}
use Rattle.hb_words.proofs.page.add_commands_page.Goals as goal

pub returns : goal.returns
returns c =
    let are : c.as_slice.result.now ≡ shown_commands = search rules in
    subst (λ (commands : List CommandName). OnOk c.add_commands.result
    (string_bytes c.add_commands.new.text ≡ string_bytes c.args.text.now ++ commands_page commands)) are c.add_commands.ensures
