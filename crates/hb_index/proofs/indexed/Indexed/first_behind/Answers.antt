use Rattle.std.proofs.Common.{sym, subst}
use Rattle.std.specs.Option.{option_copied}
use Rattle.hb_index.specs.Indexed.{has_number}
use Rattle.hb_index.specs.Named.{IsFirstBehind}
use Rattle.hb_index.proofs.Changes.{none_with}
use Rattle.hb_index.proofs.indexed.Indexed.first_behind.Goals as goal

pub returns-in_err-names_at : goal.returns-in_err-names_at
returns-in_err-names_at g c =
    let numbers = g.T.Numbered.numbers in
    subst (λ r. IsFirstBehind (has_number numbers c.args.self.now.now c.args.number) (option_copied c.args.name) (option_copied r))
    (sym c.from_residual.ensures) (none_with numbers c.args.self.now.now c.args.number c.in_err-names_at.ensures
    (option_copied c.args.name))
