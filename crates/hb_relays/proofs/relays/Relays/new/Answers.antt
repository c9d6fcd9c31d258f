use Rattle.std.proofs.Common.{rules, ℕ, ap, sym, ◌∙◌}
use Rattle.std.specs.FinMap.{empty, get-empty}
use Rattle.hb_relays.proofs.Births.{none_shown}
use Rattle.hb_relays.proofs.relays.Relays.new.Goals as goal

pub returns-clause-shows : goal.returns-clause-shows
returns-clause-shows c = λ g port.
    none_shown g _ (λ l. search (get-empty, rules)) (λ u. search (get-empty, rules)) (λ n. search (get-empty, rules))
    (c.new-5.ensures ∙ ap (λ (n : ℕ). record { opens = empty; hbone_port = n }) (sym port))
