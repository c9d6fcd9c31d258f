use Rattle.std.proofs.Common.{◌≡◌, ℕ, ◌+◌, Option, Some, None, IfSome, unwrap_or, nat_eq, subst}
use Rattle.std.specs.Option.{option_map}
use Rattle.std.proofs.lemmas.Map.Entries.{sum_by_puts_entry}
use Rattle.hb_ready.specs.Kept.{off_list, all_off_list}
use Rattle.hb_ready.specs.declared.link.Place.{Place}
use Rattle.hb_ready.proofs.links.put.Goals as goal

by_old : (old : Option Place) (a b : ℕ) → a + unwrap_or (option_map off_list old) 0 ≡ b → IfSome old (λ was. a + off_list was ≡ b)
by_old None a b is = tt
by_old (Some place) a b is = is

pub returns-clause-off_list : goal.returns-clause-off_list
returns-clause-off_list c =
    subst (λ (o : Option Place). IfSome o (λ was. all_off_list c.insert.new.self + off_list was
    ≡ all_off_list c.args.places.now + off_list c.args.place)) c.in-Ok.ensures.old
    (by_old c.in-Ok.field-0 _ _
    (sum_by_puts_entry off_list nat_eq c.args.places.now c.insert.new.self c.args.link c.args.place c.in-Ok.field-0
    c.in-Ok.ensures.old c.in-Ok.ensures.entries))
