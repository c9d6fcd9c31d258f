use Rattle.std.proofs.Common.{rules, ◌≡◌, ℕ, Option, None, refl, sym, subst}
use Rattle.std.specs.FinMap.{get}
use Rattle.hb_links.specs.Stirring.{Hears}
use Rattle.hb_links.proofs.Hearing.{gone_hears, own_hears, none_hears, some_hears}
use Rattle.hb_links.proofs.links.Links.tell_left.Goals as goal

pub returns-then-is_none-clause-hears : goal.returns-then-is_none-clause-hears
returns-then-is_none-clause-hears c =
    let none : get c.args.self.now.links c.in_ok-family.family.link ≡ None = search rules in
    gone_hears c.args.self.now c.in_ok-family.family (c.in_ok-family.was {u = tt}) none

pub returns-then-family-clause-hears : goal.returns-then-family-clause-hears
returns-then-family-clause-hears c = own_hears c.args.self.now c.in_ok-family.family (c.in_ok-family.was {u = tt})

pub returns-in_err-up-clause-hears : goal.returns-in_err-up-clause-hears
returns-in_err-up-clause-hears c =
    subst (λ (o : Option ℕ). Hears o c.args.self.now c.tell_up.new.self) (sym c.from_residual-in_err-up.ensures)
    (none_hears c.args.self.now c.tell_up.new.self c.in_ok-family.family (c.in_ok-family.was {u = tt}) c.if-family.false _ refl
    (c.in_err-up.ensures {u = tt})).0

pub returns-in_err-up-clause-same : goal.returns-in_err-up-clause-same
returns-in_err-up-clause-same c =
    (none_hears c.args.self.now c.tell_up.new.self c.in_ok-family.family (c.in_ok-family.was {u = tt}) c.if-family.false _ refl
    (c.in_err-up.ensures {u = tt})).1

pub returns-clause-hears : goal.returns-clause-hears
returns-clause-hears c =
    (some_hears c.args.self.now c.tell_up.new.self c.in_ok-family.family (c.in_ok-family.was {u = tt}) c.if-family.false c.in_ok-up.up _
    refl (c.in_ok-up.ensures {u = tt})).0

pub returns-clause-same : goal.returns-clause-same
returns-clause-same c =
    (some_hears c.args.self.now c.tell_up.new.self c.in_ok-family.family (c.in_ok-family.was {u = tt}) c.if-family.false c.in_ok-up.up _
    refl (c.in_ok-up.ensures {u = tt})).1
