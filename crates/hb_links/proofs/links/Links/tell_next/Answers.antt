use Rattle.std.proofs.Common.{ℕ, Option, None, refl, sym, subst}
use Rattle.hb_links.specs.Stirring.{Hears}
use Rattle.hb_links.proofs.Hearing.{last_hears, roused_hears, behind_by}
use Rattle.hb_links.proofs.links.Links.tell_next.Goals as goal

pub returns-in_err-link-clause-hears : goal.returns-in_err-link-clause-hears
returns-in_err-link-clause-hears c =
    let last = record c.args.self.now { stirs_from = None } in
    subst (λ (o : Option ℕ). Hears o c.args.self.now last) (sym c.from_residual-in_err-link.ensures)
    (last_hears c.args.self.now c.in_ok-from.from c.requires (c.in_ok-from.was {u = tt}) (c.in_err-link.ensures {u = tt}))

pub returns-clause-hears : goal.returns-clause-hears
returns-clause-hears c =
    (roused_hears c.args.self.now c.in_ok-from.from c.requires (c.in_ok-from.was {u = tt}) c.rouse_all.new.self c.in_ok-link.link
    c.checked_add-self.result (c.in_ok-link.ensures {u = tt})
    (behind_by c.in_ok-link.link c.checked_add-self.result c.checked_add-self.ensures) _ refl c.rouse_all.ensures).0

pub returns-clause-same : goal.returns-clause-same
returns-clause-same c =
    (roused_hears c.args.self.now c.in_ok-from.from c.requires (c.in_ok-from.was {u = tt}) c.rouse_all.new.self c.in_ok-link.link
    c.checked_add-self.result (c.in_ok-link.ensures {u = tt})
    (behind_by c.in_ok-link.link c.checked_add-self.result c.checked_add-self.ensures) _ refl c.rouse_all.ensures).1
