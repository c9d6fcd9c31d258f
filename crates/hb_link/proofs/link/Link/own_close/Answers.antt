use Rattle.std.proofs.Common.{refl, sym, ◌∙◌}
use Rattle.hb_link.proofs.Acting.{has_tunnel, closes}
use Rattle.hb_link.proofs.Rousing.{rouses_same}
use Rattle.hb_link.proofs.link.Link.own_close.Goals as goal

pub returns-then-is_some-clause-acts : goal.returns-then-is_some-clause-acts
returns-then-is_some-clause-acts c =
    has_tunnel c.args.self.now c.first_from.result (sym c.is_some.ensures ∙ c.if-is_some.true) c.first_from.ensures.first c.requires

pub returns-clause-acts : goal.returns-clause-acts
returns-clause-acts c =
    closes c.args.self.now c.in-Some.cause c.first_from.result (sym c.is_some.ensures ∙ c.if-is_some.false) c.first_from.ensures.first
    (sym c.close_due.ensures ∙ c.in-Some.is)

pub returns-then-is_some-clause-rouses : goal.returns-then-is_some-clause-rouses
returns-then-is_some-clause-rouses c = rouses_same c.args.self.now c.args.self.now refl refl

pub returns-in_default-clause-rouses : goal.returns-in_default-clause-rouses
returns-in_default-clause-rouses c = rouses_same c.args.self.now c.args.self.now refl refl

pub returns-clause-rouses : goal.returns-clause-rouses
returns-clause-rouses c = rouses_same c.args.self.now _ refl refl
