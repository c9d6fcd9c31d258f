use Rattle.std.proofs.Common.{◌∙◌, rules, sym, subst}
use Rattle.hb_turns.specs.Stands.{Lacks, Stands, Left}
use Rattle.hb_turns.specs.declared.run.Records.{Records}
use Rattle.hb_turns.proofs.Counting.{on_ok}
use Rattle.hb_turns.proofs.Holding.{each, left, stands_lacks, stands-noted}
use Rattle.hb_turns.proofs.acts.carry.Goals as goal

pub returns-in_err-take_notes-clause-keeps : goal.returns-in_err-take_notes-clause-keeps
returns-in_err-take_notes-clause-keeps g c = λ had.
    let mid = c.make_acts.new.run in
    left g.N.Node.stands g.N.Node.shown c.from_residual-in_err-take_notes.result c.take_notes.new.run _ (search rules)
    (each (Stands g.N.Node.stands g.N.Node.shown mid) (Lacks g.N.Node.stands g.N.Node.shown c.take_notes.new.run.records) _
    (λ trace s. subst (λ (r : Records). Lacks g.N.Node.stands g.N.Node.shown r trace) (sym c.take_notes.ensures.records)
    (stands_lacks g.N.Node.stands g.N.Node.shown mid trace s))
    ((c.in_ok-make_acts.ensures {u = tt}).keeps had))

pub returns-clause-keeps : goal.returns-clause-keeps
returns-clause-keeps g c = λ had.
    let mid = c.make_acts.new.run in
    let notes = c.in_ok-take_notes.ensures {u = tt} in
    each (Stands g.N.Node.stands g.N.Node.shown mid) (Left g.N.Node.stands g.N.Node.shown c.hear_all.result c.hear_all.new.run) _
    (λ trace s. c.hear_all.ensures.keeps trace
    (stands-noted g.N.Node.stands g.N.Node.shown mid c.take_notes.new.run trace notes.records notes.same notes.stirs s
    (notes.keeps trace s.matches)))
    ((c.in_ok-make_acts.ensures {u = tt}).keeps had)

pub returns-clause-idle : goal.returns-clause-idle
returns-clause-idle g c =
    let acts = (c.in_ok-make_acts.ensures {u = tt}).idle in
    let notes = c.in_ok-take_notes.ensures {u = tt} in
    let heard = c.hear_all.ensures in
    on_ok c.hear_all.result _ _
    (λ none. record {
      idle = heard.same.idle ∙ notes.same.idle ∙ acts.0;
      none_closes = heard.same.none_closes ∙ notes.same.none_closes ∙ acts.1;
      stirs = none;
      noted = heard.noted ∙ notes.taken;
    }) heard.heard
