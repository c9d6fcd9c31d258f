use Rattle.std.proofs.Common.{refl, rules}
use Rattle.hb_turns.specs.Listens.{given}
use Rattle.hb_turns.proofs.Leading.{begins_leads, begins_stands, fails_leads, stops_leads}
use Rattle.hb_turns.proofs.Listening.{lacks_finishes, begun_finishes, begun_more, begun_end, listens_reckon}
use Rattle.hb_turns.proofs.Looking.{stops_look, fails_look, begins_look}
use Rattle.hb_turns.proofs.service.run_on.Goals as goal

pub returns-in_err-end-clause-finishes : goal.returns-in_err-end-clause-finishes
returns-in_err-end-clause-finishes g c = λ had.
    lacks_finishes g.N.Node.stands g.N.Node.shown c.from_residual.result c.listen.new.run c.args.words _ (search rules)
    ((c.in_err-end.ensures {u = tt}).begun had)

pub returns-in-Some-clause-finishes : goal.returns-in-Some-clause-finishes
returns-in-Some-clause-finishes g c = λ had.
    begun_finishes g.N.Node.stands g.N.Node.shown c.in-Some.end c.listen.new.run c.args.words _
    (begun_end g.N.Node.stands g.N.Node.shown c.in_ok-end.field-0 c.in-Some.end c.listen.new.run (given c.args.words.doors) _ c.in-Some.is
    ((c.in_ok-end.ensures {u = tt}).begun had))

pub returns-clause-finishes : goal.returns-clause-finishes
returns-clause-finishes g c = λ had.
    c.turns.ensures.finishes c.args.words refl
    (listens_reckon g.N.Node.stands g.N.Node.shown c.listen.new.run c.args.words _
    (begun_more g.N.Node.stands g.N.Node.shown c.in_ok-end.field-0 c.listen.new.run (given c.args.words.doors) _ c.in-None.is
    ((c.in_ok-end.ensures {u = tt}).begun had)))

pub returns-in_err-end-clause-looks : goal.returns-in_err-end-clause-looks
returns-in_err-end-clause-looks g c = λ had.
    stops_look g.N.Node.stands g.N.Node.shown c.listen.new.run (given c.args.words.doors) _ ((c.in_err-end.ensures {u = tt}).begun had)

pub returns-in-Some-clause-looks : goal.returns-in-Some-clause-looks
returns-in-Some-clause-looks g c = λ had.
    fails_look g.N.Node.stands g.N.Node.shown c.in-Some.end c.listen.new.run (given c.args.words.doors) _
    (begun_end g.N.Node.stands g.N.Node.shown c.in_ok-end.field-0 c.in-Some.end c.listen.new.run (given c.args.words.doors) _ c.in-Some.is
    ((c.in_ok-end.ensures {u = tt}).begun had))

pub returns-clause-looks : goal.returns-clause-looks
returns-clause-looks g c = λ had.
    c.turns.ensures.looks
    (begins_look g.N.Node.stands g.N.Node.shown c.listen.new.run (given c.args.words.doors) _
    (begun_more g.N.Node.stands g.N.Node.shown c.in_ok-end.field-0 c.listen.new.run (given c.args.words.doors) _ c.in-None.is
    ((c.in_ok-end.ensures {u = tt}).begun had)))

pub returns-in_err-end-clause-leads : goal.returns-in_err-end-clause-leads
returns-in_err-end-clause-leads g c = λ had.
    stops_leads g.N.Node.stands g.N.Node.shown c.listen.new.run (given c.args.words.doors) _ ((c.in_err-end.ensures {u = tt}).begun had)

pub returns-in-Some-clause-leads : goal.returns-in-Some-clause-leads
returns-in-Some-clause-leads g c = λ had.
    fails_leads g.N.Node.stands g.N.Node.shown c.in-Some.end c.listen.new.run (given c.args.words.doors) _
    (begun_end g.N.Node.stands g.N.Node.shown c.in_ok-end.field-0 c.in-Some.end c.listen.new.run (given c.args.words.doors) _ c.in-Some.is
    ((c.in_ok-end.ensures {u = tt}).begun had))

pub returns-clause-leads : goal.returns-clause-leads
returns-clause-leads g c = λ had.
    let begun = begun_more g.N.Node.stands g.N.Node.shown c.in_ok-end.field-0 c.listen.new.run (given c.args.words.doors) _ c.in-None.is
    ((c.in_ok-end.ensures {u = tt}).begun had) in
    c.turns.ensures.leads (begins_stands g.N.Node.stands g.N.Node.shown c.listen.new.run (given c.args.words.doors) _ begun)
    (begins_leads g.N.Node.stands g.N.Node.shown c.listen.new.run (given c.args.words.doors) _ begun)
