use Rattle.std.proofs.Common.{List, IfSome, sym, subst}
use Rattle.std.proofs.lemmas.Option.{IfSome_then}
use Rattle.hb_audit.specs.HeldBy.{each, answers_by}
use Rattle.hb_audit.specs.declared.audits.Audits.{Audits}
use Rattle.hb_serve.specs.declared.asked.Asked.{Asked}
use Rattle.hb_serve.specs.Served.{Serves, heard_of}
use Rattle.hb_serve.proofs.Served.{serves_so}
use Rattle.hb_serve.proofs.service.serve_asked.Goals as goal

pub returns-clause-served : goal.returns-clause-served
returns-clause-served g c = λ fresh.
    let answers = answers_by g.A.Audit.notes g.A.Audit.answers in
    let told = IfSome_then (g.W.World.trace c.serve-node.new.world) (c.serve-node.ensures.served fresh)
    (λ trace run. serves_so answers (λ (n : Asked g.row.G.Denot g.row.A.Denot). n.proxy)
    (λ (n : Asked g.row.G.Denot g.row.A.Denot). each n.audits) g.G.Given.before g.G.Given.config _ c.args.words
    c.serve-node.result.0 c.serve-node.new.keep c.serve-node.result.1 trace c.requires.config c.loop_words-asked.ensures run) in
    subst (λ (a : Audits g.row.A.Denot). IfSome (g.W.World.trace c.serve-node.new.world)
    (Serves c.args.words c.serve-node.result.0 c.serve-node.new.keep (heard_of answers (each c.args.audits.now) (each a))))
    (sym c.into_audits.ensures)
    (subst (λ (before : List g.row.A.Denot). IfSome (g.W.World.trace c.serve-node.new.world)
    (Serves c.args.words c.serve-node.result.0 c.serve-node.new.keep (heard_of answers before (each c.serve-node.result.1.audits))))
    (sym c.requires.before) told)
