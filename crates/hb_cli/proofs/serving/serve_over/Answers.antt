use Rattle.std.proofs.Common.{subst}
use Rattle.std.proofs.lemmas.Option.{IfSome_then}
use Rattle.hb_audit.specs.HeldBy.{each, answers_by}
use Rattle.hb_serve.specs.Served.{Serves, heard_of}
use Rattle.hb_serve.specs.declared.words.ServeWords.{ServeWords}
use Rattle.hb_cli.proofs.serving.serve_over.Goals as goal

pub returns-clause-worked : goal.returns-clause-worked
returns-clause-worked g c =
    let heard = heard_of (answers_by g.A.Audit.notes g.A.Audit.answers) (each c.args.audits.now) (each c.serve.new.audits) in (
      λ fresh. IfSome_then (g.W.World.trace c.serve.new.world) (c.serve.ensures.served fresh)
          (λ trace run. (
            c.serve.new.keep,
            subst (λ (w : ServeWords). Serves w c.serve.result c.serve.new.keep heard trace) c.in_ok-asked.ensures run,
          )),
      c.serve.ensures.faults.counts,
    )
