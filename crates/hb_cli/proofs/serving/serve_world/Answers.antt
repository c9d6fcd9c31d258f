use Rattle.hb_words.specs.AskedRun.{serve_seen}
use Rattle.hb_cli.proofs.Serves.{printed}
use Rattle.hb_cli.proofs.serving.serve_world.Goals as goal

pub returns-clause-serves : goal.returns-clause-serves
returns-clause-serves g c =
    printed (serve_seen c.args.words.now) _ _ _ c.in-Ok.served c.in-Ok-told_of.told.end _ c.print_total.result
    c.in-Ok-told_of.ensures.end c.in-Ok.ensures.worked c.in-Ok-told_of.ensures.line c.print_total.ensures.prints
