use Rattle.hb_audit.specs.HeldBy.{each, answers_by}
use Rattle.hb_serve.specs.Served.{heard_of}
use Rattle.hb_cli.specs.Replaying.{run_state}
use Rattle.hb_words.specs.AskedRun.{replay_seen}
use Rattle.hb_cli.proofs.Makes.{run_printed}
use Rattle.hb_cli.proofs.making.run_made.Goals as goal

pub returns-clause-runs : goal.returns-clause-runs
returns-clause-runs g c =
    run_printed c.args.make.now
    (heard_of (answers_by g.A.Audit.notes g.A.Audit.answers) (each c.args.audits.now) (each c.replay_lines.new.audits))
    (run_state c.replay_lines.new.script c.replay_lines.new.keep) _ _ (replay_seen c.made_run.result) _ c.in-Ok-replay_lines.told.end _
    c.print_total.result c.made_run.ensures c.in-Ok.ensures c.in-Ok-replay_lines.ensures.replays c.in-Ok-replay_lines.ensures.tells
    c.print_total.ensures.prints
