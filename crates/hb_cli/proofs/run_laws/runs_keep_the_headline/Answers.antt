use Rattle.hb_cli.proofs.Keeping.{replay_keeps, serve_keeps}
use Rattle.hb_cli.proofs.run_laws.runs_keep_the_headline.Goals as goal

pub returns-clause-replays : goal.returns-clause-replays
returns-clause-replays g c = λ r status e p asks behind. replay_keeps r status e behind p asks

pub returns-clause-serves : goal.returns-clause-serves
returns-clause-serves g c = λ r status e s asks behind. serve_keeps r status e behind s asks
