use Rattle.hb_cli.proofs.Makes.{makes_at}
use Rattle.hb_cli.proofs.Pages.{pages_at}
use Rattle.hb_cli.proofs.Serves.{serves_at}
use Rattle.hb_cli.proofs.run_laws.others_end_by_their_tables.Goals as goal

pub returns-clause-serves : goal.returns-clause-serves
returns-clause-serves g c = λ r status e s asks. serves_at s r asks status e

pub returns-clause-makes : goal.returns-clause-makes
returns-clause-makes g c = λ r status e m asks. makes_at m r asks status e

pub returns-clause-pages : goal.returns-clause-pages
returns-clause-pages g c = λ r status e p asks. pages_at p r asks status e
