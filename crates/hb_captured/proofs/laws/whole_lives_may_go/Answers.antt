use Rattle.hb_captured.proofs.Rows.{refused_may_go, done_may_go, revoked_may_go}
use Rattle.hb_captured.proofs.laws.whole_lives_may_go.Goals as goal

pub returns : goal.returns
returns c = record { refused = refused_may_go; done = done_may_go; revoked = revoked_may_go }
