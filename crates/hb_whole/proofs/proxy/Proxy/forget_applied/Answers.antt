use Rattle.hb_whole.proofs.Taking.{forgets}
use Rattle.hb_whole.proofs.proxy.Proxy.forget_applied.Goals as goal

pub returns-clause-stands : goal.returns-clause-stands
returns-clause-stands c = forgets (record c.args.self.now.side { applied = c.clear.new.self }) c.args.self.now
