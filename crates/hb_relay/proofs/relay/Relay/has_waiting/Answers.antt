use Rattle.hb_tunnel.proofs.Whole.{is_whole}
use Rattle.std.proofs.Common.{rules}
use Rattle.hb_relay.proofs.Streaming.{waiting_so}
use Rattle.hb_relay.proofs.relay.Relay.has_waiting.Goals as goal

pub returns : goal.returns
returns c =
    waiting_so c.args.self.now c.held_up.result.now _ (is_whole _ _ c.held_up.ensures) (λ is. search rules) (λ some. search rules)
