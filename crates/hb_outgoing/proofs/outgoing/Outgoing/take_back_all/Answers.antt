use Rattle.std.proofs.Common.{◌≤◌, length, sym, subst}
use Rattle.hb_outgoing.specs.Waiting.{Waiting, octets_of}
use Rattle.hb_outgoing.proofs.Views.{all_taken_is_short}
use Rattle.hb_outgoing.proofs.outgoing.Outgoing.take_back_all.Goals as goal

pub returns-clause-shorter : goal.returns-clause-shorter
returns-clause-shorter c =
    subst (λ (w : Waiting). length (octets_of w) ≤ length (octets_of c.args.self.now)) (sym c.take.ensures.left)
    (all_taken_is_short c.args.self.now)
