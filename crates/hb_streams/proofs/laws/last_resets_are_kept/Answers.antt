use Rattle.hb_streams.proofs.Lasts.{last_are_kept}
use Rattle.hb_streams.proofs.laws.last_resets_are_kept.Goals as goal

pub returns : goal.returns
returns c = last_are_kept
