use Rattle.std.proofs.Common.{refl}
use Rattle.hb_hpack.specs.Table.{fitting}
use Rattle.hb_hpack.proofs.header.HeaderList.new.Goals as goal

pub returns : goal.returns
unfolding fitting
returns c = record { kept = c.in_ok-with_capacity.ensures; size = refl }
