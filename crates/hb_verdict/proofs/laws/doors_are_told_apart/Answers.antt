use Rattle.std.proofs.Common.{refl}
use Rattle.hb_verdict.proofs.laws.doors_are_told_apart.Goals as goal

pub returns : goal.returns
returns c = record { own = record { inbound = refl; outbound = refl; plain = refl }; each = record { inbound = refl; outbound = refl; plain = refl }; each_of_both = record { inbound = refl; outbound = refl; plain = refl }; address = refl; port = refl; none = refl; nowhere = record { nowhere = λ port. refl; nowhere_of_six = λ port. refl; somewhere = λ port. refl } }
