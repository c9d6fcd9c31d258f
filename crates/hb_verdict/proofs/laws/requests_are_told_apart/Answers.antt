use Rattle.std.proofs.Common.{refl}
use Rattle.hb_verdict.proofs.Asked.{asks_so, elsewhere}
use Rattle.hb_verdict.proofs.laws.requests_are_told_apart.Goals as goal

pub returns : goal.returns
returns c = record {
  asks = asks_so;
  late = refl;
  twice = refl;
  status = refl;
  no_target = refl;
  scheme = refl;
  upper_case = refl;
  no_name = refl;
  get = refl;
  elsewhere = elsewhere;
}
