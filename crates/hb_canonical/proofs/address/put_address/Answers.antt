use Rattle.std.proofs.Common.{◌^◌, ◌<◌, length, ap, arith, length-append}
use Rattle.hb_canonical.specs.Address.{canonical_address}
use Rattle.hb_canonical.proofs.Kept.{also_ok}
use Rattle.hb_canonical.proofs.RecordMade.{address_back}
use Rattle.hb_canonical.proofs.address.put_address.Goals as goal

pub returns-clause-reads_back : goal.returns-clause-reads_back
returns-clause-reads_back c =
    let r = c.args.r.now in
    let own = canonical_address r in
    let fits : length own < 2 ^ 64 = omega (
      arith,
      ap length c.as_slice.ensures.value,
      ap length c.in_ok-put.ensures,
      length-append c.new-own.result.items own,
    ) in
    also_ok c.extend_from_slice.result _ (λ bytes octets is. address_back r bytes fits octets is)
