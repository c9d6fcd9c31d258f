use Rattle.std.proofs.Common.{◌∙◌, sym, ap, Some, None}
use Rattle.hb_base.specs.Octets.{ip_of_octets}
use Rattle.hb_base.proofs.AddressLemmas.{v4_parsed}
use Rattle.hb_base.proofs.ip.read_v4.Goals as goal

pub returns-in_err-address : goal.returns-in_err-address
returns-in_err-address c =
    c.from_residual.ensures
    ∙ sym (v4_parsed c.args.b.now _ None c.parse_ascii.ensures (sym c.in_err-address.was ∙ c.ok.ensures.value))

pub returns : goal.returns
returns c =
    c.from_octets.ensures ∙ ap ip_of_octets c.octets.ensures
    ∙ sym (v4_parsed c.args.b.now _ (Some c.in_ok-address.address) c.parse_ascii.ensures (sym c.in_ok-address.was ∙ c.ok.ensures.value))
