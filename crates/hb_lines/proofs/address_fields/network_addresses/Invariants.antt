use Rattle.std.proofs.Common.{◌≡◌, map, take}
use Rattle.serde_json.specs.View.{view}
use Rattle.hb_lines.specs.AddressFields.{network_address_data}
use Rattle.hb_lines.proofs.address_fields.network_addresses.Given as goal

abbrev pub invariant-loop-address : goal.invariant-loop-address
invariant-loop-address l = map view l.values.items ≡ map network_address_data (take l.address-index l.addresses)
