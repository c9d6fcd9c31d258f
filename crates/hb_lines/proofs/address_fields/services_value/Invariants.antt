use Rattle.std.proofs.Common.{◌≡◌, take}
use Rattle.std.specs.List.{fold}
use Rattle.serde_json.specs.Data.{no_members}
use Rattle.hb_lines.specs.AddressFields.{put_service}
use Rattle.hb_lines.specs.Object.{members_as}
use Rattle.hb_lines.proofs.address_fields.services_value.Given as goal

abbrev pub invariant-loop-service : goal.invariant-loop-service
invariant-loop-service l = members_as l.fields ≡ fold put_service no_members (take l.service-index l.services)
