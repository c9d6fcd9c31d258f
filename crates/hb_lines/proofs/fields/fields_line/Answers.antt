use Rattle.std.proofs.Common.{ap, ◌∙◌}
use Rattle.serde_json.specs.Written.{has_float}
use Rattle.hb_held.specs.Rows.{row_as}
use Rattle.hb_lines.proofs.FieldsNoFloats.{fields_without}
use Rattle.hb_lines.proofs.fields.fields_line.Goals as goal

pub line_of-requires : goal.line_of-requires
line_of-requires c = ap has_float c.in_ok-value.ensures ∙ fields_without (row_as c.args.row.now)
