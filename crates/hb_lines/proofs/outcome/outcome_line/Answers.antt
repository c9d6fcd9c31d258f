use Rattle.std.proofs.Common.{ap, ◌∙◌}
use Rattle.serde_json.specs.Written.{has_float}
use Rattle.hb_lines.proofs.NoFloats.{outcome_without}
use Rattle.hb_lines.proofs.outcome.outcome_line.Goals as goal

pub line_of-requires : goal.line_of-requires
line_of-requires c = ap has_float c.in_ok-value.ensures ∙ outcome_without c.args.kind c.args.nonce.now c.args.outcome.now
