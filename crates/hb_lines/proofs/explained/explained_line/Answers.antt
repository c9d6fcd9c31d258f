use Rattle.std.proofs.Common.{ap, ◌∙◌}
use Rattle.serde_json.specs.Written.{has_float}
use Rattle.hb_lines.proofs.NoFloats.{explained_without}
use Rattle.hb_lines.proofs.explained.explained_line.Goals as goal

pub line_of-requires : goal.line_of-requires
line_of-requires c = ap has_float c.in_ok-value.ensures ∙ explained_without c.args.policy.now c.args.rule
