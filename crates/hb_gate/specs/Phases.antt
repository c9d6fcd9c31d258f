-- The phases of the code, and the stages of its streams, in the machine's words.
use Rattle.std.specs.Prelude.{Bool, true, false}
use Rattle.hb_gateway.specs.Gateway as m
use Rattle.hb_gateway.specs.Response as stages
use Rattle.hb_gate.specs.declared.phase.Phase.{Phase}
use Rattle.hb_gate.specs.declared.phase.Phase.TheVariants.{Opening, Serving, Faulted, Closing, Closed}
use Rattle.hb_gate.specs.declared.stream.Stage.{Stage}
use Rattle.hb_gate.specs.declared.stream.Stage.TheVariants as stage

abbrev pub phase_of : Phase → m.Phase
phase_of Opening = m.opening
phase_of Serving = m.serving
phase_of (Faulted code) = m.faulted code
phase_of (Closing cause) = m.closing cause
phase_of Closed = m.closed

abbrev pub stage_of : Stage → stages.Stage
stage_of stage.Asked = stages.asked
stage_of stage.Carrying = stages.carrying
stage_of (stage.Failing code) = stages.failing code
stage_of stage.Over = stages.over

-- bytes come and go
abbrev pub is_serving : Phase → Bool
is_serving Serving = true
is_serving phase = false
