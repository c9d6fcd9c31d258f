-- The acts that the whole proxy gives.
use Rattle.std.specs.Prelude.{Bool, true, Option, Some, None}
use Rattle.hb_base.specs.declared.cause.Cause.{Cause}
use Rattle.hb_base.specs.declared.door.Why.{Why}
use Rattle.hb_base.specs.declared.target.Target.{Target}
use Rattle.hb_model.specs.declared.act.Act.{Act as ControlAct}
use Rattle.hb_model.specs.declared.act.Act.TheVariants as control
use Rattle.hb_world.specs.declared.act.Act.{Act}
use Rattle.hb_world.specs.declared.act.Act.TheVariants as act
use Rattle.hb_whole.specs.declared.proxy.Proxy.{Proxy}

-- one of the control plane's link
abbrev pub act_of : ControlAct → Act
act_of (control.Dial to why) = act.Dial to why
act_of (control.Close link cause) = act.Close link cause

-- an act that is due, as it is given: behind the end of the run a close, for that cause
abbrev pub given_by : Option Cause → Act → Option Act
given_by None due = Some due
given_by (Some cause) (act.Close link why) = Some (act.Close link cause)
given_by (Some cause) due = None

-- the dial that waits for its answer then
abbrev pub dial_in : Option Cause → Act → Option (Target × Why)
dial_in None (act.Dial to why) = Some (to, why)
dial_in ends due = None

-- it can't be due there
abbrev pub strange_by : Option Cause → Bool → Act → Bool
strange_by None before due = before
strange_by (Some cause) before (act.Close link why) = before
strange_by (Some cause) before due = true

abbrev pub is_strange : Proxy → Act → Bool
is_strange p due = strange_by p.ends_for p.strange due
