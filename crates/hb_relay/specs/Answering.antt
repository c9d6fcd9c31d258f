-- The answer of the code in the machine's words.
use Rattle.std.specs.Prelude.{Option, Some, None}
use Rattle.std.specs.Option.{option_map}
use Rattle.hb_base.specs.declared.target.Target.{Target}
use Rattle.hb_captured.specs.Answer.{Aim, straight_to, through, Answer, aims, refuses, Routing, endpoint_of}
use Rattle.hb_captured.specs.Counts.{recounted}
use Rattle.hb_gateway.specs.Key.{Key}
use Rattle.hb_gateway.specs.Keys.{key_as}
use Rattle.hb_gateway.specs.declared.key.Key.{Key as CodeKey}
use Rattle.hb_relay.specs.declared.aim.Aim.{Aim as CodeAim}
use Rattle.hb_relay.specs.declared.aim.Aim.TheVariants as aim
use Rattle.hb_relay.specs.declared.answer.Answer.{Answer as Code}
use Rattle.hb_relay.specs.declared.answer.Answer.TheVariants as code
use Rattle.hb_relay.specs.declared.routes.Routes.{Routes}

abbrev pub aim_as : CodeAim → Aim
aim_as (aim.Straight to endpoint) = straight_to to endpoint
aim_as (aim.Through key authority endpoint) = through (key_as key) authority endpoint

-- for whom a stream is to be asked for, where its way leads by a gateway, and for which authority
abbrev pub through_of : Aim → Option (Key × Target)
through_of (straight_to to endpoint) = None
through_of (through key authority endpoint) = Some (key, authority)

abbrev pub wanted_as : Option (CodeKey × Target) → Option (Key × Target)
wanted_as wanted = option_map (λ at. (key_as at.0, at.1)) wanted

abbrev pub answer_as : Code → Answer
answer_as (code.Aims aim) = aims (aim_as aim)
answer_as (code.Refuses cause status) = refuses cause status

abbrev pub routing_of : Routes → Routing
routing_of r = record { opens = r.opens; hbone_port = r.hbone_port }

-- behind an answer it counts as a connection of its endpoint
abbrev pub counted_for : Answer → Routing → Routing
counted_for (aims aim) routing = record routing { opens = recounted None (endpoint_of aim) routing.opens }
counted_for (refuses why status) routing = routing
