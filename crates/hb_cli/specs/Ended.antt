-- How a run ended.
use Rattle.std.specs.Prelude.{◌||◌, if◌then◌else◌, Option, None, Some}
use Rattle.hb_turns.specs.declared.served.Served.{Served}
use Rattle.hb_turns.specs.declared.served.ServeEnd.{ServeEnd}
use Rattle.hb_turns.specs.declared.served.ServeEnd.TheVariants as ends
use Rattle.hb_cli.specs.declared.ended.ReplayEnd.{ReplayEnd}
use Rattle.hb_cli.specs.declared.ended.ReplayEnd.TheVariants as replays

abbrev pub replay_end : ServeEnd → Option ReplayEnd
replay_end ends.Stopped = Some replays.Stopped
replay_end ends.WorldFault = Some replays.WorldFault
replay_end ends.TurnsSpent = Some replays.TurnsSpent
replay_end ends.NoMemory = None

-- how a run ended in which memory never lacked, for a link, for a request or for its notes; None: it did
abbrev pub ended_as : Served → Option ReplayEnd
ended_as told = if told.wanting || (told.totals.lacked || told.unkept) then None else replay_end told.end
