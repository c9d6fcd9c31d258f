-- What contracts see of the words that were read: what they ask for, without where it lies in memory.
use Rattle.std.specs.Prelude.{Result, Ok, Err}
use Rattle.hb_base.specs.declared.or.Or.{Or}
use Rattle.hb_words.specs.declared.asks.Check.{Check}
use Rattle.hb_words.specs.declared.asks.Route.{Route as GivenRoute}
use Rattle.hb_words.specs.declared.asks.Command.{Command as Given}
use Rattle.hb_words.specs.declared.asks.Command.TheVariants as given
use Rattle.hb_words.specs.declared.fault.Why.{Why}
use Rattle.hb_words.specs.AskedRun.{replay_seen, serve_seen}
use Rattle.hb_words.specs.Command.{Question, Route, Command, checks, routes, shows, replays, serves, makes, prints}

abbrev pub question : Check → Question
question c = record { node = c.node.now; network = c.network.now; peer = c.peer; target = c.target; explain = c.explain }

abbrev pub route_seen : GivenRoute → Route
route_seen r = record { node = r.node.now; network = r.network.now; hbone_port = r.hbone_port; source = r.source; target = r.target }

abbrev pub route_answer : Result GivenRoute Why → Result Route Why
route_answer (Ok r) = Ok (route_seen r)
route_answer (Err why) = Err why

abbrev pub command_of : Given → Command
command_of (given.Check c) = checks (question c)
command_of (given.Route r) = routes (route_seen r)
command_of (given.Show s) = shows s
command_of (given.Replay r) = replays (replay_seen r)
command_of (given.Serve s) = serves (serve_seen s)
command_of (given.Make m) = makes m
command_of (given.Print p) = prints p

abbrev pub asked : {E : Type 0} → Result Check (Or E) → Result Question (Or E)
asked (Ok c) = Ok (question c)
asked (Err why) = Err why

abbrev pub commanded : {E : Type 0} → Result Given (Or E) → Result Command (Or E)
commanded (Ok c) = Ok (command_of c)
commanded (Err why) = Err why
