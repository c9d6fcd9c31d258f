-- What the words of a command ask of a run.
use Rattle.std.specs.Prelude.{ℕ, Option}
use Rattle.hb_model.specs.declared.config.NodeConfig.{NodeConfig}
use Rattle.hb_serve.specs.declared.words.ServeWords.{ServeWords}
use Rattle.hb_words.specs.Command.{RunWords}

-- the node that is asked for
abbrev pub config_of : RunWords → NodeConfig
config_of r = record {
  id = r.id;
  discovery = r.discovery;
  network = r.network;
  node = r.node;
  doors = record { inbound = r.inbound; outbound = r.outbound; plain = r.plain };
  hbone_port = r.hbone_port;
  limits = record { links = 1024; tunnels = r.tunnels };
}

-- its run, which so many ticks end, if a number of them does
abbrev pub words_of : RunWords → Option ℕ → ServeWords
words_of r ticks = record { config = config_of r; turns = r.turns; ticks = ticks }
