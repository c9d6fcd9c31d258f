-- Each place that one law refuses alone may stand behind points that obey it: the place is what breaks the law.
use Rattle.std.specs.Prelude.{List}
use Rattle.hb_model.specs.declared.config.NodeConfig.{NodeConfig}
use Rattle.hb_proxy.specs.Points.{Point}
use Rattle.hb_world.specs.declared.entry.Entry.{Entry}

-- some points obey the law, and behind them stands such a place
abbrev pub MayBeTried : (NodeConfig → List Point → Type 0) → (NodeConfig → List Point → Entry → Type 0) → Type 0
MayBeTried law P = (g : NodeConfig) → (before : List Point) × (z : Entry) × law g before × P g before z
