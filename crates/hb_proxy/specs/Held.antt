-- What is held at the start of a run.
use Rattle.hb_held.specs.Held.{Resources, nothing_held}
use Rattle.hb_model.specs.declared.config.NodeConfig.{NodeConfig}

abbrev pub at_start : NodeConfig → Resources
at_start g = nothing_held g.network g.node g.doors
