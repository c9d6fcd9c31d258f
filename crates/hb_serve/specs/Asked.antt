-- The node that the event loop runs: a proxy that is asked for so, with audits to which its notes are told.
use Rattle.std.specs.Prelude.{◌≡◌, List, []}
use Rattle.hb_audit.specs.Tells.{Answering}
use Rattle.hb_base.specs.declared.ip.Ip.TheVariants.{V4}
use Rattle.hb_base.specs.declared.note.Note.{Note}
use Rattle.hb_held.specs.Held.{no_doors}
use Rattle.hb_model.specs.declared.config.NodeConfig.{NodeConfig}
use Rattle.hb_whole.specs.Stands.{Stands, config_of}
use Rattle.hb_whole.specs.declared.proxy.Proxy.{Proxy}
use Rattle.hb_world.specs.declared.entry.Entry.{Entry}
use Rattle.hb_reason.specs.Reasons.{Hear}

-- what a run is asked for where no call names it

abbrev pub nobody : NodeConfig
nobody = record {
  id = [];
  discovery = record { ip = V4 0; port = 0 };
  network = [];
  node = [];
  doors = no_doors;
  hbone_port = 15008;
  limits = record { links = 1024; tunnels = 4096 };
}

module _ {A : Type 0} (answers : Answering A) where
  -- the proxy stands for a trace, once these notes of it were taken; it is asked for so, and of these audits those are left to which the
  -- notes were told, with their reasons
  abbrev pub StandsWith : NodeConfig → List A → List Note → Proxy → List A → List Entry → Type 0
  StandsWith g before taken p now trace = Stands taken p trace × ((config_of p ≡ g) × Hear answers g trace before now taken)
