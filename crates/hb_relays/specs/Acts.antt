-- Which call of the world is due of all links.
use Rattle.std.specs.Prelude.{◌≡◌, ◌⊎◌, ℕ, true, List, Option, Some, None}
use Rattle.hb_captured.specs.Answer.{address_of, why_for}
use Rattle.hb_captured.specs.Captured as captured
use Rattle.hb_captured.specs.Part.{Part, entry, up}
use Rattle.hb_gateway.specs.Calm as gateway_calm
use Rattle.hb_gateway.specs.Part as gateway
use Rattle.hb_model.specs.declared.config.NodeConfig.{NodeConfig}
use Rattle.hb_proxy.specs.Machine.{Machine, outward}
use Rattle.hb_proxy.specs.Points.{Point, of_plain, of_gate}
use Rattle.hb_proxy.specs.Runs.{ControlRests, DialsGate, Lets, Steps, StandsFor}
use Rattle.hb_world.specs.declared.act.Act.{Act}
use Rattle.hb_world.specs.declared.act.Act.TheVariants as act
use Rattle.hb_world.specs.declared.entry.Entry.{Entry}
use Rattle.hb_world.specs.declared.entry.Entry.TheVariants as e
use Rattle.hb_relays.specs.Shows.{IsIdle, ShowsRelays}
use Rattle.hb_relays.specs.declared.relays.Relays.{Relays}

-- an entry of a link, or of an upstream, comes behind the run, and the code shows the links with it
pub record Does (new : Relays) (g : NodeConfig) (x : Machine) (l : ℕ) (p : Part) : Type 0 where
  pub y : Machine
  pub steps : Steps g x (of_plain l p) y
  pub shows : ShowsRelays g new (outward y)

-- and one of a link to a gateway
pub record DoesGate (new : Relays) (g : NodeConfig) (x : Machine) (n : ℕ) (p : gateway.Part) : Type 0 where
  pub y : Machine
  pub steps : Steps g x (of_gate n p) y
  pub shows : ShowsRelays g new (outward y)

abbrev pub DoesUp : Relays → NodeConfig → Machine → Entry → Type 0
DoesUp new g x z = (l : ℕ) × Does new g x l (up z)

-- an act that was given, of a run whose links the code showed
abbrev pub ActsOn : Option Act → Relays → NodeConfig → Machine → Type 0
ActsOn None new g x =
    ShowsRelays g new (outward x) × ((l : ℕ) → IsIdle (x.plain l)) × ((n : ℕ) → gateway_calm.close_due (x.gates n).phase ≡ None)
ActsOn (Some (act.Dial to why)) new g x =
    ShowsRelays g new (outward x) × (l : ℕ) × (why ≡ why_for (x.plain l).aim (x.plain l).door l) × ((x.plain l).stage ≡ captured.due)
    × DialsGate x l × (to ≡ address_of (x.plain l).aim)
ActsOn (Some (act.Shut u)) new g x = Does new g x u (entry (e.Shut u)) ⊎ DoesUp new g x (e.Shut u)
ActsOn (Some (act.Close u cause)) new g x =
    Does new g x u (entry (e.Closed u cause)) ⊎ (DoesUp new g x (e.Closed u cause) ⊎ DoesGate new g x u (gateway.entry (e.Closed u cause)))

-- A dial is due until its answer is told. A shut or a close counts as done: it may come where the control plane rests, and nothing more
-- happens by itself on an inbound link
abbrev pub Acts : Option Act → Relays → Relays → Type 0
Acts due old new =
    (g : NodeConfig) (x : Machine) (points : List Point) → StandsFor g x points → ShowsRelays g old (outward x) → ControlRests x.control
    → ((k : ℕ) → Lets true (x.inbound k)) → ActsOn due new g x
