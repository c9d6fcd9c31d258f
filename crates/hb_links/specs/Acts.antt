-- Which call of the world is due of all links.
use Rattle.std.specs.Prelude.{◌≡◌, ◌⊎◌, ℕ, true, List, Option, Some, None}
use Rattle.hb_base.specs.declared.door.Why.TheVariants as whys
use Rattle.hb_inbound.specs.Part as part
use Rattle.hb_inbound.specs.Part.{Part}
use Rattle.hb_inbound.specs.Tunnel as t
use Rattle.hb_link.specs.Acts.{NoneIsDue}
use Rattle.hb_model.specs.declared.config.NodeConfig.{NodeConfig}
use Rattle.hb_proxy.specs.Machine.{Machine}
use Rattle.hb_proxy.specs.Points.{Point, of_link}
use Rattle.hb_proxy.specs.Runs.{ControlRests, GatesLet, PlainLets, Steps, StandsFor}
use Rattle.hb_world.specs.declared.act.Act.{Act}
use Rattle.hb_world.specs.declared.act.Act.TheVariants as act
use Rattle.hb_world.specs.declared.entry.Entry.{Entry}
use Rattle.hb_world.specs.declared.entry.Entry.TheVariants as e
use Rattle.hb_links.specs.declared.links.Links.{Links}
use Rattle.hb_links.specs.Shows.{ShowsAll}

-- an entry of a link, or of an upstream, comes behind the run, and the code shows the links with it
pub record Does (new : Links) (g : NodeConfig) (x : Machine) (l : ℕ) (p : Part) : Type 0 where
  pub y : Machine
  pub steps : Steps g x (of_link l p) y
  pub shows : ShowsAll new y.inbound

abbrev pub DoesUp : Links → NodeConfig → Machine → Entry → Type 0
DoesUp new g x z = (l s : ℕ) × Does new g x l (part.up s z)

-- an act that was given, of a run whose links the code showed
abbrev pub ActsOn : Option Act → Links → NodeConfig → Machine → Type 0
ActsOn None new g x = ShowsAll new x.inbound × ((l : ℕ) → NoneIsDue (x.inbound l))
ActsOn (Some (act.Dial to why)) new g x =
    ShowsAll new x.inbound × (l s : ℕ) × (why ≡ whys.Upstream l s) × (((x.inbound l).tunnels s).stage ≡ t.due)
    × (to ≡ ((x.inbound l).tunnels s).target)
ActsOn (Some (act.Shut u)) new g x = DoesUp new g x (e.Shut u)
ActsOn (Some (act.Close u cause)) new g x = Does new g x u (part.entry (e.Closed u cause)) ⊎ DoesUp new g x (e.Closed u cause)

-- A dial is due until its answer is told. A shut or a close counts as done: it may come where the control plane rests, and nothing more
-- happens by itself on a plain link, or on one to a gateway
abbrev pub Acts : Option Act → Links → Links → Type 0
Acts due old new =
    (g : NodeConfig) (x : Machine) (points : List Point) → StandsFor g x points → ShowsAll old x.inbound → ControlRests x.control
    → ((l : ℕ) → PlainLets true (x.plain l)) → GatesLet true x → ActsOn due new g x
