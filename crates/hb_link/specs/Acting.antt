-- Which act is due of a tunnel. No public clause cites this file.
use Rattle.std.specs.Prelude.{◌≡◌, ℕ, ◌<◌, Option, Some, None, if◌then◌else◌}
use Rattle.std.specs.FinMap.{get}
use Rattle.hb_base.specs.declared.door.Why.TheVariants as whys
use Rattle.hb_world.specs.declared.act.Act.{Act}
use Rattle.hb_world.specs.declared.act.Act.TheVariants as act
use Rattle.hb_inbound.specs.Tunnel as t
use Rattle.hb_inbound.specs.Tunnel.{Tunnel as Machine, may_shut}
use Rattle.hb_link.specs.declared.link.Link.{Link}
use Rattle.hb_link.specs.declared.tunnel.Tunnel.{Tunnel}
use Rattle.hb_link.specs.Tunnels.{stage_of, tunnel_of}

-- its dial, the shut of its upstream, or that one's close
abbrev pub act_by : (l s : ℕ) → t.Stage → Machine → Option Act
act_by l s t.due x = Some (act.Dial x.target (whys.Upstream l s))
act_by l s t.live x = if may_shut x then Some (act.Shut x.up) else None
act_by l s (t.over why) x = Some (act.Close x.up why)
act_by l s stage x = None

abbrev pub act_here : (l s : ℕ) → Tunnel → Option Act
act_here l s k = act_by l s (stage_of k.stage) (tunnel_of k)

abbrev pub act_in : (l s : ℕ) → Option Tunnel → Option Act
act_in l s None = None
act_in l s (Some k) = act_here l s k

abbrev pub act_on : Link → ℕ → Option Act
act_on k s = act_in k.number s (get k.tunnels s)

-- the first stream on which one is due
abbrev pub IsFirstDue : Link → Option (ℕ × Act) → Type 0
IsFirstDue k None = (s : ℕ) → act_on k s ≡ None
IsFirstDue k (Some due) = (act_on k due.0 ≡ Some due.1) × ((s : ℕ) → s < due.0 → act_on k s ≡ None)
