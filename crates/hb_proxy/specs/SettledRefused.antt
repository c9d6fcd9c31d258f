-- Waits in front of which something is left to be done, and one in front of which nothing is.
use Rattle.std.specs.Prelude.{◌≡◌, ℕ, ◌<◌, ◌≤◌, true, false, List, [], ◌∷◌, length}
use Rattle.hb_base.specs.declared.door.Door.TheVariants as door
use Rattle.hb_base.specs.declared.door.Why.TheVariants as whys
use Rattle.hb_base.specs.declared.target.Target.{Target}
use Rattle.hb_conn.specs.Observed as connection
use Rattle.hb_conn.specs.Observed.{count_put}
use Rattle.hb_inbound.specs.Calm.{may_end}
use Rattle.hb_inbound.specs.Inbound.{serving}
use Rattle.hb_inbound.specs.Tunnel.{due, live, may_shut}
use Rattle.hb_model.specs.declared.config.NodeConfig.{NodeConfig}
use Rattle.hb_ready.specs.Sight.{asleep, has_ended, is_open}
use Rattle.hb_tunnel.specs.Tunnel.{down_size}
use Rattle.hb_world.specs.declared.entry.Entry.{Entry}
use Rattle.hb_world.specs.declared.entry.Entry.TheVariants as e
use Rattle.hb_world.specs.declared.entry.ReadyItem.TheVariants as item
use Rattle.hb_world.specs.declared.entry.Way.TheVariants as way
use Rattle.hb_world.specs.declared.entry.Woken.{Woken}
use Rattle.hb_world.specs.Trace.{is_waited, lives}
use Rattle.hb_proxy.specs.Machine.{Machine}
use Rattle.hb_proxy.specs.Points.{Point}
use Rattle.hb_proxy.specs.Settled.{IsSettled, SettledIn, SettledLaw}
use Rattle.hb_proxy.specs.Ups.{Joins}

-- the link l serves, and the tunnel on its stream s lives
pub record HasLive (x : Machine) (l s : ℕ) : Type 0 where
  pub serving : (x.inbound l).phase ≡ serving
  pub live : ((x.inbound l).tunnels s).stage ≡ live

-- A TUNNEL

-- bytes of the upstream wait, and the windows and the output let some go
abbrev pub KeepsDown : Type 0
KeepsDown = (g : NodeConfig) (x : Machine) (points : List Point) (trace : List Entry) (l s : ℕ) → HasLive x l s
    → 0 < count_put (x.inbound l).conn s ((x.inbound l).tunnels s).ways.down.held → IsSettled g x points trace → ⊥

-- bytes wait to go to the upstream, which isn't asleep for writing
abbrev pub KeepsUp : Type 0
KeepsUp = (g : NodeConfig) (x : Machine) (points : List Point) (trace : List Entry) (l s u : ℕ) → HasLive x l s
    → Joins ((x.inbound l).tunnels s) u → 0 < length ((x.inbound l).tunnels s).ways.up.held → asleep (way.Write u) trace ≡ false
    → IsSettled g x points trace → ⊥

-- the upstream may be read, has room for what it sends, and isn't asleep for reading
abbrev pub LeavesUnread : Type 0
LeavesUnread = (g : NodeConfig) (x : Machine) (points : List Point) (trace : List Entry) (l s u : ℕ) → HasLive x l s
    → Joins ((x.inbound l).tunnels s) u → ((x.inbound l).tunnels s).ways.down.has_ended ≡ false
    → length ((x.inbound l).tunnels s).ways.down.held < down_size → asleep (way.Read u) trace ≡ false → IsSettled g x points trace → ⊥

-- bytes were written to the upstream whose credit wasn't given
abbrev pub KeepsCredit : Type 0
KeepsCredit = (g : NodeConfig) (x : Machine) (points : List Point) (trace : List Entry) (l s : ℕ) → HasLive x l s
    → 0 < ((x.inbound l).tunnels s).owed → IsSettled g x points trace → ⊥

-- the peer has ended and all went up, and the upstream isn't shut; the upstream has ended and all went down, and the stream isn't ended
abbrev pub LeavesUnshut : Type 0
LeavesUnshut = (g : NodeConfig) (x : Machine) (points : List Point) (trace : List Entry) (l s : ℕ) → HasLive x l s
    → may_shut ((x.inbound l).tunnels s) ≡ true → IsSettled g x points trace → ⊥

abbrev pub LeavesUnended : Type 0
LeavesUnended = (g : NodeConfig) (x : Machine) (points : List Point) (trace : List Entry) (l s : ℕ) → HasLive x l s
    → may_end (x.inbound l).conn s ((x.inbound l).tunnels s) ≡ true → IsSettled g x points trace → ⊥

-- a target is to be dialled
abbrev pub LeavesUndialled : Type 0
LeavesUndialled = (g : NodeConfig) (x : Machine) (points : List Point) (trace : List Entry) (l s : ℕ)
    → ((x.inbound l).tunnels s).stage ≡ due → IsSettled g x points trace → ⊥

-- A LINK

-- octets wait on a connection that isn't asleep for writing; there is room on one that isn't asleep for reading
abbrev pub LeavesUnwritten : Type 0
LeavesUnwritten = (g : NodeConfig) (x : Machine) (points : List Point) (trace : List Entry) (l : ℕ) → (x.inbound l).phase ≡ serving
    → 0 < length (connection.output (x.inbound l).conn) → asleep (way.Write l) trace ≡ false → IsSettled g x points trace → ⊥

abbrev pub LeavesLinkUnread : Type 0
LeavesLinkUnread = (g : NodeConfig) (x : Machine) (points : List Point) (trace : List Entry) (l : ℕ) → (x.inbound l).phase ≡ serving
    → 768 ≤ connection.room (x.inbound l).conn → asleep (way.Read l) trace ≡ false → IsSettled g x points trace → ⊥

-- a link that is open and whose peer sends no more isn't asleep for looks, so that it may have broken unseen
abbrev pub LeavesUnlooked : Type 0
LeavesUnlooked = (g : NodeConfig) (x : Machine) (points : List Point) (trace : List Entry) (l : ℕ) → lives l trace ≡ true
    → is_open l trace ≡ true → has_ended l trace ≡ true → asleep (way.Look l) trace ≡ false → IsSettled g x points trace → ⊥

-- TRACES

-- a link is dialled and never asked whether it is open
abbrev pub AsksNothing : Type 0
AsksNothing = (g : NodeConfig) (to : Target) (how : Woken) → is_waited how ≡ true
    → SettledLaw g (e.Dialled 1 to whys.Discovery ∷ e.Wait [] how ∷ []) → ⊥

-- a wait named a door, and nobody accepts there
abbrev pub AcceptsNothing : Type 0
AcceptsNothing = (g : NodeConfig) (how then : Woken) → is_waited then ≡ true
    → SettledLaw g (e.Wait (item.Door door.Inbound ∷ []) how ∷ e.Wait [] then ∷ []) → ⊥

-- it is asked, and that moves nothing
abbrev pub AsksOnce : Type 0
AsksOnce = (g : NodeConfig) → SettledIn g (e.Dialled 1 g.discovery whys.Discovery ∷ e.Balked (way.Finish 1) ∷ [])
