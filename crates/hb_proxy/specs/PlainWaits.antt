-- Waits in front of which something is left to be done on a plain link, and one in front of which nothing is.
use Rattle.std.specs.Prelude.{◌≡◌, ◌⊎◌, ℕ, ◌<◌, true, false, List, [], ◌∷◌, ◌++◌, length}
use Rattle.hb_base.specs.declared.cause.Cause.{Cause}
use Rattle.hb_base.specs.declared.door.Door.TheVariants as door
use Rattle.hb_base.specs.declared.door.Why.TheVariants as whys
use Rattle.hb_base.specs.declared.target.Target.{Target}
use Rattle.hb_front.specs.Room.{longest_front}
use Rattle.hb_captured.specs.Captured.{fronting, due, opening, live, over, ring_up, ring_down, may_shut_up, may_shut}
use Rattle.hb_model.specs.declared.config.NodeConfig.{NodeConfig}
use Rattle.hb_ready.specs.Sight.{asleep}
use Rattle.hb_world.specs.declared.entry.Entry.{Entry}
use Rattle.hb_world.specs.declared.entry.Entry.TheVariants as e
use Rattle.hb_world.specs.declared.entry.Way.TheVariants as way
use Rattle.hb_world.specs.declared.entry.Woken.{Woken}
use Rattle.hb_world.specs.Trace.{is_waited}
use Rattle.hb_proxy.specs.Load.{most_tunnels}
use Rattle.hb_proxy.specs.Machine.{Machine}
use Rattle.hb_proxy.specs.Points.{Point}
use Rattle.hb_proxy.specs.Settled.{IsSettled, SettledIn, SettledLaw}
use Rattle.hb_proxy.specs.Ups.{IsRelayOf}

-- bytes wait to go to its upstream, or on the link, and that isn't asleep for writing
abbrev pub KeepsUp : Type 0
KeepsUp = (g : NodeConfig) (x : Machine) (points : List Point) (trace : List Entry) (l u : ℕ) → (x.plain l).stage ≡ live
    → IsRelayOf (x.plain l) u → 0 < length (x.plain l).ways.up.held → asleep (way.Write u) trace ≡ false → IsSettled g x points trace → ⊥

abbrev pub KeepsDown : Type 0
KeepsDown = (g : NodeConfig) (x : Machine) (points : List Point) (trace : List Entry) (l : ℕ) → (x.plain l).stage ≡ live
    → 0 < length (x.plain l).ways.down.held → asleep (way.Write l) trace ≡ false → IsSettled g x points trace → ⊥

-- its upstream may be read, has room for what it sends, and isn't asleep for reading; so may the link, also while its upstream isn't open,
-- or while its front header isn't whole
abbrev pub LeavesUpUnread : Type 0
LeavesUpUnread = (g : NodeConfig) (x : Machine) (points : List Point) (trace : List Entry) (l u : ℕ) → (x.plain l).stage ≡ live
    → IsRelayOf (x.plain l) u → (x.plain l).ways.down.has_ended ≡ false → length (x.plain l).ways.down.held < ring_down (x.plain l).door
    → asleep (way.Read u) trace ≡ false → IsSettled g x points trace → ⊥

abbrev pub LeavesUnread : Type 0
LeavesUnread = (g : NodeConfig) (x : Machine) (points : List Point) (trace : List Entry) (l : ℕ)
    → ((x.plain l).stage ≡ opening) ⊎ ((x.plain l).stage ≡ live) → (x.plain l).ways.up.has_ended ≡ false
    → length (x.plain l).ways.up.held < ring_up (x.plain l).door → asleep (way.Read l) trace ≡ false → IsSettled g x points trace → ⊥

abbrev pub LeavesFrontUnread : Type 0
LeavesFrontUnread = (g : NodeConfig) (x : Machine) (points : List Point) (trace : List Entry) (l : ℕ)
    → (x.plain l).stage ≡ fronting → length (x.plain l).front < longest_front → asleep (way.Read l) trace ≡ false
    → IsSettled g x points trace → ⊥

-- one side has ended and all that came of it went, and the other one isn't shut
abbrev pub LeavesUnshut : Type 0
LeavesUnshut = (g : NodeConfig) (x : Machine) (points : List Point) (trace : List Entry) (l : ℕ) → (x.plain l).stage ≡ live
    → (may_shut_up (x.plain l) ≡ true) ⊎ (may_shut (x.plain l) ≡ true) → IsSettled g x points trace → ⊥

-- its destination is to be dialled
abbrev pub LeavesUndialled : Type 0
LeavesUndialled = (g : NodeConfig) (x : Machine) (points : List Point) (trace : List Entry) (l : ℕ)
    → (x.plain l).stage ≡ due → IsSettled g x points trace → ⊥

-- it ended, and isn't closed, or its upstream isn't
abbrev pub LeavesUnclosed : Type 0
LeavesUnclosed = (g : NodeConfig) (x : Machine) (points : List Point) (trace : List Entry) (l : ℕ) (why : Cause)
    → (x.plain l).stage ≡ over why → ((x.plain l).closed ≡ false) ⊎ (0 < (x.plain l).up) → IsSettled g x points trace → ⊥

-- TRACES

-- the control plane is dialled, which moves nothing more, and a link is accepted at the plain door
abbrev pub accepted : Target → List Entry
accepted to = e.Dialled 1 to whys.Discovery ∷ e.Balked (way.Finish 1) ∷ e.Accepted 2 door.Plain ∷ []

-- that link is never read; its header came, its destination is dialled, and never asked whether it is open
abbrev pub ReadsNothing : Type 0
ReadsNothing = (g : NodeConfig) (to : Target) (how : Woken) → is_waited how ≡ true → SettledLaw g (accepted to ++ e.Wait [] how ∷ []) → ⊥

abbrev pub AsksNoUpstream : Type 0
AsksNoUpstream = (g : NodeConfig) (to other : Target) (bytes : List ℕ) (how : Woken) → is_waited how ≡ true
    → SettledLaw g (accepted to ++ e.Came 2 bytes ∷ e.Dialled 3 other (whys.Plain 2) ∷ e.Wait [] how ∷ []) → ⊥

-- it is read, and that moves nothing
abbrev pub ReadsOnce : Type 0
ReadsOnce = (g : NodeConfig) → 0 < most_tunnels g → SettledIn g (accepted g.discovery ++ e.Balked (way.Read 2) ∷ [])
