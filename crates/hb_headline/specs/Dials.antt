-- Which link is whose upstream, and where it was dialled: said of a trace.
use Rattle.std.specs.Prelude.{◌≡◌, ℕ, List, ◌∷◌, ◌++◌}
use Rattle.hb_base.specs.declared.door.Why.TheVariants as whys
use Rattle.hb_base.specs.declared.target.Target.{Target}
use Rattle.hb_proxy.specs.Owners.{owner, upstream_of, inbound_link, relay_of}
use Rattle.hb_world.specs.declared.entry.Entry.{Entry}
use Rattle.hb_world.specs.declared.entry.Entry.TheVariants as e

-- the link u was dialled to this target for a stream
pub record IsDialled (trace : List Entry) (l s u : ℕ) (to : Target) : Type 0 where
  pub before : List Entry
  pub behind : List Entry
  pub is : trace ≡ before ++ e.Dialled u to (whys.Upstream l s) ∷ behind

-- the upstream u of a stream is of a link of the inbound door; it was dialled for the stream, to one target; and the stream has no other
pub record UpstreamIs (trace : List Entry) (l s u : ℕ) : Type 0 where
  pub over : owner l trace ≡ inbound_link
  pub to : Target
  pub dialled : IsDialled trace l s u to
  pub once : (other : Target) → IsDialled trace l s u other → other ≡ to
  pub alone : (v : ℕ) → owner v trace ≡ upstream_of l s → v ≡ u

-- DIALLED: so it is of each tunnel; and a plain link has one upstream at most
pub record Upstreams (trace : List Entry) : Type 0 where
  pub tunnels : (l s u : ℕ) → owner u trace ≡ upstream_of l s → UpstreamIs trace l s u
  pub plain : (l u v : ℕ) → owner u trace ≡ relay_of l → owner v trace ≡ relay_of l → u ≡ v
