-- Which machines a link of the code shows.
use Rattle.std.specs.Prelude.{⊤, ◌≡◌, ℕ, ◌≤◌, IsSome}
use Rattle.std.specs.FinMap.{get}
use Rattle.hb_conn.specs.Connection.{fresh_server}
use Rattle.hb_frames.specs.Numbers.{largest}
use Rattle.hb_kept.specs.Kept.{IsKept}
use Rattle.hb_inbound.specs.Calm.{IsCalm}
use Rattle.hb_inbound.specs.Inbound.{Inbound, Phase, fronting, serving, faulted}
use Rattle.hb_link.specs.declared.link.Link.{Link}
use Rattle.hb_link.specs.Tunnels.{phase_of, ShowsTunnel}

-- a connection that goes on is the machine's, and kept, and so is what the front header told; of a link that is to be closed neither counts
abbrev pub ShowsBy : Phase → Link → Inbound → Type 0
ShowsBy fronting k x = (x.front ≡ k.front) × (k.conn ≡ fresh_server)
ShowsBy serving k x = (x.conn ≡ k.conn) × IsKept x.conn × (x.peer ≡ k.peer) × (x.destination ≡ k.destination)
ShowsBy (faulted code) k x = x.conn ≡ k.conn
ShowsBy _ k x = ⊤

-- each tunnel is the machine's
abbrev pub ShowsTunnels : Link → Inbound → Type 0
ShowsTunnels k x = (s : ℕ) → ShowsTunnel (get k.tunnels s) (x.tunnels s)

-- between two calls: nothing more happens by itself
pub record Shows (k : Link) (x : Inbound) : Type 0 where
  pub phase : x.phase ≡ phase_of k.phase
  pub way : ShowsBy x.phase k x
  pub tunnels : (s : ℕ) → ShowsTunnel (get k.tunnels s) (x.tunnels s)
  -- the numbers of streams have 31 bits
  pub numbered : (s : ℕ) → IsSome (get k.tunnels s) → s ≤ largest
  pub calm : IsCalm x
