-- Links of which nothing came. No public clause cites this file.
use Rattle.std.specs.Prelude.{◌≡◌, ℕ, []}
use Rattle.std.specs.FinMap.{empty}
use Rattle.hb_conn.specs.Connection.{fresh_server}
use Rattle.hb_link.specs.declared.link.Link.{Link}
use Rattle.hb_link.specs.declared.phase.Phase.{Phase}

-- one of this number, in this phase
pub record IsFresh (number : ℕ) (phase : Phase) (k : Link) : Type 0 where
  pub number_is : k.number ≡ number
  pub phase_is : k.phase ≡ phase
  pub front : k.front ≡ []
  pub conn : k.conn ≡ fresh_server
  pub tunnels : k.tunnels ≡ empty
