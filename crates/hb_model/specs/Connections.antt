-- The connections of links: what was looked at, told and done is one history of the bytes that came and went.
use Rattle.std.specs.Prelude.{ℕ, List}
use Rattle.hb_streams.specs.declared.role.Role.TheVariants.{Client}
use Rattle.hb_conn.specs.Connection.{Connection}
use Rattle.hb_history.specs.History.{StandsFor}
use Rattle.hb_world.specs.Trace.{recv, sent}
use Rattle.hb_model.specs.Point.{Point, entries, moves, tellings}
use Rattle.hb_model.specs.Calls.{IsControl}

-- A client's connection stands for the moves of the link, what was told of them, the bytes that came on it and those that went
pub record IsOneHistory (points : List Point) (l : ℕ) : Type 0 where
  pub conn : Connection
  pub stands : StandsFor Client (moves l points) (tellings l points) (recv l (entries points)) (sent l (entries points)) conn

-- it is so for each link to the control plane
abbrev pub ConnectionLaw : List Point → Type 0
ConnectionLaw points = (l : ℕ) → IsControl l (entries points) → IsOneHistory points l
