-- Which streams are reset.
use Rattle.std.specs.Prelude.{⊤, ◌≡◌, ℕ, nat_lt, Bool, true, false, List}
use Rattle.std.specs.List.{list_any}
use Rattle.hb_conn.specs.Connection.{Connection}
use Rattle.hb_conn.specs.declared.found.Found.{Found}
use Rattle.hb_conn.specs.declared.found.Found.TheVariants as found
use Rattle.hb_history.specs.History.{StandsFor}
use Rattle.hb_streams.specs.declared.role.Role.TheVariants.{Client}
use Rattle.hb_gateway.specs.Connections.{conn_went}
use Rattle.hb_gateway.specs.Gateway.{is_active}
use Rattle.hb_gateway.specs.Part.{Part, looked, reset, moves, tellings, link_came, AtEach}

-- a GOAWAY was told that leaves out the stream s: it is above the last that the gateway takes
abbrev pub is_left_out : ℕ → Found → Bool
is_left_out s (found.GoneAway last) = nat_lt last s
is_left_out s told = false

abbrev pub leaves_out : ℕ → Part → Bool
leaves_out s (looked points told headers) = is_left_out s told
leaves_out s part = false

-- behind these parts a stream is reset
pub record MayReset (before : List Part) (s : ℕ) : Type 0 where
  pub conn : Connection
  pub stands : StandsFor Client (moves before) (tellings before) (link_came before) (conn_went before) conn
  -- a side of it is open: RST_STREAM isn't sent on a closed stream, nor on an idle one (RFC 9113 section 5.1)
  pub active : is_active conn s ≡ true
  -- no GOAWAY left it out (RFC 9113 section 6.8)
  pub taken : list_any (leaves_out s) before ≡ false

abbrev pub ResetsAt : List Part → Part → Type 0
ResetsAt before (reset s code) = MayReset before s
ResetsAt before part = ⊤

abbrev pub ResetLaw : List Part → Type 0
ResetLaw parts = AtEach ResetsAt parts
