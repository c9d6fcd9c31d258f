-- Which streams are asked for.
use Rattle.std.specs.Prelude.{⊤, ◌≡◌, ℕ, ◌<◌, ◌≤◌, Bool, true, false, List, [], ◌∷◌, Ok}
use Rattle.std.specs.List.{flat_map, list_any, AllByRecursion}
use Rattle.hb_conn.specs.Connection.{Connection}
use Rattle.hb_conn.specs.Observed.{next_stream, room}
use Rattle.hb_conn.specs.declared.found.Found.{Found}
use Rattle.hb_conn.specs.declared.found.Found.TheVariants as found
use Rattle.hb_history.specs.History.{StandsFor}
use Rattle.hb_streams.specs.declared.role.Role.TheVariants.{Client}
use Rattle.hb_gateway.specs.Connections.{conn_went}
use Rattle.hb_gateway.specs.Part.{Part, looked, asks, moves, tellings, link_came, AtEach}

-- the streams that were asked for
abbrev pub asked_in : Part → List ℕ
asked_in (asks s captured authority) = s ∷ []
asked_in _ = []

abbrev pub asked_of : List Part → List ℕ
asked_of parts = flat_map asked_in parts

-- a GOAWAY was told
abbrev pub is_away : Found → Bool
is_away (found.GoneAway last) = true
is_away told = false

abbrev pub says_away : Part → Bool
says_away (looked points told headers) = is_away told
says_away part = false

-- behind these parts a stream is asked for
pub record MayAsk (before : List Part) (s : ℕ) : Type 0 where
  pub conn : Connection
  pub stands : StandsFor Client (moves before) (tellings before) (link_came before) (conn_went before) conn
  -- its number is the next odd one, so fewer streams are open than 100 and the peer's limit; and there is room for its request
  pub number : next_stream conn ≡ Ok s
  pub room : 1024 ≤ room conn
  -- it is above all that were asked for, so none is asked for twice
  pub above : AllByRecursion (λ k. k < s) (asked_of before)
  -- the gateway didn't go away (RFC 9113 section 6.8)
  pub stays : list_any says_away before ≡ false

abbrev pub AsksAt : List Part → Part → Type 0
AsksAt before (asks s captured authority) = MayAsk before s
AsksAt before part = ⊤

abbrev pub AskLaw : List Part → Type 0
AskLaw parts = AtEach AsksAt parts
