-- Links to gateways, by the points of a run: where each is dialled, what the gateway's HEADERS say, and what opens a tunnel.
use Rattle.std.specs.Prelude.{⊤, ◌≡◌, ℕ, ◌==◌, if◌then◌else◌, fold, List, [], ◌∷◌, ◌++◌, Option, Some, None}
use Rattle.std.specs.List.{flat_map}
use Rattle.hb_base.specs.declared.cause.Cause.{Cause}
use Rattle.hb_base.specs.declared.door.Why.TheVariants as whys
use Rattle.hb_base.specs.declared.target.Target.{Target}
use Rattle.hb_captured.specs.Answer.{Aim, key_of}
use Rattle.hb_captured.specs.Sides.{aim_of}
use Rattle.hb_conn.specs.declared.found.Found.{Found}
use Rattle.hb_gateway.specs.Connections.{IsOneHistory}
use Rattle.hb_gateway.specs.Key.{Key}
use Rattle.hb_gateway.specs.Part as gateway
use Rattle.hb_gateway.specs.Part.{Part}
use Rattle.hb_gateway.specs.Response.{Heard, asked, opens, fails, heard_of}
use Rattle.hb_gateway.specs.Sides.{told_on}
use Rattle.hb_history.specs.Points as history
use Rattle.hb_history.specs.Points.{data_in}
use Rattle.hb_hpack.specs.declared.header.Header.{Header}
use Rattle.hb_model.specs.Discovery.{headers_read}
use Rattle.hb_proxy.specs.Owners.{AtEach}
use Rattle.hb_proxy.specs.Points.{Point, of_gate, of_stream, entry_in, plain_of, gates_of}
use Rattle.hb_proxy.specs.Shared.{tells}
use Rattle.hb_world.specs.declared.entry.Entry.{Entry}
use Rattle.hb_world.specs.declared.entry.Entry.TheVariants as e

-- WHERE ONE IS DIALLED

-- for a plain link one is dialled at the address of a key: of the one by which the way of that link leads, as its header was answered
pub record DialsByKey (before : List Point) (a : ℕ) (to : Target) : Type 0 where
  pub aim : Aim
  pub key : Key
  pub told : aim_of (plain_of a before) ≡ Some aim
  pub keyed : key_of aim ≡ Some key
  pub there : to ≡ key.gateway

-- and what is born is a link of that key
pub record BearsByKey (before : List Point) (p : Point) (n a : ℕ) (to : Target) : Type 0 where
  pub dial : DialsByKey before a to
  pub born : p ≡ of_gate n (gateway.dialled (e.Dialled n to (whys.Gateway a)) dial.key)

-- so it is of each dial of a gateway in the trace, also of one that fails
abbrev pub GateDialsBy : List Point → Point → Entry → Type 0
GateDialsBy before p (e.Dialled n to (whys.Gateway a)) = BearsByKey before p n a to
GateDialsBy before p (e.DialFailed to (whys.Gateway a)) = DialsByKey before a to
GateDialsBy before p z = ⊤

abbrev pub GateDialsAt : List Point → Point → Type 0
GateDialsAt before p = (z : Entry) → entry_in p ≡ z ∷ [] → GateDialsBy before p z

abbrev pub GateDialLaw : List Point → Type 0
GateDialLaw points = AtEach GateDialsAt points

-- WHAT THE GATEWAY SAYS

-- the headers of a look at frames are those that the link's connection read last
pub record ReadsHeaders (before : List Part) (points : List history.Point) (told : Found) (headers : List Header) : Type 0 where
  pub now : IsOneHistory (before ++ gateway.looked points told headers ∷ [])
  pub read : headers ≡ headers_read now.conn

abbrev pub HeadersAt : List Part → Part → Type 0
HeadersAt before (gateway.looked points told headers) = ReadsHeaders before points told headers
HeadersAt before part = ⊤

abbrev pub HeaderLaw : List Part → Type 0
HeaderLaw parts = gateway.AtEach HeadersAt parts

-- what it said first on a stream, behind the request for its tunnel: the first status that isn't passed over, which opens the tunnel where
-- it is from 200 to 299 and else fails it; or what stands in its place
abbrev pub says_first : ℕ → Option Heard → Part → Option Heard
says_first s said (gateway.asks k captured authority) = if k == s then None else said
says_first s None (gateway.looked points told headers) = heard_of s asked headers (flat_map data_in points) told
says_first s said part = said

abbrev pub said_on : ℕ → List Part → Option Heard
said_on s parts = fold (says_first s) None parts

-- WHAT OPENS A TUNNEL: it is told first what the gateway said first, or its failure where that said nothing; behind that it doesn't open
abbrev pub MayBeTold : (told : List Heard) → (said : Option Heard) → Heard → Type 0
MayBeTold [] None heard = (why : Cause) × (heard ≡ fails why)
MayBeTold [] (Some said) heard = heard ≡ said
MayBeTold (first ∷ more) said (opens end) = ⊥
MayBeTold (first ∷ more) said heard = ⊤

abbrev pub OpensAt : List Point → Point → Type 0
OpensAt before (of_stream l n s (tells heard begun)) =
    MayBeTold (told_on s (gates_of n before)) (said_on s (gates_of n before)) heard
OpensAt before p = ⊤

abbrev pub OpenLaw : List Point → Type 0
OpenLaw points = AtEach OpensAt points
