-- The bytes of the tunnel on a stream of a link to a gateway: those that its captured link is told came, and those that it puts.
use Rattle.std.specs.Prelude.{⊤, ◌≡◌, ℕ, ◌==◌, if◌then◌else◌, fold, List, [], ◌∷◌, ◌++◌, length, take}
use Rattle.std.specs.List.{flat_map}
use Rattle.hb_inbound.specs.Sides.{data_by}
use Rattle.hb_kept.specs.Payloads.{payloads}
use Rattle.hb_gateway.specs.Connections.{IsOneHistory}
use Rattle.hb_gateway.specs.Key.{Key, no_key}
use Rattle.hb_gateway.specs.Part.{Part, dialled, tells, put, dropped, done, moves, AtEach}
use Rattle.hb_gateway.specs.Response.{Heard, brings}

-- for whom the link is
abbrev pub key_by : Key → Part → Key
key_by key (dialled e new) = new
key_by key part = key

abbrev pub key_of : List Part → Key
key_of parts = fold key_by no_key parts

-- what the tunnel on a stream was told
abbrev pub told_in : ℕ → Part → List Heard
told_in s (tells k heard begun) = if k == s then heard ∷ [] else []
told_in s part = []

abbrev pub told_on : ℕ → List Part → List Heard
told_on s parts = flat_map (told_in s) parts

-- the bytes among it, and the octets of DATA that came on the stream, without padding
abbrev pub brought_by : Heard → List ℕ
brought_by (brings bytes) = bytes
brought_by heard = []

abbrev pub brought_on : ℕ → List Part → List ℕ
brought_on s parts = flat_map brought_by (told_on s parts)

abbrev pub came_on : ℕ → List Part → List ℕ
came_on s parts = flat_map (data_by s) (moves parts)

-- the bytes that were put on it
abbrev pub put_in : ℕ → Part → List ℕ
put_in s (put k bytes count) = if k == s then take count bytes else []
put_in s part = []

abbrev pub put_on : ℕ → List Part → List ℕ
put_on s parts = flat_map (put_in s) parts

-- WHAT A TUNNEL IS TOLD CAME: it is a front of the DATA that came on its stream
pub record Brings (parts : List Part) (s : ℕ) : Type 0 where
  pub rest : List ℕ
  pub front : came_on s parts ≡ brought_on s parts ++ rest

abbrev pub BringLaw : List Part → Type 0
BringLaw parts = (s : ℕ) → Brings parts s

-- WHAT GOES OF IT: the DATA of the stream in the frames that have begun, the last one counted whole, is a front of what was put
pub record SendLaw (parts : List Part) : Type 0 where
  pub history : IsOneHistory parts
  pub rest : ℕ → List ℕ
  pub front : (s : ℕ) → put_on s parts ≡ payloads s history.stands.begun ++ rest s

-- so many bytes of a stream have begun to go behind these parts
pub record HaveBegun (parts : List Part) (s count : ℕ) : Type 0 where
  pub history : IsOneHistory parts
  pub count_is : count ≡ length (payloads s history.stands.begun)

-- what is said of it where a tunnel is told something, or ends
abbrev pub CountsAt : List Part → Part → Type 0
CountsAt before (tells s heard begun) = HaveBegun before s begun
CountsAt before (dropped s begun) = HaveBegun before s begun
CountsAt before (done s begun) = HaveBegun before s begun
CountsAt before part = ⊤

abbrev pub CountLaw : List Part → Type 0
CountLaw parts = AtEach CountsAt parts
