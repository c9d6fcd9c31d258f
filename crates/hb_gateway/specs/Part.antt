-- What happens to one link to a gateway, in order.
use Rattle.std.specs.Prelude.{◌≡◌, ℕ, ◌-◌, false, fold, List, [], ◌∷◌, ◌++◌, length}
use Rattle.std.specs.List.{flat_map}
use Rattle.hb_base.specs.declared.cause.Cause.{Cause}
use Rattle.hb_base.specs.declared.target.Target.{Target}
use Rattle.hb_conn.specs.declared.found.Found.{Found}
use Rattle.hb_conn.specs.declared.found.Found.TheVariants.{Silent}
use Rattle.hb_history.specs.Calls.{in_list}
use Rattle.hb_history.specs.Points as history
use Rattle.hb_hpack.specs.declared.header.Header.{Header}
use Rattle.hb_world.specs.declared.entry.Entry.{Entry}
use Rattle.hb_world.specs.declared.entry.Entry.TheVariants as e
use Rattle.hb_gateway.specs.Gateway.{request_of}
use Rattle.hb_gateway.specs.Key.{Key, front_of}
use Rattle.hb_gateway.specs.Response.{Heard}

pub data Part : Type 0 where
  -- a call of the world on the link, or its dial, for this key
  entry : Entry → Part
  dialled : Entry → Key → Part
  -- memory is wanting for a header block
  lacked : Part
  -- frames are looked at, up to one of which this is told or to the last whole one; and the headers that were read last
  looked : List history.Point → Found → List Header → Part
  -- a tunnel of this captured link, for this authority, is asked for on this stream
  asks : (stream captured : ℕ) → Target → Part
  -- the tunnel on a stream is told this, behind so many of its bytes in DATA frames of which an octet went
  tells : (stream : ℕ) → Heard → (begun : ℕ) → Part
  -- of these bytes of the captured link so many are put in one DATA frame; END_STREAM is put
  put : (stream : ℕ) → List ℕ → (count : ℕ) → Part
  finished : (stream : ℕ) → Part
  -- bytes that were written to the captured link are given back to the stream's window
  credited : (stream n : ℕ) → Part
  -- the stream is reset, since its tunnel ended
  reset : (stream code : ℕ) → Part
  -- its captured link ended the tunnel, behind so many bytes that have begun to go; or both sides ended, and all went through
  dropped : (stream begun : ℕ) → Part
  done : (stream begun : ℕ) → Part
  -- the run ends
  stopped : Cause → Part

-- THE TRACE

-- the entries on the link
abbrev pub entry_in : Part → List Entry
entry_in (entry e) = e ∷ []
entry_in (dialled e key) = e ∷ []
entry_in _ = []

abbrev pub entries : List Part → List Entry
entries parts = flat_map entry_in parts

-- the bytes that came, and those that went
abbrev pub came_by : Entry → List ℕ
came_by (e.Came l bytes) = bytes
came_by _ = []

abbrev pub wrote_by : Entry → List ℕ
wrote_by (e.Went l bytes) = bytes
wrote_by _ = []

abbrev pub came_in : Part → List ℕ
came_in (entry e) = came_by e
came_in _ = []

abbrev pub went_in : Part → List ℕ
went_in (entry e) = wrote_by e
went_in _ = []

abbrev pub link_came : List Part → List ℕ
link_came parts = flat_map came_in parts

abbrev pub link_went : List Part → List ℕ
link_went parts = flat_map went_in parts

-- the front header
abbrev pub front_in : Part → List ℕ
front_in (dialled e key) = front_of key
front_in _ = []

abbrev pub front_header : List Part → List ℕ
front_header parts = flat_map front_in parts

-- THE CONNECTION

abbrev pub act : history.Move → List history.Point
act move = history.point move Silent ∷ []

-- what a part adds to the history of the link's connection, where so many octets of the front header aren't written: of what goes, what
-- is behind these
abbrev pub moves_by : ℕ → Entry → List history.Point
moves_by left (e.Went l bytes) = act (history.wrote (length bytes - left))
moves_by left _ = []

abbrev pub moves_in : ℕ → Part → List history.Point
moves_in left (entry e) = moves_by left e
moves_in left (looked points told headers) = points
moves_in left (asks s captured authority) = act (history.opened s (request_of authority) false)
moves_in left (put s bytes count) = act (history.put s bytes)
moves_in left (finished s) = act (history.ended s)
moves_in left (credited s n) = act (history.credited s n)
moves_in left (reset s code) = act (history.reset s code)
moves_in left _ = []

-- how many are left of it behind a part
abbrev pub left_by : ℕ → Part → ℕ
left_by left (dialled e key) = length (front_of key)
left_by left (entry e) = left - length (wrote_by e)
left_by left _ = left

abbrev pub left_of : List Part → ℕ
left_of parts = fold left_by 0 parts

-- the moves of the link's connection, in order
abbrev pub moves_from : ℕ → List Part → List history.Point
moves_from left [] = []
moves_from left (p ∷ ps) = moves_in left p ++ moves_from (left_by left p) ps

abbrev pub moves : List Part → List history.Point
moves parts = moves_from 0 parts

-- what is told of it
abbrev pub telling : Part → List Found
telling (looked points told headers) = in_list told
telling _ = []

abbrev pub tellings : List Part → List Found
tellings parts = flat_map telling parts

-- PLACES

-- at each place of a run: what holds of the parts before it and of the part there
abbrev pub AtEach : (List Part → Part → Type 0) → List Part → Type 0
AtEach P parts = (before : List Part) (p : Part) (behind : List Part) → parts ≡ before ++ p ∷ behind → P before p
