-- What came and went on a link, on each side of its tunnels, and what was held and known at a place of a run.
use Rattle.std.specs.Prelude.{◌≡◌, ℕ, ◌==◌, ◌&&◌, Bool, true, false, if◌then◌else◌, fold, List, [], ◌∷◌, ◌++◌, drop, Option, Some, None}
use Rattle.std.specs.List.{flat_map, list_any}
use Rattle.hb_base.specs.IdentityText.{identity_of}
use Rattle.hb_base.specs.declared.identity.Identity.{Identity}
use Rattle.hb_base.specs.declared.peer.Peer.{Peer}
use Rattle.hb_base.specs.declared.target.Target.{Target}
use Rattle.hb_conn.specs.declared.found.Found.{Found}
use Rattle.hb_conn.specs.declared.found.Found.TheVariants as found
use Rattle.hb_frames.specs.Bodies.{lent_of}
use Rattle.hb_held.specs.Held.{Resources}
use Rattle.hb_held.specs.Outcome.{after_response}
use Rattle.hb_history.specs.Points as history
use Rattle.hb_verdict.specs.declared.verdict.Verdict.{Verdict}
use Rattle.hb_verdict.specs.declared.verdict.Verdict.TheVariants.{Dial}
use Rattle.hb_world.specs.declared.entry.Entry.{Entry}
use Rattle.hb_world.specs.declared.entry.Entry.TheVariants as e
use Rattle.hb_inbound.specs.Part.{Part, entry, up, fronted, looked, decided, accepted, applied, moves}

-- BYTES

-- those that came by an entry, and those that went
abbrev pub came_by : Entry → List ℕ
came_by (e.Came l bytes) = bytes
came_by _ = []

abbrev pub went_by : Entry → List ℕ
went_by (e.Went l bytes) = bytes
went_by _ = []

-- on the link itself
abbrev pub came_in : Part → List ℕ
came_in (entry e) = came_by e
came_in _ = []

abbrev pub went_in : Part → List ℕ
went_in (entry e) = went_by e
went_in _ = []

abbrev pub link_came : List Part → List ℕ
link_came parts = flat_map came_in parts

abbrev pub link_went : List Part → List ℕ
link_went parts = flat_map went_in parts

-- on the upstream of the tunnel on a stream
abbrev pub up_came_in : ℕ → Part → List ℕ
up_came_in s (up k e) = if k == s then came_by e else []
up_came_in s _ = []

abbrev pub up_went_in : ℕ → Part → List ℕ
up_went_in s (up k e) = if k == s then went_by e else []
up_went_in s _ = []

abbrev pub up_came : ℕ → List Part → List ℕ
up_came s parts = flat_map (up_came_in s) parts

abbrev pub up_went : ℕ → List Part → List ℕ
up_went s parts = flat_map (up_went_in s) parts

-- the octets of DATA of a stream that came, without padding: those that were handed out
abbrev pub data_told : ℕ → history.Move → Found → List ℕ
data_told s (history.got f) (found.Chunk k end) = if k == s then lent_of f else []
data_told s _ _ = []

abbrev pub data_by : ℕ → history.Point → List ℕ
data_by s p = data_told s p.move p.told

abbrev pub stream_came : ℕ → List Part → List ℕ
stream_came s parts = flat_map (data_by s) (moves parts)

-- ENDS OF SIDES

-- the peer's side of a stream ended: with the request's headers, or told behind its last octets
abbrev pub ends_peer : ℕ → Found → Bool
ends_peer s (found.Opened k end) = k == s && end
ends_peer s (found.Ended k) = k == s
ends_peer s _ = false

abbrev pub is_peer_end : ℕ → Part → Bool
is_peer_end s (looked points told headers) = ends_peer s told
is_peer_end s _ = false

-- the upstream ended
abbrev pub is_end : Entry → Bool
is_end (e.Ended u) = true
is_end _ = false

abbrev pub is_up_end : ℕ → Part → Bool
is_up_end s (up k e) = k == s && is_end e
is_up_end s _ = false

abbrev pub is_accept : ℕ → Part → Bool
is_accept s (accepted k note) = k == s
is_accept s _ = false

-- a part says so
abbrev pub Was : (Part → Bool) → List Part → Type 0
Was is parts = list_any is parts ≡ true

abbrev pub WasNot : (Part → Bool) → List Part → Type 0
WasNot is parts = list_any is parts ≡ false

-- the bytes of the front header, and those behind it, which are the connection's
abbrev pub front_by : Option ℕ → Part → Option ℕ
front_by size (fronted seen) = Some seen.length
front_by size _ = size

abbrev pub front_size : List Part → Option ℕ
front_size parts = fold front_by None parts

abbrev pub behind_front : Option ℕ → List ℕ → List ℕ
behind_front None bytes = []
behind_front (Some size) bytes = drop size bytes

abbrev pub conn_came : List Part → List ℕ
conn_came parts = behind_front (front_size parts) (link_came parts)

-- WHAT IS HELD, WHO THE PEER IS, AND WHERE TO

abbrev pub held_by : Resources → Part → Resources
held_by held (applied r) = after_response held r
held_by held _ = held

-- the resources held behind some parts, in front of which these were
abbrev pub held : Resources → List Part → Resources
held start parts = fold held_by start parts

-- who the peer is: what the front header told
abbrev pub identity_told : Option (List ℕ) → Option Identity
identity_told None = None
identity_told (Some text) = identity_of text

abbrev pub peer_by : Option Peer → Part → Option Peer
peer_by peer (fronted seen) = Some (record { ip = seen.source.ip; identity = identity_told seen.identity })
peer_by peer _ = peer

abbrev pub peer_of : List Part → Option Peer
peer_of parts = fold peer_by None parts

-- the target of the tunnel on a stream: that of the dial that its request was answered with
abbrev pub dialled_to : Option Target → Verdict → Option Target
dialled_to target (Dial to) = Some to
dialled_to target _ = target

abbrev pub target_by : ℕ → Option Target → Part → Option Target
target_by s target (decided k full answer) = if k == s then dialled_to target answer else target
target_by s target _ = target

abbrev pub target_of : ℕ → List Part → Option Target
target_of s parts = fold (target_by s) None parts

-- PLACES

-- at each place of a run: what holds of the parts before it and of the part there
abbrev pub AtEach : (List Part → Part → Type 0) → List Part → Type 0
AtEach P parts = (before : List Part) (p : Part) (behind : List Part) → parts ≡ before ++ p ∷ behind → P before p
