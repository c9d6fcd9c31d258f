-- Places of tunnels that no lawful trace has.
use Rattle.std.specs.FinMap.{len}
use Rattle.std.specs.Prelude.{◌≡◌, ◌≢◌, ℕ, Bool, true, false, List, [], ◌∷◌, ◌++◌, Some}
use Rattle.hb_base.specs.declared.cause.Cause.{Cause}
use Rattle.hb_base.specs.declared.door.Why.TheVariants as whys
use Rattle.hb_base.specs.declared.peer.Peer.{Peer}
use Rattle.hb_base.specs.declared.target.Target.{Target}
use Rattle.hb_disco.specs.declared.response.Response.{Response}
use Rattle.hb_frames.specs.Numbers.{data_kind}
use Rattle.hb_frames.specs.RawFrame.{RawFrame, spelling}
use Rattle.hb_held.specs.Outcome.{after_response}
use Rattle.hb_inbound.specs.Ends.{life, pending, lives, ended}
use Rattle.hb_inbound.specs.Part as part
use Rattle.hb_inbound.specs.RelayRefused.{one_octet}
use Rattle.hb_inbound.specs.Sides.{stream_came, peer_of, target_of}
use Rattle.hb_kept.specs.Payloads.{payloads}
use Rattle.hb_model.specs.Messages.{held}
use Rattle.hb_model.specs.Point as point
use Rattle.hb_model.specs.declared.config.NodeConfig.{NodeConfig}
use Rattle.hb_outgoing.specs.Waiting.{spelled}
use Rattle.hb_proxy.specs.Held.{at_start}
use Rattle.hb_proxy.specs.Owners.{owner, upstream_of, UpstreamLaw}
use Rattle.hb_proxy.specs.Points.{Point, of_control, of_link, entry_in, entries, control_of, parts_of}
use Rattle.hb_proxy.specs.Relay.{RelayLaw, RelaysDown}
use Rattle.hb_table.specs.Judgement.{judged}
use Rattle.hb_table.specs.declared.judgement.Judged.TheVariants.{Admitted}
use Rattle.hb_world.specs.Trace as world
use Rattle.hb_world.specs.Trace.{recv, sent}
use Rattle.hb_world.specs.declared.entry.Entry.{Entry}
use Rattle.hb_world.specs.declared.entry.Entry.TheVariants as e
use Rattle.hb_laws.specs.Lawful.{Lawful}

-- no lawful trace has a place where these points stand before an entry
abbrev pub RefusedAt : (NodeConfig → List Point → Entry → Type 0) → Type 0
RefusedAt P =
    (g : NodeConfig) (trace : List Entry) (before behind : List Point) (p : Point) (z : Entry) → (h : Lawful g trace)
    → h.points ≡ before ++ p ∷ behind → entry_in p ≡ z ∷ [] → P g before z → ⊥

-- Nor has one this place, and one law alone refuses it: no points that obey the law end with that entry behind the others, be these a
-- front of a run or not
pub record RefusedBy (law : NodeConfig → List Point → Type 0) (P : NodeConfig → List Point → Entry → Type 0) : Type 0 where
  pub alone : (g : NodeConfig) (before : List Point) (p : Point) (z : Entry) → entry_in p ≡ z ∷ [] → P g before z
      → law g (before ++ p ∷ []) → ⊥
  pub lawful : RefusedAt P

-- the laws of `Lawful` that refuse so, beside `EntryLaw`: no two upstreams are of one stream or link, and no bytes but those that came go
abbrev pub DialsOnce : NodeConfig → List Point → Type 0
DialsOnce g points = UpstreamLaw (entries points)

abbrev pub Relays : NodeConfig → List Point → Type 0
Relays g points = RelayLaw points

-- BYTES

-- bytes go to the upstream of a stream, and what is held then, by the control plane's responses, doesn't admit the link's peer at the
-- target that is dialled for the stream
pub record GoesDenied (g : NodeConfig) (before : List Point) (z : Entry) : Type 0 where
  pub link : ℕ
  pub stream : ℕ
  pub up : ℕ
  pub bytes : List ℕ
  pub goes : z ≡ e.Went up bytes
  pub owned : owner up (entries before) ≡ upstream_of link stream
  pub peer : Peer
  pub target : Target
  pub peer_is : peer_of (parts_of link before) ≡ Some peer
  pub target_is : target_of stream (parts_of link before) ≡ Some target
  pub denied : judged (held g (control_of before)) peer target ≢ Admitted

-- a byte goes to it, and all that came on the stream went already; or another one came next on the stream. `Relays` refuses both
pub record GoesUncome (g : NodeConfig) (before : List Point) (z : Entry) : Type 0 where
  pub link : ℕ
  pub stream : ℕ
  pub up : ℕ
  pub byte : ℕ
  pub more : List ℕ
  pub goes : z ≡ e.Went up (byte ∷ more)
  pub owned : owner up (entries before) ≡ upstream_of link stream
  pub all_went : sent up (entries before) ≡ stream_came stream (parts_of link before)

pub record ChangesUp (g : NodeConfig) (before : List Point) (z : Entry) : Type 0 where
  pub link : ℕ
  pub stream : ℕ
  pub up : ℕ
  pub byte : ℕ
  pub other : ℕ
  pub rest : List ℕ
  pub more : List ℕ
  pub goes : z ≡ e.Went up (other ∷ more)
  pub owned : owner up (entries before) ≡ upstream_of link stream
  pub came : stream_came stream (parts_of link before) ≡ sent up (entries before) ++ byte ∷ rest
  pub differs : byte ≢ other

-- bytes go to it though no workload is held any more, whoever the peer is. `EntryLaw` refuses it
pub record GoesUnheld (g : NodeConfig) (before : List Point) (z : Entry) : Type 0 where
  pub link : ℕ
  pub stream : ℕ
  pub up : ℕ
  pub bytes : List ℕ
  pub goes : z ≡ e.Went up bytes
  pub owned : owner up (entries before) ≡ upstream_of link stream
  pub none : len (held g (control_of before)).addresses ≡ 0

-- a DATA frame
abbrev pub data_frame : (flags stream : ℕ) → (payload : List ℕ) → RawFrame
data_frame flags stream payload = record { kind = data_kind; flags = flags; stream = stream; payload = payload }

-- with the bytes that go on an inbound link whole frames went on it, of which the last is DATA with an octet of a stream, and all that came
-- from its upstream went in the others. `Relays` refuses it
pub record InventsDown (g : NodeConfig) (before : List Point) (z : Entry) : Type 0 where
  pub link : ℕ
  pub stream : ℕ
  pub up : ℕ
  pub bytes : List ℕ
  pub goes : z ≡ e.Went link bytes
  pub owned : owner up (entries before) ≡ upstream_of link stream
  pub frames : List RawFrame
  pub flags : ℕ
  pub byte : ℕ
  pub more : List ℕ
  pub whole : sent link (entries before) ++ bytes ≡ spelled (frames ++ data_frame flags stream (byte ∷ more) ∷ [])
  pub all_went : recv up (entries before) ≡ payloads stream frames

-- and another octet came next from its upstream. `Relays` refuses it
pub record ChangesDown (g : NodeConfig) (before : List Point) (z : Entry) : Type 0 where
  pub link : ℕ
  pub stream : ℕ
  pub up : ℕ
  pub bytes : List ℕ
  pub goes : z ≡ e.Went link bytes
  pub owned : owner up (entries before) ≡ upstream_of link stream
  pub frames : List RawFrame
  pub flags : ℕ
  pub byte : ℕ
  pub other : ℕ
  pub more : List ℕ
  pub rest : List ℕ
  pub whole : sent link (entries before) ++ bytes ≡ spelled (frames ++ data_frame flags stream (other ∷ more) ∷ [])
  pub came : recv up (entries before) ≡ payloads stream frames ++ byte ∷ rest
  pub differs : byte ≢ other

-- DIALS

-- a second upstream is dialled for a stream. `DialsOnce` refuses it
pub record DialsUpTwice (g : NodeConfig) (before : List Point) (z : Entry) : Type 0 where
  pub link : ℕ
  pub stream : ℕ
  pub up : ℕ
  pub first : ℕ
  pub target : Target
  pub dials : z ≡ e.Dialled up target (whys.Upstream link stream)
  pub owned : owner first (entries before) ≡ upstream_of link stream
  pub differs : first ≢ up

-- another target is dialled for a stream than its request was answered with
pub record DialsElsewhere (g : NodeConfig) (before : List Point) (z : Entry) : Type 0 where
  pub link : ℕ
  pub stream : ℕ
  pub up : ℕ
  pub target : Target
  pub other : Target
  pub dials : z ≡ e.Dialled up other (whys.Upstream link stream)
  pub pends : life (at_start g) stream (parts_of link before) ≡ pending target
  pub differs : target ≢ other

-- LET BY THE SAME LAWS

-- two upstreams are dialled for two streams
abbrev pub OnceMayBeDialled : Type 0
OnceMayBeDialled = (to other : Target) → UpstreamLaw (e.Dialled 3 to (whys.Upstream 2 1) ∷ e.Dialled 4 other (whys.Upstream 2 3) ∷ [])

-- two octets came from an upstream, and DATA with the first one goes
abbrev pub came_down : (second : ℕ) → List Point
came_down second = of_link 2 (part.up 1 (e.Came 3 (97 ∷ second ∷ []))) ∷ of_link 2 (part.entry (e.Went 2 (spelling one_octet))) ∷ []

abbrev pub CameMayGoDown : Type 0
CameMayGoDown = (second : ℕ) → RelaysDown (came_down second) 2 1 3

-- ENDS

-- more comes, on whatever link: one is accepted or open, bytes or an end come, time passes, or the proxy waits
abbrev pub is_more : Entry → Bool
is_more (e.Accepted l d) = true
is_more (e.Opened l) = true
is_more (e.Came l bytes) = true
is_more (e.Ended l) = true
is_more e.Tick = true
is_more (e.Wait ready how) = true
is_more _ = false

-- so it is, and the upstream of a tunnel that ended lives
pub record KeepsEndedUp (g : NodeConfig) (before : List Point) (z : Entry) : Type 0 where
  pub link : ℕ
  pub stream : ℕ
  pub up : ℕ
  pub why : Cause
  pub more : is_more z ≡ true
  pub has_ended : life (at_start g) stream (parts_of link before) ≡ ended why
  pub owned : owner up (entries before) ≡ upstream_of link stream
  pub living : world.lives up (entries before) ≡ true

-- so it is next behind a response that no longer admits the peer of a live tunnel, and its upstream lives
pub record KeepsRevokedUp (g : NodeConfig) (before : List Point) (z : Entry) : Type 0 where
  pub front : List Point
  pub control : ℕ
  pub response : Response
  pub before_is : before ≡ front ++ of_control (point.applied control response) ∷ []
  pub link : ℕ
  pub stream : ℕ
  pub up : ℕ
  pub peer : Peer
  pub target : Target
  pub more : is_more z ≡ true
  pub lived : life (at_start g) stream (parts_of link front) ≡ lives target
  pub peer_is : peer_of (parts_of link front) ≡ Some peer
  pub denied : judged (after_response (held g (control_of front)) response) peer target ≢ Admitted
  pub owned : owner up (entries front) ≡ upstream_of link stream
  pub living : world.lives up (entries front) ≡ true

-- the upstream of a tunnel that ended is closed for another cause than the first; so is one of a tunnel that lives, for whatever cause
pub record ClosesUpForAnother (g : NodeConfig) (before : List Point) (z : Entry) : Type 0 where
  pub link : ℕ
  pub stream : ℕ
  pub up : ℕ
  pub first : Cause
  pub why : Cause
  pub closes : z ≡ e.Closed up why
  pub owned : owner up (entries before) ≡ upstream_of link stream
  pub has_ended : life (at_start g) stream (parts_of link before) ≡ ended first
  pub differs : first ≢ why

pub record ClosesLiveUp (g : NodeConfig) (before : List Point) (z : Entry) : Type 0 where
  pub link : ℕ
  pub stream : ℕ
  pub up : ℕ
  pub target : Target
  pub why : Cause
  pub closes : z ≡ e.Closed up why
  pub owned : owner up (entries before) ≡ upstream_of link stream
  pub lived : life (at_start g) stream (parts_of link before) ≡ lives target
