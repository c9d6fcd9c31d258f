-- Small traces that don't meet the headline. Link 1 is accepted in them, and link 2 is its upstream, but where the control plane is
-- dialled first.
use Rattle.std.specs.Prelude.{◌≡◌, ◌≢◌, ℕ, ◌<◌, List, [], ◌∷◌, ◌++◌, length, map, Option, None, IfSome, Ok}
use Rattle.hb_base.specs.declared.door.Door.TheVariants as door
use Rattle.hb_base.specs.declared.door.Why.TheVariants as whys
use Rattle.hb_base.specs.declared.identity.Identity.{Identity}
use Rattle.hb_base.specs.declared.peer.Peer.{Peer}
use Rattle.hb_base.specs.declared.target.Target.{Target}
use Rattle.hb_disco.specs.Response.{response_of}
use Rattle.hb_disco.specs.declared.response.Response.{Response}
use Rattle.hb_conn.specs.Preface.{octets}
use Rattle.hb_frames.specs.RawFrame.{RawFrame, spelling}
use Rattle.hb_front.specs.Written.{front_text, IsSent}
use Rattle.hb_grpc.specs.Framed.{framed_of}
use Rattle.hb_held.specs.Held.{Resources}
use Rattle.hb_held.specs.Outcome.{after_response}
use Rattle.hb_laws.specs.Good.{source, destination}
use Rattle.hb_laws.specs.RefusedTunnels.{data_frame}
use Rattle.hb_laws.specs.RefusedWindows.{three, none_granted, ack}
use Rattle.hb_model.specs.Discovery.{longest_message}
use Rattle.hb_model.specs.declared.config.NodeConfig.{NodeConfig}
use Rattle.hb_outgoing.specs.Waiting.{spelled}
use Rattle.hb_proxy.specs.Held.{at_start}
use Rattle.hb_table.specs.Judgement.{judged}
use Rattle.hb_table.specs.declared.judgement.Judged.TheVariants.{Admitted}
use Rattle.hb_world.specs.declared.entry.Entry.{Entry}
use Rattle.hb_world.specs.declared.entry.Entry.TheVariants as e
use Rattle.hb_headline.specs.Access.{Admits}
use Rattle.hb_headline.specs.Buffers.{Buffers}
use Rattle.hb_headline.specs.Good.{data_of}
use Rattle.hb_headline.specs.Headline.{Headline}
use Rattle.hb_headline.specs.Relay.{data_with}
use Rattle.hb_headline.specs.Windows.{Windows}

abbrev pub NotMet : List Entry → Type 0
NotMet trace = (g : NodeConfig) → Headline g trace → ⊥

-- PREFIX: bytes go to the upstream of a plain link, and of a tunnel, on whose link no header came
abbrev pub SendsUnfronted : Type 0
SendsUnfronted = (to : Target) (byte : ℕ) (more : List ℕ)
    → NotMet (e.Accepted 1 door.Plain ∷ e.Dialled 2 to (whys.Plain 1) ∷ e.Went 2 (byte ∷ more) ∷ [])

abbrev pub TunnelsUnfronted : Type 0
TunnelsUnfronted = (to : Target) (byte : ℕ) (more : List ℕ)
    → NotMet (e.Accepted 1 door.Inbound ∷ e.Dialled 2 to (whys.Upstream 1 1) ∷ e.Went 2 (byte ∷ more) ∷ [])

-- bytes go on a plain link that didn't come from its upstream
abbrev pub InventsBack : Type 0
InventsBack = (to : Target) (byte : ℕ) (more : List ℕ)
    → NotMet (e.Accepted 1 door.Plain ∷ e.Dialled 2 to (whys.Plain 1) ∷ e.Went 1 (byte ∷ more) ∷ [])

-- or that come from it only later
abbrev pub SendsEarly : Type 0
SendsEarly = (to : Target) (byte : ℕ) (more : List ℕ)
    → NotMet (e.Accepted 1 door.Plain ∷ e.Dialled 2 to (whys.Plain 1) ∷ e.Went 1 (byte ∷ more) ∷ e.Came 2 (byte ∷ more) ∷ [])

-- an octet of DATA goes on a tunnel's stream that didn't come from its upstream, and one on a stream that has none
abbrev pub invented : Target → ℕ → List Entry
invented to byte = e.Accepted 1 door.Inbound ∷ e.Dialled 2 to (whys.Upstream 1 1) ∷ e.Went 1 (spelling (data_with byte)) ∷ []

abbrev pub InventsData : Type 0
InventsData = (to : Target) (byte : ℕ) → NotMet (invented to byte)

abbrev pub unasked : ℕ → List Entry
unasked byte = e.Accepted 1 door.Inbound ∷ e.Went 1 (spelling (data_with byte)) ∷ []

abbrev pub SendsUnasked : Type 0
SendsUnasked = (byte : ℕ) → NotMet (unasked byte)

-- DIALLED: a second upstream is dialled for a stream
abbrev pub DialsTwice : Type 0
DialsTwice = (to other : Target)
    → NotMet (e.Accepted 1 door.Inbound ∷ e.Dialled 2 to (whys.Upstream 1 1) ∷ e.Dialled 3 other (whys.Upstream 1 1) ∷ [])

-- or a link is dialled again, to another target
abbrev pub DialsElsewhere : Type 0
DialsElsewhere = (to other : Target) → to ≢ other
    → NotMet (e.Accepted 1 door.Inbound ∷ e.Dialled 2 to (whys.Upstream 1 1) ∷ e.Dialled 2 other (whys.Upstream 1 1) ∷ [])

-- resources that admit nobody where the upstream was dialled don't make the peer admitted, whatever they admit elsewhere
abbrev pub AdmitsElsewhere : Type 0
AdmitsElsewhere = (held : Resources) (to : Target) (came : List ℕ) → ((peer : Peer) → judged held peer to ≢ Admitted)
    → Admits held (e.Accepted 1 door.Inbound ∷ e.Came 1 came ∷ e.Dialled 2 to (whys.Upstream 1 1) ∷ e.Opened 2 ∷ []) 1 1 2 → ⊥

-- HELD: bytes go to an upstream where the control plane was never dialled; and where it was, but sent nothing: a response that would admit
-- the peer is forged
abbrev pub untold : Target → List ℕ → List Entry
untold to came = e.Accepted 1 door.Inbound ∷ e.Came 1 came ∷ e.Dialled 2 to (whys.Upstream 1 1) ∷ e.Opened 2 ∷ []

abbrev pub AdmitsUntold : Type 0
AdmitsUntold = (to : Target) (came bytes : List ℕ) → NotMet (untold to came ++ e.Went 2 bytes ∷ [])

abbrev pub unanswered : (at to : Target) → List ℕ → List Entry
unanswered at to came =
    e.Dialled 1 at whys.Discovery ∷ e.Opened 1 ∷ e.Accepted 2 door.Inbound ∷ e.Came 2 came ∷ e.Dialled 3 to (whys.Upstream 2 1)
    ∷ e.Opened 3 ∷ []

abbrev pub AdmitsForged : Type 0
AdmitsForged = (at to : Target) (came bytes : List ℕ) → NotMet (unanswered at to came ++ e.Went 3 bytes ∷ [])

-- TRIED: a link is dialled for a stream where nothing was told
abbrev pub DialsUntold : Type 0
DialsUntold = (to : Target) (came : List ℕ)
    → NotMet (e.Accepted 1 door.Inbound ∷ e.Came 1 came ∷ e.Dialled 2 to (whys.Upstream 1 1) ∷ [])

-- and so it is on the plain door
abbrev pub DialsPlainUntold : Type 0
DialsPlainUntold = (to : Target) (came : List ℕ)
    → NotMet (e.Accepted 1 door.Plain ∷ e.Came 1 came ∷ e.Dialled 2 to (whys.Plain 1) ∷ [])

-- ADMITTED: bytes go on a link that was never born
abbrev pub SendsUnborn : Type 0
SendsUnborn = (bytes : List ℕ) → NotMet (e.Went 1 bytes ∷ [])

-- an octet that came from the upstream goes down in a DATA frame that is cut behind its first three octets, where nobody is
-- admitted
abbrev pub CutsUnadmitted : Type 0
CutsUnadmitted = (to : Target) (came : List ℕ) (byte : ℕ)
    → NotMet (untold to came ++ e.Came 2 (byte ∷ []) ∷ e.Went 1 (0 ∷ 0 ∷ 1 ∷ [])
    ∷ e.Went 1 (0 ∷ 0 ∷ 0 ∷ 0 ∷ 0 ∷ 1 ∷ byte ∷ []) ∷ [])

-- REVOKED: an upstream lives at a tick, where nobody is admitted
abbrev pub KeepsUnadmitted : Type 0
KeepsUnadmitted = (to : Target) (came : List ℕ) → NotMet (untold to came ++ e.Tick ∷ [])

-- so it is on a plain link: bytes go to its upstream, and that lives at a tick
abbrev pub plain_untold : Target → List ℕ → List Entry
plain_untold to came = e.Accepted 1 door.Plain ∷ e.Came 1 came ∷ e.Dialled 2 to (whys.Plain 1) ∷ e.Opened 2 ∷ []

abbrev pub RelaysUntold : Type 0
RelaysUntold = (to : Target) (came bytes : List ℕ) → NotMet (plain_untold to came ++ e.Went 2 bytes ∷ [])

abbrev pub KeepsPlain : Type 0
KeepsPlain = (to : Target) (came : List ℕ) → NotMet (plain_untold to came ++ e.Tick ∷ [])

-- the response that was applied last no longer admits anybody there: it came whole, and the upstream lives at a tick
abbrev pub revoked_so : (at to : Target) → (first came later : List ℕ) → List Entry
revoked_so at to first came later =
    e.Dialled 1 at whys.Discovery ∷ e.Opened 1 ∷ e.Came 1 (spelling (data_of first)) ∷ e.Accepted 2 door.Inbound ∷ e.Came 2 came
    ∷ e.Dialled 3 to (whys.Upstream 2 1) ∷ e.Opened 3 ∷ e.Came 1 (spelling (data_of later)) ∷ []

abbrev pub KeepsRevoked : Type 0
KeepsRevoked = (at to : Target) (first came later : List ℕ) (a b : Response) (g : NodeConfig) → length first < 16777216
    → length later < 16777216 → map response_of (framed_of longest_message (first ++ later)).messages ≡ Ok a ∷ Ok b ∷ []
    → ((peer : Peer) → judged (after_response (after_response (at_start g) a) b) peer to ≢ Admitted)
    → Headline g (revoked_so at to first came later ++ e.Tick ∷ []) → ⊥

-- WINDOWS: frames with which DATA begins beyond what the peer granted
abbrev pub NotWithin : List Entry → Type 0
NotWithin trace = (frames : ℕ → List RawFrame) → Windows trace frames → ⊥

abbrev pub sends : List RawFrame → List Entry
sends frames = e.Accepted 1 door.Inbound ∷ e.Went 1 (spelled frames) ∷ []

-- a frame has an octet more than 16,384; and a fourth one of 16,384, each on a stream of its own, passes the connection's window by one
abbrev pub BeginsLarge : Type 0
BeginsLarge = (payload : List ℕ) → length payload ≡ 16385 → NotWithin (sends (data_frame 0 1 payload ∷ []))

abbrev pub BeginsBeyond : Type 0
BeginsBeyond = (payload : List ℕ) → length payload ≡ 16384 → NotWithin (sends (three payload ++ data_frame 0 7 payload ∷ []))

-- the control plane sets a window of 0 for streams, which is acknowledged, and an octet is sent on the stream
abbrev pub ungranted : Target → ℕ → List Entry
ungranted at byte =
    e.Dialled 1 at whys.Discovery ∷ e.Opened 1 ∷ e.Came 1 (spelling none_granted)
    ∷ e.Went 1 (octets ++ spelled (ack ∷ data_with byte ∷ [])) ∷ []

abbrev pub BeginsUngranted : Type 0
BeginsUngranted = (at : Target) (byte : ℕ) → NotWithin (ungranted at byte)

-- so it is of a link to a gateway, behind its front header, whichever that is
abbrev pub through_gate : Target → (came header : List ℕ) → List RawFrame → List Entry
through_gate at came header frames =
    e.Dialled 1 at (whys.Gateway 2) ∷ e.Opened 1 ∷ e.Came 1 came ∷ e.Went 1 ((header ++ octets) ++ spelled frames) ∷ []

abbrev pub BehindHeaders : (List ℕ → Type 0) → Type 0
BehindHeaders P =
    (from to : Target) (identity : Option Identity) → IfSome identity IsSent → P (front_text from to identity)

abbrev pub GateBeginsBeyond : Type 0
GateBeginsBeyond = (at : Target) (payload : List ℕ) → length payload ≡ 16384
    → BehindHeaders (λ header. NotWithin (through_gate at [] header (three payload ++ data_frame 0 7 payload ∷ [])))

abbrev pub GateBeginsUngranted : Type 0
GateBeginsUngranted = (at : Target) (byte : ℕ)
    → BehindHeaders (λ header. NotWithin (through_gate at (spelling none_granted) header (ack ∷ data_with byte ∷ [])))

-- and octets go on it that are no header
abbrev pub GateUnfronted : Type 0
GateUnfronted = (at : Target) → NotWithin (e.Dialled 1 at (whys.Gateway 2) ∷ e.Opened 1 ∷ e.Went 1 octets ∷ [])

-- BUFFERS: more waits than a ring has room for
abbrev pub Overruns : List Entry → Type 0
Overruns trace = (frames : ℕ → List RawFrame) → Buffers trace frames → ⊥

-- 65,536 octets that came behind the header of a link of the plain door wait to go to its upstream, or 16,385 that came from that
abbrev pub KeepsMoreUp : Type 0
KeepsMoreUp = (to : Target) (octets : List ℕ) → length octets ≡ 65536
    → Overruns (plain_untold to (front_text source destination None ++ octets) ++ e.Tick ∷ [])

abbrev pub KeepsMoreDown : Type 0
KeepsMoreDown = (to : Target) (octets : List ℕ) → length octets ≡ 16385 → Overruns (plain_untold to [] ++ e.Came 2 octets ∷ e.Tick ∷ [])

-- and 32,769 that come from the upstream of a tunnel, of which none went in DATA
abbrev pub TunnelKeepsMore : Type 0
TunnelKeepsMore = (to : Target) (octets : List ℕ) → length octets ≡ 32769 → Overruns (untold to [] ++ e.Came 2 octets ∷ [])
