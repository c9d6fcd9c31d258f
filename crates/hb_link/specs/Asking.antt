-- How requests are answered. No public clause cites this file.
use Rattle.std.specs.Prelude.{⊤, ◌≡◌, ◌+◌, ◌<◌, ◌≤◌, ◌==◌, ℕ, Bool, nat_le, if◌then◌else◌, codes, Option, Some, None, false}
use Rattle.hb_base.specs.declared.target.Target.{Target}
use Rattle.hb_conn.specs.Connection.{Connection}
use Rattle.hb_conn.specs.Observed.{room}
use Rattle.hb_frames.specs.Numbers.{largest}
use Rattle.hb_history.specs.Budget.{most, credit_most}
use Rattle.hb_hpack.specs.declared.header.HeaderList.{HeaderList}
use Rattle.hb_tunnel.specs.Tunnel.{dialling}
use Rattle.hb_tunnel.specs.Way.{after, ends}
use Rattle.hb_verdict.specs.Fields.{value_of}
use Rattle.hb_verdict.specs.Request.{request_of}
use Rattle.hb_verdict.specs.declared.request.Request.{Request}
use Rattle.hb_verdict.specs.declared.request.Request.TheVariants.{Refused, Malformed, Connect}
use Rattle.hb_inbound.specs.Inbound.{Inbound, at_stream}
use Rattle.hb_inbound.specs.Runs.{target_in, target_named}
use Rattle.hb_inbound.specs.Tunnel.{unasked, requested_with}
use Rattle.hb_link.specs.declared.asking.Asked.{Asked}
use Rattle.hb_link.specs.declared.link.Link.{Link}
use Rattle.hb_link.specs.declared.tunnel.Stage.TheVariants.{Due}
use Rattle.hb_link.specs.declared.tunnel.Tunnel.{Tunnel}
use Rattle.hb_link.specs.Load.{HasLoad}
use Rattle.hb_link.specs.Settling.{MayLook}
use Rattle.hb_link.specs.Shows.{ShowsTunnels}

-- the target that headers name which ask for this: that of a tunnel, or what their authority is
abbrev pub named_by : Request → HeaderList → Option Target
named_by (Connect target) headers = Some target
named_by (Refused status) headers = if status == 400 then target_in (value_of (codes ":authority") headers.kept) else None
named_by Malformed headers = None

-- a tunnel to be dialled, of which the peer may have ended its side at once
abbrev pub due_to : Target → (end : Bool) → Tunnel
due_to target end = record {
  stage = Due;
  up = 0;
  target = target;
  ways = if end then record dialling { up = after dialling.up ends } else dialling;
  went_up = 0;
  went_down = 0;
  shut = false;
  end_put = false;
}

-- whether all places are taken, on each machine that has the link's tunnels
abbrev pub FindsFull : (others limit : ℕ) → Link → Bool → Type 0
FindsFull others limit k full =
    (x : Inbound) → ShowsTunnels k x → (n : ℕ) × HasLoad x n × (full ≡ nat_le limit (others + n))

-- a status has three digits
abbrev pub IsAnswerable : Request → Type 0
IsAnswerable (Refused status) = (100 ≤ status) × (status < 1000)
IsAnswerable _ = ⊤

-- beside all that the frames held may still need there is room for a refusal: HEADERS of 17 octets at most, and RST_STREAM of 13
abbrev pub HasSpare : Connection → Type 0
HasSpare c = most c + credit_most c + 286 ≤ room c

-- the machine has a request more that waits for its answer, on a stream that wasn't used
pub record IsRequested (asked : Asked) (k : Link) (x : Inbound) : Type 0 where
  pub before : Inbound
  pub may : MayLook k before
  pub unused : (before.tunnels asked.stream).stage ≡ unasked
  pub spare : HasSpare k.conn
  pub number : asked.stream ≤ largest
  pub headers : HeaderList
  pub request : asked.request ≡ request_of headers k.destination
  pub target : asked.target ≡ target_named headers
  pub is : x ≡ at_stream asked.stream (λ t. requested_with headers asked.end) before
