-- What is told of a link's connection, and what it makes of the link. No public clause cites this file.
use Rattle.std.specs.Prelude.{⊤, ◌≡◌, ◌+◌, ◌≤◌, ◌==◌, ◌&&◌, not, ℕ, Bool, true, false, nat_le, is_some, if◌then◌else◌, List, length, Option, Some, None}
use Rattle.std.specs.FinMap.{FinMap, get, insert, remove}
use Rattle.std.specs.Ordering.{nat_cmp}
use Rattle.hb_base.specs.declared.cause.Cause.{Cause}
use Rattle.hb_base.specs.declared.cause.Cause.TheVariants as cause
use Rattle.hb_base.specs.declared.ip.Ip.{Ip}
use Rattle.hb_conn.specs.Connection.{Connection}
use Rattle.hb_conn.specs.Observed.{octets_held}
use Rattle.hb_conn.specs.declared.happening.Happening.{Happening}
use Rattle.hb_conn.specs.declared.happening.Happening.TheVariants as happening
use Rattle.hb_hpack.specs.declared.header.HeaderList.{HeaderList}
use Rattle.hb_tunnel.specs.Tunnel.{up_size}
use Rattle.hb_tunnel.specs.Way.{after, pushes, ends}
use Rattle.hb_verdict.specs.Request.{request_of}
use Rattle.hb_inbound.specs.Calm.{IsAnswered}
use Rattle.hb_inbound.specs.Inbound.{Inbound, at_stream, ends_with, faulted, lacking}
use Rattle.hb_inbound.specs.Runs.{failure_status, end_code}
use Rattle.hb_inbound.specs.Tunnel.{ends_for}
use Rattle.hb_frames.specs.Numbers.{largest}
use Rattle.hb_link.specs.declared.asking.Asked.{Asked}
use Rattle.hb_link.specs.declared.hearing.Heard.{Heard}
use Rattle.hb_link.specs.declared.hearing.Heard.TheVariants.{Nothing, Done, Data, Request, Left, Fault}
use Rattle.hb_link.specs.declared.link.Link.{Link}
use Rattle.hb_link.specs.declared.tunnel.Stage.TheVariants.{Over}
use Rattle.hb_link.specs.declared.tunnel.Tunnel.{Tunnel}
use Rattle.hb_link.specs.Asking.{named_by, IsAnswerable, IsRequested}
use Rattle.hb_link.specs.Settling.{MayPut, MayLook}
use Rattle.hb_link.specs.Shows.{ShowsTunnels}

-- how much there still may be to be told of what came: the octets held, and an end
abbrev pub left_to_look : Connection → ℕ
left_to_look c = length (octets_held c) + (if is_some c.ended then 1 else 0)

-- THE TUNNELS

-- the one that is found on a stream changes so
abbrev pub changed_by : Option Tunnel → ℕ → (Tunnel → Tunnel) → FinMap nat_cmp Tunnel → FinMap nat_cmp Tunnel
changed_by None s change tunnels = tunnels
changed_by (Some k) s change tunnels = insert tunnels s (change k)

-- the one on a stream does, where it is there
abbrev pub changed_at : ℕ → (Tunnel → Tunnel) → FinMap nat_cmp Tunnel → FinMap nat_cmp Tunnel
changed_at s change tunnels = changed_by (get tunnels s) s change tunnels

-- bytes go up where they fit, and the way hasn't ended
abbrev pub takes_up : List ℕ → Tunnel → Bool
takes_up bytes k = not k.ways.up.has_ended && nat_le (length k.ways.up.held + length bytes) up_size

-- with these bytes on the way up; where they go up; with that way at its end
abbrev pub with_up : List ℕ → Tunnel → Tunnel
with_up bytes k = record k { ways = record k.ways { up = after k.ways.up (pushes bytes) } }

abbrev pub came_here : List ℕ → Tunnel → Tunnel
came_here bytes k = if takes_up bytes k then with_up bytes k else k

abbrev pub up_ended_here : Tunnel → Tunnel
up_ended_here k = record k { ways = record k.ways { up = after k.ways.up ends } }

-- its upstream is to be closed for this cause
abbrev pub over_for : Cause → Tunnel → Tunnel
over_for why k = record k { stage = Over why }

-- so it is where it has an upstream, and else gone
abbrev pub left_at : ℕ → Cause → (up : ℕ) → FinMap nat_cmp Tunnel → FinMap nat_cmp Tunnel
left_at s why up tunnels = if up == 0 then remove tunnels s else changed_at s (over_for why) tunnels

-- WHAT IS HEARD

-- a request with these headers, on a link to this destination
abbrev pub asked_of : ℕ → HeaderList → Bool → Ip → Asked
asked_of s headers end to = record {
  stream = s;
  request = request_of headers to;
  target = named_by (request_of headers to) headers;
  end = end;
}

-- DATA and its end are done at once; what else is told is still to be followed
abbrev pub heard_of : Ip → Option Happening → Heard
heard_of to None = Nothing
heard_of to (Some (happening.Opened s headers end)) = Request (asked_of s headers.now end to)
heard_of to (Some (happening.Chunk s bytes)) = Data s
heard_of to (Some (happening.Ended s)) = Done
heard_of to (Some (happening.Reset s code)) = Left s (cause.PeerReset code)
heard_of to (Some (happening.Broken s code)) = Left s (cause.StreamFault code)
heard_of to (Some (happening.GoneAway last)) = Done
heard_of to (Some (happening.Fault code)) = Fault code

-- DATA and its end change the tunnel of their stream
abbrev pub tunnels_heard : Option Happening → FinMap nat_cmp Tunnel → FinMap nat_cmp Tunnel
tunnels_heard (Some (happening.Chunk s bytes)) tunnels = changed_at s (came_here bytes.now) tunnels
tunnels_heard (Some (happening.Ended s)) tunnels = changed_at s up_ended_here tunnels
tunnels_heard told tunnels = tunnels

-- a cause for which the stream of a tunnel gets nothing
abbrev pub IsMute : Cause → Type 0
IsMute why = (failure_status why ≡ None) × (end_code why ≡ None)

-- what is known of what is heard
abbrev pub IsFitting : Heard → Type 0
IsFitting (Request asked) = IsAnswerable asked.request
IsFitting (Left s why) = IsMute why
IsFitting heard = ⊤

-- WHAT IS STILL TO BE DONE

-- the machine's tunnel on a stream has ended for a cause
pub record EndsFor (s : ℕ) (why : Cause) (k : Link) (x : Inbound) : Type 0 where
  pub before : Inbound
  pub may : MayLook k before
  pub is : x ≡ at_stream s (ends_for why) before

-- the machine's connection is at fault, and its tunnels have ended
pub record FaultsFor (code : ℕ) (k : Link) (x : Inbound) : Type 0 where
  pub before : Inbound
  pub conn : before.conn ≡ k.conn
  pub tunnels : ShowsTunnels k before
  pub numbered : (s : ℕ) → is_some (get k.tunnels s) ≡ true → s ≤ largest
  pub answered : IsAnswered before
  pub is : x ≡ ends_with (faulted code) (cause.ConnFault code) before

-- memory was wanting for the machine's link, and its tunnels have ended; the code's connection counts no more
pub record LacksMemory (k : Link) (x : Inbound) : Type 0 where
  pub before : Inbound
  pub tunnels : ShowsTunnels k before
  pub numbered : (s : ℕ) → is_some (get k.tunnels s) ≡ true → s ≤ largest
  pub is : x ≡ lacking before

-- what is heard is still to be followed
abbrev pub HasHeard : Heard → Link → Inbound → Type 0
HasHeard Nothing k x = MayPut k x
HasHeard Done k x = MayLook k x
HasHeard (Data s) k x = MayLook k x
HasHeard (Request asked) k x = IsRequested asked k x
HasHeard (Left s why) k x = EndsFor s why k x
HasHeard (Fault code) k x = FaultsFor code k x

-- more may be told behind it
abbrev pub goes_on : Heard → Bool
goes_on Nothing = false
goes_on (Fault code) = false
goes_on heard = true

-- more is looked at, or all was
abbrev pub Looked : Bool → Link → Inbound → Type 0
Looked true k x = MayLook k x
Looked false k x = MayPut k x
