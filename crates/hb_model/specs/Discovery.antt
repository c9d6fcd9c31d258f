-- A link to the control plane: a client's connection whose stream 1 carries requests one way and responses the other.
use Rattle.std.specs.Prelude.{ℕ, ◌==◌, ◌&&◌, ◌||◌, nat_lt, nat_le, Bool, false, if◌then◌else◌, List, [], ◌∷◌, ◌++◌, length, min, drop, Option, Some, None, codes}
use Rattle.std.specs.List.{list_all}
use Rattle.std.specs.Str.{bytes_eq}
use Rattle.hb_base.specs.Decimal.{is_digit, decimal_value}
use Rattle.hb_base.specs.TargetText.{target_text}
use Rattle.hb_base.specs.declared.cause.Cause.{Cause}
use Rattle.hb_base.specs.declared.cause.Cause.TheVariants as cause
use Rattle.hb_base.specs.declared.target.Target.{Target}
use Rattle.hb_grpc.specs.Message.{spelling}
use Rattle.hb_grpc.specs.Reading.{Framing}
use Rattle.hb_disco.specs.Request.{first_of, answer_of}
use Rattle.hb_disco.specs.declared.kind.Kind.TheVariants as kind
use Rattle.hb_disco.specs.declared.response.Response.{Response}
use Rattle.hb_held.specs.Held.{Resources}
use Rattle.hb_held.specs.Outcome.{outcome_of}
use Rattle.hb_held.specs.Rows.{versions}
use Rattle.hb_held.specs.declared.outcome.Refusal.{Refusal}
use Rattle.hb_hpack.specs.StaticTable.{header}
use Rattle.hb_hpack.specs.declared.header.Header.{Header}
use Rattle.hb_conn.specs.Connection.{Connection, fresh_client, taken}
use Rattle.hb_conn.specs.Observed as connection
use Rattle.hb_conn.specs.Observed.{own_side_open, count_put, data_put, creditable, header_list}
pub use Rattle.hb_conn.specs.Observed.{chunk_of}
use Rattle.hb_conn.specs.declared.found.Found.{Found}
use Rattle.hb_conn.specs.declared.found.Found.TheVariants as found

-- the one stream of the link
abbrev pub stream : ℕ
stream = 1

-- the most bytes of a message
abbrev pub longest_message : ℕ
longest_message = 67108864

-- the headers of its request (gRPC over HTTP/2, "Requests"; Envoy xDS protocol, aggregated discovery)
abbrev pub headers_of : Target → List Header
headers_of to =
    header (codes ":method") (codes "POST")
    ∷ header (codes ":scheme") (codes "http")
    ∷ header (codes ":path") (codes "/envoy.service.discovery.v3.AggregatedDiscoveryService/DeltaAggregatedResources")
    ∷ header (codes ":authority") (target_text to)
    ∷ header (codes "te") (codes "trailers")
    ∷ header (codes "content-type") (codes "application/grpc")
    ∷ []

-- the first two requests of a node, one a kind, with the versions that it holds
abbrev pub first_requests : List ℕ → Resources → List (List ℕ)
first_requests id held =
    first_of id kind.Address (versions held kind.Address) ∷ first_of id kind.Authorization (versions held kind.Authorization) ∷ []

abbrev pub first_name : List Refusal → Option (List ℕ)
first_name [] = None
first_name (r ∷ rs) = Some r.name

-- the answer to a response that comes while this is held: it names the first resource that is refused, if any
abbrev pub answer_to : Resources → Response → List ℕ
answer_to held r = answer_of r.kind r.nonce (first_name (outcome_of held r).refused)

-- how far a link is
pub data Phase : Type 0 where
  -- it isn't born
  unborn : Phase
  -- it is dialled, and not open yet
  dialling : Phase
  -- bytes may come and go
  live : Phase
  -- a connection error of this code was told: what waits may be written once, and the link is to be closed
  faulted : (code : ℕ) → Phase
  -- it is to be closed for this cause
  ending : Cause → Phase
  -- it is closed
  closed : Phase

pub record Discovery : Type 0 where
  pub phase : Phase
  pub conn : Connection
  -- the response has status 200
  pub answered : Bool
  -- the DATA handed out last, as far as no message of it is taken, and how many octets it had
  pub chunk : List ℕ
  pub counted : ℕ
  -- what is held of a message
  pub framing : Framing
  -- the bytes of requests that no DATA frame has yet
  pub waiting : List ℕ

-- before its birth
abbrev pub no_link : Discovery
no_link = record {
  phase = unborn;
  conn = fresh_client;
  answered = false;
  chunk = [];
  counted = 0;
  framing = record { limit = longest_message; held = [] };
  waiting = [];
}

abbrev pub spelled : List (List ℕ) → List ℕ
spelled [] = []
spelled (m ∷ ms) = spelling m ++ spelled ms

-- it is dialled: its stream is opened, and the first requests wait
abbrev pub dialled : List ℕ → Target → Resources → Discovery
dialled id to held = record no_link {
  phase = dialling;
  conn = connection.opened fresh_client stream (headers_of to) false;
  waiting = spelled (first_requests id held);
}

-- it is open
abbrev pub opened : Phase → Phase
opened dialling = live
opened phase = phase

-- its peer sends no more
abbrev pub ended : Phase → Phase
ended live = ending cause.Broken
ended phase = phase

-- it broke; behind a connection error that is its last write
abbrev pub broken : Phase → Phase
broken dialling = ending cause.Broken
broken live = ending cause.Broken
broken (faulted code) = ending (cause.ConnFault code)
broken phase = phase

-- behind a connection error one write is made
abbrev pub went : Phase → Phase
went (faulted code) = ending (cause.ConnFault code)
went phase = phase

-- the run ends
abbrev pub stopped_for : Cause → Phase → Phase
stopped_for cause dialling = ending cause
stopped_for cause live = ending cause
stopped_for cause phase = phase

-- why it is to be closed
abbrev pub closing : Phase → Option Cause
closing (ending cause) = Some cause
closing (faulted code) = Some (cause.ConnFault code)
closing _ = None

-- a status of three digits
abbrev pub number_of_status : List ℕ → Option ℕ
number_of_status text = if length text == 3 && list_all is_digit text then Some (decimal_value text) else None

-- the first status of some headers
abbrev pub status_of : List Header → Option ℕ
status_of [] = None
status_of (h ∷ hs) = if bytes_eq h.name (codes ":status") then number_of_status h.value else status_of hs

-- a status below 200 is passed over (RFC 9110 section 15.2)
abbrev pub is_interim : Option ℕ → Bool
is_interim None = false
is_interim (Some n) = nat_le 100 n && nat_lt n 200

abbrev pub is_accepted : Option ℕ → Bool
is_accepted None = false
is_accepted (Some n) = n == 200

-- why headers end the link, if they do: an end of the stream does, also with them; behind a status 200 they say nothing
abbrev pub end_by_headers : Bool → Option ℕ → Bool → Option Cause
end_by_headers answered status end =
    if end then Some cause.Discovery
    else if answered || is_interim status || is_accepted status then None
    else Some cause.Discovery

-- why what is told of a frame ends the link, if it does: the stream's end, a reset or an error of it, other headers than a
-- status 200, a GOAWAY that takes no stream (RFC 9113 section 6.8), a connection error
abbrev pub end_by : Bool → List Header → Found → Option Cause
end_by answered headers (found.Opened s end) = end_by_headers answered (status_of headers) end
end_by answered headers (found.Ended s) = Some cause.Discovery
end_by answered headers (found.Reset s code) = Some cause.Discovery
end_by answered headers (found.Broken s code) = Some cause.Discovery
end_by answered headers (found.GoneAway last) = if nat_lt last stream then Some cause.GoneAway else None
end_by answered headers (found.Fault code) = Some (cause.ConnFault code)
end_by answered headers _ = None

-- whether a status 200 came
abbrev pub answered_by : Bool → List Header → Found → Bool
answered_by answered headers (found.Opened s end) = answered || is_accepted (status_of headers)
answered_by answered headers _ = answered

-- a link that ends is to be closed; behind a connection error what waits may be written once
abbrev pub phase_by : Phase → Option Cause → Phase
phase_by phase None = phase
phase_by phase (Some (cause.ConnFault code)) = faulted code
phase_by phase (Some cause) = ending cause

-- the headers that a connection read last
abbrev pub headers_read : Connection → List Header
headers_read c = (header_list c).kept

-- frames were looked at, of the last of which this is told
abbrev pub on_found : Found → Connection → Discovery → Discovery
on_found told conn x = record x {
  phase = phase_by x.phase (end_by x.answered (headers_read conn) told);
  conn = conn;
  answered = answered_by x.answered (headers_read conn) told;
  chunk = chunk_of conn told;
  counted = length (chunk_of conn told);
}

-- a link ends
abbrev pub ends_for : Cause → Discovery → Discovery
ends_for cause x = record x { phase = ending cause }

-- bytes came, and went
abbrev pub came : List ℕ → Discovery → Discovery
came bytes x = record x { conn = taken x.conn bytes }

abbrev pub wrote : ℕ → Discovery → Discovery
wrote n x = record x { phase = went x.phase; conn = connection.wrote x.conn n }

-- how many octets of what waits may go in one DATA frame now: none once this end's side of the stream is closed
abbrev pub sendable : Discovery → ℕ
sendable x =
    if own_side_open x.conn stream then count_put x.conn stream x.waiting else 0

-- they go in one DATA frame
abbrev pub put_requests : Discovery → Discovery
put_requests x = record x {
  conn = data_put x.conn stream x.waiting;
  waiting = drop (sendable x) x.waiting;
}

-- how many octets of the DATA handed out can be used up: all of them, as long as the stream has windows
abbrev pub usable : Discovery → ℕ
usable x = min x.counted (creditable x.conn stream)

-- they are used up
abbrev pub credited : ℕ → Discovery → Discovery
credited n x = record x { conn = connection.credited x.conn stream n; counted = 0 }
