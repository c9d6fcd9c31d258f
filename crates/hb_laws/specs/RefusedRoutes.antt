-- Small runs that the laws of links to gateways, of ways and of rings refuse, and some that they let.
use Rattle.std.specs.Prelude.{◌≡◌, ◌≢◌, ℕ, ◌+◌, Bool, true, false, List, [], ◌∷◌, ◌++◌, length, Some, None}
use Rattle.hb_base.specs.declared.cause.Cause.{Cause}
use Rattle.hb_base.specs.declared.cause.Cause.TheVariants as cause
use Rattle.hb_base.specs.declared.door.Door.{Door}
use Rattle.hb_base.specs.declared.door.Door.TheVariants as door
use Rattle.hb_base.specs.declared.door.Why.TheVariants as whys
use Rattle.hb_base.specs.declared.note.Note.{Note}
use Rattle.hb_base.specs.declared.target.Target.{Target}
use Rattle.hb_captured.specs.Answer.{Aim, Routing, straight_to, through}
use Rattle.hb_captured.specs.Part as captured
use Rattle.hb_conn.specs.declared.found.Found.{Found}
use Rattle.hb_conn.specs.declared.found.Found.TheVariants as found
use Rattle.hb_front.specs.Reading.{Seen}
use Rattle.hb_gateway.specs.Connections.{IsOneHistory}
use Rattle.hb_gateway.specs.Key.{Key}
use Rattle.hb_gateway.specs.Part as gateway
use Rattle.hb_gateway.specs.Part.{Part}
use Rattle.hb_gateway.specs.Response.{Heard, opens, fails}
use Rattle.hb_history.specs.Points as history
use Rattle.hb_hpack.specs.declared.header.Header.{Header}
use Rattle.hb_model.specs.Discovery.{status_of, is_interim, headers_read}
use Rattle.hb_model.specs.declared.config.NodeConfig.{NodeConfig}
use Rattle.hb_proxy.specs.Points.{Point, of_plain, of_gate, of_stream}
use Rattle.hb_proxy.specs.Shared.{asks, tells}
use Rattle.hb_proxy.specs.Streams.{is_one_to}
use Rattle.hb_route.specs.Opens.{open_at}
use Rattle.hb_world.specs.declared.entry.Entry.TheVariants as e
use Rattle.hb_laws.specs.Closes.{CloseLaw}
use Rattle.hb_laws.specs.Gateways.{GateDialLaw, HeaderLaw, OpenLaw}
use Rattle.hb_laws.specs.Routes.{RouteLaw, RingLaw}

-- A link of the outbound door whose header is whole, and whose bytes are to go there
abbrev pub aimed : (link : ℕ) → Seen → Routing → Aim → List Point
aimed l seen routing aim =
    of_plain l (captured.entry (e.Accepted l door.Outbound)) ∷ of_plain l captured.welcomed
    ∷ of_plain l (captured.fronted seen routing aim) ∷ []

-- DIALS OF GATEWAYS: the way of link 2 leads by one; a link to a gateway of this key is dialled for it at this address, or its dial fails
abbrev pub dialled_at : Seen → Routing → (way : Aim) → Key → Target → List Point
dialled_at seen routing way key to =
    aimed 2 seen routing way ++ of_gate 3 (gateway.dialled (e.Dialled 3 to (whys.Gateway 2)) key) ∷ []

abbrev pub failed_at : Seen → Routing → (way : Aim) → Target → List Point
failed_at seen routing way to = aimed 2 seen routing way ++ of_plain 2 (captured.up (e.DialFailed to (whys.Gateway 2))) ∷ []

-- one is dialled, or tried, at another address than its key's; for another key; for a link that goes straight
abbrev pub DialsGateAstray : Type 0
DialsGateAstray = (seen : Seen) (routing : Routing) (key : Key) (authority : Target) (endpoint : List ℕ) (to : Target)
    → to ≢ key.gateway → GateDialLaw (dialled_at seen routing (through key authority endpoint) key to) → ⊥

abbrev pub TriesGateAstray : Type 0
TriesGateAstray = (seen : Seen) (routing : Routing) (key : Key) (authority : Target) (endpoint : List ℕ) (to : Target)
    → to ≢ key.gateway → GateDialLaw (failed_at seen routing (through key authority endpoint) to) → ⊥

abbrev pub DialsForOtherKey : Type 0
DialsForOtherKey = (seen : Seen) (routing : Routing) (key other : Key) (authority : Target) (endpoint : List ℕ) (to : Target)
    → key ≢ other → GateDialLaw (dialled_at seen routing (through key authority endpoint) other to) → ⊥

abbrev pub DialsForNoKey : Type 0
DialsForNoKey = (seen : Seen) (routing : Routing) (key : Key) (there to : Target)
    → GateDialLaw (dialled_at seen routing (straight_to there None) key to) → ⊥

-- it is dialled at the address of its key
abbrev pub DialsByItsKey : Type 0
DialsByItsKey = (seen : Seen) (routing : Routing) (key : Key) (authority : Target) (endpoint : List ℕ)
    → GateDialLaw (dialled_at seen routing (through key authority endpoint) key key.gateway)

-- WAYS: link 1 goes straight to the endpoint of this name, and link 2 was accepted
abbrev pub one_there : Seen → Routing → Target → (name : List ℕ) → List Point
one_there seen routing to name =
    aimed 1 seen routing (straight_to to (Some name)) ++ of_plain 2 (captured.entry (e.Accepted 2 door.Outbound))
    ∷ of_plain 2 captured.welcomed ∷ []

-- the way of link 2 goes by another port than the node's, also where it is refused; as if no link were a connection to the endpoint; as if
-- link 1 were one still, though it broke
abbrev pub RoutesByOtherPort : Type 0
RoutesByOtherPort = (g : NodeConfig) (seen : Seen) (routing : Routing) (aim : Aim) → routing.hbone_port ≢ g.hbone_port
    → RouteLaw g (aimed 2 seen routing aim) → ⊥

abbrev pub RefusesByOtherPort : Type 0
RefusesByOtherPort = (g : NodeConfig) (seen : Seen) (routing : Routing) (why : Cause) (status : ℕ) (note : Note)
    → routing.hbone_port ≢ g.hbone_port → RouteLaw g (of_plain 2 (captured.refused seen routing why status note) ∷ []) → ⊥

abbrev pub RoutesUncounted : Type 0
RoutesUncounted = (g : NodeConfig) (seen other : Seen) (first second : Routing) (to : Target) (name : List ℕ) (aim : Aim)
    → open_at second.opens name ≡ 0
    → RouteLaw g (one_there seen first to name ++ of_plain 2 (captured.fronted other second aim) ∷ []) → ⊥

abbrev pub RoutesByEnded : Type 0
RoutesByEnded = (g : NodeConfig) (seen other : Seen) (first second : Routing) (to : Target) (name : List ℕ) (aim : Aim)
    → open_at second.opens name ≡ 1
    → RouteLaw g
    (one_there seen first to name ++ of_plain 1 (captured.entry (e.Broke 1)) ∷ of_plain 2 (captured.fronted other second aim) ∷ []) → ⊥

-- both go by the node's port, the first as none is a connection yet, the second by it alone
abbrev pub RoutesByCounts : Type 0
RoutesByCounts = (g : NodeConfig) (seen other : Seen) (first second : Routing) (to : Target) (name : List ℕ) (aim : Aim)
    → first.hbone_port ≡ g.hbone_port → second.hbone_port ≡ g.hbone_port → ((any : List ℕ) → open_at first.opens any ≡ 0)
    → ((any : List ℕ) → open_at second.opens any ≡ is_one_to any (Some name))
    → RouteLaw g (one_there seen first to name ++ of_plain 2 (captured.fronted other second aim) ∷ [])

-- WHAT OPENS A TUNNEL: one of link 2 is asked for on stream 1 of link 3, on which these HEADERS are read
abbrev pub read_now : Target → List history.Point → List Header → (end : Bool) → List Point
read_now authority points headers end =
    of_stream 2 3 1 (asks authority) ∷ of_gate 3 (gateway.looked points (found.Opened 1 end) headers) ∷ []

abbrev pub told_now : Heard → (begun : ℕ) → Point
told_now heard begun = of_stream 2 3 1 (tells heard begun)

-- it opens at 403; at a status below 200; with no answer; behind its failure; or it fails at 200
abbrev pub OpensAt403 : Type 0
OpensAt403 = (authority : Target) (points : List history.Point) (headers : List Header) (end now : Bool) (begun : ℕ)
    → status_of headers ≡ Some 403 → OpenLaw (read_now authority points headers end ++ told_now (opens now) begun ∷ []) → ⊥

abbrev pub OpensAtInterim : Type 0
OpensAtInterim = (authority : Target) (points : List history.Point) (headers : List Header) (now : Bool) (begun : ℕ)
    → is_interim (status_of headers) ≡ true
    → OpenLaw (read_now authority points headers false ++ told_now (opens now) begun ∷ []) → ⊥

abbrev pub OpensUnanswered : Type 0
OpensUnanswered = (authority : Target) (now : Bool) (begun : ℕ)
    → OpenLaw (of_stream 2 3 1 (asks authority) ∷ told_now (opens now) begun ∷ []) → ⊥

abbrev pub OpensFailed : Type 0
OpensFailed = (authority : Target) (points : List history.Point) (headers : List Header) (end now : Bool) (why : Cause) (begun : ℕ)
    → OpenLaw (read_now authority points headers end ++ told_now (fails why) begun ∷ told_now (opens now) begun ∷ []) → ⊥

abbrev pub FailsAt200 : Type 0
FailsAt200 = (authority : Target) (points : List history.Point) (headers : List Header) (end : Bool) (why : Cause) (begun : ℕ)
    → status_of headers ≡ Some 200 → OpenLaw (read_now authority points headers end ++ told_now (fails why) begun ∷ []) → ⊥

-- it opens at 200, and fails at 403
abbrev pub OpensAt200 : Type 0
OpensAt200 = (authority : Target) (points : List history.Point) (headers : List Header) (end : Bool) (begun : ℕ)
    → status_of headers ≡ Some 200 → OpenLaw (read_now authority points headers end ++ told_now (opens end) begun ∷ [])

abbrev pub FailsAt403 : Type 0
FailsAt403 = (authority : Target) (points : List history.Point) (headers : List Header) (end : Bool) (begun : ℕ)
    → status_of headers ≡ Some 403
    → OpenLaw (read_now authority points headers end ++ told_now (fails (cause.UpRefused 403)) begun ∷ [])

-- HEADERS are told that the connection of the link didn't read
abbrev pub ReadsUnread : Type 0
ReadsUnread = (points : List history.Point) (told : Found) (headers : List Header)
    → ((now : IsOneHistory (gateway.looked points told headers ∷ [])) → headers ≢ headers_read now.conn)
    → HeaderLaw (gateway.looked points told headers ∷ []) → ⊥

-- CLOSES: link 3 is dialled for link 2, and open
abbrev pub opened : Target → Key → List Part
opened to key = gateway.dialled (e.Dialled 3 to (whys.Gateway 2)) key ∷ gateway.entry (e.Opened 3) ∷ []

-- it is closed though nothing ended it; for the run's end though it broke first; as broken though its gateway sends no more; twice
abbrev pub ClosesHealthyGate : Type 0
ClosesHealthyGate = (to : Target) (key : Key) (why : Cause) → CloseLaw (opened to key ++ gateway.entry (e.Closed 3 why) ∷ []) → ⊥

abbrev pub ClosesGateForSecond : Type 0
ClosesGateForSecond = (to : Target) (key : Key) (why : Cause) → cause.Broken ≢ why
    → CloseLaw (opened to key ++ gateway.entry (e.Broke 3) ∷ gateway.stopped why ∷ gateway.entry (e.Closed 3 why) ∷ []) → ⊥

abbrev pub ClosesEndedAsBroken : Type 0
ClosesEndedAsBroken = (to : Target) (key : Key)
    → CloseLaw (opened to key ++ gateway.entry (e.Ended 3) ∷ gateway.entry (e.Closed 3 cause.Broken) ∷ []) → ⊥

abbrev pub ClosesGateTwice : Type 0
ClosesGateTwice = (to : Target) (key : Key) (why again : Cause)
    → CloseLaw
    (opened to key ++ gateway.stopped why ∷ gateway.entry (e.Closed 3 why) ∷ gateway.entry (e.Closed 3 again) ∷ []) → ⊥

-- behind its end it is read; a tunnel is asked for; behind a connection error it is written twice
abbrev pub ReadsEndedGate : Type 0
ReadsEndedGate = (to : Target) (key : Key) (bytes : List ℕ)
    → CloseLaw (opened to key ++ gateway.entry (e.Ended 3) ∷ gateway.entry (e.Came 3 bytes) ∷ []) → ⊥

abbrev pub AsksEndedGate : Type 0
AsksEndedGate = (to : Target) (key : Key) (s captured : ℕ) (authority : Target)
    → CloseLaw (opened to key ++ gateway.entry (e.Broke 3) ∷ gateway.asks s captured authority ∷ []) → ⊥

abbrev pub WritesGateTwice : Type 0
WritesGateTwice = (to : Target) (key : Key) (code : ℕ) (points : List history.Point) (headers : List Header) (first second : List ℕ)
    → CloseLaw
    (opened to key ++ gateway.looked points (found.Fault code) headers ∷ gateway.entry (e.Went 3 first)
    ∷ gateway.entry (e.Went 3 second) ∷ []) → ⊥

-- it is closed as broken, also where it never was open; behind a connection error what waits is written once
abbrev pub ClosesBrokenGate : Type 0
ClosesBrokenGate = (to : Target) (key : Key) (why : Cause)
    → CloseLaw
    (gateway.dialled (e.Dialled 3 to (whys.Gateway 2)) key ∷ gateway.entry (e.Broke 3) ∷ gateway.stopped why
    ∷ gateway.entry (e.Closed 3 cause.Broken) ∷ [])

abbrev pub WritesGateOnce : Type 0
WritesGateOnce = (to : Target) (key : Key) (code : ℕ) (points : List history.Point) (headers : List Header) (bytes : List ℕ)
    → CloseLaw
    (opened to key ++ gateway.looked points (found.Fault code) headers ∷ gateway.entry (e.Went 3 bytes)
    ∷ gateway.entry (e.Closed 3 (cause.ConnFault code)) ∷ [])

-- RINGS: so many bytes come on link 2 of this door with its header; or so many from its upstream. None of them goes on
abbrev pub comes : Door → Seen → Routing → Aim → List ℕ → List captured.Part
comes d seen routing aim bytes =
    captured.entry (e.Accepted 2 d) ∷ captured.welcomed ∷ captured.entry (e.Came 2 bytes) ∷ captured.fronted seen routing aim ∷ []

abbrev pub comes_back : Door → List ℕ → List captured.Part
comes_back d bytes = captured.entry (e.Accepted 2 d) ∷ captured.up (e.Came 3 bytes) ∷ []

-- one octet beyond each ring, at the plain door and at the outbound one
abbrev pub OverrunsPlain : Type 0
OverrunsPlain = (seen : Seen) (routing : Routing) (aim : Aim) (bytes : List ℕ) → length bytes ≡ seen.length + 65536
    → RingLaw (comes door.Plain seen routing aim bytes) → ⊥

abbrev pub OverrunsPlainBack : Type 0
OverrunsPlainBack = (bytes : List ℕ) → length bytes ≡ 16385 → RingLaw (comes_back door.Plain bytes) → ⊥

abbrev pub OverrunsOutbound : Type 0
OverrunsOutbound = (seen : Seen) (routing : Routing) (aim : Aim) (bytes : List ℕ) → length bytes ≡ seen.length + 16385
    → RingLaw (comes door.Outbound seen routing aim bytes) → ⊥

abbrev pub OverrunsOutboundBack : Type 0
OverrunsOutboundBack = (bytes : List ℕ) → length bytes ≡ 65536 → RingLaw (comes_back door.Outbound bytes) → ⊥

-- so many as fill it may
abbrev pub FillsPlain : Type 0
FillsPlain = (seen : Seen) (routing : Routing) (aim : Aim) (bytes : List ℕ) → length bytes ≡ seen.length + 65535
    → RingLaw (comes door.Plain seen routing aim bytes)

abbrev pub FillsOutboundBack : Type 0
FillsOutboundBack = (bytes : List ℕ) → length bytes ≡ 65535 → RingLaw (comes_back door.Outbound bytes)
