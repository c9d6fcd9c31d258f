-- The octets that a made script hands to the proxy: what a control plane answers, what a front and a client send.
use Rattle.std.specs.Prelude.{ℕ, List, [], ◌∷◌, ◌++◌, length, replicate, codes}
use Rattle.hb_wire.specs.Writing.{bytes_of, number_of, packed_of}
use Rattle.hb_frames.specs.Numbers.{data_kind, headers_kind, settings_kind, end_headers_flag}
use Rattle.hb_frames.specs.Octets.{four}
use Rattle.hb_frames.specs.RawFrame.{spelling}

-- the types of a workload and of a policy
abbrev pub address_type : List ℕ
address_type = codes "type.googleapis.com/istio.workload.Address"

abbrev pub policy_type : List ℕ
policy_type = codes "type.googleapis.com/istio.security.Authorization"

-- the identity of the peer, without its scheme
abbrev pub peer : List ℕ
peer = codes "cluster.local/ns/a/sa/c"

-- the workload u1 on node n1: web in namespace a, at 10.0.0.7, reached by tunnels, under the policy a/p
abbrev pub workload : List ℕ
workload =
    bytes_of 1 (bytes_of 1 (codes "web") ++ bytes_of 2 (codes "a") ++ bytes_of 3 (10 ∷ 0 ∷ 0 ∷ 7 ∷ []) ++ number_of 5 1
    ++ bytes_of 9 (codes "n1") ++ bytes_of 16 (codes "a/p") ++ bytes_of 20 (codes "u1"))

-- the policy a/p of the workloads that name it, which allows what one match says
abbrev pub policy : List ℕ → List ℕ
policy allowed =
    bytes_of 1 (codes "p") ++ bytes_of 2 (codes "a") ++ number_of 3 2 ++ bytes_of 5 (bytes_of 2 (bytes_of 2 allowed))

-- the match of the peer as principal, and that of the port 9090
abbrev pub of_the_peer : List ℕ
of_the_peer = bytes_of 3 (bytes_of 1 peer)

abbrev pub of_port_9090 : List ℕ
of_port_9090 = packed_of 9 (9090 ∷ [])

-- a response of delta discovery with one resource: its version, its record, its name; the type, and a nonce
abbrev pub response : List ℕ → List ℕ → List ℕ → List ℕ → List ℕ → List ℕ
response url version told name nonce =
    bytes_of 2 (bytes_of 1 version ++ bytes_of 2 (bytes_of 1 url ++ bytes_of 2 told) ++ bytes_of 3 name)
    ++ bytes_of 4 url ++ bytes_of 5 nonce

-- a message of gRPC: not compressed, its length in four octets
abbrev pub message : List ℕ → List ℕ
message content = 0 ∷ four (length content) ++ content

-- the response with the workload, the one with the policy for the peer, and the one that leaves it the port 9090 alone
unfoldable pub workloads : List ℕ
workloads = message (response address_type (codes "1") workload (codes "u1") (codes "x1"))

unfoldable pub policies : List ℕ
policies = message (response policy_type (codes "1") (policy of_the_peer) (codes "a/p") (codes "x2"))

unfoldable pub changed_policies : List ℕ
changed_policies = message (response policy_type (codes "2") (policy of_port_9090) (codes "a/p") (codes "x7"))

-- a DATA frame of stream 1
unfoldable pub data_frame : List ℕ → List ℕ
data_frame content = spelling (record { kind = data_kind; flags = 0; stream = 1; payload = content })

-- an empty SETTINGS frame
abbrev pub settings_frame : List ℕ
settings_frame = spelling (record { kind = settings_kind; flags = 0; stream = 0; payload = [] })

-- a HEADERS frame of stream 1, the end of its header block
abbrev pub headers_frame : List ℕ → List ℕ
headers_frame block = spelling (record { kind = headers_kind; flags = end_headers_flag; stream = 1; payload = block })

-- what a control plane sends first: its settings, and the status 200, which the static table of HPACK has at place 8
unfoldable pub answered : List ℕ
answered = settings_frame ++ headers_frame (136 ∷ [])

-- the header of a front: the signature of the PROXY protocol; version 2, PROXY, TCP over IPv4, 47 octets; from 10.0.0.9:4000 to
-- 10.0.0.7:15008; the identity of the peer, 32 octets
unfoldable pub front : List ℕ
front =
    13 ∷ 10 ∷ 13 ∷ 10 ∷ 0 ∷ 13 ∷ 10 ∷ 81 ∷ 85 ∷ 73 ∷ 84 ∷ 10 ∷ 33 ∷ 17 ∷ 0 ∷ 47 ∷ 10 ∷ 0 ∷ 0 ∷ 9 ∷ 10 ∷ 0 ∷ 0 ∷ 7
    ∷ 15 ∷ 160 ∷ 58 ∷ 160 ∷ 224 ∷ 0 ∷ 32 ∷ codes "spiffe://" ++ peer

-- what a client sends first (RFC 9113 section 3.4)
unfoldable pub preface : List ℕ
preface = codes "PRI * HTTP/2.0\r\n\r\nSM\r\n\r\n"

-- the request for a tunnel to an address and port, none of its two headers indexed (RFC 7541 section 6.2.2)
unfoldable pub connect : List ℕ → List ℕ
connect target = headers_frame (2 ∷ 7 ∷ codes "CONNECT" ++ 1 ∷ length target ∷ target)

-- so many octets `a`
abbrev pub marks : ℕ → List ℕ
marks n = replicate n 97
