-- Which requests are dialled for, said of the answer; and small requests, right and wrong.
use Rattle.std.specs.Prelude.{◌≡◌, ℕ, ◌≤◌, Bool, true, false, List, [], ◌∷◌, Option, Some, Ok, codes}
use Rattle.hb_base.specs.TargetText.{target_of}
use Rattle.hb_base.specs.declared.ip.Ip.{Ip}
use Rattle.hb_base.specs.declared.ip.Ip.TheVariants.{V4, V6}
use Rattle.hb_base.specs.declared.peer.Peer.{Peer}
use Rattle.hb_base.specs.declared.target.Target.{Target}
use Rattle.hb_held.specs.Held.{Resources, no_doors}
use Rattle.hb_held.specs.Lookup.{ip_eq}
use Rattle.hb_held.specs.declared.doors.OwnDoors.{OwnDoors}
use Rattle.hb_hpack.specs.StaticTable.{header}
use Rattle.hb_hpack.specs.declared.header.Header.{Header}
use Rattle.hb_hpack.specs.declared.header.HeaderList.{HeaderList}
use Rattle.hb_table.specs.Judgement.{judged}
use Rattle.hb_table.specs.declared.judgement.Judged.TheVariants.{Admitted}
use Rattle.hb_verdict.specs.Fields.{value_of, is_malformed}
use Rattle.hb_verdict.specs.Request.{request_of}
use Rattle.hb_verdict.specs.Verdict.{synced, is_unspecified, is_own_door, leads_back, verdict}
use Rattle.hb_verdict.specs.declared.request.Request.{Request}
use Rattle.hb_verdict.specs.declared.request.Request.TheVariants.{Refused, Malformed, Connect}
use Rattle.hb_verdict.specs.declared.verdict.Verdict.TheVariants.{Dial}

-- the headers fit, are a request, its method is CONNECT and its authority the target, at the link's destination
pub record AsksFor (headers : HeaderList) (destination : Ip) (target : Target) : Type 0 where
  pub fits : headers.size ≤ 16384
  pub formed : is_malformed headers.kept ≡ false
  pub method : value_of (codes ":method") headers.kept ≡ Some (codes "CONNECT")
  pub authority : List ℕ
  pub named : value_of (codes ":authority") headers.kept ≡ Some authority
  pub text : target_of authority ≡ Ok target
  pub here : ip_eq target.ip destination ≡ true

-- so it is exactly where a tunnel to the target is asked for
abbrev pub TunnelsAreAskedFor : Type 0
TunnelsAreAskedFor = (headers : HeaderList) (destination : Ip) (target : Target)
    → request_of headers destination ≡ Connect target → AsksFor headers destination target

abbrev pub NoTunnelIsMissed : Type 0
NoTunnelIsMissed = (headers : HeaderList) (destination : Ip) (target : Target)
    → AsksFor headers destination target → request_of headers destination ≡ Connect target

-- the target of a request is dialled exactly where workloads and policies came, they admit the peer, it doesn't lead back to the node, and a
-- place is left
pub record MayDial (request : Request) (h : Resources) (peer : Peer) (full : Bool) (target : Target) : Type 0 where
  pub asked : request ≡ Connect target
  pub told : synced h ≡ true
  pub admitted : judged h peer target ≡ Admitted
  pub elsewhere : leads_back h.doors target ≡ false
  pub left : full ≡ false

abbrev pub DialsWhereItMay : Type 0
DialsWhereItMay = (request : Request) (h : Resources) (peer : Peer) (full : Bool) (target : Target)
    → verdict request h peer full ≡ Dial target → MayDial request h peer full target

abbrev pub DialsAllThatItMay : Type 0
DialsAllThatItMay = (request : Request) (h : Resources) (peer : Peer) (full : Bool) (target : Target)
    → MayDial request h peer full target → verdict request h peer full ≡ Dial target

-- so nothing is dialled at a door of the node
abbrev pub NeverDialsItsDoor : Type 0
NeverDialsItsDoor = (request : Request) (h : Resources) (peer : Peer) (full : Bool) (target : Target)
    → is_own_door h.doors target ≡ true → verdict request h peer full ≡ Dial target → ⊥

-- nor at the unspecified address
abbrev pub NeverDialsNowhere : Type 0
NeverDialsNowhere = (request : Request) (h : Resources) (peer : Peer) (full : Bool) (target : Target)
    → is_unspecified target.ip ≡ true → verdict request h peer full ≡ Dial target → ⊥

-- 10.0.0.7
abbrev pub here : Ip
here = V4 167772167

-- a door that listens at each address is reached at 10.0.0.7, whichever it is; one at another address or port isn't
abbrev pub port_80 : Ip → Target
port_80 ip = record { ip = ip; port = 80 }

pub record DoorIsReached (ip : Ip) : Type 0 where
  pub inbound : is_own_door (record no_doors { inbound = Some (port_80 ip) }) (port_80 here) ≡ true
  pub outbound : is_own_door (record no_doors { outbound = Some (port_80 ip) }) (port_80 here) ≡ true
  pub plain : is_own_door (record no_doors { plain = Some (port_80 ip) }) (port_80 here) ≡ true

-- where each listens there
abbrev pub each_at : Option Target → OwnDoors
each_at door = record { inbound = door; outbound = door; plain = door }

abbrev pub DoorIsMissed : Option Target → Type 0
DoorIsMissed door = is_own_door (each_at door) (port_80 here) ≡ false

-- where no door listens, each port of the unspecified address leads back, and one of 10.0.0.7 doesn't
pub record NowhereLeadsBack : Type 0 where
  pub nowhere : (port : ℕ) → leads_back no_doors (record { ip = V4 0; port = port }) ≡ true
  pub nowhere_of_six : (port : ℕ) → leads_back no_doors (record { ip = V6 0; port = port }) ≡ true
  pub somewhere : (port : ℕ) → leads_back no_doors (record { ip = here; port = port }) ≡ false

-- small requests to 10.0.0.7
abbrev pub connect : Header
connect = header (codes ":method") (codes "CONNECT")

abbrev pub to : List ℕ → Header
to text = header (codes ":authority") text

abbrev pub authority : Header
authority = to (codes "10.0.0.7:80")

abbrev pub small : List Header → HeaderList
small headers = record { kept = headers; size = 200 }

abbrev pub Answers : List Header → Request → Type 0
Answers headers request = request_of (small headers) here ≡ request

-- a tunnel, also with another header behind; and one to another address
abbrev pub AsksSo : Type 0
AsksSo = (text : List ℕ) (target : Target) → target_of text ≡ Ok target → ip_eq target.ip here ≡ true
    → Answers (connect ∷ to text ∷ header (codes "a") (codes "B") ∷ []) (Connect target)

abbrev pub ElsewhereIsRefused : Type 0
ElsewhereIsRefused = (text : List ℕ) (target : Target) → target_of text ≡ Ok target → ip_eq target.ip here ≡ false
    → Answers (connect ∷ to text ∷ []) (Refused 400)

-- a pseudo-header behind another header, twice, of a response, without a target, with a scheme; an upper-case letter, no name
abbrev pub LateIsMalformed : Type 0
LateIsMalformed = Answers (connect ∷ header (codes "a") [] ∷ authority ∷ []) Malformed

abbrev pub TwiceIsMalformed : Type 0
TwiceIsMalformed = Answers (connect ∷ authority ∷ authority ∷ []) Malformed

abbrev pub StatusIsMalformed : Type 0
StatusIsMalformed = Answers (connect ∷ authority ∷ header (codes ":status") (codes "200") ∷ []) Malformed

abbrev pub NoTargetIsMalformed : Type 0
NoTargetIsMalformed = Answers (connect ∷ []) Malformed

abbrev pub SchemeIsMalformed : Type 0
SchemeIsMalformed = Answers (connect ∷ authority ∷ header (codes ":scheme") (codes "http") ∷ []) Malformed

abbrev pub UpperCaseIsMalformed : Type 0
UpperCaseIsMalformed = Answers (connect ∷ authority ∷ header (codes "aB") [] ∷ []) Malformed

abbrev pub NoNameIsMalformed : Type 0
NoNameIsMalformed = Answers (connect ∷ authority ∷ header [] [] ∷ []) Malformed

-- another method
abbrev pub GetIsRefused : Type 0
GetIsRefused = Answers (header (codes ":method") (codes "GET") ∷ authority ∷ []) (Refused 405)
