-- What a request on a stream of an inbound link is answered, by the resources held.
use Rattle.std.specs.Prelude.{Bool, true, false, not, ◌==◌, ◌&&◌, ◌||◌, if◌then◌else◌, Option, Some, None}
use Rattle.hb_base.specs.declared.ip.Ip.{Ip}
use Rattle.hb_base.specs.declared.ip.Ip.TheVariants.{V4, V6}
use Rattle.hb_base.specs.declared.peer.Peer.{Peer}
use Rattle.hb_base.specs.declared.target.Target.{Target}
use Rattle.hb_held.specs.Held.{Resources}
use Rattle.hb_held.specs.Lookup.{ip_eq}
use Rattle.hb_held.specs.declared.doors.OwnDoors.{OwnDoors}
use Rattle.hb_table.specs.Judgement.{judged}
use Rattle.hb_table.specs.declared.judgement.Judged.{Judged}
use Rattle.hb_table.specs.declared.judgement.Judged.TheVariants.{Admitted, Unknown, Denied}
use Rattle.hb_verdict.specs.declared.request.Request.{Request}
use Rattle.hb_verdict.specs.declared.request.Request.TheVariants.{Refused, Malformed, Connect}
use Rattle.hb_verdict.specs.declared.verdict.Verdict.{Verdict}
use Rattle.hb_verdict.specs.declared.verdict.Verdict.TheVariants.{Status, Reset, Dial}

-- a response of each kind came
abbrev pub synced : Resources → Bool
synced h = h.addresses_came && h.policies_came

-- the unspecified address (RFC 4291 section 2.5.2): what listens there is reached at each address, and who connects to it reaches the
-- machine itself
abbrev pub is_unspecified : Ip → Bool
is_unspecified (V4 n) = n == 0
is_unspecified (V6 n) = n == 0

-- who connects to the target reaches the door that listens there
abbrev pub reaches : Target → Target → Bool
reaches target door = door.port == target.port && (is_unspecified door.ip || ip_eq door.ip target.ip)

-- it reaches a door, where there is one
abbrev pub is_at : Option Target → Target → Bool
is_at None target = false
is_at (Some door) target = reaches target door

-- the target is one of the node's own doors, which take the word of whoever reaches them for who a connection comes from
abbrev pub is_own_door : OwnDoors → Target → Bool
is_own_door doors target = is_at doors.inbound target || is_at doors.outbound target || is_at doors.plain target

-- it leads back to the node: to the machine itself, where each door may be, or to one of its doors
abbrev pub leads_back : OwnDoors → Target → Bool
leads_back doors target = is_unspecified target.ip || is_own_door doors target

-- where the peer is admitted, the target mustn't lead back, and a place is wanted
abbrev pub dial_admitted : Bool → Bool → Target → Verdict
dial_admitted true full target = Status 400
dial_admitted false true target = Status 503
dial_admitted false false target = Dial target

abbrev pub dial_judged : Judged → Bool → Bool → Target → Verdict
dial_judged Unknown back full target = Status 404
dial_judged Denied back full target = Status 401
dial_judged Admitted back full target = dial_admitted back full target

abbrev pub dial_for : Resources → Peer → Target → Bool → Verdict
dial_for h peer target full =
    if not (synced h) then Status 503 else dial_judged (judged h peer target) (leads_back h.doors target) full target

abbrev pub verdict : Request → Resources → Peer → Bool → Verdict
verdict (Refused status) h peer full = Status status
verdict Malformed h peer full = Reset
verdict (Connect target) h peer full = dial_for h peer target full
