-- What a request asks for, by its headers and the destination of its link.
use Rattle.std.specs.Prelude.{ℕ, not, if◌then◌else◌, nat_lt, List, Option, Some, None, Result, Ok, Err, codes}
use Rattle.hb_base.specs.TargetText.{target_of}
use Rattle.hb_base.specs.declared.ip.Ip.{Ip}
use Rattle.hb_base.specs.declared.target.Target.{Target}
use Rattle.hb_base.specs.declared.target.BadTarget.{BadTarget}
use Rattle.hb_held.specs.Lookup.{ip_eq}
use Rattle.hb_hpack.specs.declared.header.Header.{Header}
use Rattle.hb_hpack.specs.declared.header.HeaderList.{HeaderList}
use Rattle.hb_verdict.specs.Fields.{value_of, is_connect, is_malformed}
use Rattle.hb_verdict.specs.declared.request.Request.{Request}
use Rattle.hb_verdict.specs.declared.request.Request.TheVariants.{Refused, Malformed, Connect}

-- a target is one of the link's destination
abbrev pub connect_at : Ip → Result Target BadTarget → Request
connect_at destination (Err why) = Refused 400
connect_at destination (Ok target) = if ip_eq target.ip destination then Connect target else Refused 400

abbrev pub connect_by : Ip → Option (List ℕ) → Request
connect_by destination None = Refused 400
connect_by destination (Some authority) = connect_at destination (target_of authority)

abbrev pub connect_to : List Header → Ip → Request
connect_to headers destination = connect_by destination (value_of (codes ":authority") headers)

-- the first of these that applies
abbrev pub request_of : HeaderList → Ip → Request
request_of headers destination =
    if nat_lt 16384 headers.size then Refused 431
    else if is_malformed headers.kept then Malformed
    else if not (is_connect headers.kept) then Refused 405
    else connect_to headers.kept destination
