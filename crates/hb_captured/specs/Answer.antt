-- What the front header of a captured link gets at its door, by what is held: at the plain door the verdict on its destination, at the
-- outbound one the way that leads there.
use Rattle.std.specs.Prelude.{ℕ, ◌==◌, if◌then◌else◌, not, ◌&&◌, nat_le, Bool, false, length, codes, List, Option, Some, None}
use Rattle.std.specs.FinMap.{empty}
use Rattle.hb_base.specs.IdentityText.{is_name}
use Rattle.hb_base.specs.declared.cause.Cause.{Cause}
use Rattle.hb_base.specs.declared.cause.Cause.TheVariants as cause
use Rattle.hb_base.specs.declared.door.Door.{Door}
use Rattle.hb_base.specs.declared.door.Door.TheVariants as door
use Rattle.hb_base.specs.declared.door.Why.{Why}
use Rattle.hb_base.specs.declared.door.Why.TheVariants as whys
use Rattle.hb_base.specs.declared.identity.Identity.{Identity}
use Rattle.hb_base.specs.declared.ip.Ip.{Ip}
use Rattle.hb_base.specs.declared.target.Target.{Target}
use Rattle.hb_front.specs.Reading.{Seen}
use Rattle.hb_front.specs.Written.{identity_text}
use Rattle.hb_gateway.specs.Key.{Key}
use Rattle.hb_held.specs.Held.{Resources}
use Rattle.hb_held.specs.Lookup.{known}
use Rattle.hb_records.specs.declared.workload.Workload.{Workload}
use Rattle.hb_route.specs.Answer.{Way, by_gateway, straight, no_way, number_of}
use Rattle.hb_route.specs.Opens.{Counts}
use Rattle.hb_route.specs.Routing.{way}
use Rattle.hb_verdict.specs.Verdict.{synced, is_unspecified, leads_back, verdict}
use Rattle.hb_verdict.specs.declared.request.Request.TheVariants.{Connect}
use Rattle.hb_verdict.specs.declared.verdict.Verdict.{Verdict}
use Rattle.hb_verdict.specs.declared.verdict.Verdict.TheVariants.{Status, Reset, Dial}

-- where its bytes are to go
pub data Aim : Type 0 where
  -- straight to this address, which is dialled for it; of an endpoint of this name, where one is known
  straight_to : Target → (endpoint : Option (List ℕ)) → Aim
  -- over a stream of a link of this key, which is asked for this authority; to the endpoint of this name
  through : Key → (authority : Target) → (endpoint : List ℕ) → Aim

-- the address that is dialled; the endpoint to which it is a connection; for whom it is by a gateway
abbrev pub address_of : Aim → Target
address_of (straight_to to endpoint) = to
address_of (through key authority endpoint) = key.gateway

abbrev pub endpoint_of : Aim → Option (List ℕ)
endpoint_of (straight_to to endpoint) = endpoint
endpoint_of (through key authority endpoint) = Some endpoint

abbrev pub key_of : Aim → Option Key
key_of (straight_to to endpoint) = None
key_of (through key authority endpoint) = Some key

pub data Answer : Type 0 where
  aims : Aim → Answer
  -- it is refused for this cause, which is noted with this status
  refuses : Cause → (status : ℕ) → Answer

-- what a way depends on beside what is held: how many connections each endpoint has open, and the port of gateways
pub record Routing : Type 0 where
  pub opens : Counts
  pub hbone_port : ℕ

-- no connection is open, and gateways have their usual port
abbrev pub unrouted : Routing
unrouted = record { opens = empty; hbone_port = 15008 }

abbrev pub refused_with : ℕ → Answer
refused_with status = refuses (cause.Refused status) status

-- THE PLAIN DOOR: the destination is judged for a peer without identity. A captured link has its place from its birth
abbrev pub verdict_for : Resources → Ip → Target → Verdict
verdict_for held source target = verdict (Connect target) held (record { ip = source; identity = None }) false

abbrev pub by_verdict : Verdict → Answer
by_verdict (Dial to) = aims (straight_to to None)
by_verdict (Status status) = refused_with status
by_verdict Reset = refused_with 400

-- THE OUTBOUND DOOR: the way from the source to the destination
abbrev pub way_for : Resources → Routing → Ip → Target → Way
way_for held routing source target = way held routing.opens source target routing.hbone_port

-- the trust domain of a workload: the usual one, where it names none
abbrev pub domain_of : List ℕ → List ℕ
domain_of named = if length named == 0 then codes "cluster.local" else named

-- who the source is: the identity of its workload, where that may be written
abbrev pub identity_in : Workload → Identity
identity_in w =
    record { trust_domain = domain_of w.trust_domain; namespace = w.namespace; service_account = w.service_account }

abbrev pub is_sent : Identity → Bool
is_sent i =
    is_name i.trust_domain && is_name i.namespace && is_name i.service_account && nat_le (length (identity_text i)) 4000

abbrev pub if_sent : Identity → Option Identity
if_sent i = if is_sent i then Some i else None

abbrev pub identity_at : Option (List ℕ × Workload) → Option Identity
identity_at None = None
identity_at (Some found) = if_sent (identity_in found.1)

abbrev pub key_for : Resources → Ip → (gateway : Target) → Key
key_for held source gateway = record { identity = identity_at (known held source); source = source; gateway = gateway }

-- no way leads back to the node: none straight to where it is itself, and none by a gateway at the unspecified address
abbrev pub by_way : Resources → Ip → Way → Answer
by_way held source (straight to endpoint) =
    if leads_back held.doors to then refused_with 400 else aims (straight_to to endpoint)
by_way held source (by_gateway gateway authority endpoint) =
    if is_unspecified gateway.ip then refused_with 400 else aims (through (key_for held source gateway) authority endpoint)
by_way held source (no_way why) = refuses (cause.NoRoute (number_of why)) 503

abbrev pub routed : Resources → Routing → Ip → Target → Answer
routed held routing source target =
    if not (synced held) then refused_with 503 else by_way held source (way_for held routing source target)

-- BY THE DOOR
abbrev pub answer : Door → Resources → Routing → Ip → Target → Answer
answer door.Outbound held routing source target = routed held routing source target
answer _ held routing source target = by_verdict (verdict_for held source target)

-- what a whole front header gets
abbrev pub verdict_on : Resources → Seen → Verdict
verdict_on held seen = verdict_for held seen.source.ip seen.destination

abbrev pub way_on : Resources → Routing → Seen → Way
way_on held routing seen = way_for held routing seen.source.ip seen.destination

abbrev pub answer_on : Door → Resources → Routing → Seen → Answer
answer_on door held routing seen = answer door held routing seen.source.ip seen.destination

-- why a link is dialled for the link of this number
abbrev pub why_at : Door → ℕ → Why
why_at door.Outbound l = whys.Direct l
why_at _ l = whys.Plain l

abbrev pub why_for : Aim → Door → ℕ → Why
why_for (straight_to to endpoint) door l = why_at door l
why_for (through key authority endpoint) door l = whys.Gateway l
