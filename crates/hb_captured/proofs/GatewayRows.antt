-- The lives of four links of the outbound door whose way leads by a gateway are runs of the machine.
use Rattle.std.proofs.Common.{◌≡◌, inr, ℕ, not, Bool, true, false, cond, List, [], ◌++◌, Some, None, refl, ap, ◌∙◌, arith}
use Rattle.hb_base.specs.declared.cause.Cause.TheVariants as cause
use Rattle.hb_base.specs.declared.door.Door.TheVariants as door
use Rattle.hb_base.specs.declared.target.Target.{Target}
use Rattle.hb_front.specs.Reading.{Seen}
use Rattle.hb_gateway.specs.Response as response
use Rattle.hb_gateway.specs.Response.{opens, brings, fails}
use Rattle.hb_held.specs.Held.{Resources}
use Rattle.hb_world.specs.declared.entry.Entry.TheVariants as e
use Rattle.hb_captured.specs.Answer.{aims, through, key_for, unrouted, refused_with, by_way, way_on, answer_on}
use Rattle.hb_captured.specs.Captured.{live, peer_noted}
use Rattle.hb_captured.specs.GatewayRows.{GoesThrough, aiming, opened, ThroughMayGo, RefusedMayGo, RoomlessMayGo, BrokenMayGo}
use Rattle.hb_captured.specs.Part.{entry, accepted, roomless, asked, hears, put, finished, credited, loosed, completed, left}
use Rattle.hb_captured.specs.Rows.{IsHeader, abc, def, accepted_note}
use Rattle.hb_captured.specs.Runs.{Local, StandsFor, verdict_note, end_note}
use Rattle.hb_captured.proofs.Rows.{then, at_due, fronts}

-- a way that leads by a gateway gives this aim
pub through_aims : (h : Resources) (seen : Seen) (gateway authority : Target) (endpoint : List ℕ)
    → GoesThrough h seen gateway authority endpoint
    → answer_on door.Outbound h unrouted seen ≡ aims (through (key_for h seen.source.ip gateway) authority endpoint)
through_aims h seen gateway authority endpoint is =
    ap (λ (b : Bool). cond (not b) (refused_with 503) (by_way h seen.source.ip (way_on h unrouted seen))) is.synced
    ∙ ap (by_way h seen.source.ip) is.way
    ∙ ap (λ (b : Bool). cond b (refused_with 400) (aims (through (key_for h seen.source.ip gateway) authority endpoint))) is.elsewhere

-- its header is whole, behind which these bytes came
abbrev aimed_at : Resources → Seen → (gateway authority : Target) → List ℕ → List ℕ → Local
aimed_at start seen gateway authority endpoint held =
    at_due start door.Outbound (through (key_for start seen.source.ip gateway) authority endpoint) seen held

aims_so : (start : Resources) (came rest : List ℕ) (seen : Seen) (gateway authority : Target) (endpoint : List ℕ)
    → IsHeader came seen rest → GoesThrough start seen gateway authority endpoint
    → StandsFor 2 start (aimed_at start seen gateway authority endpoint rest) (aiming start came seen gateway authority endpoint)
aims_so start came rest seen gateway authority endpoint is goes =
    fronts start door.Outbound tt (through (key_for start seen.source.ip gateway) authority endpoint) came rest seen is
    (through_aims start seen gateway authority endpoint goes)

-- the gateway opened its stream
abbrev live_at : Resources → Seen → (gateway authority : Target) → List ℕ → List ℕ → Local
live_at start seen gateway authority endpoint held =
    let due_one = (aimed_at start seen gateway authority endpoint held).link in
    record {
      held = start;
      link = record due_one { stage = live; identity = None; gate = 3; stream = 1; ways = record due_one.ways { is_open = true } };
    }

lives_so : (start : Resources) (came rest : List ℕ) (seen : Seen) (gateway authority : Target) (endpoint : List ℕ)
    → IsHeader came seen rest → GoesThrough start seen gateway authority endpoint
    → StandsFor 2 start (live_at start seen gateway authority endpoint rest)
    (aiming start came seen gateway authority endpoint ++ opened seen)
lives_so start came rest seen gateway authority endpoint is goes =
    let s1 = then (aims_so start came rest seen gateway authority endpoint is goes) (asked 3 1) (refl, refl, omega arith) in
    let s2 = then s1 (hears (opens false) 0) (refl, tt) in
    then s2 (accepted (accepted_note door.Outbound seen)) (refl, refl)

pub through_may_go : ThroughMayGo
through_may_go start came seen gateway authority endpoint is goes =
    let s1 = then (lives_so start came abc seen gateway authority endpoint is goes) (put abc) ((refl, refl), (omega arith, ([], refl))) in
    let s2 = then s1 (hears (brings def) 3) (refl, (refl, omega arith)) in
    let s3 = then s2 (entry (e.Went 2 def)) (refl, ((refl, (refl, refl)), refl), (omega arith, ([], refl))) in
    let s4 = then s3 (credited 3) ((refl, refl), omega arith, omega arith) in
    let s5 = then s4 (entry (e.Ended 2)) (refl, (inr (inr ((refl, (refl, refl)), refl)), omega arith)) in
    let s6 = then s5 finished ((refl, refl), refl, refl) in
    let s7 = then s6 (hears response.ends 3) (refl, refl) in
    let s8 = then s7 (completed 3 (end_note 2 cause.Done 3 3)) ((refl, refl), refl, refl, refl) in
    record { link = _; stands = then s8 (entry (e.Closed 2 cause.Done)) (refl, refl, refl, refl); notes = refl }

pub refused_through_may_go : RefusedMayGo
refused_through_may_go start came seen gateway authority endpoint is goes =
    let s1 = then (aims_so start came [] seen gateway authority endpoint is goes) (asked 3 1) (refl, refl, omega arith) in
    let s2 = then s1 (hears (fails (cause.UpRefused 403)) 0) (refl, tt) in
    let s3 = then s2 (left (Some (verdict_note 2 502 (peer_noted door.Outbound seen) seen.destination))) (refl, refl) in
    record { link = _; stands = then s3 (entry (e.Closed 2 (cause.UpRefused 403))) (refl, refl, refl, refl); notes = refl }

pub roomless_may_go : RoomlessMayGo
roomless_may_go start came seen gateway authority endpoint is goes =
    let s1 = then (aims_so start came [] seen gateway authority endpoint is goes) roomless (refl, refl) in
    let s2 = then s1 (left (Some (verdict_note 2 503 (peer_noted door.Outbound seen) seen.destination))) (refl, refl) in
    record { link = _; stands = then s2 (entry (e.Closed 2 cause.NoRoom)) (refl, refl, refl, refl); notes = refl }

pub broken_may_go : BrokenMayGo
broken_may_go start came seen gateway authority endpoint is goes =
    let s1 = then (lives_so start came [] seen gateway authority endpoint is goes) (entry (e.Broke 2))
    (refl, inr (inr ((refl, (refl, refl)), refl))) in
    let s2 = then s1 (loosed 0) (refl, tt) in
    let s3 = then s2 (left (Some (end_note 2 cause.PeerGone 0 0))) (refl, refl) in
    record { link = _; stands = then s3 (entry (e.Closed 2 cause.PeerGone)) (refl, refl, refl, refl); notes = refl }
