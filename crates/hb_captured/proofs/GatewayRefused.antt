-- What the laws make of small runs of a link of the outbound door whose way leads by a gateway.
use Rattle.std.proofs.Common.{◌≡◌, ℕ, Bool, false, cond, List, [], ◌∷◌, ◌++◌, Some, None, ap, sym, ◌∙◌, subst, arith}
use Rattle.std.specs.Prelude.{IsSome}
use Rattle.std.proofs.lemmas.Bool.{false≢true}
use Rattle.hb_base.specs.declared.cause.Cause.TheVariants as cause
use Rattle.hb_base.specs.declared.door.Door.TheVariants as door
use Rattle.hb_base.specs.declared.door.Why.TheVariants as whys
use Rattle.hb_base.specs.declared.target.Target.{Target}
use Rattle.hb_front.specs.Reading.{Seen}
use Rattle.hb_gateway.specs.Response.{brings, fails}
use Rattle.hb_held.specs.Held.{Resources}
use Rattle.hb_world.specs.declared.entry.Entry.TheVariants as e
use Rattle.hb_captured.specs.Answer.{Aim, straight_to, through, aims, refuses, key_for, key_of, unrouted, refused_with, by_way}
use Rattle.hb_captured.specs.Ends.{EndsAt}
use Rattle.hb_captured.specs.GatewayRefused.{aimed, lived, AsksTwice, AsksStraight, DialsBeside, GoesRound, GoesThroughStraight, GoesThroughNowhere, SpeaksForAnother, RefusesThrough, PutsUnopened, TakesUnopened, PutsAnother, FinishesEarly, StaysOpen, KeepsStream, CountsUnbegun}
use Rattle.hb_captured.specs.GatewayRows.{GoesThrough}
use Rattle.hb_captured.specs.Notes.{NotesAt}
use Rattle.hb_captured.specs.OutboundRefused.{taken_in}
use Rattle.hb_captured.specs.Part.{entry, up, fronted, refused, asked, hears, put, finished, completed}
use Rattle.hb_captured.specs.Relay.{RelaysAt}
use Rattle.hb_captured.specs.Sides.{pending, lives}
use Rattle.hb_captured.specs.Verdicts.{VerdictAt, VerdictLaw}
use Rattle.hb_captured.proofs.GatewayRows.{through_aims}
use Rattle.hb_captured.proofs.OutboundRefused.{aims_by, straight_aims}
use Rattle.hb_captured.proofs.Refused.{last, behind_header}

pub asks_twice : AsksTwice
asks_twice start bytes seen aim law =
    let at = last (EndsAt 2 start) (aimed bytes seen aim ++ asked 3 1 ∷ []) (asked 4 1) law in false≢true (sym at.1)

pub asks_straight : AsksStraight
asks_straight start bytes seen to endpoint law =
    let at = last (VerdictAt 2 start) (aimed bytes seen (straight_to to endpoint)) (asked 3 1) law in
    let told : Some (straight_to to endpoint) ≡ Some at.aim = at.told in
    let same : straight_to to endpoint ≡ at.aim = cc in
    false≢true (subst (λ (a : Aim). IsSome (key_of a)) (sym same) at.keyed)

-- one whose aim is a gateway's stream has no upstream of its own
pub dials_beside : DialsBeside
dials_beside start bytes seen key to authority endpoint law =
    let at = last (VerdictAt 2 start) (aimed bytes seen (through key authority endpoint)) (up (e.Dialled 3 to (whys.Gateway 2))) law in
    let told : Some (through key authority endpoint) ≡ Some at.dial.aim = at.dial.asked in
    let same : through key authority endpoint ≡ at.dial.aim = cc in
    let none : Some key ≡ None = ap key_of same ∙ at.straight in cc

-- which aim its way gives
one_aim : (start : Resources) (bytes : List ℕ) (seen : Seen) (gateway authority : Target) (endpoint : List ℕ) (aim : Aim)
    → GoesThrough start seen gateway authority endpoint → VerdictLaw 2 start (aimed bytes seen aim)
    → through (key_for start seen.source.ip gateway) authority endpoint ≡ aim
one_aim start bytes seen gateway authority endpoint aim goes law =
    let both : aims (through (key_for start seen.source.ip gateway) authority endpoint) ≡ aims aim =
    sym (ap (by_way start seen.source.ip) goes.way
    ∙ ap (λ (b : Bool). cond b (refused_with 400) (aims (through (key_for start seen.source.ip gateway) authority endpoint))) goes.elsewhere)
    ∙ (aims_by start bytes seen aim law).1 in
    cc

pub goes_round : GoesRound
goes_round start bytes seen gateway authority to endpoint name goes law =
    let same : through (key_for start seen.source.ip gateway) authority endpoint ≡ straight_to to name =
    one_aim start bytes seen gateway authority endpoint (straight_to to name) goes law in
    cc

pub goes_through_straight : GoesThroughStraight
goes_through_straight start bytes seen key to authority endpoint name goes law =
    let both : aims (straight_to to name) ≡ aims (through key authority endpoint) =
    sym (straight_aims start seen to name goes)
    ∙ (last (VerdictAt 2 start) (taken_in door.Outbound bytes) (fronted seen unrouted (through key authority endpoint)) law).1 in
    cc

pub goes_through_nowhere : GoesThroughNowhere
goes_through_nowhere start bytes seen gateway authority endpoint aim way nowhere law =
    let both : refused_with 400 ≡ aims aim =
    sym (ap (by_way start seen.source.ip) way
    ∙ ap (λ (b : Bool). cond b (refused_with 400) (aims (through (key_for start seen.source.ip gateway) authority endpoint))) nowhere)
    ∙ (aims_by start bytes seen aim law).1 in
    cc

pub speaks_for_another : SpeaksForAnother
speaks_for_another start bytes seen key gateway authority endpoint goes other law =
    let same : through (key_for start seen.source.ip gateway) authority endpoint ≡ through key authority endpoint =
    one_aim start bytes seen gateway authority endpoint (through key authority endpoint) goes law in
    other (cc)

pub refuses_through : RefusesThrough
refuses_through start bytes seen gateway authority endpoint why status note goes law =
    let at = last (VerdictAt 2 start) (taken_in door.Outbound bytes) (refused seen unrouted why status note) law in
    let both : aims (through (key_for start seen.source.ip gateway) authority endpoint) ≡ refuses why status =
    sym (through_aims start seen gateway authority endpoint goes) ∙ at.1 in
    cc

pub puts_unopened : PutsUnopened
puts_unopened start bytes seen aim byte law =
    let at : pending ≡ lives = last (RelaysAt start) (aimed bytes seen aim ++ asked 3 1 ∷ []) (put (byte ∷ [])) law.places in cc

pub takes_unopened : TakesUnopened
takes_unopened start bytes seen aim byte law =
    let at : pending ≡ lives =
    (last (EndsAt 2 start) (aimed bytes seen aim ++ asked 3 1 ∷ []) (hears (brings (byte ∷ [])) 0) law).1.0 in
    cc

pub puts_another : PutsAnother
puts_another start seen aim note header first second is not law =
    let goes : first ∷ [] ≡ second ∷ law.ups.rest = sym (behind_header header (first ∷ []) seen.length is) ∙ law.ups.front in
    not (cc)

pub finishes_early : FinishesEarly
finishes_early start bytes seen aim note law =
    let at = last (RelaysAt start) (lived bytes seen aim note) finished law.places in false≢true at.1.ended

pub stays_open : StaysOpen
stays_open start bytes seen aim note why byte law =
    (last (EndsAt 2 start) (lived bytes seen aim note ++ hears (fails why) 0 ∷ []) (entry (e.Came 2 (byte ∷ []))) law).1

pub keeps_stream : KeepsStream
keeps_stream start bytes seen aim note law =
    let at : 3 ≡ 0 =
    (last (EndsAt 2 start) (lived bytes seen aim note ++ entry (e.Broke 2) ∷ []) (entry (e.Closed 2 cause.PeerGone)) law).3 in
    absurd (omega (arith, at))

pub counts_unbegun : CountsUnbegun
counts_unbegun start bytes seen aim note law =
    let counts = (last (NotesAt start 2) (lived bytes seen aim note) (completed 2 _) law).1 in absurd (cc)
