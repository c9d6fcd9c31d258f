-- What the laws make of small runs of a link of the outbound door.
use Rattle.std.proofs.Common.{◌≡◌, ℕ, not, Bool, true, false, cond, List, [], ◌∷◌, ◌++◌, Option, Some, None, refl, ap, sym, ◌∙◌, subst}
use Rattle.std.proofs.lemmas.Bool.{false≢true}
use Rattle.hb_base.specs.declared.cause.Cause.TheVariants as cause
use Rattle.hb_base.specs.declared.door.Door.{Door}
use Rattle.hb_base.specs.declared.door.Door.TheVariants as door
use Rattle.hb_base.specs.declared.door.Why.TheVariants as whys
use Rattle.hb_base.specs.declared.peer.Peer.{Peer}
use Rattle.hb_base.specs.declared.target.Target.{Target}
use Rattle.hb_front.specs.Reading.{Seen}
use Rattle.hb_held.specs.Held.{Resources}
use Rattle.hb_inbound.specs.Sides.{identity_told}
use Rattle.hb_route.specs.Answer.{Way, by_gateway, straight, no_way, number_of}
use Rattle.hb_verdict.specs.Verdict.{synced, is_unspecified, leads_back}
use Rattle.hb_world.specs.declared.entry.Entry.TheVariants as e
use Rattle.hb_captured.specs.Answer.{Answer, Aim, straight_to, through, key_for, aims, refuses, unrouted, refused_with, by_way, way_on, answer_on, why_at, why_for}
use Rattle.hb_captured.specs.Captured.{peer_noted}
use Rattle.hb_captured.specs.Ends.{EndsAt}
use Rattle.hb_captured.specs.Notes.{NotesAt}
use Rattle.hb_captured.specs.OutboundRefused.{GoesStraight, taken_in, asking, RevokesOutbound, DialsAsPlain, DialsAsDirect, DialsOffItsWay, DialsForGateway, DialsBack, DialsUnsynced, RefusesStraight, MistakesRoute, TellsAnother}
use Rattle.hb_captured.specs.Part.{entry, up, fronted, refused, accepted, applied}
use Rattle.hb_captured.specs.Sides as sides
use Rattle.hb_captured.specs.Sides.{lives}
use Rattle.hb_captured.specs.Verdicts.{VerdictAt, VerdictLaw}
use Rattle.hb_captured.proofs.Refused.{last}

-- where all is synced the way decides
by_its_way : (came : Bool) (way_is : Answer) (aim : Aim) → cond (not came) (refused_with 503) way_is ≡ aims aim
    → (came ≡ true) × (way_is ≡ aims aim)
by_its_way true way_is aim is = (refl, is)
by_its_way false way_is aim is = absurd (cc)

pub aims_by : (start : Resources) (bytes : List ℕ) (seen : Seen) (aim : Aim)
    → VerdictLaw 2 start (taken_in door.Outbound bytes ++ fronted seen unrouted aim ∷ [])
    → (synced start ≡ true) × (by_way start seen.source.ip (way_on start unrouted seen) ≡ aims aim)
aims_by start bytes seen aim law =
    by_its_way (synced start) (by_way start seen.source.ip (way_on start unrouted seen)) aim
    (last (VerdictAt 2 start) (taken_in door.Outbound bytes) (fronted seen unrouted aim) law).1

-- a way that is taken leads not back to the node
not_back : (back : Bool) (aim there : Aim) → cond back (refused_with 400) (aims there) ≡ aims aim → (back ≡ false) × (there ≡ aim)
not_back true aim there is = absurd (cc)
not_back false aim there is = (refl, cc)

-- only a straight way leads straight
leads_straight : (h : Resources) (seen : Seen) (w : Way) (to : Target) (endpoint : Option (List ℕ)) → synced h ≡ true
    → way_on h unrouted seen ≡ w → by_way h seen.source.ip w ≡ aims (straight_to to endpoint) → GoesStraight h seen to endpoint
leads_straight h seen (straight there name) to endpoint came way is =
    let at = not_back (leads_back h.doors there) (straight_to to endpoint) (straight_to there name) is in
    let same : straight_to there name ≡ straight_to to endpoint = at.1 in
    let address : there ≡ to = cc in
    record {
      synced = came;
      way = way ∙ cc;
      elsewhere = subst (λ (t : Target). leads_back h.doors t ≡ false) address at.0;
    }
leads_straight h seen (by_gateway gateway authority name) to endpoint came way is =
    let key = key_for h seen.source.ip gateway in
    let same : through key authority name ≡ straight_to to endpoint =
    (not_back (is_unspecified gateway.ip) (straight_to to endpoint) (through key authority name) is).1 in
    absurd (cc)
leads_straight h seen (no_way why) to endpoint came way is = absurd (cc)

pub goes_straight : (start : Resources) (bytes : List ℕ) (seen : Seen) (to : Target) (endpoint : Option (List ℕ))
    → VerdictLaw 2 start (taken_in door.Outbound bytes ++ fronted seen unrouted (straight_to to endpoint) ∷ [])
    → GoesStraight start seen to endpoint
goes_straight start bytes seen to endpoint law =
    let at = aims_by start bytes seen (straight_to to endpoint) law in
    leads_straight start seen (way_on start unrouted seen) to endpoint at.0 refl at.1

-- and one does
pub straight_aims : (h : Resources) (seen : Seen) (to : Target) (endpoint : Option (List ℕ)) → GoesStraight h seen to endpoint
    → answer_on door.Outbound h unrouted seen ≡ aims (straight_to to endpoint)
straight_aims h seen to endpoint is =
    ap (λ (b : Bool). cond (not b) (refused_with 503) (by_way h seen.source.ip (way_on h unrouted seen))) is.synced
    ∙ ap (by_way h seen.source.ip) is.way
    ∙ ap (λ (b : Bool). cond b (refused_with 400) (aims (straight_to to endpoint))) is.elsewhere

pub revokes_outbound : RevokesOutbound
revokes_outbound start bytes seen to note r law =
    let at = last (EndsAt 2 start)
    (asking door.Outbound bytes seen to ++ up (e.Dialled 3 to (whys.Direct 2)) ∷ up (e.Opened 3) ∷ accepted note ∷ applied r ∷ [])
    (entry (e.Closed 2 cause.Revoked)) law in
    let other : lives ≡ sides.over cause.Revoked = at.1 in cc

-- one whose way is straight is dialled for the reason of its door
straight_why : (aim : Aim) (d : Door) (l : ℕ) (to : Target) (endpoint : Option (List ℕ)) → Some (straight_to to endpoint) ≡ Some aim
    → why_for aim d l ≡ why_at d l
straight_why aim d l to endpoint is =
    let same : straight_to to endpoint ≡ aim = cc in ap (λ (x : Aim). why_for x d l) (sym same)

pub dials_as_plain : DialsAsPlain
dials_as_plain start bytes seen to law =
    let at = (last (VerdictAt 2 start) (asking door.Outbound bytes seen to) (up (e.Dialled 3 to (whys.Plain 2))) law).dial in
    let other : whys.Plain 2 ≡ whys.Direct 2 = at.for_it ∙ straight_why at.aim door.Outbound 2 to None at.asked in cc

pub dials_as_direct : DialsAsDirect
dials_as_direct start bytes seen to law =
    let at = (last (VerdictAt 2 start) (asking door.Plain bytes seen to) (up (e.Dialled 3 to (whys.Direct 2))) law).dial in
    let other : whys.Direct 2 ≡ whys.Plain 2 = at.for_it ∙ straight_why at.aim door.Plain 2 to None at.asked in cc

pub tells_another : TellsAnother
tells_another start bytes seen to identity other law =
    let at = last (NotesAt start 2)
    (asking door.Outbound bytes seen to ++ up (e.Dialled 3 to (whys.Direct 2)) ∷ up (e.Opened 3) ∷ []) (accepted _) law in
    let told : Some seen ≡ Some at.seen = at.told in
    let same : seen ≡ at.seen = cc in
    let peer : record { ip = seen.source.ip; identity = identity } ≡ peer_noted door.Outbound at.seen = (let is = at.is in cc) in
    other (ap (λ (s : Seen). identity_told s.identity) same ∙ sym (ap (λ (p : Peer). p.identity) peer))

pub dials_off_its_way : DialsOffItsWay
dials_off_its_way start bytes seen there to endpoint way other law =
    let same : straight there endpoint ≡ straight to None = sym way ∙ (goes_straight start bytes seen to None law).way in
    other (cc)

pub dials_for_gateway : DialsForGateway
dials_for_gateway start bytes seen address authority to endpoint way law =
    let same : by_gateway address authority endpoint ≡ straight to None = sym way ∙ (goes_straight start bytes seen to None law).way in cc

pub dials_back : DialsBack
dials_back start bytes seen to back law = false≢true (sym (goes_straight start bytes seen to None law).elsewhere ∙ back)

pub dials_unsynced : DialsUnsynced
dials_unsynced start bytes seen to unsynced law = false≢true (sym unsynced ∙ (goes_straight start bytes seen to None law).synced)

pub refuses_straight : RefusesStraight
refuses_straight start bytes seen to endpoint why status note is law =
    let at = last (VerdictAt 2 start) (taken_in door.Outbound bytes) (refused seen unrouted why status note) law in
    let both : aims (straight_to to endpoint) ≡ refuses why status = sym (straight_aims start seen to endpoint is) ∙ at.1 in cc

pub mistakes_route : MistakesRoute
mistakes_route start bytes seen why number status note way other law =
    by (synced start) (sym (ap (λ (w : Way). cond (not (synced start)) (refused_with 503) (by_way start seen.source.ip w)) way)
    ∙ (last (VerdictAt 2 start) (taken_in door.Outbound bytes) (refused seen unrouted (cause.NoRoute number) status note) law).1)
  where
    by : (came : Bool) → cond (not came) (refused_with 503) (refuses (cause.NoRoute (number_of why)) 503)
        ≡ refuses (cause.NoRoute number) status → ⊥
    by true is = other (cc)
    by false is = absurd (cc)
