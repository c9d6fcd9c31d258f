-- Small runs of a link of the outbound door, link 2 with the upstream 3, that the laws refuse; and one of the plain door beside them.
use Rattle.std.specs.Prelude.{◌≡◌, ◌≢◌, ℕ, true, false, List, [], ◌∷◌, ◌++◌, Option, None}
use Rattle.hb_base.specs.declared.cause.Cause.{Cause}
use Rattle.hb_base.specs.declared.cause.Cause.TheVariants as cause
use Rattle.hb_base.specs.declared.door.Door.{Door}
use Rattle.hb_base.specs.declared.door.Door.TheVariants as door
use Rattle.hb_base.specs.declared.door.Why.TheVariants as whys
use Rattle.hb_base.specs.declared.identity.Identity.{Identity}
use Rattle.hb_base.specs.declared.note.Note.{Note}
use Rattle.hb_base.specs.declared.target.Target.{Target}
use Rattle.hb_disco.specs.declared.response.Response.{Response}
use Rattle.hb_front.specs.Reading.{Seen}
use Rattle.hb_held.specs.Held.{Resources}
use Rattle.hb_inbound.specs.Sides.{identity_told}
use Rattle.hb_route.specs.Answer.{by_gateway, straight, no_way, number_of}
use Rattle.hb_route.specs.declared.answer.NoRoute.{NoRoute}
use Rattle.hb_verdict.specs.Verdict.{synced, leads_back}
use Rattle.hb_world.specs.declared.entry.Entry.TheVariants as e
use Rattle.hb_captured.specs.Answer.{straight_to, unrouted, way_on}
use Rattle.hb_captured.specs.Ends.{EndLaw}
use Rattle.hb_captured.specs.Notes.{NoteLaw}
use Rattle.hb_captured.specs.Part.{Part, entry, up, welcomed, fronted, refused, accepted, applied}
use Rattle.hb_captured.specs.Runs.{verdict_note}
use Rattle.hb_captured.specs.Verdicts.{VerdictLaw}

-- all is synced, and the way of the header leads straight to this address, which doesn't lead back to the node
pub record GoesStraight (held : Resources) (seen : Seen) (to : Target) (endpoint : Option (List ℕ)) : Type 0 where
  pub synced : synced held ≡ true
  pub way : way_on held unrouted seen ≡ straight to endpoint
  pub elsewhere : leads_back held.doors to ≡ false

-- it is taken in at this door, and these bytes came
abbrev pub taken_in : Door → List ℕ → List Part
taken_in door bytes = entry (e.Accepted 2 door) ∷ welcomed ∷ entry (e.Came 2 bytes) ∷ []

-- of which the first are the header's, for which this address is to be dialled
abbrev pub asking : Door → List ℕ → Seen → Target → List Part
asking door bytes seen to = taken_in door bytes ++ fronted seen unrouted (straight_to to None) ∷ []

-- ENDED BY AN UPDATE: it lives, and is closed behind a response as one whose peer is no longer admitted, whatever is held then
abbrev pub RevokesOutbound : Type 0
RevokesOutbound = (start : Resources) (bytes : List ℕ) (seen : Seen) (to : Target) (note : Note) (r : Response)
    → EndLaw 2 start (asking door.Outbound bytes seen to ++ up (e.Dialled 3 to (whys.Direct 2)) ∷ up (e.Opened 3) ∷ accepted note
    ∷ applied r ∷ entry (e.Closed 2 cause.Revoked) ∷ []) → ⊥

-- DIALLED AS OF THE OTHER DOOR: a link of the outbound door as a plain one, and one of the plain door as an outbound one
abbrev pub DialsAsPlain : Type 0
DialsAsPlain = (start : Resources) (bytes : List ℕ) (seen : Seen) (to : Target)
    → VerdictLaw 2 start (asking door.Outbound bytes seen to ++ up (e.Dialled 3 to (whys.Plain 2)) ∷ []) → ⊥

abbrev pub DialsAsDirect : Type 0
DialsAsDirect = (start : Resources) (bytes : List ℕ) (seen : Seen) (to : Target)
    → VerdictLaw 2 start (asking door.Plain bytes seen to ++ up (e.Dialled 3 to (whys.Direct 2)) ∷ []) → ⊥

-- NOTED AS OF ANOTHER: with another identity than that of its header, or with none though that tells one
abbrev pub TellsAnother : Type 0
TellsAnother = (start : Resources) (bytes : List ℕ) (seen : Seen) (to : Target) (identity : Option Identity)
    → identity_told seen.identity ≢ identity
    → NoteLaw start 2 (asking door.Outbound bytes seen to ++ up (e.Dialled 3 to (whys.Direct 2)) ∷ up (e.Opened 3)
    ∷ accepted (verdict_note 2 200 (record { ip = seen.source.ip; identity = identity }) seen.destination) ∷ []) → ⊥

-- DIALLED AGAINST ITS WAY: elsewhere than that leads; though it leads by a gateway; where that leads back to the node; before all is synced
abbrev pub DialsOffItsWay : Type 0
DialsOffItsWay = (start : Resources) (bytes : List ℕ) (seen : Seen) (there to : Target) (endpoint : Option (List ℕ))
    → way_on start unrouted seen ≡ straight there endpoint → there ≢ to → VerdictLaw 2 start (asking door.Outbound bytes seen to) → ⊥

abbrev pub DialsForGateway : Type 0
DialsForGateway = (start : Resources) (bytes : List ℕ) (seen : Seen) (address authority to : Target) (endpoint : List ℕ)
    → way_on start unrouted seen ≡ by_gateway address authority endpoint → VerdictLaw 2 start (asking door.Outbound bytes seen to) → ⊥

abbrev pub DialsBack : Type 0
DialsBack = (start : Resources) (bytes : List ℕ) (seen : Seen) (to : Target) → leads_back start.doors to ≡ true
    → VerdictLaw 2 start (asking door.Outbound bytes seen to) → ⊥

abbrev pub DialsUnsynced : Type 0
DialsUnsynced = (start : Resources) (bytes : List ℕ) (seen : Seen) (to : Target) → synced start ≡ false
    → VerdictLaw 2 start (asking door.Outbound bytes seen to) → ⊥

-- REFUSED AGAINST ITS WAY: though that is straight; where there is none, for the cause of another missing route
abbrev pub RefusesStraight : Type 0
RefusesStraight = (start : Resources) (bytes : List ℕ) (seen : Seen) (to : Target) (endpoint : Option (List ℕ)) (why : Cause)
    (status : ℕ) (note : Note) → GoesStraight start seen to endpoint
    → VerdictLaw 2 start (taken_in door.Outbound bytes ++ refused seen unrouted why status note ∷ []) → ⊥

abbrev pub MistakesRoute : Type 0
MistakesRoute = (start : Resources) (bytes : List ℕ) (seen : Seen) (why : NoRoute) (number status : ℕ) (note : Note)
    → way_on start unrouted seen ≡ no_way why → number_of why ≢ number
    → VerdictLaw 2 start (taken_in door.Outbound bytes ++ refused seen unrouted (cause.NoRoute number) status note ∷ []) → ⊥
