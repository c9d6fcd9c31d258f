-- Four whole lives of a link of the outbound door whose way leads by a gateway, on the stream 1 of the link 3 to it: one that relays three
-- bytes each way and is done, one that the gateway refuses, one that breaks, and one for which no link has room.
use Rattle.std.specs.Prelude.{◌≡◌, ℕ, true, false, List, [], ◌∷◌, ◌++◌, Some}
use Rattle.hb_base.specs.declared.cause.Cause.TheVariants as cause
use Rattle.hb_base.specs.declared.door.Door.TheVariants as door
use Rattle.hb_base.specs.declared.target.Target.{Target}
use Rattle.hb_front.specs.Reading.{Seen}
use Rattle.hb_gateway.specs.Response as response
use Rattle.hb_gateway.specs.Response.{opens, brings, fails}
use Rattle.hb_held.specs.Held.{Resources}
use Rattle.hb_route.specs.Answer.{by_gateway}
use Rattle.hb_verdict.specs.Verdict.{synced, is_unspecified}
use Rattle.hb_world.specs.declared.entry.Entry.TheVariants as e
use Rattle.hb_captured.specs.Answer.{through, key_for, unrouted, way_on}
use Rattle.hb_captured.specs.Captured.{peer_noted}
use Rattle.hb_captured.specs.Part.{Part, entry, welcomed, fronted, accepted, roomless, asked, hears, put, finished, credited, loosed, completed, left}
use Rattle.hb_captured.specs.Rows.{IsRunOf, IsHeader, abc, def, accepted_note}
use Rattle.hb_captured.specs.Runs.{verdict_note, end_note}

-- all is synced, and the way of the header leads by this gateway, which isn't at the unspecified address, for this authority, to this
-- endpoint
pub record GoesThrough (held : Resources) (seen : Seen) (gateway authority : Target) (endpoint : List ℕ) : Type 0 where
  pub synced : synced held ≡ true
  pub way : way_on held unrouted seen ≡ by_gateway gateway authority endpoint
  pub elsewhere : is_unspecified gateway.ip ≡ false

-- its header is whole
abbrev pub aiming : Resources → List ℕ → Seen → (gateway authority : Target) → List ℕ → List Part
aiming held came seen gateway authority endpoint =
    entry (e.Accepted 2 door.Outbound) ∷ welcomed ∷ entry (e.Came 2 came)
    ∷ fronted seen unrouted (through (key_for held seen.source.ip gateway) authority endpoint) ∷ []

-- the gateway opens its stream
abbrev pub opened : Seen → List Part
opened seen = asked 3 1 ∷ hears (opens false) 0 ∷ accepted (accepted_note door.Outbound seen) ∷ []

-- ONE THAT LIVES: what was written to the link is given back; both sides end, and END_STREAM went
abbrev pub through_life : Resources → List ℕ → Seen → (gateway authority : Target) → List ℕ → List Part
through_life held came seen gateway authority endpoint =
    aiming held came seen gateway authority endpoint ++ opened seen
    ++ put abc ∷ hears (brings def) 3 ∷ entry (e.Went 2 def) ∷ credited 3
    ∷ entry (e.Ended 2) ∷ finished ∷ hears response.ends 3 ∷ completed 3 (end_note 2 cause.Done 3 3)
    ∷ entry (e.Closed 2 cause.Done) ∷ []

abbrev pub ThroughMayGo : Type 0
ThroughMayGo = (start : Resources) (came : List ℕ) (seen : Seen) (gateway authority : Target) (endpoint : List ℕ)
    → IsHeader came seen abc → GoesThrough start seen gateway authority endpoint
    → IsRunOf start (through_life start came seen gateway authority endpoint) (accepted_note door.Outbound seen ∷ end_note 2 cause.Done 3 3 ∷ [])

-- ONE THAT THE GATEWAY REFUSES, by its status 403; and one for which no link has room

abbrev pub refused_life : Resources → List ℕ → Seen → (gateway authority : Target) → List ℕ → List Part
refused_life held came seen gateway authority endpoint =
    aiming held came seen gateway authority endpoint
    ++ asked 3 1 ∷ hears (fails (cause.UpRefused 403)) 0 ∷ left (Some (verdict_note 2 502 (peer_noted door.Outbound seen) seen.destination))
    ∷ entry (e.Closed 2 (cause.UpRefused 403)) ∷ []

abbrev pub RefusedMayGo : Type 0
RefusedMayGo = (start : Resources) (came : List ℕ) (seen : Seen) (gateway authority : Target) (endpoint : List ℕ)
    → IsHeader came seen [] → GoesThrough start seen gateway authority endpoint
    → IsRunOf start (refused_life start came seen gateway authority endpoint)
    (verdict_note 2 502 (peer_noted door.Outbound seen) seen.destination ∷ [])

abbrev pub roomless_life : Resources → List ℕ → Seen → (gateway authority : Target) → List ℕ → List Part
roomless_life held came seen gateway authority endpoint =
    aiming held came seen gateway authority endpoint
    ++ roomless ∷ left (Some (verdict_note 2 503 (peer_noted door.Outbound seen) seen.destination)) ∷ entry (e.Closed 2 cause.NoRoom) ∷ []

abbrev pub RoomlessMayGo : Type 0
RoomlessMayGo = (start : Resources) (came : List ℕ) (seen : Seen) (gateway authority : Target) (endpoint : List ℕ)
    → IsHeader came seen [] → GoesThrough start seen gateway authority endpoint
    → IsRunOf start (roomless_life start came seen gateway authority endpoint)
    (verdict_note 2 503 (peer_noted door.Outbound seen) seen.destination ∷ [])

-- ONE THAT BREAKS: its stream is given up, of whose bytes none has begun to go
abbrev pub broken_life : Resources → List ℕ → Seen → (gateway authority : Target) → List ℕ → List Part
broken_life held came seen gateway authority endpoint =
    aiming held came seen gateway authority endpoint ++ opened seen
    ++ entry (e.Broke 2) ∷ loosed 0 ∷ left (Some (end_note 2 cause.PeerGone 0 0)) ∷ entry (e.Closed 2 cause.PeerGone) ∷ []

abbrev pub BrokenMayGo : Type 0
BrokenMayGo = (start : Resources) (came : List ℕ) (seen : Seen) (gateway authority : Target) (endpoint : List ℕ)
    → IsHeader came seen [] → GoesThrough start seen gateway authority endpoint
    → IsRunOf start (broken_life start came seen gateway authority endpoint) (accepted_note door.Outbound seen ∷ end_note 2 cause.PeerGone 0 0 ∷ [])
