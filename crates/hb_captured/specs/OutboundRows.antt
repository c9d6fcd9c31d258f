-- Two whole lives of a link of the outbound door: one that relays three bytes each way and is done, and one that has no route.
use Rattle.std.specs.Prelude.{◌≡◌, ℕ, true, List, [], ◌∷◌, Some}
use Rattle.hb_base.specs.declared.cause.Cause.TheVariants as cause
use Rattle.hb_base.specs.declared.door.Door.TheVariants as door
use Rattle.hb_base.specs.declared.door.Why.TheVariants as whys
use Rattle.hb_base.specs.declared.note.Note.{Note}
use Rattle.hb_base.specs.declared.target.Target.{Target}
use Rattle.hb_disco.specs.declared.response.Response.{Response}
use Rattle.hb_front.specs.Reading.{Seen}
use Rattle.hb_held.specs.Held.{Resources}
use Rattle.hb_route.specs.Answer.{no_way, number_of}
use Rattle.hb_route.specs.declared.answer.NoRoute.{NoRoute}
use Rattle.hb_verdict.specs.Verdict.{synced}
use Rattle.hb_world.specs.declared.entry.Entry.TheVariants as e
use Rattle.hb_captured.specs.Answer.{straight_to, unrouted, way_on}
use Rattle.hb_captured.specs.Captured.{peer_noted}
use Rattle.hb_captured.specs.OutboundRefused.{GoesStraight}
use Rattle.hb_captured.specs.Part.{Part, entry, up, welcomed, fronted, refused, accepted, done, applied}
use Rattle.hb_captured.specs.Rows.{IsRunOf, IsHeader, abc, def, accepted_note}
use Rattle.hb_captured.specs.Runs.{verdict_note, end_note}

-- ONE THAT GOES STRAIGHT: its way leads to this address, which may be another than the header's destination, of which the notes tell. An
-- update between the bytes has no effect, whether what is held then admits the peer or doesn't
abbrev pub straight_life : List ℕ → Seen → Target → List ℕ → Response → List Part
straight_life came seen to name r =
    entry (e.Accepted 2 door.Outbound) ∷ welcomed ∷ entry (e.Came 2 came) ∷ fronted seen unrouted (straight_to to (Some name))
    ∷ up (e.Dialled 3 to (whys.Direct 2)) ∷ up (e.Opened 3) ∷ accepted (accepted_note door.Outbound seen)
    ∷ up (e.Went 3 abc) ∷ applied r ∷ up (e.Came 3 def) ∷ entry (e.Went 2 def)
    ∷ entry (e.Ended 2) ∷ up (e.Shut 3) ∷ up (e.Ended 3) ∷ done (end_note 2 cause.Done 3 3)
    ∷ entry (e.Closed 2 cause.Done) ∷ up (e.Closed 3 cause.Done) ∷ []

abbrev pub StraightMayGo : Type 0
StraightMayGo = (start : Resources) (came : List ℕ) (seen : Seen) (to : Target) (name : List ℕ) (r : Response) → IsHeader came seen abc
    → GoesStraight start seen to (Some name)
    → IsRunOf start (straight_life came seen to name r) (accepted_note door.Outbound seen ∷ end_note 2 cause.Done 3 3 ∷ [])

-- ONE THAT HAS NO ROUTE

abbrev pub unrouted_note : Seen → Note
unrouted_note seen = verdict_note 2 503 (peer_noted door.Outbound seen) seen.destination

abbrev pub unrouted_life : List ℕ → Seen → NoRoute → List Part
unrouted_life came seen why =
    entry (e.Accepted 2 door.Outbound) ∷ welcomed ∷ entry (e.Came 2 came)
    ∷ refused seen unrouted (cause.NoRoute (number_of why)) 503 (unrouted_note seen)
    ∷ entry (e.Closed 2 (cause.NoRoute (number_of why))) ∷ []

abbrev pub UnroutedMayGo : Type 0
UnroutedMayGo = (start : Resources) (came : List ℕ) (seen : Seen) (why : NoRoute) → IsHeader came seen [] → synced start ≡ true
    → way_on start unrouted seen ≡ no_way why → IsRunOf start (unrouted_life came seen why) (unrouted_note seen ∷ [])
