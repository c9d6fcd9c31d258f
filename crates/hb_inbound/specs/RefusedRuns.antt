-- Small runs of an inbound link that the laws refuse, and one that they let go: a tunnel on stream 1 to an upstream, which is link 3.
use Rattle.std.specs.Prelude.{◌≡◌, ◌≢◌, ℕ, false, List, [], ◌∷◌, ◌++◌}
use Rattle.hb_base.specs.declared.cause.Cause.{Cause}
use Rattle.hb_base.specs.declared.cause.Cause.TheVariants as cause
use Rattle.hb_base.specs.declared.door.Why.TheVariants as whys
use Rattle.hb_base.specs.declared.note.Note.{Note}
use Rattle.hb_base.specs.declared.peer.Peer.{Peer}
use Rattle.hb_base.specs.declared.target.Target.{Target}
use Rattle.hb_disco.specs.declared.response.Response.{Response}
use Rattle.hb_front.specs.Reading.{Seen}
use Rattle.hb_held.specs.Held.{Resources}
use Rattle.hb_held.specs.Outcome.{after_response}
use Rattle.hb_table.specs.Judgement.{judged}
use Rattle.hb_table.specs.declared.judgement.Judged.TheVariants.{Admitted}
use Rattle.hb_verdict.specs.declared.verdict.Verdict.TheVariants.{Dial}
use Rattle.hb_world.specs.declared.entry.Entry.TheVariants as e
use Rattle.hb_inbound.specs.Access.{AccessLaw}
use Rattle.hb_inbound.specs.Ends.{EndLaw}
use Rattle.hb_inbound.specs.Part.{Part, entry, up, fronted, decided, accepted, put, applied}
use Rattle.hb_inbound.specs.Sides.{identity_told}

-- the peer of a front header
abbrev pub peer_in : Seen → Peer
peer_in seen = record { ip = seen.source.ip; identity = identity_told seen.identity }

-- the tunnel is asked for, dialled, opened and accepted, and a response is applied
abbrev pub lived : Seen → Target → Note → Response → List Part
lived seen target note r =
    fronted seen ∷ decided 1 false (Dial target) ∷ up 1 (e.Dialled 3 target (whys.Upstream 2 1)) ∷ up 1 (e.Opened 3) ∷ accepted 1 note
    ∷ applied r ∷ []

-- what is held then doesn't admit the peer, or it does
abbrev pub IsRevoked : Resources → Seen → Target → Response → Type 0
IsRevoked start seen target r = judged (after_response start r) (peer_in seen) target ≢ Admitted

abbrev pub StaysIn : Resources → Seen → Target → Response → Type 0
StaysIn start seen target r = judged (after_response start r) (peer_in seen) target ≡ Admitted

-- behind an update that no longer admits the peer, a byte goes to the upstream: against the access law, and against the end law
abbrev pub WritesBehind : Type 0
WritesBehind = (start : Resources) (seen : Seen) (target : Target) (note : Note) (r : Response) (bytes : List ℕ)
    → IsRevoked start seen target r → AccessLaw start (lived seen target note r ++ up 1 (e.Went 3 bytes) ∷ []) → ⊥

abbrev pub GoesOnBehind : Type 0
GoesOnBehind = (start : Resources) (seen : Seen) (target : Target) (note : Note) (r : Response) (bytes : List ℕ)
    → IsRevoked start seen target r → EndLaw start (lived seen target note r ++ up 1 (e.Went 3 bytes) ∷ []) → ⊥

-- DATA is put of it
abbrev pub PutsBehind : Type 0
PutsBehind = (start : Resources) (seen : Seen) (target : Target) (note : Note) (r : Response) (bytes : List ℕ)
    → IsRevoked start seen target r → EndLaw start (lived seen target note r ++ put 1 bytes ∷ []) → ⊥

-- the link is read while its upstream isn't closed
abbrev pub ReadsBehind : Type 0
ReadsBehind = (start : Resources) (seen : Seen) (target : Target) (note : Note) (r : Response) (bytes : List ℕ)
    → IsRevoked start seen target r → EndLaw start (lived seen target note r ++ entry (e.Came 2 bytes) ∷ []) → ⊥

-- the upstream is closed for another cause
abbrev pub ClosesForAnother : Type 0
ClosesForAnother = (start : Resources) (seen : Seen) (target : Target) (note : Note) (r : Response)
    → IsRevoked start seen target r → EndLaw start (lived seen target note r ++ up 1 (e.Closed 3 cause.UpFault) ∷ []) → ⊥

-- an update closes a tunnel that is still admitted, for whatever cause
abbrev pub ClosesAdmitted : Type 0
ClosesAdmitted = (start : Resources) (seen : Seen) (target : Target) (note : Note) (r : Response) (why : Cause)
    → StaysIn start seen target r → EndLaw start (lived seen target note r ++ up 1 (e.Closed 3 why) ∷ []) → ⊥

-- a dial that nothing asked for
abbrev pub DialsUnbidden : Type 0
DialsUnbidden = (start : Resources) (seen : Seen) (target : Target)
    → EndLaw start (fronted seen ∷ up 1 (e.Dialled 3 target (whys.Upstream 2 1)) ∷ []) → ⊥

-- a byte goes behind an update that still admits the peer: both laws let it
abbrev pub GoesOnAdmitted : Type 0
GoesOnAdmitted = (start : Resources) (seen : Seen) (target : Target) (note : Note) (r : Response) (bytes : List ℕ)
    → StaysIn start seen target r
    → EndLaw start (lived seen target note r ++ up 1 (e.Went 3 bytes) ∷ []) × AccessLaw start
    (lived seen target note r ++ up 1 (e.Went 3 bytes) ∷ [])

-- and the close of a tunnel that is revoked
abbrev pub ClosesRevoked : Type 0
ClosesRevoked = (start : Resources) (seen : Seen) (target : Target) (note : Note) (r : Response)
    → IsRevoked start seen target r → EndLaw start (lived seen target note r ++ up 1 (e.Closed 3 cause.Revoked) ∷ [])
