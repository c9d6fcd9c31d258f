-- More small runs that the laws of ends and of bytes refuse: of a tunnel on stream 1, whose upstream is link 3.
use Rattle.std.specs.Prelude.{◌≡◌, ◌≢◌, ℕ, false, List, [], ◌∷◌, ◌++◌}
use Rattle.hb_base.specs.declared.cause.Cause.{Cause}
use Rattle.hb_base.specs.declared.door.Why.TheVariants as whys
use Rattle.hb_base.specs.declared.note.Note.{Note}
use Rattle.hb_base.specs.declared.target.Target.{Target}
use Rattle.hb_conn.specs.declared.found.Found.TheVariants as found
use Rattle.hb_disco.specs.declared.response.Response.{Response}
use Rattle.hb_frames.specs.Bodies.{lent_of}
use Rattle.hb_frames.specs.RawFrame.{RawFrame}
use Rattle.hb_front.specs.Reading.{Seen}
use Rattle.hb_held.specs.Held.{Resources}
use Rattle.hb_history.specs.Points as history
use Rattle.hb_hpack.specs.declared.header.HeaderList.{HeaderList}
use Rattle.hb_verdict.specs.declared.verdict.Verdict.TheVariants.{Dial}
use Rattle.hb_world.specs.declared.entry.Entry.TheVariants as e
use Rattle.hb_inbound.specs.Ends.{EndLaw}
use Rattle.hb_inbound.specs.Part.{Part, up, fronted, looked, decided, accepted, finished, applied}
use Rattle.hb_inbound.specs.RefusedRuns.{lived, IsRevoked}
use Rattle.hb_inbound.specs.Relay.{RelaysUp}

-- behind an update that no longer admits the peer the stream is ended, as if all had gone
abbrev pub FinishesBehind : Type 0
FinishesBehind = (start : Resources) (seen : Seen) (target : Target) (note : Note) (r : Response)
    → IsRevoked start seen target r → EndLaw start (lived seen target note r ++ finished 1 ∷ []) → ⊥

-- a pending tunnel: its target is asked for and dialled
abbrev pub pended : Seen → Target → List Part
pended seen target = fronted seen ∷ decided 1 false (Dial target) ∷ up 1 (e.Dialled 3 target (whys.Upstream 2 1)) ∷ []

-- an update isn't asked of a pending tunnel: its dial is made, or its upstream opens, behind one that doesn't admit its peer
abbrev pub DialsBehind : Type 0
DialsBehind = (start : Resources) (seen : Seen) (target : Target) (r : Response) → IsRevoked start seen target r
    → EndLaw start (fronted seen ∷ decided 1 false (Dial target) ∷ applied r ∷ up 1 (e.Dialled 3 target (whys.Upstream 2 1)) ∷ []) → ⊥

abbrev pub OpensBehind : Type 0
OpensBehind = (start : Resources) (seen : Seen) (target : Target) (r : Response)
    → IsRevoked start seen target r → EndLaw start (pended seen target ++ applied r ∷ up 1 (e.Opened 3) ∷ []) → ⊥

-- the upstream of a live tunnel is closed though nothing ended the tunnel, for whatever cause; that of a pending one is shut
abbrev pub ClosesUnended : Type 0
ClosesUnended = (start : Resources) (seen : Seen) (target : Target) (note : Note) (why : Cause)
    → EndLaw start (pended seen target ++ up 1 (e.Opened 3) ∷ accepted 1 note ∷ up 1 (e.Closed 3 why) ∷ []) → ⊥

abbrev pub ShutsPending : Type 0
ShutsPending = (start : Resources) (seen : Seen) (target : Target) → EndLaw start (pended seen target ++ up 1 (e.Shut 3) ∷ []) → ⊥

-- three bytes came on the stream, and the second is left out
abbrev pub LosesByte : Type 0
LosesByte = (s u first second third : ℕ) (f : RawFrame) (headers : HeaderList) → lent_of f ≡ first ∷ second ∷ third ∷ [] → second ≢ third
    → RelaysUp (looked (history.point (history.got f) (found.Chunk s false) ∷ []) (found.Chunk s false) headers
    ∷ up s (e.Went u (first ∷ third ∷ [])) ∷ []) s → ⊥
