-- Small traces and notes, and what is counted of them.
use Rattle.std.specs.Prelude.{◌≡◌, true, false, ◌-◌, ◌^◌, [], ◌∷◌, Option}
use Rattle.hb_base.specs.declared.cause.Cause.TheVariants as cause
use Rattle.hb_base.specs.declared.door.Door.{Door}
use Rattle.hb_base.specs.declared.door.Why.{Why}
use Rattle.hb_base.specs.declared.note.Note.TheVariants.{Verdict, End}
use Rattle.hb_base.specs.declared.peer.Peer.{Peer}
use Rattle.hb_base.specs.declared.target.Target.{Target}
use Rattle.hb_world.specs.declared.entry.Entry.TheVariants as e
use Rattle.hb_turns.specs.Totals.{revoked, sums_of}

-- an accepted link that an update of the policies closes isn't counted
abbrev pub SparesAccepted : Type 0
SparesAccepted = (door : Door) → revoked (e.Accepted 1 door ∷ e.Closed 1 cause.Revoked ∷ []) ≡ 0

-- a dialled one is, once, though it were closed again
abbrev pub CountsDialledOnce : Type 0
CountsDialledOnce = (to : Target) (why : Why)
    → revoked (e.Dialled 1 to why ∷ e.Opened 1 ∷ e.Closed 1 cause.Revoked ∷ e.Closed 1 cause.Revoked ∷ []) ≡ 1

-- nor is a dialled one that is closed for another cause
abbrev pub SparesStopped : Type 0
SparesStopped = (to : Target) (why : Why) → revoked (e.Dialled 1 to why ∷ e.Opened 1 ∷ e.Closed 1 cause.Stopped ∷ []) ≡ 0

-- a verdict of 200 is counted, and one of 403 isn't
abbrev pub CountsAccepted : Type 0
CountsAccepted = (peer : Peer) (target : Option Target)
    → (sums_of (Verdict 1 1 200 peer target ∷ Verdict 1 3 403 peer target ∷ [])).accepted ≡ 1

-- one of 500 tells that memory was wanting, and one of 503 doesn't
abbrev pub CountsLacks : Type 0
CountsLacks = (peer : Peer) (target : Option Target)
    → ((sums_of (Verdict 1 1 200 peer target ∷ Verdict 1 3 500 peer target ∷ [])).lacked ≡ true)
    × ((sums_of (Verdict 1 1 503 peer target ∷ [])).lacked ≡ false)

-- the bytes of two tunnels are added, each way by itself
abbrev pub AddsEnds : Type 0
AddsEnds = sums_of (End 1 1 cause.Done 2 30 ∷ End 1 3 cause.Revoked 5 40 ∷ []) ≡ record { accepted = 0; up = 7; down = 70; lacked = false }

-- up to 2 ^ 64 - 1
abbrev pub StopsAtMost : Type 0
StopsAtMost = (sums_of (End 1 1 cause.Done (2 ^ 64 - 1) 0 ∷ End 1 3 cause.Done 5 0 ∷ [])).up ≡ 2 ^ 64 - 1
