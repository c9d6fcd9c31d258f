-- What holds of the trace of a run that is over.
use Rattle.std.specs.Prelude.{◌≡◌, ℕ, true, false, List, ◌++◌, Option, None}
use Rattle.std.specs.List.{All}
use Rattle.hb_base.specs.declared.door.Door.{Door}
use Rattle.hb_base.specs.declared.note.Note.{Note}
use Rattle.hb_world.specs.Trace.{births, lives}
use Rattle.hb_world.specs.declared.entry.Entry.{Entry}
use Rattle.hb_ready.specs.Awake.{AwakeLaw}
use Rattle.hb_ready.specs.Registry.{kept}
use Rattle.hb_ready.specs.Sight.{asked_at}
use Rattle.hb_turns.specs.Ends.{ClosesFor, cause_at, was_wanting}
use Rattle.hb_turns.specs.Leads.{LeadLaw}
use Rattle.hb_turns.specs.Looks.{LooksLaw}
use Rattle.hb_turns.specs.Notes.{Holds, AreNotes}
use Rattle.hb_turns.specs.Reckons.{Finishes}
use Rattle.hb_turns.specs.Settled.{SettledLaw}
use Rattle.hb_turns.specs.Shown.{Shown}
use Rattle.hb_turns.specs.Stands.{StoodLast}
use Rattle.hb_turns.specs.Totals.{counted, revoked, totals_of, no_totals}
use Rattle.hb_turns.specs.declared.run.Records.{Records}
use Rattle.hb_turns.specs.declared.served.Served.{Served}
use Rattle.hb_turns.specs.declared.served.ServeEnd.{ServeEnd}
use Rattle.hb_turns.specs.declared.served.ServeEnd.TheVariants as ends
use Rattle.hb_turns.specs.declared.served.Totals.{Totals}
use Rattle.hb_turns.specs.declared.words.ServeWords.{ServeWords}

-- a node whose run goes on stands for the trace; where the turns are spent no act is due; where memory lacked it stands for the trace or
-- for all but its last entry
abbrev pub IsStoodFor : {N : Type 0} → (List Note → N → List Entry → Type 0) → (N → Shown) → ServeEnd → List Entry → Type 0
IsStoodFor stands shown ends.NoMemory trace = StoodLast stands shown trace
IsStoodFor {N} stands shown ends.TurnsSpent trace =
    (notes : List Note) × (n : N) × stands notes n trace × ((shown n).ends_for ≡ None) × ((shown n).idle ≡ true)
IsStoodFor {N} stands shown _ trace = (notes : List Note) × (n : N) × stands notes n trace × ((shown n).ends_for ≡ None)

-- The run ended so with the first of the entries, for which a node stands (where memory lacked, for them or for all but the last). The
-- others close links for the cause of that end
pub record IsOver {N : Type 0} (stands : List Note → N → List Entry → Type 0) (shown : N → Shown) (words : ServeWords) (end : ServeEnd)
    (trace : List Entry) : Type 0 where
  pub before : List Entry
  pub behind : List Entry
  pub trace_is : trace ≡ before ++ behind
  pub finishes : Finishes words end before
  pub stood_for : IsStoodFor stands shown end before
  pub closes : All (ClosesFor (cause_at end)) behind

-- what a run leaves: the notes that are kept, and the node
pub record Leaves (N : Type 0) : Type 0 where
  pub keep : Option (List Note)
  pub node : N

abbrev pub leaves : {N : Type 0} → Option (List Note) → N → Leaves N
leaves keep node = record { keep = keep; node = node }

-- These are all notes of the trace, which its node gave; where notes are kept they are these, and the totals are those of the trace
-- with these notes
pub record IsTotalled {N : Type 0} (stands : List Note → N → List Entry → Type 0) (shown : N → Shown) (left : Leaves N)
    (totals : Totals) (trace : List Entry) : Type 0 where
  pub notes : List Note
  pub are_notes : AreNotes stands shown notes left.node trace
  pub kept_are : Holds left.keep notes
  pub totals_are : totals ≡ totals_of trace notes

-- A run that is over, of a node that was asked for this: its trace obeys the awake law, the settled law, the looks law and the lead law,
-- at its end no link lives; it says how the run ended, how many links were born, how many dialled ones an update of the policies closed,
-- and whether one was closed for want of memory; and unless memory lacked the notes that are kept, and those that its node gave, are all
-- that there are of it, and the totals are its own
pub record IsServed {N : Type 0} (stands : List Note → N → List Entry → Type 0) (shown : N → Shown) (words : ServeWords) (served : Served)
    (left : Leaves N) (trace : List Entry) : Type 0 where
  pub awake : AwakeLaw trace
  pub settled : SettledLaw stands shown trace
  pub looks : LooksLaw trace
  pub leads : LeadLaw stands shown trace
  pub closed : (l : ℕ) → lives l trace ≡ false
  pub over : IsOver stands shown words served.end trace
  pub links_are : served.totals.links ≡ births trace
  pub revoked_are : served.totals.revoked ≡ counted (revoked trace)
  pub wanting_is : served.wanting ≡ was_wanting trace
  pub noted : (served.end ≡ ends.NoMemory → ⊥) → served.unkept ≡ false → IsTotalled stands shown left served.totals trace

-- memory lacked before anything was done
abbrev pub nothing_done : Served
nothing_done = record { end = ends.NoMemory; totals = no_totals; wanting = false; unkept = false }

-- a node before anything happened: no shut and no close is due, and the run isn't to end
pub record IsFreshNode (s : Shown) : Type 0 where
  pub going : s.ends_for ≡ None
  pub none_closes : s.none_closes ≡ true

-- nothing is known
pub record IsFresh (r : Records) : Type 0 where
  pub links : (l : ℕ) → (kept r.links).links l ≡ None
  pub doors : (d : Door) → asked_at r.asked d ≡ false
  pub births : r.births ≡ 0
  pub wanting : r.wanting ≡ false
  pub revoked : r.revoked ≡ 0
