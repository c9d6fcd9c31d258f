-- What a run did, in numbers.
use Rattle.std.specs.Prelude.{ℕ, ◌+◌, ◌-◌, ◌^◌, ◌==◌, min, Bool, false, if◌then◌else◌, List, [], ◌∷◌, ◌++◌, Option, Some, None, count_by}
use Rattle.std.specs.List.{list_any, sum_by}
use Rattle.hb_base.specs.declared.cause.Cause.TheVariants.{Revoked}
use Rattle.hb_base.specs.declared.note.Note.{Note}
use Rattle.hb_base.specs.declared.note.Note.TheVariants.{Verdict, End}
use Rattle.hb_ready.specs.Sight.{known}
use Rattle.hb_ready.specs.declared.link.Link.{Link}
use Rattle.hb_world.specs.Trace.{births}
use Rattle.hb_world.specs.declared.entry.Entry.{Entry}
use Rattle.hb_world.specs.declared.entry.Entry.TheVariants as e
use Rattle.hb_turns.specs.declared.served.Totals.{Totals}
use Rattle.hb_turns.specs.declared.sums.Sums.{Sums}

-- a count stops at 2 ^ 64 - 1
abbrev pub counted : ℕ → ℕ
counted n = min n (2 ^ 64 - 1)

-- this note tells of a tunnel that was let through
abbrev pub is_accepted : Note → Bool
is_accepted (Verdict link stream status peer target) = status == 200
is_accepted (End link stream cause up down) = false

-- a tunnel was answered 500, for want of memory, by this note
abbrev pub is_lacking : Note → Bool
is_lacking (Verdict link stream status peer target) = status == 500
is_lacking (End link stream cause up down) = false

-- the bytes that a tunnel had passed up when it ended
abbrev pub up_of : Note → ℕ
up_of (Verdict link stream status peer target) = 0
up_of (End link stream cause up down) = up

-- the bytes that a tunnel had passed down when it ended
abbrev pub down_of : Note → ℕ
down_of (Verdict link stream status peer target) = 0
down_of (End link stream cause up down) = down

-- the tunnels that were let through, and the bytes that those that ended had passed up and down
abbrev pub sums_of : List Note → Sums
sums_of notes = record {
  accepted = counted (count_by is_accepted notes);
  up = counted (sum_by up_of notes);
  down = counted (sum_by down_of notes);
  lacked = list_any is_lacking notes;
}

-- a link that lives, and was dialled
abbrev pub was_dialled : Option Link → Bool
was_dialled None = false
was_dialled (Some k) = k.is_dialled

-- where these links live, the entry closes one that was dialled, since an update of the policies revoked it
abbrev pub revokes : (ℕ → Option Link) → Entry → Bool
revokes links (e.Closed l Revoked) = was_dialled (links l)
revokes links _ = false

-- how many entries are so, each by those that stand before it
abbrev pub count_at : (List Entry → Entry → Bool) → List Entry → List Entry → ℕ
count_at P before [] = 0
count_at P before (x ∷ xs) = (if P before x then 1 else 0) + count_at P (before ++ x ∷ []) xs

-- the entry closes a link that was dialled, as the entries before it tell, since an update of the policies revoked it
abbrev pub is_revocation : List Entry → Entry → Bool
is_revocation before x = revokes (λ l. known l before) x

-- how many dialled links an update of the policies closed
abbrev pub revoked : List Entry → ℕ
revoked trace = count_at is_revocation [] trace

-- the totals of a run with this trace and these notes
abbrev pub totals_of : List Entry → List Note → Totals
totals_of trace notes = record {
  links = births trace;
  accepted = (sums_of notes).accepted;
  revoked = counted (revoked trace);
  up = (sums_of notes).up;
  down = (sums_of notes).down;
  lacked = (sums_of notes).lacked;
}

-- of a run that did nothing
abbrev pub no_totals : Totals
no_totals = record { links = 0; accepted = 0; revoked = 0; up = 0; down = 0; lacked = false }
