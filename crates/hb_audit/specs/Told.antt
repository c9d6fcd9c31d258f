-- What an audit is told: a note and, where a peer was denied, why.
use Rattle.std.specs.Prelude.{ℕ, List, map, Option, None}
use Rattle.std.specs.Option.{option_map}
use Rattle.hb_base.specs.declared.note.Note.{Note}
use Rattle.hb_audit.specs.declared.reason.Reason.{Reason as Given}
use Rattle.hb_audit.specs.declared.reason.Reason.TheVariants.{DeniedBy, NoneAllows}

-- why the policies held deny a peer: this one denies and fires, the first of those; or none of those fires, and none of so many that allow
pub data Reason : Type 0 where
  denied_by : (namespace name : List ℕ) → Reason
  none_allows : ℕ → Reason

abbrev pub reason_as : Given → Reason
reason_as (DeniedBy namespace name) = denied_by namespace.now name.now
reason_as (NoneAllows many) = none_allows many

pub record Told : Type 0 where
  pub note : Note
  pub reason : Option Reason

abbrev pub told_of : Note → Option Given → Told
told_of note reason = record { note = note; reason = option_map reason_as reason }

-- a note without a reason
abbrev pub plain : Note → Told
plain note = record { note = note; reason = None }

-- the notes of what was told
abbrev pub notes_of : List Told → List Note
notes_of told = map (λ t. t.note) told
