-- What audits hold, and what they answer.
use Rattle.std.specs.Prelude.{◌≡◌, List, Option, map}
use Rattle.hb_base.specs.declared.note.Note.{Note}
use Rattle.hb_audit.specs.declared.audits.Audits.{Audits}
use Rattle.hb_audit.specs.Held.{held_after}
use Rattle.hb_audit.specs.Tells.{Answering}

-- the audits, in order
abbrev pub each : {A : Type 0} → Audits A → List A
each a = a.audits.items

-- what each audit holds, by what one holds
abbrev pub held_by : {A : Type 0} → (A → Option (List Note)) → Audits A → List (Option (List Note))
held_by notes a = map notes (each a)

-- what an audit may answer to what it is told, and what it is after: its own, and it holds what this answer says of the note
abbrev pub answers_by : {A : Type 0} → (A → Option (List Note)) → Answering A → Answering A
answers_by notes answers a t answer after = answers a t answer after × (notes after ≡ held_after (notes a) t.note answer)
