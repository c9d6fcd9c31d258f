-- What a run does with a source or a sink.
use Rattle.std.specs.Prelude.{◌≡◌, ℕ, ◌<◌, ◌≤◌, List, length, take, Option}
use Rattle.std.specs.Io.KnownBytes.{Appends}
use Rattle.hb_base.specs.Count.{one_more}
use Rattle.hb_cli.specs.declared.answer.Printed.{Printed}
use Rattle.hb_cli.specs.declared.answer.Printed.TheVariants as printing
use Rattle.hb_cli.specs.Run.{WritesLine}

-- its bytes and its count of faults, before and after
pub record Use : Type 0 where
  pub bytes : Option (List ℕ)
  pub bytes_after : Option (List ℕ)
  pub faults : ℕ
  pub faults_after : ℕ

abbrev pub use_of : Option (List ℕ) → Option (List ℕ) → ℕ → ℕ → Use
use_of bytes bytes_after faults faults_after =
    record { bytes = bytes; bytes_after = bytes_after; faults = faults; faults_after = faults_after }

-- the same, by what tells the bytes and what tells the count
abbrev pub used : {X : Type 0} → (X → Option (List ℕ)) → (X → ℕ) → X → X → Use
used bytes faults before after = use_of (bytes before) (bytes after) (faults before) (faults after)

-- no fault came, or one did
abbrev pub NoFault : Use → Type 0
NoFault u = u.faults_after ≡ u.faults

abbrev pub OneFault : Use → Type 0
OneFault u = u.faults_after ≡ one_more u.faults

-- nothing is read or written
abbrev pub Untouched : Use → Type 0
Untouched u = (u.bytes_after ≡ u.bytes) × NoFault u

-- all of a text is written, or a part from its front
abbrev pub WritesAll : Use → List ℕ → Type 0
WritesAll u text = Appends u.bytes u.bytes_after text × NoFault u

abbrev pub WritesPart : Use → List ℕ → Type 0
WritesPart u text = ((n : ℕ) × (n < length text) × Appends u.bytes u.bytes_after (take n text)) × OneFault u

-- a part from its front, or all, is written, and no put failed
abbrev pub WritesSome : Use → List ℕ → Type 0
WritesSome u text = ((n : ℕ) × (n ≤ length text) × Appends u.bytes u.bytes_after (take n text)) × NoFault u

-- how far a text is printed
abbrev pub Prints : Use → List ℕ → Printed → Type 0
Prints u text printing.Whole = WritesAll u text
Prints u text printing.Failed = WritesPart u text
Prints u text printing.NoMemory = WritesSome u text

-- a line is told
abbrev pub Tells : Use → List ℕ → Type 0
Tells u text = WritesLine u.bytes u.bytes_after u.faults u.faults_after text
