-- What is kept of the calls so far.
use Rattle.std.specs.Prelude.{◌≡◌, ◌<◌, ℕ, ◌≢◌, nat_eq, Bool, false, List, Option, Some, None}
use Rattle.std.specs.HashMap.{get, HashMap}
use Rattle.std.specs.Option.{is_some}
use Rattle.hb_world.specs.declared.entry.Entry.{Entry}
use Rattle.hb_world.specs.Trace.{births, was_born, was_closed, lives}

-- a link that doesn't live has no count
abbrev pub count_of : Option ℕ → ℕ
count_of None = 0
count_of (Some count) = count

module _ {S : Type 0} where
  -- how often a finish, read, write or look of this link failed
  abbrev pub faults_at : HashMap ℕ ℕ S → ℕ → ℕ
  faults_at links link = count_of (get nat_eq links link)

  -- no count changed
  abbrev pub SameFaults : HashMap ℕ ℕ S → HashMap ℕ ℕ S → Type 0
  SameFaults before after = (l : ℕ) → faults_at after l ≡ faults_at before l

  -- no count changed but this link's
  abbrev pub OthersSame : ℕ → HashMap ℕ ℕ S → HashMap ℕ ℕ S → Type 0
  OthersSame link before after = (l : ℕ) → l ≢ link → faults_at after l ≡ faults_at before l

  -- the links that live are those that are kept
  abbrev pub KeepsLiving : List Entry → HashMap ℕ ℕ S → Type 0
  KeepsLiving trace links = (l : ℕ) → lives l trace ≡ is_some (get nat_eq links l)

-- no link above this number was born
abbrev pub Unborn : List Entry → ℕ → Type 0
Unborn trace born = (l : ℕ) → born < l → was_born l trace ≡ false

-- none above it was closed
abbrev pub Unclosed : List Entry → ℕ → Type 0
Unclosed trace born = (l : ℕ) → born < l → was_closed l trace ≡ false
