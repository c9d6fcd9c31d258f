-- The entries that change the life of no link.
use Rattle.std.specs.Prelude.{◌≡◌, ◌==◌, ℕ, Bool, true, false}
use Rattle.hb_world.specs.declared.trace.Life.{Life}
use Rattle.hb_world.specs.Trace.{is_birth, is_birth_of, is_shut_of, is_close_of}
use Rattle.hb_world.specs.declared.entry.Entry.{Entry}
use Rattle.hb_world.specs.declared.entry.Entry.TheVariants.{Accepted, Dialled, Shut, Closed}

-- neither a birth nor a Shut nor a Closed
abbrev pub is_plain : Entry → Bool
is_plain (Accepted l door) = false
is_plain (Dialled l to why) = false
is_plain (Shut l) = false
is_plain (Closed l cause) = false
is_plain _ = true

-- the birth of the link of this number
pub record IsBirth (number : ℕ) (e : Entry) : Type 0 where
  pub counts : is_birth e ≡ true
  pub born : (link : ℕ) → is_birth_of link e ≡ (number == link)
  pub shut : (link : ℕ) → is_shut_of link e ≡ false
  pub closed : (link : ℕ) → is_close_of link e ≡ false

-- the life of a link that is born
abbrev pub fresh : Life
fresh = record { shut = false; closed = false }
