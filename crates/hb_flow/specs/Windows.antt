use Rattle.std.specs.Prelude.{ℕ, ◌+◌, ◌-◌, ℤ, pos, ◌+ℤ◌, ◌-ℤ◌, int_lt, unsigned_abs, nat_lt, if◌then◌else◌, Option, Some, None}
use Rattle.hb_windows.specs.Sending.{Sending}
use Rattle.hb_windows.specs.Taking.{Taking}

-- the windows of a stream
pub record Windows : Type 0 where
  pub sending : Sending
  pub taking : Taking

-- the initial size of each window (RFC 9113 section 6.9.2)
abbrev pub first_size : ℕ
first_size = 65535

-- what is owed is granted again from so many octets on
abbrev pub worth_granting : ℕ
worth_granting = 32768

-- a window that nothing was taken from
abbrev pub whole_sending : ℕ → Sending
whole_sending size = record { held = pos size; size = size }

abbrev pub whole_taking : Taking
whole_taking = record { granted = first_size; kept = 0; owed = 0 }

-- the octets that a window lets go, none where it is below zero
abbrev pub room : Sending → ℕ
room w = if int_lt w.held (pos 0) then 0 else unsigned_abs w.held

-- what a window would hold were the DATA that hasn't begun not spent
abbrev pub counted : Sending → ℕ → ℤ
counted w unbegun = w.held +ℤ pos unbegun

-- the octets of DATA that is sent
abbrev pub less : Sending → ℕ → Sending
less w n = record w { held = w.held -ℤ pos n }

-- an increment, or the octets of DATA that is taken back
abbrev pub more : Sending → ℕ → Sending
more w n = record w { held = w.held +ℤ pos n }

-- a window moves by the difference of its initial sizes (RFC 9113 section 6.9.2)
abbrev pub sized : ℕ → Sending → Sending
sized size w = record { held = w.held +ℤ (pos size -ℤ pos w.size); size = size }

-- DATA that came
abbrev pub taken : Taking → ℕ → Taking
taken w n = record w { granted = w.granted - n; kept = w.kept + n }

-- DATA that is used up
abbrev pub owing : Taking → ℕ → Taking
owing w n = record w { kept = w.kept - n; owed = w.owed + n }

-- the increment to grant now: all that is owed, where that is worth it
abbrev pub due_of : Taking → Option ℕ
due_of w = if nat_lt w.owed worth_granting then None else Some w.owed

-- after that increment is granted
abbrev pub paid_of : Taking → Taking
paid_of w = if nat_lt w.owed worth_granting then w else record w { granted = w.granted + w.owed; owed = 0 }
