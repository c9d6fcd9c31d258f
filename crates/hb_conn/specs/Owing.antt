-- Frames on streams, which are put at once or owed (RFC 9113 section 5.1).
use Rattle.std.specs.Prelude.{ℕ, ◌-◌, ◌&&◌, nat_le, Bool, if◌then◌else◌, Option, Some, None}
use Rattle.hb_outgoing.specs.Waiting.{put, room_of}
use Rattle.hb_outgoing.specs.Written.{written}
use Rattle.hb_owed.specs.Dues.{is_nil}
use Rattle.hb_owed.specs.Debts.{Debts, changed, with_status, with_credit, with_end, with_reset, dues_on, credit_on}
use Rattle.hb_frames.specs.Numbers.{largest}
use Rattle.hb_owed.specs.Frames.{frame_of, behind, size_of}
use Rattle.hb_owed.specs.Paid.{Payment, paid}
use Rattle.hb_owed.specs.declared.due.Due.{Due}
use Rattle.hb_owed.specs.declared.due.Due.TheVariants as due
use Rattle.hb_conn.specs.declared.machine.Core.{Core}

-- the room holds the frame, nothing is owed on its stream, and the stream's number has 31 bits
abbrev pub goes_at_once : Core → ℕ → Due → Bool
goes_at_once c stream d =
    nat_le stream largest && is_nil (dues_on c.owed stream) && nat_le (size_of d) (room_of c.out)

-- the frame is put behind all others
abbrev pub put_now : Core → ℕ → Due → Core
put_now c stream d = record c { out = put (frame_of c.encoder stream d) c.out; encoder = behind d c.encoder }

-- the frame is owed; an increment is added where one frame can have the sum
abbrev pub also : Debts → ℕ → Due → Debts
also m stream (due.Status status) = changed m stream (with_status status)
also m stream (due.Credit n) = if nat_le n (largest - credit_on m stream) then changed m stream (with_credit n) else m
also m stream due.End = changed m stream with_end
also m stream (due.Reset code) = changed m stream (with_reset code)

abbrev pub put_later : Core → ℕ → Due → Core
put_later c stream d = record c { owed = also c.owed stream d }

-- the frame is put at once where it can be, and else owed
unfoldable pub with_due : Core → ℕ → Due → Core
with_due c stream d = if goes_at_once c stream d then put_now c stream d else put_later c stream d

-- the increment is put or owed, where there is one
abbrev pub with_update : Core → ℕ → Option ℕ → Core
with_update c stream None = c
with_update c stream (Some n) = with_due c stream (due.Credit n)

abbrev pub after_payment : Core → Payment → Core
after_payment c p = record c { owed = p.owed; out = p.out; encoder = p.writing }

-- the frames that are owed are put in their order, as far as the room holds the next one
unfoldable pub owed_paid : Core → Core
owed_paid c = after_payment c (paid (record { owed = c.owed; out = c.out; writing = c.encoder }))

-- the first n octets were written: then there may be room for what is owed
abbrev pub wrote : Core → ℕ → Core
wrote c n = owed_paid (record c { out = written n c.out })
