use Rattle.std.specs.Prelude.{ℕ, List, [], ◌∷◌, nat_lt, if◌then◌else◌}
use Rattle.hb_hpack.specs.Encoding.{Writing}
use Rattle.hb_outgoing.specs.Waiting.{Waiting, put, room_of}
use Rattle.hb_owed.specs.declared.due.Due.{Due}
use Rattle.hb_owed.specs.Debts.{Debts, dues, struck}
use Rattle.hb_owed.specs.Frames.{frame_of, behind, size_of}

-- what is owed, what waits to be written, and how the encoder of header blocks stands
pub record Payment : Type 0 where
  pub owed : Debts
  pub out : Waiting
  pub writing : Writing

-- one owed frame is put behind all that waits, and is owed no more
abbrev pub with_put : ℕ → Due → Payment → Payment
with_put s d p = record {
  owed = struck p.owed s d;
  out = put (frame_of p.writing s d) p.out;
  writing = behind d p.writing;
}

-- these frames are put in order, as long as the next one fits the room
abbrev pub put_while_fits : List (ℕ × Due) → Payment → Payment
put_while_fits [] p = p
put_while_fits (x ∷ xs) p =
    if nat_lt (room_of p.out) (size_of x.1) then p else put_while_fits xs (with_put x.0 x.1 p)

-- all that is owed is put, as long as the next frame fits
abbrev pub paid : Payment → Payment
paid p = put_while_fits (dues p.owed) p
