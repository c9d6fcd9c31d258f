-- DATA of a link fits both windows where it begins (RFC 9113 sections 6.9 and 6.9.2).
use Rattle.std.specs.Prelude.{⊤, ◌≡◌, ℕ, List, ◌++◌, length}
use Rattle.hb_streams.specs.declared.role.Role.TheVariants.{Client}
use Rattle.hb_conn.specs.Connection.{Connection}
use Rattle.hb_conn.specs.Observed.{output, frames_begun}
use Rattle.hb_history.specs.Points.{frames_got}
use Rattle.hb_history.specs.History.{StandsFor}
use Rattle.hb_history.specs.Fits.{AllFit}
use Rattle.hb_world.specs.Trace.{recv, sent}
use Rattle.hb_world.specs.declared.entry.Entry.{Entry}
use Rattle.hb_world.specs.declared.entry.Entry.TheVariants as e
use Rattle.hb_model.specs.Point.{Point, entries, moves, tellings}
use Rattle.hb_model.specs.Calls.{AtEntry, IsControl}

-- Behind these points bytes go on a link. Its connection stands for its moves and the bytes before, so that these frames have
-- begun; the bytes are the first of those that wait; and each DATA frame with payload that begins with them fits
pub record GoesWithin (points : List Point) (l : ℕ) (bytes : List ℕ) : Type 0 where
  pub conn : Connection
  pub stands : StandsFor Client (moves l points) (tellings l points) (recv l (entries points)) (sent l (entries points)) conn
  pub rest : List ℕ
  pub first : output conn ≡ bytes ++ rest
  pub fit : AllFit stands.begun (frames_got (moves l points)) (frames_begun (length bytes) conn)

abbrev pub WindowsAt : List Point → Entry → Type 0
WindowsAt before (e.Went l bytes) = IsControl l (entries before) → GoesWithin before l bytes
WindowsAt before _ = ⊤

-- it is so wherever bytes go to the control plane
abbrev pub WindowLaw : List Point → Type 0
WindowLaw points = AtEntry WindowsAt points
