-- The connection of a link: what was looked at, told and done is one history of the bytes that came and went; DATA fits both windows
-- where it begins (RFC 9113 sections 5.2 and 6.9).
use Rattle.std.specs.Prelude.{⊤, ◌≡◌, ℕ, List, ◌++◌, length}
use Rattle.hb_conn.specs.Connection.{Connection}
use Rattle.hb_conn.specs.Observed.{output, frames_begun}
use Rattle.hb_history.specs.Fits.{AllFit}
use Rattle.hb_history.specs.History.{StandsFor}
use Rattle.hb_history.specs.Points.{frames_got}
use Rattle.hb_streams.specs.declared.role.Role.TheVariants.{Server}
use Rattle.hb_world.specs.declared.entry.Entry.{Entry}
use Rattle.hb_world.specs.declared.entry.Entry.TheVariants as e
use Rattle.hb_inbound.specs.Part.{Part, entry, moves, tellings}
use Rattle.hb_inbound.specs.Sides.{link_went, conn_came, AtEach}

-- a server's connection stands for the moves of the link, what was told of them, the bytes that came behind the front header, none
-- until that is whole, and those that went
pub record IsOneHistory (parts : List Part) : Type 0 where
  pub conn : Connection
  pub stands : StandsFor Server (moves parts) (tellings parts) (conn_came parts) (link_went parts) conn

abbrev pub ConnectionLaw : List Part → Type 0
ConnectionLaw parts = IsOneHistory parts

-- behind these parts bytes go on the link: each DATA frame with payload that begins with them fits
pub record GoesWithin (before : List Part) (bytes : List ℕ) : Type 0 where
  pub conn : Connection
  pub stands : StandsFor Server (moves before) (tellings before) (conn_came before) (link_went before) conn
  pub rest : List ℕ
  pub first : output conn ≡ bytes ++ rest
  pub fit : AllFit stands.begun (frames_got (moves before)) (frames_begun (length bytes) conn)

abbrev pub WindowsBy : List Part → Entry → Type 0
WindowsBy before (e.Went l bytes) = GoesWithin before bytes
WindowsBy before _ = ⊤

abbrev pub WindowsAt : List Part → Part → Type 0
WindowsAt before (entry e) = WindowsBy before e
WindowsAt before _ = ⊤

abbrev pub WindowLaw : List Part → Type 0
WindowLaw parts = AtEach WindowsAt parts
