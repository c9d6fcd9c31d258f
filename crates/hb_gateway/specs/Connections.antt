-- The connection of a link to a gateway: what was looked at, told and done is one history of the bytes that came and of those that went
-- behind the front header; DATA fits both windows where it begins (RFC 9113 sections 5.2 and 6.9).
use Rattle.std.specs.Prelude.{⊤, ◌≡◌, ℕ, ◌-◌, List, ◌++◌, length, take, drop}
use Rattle.hb_conn.specs.Connection.{Connection}
use Rattle.hb_conn.specs.Observed.{frames_begun}
use Rattle.hb_history.specs.Fits.{AllFit}
use Rattle.hb_history.specs.History.{StandsFor}
use Rattle.hb_history.specs.Points.{frames_got}
use Rattle.hb_streams.specs.declared.role.Role.TheVariants.{Client}
use Rattle.hb_world.specs.declared.entry.Entry.{Entry}
use Rattle.hb_world.specs.declared.entry.Entry.TheVariants as e
use Rattle.hb_gateway.specs.Part.{Part, entry, moves, tellings, link_came, link_went, front_header, left_of, AtEach}

-- of the bytes that went, those of the front header, and those behind it, which are the connection's
abbrev pub front_went : List Part → List ℕ
front_went parts = take (length (front_header parts)) (link_went parts)

abbrev pub conn_went : List Part → List ℕ
conn_went parts = drop (length (front_header parts)) (link_went parts)

-- a client's connection stands for the moves of the link, what was told of them, the bytes that came and those that went behind the front
-- header; what went in front of these is a front of the header
pub record IsOneHistory (parts : List Part) : Type 0 where
  pub conn : Connection
  pub stands : StandsFor Client (moves parts) (tellings parts) (link_came parts) (conn_went parts) conn
  pub unwritten : List ℕ
  pub front : front_header parts ≡ front_went parts ++ unwritten

-- behind these parts bytes go on the link: each DATA frame with payload that begins with them fits
pub record GoesWithin (before : List Part) (bytes : List ℕ) : Type 0 where
  pub conn : Connection
  pub stands : StandsFor Client (moves before) (tellings before) (link_came before) (conn_went before) conn
  pub fit : AllFit stands.begun (frames_got (moves before)) (frames_begun (length bytes - left_of before) conn)

abbrev pub WindowsBy : List Part → Entry → Type 0
WindowsBy before (e.Went l bytes) = GoesWithin before bytes
WindowsBy before _ = ⊤

abbrev pub WindowsAt : List Part → Part → Type 0
WindowsAt before (entry e) = WindowsBy before e
WindowsAt before _ = ⊤

abbrev pub WindowLaw : List Part → Type 0
WindowLaw parts = AtEach WindowsAt parts
