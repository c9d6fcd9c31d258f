-- DATA fits both windows where it begins (RFC 9113 sections 6.9 and 6.9.2).
use Rattle.std.specs.Prelude.{⊤, ◌≡◌, ℕ, ◌+◌, ◌≤◌, ◌==◌, ◌&&◌, not, Bool, true, fold, filter, List, [], ◌∷◌, ◌++◌, length, take, Some, None}
use Rattle.hb_frames.specs.RawFrame.{RawFrame}
use Rattle.hb_frames.specs.Numbers.{settings_kind, first_frame_size}
use Rattle.hb_frames.specs.Refusals.{is_ack}
use Rattle.hb_streams.specs.declared.role.Role.{Role}
use Rattle.hb_flow.specs.Windows.{first_size}
use Rattle.hb_outgoing.specs.Selected.{has_data, data_size}
use Rattle.hb_outgoing.specs.Written.{begun_by}
use Rattle.hb_conn.specs.Connection.{Connection}
use Rattle.hb_conn.specs.declared.machine.Core.{Core}
use Rattle.hb_conn.specs.declared.found.Found.{Found}
use Rattle.hb_history.specs.Points.{Point, point, wrote, RunsWith, frames_got}
use Rattle.hb_history.specs.History.{fresh, StandsFor}
use Rattle.hb_history.specs.Sending.{increments, size_with}

-- SETTINGS that set values, and SETTINGS with ACK, which acknowledge such (RFC 9113 section 6.5)
abbrev pub sets_values : RawFrame → Bool
sets_values f = f.kind == settings_kind && not (is_ack f)

abbrev pub acknowledges : RawFrame → Bool
acknowledges f = f.kind == settings_kind && is_ack f

-- The peer's SETTINGS that are acknowledged by frames of this end: of those that came as many, the first ones
-- (RFC 9113 section 6.5.3)
abbrev pub acknowledged : (front got : List RawFrame) → List RawFrame
acknowledged front got = take (length (filter acknowledges front)) (filter sets_values got)

-- the initial size of streams' windows that these leave, 65,535 before the peer set any
abbrev pub initial_size : (front got : List RawFrame) → ℕ
initial_size front got = fold size_with first_size (acknowledged front got)

-- A DATA frame fits, behind these frames of this end and while these came of the peer: it has at most 16,384 octets of
-- payload; with the DATA in front it is within what the peer granted on the connection, and on its stream, where the
-- SETTINGS count that are acknowledged in front of it
pub record FitsWindows (f : RawFrame) (front got : List RawFrame) : Type 0 where
  pub size : length f.payload ≤ first_frame_size
  pub connection : data_size None front + length f.payload ≤ first_size + increments 0 got
  pub stream : data_size (Some f.stream) front + length f.payload ≤ initial_size front got + increments f.stream got

-- of frames that begin one after another each DATA frame with payload fits
abbrev pub AllFit : (front got : List RawFrame) → List RawFrame → Type 0
AllFit front got [] = ⊤
AllFit front got (f ∷ fs) = (has_data f ≡ true → FitsWindows f front got) × AllFit (front ++ f ∷ []) got fs

-- after every history: however many octets are written next, the DATA that begins with them fits
abbrev pub DataFits : Type 0
DataFits = (role : Role) (points : List Point) (given : List Found) (came written : List ℕ) (c : Connection)
    → (stands : StandsFor role points given came written c) → (n : ℕ)
    → AllFit stands.begun (frames_got points) (begun_by n c.receiver.core.out)

-- At a write of a history, of whose frames these begin: the points in front of it lead to a connection, and with them the
-- front of these frames begins; with the write and the points behind it the others do. The DATA that begins with the write
-- fits
pub record WritesWithin (role : Role) (before after : List Point) (n : ℕ) (told : Found) (begun : List RawFrame) (last : Core)
    : Type 0 where
  pub core : Core
  pub front : List RawFrame
  pub others : List RawFrame
  pub leads : RunsWith (fresh role).receiver.core before front core
  pub goes_on : RunsWith core (point (wrote n) told ∷ after) others last
  pub all : begun ≡ front ++ others
  pub fit : AllFit front (frames_got before) (begun_by n core.out)

-- so it is at each place of every history
abbrev pub DataFitsEverywhere : Type 0
DataFitsEverywhere = (role : Role) (points : List Point) (given : List Found) (came written : List ℕ) (c : Connection)
    → (stands : StandsFor role points given came written c)
    → (before after : List Point) (n : ℕ) (told : Found) → points ≡ before ++ point (wrote n) told ∷ after
    → WritesWithin role before after n told stands.begun c.receiver.core
