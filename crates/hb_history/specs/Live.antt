-- Which streams have windows, and records of what is owed.
use Rattle.std.specs.Prelude.{◌≡◌, ℕ, true, false, List, is_some}
use Rattle.std.specs.FinMap.{get}
use Rattle.hb_streams.specs.Laws.{StandsFor as StreamsStandFor}
use Rattle.hb_streams.specs.Moves.{Move as StreamMove}
use Rattle.hb_streams.specs.declared.role.Role.{Role}
use Rattle.hb_flow.specs.Flows.{fresh as fresh_flows}
use Rattle.hb_flow.specs.Moves.{Move as FlowMove, after_all, AllMay}
use Rattle.hb_owed.specs.Moves.{is_open}
use Rattle.hb_conn.specs.Connection.{Connection}
use Rattle.hb_conn.specs.declared.machine.Core.{Core}
use Rattle.hb_conn.specs.declared.found.Found.{Found}
use Rattle.hb_history.specs.Points.{Point}
use Rattle.hb_history.specs.History.{StandsFor}

-- a stream has windows exactly where it is open or half-closed, and then it has a record of what is owed, which stays
pub record AreLive (c : Core) : Type 0 where
  pub windows : (n : ℕ) → is_some (get c.flow.streams n) ≡ is_some (get c.streams.active n)
  pub records : (n : ℕ) → is_some (get c.streams.active n) ≡ true → is_open (get c.owed n) ≡ true

-- so it is after every history, unless a connection error was told
abbrev pub LiveStreams : Type 0
LiveStreams = (role : Role) (points : List Point) (given : List Found) (came written : List ℕ) (c : Connection)
    → StandsFor role points given came written c → c.receiver.core.over ≡ false → AreLive c.receiver.core

-- the streams of a connection are in the states that moves of streams make
abbrev pub StreamsMove : Type 0
StreamsMove = (role : Role) (points : List Point) (given : List Found) (came written : List ℕ) (c : Connection)
    → StandsFor role points given came written c
    → (moves : List StreamMove) × StreamsStandFor role moves c.receiver.core.streams

-- its windows are what moves of windows make, each as it may be, unless a connection error was told
abbrev pub WindowsMove : Type 0
WindowsMove = (role : Role) (points : List Point) (given : List Found) (came written : List ℕ) (c : Connection)
    → StandsFor role points given came written c → c.receiver.core.over ≡ false
    → (moves : List FlowMove) × (c.receiver.core.flow ≡ after_all moves) × AllMay fresh_flows moves
