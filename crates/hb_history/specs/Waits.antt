-- Where DATA waits to be written.
use Rattle.std.specs.Prelude.{⊤, ◌≡◌, ℕ, true, false, List, [], ◌∷◌}
use Rattle.std.specs.List.{AllByRecursion}
use Rattle.hb_frames.specs.RawFrame.{RawFrame}
use Rattle.hb_streams.specs.declared.role.Role.{Role}
use Rattle.hb_outgoing.specs.Waiting.{Waiting}
use Rattle.hb_outgoing.specs.Selected.{has_data}
use Rattle.hb_conn.specs.Connection.{Connection}
use Rattle.hb_conn.specs.Observed.{outgoing}
use Rattle.hb_conn.specs.declared.found.Found.{Found}
use Rattle.hb_history.specs.Points.{Point}
use Rattle.hb_history.specs.History.{StandsFor}

-- of the frames that wait only the first may be DATA with payload, and then nothing of a frame before it is left
abbrev pub IsFirstBy : List ℕ → List RawFrame → Type 0
IsFirstBy rest [] = ⊤
IsFirstBy rest (f ∷ fs) = (has_data f ≡ true → rest ≡ []) × AllByRecursion (λ g. has_data g ≡ false) fs

abbrev pub IsFirst : Waiting → Type 0
IsFirst w = IsFirstBy w.rest w.queue

-- so it is after every history
abbrev pub DataStandsFirst : Type 0
DataStandsFirst = (role : Role) (points : List Point) (given : List Found) (came written : List ℕ) (c : Connection)
    → StandsFor role points given came written c → IsFirst (outgoing c)
