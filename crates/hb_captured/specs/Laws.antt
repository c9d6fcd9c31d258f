-- What every run of a captured link obeys.
use Rattle.std.specs.Prelude.{ℕ, ◌≤◌, List, length}
use Rattle.hb_held.specs.Held.{Resources}
use Rattle.hb_captured.specs.Access.{AccessLaw}
use Rattle.hb_captured.specs.Captured.{Captured, ring_up, ring_down}
use Rattle.hb_captured.specs.Ends.{EndLaw}
use Rattle.hb_captured.specs.Notes.{NoteLaw}
use Rattle.hb_captured.specs.Part.{Part}
use Rattle.hb_captured.specs.Relay.{RelayLaw}
use Rattle.hb_captured.specs.Runs.{Local, StandsFor}
use Rattle.hb_captured.specs.Settled.{SettledLaw}
use Rattle.hb_captured.specs.Verdicts.{VerdictLaw}

-- what waits on each way fits its ring
pub record FitsRings (x : Captured) : Type 0 where
  pub up : length x.ways.up.held ≤ ring_up x.door
  pub down : length x.ways.down.held ≤ ring_down x.door

abbrev pub RunsRelay : Type 0
RunsRelay = (l : ℕ) (start : Resources) (a : Local) (parts : List Part) → StandsFor l start a parts → RelayLaw start parts

abbrev pub RunsAdmit : Type 0
RunsAdmit = (l : ℕ) (start : Resources) (a : Local) (parts : List Part) → StandsFor l start a parts → AccessLaw start parts

abbrev pub RunsEnd : Type 0
RunsEnd = (l : ℕ) (start : Resources) (a : Local) (parts : List Part) → StandsFor l start a parts → EndLaw l start parts

abbrev pub RunsAnswer : Type 0
RunsAnswer = (l : ℕ) (start : Resources) (a : Local) (parts : List Part) → StandsFor l start a parts → VerdictLaw l start parts

abbrev pub RunsNote : Type 0
RunsNote = (l : ℕ) (start : Resources) (a : Local) (parts : List Part) → StandsFor l start a parts → NoteLaw start l parts

abbrev pub RunsSettle : Type 0
RunsSettle = (l : ℕ) (start : Resources) (a : Local) (parts : List Part) → StandsFor l start a parts → SettledLaw start parts

abbrev pub RunsFitRings : Type 0
RunsFitRings = (l : ℕ) (start : Resources) (a : Local) (parts : List Part) → StandsFor l start a parts → FitsRings a.link
