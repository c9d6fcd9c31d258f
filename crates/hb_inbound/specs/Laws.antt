-- What every run of an inbound link obeys.
use Rattle.std.specs.Prelude.{ℕ, List}
use Rattle.hb_held.specs.Held.{Resources}
use Rattle.hb_inbound.specs.Access.{AccessLaw}
use Rattle.hb_inbound.specs.Closes.{CloseLaw}
use Rattle.hb_inbound.specs.Connections.{ConnectionLaw, WindowLaw}
use Rattle.hb_inbound.specs.Dials.{DialLaw}
use Rattle.hb_inbound.specs.Ends.{EndLaw}
use Rattle.hb_inbound.specs.Notes.{NoteLaw}
use Rattle.hb_inbound.specs.Part.{Part}
use Rattle.hb_inbound.specs.Relay.{RelayUpLaw, RelayDownLaw}
use Rattle.hb_inbound.specs.Rings.{FitsRings, RingLaw}
use Rattle.hb_inbound.specs.Runs.{Local, StandsFor}
use Rattle.hb_inbound.specs.Verdicts.{VerdictLaw}

-- the link's connection is one history
abbrev pub RunsObeyConnections : Type 0
RunsObeyConnections = (l : ℕ) (start : Resources) (a : Local) (parts : List Part) → StandsFor l start a parts → ConnectionLaw parts

-- DATA fits both windows where it begins
abbrev pub RunsObeyWindows : Type 0
RunsObeyWindows = (l : ℕ) (start : Resources) (a : Local) (parts : List Part) → StandsFor l start a parts → WindowLaw parts

-- no byte goes to an upstream and no DATA frame begins unless what is held then admits the tunnel's peer
abbrev pub RunsAdmit : Type 0
RunsAdmit = (l : ℕ) (start : Resources) (a : Local) (parts : List Part) → StandsFor l start a parts → AccessLaw start parts

-- each tunnel ends for the first cause that applies, and nothing is done for it afterwards but its close
abbrev pub RunsEnd : Type 0
RunsEnd = (l : ℕ) (start : Resources) (a : Local) (parts : List Part) → StandsFor l start a parts → EndLaw start parts

-- each dial goes to the target that was asked for, and none is left out
abbrev pub RunsDial : Type 0
RunsDial = (l : ℕ) (start : Resources) (a : Local) (parts : List Part) → StandsFor l start a parts → DialLaw start parts

-- what is written to an upstream is a front of the DATA that came on its stream
abbrev pub RunsRelayUp : Type 0
RunsRelayUp = (l : ℕ) (start : Resources) (a : Local) (parts : List Part) → StandsFor l start a parts → RelayUpLaw parts

-- the DATA that goes on a stream is a front of what came from its upstream
abbrev pub RunsRelayDown : Type 0
RunsRelayDown = (l : ℕ) (start : Resources) (a : Local) (parts : List Part) → StandsFor l start a parts → RelayDownLaw parts

-- what waits on each way of a tunnel fits its ring, and of what came on a stream all is written but for a window at most
abbrev pub RunsFitRings : Type 0
RunsFitRings = (l : ℕ) (start : Resources) (a : Local) (parts : List Part) → StandsFor l start a parts
    → ((s : ℕ) → FitsRings (a.link.tunnels s)) × RingLaw parts

-- each request gets the first answer that applies, and each answer is put at its point
abbrev pub RunsAnswer : Type 0
RunsAnswer = (l : ℕ) (start : Resources) (a : Local) (parts : List Part) → StandsFor l start a parts → VerdictLaw start parts

-- the link is closed for the first cause that ended it, behind which nothing more is read, looked at or put
abbrev pub RunsClose : Type 0
RunsClose = (l : ℕ) (start : Resources) (a : Local) (parts : List Part) → StandsFor l start a parts → CloseLaw parts

-- each answer and each end of a live tunnel has its note
abbrev pub RunsNote : Type 0
RunsNote = (l : ℕ) (start : Resources) (a : Local) (parts : List Part) → StandsFor l start a parts → NoteLaw start l parts
