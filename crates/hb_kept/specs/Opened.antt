-- Behind a stream that a client opened no DATA of it waits, since numbers rise (RFC 9113 section 5.1.1).
use Rattle.std.specs.Prelude.{⊤, ◌≡◌, ℕ, ◌≤◌, Bool, true, List}
use Rattle.std.specs.List.{AllByRecursion}
use Rattle.hb_frames.specs.RawFrame.{RawFrame}
use Rattle.hb_streams.specs.declared.role.Role.{Role}
use Rattle.hb_streams.specs.declared.role.Role.TheVariants.{Server}
use Rattle.hb_outgoing.specs.Waiting.{Waiting}
use Rattle.hb_outgoing.specs.Selected.{has_data}
use Rattle.hb_conn.specs.Connection.{Connection, Finds}
use Rattle.hb_conn.specs.Observed.{outgoing, streams}
use Rattle.hb_conn.specs.declared.found.Found.{Found}
use Rattle.hb_conn.specs.declared.found.Found.TheVariants as found
use Rattle.hb_history.specs.Points.{Point}
use Rattle.hb_history.specs.History.{StandsFor}
use Rattle.hb_history.specs.TakenBack.{NoneWaitsOn, waiting_on_three}

-- the DATA with payload of these frames is of streams up to this one
abbrev pub AreUpTo : ℕ → List RawFrame → Type 0
AreUpTo highest frames = AllByRecursion (λ f. has_data f ≡ true → f.stream ≤ highest) frames

-- after every history DATA waits only on streams that were used
abbrev pub WaitsOnUsed : Type 0
WaitsOnUsed = (role : Role) (points : List Point) (given : List Found) (came written : List ℕ) (c : Connection)
    → StandsFor role points given came written c → AreUpTo (streams c).highest (outgoing c).queue

-- none waits on a stream that is told to be opened
abbrev pub IsUnused : Found → Waiting → Type 0
IsUnused (found.Opened stream end) w = NoneWaitsOn stream w
IsUnused _ w = ⊤

-- so it is of every stream that a server is told of
abbrev pub OpenedIsUnused : Type 0
OpenedIsUnused = (points : List Point) (given : List Found) (came written : List ℕ) (c d : Connection) (told : Found)
    → StandsFor Server points given came written c → Finds c d told → IsUnused told (outgoing d)

-- where DATA waits on stream 3, that stream isn't one; another one is
abbrev pub UsedIsRefused : Type 0
UsedIsRefused = (end : Bool) → IsUnused (found.Opened 3 end) waiting_on_three → ⊥

abbrev pub OtherMayOpen : Type 0
OtherMayOpen = (end : Bool) → IsUnused (found.Opened 5 end) waiting_on_three
