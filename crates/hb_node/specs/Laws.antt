-- What holds of each machine that a node shows.
use Rattle.std.specs.Prelude.{◌≡◌, ◌⊎◌, ◌≤◌, ◌<◌, ℕ, false, List, [], None}
use Rattle.hb_conn.specs.Observed.{output, room, owed, own_side_open, sendable}
use Rattle.hb_world.specs.declared.entry.Entry.TheVariants as e
use Rattle.hb_world.specs.declared.entry.ReadyItem.{ReadyItem}
use Rattle.hb_world.specs.declared.entry.Way.{Way}
use Rattle.hb_world.specs.declared.entry.Woken.{Woken}
use Rattle.hb_model.specs.Discovery.{live, stream}
use Rattle.hb_model.specs.Machine.{Machine, entered}
use Rattle.hb_model.specs.Runs.{IsQuiet, wants}
use Rattle.hb_node.specs.State.{State, Shows, due_of}

-- where no call of the world is due and the run goes on, all is quiet: what came is looked at, and what may go is put
abbrev pub RestsWhereNoneIsDue : Type 0
RestsWhereNoneIsDue = (s : State) (m : Machine) → Shows s m → due_of s ≡ None → s.over ≡ false → IsQuiet m

-- a call of the world that moved nothing, and a wait, need not be told: the node shows the machine behind them too
abbrev pub BalksPass : Type 0
BalksPass = (s : State) (m : Machine) (way : Way) → Shows s m → Shows s (entered s.config (e.Balked way) m)

abbrev pub WaitsPass : Type 0
WaitsPass = (s : State) (m : Machine) (ready : List ReadyItem) (woken : Woken) → Shows s m
    → Shows s (entered s.config (e.Wait ready woken) m)

-- of a link that lives bytes are wanted wherever its output has room for 768 octets more
abbrev pub ReadsWhereRoom : Type 0
ReadsWhereRoom = (s : State) (m : Machine) (l : ℕ) → Shows s m → (m.links l).phase ≡ live
    → 768 ≤ room (m.links l).conn → 0 < wants m l

-- Where nothing waits to be written on a link that lives, no frame is owed; and nothing waits to be put, or its stream lets
-- none go: this end's side of it is closed, or a window or the frame size is used up
abbrev pub AllIsPut : Type 0
AllIsPut = (s : State) (m : Machine) (l : ℕ) → Shows s m → (m.links l).phase ≡ live
    → output (m.links l).conn ≡ []
    → (owed (m.links l).conn ≡ [])
    × (((m.links l).waiting ≡ [])
    ⊎ ((own_side_open (m.links l).conn stream ≡ false)
    ⊎ (sendable (m.links l).conn stream ≡ 0)))
