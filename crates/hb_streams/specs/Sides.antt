use Rattle.std.specs.Prelude.{Bool, true, false, ◌&&◌, if◌then◌else◌, IsTrue, ◌||◌}
use Rattle.hb_streams.specs.declared.sides.Sides.{Sides}
use Rattle.hb_streams.specs.declared.state.State.{State}
use Rattle.hb_streams.specs.declared.state.State.TheVariants.{Open, HalfClosedLocal, HalfClosedRemote, Closed, Reset}

abbrev pub both_open : Sides
both_open = record { own = true; peer = true }

-- a side that has sent END_STREAM is closed; this end's is the local one, the peer's the remote one (RFC 9113
-- section 5.1)
abbrev pub state_with : Sides → State
state_with sides =
    if sides.own && sides.peer then Open
    else if sides.peer then HalfClosedLocal
    else if sides.own then HalfClosedRemote
    else Closed

-- which sides of a stream in this state may still send
abbrev pub sides_of : State → Sides
sides_of Open = both_open
sides_of HalfClosedLocal = record { own = false; peer = true }
sides_of HalfClosedRemote = record { own = true; peer = false }
sides_of _ = record { own = false; peer = false }

-- open or half-closed
abbrev pub IsActive : State → Type 0
IsActive state = IsTrue ((sides_of state).own || (sides_of state).peer)

abbrev pub is_closed : State → Bool
is_closed Closed = true
is_closed Reset = true
is_closed _ = false
