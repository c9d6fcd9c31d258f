-- How much of a captured link and its upstream may be read and written, when nothing more happens by itself, and which calls are due.
use Rattle.std.specs.Prelude.{⊤, ◌≡◌, ℕ, ◌-◌, ◌&&◌, if◌then◌else◌, true, false, List, [], length}
use Rattle.hb_front.specs.Room.{longest_front}
use Rattle.hb_front.specs.Reading.{IsAnswer, More}
use Rattle.hb_tunnel.specs.Way.{Way}
use Rattle.hb_captured.specs.Captured.{Captured, Stage, arriving, fronting, due, opening, accepting, live, failed, ended, over, ring_up, ring_down, is_raw, may_shut_up, may_shut, is_through}

-- HOW MUCH MAY BE READ AND WRITTEN

-- so much as the ring of a way has room for, until the way has ended
abbrev pub room : ℕ → Way → ℕ
room size w = if w.has_ended then 0 else size - length w.held

-- of the link as much as the longest header has, and then what fits the way up, also before the upstream is open
abbrev pub wants_by : Stage → Captured → ℕ
wants_by fronting x = longest_front - length x.front
wants_by opening x = room (ring_up x.door) x.ways.up
wants_by live x = room (ring_up x.door) x.ways.up
wants_by _ x = 0

abbrev pub wants : Captured → ℕ
wants x = wants_by x.stage x

-- of the upstream what fits the way down
abbrev pub up_wants_by : Stage → Captured → ℕ
up_wants_by live x = room (ring_down x.door) x.ways.down
up_wants_by _ x = 0

abbrev pub up_wants : Captured → ℕ
up_wants x = up_wants_by x.stage x

-- what waits to be written to the link, and to the upstream
abbrev pub output_by : Stage → List ℕ → List ℕ
output_by live held = held
output_by _ held = []

abbrev pub output : Captured → List ℕ
output x = output_by x.stage x.ways.down.held

abbrev pub up_output : Captured → List ℕ
up_output x = output_by x.stage x.ways.up.held

-- WHEN NOTHING MORE HAPPENS BY ITSELF

abbrev pub IsCalmBy : Stage → Captured → Type 0
IsCalmBy arriving x = ⊥
IsCalmBy fronting x = IsAnswer x.front More
IsCalmBy accepting x = ⊥
IsCalmBy live x = (is_raw x && is_through x) ≡ false
IsCalmBy (failed cause) x = ⊥
IsCalmBy (ended cause) x = ⊥
IsCalmBy (over cause) x = is_raw x ≡ true
IsCalmBy stage x = ⊤

abbrev pub IsCalm : Captured → Type 0
IsCalm x = IsCalmBy x.stage x

-- CALLS THAT ARE DUE: the dial, unless a stream may be asked for; a shut of either link; the close of either

abbrev pub IsIdleBy : Stage → Captured → Type 0
IsIdleBy due x = ⊥
IsIdleBy live x = (may_shut_up x ≡ false) × (may_shut x ≡ false)
IsIdleBy (over cause) x = (x.closed ≡ true) × (x.up ≡ 0)
IsIdleBy stage x = ⊤

-- none is due, and nothing more happens by itself
abbrev pub IsQuiet : Captured → Type 0
IsQuiet x = IsCalm x × IsIdleBy x.stage x
