-- The awake law: no call is made on a link for a way that sleeps, and none at a door that no wait named.
use Rattle.std.specs.Prelude.{⊤, ◌≡◌, ◌⊎◌, ℕ, Bool, true, false, List}
use Rattle.hb_world.specs.declared.entry.Entry.{Entry}
use Rattle.hb_world.specs.declared.entry.Entry.TheVariants as e
use Rattle.hb_world.specs.declared.entry.Way.TheVariants as way
use Rattle.hb_world.specs.Trace.{AtEach}
use Rattle.hb_ready.specs.Sight.{asleep, asked, has_ended, is_open}

-- a look may be made: the link's peer sends no more, and a wait named the link since, and since the last look
abbrev pub LooksAwake : ℕ → List Entry → Type 0
LooksAwake l before = (has_ended l before ≡ true) × (asleep (way.Look l) before ≡ false)

-- a call failed: it was a read, a write or a look of an open link, or a finish, and that way was awake
abbrev pub BreaksAwake : Bool → ℕ → List Entry → Type 0
BreaksAwake true l before = (asleep (way.Read l) before ≡ false) ⊎ ((asleep (way.Write l) before ≡ false) ⊎ LooksAwake l before)
BreaksAwake false l before = asleep (way.Finish l) before ≡ false

-- behind these entries the call may be made: its way is awake, or a wait named the door
abbrev pub IsAwake : List Entry → Entry → Type 0
IsAwake before (e.Accepted l door) = asked door before ≡ true
IsAwake before (e.Balked (way.Accept door)) = asked door before ≡ true
IsAwake before (e.Opened l) = asleep (way.Finish l) before ≡ false
IsAwake before (e.Balked (way.Finish l)) = asleep (way.Finish l) before ≡ false
IsAwake before (e.Came l bytes) = asleep (way.Read l) before ≡ false
IsAwake before (e.Ended l) = asleep (way.Read l) before ≡ false
IsAwake before (e.Balked (way.Read l)) = asleep (way.Read l) before ≡ false
IsAwake before (e.Went l bytes) = asleep (way.Write l) before ≡ false
IsAwake before (e.Balked (way.Write l)) = asleep (way.Write l) before ≡ false
IsAwake before (e.Balked (way.Look l)) = LooksAwake l before
IsAwake before (e.Broke l) = BreaksAwake (is_open l before) l before
IsAwake before _ = ⊤

abbrev pub AwakeLaw : List Entry → Type 0
AwakeLaw trace = AtEach IsAwake trace
