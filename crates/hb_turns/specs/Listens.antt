-- The listens at the doors that are given, which begin a run.
use Rattle.std.specs.Prelude.{◌≡◌, Bool, true, false, List, [], ◌∷◌, ◌++◌, map, Option, Some, None}
use Rattle.std.specs.List.{list_any}
use Rattle.hb_base.specs.declared.door.Door.{Door}
use Rattle.hb_base.specs.declared.door.Door.TheVariants.{Inbound, Outbound, Plain}
use Rattle.hb_base.specs.declared.target.Target.{Target}
use Rattle.hb_world.specs.declared.entry.Entry.{Entry}
use Rattle.hb_world.specs.declared.entry.Entry.TheVariants as e
use Rattle.hb_world.specs.declared.entry.Way.TheVariants as way
use Rattle.hb_world.specs.ScriptAnswers.{is_listen}
use Rattle.hb_turns.specs.declared.words.Doors.{Doors}
use Rattle.hb_turns.specs.declared.served.ServeEnd.{ServeEnd}
use Rattle.hb_turns.specs.declared.served.ServeEnd.TheVariants as ends

-- a door, and where it listens
abbrev pub DoorAt : Type 0
DoorAt = Door × Target

abbrev pub given_at : Door → Option Target → List DoorAt
given_at door None = []
given_at door (Some at) = (door, at) ∷ []

-- the doors that are given, in order
abbrev pub given : Doors → List DoorAt
given doors = given_at Inbound doors.inbound ++ given_at Outbound doors.outbound ++ given_at Plain doors.plain

-- a listen, and whether the door listens from then on
abbrev pub listen_at : Bool → DoorAt → Entry
listen_at listening d = e.Balked (way.Listen d.0 d.1 listening)

-- no listen
abbrev pub HasNoListen : List Entry → Type 0
HasNoListen trace = list_any is_listen trace ≡ false

-- each of these doors listens; the listens stand in front, in order, and no other stands behind
pub record Listened (doors : List DoorAt) (trace : List Entry) : Type 0 where
  pub rest : List Entry
  pub trace_is : trace ≡ map (listen_at true) doors ++ rest
  pub no_more : HasNoListen rest

-- What stands behind the doors that listen, where these are left: the listen that failed, with the world's fault; or, where memory
-- lacked, no listen
abbrev pub LeavesDoors : ServeEnd → List DoorAt → List Entry → Type 0
LeavesDoors end [] rest = HasNoListen rest
LeavesDoors ends.WorldFault (d ∷ left) rest = (more : List Entry) × (rest ≡ listen_at false d ∷ more) × HasNoListen more
LeavesDoors ends.NoMemory (d ∷ left) rest = HasNoListen rest
LeavesDoors _ (d ∷ left) rest = ⊥

-- A run that ended so begins with a listen at each of these doors, in order, up to the first that failed
pub record BeginsWith (doors : List DoorAt) (end : ServeEnd) (trace : List Entry) : Type 0 where
  pub made : List DoorAt
  pub left : List DoorAt
  pub rest : List Entry
  pub doors_are : doors ≡ made ++ left
  pub trace_is : trace ≡ map (listen_at true) made ++ rest
  pub leaves : LeavesDoors end left rest
