-- How often calls on links failed, as a table of sockets by their numbers keeps it.
use Rattle.std.specs.Prelude.{◌≡◌, ◌≢◌, ℕ, nat_eq, Bool, false, Option, Some, None}
use Rattle.std.specs.HashMap.{get, HashMap}
use Rattle.hb_mio.specs.declared.mio_world.MioWorld.{MioWorld}
use Rattle.hb_mio.specs.declared.socket.Socket.{Socket}
use Rattle.hb_world.specs.Seen.{Seen}

-- a link that doesn't live has no count
abbrev pub faults_of : Option Socket → ℕ
faults_of None = 0
faults_of (Some socket) = socket.faults

-- an event said that the connection failed, and no look told so
abbrev pub is_broken : Option Socket → Bool
is_broken None = false
is_broken (Some socket) = socket.broken

module _ {S : Type 0} where
  abbrev pub broken_at : HashMap ℕ Socket S → ℕ → Bool
  broken_at sockets link = is_broken (get nat_eq sockets link)

  -- how often a finish, read, write or look of this link failed
  abbrev pub faults_at : HashMap ℕ Socket S → ℕ → ℕ
  faults_at sockets link = faults_of (get nat_eq sockets link)

  -- no count changed
  abbrev pub SameFaults : HashMap ℕ Socket S → HashMap ℕ Socket S → Type 0
  SameFaults before after = (l : ℕ) → faults_at after l ≡ faults_at before l

  -- no count changed but this link's
  abbrev pub OthersSame : ℕ → HashMap ℕ Socket S → HashMap ℕ Socket S → Type 0
  OthersSame link before after = (l : ℕ) → l ≢ link → faults_at after l ≡ faults_at before l

-- the real sockets follow no script, and count what failed
abbrev pub seen_of : {R L Stream Listener : Type 0} → MioWorld R L Stream Listener → Seen
seen_of w = record {
  script = None;
  faults = w.faults;
  birth_faults = w.birth_faults;
  link_faults = faults_at w.sockets.by_number;
}
