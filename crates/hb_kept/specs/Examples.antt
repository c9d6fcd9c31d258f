-- Connections that aren't kept, octets that have no room, acts that don't leave a stream shut, and sides that didn't end.
use Rattle.std.specs.Prelude.{◌≡◌, ℕ, ◌<◌, true, false, List, [], ◌∷◌, length}
use Rattle.hb_streams.specs.declared.role.Role.{Role}
use Rattle.hb_conn.specs.Connection.{Connection}
use Rattle.hb_conn.specs.Observed.{output, room, is_over, octets_held, count_put, sides}
use Rattle.hb_history.specs.History.{fresh}
use Rattle.hb_kept.specs.Kept.{IsKept, HasRoomFor}
use Rattle.hb_kept.specs.Shut.{NothingGoes, StaysShut}
use Rattle.hb_kept.specs.Sides.{neither, Becomes}

-- behind a connection error a connection isn't kept, nor where it holds what is no octet
abbrev pub FaultedIsRefused : Type 0
FaultedIsRefused = (c : Connection) → is_over c ≡ true → IsKept c → ⊥

abbrev pub NoOctetIsRefused : Type 0
NoOctetIsRefused = (c : Connection) → octets_held c ≡ 256 ∷ [] → IsKept c → ⊥

-- where 640 octets have room, 64 have room for all that they may need, and 65 don't
abbrev pub FewHaveRoom : Type 0
FewHaveRoom = (c : Connection) → room c ≡ 640 → HasRoomFor c 64

abbrev pub MoreIsRefused : Type 0
MoreIsRefused = (c : Connection) → room c ≡ 640 → HasRoomFor c 65 → ⊥

-- on a new connection nothing goes, since its opening waits
abbrev pub NewIsShut : Type 0
NewIsShut = (role : Role) → NothingGoes (fresh role)

-- what lets DATA go behind octets that waited, as their write may, doesn't leave its stream shut
abbrev pub WriteIsRefused : Type 0
WriteIsRefused = (c d : Connection) (stream : ℕ) (bytes : List ℕ) → 0 < length (output c) → 0 < count_put d stream bytes
    → StaysShut stream c d → ⊥

-- a stream whose peer's side is open didn't end on both sides
abbrev pub OpenIsRefused : Type 0
OpenIsRefused = (c d : Connection) (stream : ℕ) → sides d stream ≡ record { own = false; peer = true } → Becomes stream neither c d → ⊥
