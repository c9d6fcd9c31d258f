-- What each call adds to the history of a connection.
use Rattle.std.specs.Prelude.{⊤, ◌⊎◌, ◌≡◌, ℕ, ◌≤◌, if◌then◌else◌, List, [], ◌∷◌, ◌++◌, length, take}
use Rattle.std.specs.List.{flat_map}
use Rattle.hb_frames.specs.RawFrame.{RawFrame}
use Rattle.hb_frames.specs.Frames.{AreOctets}
use Rattle.hb_streams.specs.declared.role.Role.{Role}
use Rattle.hb_outgoing.specs.Waiting.{octets_of}
use Rattle.hb_conn.specs.Connection.{Connection, count_of, taken, with_core, Finds}
use Rattle.hb_conn.specs.Outcome.{is_silent}
use Rattle.hb_conn.specs.Owing as owing
use Rattle.hb_conn.specs.declared.machine.Core.{Core}
use Rattle.hb_conn.specs.declared.found.Found.{Found}
use Rattle.hb_conn.specs.declared.found.Found.TheVariants.{Silent}
use Rattle.hb_history.specs.Points.{Move, got, refused, misbegan, wrote, Point, point, After, frames_got}
use Rattle.hb_history.specs.History.{fresh, Leads, ends_in, StandsFor}

-- what was found, where anything was
abbrev pub in_list : Found → List Found
in_list f = if is_silent f then [] else f ∷ []

-- the peer's octets are looked at
abbrev pub IsLook : Move → Type 0
IsLook (got f) = ⊤
IsLook (refused r kind flags) = ⊤
IsLook misbegan = ⊤
IsLook _ = ⊥

-- one look after another, of which the last alone tells anything
abbrev pub AreLooks : List Point → Type 0
AreLooks [] = ⊤
AreLooks (p ∷ []) = IsLook p.move
AreLooks (p ∷ q ∷ ps) = IsLook p.move × (p.told ≡ Silent) × AreLooks (q ∷ ps)

-- this end acts: what isn't a look, and no write
abbrev pub IsAct : Move → Type 0
IsAct (got f) = ⊥
IsAct (refused r kind flags) = ⊥
IsAct misbegan = ⊥
IsAct (wrote n) = ⊥
IsAct _ = ⊤

-- a new connection stands for nothing yet
abbrev pub Begins : Type 0
Begins = (role : Role) → StandsFor role [] [] [] [] (fresh role)

-- octets of the peer are taken
abbrev pub TakeAdds : Type 0
TakeAdds = (role : Role) (points : List Point) (given : List Found) (came written piece : List ℕ) (c : Connection)
    → AreOctets piece → StandsFor role points given came written c
    → StandsFor role points given (came ++ take (count_of c piece) piece) written (taken c piece)

-- what a connection stands for once something was found: looks lead to it
pub record Looked (role : Role) (points : List Point) (given : List Found) (came written : List ℕ) (c d : Connection) (told : Found)
    : Type 0 where
  pub more : List Point
  pub looks : AreLooks more
  pub leads : Leads c more d
  pub stands : StandsFor role (points ++ more) (given ++ in_list told) came written d

-- what happened next is asked for
abbrev pub NextAdds : Type 0
NextAdds = (role : Role) (points : List Point) (given : List Found) (came written : List ℕ) (c d : Connection) (told : Found)
    → StandsFor role points given came written c → Finds c d told → Looked role points given came written c d told

-- this end acts
abbrev pub ActAdds : Type 0
ActAdds = (role : Role) (points : List Point) (given : List Found) (came written : List ℕ) (c : Connection) (move : Move)
    (core : Core) (told : Found) → IsAct move → After c.receiver.core move core told
    → StandsFor role points given came written c
    → StandsFor role (points ++ point move told ∷ []) given came written (with_core c core)

-- octets of the output are written
abbrev pub WriteAdds : Type 0
WriteAdds = (role : Role) (points : List Point) (given : List Found) (came written : List ℕ) (c : Connection) (n : ℕ)
    → n ≤ length (octets_of c.receiver.core.out) → StandsFor role points given came written c
    → StandsFor role (points ++ point (wrote n) Silent ∷ []) given came (written ++ take n (octets_of c.receiver.core.out))
    (with_core c (owing.wrote c.receiver.core n))

-- a call: octets are offered, the next happening is asked for, this end acts, or octets were written
pub data Call : Type 0 where
  takes : List ℕ → Call
  asks : Found → Call
  acts : Move → Call
  writes : ℕ → Call

-- what it makes of a connection
abbrev pub Makes : Connection → Call → Connection → Type 0
Makes c (takes piece) d = AreOctets piece × (d ≡ taken c piece)
Makes c (asks told) d = Finds c d told
Makes c (acts move) d = IsAct move × After c.receiver.core move d.receiver.core Silent × (d ≡ with_core c d.receiver.core)
Makes c (writes n) d =
    (n ≤ length (octets_of c.receiver.core.out)) × (d ≡ with_core c (owing.wrote c.receiver.core n))

-- what a call tells, the octets that it takes of the peer, and those that it writes
abbrev pub tells : Call → List Found
tells (asks told) = in_list told
tells _ = []

abbrev pub takes_in : Connection → Call → List ℕ
takes_in c (takes piece) = take (count_of c piece) piece
takes_in c _ = []

abbrev pub writes_out : Connection → Call → List ℕ
writes_out c (writes n) = take n (octets_of c.receiver.core.out)
writes_out c _ = []

-- one call after another: the octets that they take, those that they write, and what they make of a connection
abbrev pub MakesAll : Connection → List Call → List ℕ → List ℕ → Connection → Type 0
MakesAll c [] came written d = (d ≡ c) × (came ≡ []) × (written ≡ [])
MakesAll c (call ∷ calls) came written d =
    (mid : Connection) × Makes c call mid
    × (later : List ℕ) × (came ≡ takes_in c call ++ later) × (behind : List ℕ) × (written ≡ writes_out c call ++ behind)
    × MakesAll mid calls later behind d

-- after any calls a connection stands for a history, of which its callers were told all but an end that is still to be told
abbrev pub CallsStand : Type 0
CallsStand = (role : Role) (calls : List Call) (came written : List ℕ) (c : Connection)
    → MakesAll (fresh role) calls came written c
    → (points : List Point) × StandsFor role points (flat_map tells calls) came written c

-- Two connections with the same points told the same, in whatever pieces octets came and whenever their callers asked.
abbrev pub AnyCut : Type 0
AnyCut = (role : Role) (points : List Point) (given others : List Found) (came others_came written others_written : List ℕ)
    (c d : Connection) → StandsFor role points given came written c → StandsFor role points others others_came others_written d
    → given ++ ends_in c.ended ≡ others ++ ends_in d.ended

-- the first frames are the same
abbrev pub IsFront : List RawFrame → List RawFrame → Type 0
IsFront fs gs = (more : List RawFrame) × (gs ≡ fs ++ more)

-- Where a connection took the octets of another one of its role, and maybe more, both looked at the same first frames, in
-- whatever pieces octets came and whenever their callers asked; one may have looked at more of them
abbrev pub SameFrames : Type 0
SameFrames = (role : Role) (points others : List Point) (given told : List Found) (came more written out : List ℕ) (c d : Connection)
    → StandsFor role points given came written c → StandsFor role others told (came ++ more) out d
    → IsFront (frames_got points) (frames_got others) ⊎ IsFront (frames_got others) (frames_got points)
