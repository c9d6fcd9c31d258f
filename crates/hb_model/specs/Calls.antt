-- Places of a run, and which calls a link gets.
use Rattle.std.specs.Prelude.{⊤, ◌≡◌, ℕ, ◌==◌, Bool, true, false, List, ◌∷◌, ◌++◌}
use Rattle.std.specs.List.{list_any}
use Rattle.hb_base.specs.declared.door.Why.TheVariants as whys
use Rattle.hb_world.specs.Trace as world
use Rattle.hb_world.specs.Trace.{is_birth_of, is_shut_of, lives, listens}
use Rattle.hb_world.specs.declared.entry.Entry.{Entry}
use Rattle.hb_world.specs.declared.entry.Entry.TheVariants as e
use Rattle.hb_world.specs.declared.entry.Way.{Way}
use Rattle.hb_world.specs.declared.entry.Way.TheVariants as way
use Rattle.hb_model.specs.Point.{Point, entry}

-- at each place of a run: what holds of the points before it and of the point there
abbrev pub AtEach : (List Point → Point → Type 0) → List Point → Type 0
AtEach P points = (before : List Point) (p : Point) (after : List Point) → points ≡ before ++ p ∷ after → P before p

-- at each entry of its trace
abbrev pub AtEntry : (List Point → Entry → Type 0) → List Point → Type 0
AtEntry P points = (before : List Point) (e : Entry) (after : List Point) → points ≡ before ++ entry e ∷ after → P before e

-- at each place of a run: what holds of the points before it, and of all
abbrev pub AtFronts : (List Point → Type 0) → List Point → Type 0
AtFronts P points = (before after : List Point) → points ≡ before ++ after → P before

-- what an entry says of a link
abbrev pub is_control_of : ℕ → Entry → Bool
is_control_of l (e.Dialled k to whys.Discovery) = k == l
is_control_of l _ = false

abbrev pub is_dialled_of : ℕ → Entry → Bool
is_dialled_of l (e.Dialled k to why) = k == l
is_dialled_of l _ = false

abbrev pub is_opened_of : ℕ → Entry → Bool
is_opened_of l (e.Opened k) = k == l
is_opened_of l _ = false

abbrev pub is_ended_of : ℕ → Entry → Bool
is_ended_of l (e.Ended k) = k == l
is_ended_of l _ = false

abbrev pub is_broke_of : ℕ → Entry → Bool
is_broke_of l (e.Broke k) = k == l
is_broke_of l _ = false

abbrev pub is_went_of : ℕ → Entry → Bool
is_went_of l (e.Went k bytes) = k == l
is_went_of l _ = false

-- a trace has an entry that says so
abbrev pub Was : (Entry → Bool) → List Entry → Type 0
Was is trace = list_any is trace ≡ true

abbrev pub WasNot : (Entry → Bool) → List Entry → Type 0
WasNot is trace = list_any is trace ≡ false

-- the link is one to the control plane, as its birth tells
abbrev pub IsControl : ℕ → List Entry → Type 0
IsControl l trace = Was (is_control_of l) trace

-- a link lives, and no call on it failed
abbrev pub IsSound : ℕ → List Entry → Type 0
IsSound l trace = (lives l trace ≡ true) × WasNot (is_broke_of l) trace

-- and, where it was dialled, a finish told that it is open
abbrev pub IsUsable : ℕ → List Entry → Type 0
IsUsable l trace = IsSound l trace × (Was (is_dialled_of l) trace → Was (is_opened_of l) trace)

-- a finish may be made: the link was dialled, and none told that it is open
abbrev pub MayFinish : ℕ → List Entry → Type 0
MayFinish l trace = IsSound l trace × Was (is_dialled_of l) trace × WasNot (is_opened_of l) trace

-- a read may be made: the link is open, and its peer hasn't ended
abbrev pub MayRead : ℕ → List Entry → Type 0
MayRead l trace = IsUsable l trace × WasNot (is_ended_of l) trace

-- a write may be made: the link is open, and this end hasn't ended
abbrev pub MayWrite : ℕ → List Entry → Type 0
MayWrite l trace = IsUsable l trace × WasNot (is_shut_of l) trace

-- a look may be made: the link is open, and its peer has ended
abbrev pub MayLook : ℕ → List Entry → Type 0
MayLook l trace = IsUsable l trace × Was (is_ended_of l) trace

-- a call that moves nothing stands where such a call may be made; no door is given at which to listen
abbrev pub BalkMayStand : List Entry → Way → Type 0
BalkMayStand before (way.Listen door at listening) = ⊥
BalkMayStand before (way.Accept door) = listens door before ≡ true
BalkMayStand before (way.Finish l) = MayFinish l before
BalkMayStand before (way.Read l) = MayRead l before
BalkMayStand before (way.Write l) = MayWrite l before
BalkMayStand before (way.Look l) = MayLook l before

-- Calls on a link: it is born once, where it is accepted at a door that listens; one that is dialled is opened once, by a finish
-- behind its birth; only then it is read or written, and no read is made behind its end, and no write behind its shut; behind a
-- call that failed there is none but its close; it is closed once
abbrev pub CallMayStand : List Entry → Entry → Type 0
CallMayStand before (e.Accepted l door) = WasNot (is_birth_of l) before × (listens door before ≡ true)
CallMayStand before (e.Dialled l to why) = WasNot (is_birth_of l) before
CallMayStand before (e.Opened l) = MayFinish l before
CallMayStand before (e.Came l bytes) = MayRead l before
CallMayStand before (e.Ended l) = MayRead l before
CallMayStand before (e.Went l bytes) = MayWrite l before
CallMayStand before (e.Broke l) = IsSound l before
CallMayStand before (e.Balked way) = BalkMayStand before way
CallMayStand before (e.Shut l) = MayWrite l before
CallMayStand before (e.Closed l cause) = lives l before ≡ true
CallMayStand before _ = ⊤

abbrev pub CallsLaw : List Entry → Type 0
CallsLaw trace = world.AtEach CallMayStand trace
