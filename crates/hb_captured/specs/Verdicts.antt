-- The verdict law: the front header is that of the bytes that came, it gets the answer of its door, by what is held, and the dial that
-- this asks for goes there, once; or one stream is asked for where it goes by a gateway.
use Rattle.std.specs.Prelude.{⊤, ◌≡◌, ◌≢◌, ◌<◌, ℕ, true, false, List, Some, None, IsSome}
use Rattle.hb_base.specs.declared.door.Why.{Why}
use Rattle.hb_base.specs.declared.target.Target.{Target}
use Rattle.hb_front.specs.Reading.{IsAnswer, Whole, Fault}
use Rattle.hb_held.specs.Held.{Resources}
use Rattle.hb_world.specs.declared.entry.Entry.{Entry}
use Rattle.hb_world.specs.declared.entry.Entry.TheVariants as e
use Rattle.hb_captured.specs.Answer.{Aim, aims, refuses, answer_on, address_of, key_of, why_for}
use Rattle.hb_captured.specs.Part.{Part, up, misfronted, fronted, refused, accepted, roomless, asked}
use Rattle.hb_captured.specs.Sides.{link_came, door_of, aim_of, held, up_of, was, opens_up, is_asked, AtEach}

-- a dial goes to the address of its aim, for the link l, where none went before; one that gave a link isn't of a gateway
pub record IsDialOf (l : ℕ) (before : List Part) (to : Target) (why : Why) : Type 0 where
  pub aim : Aim
  pub asked : aim_of before ≡ Some aim
  pub there : to ≡ address_of aim
  pub for_it : why ≡ why_for aim (door_of before) l
  pub undialled : up_of before ≡ 0
  pub unasked : was is_asked before ≡ false

-- the link that it gives is another one
pub record IsUpstreamOf (l u : ℕ) (before : List Part) (to : Target) (why : Why) : Type 0 where
  pub dial : IsDialOf l before to why
  pub straight : key_of dial.aim ≡ None
  pub some : 0 < u
  pub other : u ≢ l

abbrev pub DialsAt : ℕ → List Part → Entry → Type 0
DialsAt l before (e.Dialled u to why) = IsUpstreamOf l u before to why
DialsAt l before (e.DialFailed to why) = IsDialOf l before to why
DialsAt l before _ = ⊤

-- it goes by a gateway
pub record GoesThrough (before : List Part) : Type 0 where
  pub aim : Aim
  pub told : aim_of before ≡ Some aim
  pub keyed : IsSome (key_of aim)

abbrev pub VerdictAt : ℕ → Resources → List Part → Part → Type 0
VerdictAt l start before (misfronted fault) = IsAnswer (link_came before) (Fault fault)
VerdictAt l start before (fronted seen routing aim) =
    IsAnswer (link_came before) (Whole seen) × (answer_on (door_of before) (held start before) routing seen ≡ aims aim)
VerdictAt l start before (refused seen routing why status note) =
    IsAnswer (link_came before) (Whole seen) × (answer_on (door_of before) (held start before) routing seen ≡ refuses why status)
VerdictAt l start before (accepted note) = was opens_up before ≡ true
VerdictAt l start before (asked gate stream) = GoesThrough before
VerdictAt l start before roomless = GoesThrough before
VerdictAt l start before (up e) = DialsAt l before e
VerdictAt l start before _ = ⊤

abbrev pub VerdictLaw : ℕ → Resources → List Part → Type 0
VerdictLaw l start parts = AtEach (VerdictAt l start) parts
