-- What a call of the code is to the machine of the whole.
use Rattle.std.specs.Prelude.{⊤, ◌≡◌, ◌≢◌, ℕ, Bool, true, not, List, [], ◌∷◌}
use Rattle.hb_captured.specs.Answer.{key_of}
use Rattle.hb_captured.specs.Captured.{Captured, due}
use Rattle.hb_captured.specs.Part.{entry, roomless}
use Rattle.hb_gateway.specs.Part as gateway
use Rattle.hb_held.specs.Held.{Resources}
use Rattle.hb_link.specs.Noted.{Told, Takes}
use Rattle.hb_model.specs.declared.config.NodeConfig.{NodeConfig}
use Rattle.hb_proxy.specs.Load.{LinksFull}
use Rattle.hb_proxy.specs.Machine.{Machine, outward}
use Rattle.hb_proxy.specs.Notes.{notes}
use Rattle.hb_proxy.specs.Points.{Point, of_control, of_link, of_plain, of_gate, of_stream}
use Rattle.hb_proxy.specs.Runs.{IfThrough, Steps, StandsFor}
use Rattle.hb_relay.specs.Reaches as relay
use Rattle.hb_relays.specs.Shows.{ShowsRelays}
use Rattle.hb_relays.specs.declared.relays.Relays.{Relays}

-- a part of a link to a gateway that follows by itself
abbrev pub IsGateInner : gateway.Part → Type 0
IsGateInner gateway.lacked = ⊤
IsGateInner (gateway.looked points told headers) = ⊤
IsGateInner (gateway.reset s code) = ⊤
IsGateInner p = ⊥

-- a point that follows by itself on a plain link, on a link to a gateway, or on a stream
abbrev pub IsInner : Point → Type 0
IsInner (of_control q) = ⊥
IsInner (of_link l p) = ⊥
IsInner (of_plain l p) = relay.IsInner p
IsInner (of_gate n p) = IsGateInner p
IsInner (of_stream l n s w) = ⊤

-- or by which a plain link is refused for want of room
abbrev pub IsRefusing : Point → Type 0
IsRefusing (of_plain l roomless) = ⊤
IsRefusing p = IsInner p

-- such points lead from one machine to another, one after another
abbrev pub LeadsBy : (Point → Type 0) → NodeConfig → Machine → List Point → Machine → Type 0
LeadsBy I g x [] y = y ≡ x
LeadsBy I g x (p ∷ more) y = I p × (mid : Machine) × Steps g x p mid × LeadsBy I g mid more y

abbrev pub Leads : NodeConfig → Machine → List Point → Machine → Type 0
Leads g x more y = LeadsBy IsInner g x more y

-- They lead to a machine whose links the code shows, and their notes are taken in order, or one is lost
pub record FollowsBy (I : Point → Type 0) (g : NodeConfig) (x : Machine) (k : Relays) (told now : Told) : Type 0 where
  pub more : List Point
  pub reached : Machine
  pub leads : LeadsBy I g x more reached
  pub shows : ShowsRelays g k (outward reached)
  pub noted : Takes told (notes more) now

abbrev pub Follows : NodeConfig → Machine → Relays → Told → Told → Type 0
Follows g x k told now = FollowsBy IsInner g x k told now

-- The code is told a point. For each run of the whole whose links it showed, and behind which the point may come, it shows afterwards
-- those of the run with that point, and with what follows from it by itself
abbrev pub Meets : (Machine → Type 0) → Point → Relays → Told → Relays → Told → Type 0
Meets P p old told new now =
    (g : NodeConfig) (x y : Machine) (points : List Point) → StandsFor g x points → ShowsRelays g old (outward x) → P x → Steps g x p y
    → Follows g y new told now

abbrev pub any : Machine → Type 0
any x = ⊤

-- A LINK THAT WAITS FOR ONE TO ITS GATEWAY finds that one more may be dialled
abbrev pub FindsRoom : Bool → Captured → Type 0
FindsRoom room x = x.stage ≡ due → IfThrough (key_of x.aim) (λ key. room ≡ true)

-- so does the one on which something came
abbrev pub FindsRoomAt : Bool → Point → Machine → Type 0
FindsRoomAt room (of_plain l (entry z)) x = FindsRoom room (x.plain l)
FindsRoomAt room p x = ⊤

-- The code is told a point, and whether one link more may be, while this is held: so it is, but a link that would wait for one to its
-- gateway where none may be dialled is refused
abbrev pub MeetsIn : Resources → (room : Bool) → Point → Relays → Told → Relays → Told → Type 0
MeetsIn held room p old told new now =
    (g : NodeConfig) (x y : Machine) (points : List Point) → StandsFor g x points → ShowsRelays g old (outward x) → x.control.held ≡ held
    → LinksFull (not room) g x → Steps g x p y
    → (follows : FollowsBy IsRefusing g y new told now) × FindsRoomAt room p follows.reached

-- no link but perhaps this one waits for a dial
abbrev pub OnlyWaits : ℕ → Machine → Type 0
OnlyWaits a x = (k : ℕ) → (x.plain k).stage ≡ due → k ≡ a

abbrev pub NoneWaits : Machine → Type 0
NoneWaits x = (k : ℕ) → (x.plain k).stage ≢ due
