-- Small steps of links to gateways and of their tunnels that no run takes, and what its laws refuse.
use Rattle.std.specs.Prelude.{◌≡◌, ◌≢◌, ◌<◌, ℕ, true, false, List, [], ◌∷◌, Some}
use Rattle.hb_base.specs.declared.cause.Cause.{Cause}
use Rattle.hb_base.specs.declared.door.Why.TheVariants as whys
use Rattle.hb_base.specs.declared.target.Target.{Target}
use Rattle.hb_captured.specs.Answer.{through, key_of}
use Rattle.hb_captured.specs.Part as captured
use Rattle.hb_gateway.specs.Gateway as gateway_link
use Rattle.hb_gateway.specs.Gateway.{has_room, offers}
use Rattle.hb_gateway.specs.Key.{Key}
use Rattle.hb_gateway.specs.Part as gateway
use Rattle.hb_gateway.specs.Response.{Heard}
use Rattle.hb_model.specs.declared.config.NodeConfig.{NodeConfig}
use Rattle.hb_world.specs.declared.entry.Entry.TheVariants as e
use Rattle.hb_proxy.specs.Machine.{Machine}
use Rattle.hb_proxy.specs.Owners.{OwnLaw}
use Rattle.hb_proxy.specs.Points.{of_plain, of_gate, of_stream}
use Rattle.hb_proxy.specs.Runs.{Steps}
use Rattle.hb_proxy.specs.Shared.{asks, tells, puts}

-- A LINK THAT IS TAKEN: one without room, also behind a GOAWAY; of another identity, source or gateway; one that ended; not the first
abbrev pub AsksRoomless : Type 0
AsksRoomless = (g : NodeConfig) (x y : Machine) (l n s : ℕ) (authority : Target) → has_room (x.gates n) ≡ false
    → Steps g x (of_stream l n s (asks authority)) y → ⊥

abbrev pub AsksBehind : Type 0
AsksBehind = (g : NodeConfig) (x y : Machine) (l n s : ℕ) (authority : Target) → (x.gates n).away ≡ true
    → Steps g x (of_stream l n s (asks authority)) y → ⊥

abbrev pub SharesKeys : Type 0
SharesKeys = (g : NodeConfig) (x y : Machine) (l n s : ℕ) (key : Key) (authority other : Target) (endpoint : List ℕ)
    → (x.plain l).aim ≡ through key authority endpoint → (x.gates n).key ≢ key
    → Steps g x (of_stream l n s (asks other)) y → ⊥

abbrev pub AsksEnded : Type 0
AsksEnded = (g : NodeConfig) (x y : Machine) (l n s : ℕ) (authority : Target) (why : Cause)
    → (x.gates n).phase ≡ gateway_link.closing why → Steps g x (of_stream l n s (asks authority)) y → ⊥

abbrev pub AsksLater : Type 0
AsksLater = (g : NodeConfig) (x y : Machine) (l k n s : ℕ) (authority : Target) → k < n → (x.gates k).key ≡ (x.gates n).key
    → offers (x.gates k) ≡ true → Steps g x (of_stream l n s (asks authority)) y → ⊥

-- the stream is asked for another authority than the way's
abbrev pub AsksElsewhere : Type 0
AsksElsewhere = (g : NodeConfig) (x y : Machine) (l n s : ℕ) (key : Key) (authority other : Target) (endpoint : List ℕ)
    → (x.plain l).aim ≡ through key authority endpoint → authority ≢ other → Steps g x (of_stream l n s (asks other)) y → ⊥

-- ANOTHER IS DIALLED, or the link is refused for want of room, or its dial fails, though one of its key has room; one is dialled for a link
-- that goes straight
abbrev pub DialsBeside : Type 0
DialsBeside = (g : NodeConfig) (x y : Machine) (a k n : ℕ) (to : Target) (key : Key) → (x.gates k).key ≡ key
    → offers (x.gates k) ≡ true → Steps g x (of_gate n (gateway.dialled (e.Dialled n to (whys.Gateway a)) key)) y → ⊥

abbrev pub RefusesBeside : Type 0
RefusesBeside = (g : NodeConfig) (x y : Machine) (a k : ℕ) (key : Key) → key_of (x.plain a).aim ≡ Some key → (x.gates k).key ≡ key
    → offers (x.gates k) ≡ true → Steps g x (of_plain a captured.roomless) y → ⊥

abbrev pub DialsForStraight : Type 0
DialsForStraight = (g : NodeConfig) (x y : Machine) (a n : ℕ) (to : Target) (key : Key)
    → key_of (x.plain a).aim ≢ Some key → Steps g x (of_gate n (gateway.dialled (e.Dialled n to (whys.Gateway a)) key)) y → ⊥

-- ONE SIDE ALONE: what happens to a link and its stream isn't taken by one without the other
abbrev pub TakesAlone : Type 0
TakesAlone = (g : NodeConfig) (x y : Machine) (l begun : ℕ) (heard : Heard) → Steps g x (of_plain l (captured.hears heard begun)) y → ⊥

abbrev pub DropsAlone : Type 0
DropsAlone = (g : NodeConfig) (x y : Machine) (n s begun : ℕ) → Steps g x (of_gate n (gateway.dropped s begun)) y → ⊥

-- OF ANOTHER'S STREAM: what is heard on a stream is told to a link that hasn't it; bytes that don't wait are put
abbrev pub TellsAnother : Type 0
TellsAnother = (g : NodeConfig) (x y : Machine) (l n s begun : ℕ) (heard : Heard) → (x.plain l).gate ≢ n
    → Steps g x (of_stream l n s (tells heard begun)) y → ⊥

abbrev pub PutsOther : Type 0
PutsOther = (g : NodeConfig) (x y : Machine) (l n s count : ℕ) (bytes : List ℕ) → bytes ≢ (x.plain l).ways.up.held
    → Steps g x (of_stream l n s (puts bytes count)) y → ⊥

-- OF ANOTHER PART: bytes come on a link to a gateway that nobody dialled
abbrev pub ReadsUndialled : Type 0
ReadsUndialled = (n : ℕ) (bytes : List ℕ) → OwnLaw (of_gate n (gateway.entry (e.Came n bytes)) ∷ []) → ⊥
