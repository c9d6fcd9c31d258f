-- Which machines a link of the code shows.
use Rattle.std.specs.Prelude.{⊤, ◌≡◌, ◌<◌, ℕ, true, Option, Some, None}
use Rattle.hb_captured.specs.Answer.{key_of}
use Rattle.hb_captured.specs.Calm.{IsCalm}
use Rattle.hb_captured.specs.Captured as m
use Rattle.hb_captured.specs.Captured.{Captured, judges}
use Rattle.hb_captured.specs.Runs.{counted}
use Rattle.hb_gateway.specs.Key.{Key}
use Rattle.hb_relay.specs.Answering.{aim_as}
use Rattle.hb_relay.specs.declared.relay.Relay.{Relay}
use Rattle.hb_relay.specs.declared.stage.Stage.{Stage}
use Rattle.hb_relay.specs.declared.stage.Stage.TheVariants.{Fronting, Due, Opening, Live, Over}

abbrev pub stage_of : Stage → m.Stage
stage_of Fronting = m.fronting
stage_of Due = m.due
stage_of Opening = m.opening
stage_of Live = m.live
stage_of (Over cause) = m.over cause

-- a link of the code in the machine's words
abbrev pub captured_of : Relay → Captured
captured_of k = record {
  door = k.ways.door;
  stage = stage_of k.stage;
  front = k.front;
  peer = record { ip = k.source; identity = None };
  target = k.target;
  identity = k.identity;
  aim = aim_as k.aim;
  up = k.up;
  gate = k.gate;
  stream = k.gate_stream;
  ways = k.ways.ways;
  owed = k.owed;
  went_up = k.went_up;
  went_down = k.went_down;
  up_shut = k.up_shut;
  shut = k.shut;
  closed = k.closed;
}

-- one of the machine, its bytes counted as far as notes tell them
abbrev pub as_told : Captured → Captured
as_told x = record x { owed = counted x.owed; went_up = counted x.went_up; went_down = counted x.went_down }

-- one that opens or lives has an upstream, or a stream where its way leads by a gateway; before that it has neither
abbrev pub HasOne : Option Key → (up gate : ℕ) → Type 0
HasOne None up gate = (0 < up) × (gate ≡ 0)
HasOne (Some key) up gate = (up ≡ 0) × (0 < gate)

abbrev pub HasUpstream : m.Stage → Option Key → (up gate : ℕ) → Type 0
HasUpstream m.fronting key up gate = (up ≡ 0) × (gate ≡ 0)
HasUpstream m.due key up gate = (up ≡ 0) × (gate ≡ 0)
HasUpstream m.opening key up gate = HasOne key up gate
HasUpstream m.live key up gate = HasOne key up gate
HasUpstream stage key up gate = ⊤

-- where peers are judged no way leads by a gateway
abbrev pub IsStraight : Captured → Type 0
IsStraight x = judges x.door ≡ true → key_of x.aim ≡ None

-- between two calls: it is that, and nothing more happens by itself
pub record Shows (k : Relay) (x : Captured) : Type 0 where
  pub same : as_told x ≡ captured_of k
  pub calm : IsCalm x
  pub upstream : HasUpstream x.stage (key_of x.aim) x.up x.gate
  pub straight : IsStraight x

-- a call makes this of it
pub record Becomes (change : Captured → Captured) (old new : Relay) : Type 0 where
  pub number : new.number ≡ old.number
  pub after : captured_of new ≡ change (captured_of old)
