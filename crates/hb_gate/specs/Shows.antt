-- Which machines a link of the code shows.
use Rattle.std.specs.Prelude.{⊤, ◌≡◌, ◌⊎◌, ℕ, ◌≤◌, Option, Some, None, IsSome}
use Rattle.std.specs.FinMap.{get}
use Rattle.std.specs.Option.{option_map}
use Rattle.hb_frames.specs.Numbers.{largest}
use Rattle.hb_gateway.specs.Gateway.{Gateway, Phase, opening, serving, faulted}
use Rattle.hb_gateway.specs.Gateway as m
use Rattle.hb_gateway.specs.Keys.{key_as}
use Rattle.hb_gateway.specs.Response.{fails, unused, over}
use Rattle.hb_inbound.specs.Runs.{counted}
use Rattle.hb_kept.specs.Kept.{IsKept}
use Rattle.hb_gate.specs.Phases.{phase_of, stage_of}
use Rattle.hb_gate.specs.declared.gate.Gate.{Gate}
use Rattle.hb_gate.specs.declared.stream.Stream.{Stream}

-- a connection that goes on is the machine's, and kept, and so is what is left of the front header; of a link that is to be closed neither
-- counts
abbrev pub ShowsBy : Phase → Gate → Gateway → Type 0
ShowsBy opening k x = (x.conn ≡ k.conn) × IsKept x.conn × (x.front ≡ k.front)
ShowsBy serving k x = (x.conn ≡ k.conn) × IsKept x.conn × (x.front ≡ k.front)
ShowsBy (faulted code) k x = (x.conn ≡ k.conn) × (x.front ≡ k.front)
ShowsBy phase k x = ⊤

-- a stream that the code has is the machine's, its bytes counted as far as notes tell them; of one that it hasn't nothing is left
pub record IsStream (k : Stream) (t : m.Stream) : Type 0 where
  pub stage : t.stage ≡ stage_of k.stage
  pub captured : t.captured ≡ k.link
  pub mail : t.mail ≡ option_map fails k.mail
  pub begun : counted t.begun ≡ k.begun

abbrev pub ShowsStream : Option Stream → m.Stream → Type 0
ShowsStream None t = ((t.stage ≡ unused) ⊎ (t.stage ≡ over)) × (t.mail ≡ None)
ShowsStream (Some k) t = IsStream k t

pub record Shows (k : Gate) (x : Gateway) : Type 0 where
  pub key : x.key ≡ key_as k.key
  pub phase : x.phase ≡ phase_of k.phase
  pub way : ShowsBy x.phase k x
  pub away : x.away ≡ k.away
  pub streams : (s : ℕ) → ShowsStream (get k.streams s) (x.streams s)
  -- the numbers of streams have 31 bits
  pub numbered : (s : ℕ) → IsSome (get k.streams s) → s ≤ largest
