-- What marks the tunnels of a link, before their streams get what they get. No public clause cites this file.
use Rattle.std.specs.Prelude.{◌≡◌, ◌≢◌, ℕ, Option, List}
use Rattle.std.specs.Option.{option_map}
use Rattle.std.specs.FinMap.{get}
use Rattle.hb_base.specs.declared.cause.Cause.{Cause}
use Rattle.hb_base.specs.declared.cause.Cause.TheVariants as cause
use Rattle.hb_base.specs.declared.peer.Peer.{Peer}
use Rattle.hb_held.specs.Held.{Resources}
use Rattle.hb_table.specs.Judgement.{judged}
use Rattle.hb_table.specs.declared.judgement.Judged.{Judged}
use Rattle.hb_table.specs.declared.judgement.Judged.TheVariants.{Admitted}
use Rattle.hb_tunnel.specs.Way.{after, ends}
use Rattle.hb_inbound.specs.Part.{Part}
use Rattle.hb_inbound.specs.Runs.{Local, Steps, StandsFor}
use Rattle.hb_link.specs.declared.link.Link.{Link}
use Rattle.hb_link.specs.declared.phase.Phase.{Phase}
use Rattle.hb_link.specs.declared.tunnel.Stage.{Stage}
use Rattle.hb_link.specs.declared.tunnel.Stage.TheVariants.{Due, Opening, Live, Failed, Ended}
use Rattle.hb_link.specs.declared.tunnel.Tunnel.{Tunnel}
use Rattle.hb_link.specs.Settling.{IsMarked}
use Rattle.hb_link.specs.Shows.{Shows}

-- a tunnel ends for a cause: one that was pending failed, one that was live ended; the first end counts
abbrev pub ended_stage : Cause → Stage → Stage
ended_stage why Due = Failed why
ended_stage why Opening = Failed why
ended_stage why Live = Ended why
ended_stage why stage = stage

abbrev pub ended_tunnel : Cause → Tunnel → Tunnel
ended_tunnel why k = record k { stage = ended_stage why k.stage }

abbrev pub ended_here : Cause → Option Tunnel → Option Tunnel
ended_here why o = option_map (ended_tunnel why) o

-- it ends where it is no longer admitted
abbrev pub kept_by : Judged → Tunnel → Tunnel
kept_by Admitted k = k
kept_by _ k = ended_tunnel cause.Revoked k

abbrev pub judged_tunnel : Resources → Peer → Tunnel → Tunnel
judged_tunnel held peer k = kept_by (judged held peer k.target) k

abbrev pub judged_here : Resources → Peer → Option Tunnel → Option Tunnel
judged_here held peer o = option_map (judged_tunnel held peer) o

-- its upstream sends no more
abbrev pub down_ended_tunnel : Tunnel → Tunnel
down_ended_tunnel k = record k { ways = record k.ways { down = after k.ways.down ends } }

-- of a link one tunnel alone changes so, where it is there
pub record ChangesAt (change : Tunnel → Tunnel) (stream : ℕ) (old new : Link) : Type 0 where
  pub link : new ≡ record old { tunnels = new.tunnels }
  pub here : get new.tunnels stream ≡ option_map change (get old.tunnels stream)
  pub others : (s : ℕ) → s ≢ stream → get new.tunnels s ≡ get old.tunnels s

-- it is in another phase, and each tunnel ends for a cause
pub record EndsWith (phase : Phase) (why : Cause) (old new : Link) : Type 0 where
  pub link : new ≡ record old { phase = phase; tunnels = new.tunnels }
  pub each : (s : ℕ) → get new.tunnels s ≡ ended_here why (get old.tunnels s)

-- The link is told a part, and what follows by itself is still to come
abbrev pub Marks : (Local → Type 0) → Part → Link → Link → Type 0
Marks P p old new =
    (start : Resources) (before : List Part) (a b : Local) → StandsFor old.number start a before → Shows old a.link → P a
    → Steps old.number a p b → (new.number ≡ old.number) × IsMarked new b.link
