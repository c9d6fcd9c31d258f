-- A tunnel of the code, in the words of the machine.
use Rattle.std.specs.Prelude.{⊤, ◌≡◌, ◌⊎◌, ◌<◌, Bool, true, false, Option, Some, None}
use Rattle.hb_tunnel.specs.Way.{empty_way}
use Rattle.hb_inbound.specs.Inbound as m
use Rattle.hb_inbound.specs.Runs.{counted}
use Rattle.hb_inbound.specs.Tunnel as t
use Rattle.hb_link.specs.declared.phase.Phase.{Phase}
use Rattle.hb_link.specs.declared.phase.Phase.TheVariants.{Fronting, Serving, Faulted, Closing, Closed}
use Rattle.hb_link.specs.declared.tunnel.Stage.{Stage}
use Rattle.hb_link.specs.declared.tunnel.Stage.TheVariants.{Due, Opening, Live, Failed, Ended, Over}
use Rattle.hb_link.specs.declared.tunnel.Tunnel.{Tunnel}

-- how far a link is, and a tunnel
abbrev pub phase_of : Phase → m.Phase
phase_of Fronting = m.fronting
phase_of Serving = m.serving
phase_of (Faulted code) = m.faulted code
phase_of (Closing cause) = m.closing cause
phase_of Closed = m.closed

abbrev pub stage_of : Stage → t.Stage
stage_of Due = t.due
stage_of Opening = t.opening
stage_of Live = t.live
stage_of (Failed cause) = t.failed cause
stage_of (Ended cause) = t.ended cause
stage_of (Over cause) = t.over cause

-- what is written to an upstream is given back to its stream's window at once
abbrev pub tunnel_of : Tunnel → t.Tunnel
tunnel_of k = record {
  stage = stage_of k.stage;
  up = k.up;
  target = k.target;
  ways = k.ways;
  owed = 0;
  went_up = k.went_up;
  went_down = k.went_down;
  shut = k.shut;
  end_put = k.end_put;
}

-- its upstream is open
abbrev pub opened_on : Tunnel → Tunnel
opened_on k = record k { stage = Live; ways = record k.ways { is_open = true } }

-- a tunnel of the machine, its bytes counted as far as notes tell them
abbrev pub as_told : t.Tunnel → t.Tunnel
as_told x = record x { went_up = counted x.went_up; went_down = counted x.went_down }

-- what is known of the code's: one that was dialled has an upstream, and before its opening nothing came from that
abbrev pub IsSound : t.Stage → Tunnel → Type 0
IsSound t.due k = k.ways.down ≡ empty_way
IsSound t.opening k = (0 < k.up) × (k.ways.down ≡ empty_way)
IsSound t.live k = 0 < k.up
IsSound stage k = ⊤

-- on a stream on which the code has no tunnel nothing is asked for, or nothing is left of it; of one that is over its upstream alone
-- counts
abbrev pub ShowsAt : t.Stage → Tunnel → t.Tunnel → Type 0
ShowsAt (t.over cause) k x = (x.stage ≡ t.over cause) × (x.up ≡ k.up)
ShowsAt stage k x = (as_told x ≡ tunnel_of k) × IsSound stage k

abbrev pub ShowsTunnel : Option Tunnel → t.Tunnel → Type 0
ShowsTunnel None x = (x.stage ≡ t.unasked) ⊎ (x.stage ≡ t.gone)
ShowsTunnel (Some k) x = ShowsAt (stage_of k.stage) k x

-- a tunnel of the code takes a place
abbrev pub place_in : Stage → Bool
place_in Due = true
place_in Opening = true
place_in Live = true
place_in _ = false

abbrev pub has_place : Option Tunnel → Bool
has_place None = false
has_place (Some k) = place_in k.stage
