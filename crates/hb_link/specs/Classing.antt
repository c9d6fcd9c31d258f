-- In which classes a tunnel is. No public clause cites this file.
use Rattle.std.specs.Prelude.{◌==◌, ◌&&◌, ◌||◌, not, Bool, true, false, length}
use Rattle.hb_counted.specs.declared.classes.Classes.{Classes}
use Rattle.hb_tunnel.specs.Way.{is_done}
use Rattle.hb_inbound.specs.Tunnel.{may_shut}
use Rattle.hb_link.specs.declared.tunnel.Stage.{Stage}
use Rattle.hb_link.specs.declared.tunnel.Stage.TheVariants.{Due, Opening, Live, Failed, Ended, Over}
use Rattle.hb_link.specs.declared.tunnel.Tunnel.{Tunnel}
use Rattle.hb_link.specs.Tunnels.{tunnel_of}

-- Of one that lives END_STREAM may be put, as far as it alone tells, or that went, and it may be over
abbrev pub end_may_go : Tunnel → Bool
end_may_go k = is_done k.ways.down && (not k.end_put || is_done k.ways.up)

-- something may: bytes that wait, or that
abbrev pub may_go : Tunnel → Bool
may_go k = not (length k.ways.down.held == 0) || end_may_go k

-- it takes a place; its stream is still to get what it gets; an act is due of it; something may be put of it; its end may follow
abbrev pub classes_by : Stage → Tunnel → Classes
classes_by Due k = record { place = true; marked = false; due = true; puts = false; ends = false }
classes_by Opening k = record { place = true; marked = false; due = false; puts = false; ends = false }
classes_by Live k = record { place = true; marked = false; due = may_shut (tunnel_of k); puts = may_go k; ends = end_may_go k }
classes_by (Failed why) k = record { place = false; marked = true; due = false; puts = false; ends = false }
classes_by (Ended why) k = record { place = false; marked = true; due = false; puts = false; ends = false }
classes_by (Over why) k = record { place = false; marked = false; due = true; puts = false; ends = false }

abbrev pub classes_here : Tunnel → Classes
classes_here k = classes_by k.stage k
