-- When the control plane is dialled, over the whole trace.
use Rattle.std.specs.Prelude.{⊤, ◌≡◌, Bool, true, false, List, [], ◌∷◌}
use Rattle.std.specs.List.{list_any}
use Rattle.hb_base.specs.declared.door.Why.TheVariants as whys
use Rattle.hb_model.specs.Dials.{DialMayStand}
use Rattle.hb_model.specs.Inner.{is_stop}
use Rattle.hb_model.specs.declared.config.NodeConfig.{NodeConfig}
use Rattle.hb_world.specs.declared.entry.Entry.{Entry}
use Rattle.hb_world.specs.declared.entry.Entry.TheVariants as e
use Rattle.hb_proxy.specs.Owners.{AtEach}
use Rattle.hb_proxy.specs.Points.{Point, entry_in, entries, control_of}

abbrev pub IsNoDial : Entry → Type 0
IsNoDial (e.Dialled l to whys.Discovery) = ⊥
IsNoDial (e.DialFailed to whys.Discovery) = ⊥
IsNoDial _ = ⊤

-- While the run goes on a dial of the control plane stands exactly where it is due, and no other entry of any part does there. Behind its
-- end none stands; what is closed then may be so where a dial was due
abbrev pub DialsBy : (stopped : Bool) → NodeConfig → List Entry → Entry → Type 0
DialsBy true g before z = IsNoDial z
DialsBy false g before z = DialMayStand g before z

abbrev pub DialsAt : NodeConfig → List Point → Point → Type 0
DialsAt g before p = (z : Entry) → entry_in p ≡ z ∷ [] → DialsBy (list_any is_stop (control_of before)) g (entries before) z

abbrev pub DialLaw : NodeConfig → List Point → Type 0
DialLaw g points = AtEach (DialsAt g) points
