-- When the control plane is dialled.
use Rattle.std.specs.Prelude.{⊤, ◌≡◌, ℕ, Bool, true, false, is_none, fold, List, Option, Some, None}
use Rattle.hb_base.specs.declared.door.Why.TheVariants as whys
use Rattle.hb_world.specs.Trace.{AtEach}
use Rattle.hb_world.specs.declared.entry.Entry.{Entry}
use Rattle.hb_world.specs.declared.entry.Entry.TheVariants as e
use Rattle.hb_world.specs.declared.entry.Way.TheVariants as way
use Rattle.hb_model.specs.declared.config.NodeConfig.{NodeConfig}
use Rattle.hb_model.specs.Machine.{without}

-- whether a dial of the control plane is due, and the link to it that lives: the one dialled last, until it is closed
pub record Dialling : Type 0 where
  pub due : Bool
  pub control : Option ℕ

-- a dial is due at the start
abbrev pub at_start : Dialling
at_start = record { due = true; control = None }

-- the answer to a dial ends that, and a tick at which no link to the control plane lives begins it
abbrev pub dialling_after : Dialling → Entry → Dialling
dialling_after d (e.Dialled l to whys.Discovery) = record { due = false; control = Some l }
dialling_after d (e.DialFailed to whys.Discovery) = record d { due = false }
dialling_after d e.Tick = record d { due = is_none d.control }
dialling_after d (e.Closed l cause) = record d { control = without l d.control }
dialling_after d _ = d

-- behind a trace
abbrev pub dialling : List Entry → Dialling
dialling trace = fold dialling_after at_start trace

-- The control plane is dialled exactly when it is due: an answer to a dial of it stands only there, and no other entry does but
-- one of a listen
abbrev pub DialMayStand : NodeConfig → List Entry → Entry → Type 0
DialMayStand g before (e.Dialled l to whys.Discovery) = ((dialling before).due ≡ true) × (to ≡ g.discovery)
DialMayStand g before (e.DialFailed to whys.Discovery) = ((dialling before).due ≡ true) × (to ≡ g.discovery)
DialMayStand g before (e.Balked (way.Listen door at listening)) = ⊤
DialMayStand g before _ = (dialling before).due ≡ false

abbrev pub DialLaw : NodeConfig → List Entry → Type 0
DialLaw g trace = AtEach (DialMayStand g) trace
