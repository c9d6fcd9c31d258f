-- What a log is told of a call.
use Rattle.std.specs.Prelude.{◌≡◌, ◌⊎◌, ℕ, Bool, true, false, List, Option, Some, None}
use Rattle.std.specs.Io.KnownBytes.{Appends, Keeps}
use Rattle.hb_base.specs.Count.{one_more}
use Rattle.hb_world.specs.declared.world.Born.{Born}
use Rattle.hb_world.specs.declared.world.Glanced.{Glanced}
use Rattle.hb_world.specs.declared.world.Glanced.TheVariants as glanced
use Rattle.hb_world.specs.declared.world.Waited.{Waited}
use Rattle.hb_world.specs.declared.world.Waited.TheVariants as waited
use Rattle.hb_log.specs.Fact.{fact_line}
use Rattle.hb_log.specs.Known.{MissesLink, tick_fact, after_tick}
use Rattle.hb_log.specs.declared.fact.Fact.{Fact}
use Rattle.hb_log.specs.declared.known.Known.{Known}
use Rattle.hb_log.specs.declared.teller.Teller.{Teller}

-- whether a wait or a glance tells that time passed
abbrev pub wait_ticks : Waited → Bool
wait_ticks waited.Tick = true
wait_ticks _ = false

abbrev pub glance_ticks : Glanced → Bool
glance_ticks glanced.Tick = true
glance_ticks _ = false

module _ {L : Type 0} (handed : L → Option (List ℕ)) where
  -- nothing is handed on
  abbrev pub HandsNothing : Teller L → Teller L → Type 0
  HandsNothing old new = Keeps (handed old.log) (handed new.log) × (new.lacks ≡ old.lacks)

  -- the line of a fact is handed on
  abbrev pub HandsLine : Teller L → Teller L → Fact → Type 0
  HandsLine old new fact = Appends (handed old.log) (handed new.log) (fact_line fact) × (new.lacks ≡ old.lacks)

  -- memory lacked, which is counted, and nothing is handed on
  abbrev pub Lacks : Teller L → Teller L → Type 0
  Lacks old new = Keeps (handed old.log) (handed new.log) × (new.lacks ≡ one_more old.lacks)

  -- no line is handed on where there is no fact; and else its line is, or memory lacked for it; and this is known from now on
  abbrev pub Tells : Teller L → Teller L → Known → Option Fact → Type 0
  Tells old new known None = (new.known ≡ known) × HandsNothing old new
  Tells old new known (Some fact) = (new.known ≡ known) × (HandsLine old new fact ⊎ Lacks old new)

  -- the same of a birth; or memory lacked for what the link is
  abbrev pub TellsBirth : Teller L → Teller L → Known → Option Fact → Born → Type 0
  TellsBirth old new known fact born = Tells old new known fact ⊎ (MissesLink born old.known known new.known × Lacks old new)

  -- time passed, or all stays
  abbrev pub TellsTick : Teller L → Teller L → Bool → Type 0
  TellsTick old new true = Tells old new (after_tick old.known) (tick_fact old.known)
  TellsTick old new false = new ≡ old
