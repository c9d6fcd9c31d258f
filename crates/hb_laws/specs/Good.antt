-- Traces that are lawful: of a link to the control plane, of an inbound link, and of a plain one of either door, where one may be.
use Rattle.std.specs.Prelude.{◌<◌, List, [], ◌∷◌, None}
use Rattle.hb_base.specs.declared.cause.Cause.TheVariants as cause
use Rattle.hb_base.specs.declared.ip.Ip.TheVariants.{V4}
use Rattle.hb_base.specs.declared.target.Target.{Target}
use Rattle.hb_front.specs.Faults.{number_of}
use Rattle.hb_front.specs.Written.{front_text}
use Rattle.hb_front.specs.declared.fault.FrontFault.TheVariants.{BadSignature}
use Rattle.hb_model.specs.declared.config.NodeConfig.{NodeConfig}
use Rattle.hb_proxy.specs.Load.{most_links, most_tunnels}
use Rattle.hb_world.specs.declared.entry.Entry.{Entry}
use Rattle.hb_world.specs.declared.entry.Entry.TheVariants as e
use Rattle.hb_world.specs.declared.entry.ReadyItem.TheVariants as item
use Rattle.hb_world.specs.declared.entry.Way.TheVariants as way
use Rattle.hb_world.specs.declared.entry.Woken.TheVariants as woken
use Rattle.hb_laws.specs.Lawful.{Lawful}
use Rattle.hb_laws.specs.Refused.{dials, fails, waits, waits_tick, balks}
use Rattle.hb_laws.specs.RefusedLinks.{accepts}
use Rattle.hb_laws.specs.RefusedOutbound.{accepts_outbound}
use Rattle.hb_laws.specs.RefusedPlain.{accepts_plain}

-- a link to the control plane is dialled and isn't open yet, then it breaks and is closed; at the next tick a dial fails
abbrev pub good_trace : NodeConfig → List Entry
good_trace g =
    dials g ∷ balks (way.Finish 1) ∷ e.Wait (item.Link 1 ∷ []) woken.Woke ∷ e.Broke 1 ∷ e.Closed 1 cause.Broken
    ∷ waits_tick ∷ e.Tick ∷ fails g ∷ waits ∷ []

abbrev pub GoodTraceIsLawful : Type 0
GoodTraceIsLawful = (g : NodeConfig) → Lawful g (good_trace g)

-- an inbound link is accepted, its first byte begins no front header, and it is closed for that
abbrev pub good_link : NodeConfig → List Entry
good_link g = dials g ∷ accepts ∷ e.Came 2 (0 ∷ []) ∷ e.Closed 2 (cause.FrontFault (number_of BadSignature)) ∷ waits ∷ []

abbrev pub GoodLinkIsLawful : Type 0
GoodLinkIsLawful = (g : NodeConfig) → 0 < most_links g → Lawful g (good_link g)

-- an inbound link of 10.0.0.1 to 10.0.0.9 is accepted, its front header is whole and tells no identity, its peer sends no more, and it is
-- closed as done
abbrev pub source : Target
source = record { ip = V4 167772161; port = 40000 }

abbrev pub destination : Target
destination = record { ip = V4 167772169; port = 15008 }

abbrev pub good_end : NodeConfig → List Entry
good_end g = dials g ∷ accepts ∷ e.Came 2 (front_text source destination None) ∷ e.Ended 2 ∷ e.Closed 2 cause.Done ∷ waits ∷ []

abbrev pub GoodEndIsLawful : Type 0
GoodEndIsLawful = (g : NodeConfig) → 0 < most_links g → Lawful g (good_end g)

-- a plain link is accepted, its first byte begins no front header, and it is closed for that
abbrev pub good_plain : NodeConfig → List Entry
good_plain g = dials g ∷ accepts_plain ∷ e.Came 2 (0 ∷ []) ∷ e.Closed 2 (cause.FrontFault (number_of BadSignature)) ∷ waits ∷ []

abbrev pub GoodPlainIsLawful : Type 0
GoodPlainIsLawful = (g : NodeConfig) → 0 < most_tunnels g → Lawful g (good_plain g)

-- one is accepted, its front header is whole, and it is refused with 503 and closed, since nothing is held yet
abbrev pub good_refusal : NodeConfig → List Entry
good_refusal g =
    dials g ∷ accepts_plain ∷ e.Came 2 (front_text source destination None) ∷ e.Closed 2 (cause.Refused 503) ∷ waits ∷ []

abbrev pub GoodRefusalIsLawful : Type 0
GoodRefusalIsLawful = (g : NodeConfig) → 0 < most_tunnels g → Lawful g (good_refusal g)

-- so is one of the outbound door
abbrev pub good_unsynced : NodeConfig → List Entry
good_unsynced g =
    dials g ∷ accepts_outbound ∷ e.Came 2 (front_text source destination None) ∷ e.Closed 2 (cause.Refused 503) ∷ waits ∷ []

abbrev pub GoodUnsyncedIsLawful : Type 0
GoodUnsyncedIsLawful = (g : NodeConfig) → 0 < most_tunnels g → Lawful g (good_unsynced g)
