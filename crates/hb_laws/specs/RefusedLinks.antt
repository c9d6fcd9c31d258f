-- Small traces of inbound links and of their upstreams that no run leaves.
use Rattle.std.specs.Prelude.{◌≡◌, ℕ, ◌<◌, List, [], ◌∷◌, length}
use Rattle.hb_base.specs.declared.cause.Cause.TheVariants as cause
use Rattle.hb_base.specs.declared.door.Door.TheVariants as door
use Rattle.hb_base.specs.declared.door.Why.TheVariants as whys
use Rattle.hb_base.specs.declared.target.Target.{Target}
use Rattle.hb_model.specs.declared.config.NodeConfig.{NodeConfig}
use Rattle.hb_proxy.specs.Owners.{owner, upstream_of}
use Rattle.hb_world.specs.Trace.{recv, sent}
use Rattle.hb_world.specs.declared.entry.Entry.{Entry}
use Rattle.hb_world.specs.declared.entry.Entry.TheVariants as e
use Rattle.hb_laws.specs.Lawful.{Lawful}
use Rattle.hb_laws.specs.Refused.{Refused, dials, fails, waits}

-- link 2 is accepted
abbrev pub accepts : Entry
accepts = e.Accepted 2 door.Inbound

-- BIRTHS

-- bytes come on a link that nobody bore, and go on one; a number is born twice
abbrev pub ComesUnborn : Type 0
ComesUnborn = (bytes : List ℕ) → Refused (λ g. dials g ∷ e.Came 2 bytes ∷ [])

abbrev pub GoesUnborn : Type 0
GoesUnborn = (bytes : List ℕ) → Refused (λ g. dials g ∷ e.Went 2 bytes ∷ [])

abbrev pub BornTwice : Type 0
BornTwice = Refused (λ g. dials g ∷ e.Accepted 1 door.Inbound ∷ [])

-- a link is accepted while the control plane is to be dialled
abbrev pub AcceptsFirst : Type 0
AcceptsFirst = Refused (λ g. e.Accepted 1 door.Inbound ∷ [])

-- an upstream is dialled though no response ever came, whatever came on the link
abbrev pub DialsUpUntold : Type 0
DialsUpUntold = (to : Target) (came : List ℕ)
    → Refused (λ g. fails g ∷ e.Accepted 1 door.Inbound ∷ e.Came 1 came ∷ e.Dialled 2 to (whys.Upstream 1 1) ∷ [])

-- CLOSES

-- a link whose peer ended before its front header was whole is closed as one that broke; a healthy one is closed; and the run goes on
abbrev pub ClosesLinkForSecond : Type 0
ClosesLinkForSecond = Refused (λ g. dials g ∷ accepts ∷ e.Ended 2 ∷ e.Closed 2 cause.Broken ∷ waits ∷ [])

abbrev pub ClosesHealthyLink : Type 0
ClosesHealthyLink = Refused (λ g. dials g ∷ accepts ∷ e.Closed 2 cause.Broken ∷ waits ∷ [])

-- BYTES

-- more bytes went to an upstream than came on its link
abbrev pub SendsMore : Type 0
SendsMore = (g : NodeConfig) (trace : List Entry) (l s u : ℕ) → Lawful g trace → owner u trace ≡ upstream_of l s
    → length (recv l trace) < length (sent u trace) → ⊥
