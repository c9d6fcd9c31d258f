-- What the event loop sees of the whole proxy.
use Rattle.std.specs.Prelude.{ℕ, ◌+◌, ◌-◌, ◌==◌, nat_lt, ◌&&◌, Bool, true, false, is_none, if◌then◌else◌, List, Option, Some, None}
use Rattle.hb_base.specs.declared.cause.Cause.{Cause}
use Rattle.std.specs.FinMap.{get}
use Rattle.hb_turns.specs.Shown.{Shown}
use Rattle.hb_node.specs.State.{wants_on, output_on, number_of, says_last, closing_of, due_of}
use Rattle.hb_links.specs.Busy as busy
use Rattle.hb_links.specs.Calls as links
use Rattle.hb_links.specs.Stirring as stirring
use Rattle.hb_relays.specs.Calls as relays
use Rattle.hb_relays.specs.Stirring as relays_stirring
use Rattle.hb_relays.specs.Touched as touched
use Rattle.hb_whole.specs.Queue.{waiting}
use Rattle.hb_whole.specs.declared.owner.Owner.{Owner}
use Rattle.hb_whole.specs.declared.owner.Owner.TheVariants.{Control, Plain, Inbound}
use Rattle.hb_whole.specs.declared.proxy.Proxy.{Proxy}
use Rattle.hb_whole.specs.declared.side.Applied.{Applied}
use Rattle.hb_whole.specs.declared.side.Side.{Side}

-- a link is the one to the control plane that lives
abbrev pub is_number : Option ℕ → ℕ → Bool
is_number None l = false
is_number (Some k) l = k == l

abbrev pub owns : Proxy → ℕ → Bool
owns p l = is_number (number_of p.control.link) l

-- it stirred, and that wasn't told
abbrev pub own_told : Proxy → Option ℕ
own_told p = if p.stirs then number_of p.control.link else None

-- whose the link of a number is: the control plane's, else the plain links' where those have it, else the inbound links'
abbrev pub owner_by : (own has : Bool) → Owner
owner_by true has = Control
owner_by false true = Plain
owner_by false false = Inbound

abbrev pub owner_of : Proxy → ℕ → Owner
owner_of p l = owner_by (owns p l) (relays.has_of p.side.relays l)

-- how many bytes may be read, and what is to be written, on a link by whose it is
abbrev pub wants_by : Owner → Proxy → ℕ → ℕ
wants_by Control p l = wants_on p.control.link l
wants_by Plain p l = relays.wants_of p.side.relays l
wants_by Inbound p l = links.wants_of p.side.links l

abbrev pub output_by : Owner → Proxy → ℕ → List ℕ
output_by Control p l = output_on p.control.link l
output_by Plain p l = relays.held_of p.side.relays l
output_by Inbound p l = links.held_of p.side.links l

-- A write goes before the acts that are due: behind a connection error. On an inbound link, and on one to a gateway, it does only where the
-- control plane rests; a plain link has no last words
abbrev pub last_by : Owner → Proxy → ℕ → Bool
last_by Control p l = says_last p.control.link
last_by Plain p l = is_none (due_of p.control) && relays.last_at p.side.relays l
last_by Inbound p l = is_none (due_of p.control) && links.last_at (get p.side.links.links l)

abbrev pub stirs_by : Owner → Proxy → ℕ → Bool
stirs_by Control p l = p.stirs
stirs_by Plain p l = relays_stirring.stirs_at p.side.relays l
stirs_by Inbound p l = stirring.stirs_at p.side.links l

-- no act is due of the inbound links, nor of the plain ones
abbrev pub is_idle : Side → Bool
is_idle side = busy.is_idle side.links && touched.is_idle side.relays.due && touched.is_idle side.relays.gate_due

-- no act is due, and none is but a dial, while the run goes on
abbrev pub idle_by : Option Cause → Proxy → Bool
idle_by (Some cause) p = true
idle_by None p = is_none (due_of p.control) && is_idle p.side

abbrev pub closes_by : Option Cause → Proxy → Bool
closes_by (Some cause) p = true
closes_by None p = is_none (closing_of p.control.link) && is_idle p.side

-- one more inbound link, or one to a gateway, may be open
abbrev pub has_room : Proxy → Bool
has_room p = nat_lt (links.count_of p.side.links + relays.gate_count p.side.relays) p.limits.links

-- how many places the tunnels of inbound links may take: each plain link that is kept takes one
abbrev pub places_of : Proxy → ℕ
places_of p = p.limits.tunnels - relays.count_of p.side.relays

-- what the responses did that were applied and weren't forgotten
abbrev pub applied_of : Proxy → List Applied
applied_of p = p.side.applied.items

abbrev pub shown_of : Proxy → Shown
shown_of p = record {
  wants = λ l. wants_by (owner_of p l) p l;
  output = λ l. output_by (owner_of p l) p l;
  last_words = λ l. last_by (owner_of p l) p l;
  idle = idle_by p.ends_for p;
  none_closes = closes_by p.ends_for p;
  dials = p.dials;
  stirs = λ l. stirs_by (owner_of p l) p l;
  first = number_of p.control.link;
  noted = waiting p.side.notes;
  ends_for = p.ends_for;
}
