-- Which call of the world is due of a link.
use Rattle.std.specs.Prelude.{◌≡◌, ◌⊎◌, ℕ, ◌<◌, List, Option, Some, None}
use Rattle.std.specs.FinMap.{get}
use Rattle.hb_base.specs.declared.door.Why.TheVariants as whys
use Rattle.hb_held.specs.Held.{Resources}
use Rattle.hb_world.specs.declared.act.Act.{Act}
use Rattle.hb_world.specs.declared.act.Act.TheVariants as act
use Rattle.hb_world.specs.declared.entry.Entry.{Entry}
use Rattle.hb_world.specs.declared.entry.Entry.TheVariants as e
use Rattle.hb_inbound.specs.Calm.{IsIdleBy, close_due}
use Rattle.hb_inbound.specs.Inbound.{Inbound}
use Rattle.hb_inbound.specs.Part.{Part, entry, up}
use Rattle.hb_inbound.specs.Runs.{Local, Steps, StandsFor}
use Rattle.hb_inbound.specs.Tunnel as t
use Rattle.hb_link.specs.declared.link.Link.{Link}
use Rattle.hb_link.specs.Shows.{Shows}

-- no act is due
pub record NoneIsDue (x : Inbound) : Type 0 where
  pub no_close : close_due x.phase ≡ None
  pub idle : (s : ℕ) → IsIdleBy (x.tunnels s).stage (x.tunnels s)

-- none is due of the tunnels on the streams before this one
abbrev pub IsFirst : ℕ → Link → Type 0
IsFirst s old = (x : Inbound) → Shows old x → (k : ℕ) → k < s → IsIdleBy (x.tunnels k).stage (x.tunnels k)

-- a part may come in each run that was shown, and behind it nothing happens by itself: the code shows the run with it
abbrev pub Does : Part → Link → Link → Type 0
Does p old new = (a : Local) → Shows old a.link → (b : Local) × Steps old.number a p b × Shows new b.link

abbrev pub DoesUp : Entry → Link → Link → Type 0
DoesUp x old new = (s : ℕ) × IsFirst s old × Does (up s x) old new

-- Acts come by rising stream, and the link's own close once it has no tunnel. A dial is due until its answer is told. A shut or a close
-- counts as done
abbrev pub Acts : Option Act → Link → Link → Type 0
Acts None old new =
    (new ≡ old) × ((start : Resources) (before : List Part) (a : Local) → StandsFor old.number start a before → Shows old a.link
    → NoneIsDue a.link)
Acts (Some (act.Dial to why)) old new =
    (new ≡ old) × (s : ℕ) × (why ≡ whys.Upstream old.number s) × IsFirst s old
    × ((x : Inbound) → Shows old x → ((x.tunnels s).stage ≡ t.due) × (to ≡ (x.tunnels s).target))
Acts (Some (act.Shut u)) old new = DoesUp (e.Shut u) old new
Acts (Some (act.Close u cause)) old new =
    ((u ≡ old.number) × ((s : ℕ) → get new.tunnels s ≡ None) × Does (entry (e.Closed u cause)) old new)
    ⊎ DoesUp (e.Closed u cause) old new
