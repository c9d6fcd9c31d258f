-- Which call of the world is due of a link, and what its owner sees of it.
use Rattle.std.specs.Prelude.{◌≡◌, ◌⊎◌, ℕ, List, Option, Some, None}
use Rattle.hb_world.specs.declared.act.Act.{Act}
use Rattle.hb_world.specs.declared.act.Act.TheVariants as act
use Rattle.hb_world.specs.declared.entry.Entry.TheVariants as e
use Rattle.hb_captured.specs.Answer.{address_of, why_for}
use Rattle.hb_captured.specs.Calm.{IsIdleBy, wants, up_wants, output, up_output}
use Rattle.hb_captured.specs.Captured.{Captured, due}
use Rattle.hb_captured.specs.Part.{Part, entry, up}
use Rattle.hb_captured.specs.Runs.{Local, MayGo, next}
use Rattle.hb_relay.specs.declared.relay.Relay.{Relay}
use Rattle.hb_relay.specs.Shows.{Shows, captured_of}

-- a part may come in each link that was shown, and the link with it is shown then
abbrev pub Does : Part → Relay → Relay → Type 0
Does p old new = (a : Local) → Shows old a.link → MayGo old.number a p × Shows new (next a p).link

-- A dial is due until its answer is told, that of its gateway also until a stream is asked for. A shut or a close counts as done: the
-- upstream's, or the link's own, whose upstream is closed then
abbrev pub Acts : Option Act → Relay → Relay → Type 0
Acts None old new =
    (captured_of new ≡ captured_of old) × ((x : Captured) → Shows old x → IsIdleBy x.stage x)
Acts (Some (act.Dial to why)) old new =
    (captured_of new ≡ captured_of old)
    × ((x : Captured) → Shows old x → (x.stage ≡ due) × (to ≡ address_of x.aim) × (why ≡ why_for x.aim x.door old.number))
Acts (Some (act.Shut u)) old new =
    ((u ≡ old.number) × Does (entry (e.Shut u)) old new) ⊎ Does (up (e.Shut u)) old new
Acts (Some (act.Close u why)) old new =
    ((u ≡ old.number) × (new.up ≡ 0) × Does (entry (e.Closed u why)) old new) ⊎ Does (up (e.Closed u why)) old new

-- how much may be read of the link and of its upstream, and the bytes that wait for them
abbrev pub Wants : Relay → ℕ → Type 0
Wants k n = (x : Captured) → Shows k x → n ≡ wants x

abbrev pub UpWants : Relay → ℕ → Type 0
UpWants k n = (x : Captured) → Shows k x → n ≡ up_wants x

abbrev pub Holds : Relay → List ℕ → Type 0
Holds k held = (x : Captured) → Shows k x → held ≡ output x

abbrev pub UpHolds : Relay → List ℕ → Type 0
UpHolds k held = (x : Captured) → Shows k x → held ≡ up_output x
