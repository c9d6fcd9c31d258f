use Rattle.std.proofs.Common.{[], ◌∷◌, sym, subst}
use Rattle.hb_world.specs.declared.entry.ReadyItem.{ReadyItem}
use Rattle.hb_ready.specs.Registry.{kept}
use Rattle.hb_turns.specs.Woken.{Wakes}
use Rattle.hb_turns.proofs.Waking.{wakes-link, wakes-door, watched-woken}
use Rattle.hb_turns.proofs.waits.wake_item.Goals as goal

pub returns-in-Link-clause-wakes : goal.returns-in-Link-clause-wakes
returns-in-Link-clause-wakes c =
    subst (λ (x : ReadyItem). Wakes c.args.records.now (record c.args.records.now { links = c.wake.new.self }) (x ∷ [])) (sym c.in-Link.is)
    (wakes-link c.args.records.now c.wake.new.self c.in-Link.link c.wake.ensures.links)

pub returns-in-Door-clause-wakes : goal.returns-in-Door-clause-wakes
returns-in-Door-clause-wakes c =
    subst (λ (x : ReadyItem). Wakes c.args.records.now (record c.args.records.now { asked = c.set.new.self }) (x ∷ [])) (sym c.in-Door.is)
    (wakes-door c.args.records.now c.set.new.self c.in-Door.door c.set.ensures)

pub returns-in-Link-clause-watched : goal.returns-in-Link-clause-watched
returns-in-Link-clause-watched c = λ s.
    watched-woken (kept c.args.records.now.links) (kept c.wake.new.self) s c.in-Link.link c.wake.ensures.links c.wake.ensures.lists
