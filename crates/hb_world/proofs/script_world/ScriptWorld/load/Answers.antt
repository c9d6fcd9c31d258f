use Rattle.std.proofs.Common.{rules, ◌≡◌, List, [], sym, subst}
use Rattle.hb_world.specs.Allowed.{Allowed}
use Rattle.hb_world.specs.declared.entry.Entry.{Entry}
use Rattle.hb_world.specs.WorldState.{ScriptState}
use Rattle.hb_world.proofs.AllowedLemmas.{allowed-none}
use Rattle.hb_world.proofs.script_world.ScriptWorld.load.Goals as goal

pub invariant_of-self : goal.invariant_of-self
invariant_of-self c =
    let none : c.self.inside.trace ≡ [] = subst (λ (w : ScriptState). w.trace ≡ []) (sym c.self.view_is) c.requires.trace in (
      search rules,
      search rules,
      subst (λ (t : List Entry). Allowed c.args.lines t) (sym none) (allowed-none c.args.lines),
    )
