use Rattle.std.proofs.Common.{List, sym, subst}
use Rattle.hb_world.specs.declared.entry.Entry.{Entry}
use Rattle.hb_traced.proofs.Keeping.{Knows, knows-close}
use Rattle.hb_traced.proofs.known.Known.close.Goals as goal

pub invariant_of-self : goal.invariant_of-self
invariant_of-self c =
    let k = c.args.self.now in
    let was : Knows k.past.entries k.links k.born = record { count = k.count; living = k.living; unborn = k.unborn; unclosed = k.unclosed } in
    let is : Knows c.hear.new.self.entries c.remove.new.self k.born = subst (λ (t : List Entry). Knows t c.remove.new.self k.born)
    (sym c.hear.ensures) (knows-close k.past.entries k.links c.remove.new.self k.born c.args.link c.args.cause was c.remove.ensures.updates.0) in
    record { count = is.count; living = is.living; unborn = is.unborn; unclosed = is.unclosed }
