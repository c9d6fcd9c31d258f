use Rattle.std.proofs.Common.{List, sym, subst}
use Rattle.hb_world.specs.declared.entry.Entry.{Entry}
use Rattle.hb_traced.specs.Call.{entries_of}
use Rattle.hb_traced.proofs.Keeping.{Knows, knows-still, still-call}
use Rattle.hb_traced.proofs.known.Known.miss.Goals as goal

pub invariant_of-self : goal.invariant_of-self
invariant_of-self c =
    let k = c.args.self.now in
    let was : Knows k.past.entries k.links k.born = record { count = k.count; living = k.living; unborn = k.unborn; unclosed = k.unclosed } in
    let is : Knows c.hear.new.self.entries k.links k.born = subst (λ (t : List Entry). Knows t k.links k.born) (sym c.hear.ensures)
    (knows-still k.past.entries (entries_of c.args.call.now k.past.entries) k.links k.born was
    (still-call c.args.call.now k.past.entries c.requires)) in
    record { count = is.count; living = is.living; unborn = is.unborn; unclosed = is.unclosed }
