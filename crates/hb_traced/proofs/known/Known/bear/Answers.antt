use Rattle.std.proofs.Common.{◌≡◌, ◌+◌, ℕ, List, sym, subst, ap, ◌∙◌}
use Rattle.hb_world.specs.declared.entry.Entry.{Entry}
use Rattle.hb_traced.specs.Call.{entries_of}
use Rattle.hb_traced.proofs.Keeping.{Knows, knows-birth, bears-call, born-uncounted}
use Rattle.hb_traced.proofs.known.Known.bear.Goals as goal

pub invariant_of-self : goal.invariant_of-self
invariant_of-self c =
    let k = c.args.self.now in
    let was : Knows k.past.entries k.links k.born = record { count = k.count; living = k.living; unborn = k.unborn; unclosed = k.unclosed } in
    let next : c.args.link ≡ k.born + 1 = c.requires.next ∙ ap (λ (n : ℕ). n + 1) k.count in
    let is : Knows c.hear.new.self.entries c.insert.new.self c.args.link = subst
    (λ (t : List Entry). Knows t c.insert.new.self c.args.link) (sym c.hear.ensures)
    (knows-birth k.past.entries (entries_of c.args.call.now k.past.entries) k.links c.insert.new.self k.born c.args.link 0 was
    (bears-call c.args.call.now k.past.entries c.args.link c.requires.birth) next c.in-Ok.ensures.updates.0) in
    record { count = is.count; living = is.living; unborn = is.unborn; unclosed = is.unclosed }

pub returns-clause-link_faults : goal.returns-clause-link_faults
returns-clause-link_faults c =
    let k = c.args.self.now in
    let was : Knows k.past.entries k.links k.born = record { count = k.count; living = k.living; unborn = k.unborn; unclosed = k.unclosed } in
    let next : c.args.link ≡ k.born + 1 = c.requires.next ∙ ap (λ (n : ℕ). n + 1) k.count in
    born-uncounted k.past.entries k.links c.insert.new.self k.born c.args.link was next c.in-Ok.ensures.updates.0
