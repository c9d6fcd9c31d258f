use Rattle.std.proofs.Common.{◌+◌, ◌≤◌, arith, ap, sym, ◌∙◌}
use Rattle.std.proofs.lemmas.List.{with_items_is}
use Rattle.hb_buffer.proofs.Cutting.{cut_out, held_length}
use Rattle.hb_buffer.proofs.buffer.Buffer.cut.Goals as goal

pub returns : goal.returns
returns c =
    let b = c.self.inside in
    let held = held_length b.bytes.items b.start b.end (omega (arith, c.self.invariant)) in
    let fits = rw (sym c.self.view_is) at c.requires in
    let within : b.start + (c.args.at + c.args.n) ≤ b.end = omega (arith, held, fits, c.self.invariant) in
    let moved = rw c.as_mut_slice.ensures.value at c.copy_within.ensures.after in
    let full = c.copy_within.ensures.len ∙ c.as_mut_slice.ensures.len in
    rw (sym c.self.view_is, with_items_is b.bytes c.copy_within.new.self full, moved)
    (ap (λ xs. record { items = xs; size = b.size })
    (cut_out b.bytes.items b.start c.args.at c.args.n b.end within (omega (arith, c.self.invariant))))
