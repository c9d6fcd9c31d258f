use Rattle.std.proofs.Common.{◌≡◌, ◌-◌, ◌≤◌, ◌++◌, length, slice_range, arith, ap, ap₂, sym, refl, ◌∙◌}
use Rattle.std.proofs.lemmas.List.{with_items_is}
use Rattle.hb_buffer.proofs.Cutting.{appended, at_front}
use Rattle.hb_buffer.proofs.buffer.Buffer.append.Goals as goal
use Rattle.hb_buffer.proofs.buffer.Buffer.append.Goals.{then-self-piece, else-self-piece}

pub returns : goal.returns
returns c =
    let old = c.self.inside in
    let b = c.if-self-piece.self-inside in
    let held : (slice_range b.bytes.items b.start b.end ≡ slice_range old.bytes.items old.start old.end)
    × (b.size ≡ old.size) × (b.start ≤ b.end) × (b.end ≤ length b.bytes.items) =
    elim c.if-self-piece.branch [
      | then-self-piece w ↦
          let moved = w.move_down.new.bytes in
          let full = w.move_down.ensures.len ∙ w.as_mut_slice.ensures.len in
          let value = rw w.as_mut_slice.ensures.value at w.move_down.ensures.value in
          rw (w.self-inside-is, with_items_is old.bytes moved full)
          (at_front old.bytes.items moved old.start old.end (old.end - old.start) refl value, refl, omega arith, omega (arith, full, c.self.invariant))
      | else-self-piece w ↦ rw w.self-inside-is (refl, refl, omega (arith, c.self.invariant), omega (arith, c.self.invariant))
    ] in
    let (same, size, order, within) = held in
    let stands = appended b.bytes.items c.put_over.new.bytes.items c.args.piece.now b.start b.end order within c.put_over.ensures.items in
    rw (sym c.self.view_is) (ap₂ (λ xs n. record { items = xs; size = n }) (stands ∙ ap (λ xs. xs ++ c.args.piece.now) same) size)
