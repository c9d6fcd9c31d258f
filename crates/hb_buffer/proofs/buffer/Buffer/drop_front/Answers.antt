use Rattle.std.proofs.Common.{◌+◌, ◌≤◌, arith, ap, sym}
use Rattle.hb_buffer.proofs.Cutting.{gone, held_length}
use Rattle.hb_buffer.proofs.buffer.Buffer.drop_front.Goals as goal

pub returns-else-self : goal.returns-else-self
returns-else-self c =
    let b = c.self.inside in
    let held = held_length b.bytes.items b.start b.end (omega (arith, c.self.invariant)) in
    let fits = rw (sym c.self.view_is) at c.requires in
    let within : b.start + c.args.n ≤ b.end = omega (arith, held, fits, c.self.invariant) in
    rw (sym c.self.view_is) (ap (λ xs. record { items = xs; size = b.size }) (gone b.bytes.items b.start c.args.n b.end within))
