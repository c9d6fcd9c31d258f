use Rattle.std.proofs.Common.{◌≤◌, ℕ, length, take, drop, List, arith, sym, ap, ◌∙◌, length-append, length-take}
use Rattle.std.proofs.lemmas.Bool.Decides.{nat_tests}
use Rattle.hb_base.specs.MemSource.{Reading}
use Rattle.hb_base.proofs.BytesLemmas.{front_and_rest, rest_of}
use Rattle.hb_base.proofs.mem_source.MemSourceSource.take.Goals as goal

pub returns-clause-bytes : goal.returns-clause-bytes
returns-clause-bytes c =
    let is_left = ap (λ (s : Reading). s.left) (sym c.self.view_is) in
    let from_here = rest_of c.self.inside.at c.deref-2.result.now ∙ ap (λ (xs : List ℕ). drop c.self.inside.at xs)
    c.deref-2.ensures.value in
    let came = c.copy_from_slice.ensures.after ∙ ap (λ (xs : List ℕ). take c.min-n.result xs) from_here in
    let fits : c.min-n.result ≤ length (drop c.self.inside.at c.self.inside.bytes.items) =
    omega (arith, c.min-n.ensures, ap length from_here) in (
      grind (arith, nat_tests, c.min-n.ensures, c.is_empty.ensures, c.if-is_empty.false, c.requires),
      omega (
        arith,
        length-append c.copy_from_slice.new.self (drop c.min-n.result c.args.into.now),
        ap length came,
        length-take
            c.min-n.result (drop c.self.inside.at c.self.inside.bytes.items),
      ),
      is_left ∙ front_and_rest c.self.inside.bytes.items c.args.into.now c.copy_from_slice.new.self c.self.inside.at c.min-n.result fits
          came,
    )
