use Rattle.std.proofs.Common.{◌≡◌, ◌/◌, ◌^◌, ◌≤◌, ◌<◌, ℕ, refl, arith, lit≤}
use Rattle.std.proofs.Math.Nat.{div-eq_of_lt, pow-le-pow_right}
use Rattle.hb_base.proofs.cidr.agree.Goals as goal

nothing_left : (n last : ℕ) → n < 2 ^ 128 → 128 ≤ last → n / 2 ^ last ≡ 0
nothing_left n last fits long =
    let large : 2 ^ 128 ≤ 2 ^ last = pow-le-pow_right (lit≤ tt) long in
    div-eq_of_lt (omega arith)

pub returns-then-last-ge128 : goal.returns-then-last-ge128
returns-then-last-ge128 c =
    rw (
      nothing_left c.args.a c.args.last (omega arith) c.if-last-ge128.true,
      nothing_left c.args.b c.args.last (omega arith) c.if-last-ge128.true,
    ) refl
