use Rattle.std.proofs.Common.{ℕ, ◌^◌, ◌<◌, ◌≡◌, min, rules, sym, subst}
use Rattle.hb_conn.specs.Connection.{Connection}
use Rattle.hb_conn.specs.Observed.{creditable}
use Rattle.hb_gate.specs.Calls.{Credits}
use Rattle.hb_gate.proofs.Puts.{credits_so}
use Rattle.hb_gate.proofs.gate.Gate.credit.Goals as goal

pub returns : goal.returns
returns c =
    let k = c.args.self.now in
    let few : creditable k.conn c.args.stream < 2 ^ 32 =
    subst (λ (i : ℕ). i < 2 ^ 32) c.creditable-creditable.ensures c.creditable-creditable.type_inv in
    let is : c.min-count.result ≡ min c.args.n (creditable k.conn c.args.stream) = search rules in
    subst (λ (d : Connection). Credits c.args.stream c.args.n k (record k { conn = d })) (sym c.credit.ensures)
    (credits_so k c.args.stream c.args.n c.min-count.result is few)
