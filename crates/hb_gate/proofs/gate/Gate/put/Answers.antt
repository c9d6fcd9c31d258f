use Rattle.std.proofs.Common.{◌≡◌, ℕ, ◌<◌, ◌≤◌, true, length, rules, ap, sym, ◌∙◌, subst, List}
use Rattle.hb_conn.specs.Connection.{Connection}
use Rattle.hb_conn.specs.Observed.{data_put, own_side_open}
use Rattle.hb_streams.specs.declared.sides.Sides.{Sides}
use Rattle.hb_gate.specs.Calls.{Puts}
use Rattle.hb_gate.proofs.Puts.{open_as, puts_few, puts_waiting, puts_some}
use Rattle.hb_gate.proofs.gate.Gate.put.Goals as goal

pub returns-then-not-is_empty-clause-puts : goal.returns-then-not-is_empty-clause-puts
returns-then-not-is_empty-clause-puts c =
    let some : 0 < length c.output.result.now = search rules in
    puts_waiting c.args.self.now c.args.stream c.args.bytes.now (subst (λ (xs : List ℕ). 0 < length xs) c.output.ensures some)

pub returns-clause-puts : goal.returns-clause-puts
returns-clause-puts c =
    let k = c.args.self.now in
    let s = c.args.stream in
    let bytes = c.args.bytes.now in
    let own : own_side_open k.conn s ≡ true =
    sym (ap (λ (w : Sides). w.own) c.sides.ensures) ∙ open_as c.sides.result.own c.if-not-sides.false in
    subst (λ (d : Connection). Puts s bytes c.put_some-count.result k (record k { conn = d })) (sym c.put_some-count.ensures.after)
    (subst (λ (n : ℕ). Puts s bytes n k (record k { conn = data_put k.conn s bytes })) (sym c.put_some-count.ensures.count)
    (puts_some k s bytes own))

pub returns-clause-most : goal.returns-clause-most
returns-clause-most c =
    subst (λ (n : ℕ). n ≤ length c.args.bytes.now) (sym c.put_some-count.ensures.count)
    (puts_few c.args.self.now.conn c.args.stream c.args.bytes.now)
