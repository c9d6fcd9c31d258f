use Rattle.std.proofs.Common.{sym, ◌∙◌, subst}
use Rattle.std.proofs.lemmas.Bool.{and_parts}
use Rattle.hb_conn.specs.Connection.{Connection}
use Rattle.hb_gate.specs.Calls.{Finishes}
use Rattle.hb_gate.proofs.Puts.{finishes, finishes_not}
use Rattle.hb_gate.proofs.gate.Gate.finish.Goals as goal

pub put_end-requires : goal.put_end-requires
put_end-requires c = (and_parts _ _ (sym c.can_finish.ensures ∙ c.if-can_finish.true)).0

pub returns-then-can_finish : goal.returns-then-can_finish
returns-then-can_finish c =
    let k = c.args.self.now in
    subst (λ (d : Connection). Finishes c.args.stream k (record k { conn = d })) (sym c.put_end.ensures) (finishes k c.args.stream)

pub returns-else-can_finish : goal.returns-else-can_finish
returns-else-can_finish c = finishes_not c.args.self.now c.args.stream (sym c.can_finish.ensures ∙ c.if-can_finish.false)
