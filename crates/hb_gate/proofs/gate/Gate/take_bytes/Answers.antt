use Rattle.std.proofs.Common.{sym, subst}
use Rattle.hb_conn.specs.Connection.{Connection}
use Rattle.hb_world.specs.declared.entry.Entry.TheVariants as e
use Rattle.hb_gateway.specs.Part.{entry}
use Rattle.hb_gate.specs.Calls.{Enters}
use Rattle.hb_gate.proofs.Came.{comes, fares_with}
use Rattle.hb_gate.proofs.gate.Gate.take_bytes.Goals as goal

pub returns-clause-enters : goal.returns-clause-enters
returns-clause-enters c =
    let k = c.args.self.now in
    let bytes = c.args.b.now in
    subst (λ (d : Connection). Enters (entry (e.Came k.number bytes)) k (record k { conn = d })) (sym c.take.ensures.after) (comes k bytes)

pub returns-clause-fares : goal.returns-clause-fares
returns-clause-fares c = fares_with c.args.self.now c.args.b.now
