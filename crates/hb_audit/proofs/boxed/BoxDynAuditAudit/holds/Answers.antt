use Rattle.std.proofs.Common.{rules, ◌≡◌}
use Rattle.std.specs.Prelude.{◌↔◌, Some, IsTrue}
use Rattle.hb_audit.specs.Held.{note_at}
use Rattle.hb_audit.proofs.Lent.{read}
use Rattle.hb_audit.proofs.boxed.BoxDynAuditAudit.holds.Goals as goal

pub returns : goal.returns
returns g c =
    read _ (λ i x. IsTrue c.holds.result ↔ note_at ((goal.Audit-dyn g (i, x)).notes x) c.args.place ≡ Some c.args.n.now) c.args.self.now _
    (search rules) c.holds.ensures
