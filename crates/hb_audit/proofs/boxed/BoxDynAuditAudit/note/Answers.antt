use Rattle.std.proofs.Common.{rules, ◌≡◌, ◌≤◌}
use Rattle.hb_base.specs.Count.{Counts}
use Rattle.hb_audit.specs.Held.{held_after, has_failed}
use Rattle.hb_audit.specs.Told.{told_of}
use Rattle.hb_audit.proofs.Lent.{lent, so_then}
use Rattle.hb_audit.proofs.boxed.BoxDynAuditAudit.note.Goals as goal

pub returns-clause-own : goal.returns-clause-own
returns-clause-own g c =
    lent _ (λ i x y. (goal.Audit-dyn g (i, x)).answers x (told_of c.args.n.now c.args.reason) c.note.result y) c.args.self.now _
    c.note.new.self (search rules)
    c.note.ensures.0

pub returns-clause-held : goal.returns-clause-held
returns-clause-held g c =
    so_then c.args.self.now _ _
    (λ a. (goal.Audit-dyn g (a.vtable, a.value)).notes a.value
    ≡ held_after ((goal.Audit-dyn g
    (c.args.self.now.vtable, c.args.self.now.value)).notes c.args.self.now.value) c.args.n.now c.note.result)
    (lent _ (λ i x y. (goal.Audit-dyn g (i, x)).notes y ≡ held_after ((goal.Audit-dyn g (i, x)).notes x) c.args.n.now c.note.result)
    c.args.self.now _ c.note.new.self (search rules) c.note.ensures.1.0)
    (λ inside so. so)

pub returns-clause-later : goal.returns-clause-later
returns-clause-later g c =
    so_then c.args.self.now _ _
    (λ a. (goal.Audit-dyn g (c.args.self.now.vtable, c.args.self.now.value)).faults c.args.self.now.value
    ≤ (goal.Audit-dyn g (a.vtable, a.value)).faults a.value)
    (lent _ (λ i x y. (goal.Audit-dyn g (i, x)).faults x ≤ (goal.Audit-dyn g (i, x)).faults y)
    c.args.self.now _ c.note.new.self (search rules) c.note.ensures.1.1.0)
    (λ inside so. so)

pub returns-clause-counts : goal.returns-clause-counts
returns-clause-counts g c =
    so_then c.args.self.now _ _
    (λ a. Counts ((goal.Audit-dyn g (c.args.self.now.vtable, c.args.self.now.value)).faults c.args.self.now.value)
    ((goal.Audit-dyn g (a.vtable, a.value)).faults a.value) (has_failed c.note.result))
    (lent _ (λ i x y. Counts ((goal.Audit-dyn g (i, x)).faults x) ((goal.Audit-dyn g (i, x)).faults y) (has_failed c.note.result))
    c.args.self.now _ c.note.new.self (search rules) c.note.ensures.1.1.1)
    (λ inside so. so)
