use Rattle.std.proofs.Common.{Bool, subst, sym}
use Rattle.hb_relays.specs.Looking.{HearsLook, LooksOnce, ServesAt}
use Rattle.hb_relays.proofs.Finding.{looks_once, serves_not}
use Rattle.hb_relays.proofs.LeftToLook.{look_falls}
use Rattle.hb_relays.proofs.relays.Relays.look.Goals as goal

pub returns-then-not-serves-clause-looks : goal.returns-then-not-serves-clause-looks
returns-then-not-serves-clause-looks g c =
    serves_not c.args.number c.args.self.now (g.N.Notes.told c.args.notes.now)
    (subst (ServesAt c.args.number c.args.self.now) c.if-not-serves.true c.serves.ensures)

pub returns-clause-looks : goal.returns-clause-looks
returns-clause-looks g c =
    subst (λ (more : Bool). LooksOnce c.args.number more c.args.self.now (g.N.Notes.told c.args.notes.now) c.reset_gate.new.self
    (g.N.Notes.told c.settle_gate.new.notes)) (sym c.is_more.ensures)
    (looks_once c.args.number c.args.self.now c.find.new.self c.hear.new.self c.settle_gate.new.self c.reset_gate.new.self c.in_ok-look.look
    c.find.new.bytes.items (g.N.Notes.told c.args.notes.now) (g.N.Notes.told c.hear.new.notes) (g.N.Notes.told c.settle_gate.new.notes)
    (subst (ServesAt c.args.number c.args.self.now) c.if-not-serves.false c.serves.ensures) c.in_ok-look.ensures.finds
    (subst (λ b. HearsLook c.in_ok-look.look b c.find.new.self (g.N.Notes.told c.args.notes.now) c.hear.new.self
    (g.N.Notes.told c.hear.new.notes)) c.as_slice.ensures.value c.hear.ensures.hears) c.settle_gate.ensures.settles
    c.reset_gate.ensures.resets)

pub returns-clause-falls : goal.returns-clause-falls
returns-clause-falls g c =
    let told = g.N.Notes.told c.args.notes.now in
    let one = g.N.Notes.told c.hear.new.notes in
    look_falls c.args.number c.args.self.now c.find.new.self c.hear.new.self c.settle_gate.new.self c.reset_gate.new.self
    c.in_ok-look.look c.as_slice.result.now told one c.is_more.result c.in_ok-look.ensures.falls c.hear.ensures.hears
    c.settle_gate.ensures.left c.reset_gate.ensures.left c.is_more.ensures
