use Rattle.std.proofs.Common.{Option, refl, subst, ◌∙◌}
use Rattle.hb_relays.specs.Looking.{ToldAt}
use Rattle.hb_relays.proofs.LeftToLook.{tells_left}
use Rattle.hb_relays.proofs.Settling.{Mailing, mails_start, mails_go, mails_end, told_already}
use Rattle.hb_relays.proofs.Stirs.{none_stirs, stirs_all_then}
use Rattle.hb_relays.proofs.relays.Relays.settle_gate.Goals as goal

pub returns-then-is_told-clause-settles : goal.returns-then-is_told-clause-settles
returns-then-is_told-clause-settles g c =
    told_already c.args.number c.args.self.now (g.N.Notes.told c.args.notes.now)
    (subst (ToldAt c.args.number c.args.self.now) c.if-is_told.true c.is_told.ensures)

pub returns-then-is_told-clause-stirs : goal.returns-then-is_told-clause-stirs
returns-then-is_told-clause-stirs g c = none_stirs c.args.self.now

pub loop-from-init : goal.loop-from-init
loop-from-init g c = record {
  told = mails_start c.args.number c.args.self.now (g.N.Notes.told c.args.notes.now);
  left = refl;
  stirs = none_stirs c.args.self.now;
}

pub loop-from-preserved : goal.loop-from-preserved
loop-from-preserved g c =
    let it = c.tell_at.ensures.tells in
    record {
      told = mails_go c.args.number c.in-Some.stream c.loop-from.self it.1 c.tell_at.new.self it.0 (g.N.Notes.told c.loop-from.notes)
          (g.N.Notes.told c.tell_at.new.notes) it.2 it.3 c.args.self.now (g.N.Notes.told c.args.notes.now) c.stream_behind-from.result
          c.stream_behind-from.ensures
          (subst (λ (from : Option _). Mailing c.args.number c.args.self.now c.loop-from.self from (g.N.Notes.told c.args.notes.now)
          (g.N.Notes.told c.loop-from.notes)) c.in-Some.is c.loop-from.invariant.told);
      left = tells_left c.args.number c.in-Some.stream c.loop-from.self c.tell_at.new.self (g.N.Notes.told c.loop-from.notes)
          (g.N.Notes.told c.tell_at.new.notes) it ∙ c.loop-from.invariant.left;
      stirs = stirs_all_then c.args.self.now c.loop-from.self c.tell_at.new.self c.loop-from.invariant.stirs c.tell_at.ensures.stirs;
    }

pub returns-clause-settles : goal.returns-clause-settles
returns-clause-settles g c =
    mails_end c.args.number c.args.self.now c.loop-from.self (g.N.Notes.told c.args.notes.now) (g.N.Notes.told c.loop-from.notes)
    (subst (λ (from : Option _). Mailing c.args.number c.args.self.now c.loop-from.self from (g.N.Notes.told c.args.notes.now)
    (g.N.Notes.told c.loop-from.notes)) c.in_default.is c.loop-from.invariant.told)
