use Rattle.std.proofs.Common.{Bool, false, subst, true}
use Rattle.hb_relays.specs.Looking.{LooksOnce}
use Rattle.hb_relays.proofs.LookingAll.{looks_end, looks_start, looks_then}
use Rattle.hb_relays.proofs.Stirs.{none_stirs, stirs_all_then}
use Rattle.hb_relays.proofs.relays.Relays.look_all.Goals as goal

pub loop-bytes-init : goal.loop-bytes-init
loop-bytes-init g c = record {
  looks = looks_start c.args.number c.args.self.now (g.N.Notes.told c.args.notes.now);
  stirs = none_stirs c.args.self.now;
}

pub loop-bytes-preserved : goal.loop-bytes-preserved
loop-bytes-preserved g c =
    let told = g.N.Notes.told c.args.notes.now in
    let mid = g.N.Notes.told c.loop-bytes.notes in
    let now = g.N.Notes.told c.look.new.notes in
    record {
      looks = looks_then c.args.number true c.args.self.now c.loop-bytes.self c.look.new.self told mid now c.loop-bytes.invariant.looks
          (subst (λ (b : Bool). LooksOnce c.args.number b c.loop-bytes.self mid c.look.new.self now) c.if-branch.true c.in_ok-look.ensures.looks);
      stirs = stirs_all_then c.args.self.now c.loop-bytes.self c.look.new.self c.loop-bytes.invariant.stirs c.in_ok-look.ensures.stirs;
    }

pub returns-clause-looks : goal.returns-clause-looks
returns-clause-looks g c =
    let told = g.N.Notes.told c.args.notes.now in
    let mid = g.N.Notes.told c.loop-bytes.notes in
    let now = g.N.Notes.told c.look.new.notes in
    looks_end c.args.number c.args.self.now c.look.new.self c.pump_gate.new.self told now (g.N.Notes.told c.pump_gate.new.notes)
    (looks_then c.args.number false c.args.self.now c.loop-bytes.self c.look.new.self told mid now c.loop-bytes.invariant.looks
    (subst (λ (b : Bool). LooksOnce c.args.number b c.loop-bytes.self mid c.look.new.self now) c.if-branch.false c.in_ok-look.ensures.looks))
    c.pump_gate.ensures.pumps

pub returns-clause-stirs : goal.returns-clause-stirs
returns-clause-stirs g c =
    stirs_all_then c.args.self.now c.look.new.self c.pump_gate.new.self
    (stirs_all_then c.args.self.now c.loop-bytes.self c.look.new.self c.loop-bytes.invariant.stirs c.in_ok-look.ensures.stirs) c.pump_gate.ensures.stirs
