use Rattle.std.proofs.Common.{◌∙◌, Bool, ap, refl, subst, sym}
use Rattle.hb_relays.specs.Leaving.{ResetsIf}
use Rattle.hb_relays.specs.Walks.{gate_touched_at}
use Rattle.hb_relays.proofs.LeftToLook.{put_stays}
use Rattle.hb_relays.proofs.Stirs.{gate_told_stirs}
use Rattle.hb_relays.proofs.Stopping.{reset_is}
use Rattle.hb_relays.proofs.relays.Relays.reset_gate.Goals as goal
use Rattle.hb_relays.proofs.relays.Relays.reset_gate.Goals.{then-carries, else-carries}

pub returns-clause-resets : goal.returns-clause-resets
returns-clause-resets c =
    let k = c.args.self.now in
    let kept = c.in-Some.gate.now in
    elim c.if-carries.branch [
      | then-carries w ↦
          reset_is k c.touch_gate.new.self _ c.args.number kept w.reset_ended.new.self c.carries.result c.in-Some.ensures.value
          c.carries.ensures
          (subst (λ (b : Bool). ResetsIf b kept w.reset_ended.new.self) (sym w.if-carries.true) w.reset_ended.ensures.resets)
          (c.at.follows.holds w.reset_ended.new.self) (c.touch_gate.ensures ∙ ap (gate_touched_at c.args.number) w.self-is)
      | else-carries w ↦
          reset_is k c.touch_gate.new.self _ c.args.number kept kept c.carries.result c.in-Some.ensures.value c.carries.ensures
          (subst (λ (b : Bool). ResetsIf b kept kept) (sym w.if-carries.false) refl) (c.at.follows.holds kept)
          (c.touch_gate.ensures ∙ ap (gate_touched_at c.args.number) w.self-is)
    ]

pub returns-clause-stirs : goal.returns-clause-stirs
returns-clause-stirs c =
    elim c.if-carries.branch [
      | then-carries w ↦
          gate_told_stirs c.args.self.now c.touch_gate.new.self _ c.args.number w.reset_ended.new.self
          (c.at.follows.holds w.reset_ended.new.self) (c.touch_gate.ensures ∙ ap (gate_touched_at c.args.number) w.self-is)
      | else-carries w ↦
          gate_told_stirs c.args.self.now c.touch_gate.new.self _ c.args.number c.in-Some.gate.now
          (c.at.follows.holds c.in-Some.gate.now) (c.touch_gate.ensures ∙ ap (gate_touched_at c.args.number) w.self-is)
    ]

pub returns-clause-left : goal.returns-clause-left
returns-clause-left c =
    let k = c.args.self.now in
    let kept = c.in-Some.gate.now in
    elim c.if-carries.branch [
      | then-carries w ↦
          put_stays k c.touch_gate.new.self _ c.args.number kept w.reset_ended.new.self c.in-Some.ensures.value
          (c.at.follows.holds w.reset_ended.new.self) (c.touch_gate.ensures ∙ ap (gate_touched_at c.args.number) w.self-is)
          w.reset_ended.ensures.left
      | else-carries w ↦
          put_stays k c.touch_gate.new.self _ c.args.number kept kept c.in-Some.ensures.value (c.at.follows.holds kept)
          (c.touch_gate.ensures ∙ ap (gate_touched_at c.args.number) w.self-is) refl
    ]
