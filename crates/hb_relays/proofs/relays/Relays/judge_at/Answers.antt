use Rattle.std.proofs.Common.{◌≡◌, false, Option, Some, None, is_some, IfNone, sym, ◌∙◌, subst}
use Rattle.std.proofs.lemmas.Bool.{true≢false}
use Rattle.hb_relays.specs.Stirring.{Stirs}
use Rattle.hb_relays.specs.declared.relays.Relays.{Relays}
use Rattle.hb_relays.proofs.Stirs.{told_stirs, spared_stirs}
use Rattle.hb_relays.proofs.relays.Relays.judge_at.Goals as goal
use Rattle.hb_relays.proofs.relays.Relays.judge_at.Goals.{then-is_some, else-is_some}

unmade : {A : Type 0} {P : Type 0} (o : Option A) → is_some o ≡ false → IfNone o P → P
unmade None none holds = holds
unmade (Some a) none holds = absurd (true≢false none)

pub returns-clause-stirs : goal.returns-clause-stirs
returns-clause-stirs g c =
    let k = c.args.self.now in
    let new = c.judge-made.new.self in
    elim c.if-is_some.branch [
      | then-is_some w ↦ subst (λ (m : Relays). Stirs k m) (sym w.self-is)
          (told_stirs k w.touch.new.self _ k.routes c.args.number new w.touch.ensures (c.at.follows.holds new))
      | else-is_some w ↦ spared_stirs k c.if-is_some.self _ c.args.number c.in-Some.relay.now new c.in-Some.ensures.value
          (unmade c.judge-made.result (sym c.is_some.ensures ∙ w.if-is_some.false) c.judge-made.ensures.same)
          (c.at.follows.holds new) w.self-is
    ]
