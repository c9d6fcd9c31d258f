use Rattle.std.proofs.Common.{◌≡◌, ℕ, Bool, true, false, Option, Some, is_some, refl, ap, sym, ◌∙◌, subst}
use Rattle.std.specs.FinMap.{get}
use Rattle.hb_gate.specs.Calls.{Drops, IsCarrying}
use Rattle.hb_gate.specs.declared.gate.Gate.{Gate}
use Rattle.hb_map.proofs.Laws.{written_where_some}
use Rattle.hb_map.specs.Keyed.{written}
use Rattle.hb_relays.specs.Joining.{Gates}
use Rattle.hb_relays.specs.Leaving.{ResetsIf, GivesUp, GivesUpOn}
use Rattle.hb_relays.specs.Stirring.{Stirs}
use Rattle.hb_relays.specs.Walks.{gate_touched_at}
use Rattle.hb_relays.specs.declared.relays.Relays.{Relays}
use Rattle.hb_relays.proofs.Stirs.{none_stirs, gate_told_stirs}
use Rattle.hb_relays.proofs.relays.Relays.give_up.Goals as goal
use Rattle.hb_relays.proofs.relays.Relays.give_up.Goals.{then-carries, else-carries}

given_up : (k j m : Relays) (gates : Gates) (n s begun : ℕ) (kept mid after : Gate) (carries : Bool) → get k.gates n ≡ Some kept
    → Drops s begun kept mid → IsCarrying mid carries → ResetsIf carries mid after → gates ≡ written k.gates n after
    → j ≡ record k { gates = gates } → m ≡ gate_touched_at n j → GivesUp n s k m
given_up k j m gates n s begun kept mid after carries is drops carrying resets gates_is j_is m_is =
    subst (λ (o : Option Gate). GivesUpOn o n s k m) (sym is) (
      mid,
      after,
      begun,
      drops,
      (carries, carrying, resets),
      m_is ∙ ap (gate_touched_at n) j_is
          ∙ ap (λ (all : Gates). gate_touched_at n (record k { gates = all }))
          (gates_is ∙ written_where_some k.gates n after (ap is_some is)),
    )

so_stirs : (k j m : Relays) (gates : Gates) (n : ℕ) (after : Gate) → gates ≡ written k.gates n after → j ≡ record k { gates = gates }
    → m ≡ gate_touched_at n j → Stirs k m
so_stirs k j m gates n after gates_is j_is m_is = gate_told_stirs k m gates n after gates_is (m_is ∙ ap (gate_touched_at n) j_is)

pub returns-in_default-clause-gives : goal.returns-in_default-clause-gives
returns-in_default-clause-gives c =
    let k = c.args.self.now in
    let n = c.args.number in
    subst (λ (all : Gates). GivesUp n c.args.stream k (record k { gates = all })) (sym c.at.follows.holds-at-none)
    (subst (λ (o : Option Gate). GivesUpOn o n c.args.stream k k) (sym c.in_default.ensures.none) refl)

pub returns-in_default-clause-stirs : goal.returns-in_default-clause-stirs
returns-in_default-clause-stirs c =
    let k = c.args.self.now in
    subst (λ (all : Gates). Stirs k (record k { gates = all })) (sym c.at.follows.holds-at-none) (none_stirs k)

pub returns-clause-gives : goal.returns-clause-gives
returns-clause-gives c =
    let k = c.args.self.now in
    let kept = c.in-Some.gate.now in
    let mid = c.give_up.new.self in
    elim c.if-carries.branch [
      | then-carries w ↦ given_up k c.if-carries.self c.touch_gate.new.self _ c.args.number c.args.stream c.give_up.result kept mid
          w.reset_ended.new.self true c.in-Some.ensures.value c.give_up.ensures
          (λ x shows. sym w.if-carries.true ∙ c.carries.ensures x shows) w.reset_ended.ensures.resets
          (c.at.follows.holds w.reset_ended.new.self) w.self-is c.touch_gate.ensures
      | else-carries w ↦ given_up k c.if-carries.self c.touch_gate.new.self _ c.args.number c.args.stream c.give_up.result kept mid mid
          false c.in-Some.ensures.value c.give_up.ensures (λ x shows. sym w.if-carries.false ∙ c.carries.ensures x shows) refl
          (c.at.follows.holds mid) w.self-is c.touch_gate.ensures
    ]

pub returns-clause-stirs : goal.returns-clause-stirs
returns-clause-stirs c =
    let k = c.args.self.now in
    let mid = c.give_up.new.self in
    elim c.if-carries.branch [
      | then-carries w ↦ so_stirs k c.if-carries.self c.touch_gate.new.self _ c.args.number w.reset_ended.new.self
          (c.at.follows.holds w.reset_ended.new.self) w.self-is c.touch_gate.ensures
      | else-carries w ↦ so_stirs k c.if-carries.self c.touch_gate.new.self _ c.args.number mid (c.at.follows.holds mid) w.self-is
          c.touch_gate.ensures
    ]
