use Rattle.std.proofs.Common.{sym, ◌∙◌, subst}
use Rattle.hb_gateway.specs.Response.{cancel}
use Rattle.hb_gate.specs.Calls.{Drops}
use Rattle.hb_gate.specs.Streams.{Map}
use Rattle.hb_gate.specs.declared.stream.Stage.TheVariants.{Failing}
use Rattle.hb_gate.proofs.Dropped.{drops_reset, drops_gone}
use Rattle.hb_gate.proofs.Moved.{written_changes, behind_changes}
use Rattle.hb_gate.proofs.gate.Gate.give_up.Goals as goal

pub returns-then-is_reset : goal.returns-then-is_reset
returns-then-is_reset c =
    let k = c.args.self.now in
    let s = c.args.number in
    let old = c.in-Some.stream.now in
    let new = record old { stage = Failing cancel } in
    let now = c.at.follows.lender new in
    drops_reset k s now old c.in-Some.ensures.value (sym c.can_reset-is_reset.ensures ∙ c.if-is_reset.true)
    (written_changes k.streams s old new now c.in-Some.ensures.value (c.at.follows.holds new))

pub returns-else-is_reset : goal.returns-else-is_reset
returns-else-is_reset c =
    let k = c.args.self.now in
    let s = c.args.number in
    let old = c.in-Some.stream.now in
    let now = c.at.follows.lender old in
    subst (λ (m : Map). Drops s old.begun k (record k { streams = m })) (sym c.remove.ensures.rest)
    (drops_gone k s _ old c.in-Some.ensures.value (sym c.can_reset-is_reset.ensures ∙ c.if-is_reset.false)
    (behind_changes k.streams s old old now c.in-Some.ensures.value (c.at.follows.holds old)))
