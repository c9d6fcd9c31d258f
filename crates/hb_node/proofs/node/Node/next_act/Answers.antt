use Rattle.std.proofs.Common.{◌≡◌, Option, Some, None, sym, subst, rules}
use Rattle.hb_model.specs.declared.act.Act.{Act}
use Rattle.hb_model.specs.declared.act.Act.TheVariants as act
use Rattle.hb_node.specs.contracts.node.Node.{the_view}
use Rattle.hb_node.specs.State.{State, due_of, after_act, Acts}
use Rattle.hb_node.proofs.Acting.{acts}
use Rattle.hb_node.proofs.node.Node.next_act.Goals as goal

pub returns-in-Some-closing-2-clause-machine : goal.returns-in-Some-closing-2-clause-machine
returns-in-Some-closing-2-clause-machine c =
    let old = c.args.self.now in
    let new = the_view (record (c.match-self.self-inside) { link = None }) in
    let told : Option Act = Some (act.Close c.in-Some-closing-2.link c.in-Some-closing-2.cause) in
    let is : told ≡ due_of old = search rules in
    let after : new ≡ after_act old = search rules in
    subst (λ (a : Option Act). Acts a old new) (sym is) (subst (λ (s : State). Acts (due_of old) old s) (sym after) (acts old))
