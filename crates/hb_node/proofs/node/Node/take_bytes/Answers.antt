use Rattle.std.proofs.Common.{◌≡◌, true, Some, Result, Ok, Err, IfOk, ap, sym, ◌∙◌, subst}
use Rattle.hb_held.specs.Held.{Resources}
use Rattle.hb_world.specs.declared.entry.Entry.TheVariants as e
use Rattle.hb_model.specs.Discovery.{came}
use Rattle.hb_node.specs.contracts.node.Node.{the_view}
use Rattle.hb_node.specs.Judging.{seen}
use Rattle.hb_node.specs.Phases.{is_live}
use Rattle.hb_node.specs.Links.{part_of, Settles}
use Rattle.hb_node.specs.State.{State, Enters, EntersJudged}
use Rattle.hb_node.proofs.Entering.{keeps, came_enters, enters_so}
use Rattle.hb_node.proofs.node.Node.take_bytes.Goals as goal

-- what holds where there was memory makes another thing hold there
both_ok : {A E : Type 0} (r : Result A E) (When Then Too So : Type 0) → (When → IfOk r (λ x. Then)) → IfOk r (λ x. Too)
    → ((When → Then) → Too → So) → IfOk r (λ x. So)
both_ok (Ok x) When Then Too So first second makes = makes first second
both_ok (Err why) When Then Too So first second makes = tt

so_ok : {A E : Type 0} (r : Result A E) (First So : Type 0) → (First → So) → IfOk r (λ x. First) → IfOk r (λ x. So)
so_ok (Ok x) First So makes first = makes first
so_ok (Err why) First So makes first = tt

pub returns-then-l-link-clause-judged : goal.returns-then-l-link-clause-judged
returns-then-l-link-clause-judged g c =
    let judges = g.J.Judge.judges in
    let old = c.args.self.now in
    let before = c.args.judge.now in
    let after = c.take.new.judge in
    let b = c.args.b.now in
    let k = c.in-Some.l in
    let next = c.take.new.self in
    let new = the_view (record (c.self.inside) { held = c.take.new.held; link = Some next }) in
    let link_is : old.link ≡ Some k = ap (λ (s : State). s.link) (sym c.self.view_is) ∙ c.in-Some.is in
    let is : new ≡ record old { held = new.held; link = Some next } =
    ap (λ (s : State). record s { held = new.held; link = Some next }) c.self.view_is in
    let held_is : c.self.inside.held ≡ old.held = ap (λ (s : State). s.held) c.self.view_is in
    both_ok c.take.result (is_live k.phase ≡ true)
    (Settles judges k.number (seen c.self.inside.held before) (came b (part_of k)) (seen c.take.new.held after) (part_of next))
    (next.number ≡ k.number)
    (EntersJudged judges (e.Came c.args.link b) old new before after) c.take.ensures.live c.take.ensures.number
    (λ live number. subst (λ l. EntersJudged judges (e.Came l b) old new before after) c.if-l-link.true
    (came_enters judges old new before after k next b (keeps old new k next new.held link_is is number)
    (λ lives. subst (λ (h : Resources). Settles judges k.number (seen h before) (came b (part_of k)) (seen new.held after) (part_of next))
    held_is (live lives))))

pub returns-then-l-link-clause-enters : goal.returns-then-l-link-clause-enters
returns-then-l-link-clause-enters g c =
    let new = the_view (record (c.self.inside) { held = c.take.new.held; link = Some c.take.new.self }) in
    so_ok c.take.result
    (EntersJudged g.J.Judge.judges (e.Came c.args.link c.args.b.now) c.args.self.now new c.args.judge.now c.take.new.judge)
    (Enters (e.Came c.args.link c.args.b.now) c.args.self.now new)
    (enters_so g.J.Judge.judges (e.Came c.args.link c.args.b.now) c.args.self.now new c.args.judge.now c.take.new.judge)
    (returns-then-l-link-clause-judged g c)
