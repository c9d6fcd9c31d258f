use Rattle.std.proofs.Common.{◌≡◌, ℕ, false, Option, Some, None, ap, sym, ◌∙◌, subst, rules}
use Rattle.hb_base.specs.declared.door.Why.{Why}
use Rattle.hb_base.specs.declared.door.Why.TheVariants as whys
use Rattle.hb_model.specs.Discovery.{dialled}
use Rattle.hb_node.specs.contracts.node.Node.{the_view}
use Rattle.hb_node.specs.State.{State, Answers}
use Rattle.hb_node.proofs.Dialling.{other_answers, failed_enters, dialled_enters}
use Rattle.hb_node.proofs.node.Node.dialled.Goals as goal

pub returns-in_default-clause-machine : goal.returns-in_default-clause-machine
returns-in_default-clause-machine c = other_answers c.args.why c.args.link c.args.self.now c.in_default.not-Discovery

-- the answer to the dial of the control plane
answers_so : (why : Why) (link given : Option ℕ) (old new : State) → why ≡ whys.Discovery → link ≡ given
    → Answers whys.Discovery given old new → Answers why link old new
answers_so why link given old new for is answers =
    subst (λ w. Answers w link old new) (sym for) (subst (λ l. Answers whys.Discovery l old new) (sym is) answers)

pub returns-in_ok-link-clause-machine : goal.returns-in_ok-link-clause-machine
returns-in_ok-link-clause-machine c =
    let old = c.args.self.now in
    let new = c.match-self.self in
    let next = c.in_ok-link.link in
    let is : new ≡ record old { dials = false; link = Some next } = search rules in
    answers_so c.args.why c.args.link (Some c.in-Some.number) old new c.in-Discovery.is c.in-Some.is
    (dialled_enters c.in-Some.number old new next is (c.in_ok-link.ensures {u = tt}).number
    ((c.in_ok-link.ensures {u = tt}).part ∙ ap (λ (s : State). dialled s.config.id s.config.discovery s.held) c.self.view_is))

pub returns-in_default-link-clause-machine : goal.returns-in_default-link-clause-machine
returns-in_default-link-clause-machine c =
    let old = c.args.self.now in
    let new = the_view (record (c.self.inside) { dials = false }) in
    answers_so c.args.why c.args.link None old new c.in-Discovery.is c.in_default-link.is
    (failed_enters old new (ap (λ (s : State). record s { dials = false }) c.self.view_is))
