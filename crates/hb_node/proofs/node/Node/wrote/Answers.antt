use Rattle.std.proofs.Common.{◌≡◌, Some, refl, ap, sym, ◌∙◌, subst}
use Rattle.hb_world.specs.declared.entry.Entry.TheVariants as e
use Rattle.hb_node.specs.contracts.node.Node.{the_view}
use Rattle.hb_node.specs.State.{State, Goes}
use Rattle.hb_node.proofs.Entering.{keeps, none_enters, other_enters, went_enters}
use Rattle.hb_node.proofs.node.Node.wrote.Goals as goal
use Rattle.hb_node.proofs.node.Node.wrote.Goals.{in-Some+then-l-link, in-Some+else-l-link, in_default}

pub returns : goal.returns
returns c =
    let old = c.args.self.now in
    let new = the_view c.match-self.self-inside in
    let link = c.args.link in
    let n = c.args.n in
    let link_is : c.self.inside.link ≡ old.link = ap (λ (s : State). s.link) c.self.view_is in
    elim c.match-self.branch [
      | in-Some+then-l-link w ↦
          let k = w.in-Some.l in
          let next = w.wrote.new.self in
          let is : new ≡ record old { link = Some next } =
          ap the_view w.self-inside-is ∙ ap (λ (s : State). record s { link = Some next }) c.self.view_is in
          subst (λ l. Goes l n old new) w.if-l-link.true
          (went_enters old new k next n (keeps old new k next old.held (sym link_is ∙ w.in-Some.is) is w.wrote.ensures.number)
          (ap (λ (s : State). s.held) is) w.wrote.ensures.part)
      | in-Some+else-l-link w ↦
          λ bytes many.
          other_enters (e.Went link bytes) link old new w.in-Some.l refl (sym link_is ∙ w.in-Some.is) w.if-l-link.false
          (ap (λ i. (the_view i).config) w.self-inside-is ∙ ap (λ (s : State). s.config) c.self.view_is)
      | in_default w ↦
          λ bytes many.
          none_enters (e.Went link bytes) link old new refl (sym link_is ∙ w.in_default.is)
          (ap (λ i. (the_view i).config) w.self-inside-is ∙ ap (λ (s : State). s.config) c.self.view_is)
    ]
