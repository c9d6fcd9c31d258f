use Rattle.std.proofs.Common.{◌≡◌, Some, refl, ap, sym, ◌∙◌, subst}
use Rattle.hb_world.specs.declared.entry.Entry.TheVariants as e
use Rattle.hb_node.specs.contracts.node.Node.{the_view}
use Rattle.hb_node.specs.Links.{part_of}
use Rattle.hb_node.specs.State.{State, EntersAlone}
use Rattle.hb_node.proofs.Entering.{keeps, none_enters, other_enters, opened_enters}
use Rattle.hb_node.proofs.node.Node.opened.Goals as goal
use Rattle.hb_node.proofs.node.Node.opened.Goals.{in-Some+then-l-link, in-Some+else-l-link, in_default}

pub returns : goal.returns
returns c =
    let old = c.args.self.now in
    let new = the_view c.match-self.self-inside in
    let link = c.args.link in
    let link_is : c.self.inside.link ≡ old.link = ap (λ (s : State). s.link) c.self.view_is in
    elim c.match-self.branch [
      | in-Some+then-l-link w ↦
          let k = w.in-Some.l in
          let next = record k { phase = w.opened-l.result } in
          let is : new ≡ record old { link = Some next } =
          ap the_view w.self-inside-is ∙ ap (λ (s : State). record s { link = Some next }) c.self.view_is in
          subst (λ l. EntersAlone (e.Opened l) old new) w.if-l-link.true
          (opened_enters old new k next (keeps old new k next old.held (sym link_is ∙ w.in-Some.is) is refl)
          (ap (λ (s : State). s.held) is) (ap (λ p. record (part_of k) { phase = p }) w.opened-l.ensures))
      | in-Some+else-l-link w ↦
          other_enters (e.Opened link) link old new w.in-Some.l refl (sym link_is ∙ w.in-Some.is) w.if-l-link.false
          (ap (λ i. (the_view i).config) w.self-inside-is ∙ ap (λ (s : State). s.config) c.self.view_is)
      | in_default w ↦
          none_enters (e.Opened link) link old new refl (sym link_is ∙ w.in_default.is)
          (ap (λ i. (the_view i).config) w.self-inside-is ∙ ap (λ (s : State). s.config) c.self.view_is)
    ]
