use Rattle.std.proofs.Common.{rules, ◌≡◌, ap, sym, ◌∙◌}
use Rattle.hb_counted.specs.declared.counts.Counts.{Counts}
use Rattle.hb_link.proofs.Idle.{none_answered}
use Rattle.hb_link.proofs.Turns.{all_give}
use Rattle.hb_link.proofs.link.Link.answer_all.Goals as goal

pub returns-then-counts-eq0-clause-settles : goal.returns-then-counts-eq0-clause-settles
returns-then-counts-eq0-clause-settles g c =
    let none : c.counts.result.marked ≡ 0 = search rules in
    (none_answered c.args.self.now c.counts.ensures.numbers (sym (ap (λ (c : Counts). c.marked) c.counts.ensures.value) ∙ none)
    (g.N.Notes.told c.args.notes.now)).settles

pub returns-clause-settles : goal.returns-clause-settles
returns-clause-settles g c =
    (all_give c.args.self.now c.answer_failures.new.self c.answer_ends.new.self (g.N.Notes.told c.args.notes.now)
    (g.N.Notes.told c.answer_failures.new.notes)
    (g.N.Notes.told c.answer_ends.new.notes) c.answer_failures.ensures c.answer_ends.ensures).settles

pub returns-clause-came : goal.returns-clause-came
returns-clause-came g c =
    (all_give c.args.self.now c.answer_failures.new.self c.answer_ends.new.self (g.N.Notes.told c.args.notes.now)
    (g.N.Notes.told c.answer_failures.new.notes)
    (g.N.Notes.told c.answer_ends.new.notes) c.answer_failures.ensures c.answer_ends.ensures).came
