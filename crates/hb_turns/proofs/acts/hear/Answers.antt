use Rattle.std.proofs.Common.{◌∙◌}
use Rattle.hb_ready.specs.Registry.{kept}
use Rattle.hb_turns.proofs.Watching.{watched-heard, watched-unheard}
use Rattle.hb_turns.proofs.acts.hear.Goals as goal

pub returns-in-None-clause-keeps : goal.returns-in-None-clause-keeps
returns-in-None-clause-keeps g c = λ trace s.
    let m = s.matches in
    let it = c.in-None.ensures.hears m.notes trace m.node in
    record {
      matches = record { notes = m.notes; node = it.0; taken_are = m.taken_are; obeys = m.obeys };
      watched = watched-unheard (kept c.args.run.now.records.links) trace (g.N.Node.shown c.args.run.now.node)
          (g.N.Node.shown c.next_stirred.new.self) m.obeys.links it.1 c.next_stirred.ensures.same s.watched;
      going = c.next_stirred.ensures.same.ends_for ∙ s.going;
    }

pub returns-in-Some-clause-keeps : goal.returns-in-Some-clause-keeps
returns-in-Some-clause-keeps g c = λ trace s.
    let m = s.matches in
    let o = m.obeys in
    let it = c.in-Some.ensures.hears m.notes trace m.node in
    record {
      matches = record {
        notes = m.notes;
        node = it.0;
        taken_are = m.taken_are;
        obeys = record {
          links = λ l. c.list.ensures.links l ∙ o.links l;
          doors = o.doors;
          numbered = o.numbered;
          births_are = o.births_are;
          wanting_is = o.wanting_is;
          revoked_are = o.revoked_are;
          awake = o.awake;
          settled = o.settled;
        };
      };
      watched = watched-heard (kept c.args.run.now.records.links) (kept c.list.new.self) trace (g.N.Node.shown c.args.run.now.node)
          (g.N.Node.shown c.next_stirred.new.self) c.in-Some.link o.links it.1 c.next_stirred.ensures.same c.list.ensures.links
          c.list.ensures.lists s.watched;
      going = c.next_stirred.ensures.same.ends_for ∙ s.going;
    }
