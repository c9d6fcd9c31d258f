use Rattle.std.proofs.Common.{refl}
use Rattle.std.specs.Prelude.{⊤}
use Rattle.hb_link.specs.Putting.{PutsBelow}
use Rattle.hb_link.proofs.PutsOn.{puts_somewhere}
use Rattle.hb_link.proofs.Settles.{settles_then, stays}
use Rattle.hb_link.proofs.Rousing.{rouses_same, rouses_then}
use Rattle.hb_link.proofs.link.Link.put_behind.Goals as goal

pub loop-from-init : goal.loop-from-init
loop-from-init g c =
    let k = c.args.self.now in (
      λ limits. stays limits (λ held. ⊤) (PutsBelow 0 0) (PutsBelow 0 0) k (g.N.Notes.told c.args.notes.now) (λ x below. below),
      rouses_same k k refl refl,
    )

pub loop-from-preserved : goal.loop-from-preserved
loop-from-preserved g c =
    let k = c.args.self.now in
    let mid = c.loop-from.self in
    let next = c.put_on.new.self in
    let s = c.in-Some.stream in
    let told = g.N.Notes.told c.args.notes.now in
    let before = g.N.Notes.told c.loop-from.notes in
    let behind = g.N.Notes.told c.put_on.new.notes in (
      λ limits. settles_then limits (λ held. ⊤) (PutsBelow 0 0) (PutsBelow 0 0) (PutsBelow 0 0) k mid next told before behind
          (c.loop-from.invariant.0 limits) (puts_somewhere mid s next before behind (c.put_on.ensures.settles s) limits),
      rouses_then k mid next c.loop-from.invariant.1 c.put_on.ensures.rouses,
    )

pub returns-then-not-is_empty-clause-settles : goal.returns-then-not-is_empty-clause-settles
returns-then-not-is_empty-clause-settles g c = c.loop-from.invariant.0

pub returns-clause-settles : goal.returns-clause-settles
returns-clause-settles g c = c.loop-from.invariant.0

pub returns-then-not-is_empty-clause-rouses : goal.returns-then-not-is_empty-clause-rouses
returns-then-not-is_empty-clause-rouses g c = c.loop-from.invariant.1

pub returns-clause-rouses : goal.returns-clause-rouses
returns-clause-rouses g c = c.loop-from.invariant.1
