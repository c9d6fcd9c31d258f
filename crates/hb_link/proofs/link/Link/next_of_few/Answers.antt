use Rattle.std.proofs.Common.{refl, sym, ap, Option, Some, subst, ◌∙◌}
use Rattle.hb_link.specs.Rousing.{Passes}
use Rattle.hb_link.proofs.Passing.{passes_same, none_passes, some_passes, still_passes}
use Rattle.hb_link.proofs.link.Link.next_of_few.Goals as goal

pub loop-stream-init : goal.loop-stream-init
loop-stream-init c = passes_same c.args.self.now

pub loop-stream-preserved : goal.loop-stream-preserved
loop-stream-preserved c =
    let m = c.loop-stream.self in
    none_passes c.args.self.now m (record m.roused { few = c.pop.new.self }) c.in-Some.stream c.loop-stream.invariant
    (c.in-Some.ensures {u = tt}).items refl (sym c.up_at-up.ensures ∙ c.if-up-ne0.false)

pub returns-then-up-ne0-clause-passes : goal.returns-then-up-ne0-clause-passes
returns-then-up-ne0-clause-passes c =
    let k = c.args.self.now in
    let m = c.loop-stream.self in
    let r = record m.roused { few = c.pop.new.self } in
    subst (λ (told : Option _). Passes told k (record m { roused = r })) (sym (ap Some c.up_at-up.ensures))
    (some_passes k m r c.in-Some.stream c.loop-stream.invariant (c.in-Some.ensures {u = tt}).items refl)

pub returns-clause-passes : goal.returns-clause-passes
returns-clause-passes c =
    let m = c.loop-stream.self in
    still_passes c.args.self.now m (record m.roused { few = c.pop.new.self }) c.loop-stream.invariant
    (c.in_default.ensures {u = tt}).items refl
