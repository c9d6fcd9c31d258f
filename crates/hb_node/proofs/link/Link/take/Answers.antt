use Rattle.std.proofs.Common.{◌≡◌, true, refl, ◌∙◌, rules}
use Rattle.hb_node.specs.Phases.{is_live}
use Rattle.hb_node.specs.Judging.{seen}
use Rattle.hb_node.specs.Links.{part_of}
use Rattle.hb_node.proofs.Settled.{begins, goes_on, last_settles}
use Rattle.hb_node.proofs.link.Link.take.Goals as goal

pub loop-init : goal.loop-init
loop-init g c =
    let lives : is_live c.args.self.now.phase ≡ true = search rules in (
      lives,
      refl,
      begins g.J.Judge.judges c.args.self.now.number (seen c.args.held.now c.args.judge.now)
          (record (c.args.self.now) { conn = c.take.new.self }) lives,
    )

pub loop-preserved : goal.loop-preserved
loop-preserved g c =
    let was = c.loop.invariant in (
      search rules,
      c.in_ok-look.ensures.number ∙ was.1,
      goes_on g.J.Judge.judges _ _ _ _ _ c.loop.self _ was.0 was.2 (rw was.1 at c.in_ok-look.ensures.goes),
    )

pub returns-clause-live : goal.returns-clause-live
returns-clause-live g c = λ lives.
    let was = c.loop.invariant in
    let settles = last_settles g.J.Judge.judges _ _ _ _ _ c.loop.self c.look.new.self (part_of c.send.new.self) was.0 was.2
    (rw was.1 at c.in_ok-look.ensures.goes) (c.in_ok-look.ensures.rests c.if-branch.false) c.send.ensures.part in
    rw c.take.ensures.after at settles
