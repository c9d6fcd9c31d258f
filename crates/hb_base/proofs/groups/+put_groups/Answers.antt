use Rattle.std.proofs.Common.{◌+◌, ◌-◌, ◌/◌, ◌%◌, ◌∷◌, [], sym, arith}
use Rattle.std.proofs.lemmas.List.{append-nil}
use Rattle.std.proofs.lemmas.Result.{on_ok_weaker}
use Rattle.hb_base.specs.Groups.{groups_of}
use Rattle.hb_base.proofs.FrontLemmas.{both, front_all, front_then}
use Rattle.hb_base.proofs.GroupLemmas.{groups_none, groups_last, groups_more}
use Rattle.hb_base.proofs.groups.+put_groups.Goals as goal

pub returns-then-most-eq0-clause-ok : goal.returns-then-most-eq0-clause-ok
returns-then-most-eq0-clause-ok t c = rw (c.if-most-eq0.true, groups_none) (sym (append-nil c.args.out.now.items))

pub returns-then-n-lt128-clause-ok : goal.returns-then-n-lt128-clause-ok
returns-then-n-lt128-clause-ok t c =
    rw (groups_last c.args.most c.args.n (omega (arith, c.if-most-eq0.false)) c.if-n-lt128.true) c.in_ok-push.ensures.items

pub returns-then-n-lt128-clause-front : goal.returns-then-n-lt128-clause-front
returns-then-n-lt128-clause-front t c =
    rw (groups_last c.args.most c.args.n (omega (arith, c.if-most-eq0.false)) c.if-n-lt128.true)
    (front_all _ _ _ c.in_ok-push.ensures.items)

pub returns-clause-ok : goal.returns-clause-ok
returns-clause-ok t c =
    rw (groups_more c.args.most c.args.n (omega (arith, c.if-most-eq0.false)) c.if-n-lt128.false)
    (on_ok_weaker c.put_groups.result
    (λ h. both c.args.out.now.items c.push-2.new.self.items c.put_groups.new.out.items ((c.args.n % 128 + 128) ∷ [])
    (groups_of (c.args.most - 1) (c.args.n / 128)) c.in_ok-push-2.ensures.items h) c.put_groups.ensures.ok)

pub returns-clause-front : goal.returns-clause-front
returns-clause-front t c =
    rw (groups_more c.args.most c.args.n (omega (arith, c.if-most-eq0.false)) c.if-n-lt128.false)
    (front_then c.args.out.now.items c.push-2.new.self.items c.put_groups.new.out.items ((c.args.n % 128 + 128) ∷ [])
    (groups_of (c.args.most - 1) (c.args.n / 128)) c.in_ok-push-2.ensures.items c.put_groups.ensures.front)
