use Rattle.std.proofs.Common.{◌≡◌, ◌+◌, ◌-◌, ◌<◌, ◌≤◌, ◌∷◌, [], ◌∙◌}
use Rattle.std.proofs.lemmas.Result.{on_ok_weaker}
use Rattle.hb_hpack.specs.Integer.{full}
use Rattle.hb_base.specs.Groups.{groups_of}
use Rattle.hb_hpack.proofs.Integers.{full_is}
use Rattle.hb_hpack.proofs.Appending.{ok_then, err_then, grown, grown_by, grown_then, front_of, on_err, integer_small, integer_large}
use Rattle.hb_hpack.proofs.encoder.put_integer.Goals as goal

pub returns-then-n-from-clause-ok : goal.returns-then-n-from-clause-ok
returns-then-n-from-clause-ok c =
    let whole : c.from.result ≡ full c.args.prefix = c.from.ensures ∙ full_is c.args.prefix c.requires.prefix in
    let lt : c.args.n < full c.args.prefix = rw whole at c.if-n-from.true in
    rw (integer_small c.args.prefix c.args.flag c.args.n lt) c.in_ok-push.ensures.items

pub returns-clause-ok : goal.returns-clause-ok
returns-clause-ok c =
    let whole = full_is c.args.prefix c.requires.prefix in
    let le : full c.args.prefix ≤ c.args.n = rw (c.from.ensures, whole) at c.if-n-from.false in
    let first = rw whole at c.in_ok-push-2.ensures.items in
    let groups = rw (c.from-2.ensures, whole) at c.put_groups.ensures.ok in
    rw (integer_large c.args.prefix c.args.flag c.args.n le)
    (on_ok_weaker c.put_groups.result
    (λ h. ok_then c.args.out.now.items c.push-2.new.self.items c.put_groups.new.out.items ((c.args.flag + full c.args.prefix) ∷ [])
    (groups_of 10 (c.args.n - full c.args.prefix)) first h) groups)

pub returns-clause-grows : goal.returns-clause-grows
returns-clause-grows c =
    let first = grown_by _ _ _ c.in_ok-push-2.ensures.items in
    grown_then _ _ _ first (grown _ _ _ c.put_groups.ensures.front)

pub returns-clause-err : goal.returns-clause-err
returns-clause-err c =
    let whole = full_is c.args.prefix c.requires.prefix in
    let le : full c.args.prefix ≤ c.args.n = rw (c.from.ensures, whole) at c.if-n-from.false in
    let first = rw whole at c.in_ok-push-2.ensures.items in
    let groups = rw (c.from-2.ensures, whole) at c.put_groups.ensures.front in
    rw (integer_large c.args.prefix c.args.flag c.args.n le)
    (on_err c.put_groups.result
    (err_then c.args.out.now.items c.push-2.new.self.items c.put_groups.new.out.items ((c.args.flag + full c.args.prefix) ∷ [])
    (groups_of 10 (c.args.n - full c.args.prefix)) first (front_of _ _ _ groups)))
