use Rattle.std.proofs.Common.{◌≡◌, ap, sym, ◌∙◌, subst, rules, SFits, w64, to_z, of_z, to_z-of_z}
use Rattle.std.specs.FinMap.{get}
use Rattle.std.specs.Int.{int_min}
use Rattle.hb_flow.specs.Sizes.{limit_by, limit_on}
use Rattle.hb_flow.proofs.Limits.{IsLimitUpTo, limit_at_first, limit_with, limit_of_all}
use Rattle.hb_flow.proofs.flow.Flow.size_limit.Goals as goal

pub loop-next-init : goal.loop-next-init
loop-next-init c = limit_at_first c.args.self.now c.args.unbegun_stream c.args.unbegun _ c.first_behind-next.ensures

pub loop-next-preserved : goal.loop-next-preserved
loop-next-preserved c =
    let f = c.args.self.now in
    let of = c.args.unbegun_stream in
    let unbegun = c.args.unbegun in
    let least_fits : SFits w64 c.min-limit.result = search rules in
    let one_fits : SFits w64 c.limit_on-on_stream.result = search rules in
    let one : to_z w64 (of_z w64 c.limit_on-on_stream.result) ≡ limit_on f of unbegun c.in-Some.stream =
    to_z-of_z one_fits ∙ c.limit_on-on_stream.ensures
    ∙ ap (λ u. limit_by u (get f.streams c.in-Some.stream)) c.unbegun_on.ensures in
    let is = c.min-limit.ensures.value ∙ ap (int_min _) one in
    let so = subst (λ n. IsLimitUpTo f of unbegun n (to_z w64 c.loop-next.limit-bits)) c.in-Some.is c.loop-next.invariant in
    subst (IsLimitUpTo f of unbegun c.first_behind-next-in-Some.result) (sym (to_z-of_z least_fits))
    (limit_with f of unbegun c.in-Some.stream _ _ _ is so c.first_behind-next-in-Some.ensures)

pub returns : goal.returns
returns c =
    let f = c.args.self.now in
    let of = c.args.unbegun_stream in
    let unbegun = c.args.unbegun in
    let limit = to_z w64 c.loop-next.limit-bits in
    limit_of_all f of unbegun limit (subst (λ n. IsLimitUpTo f of unbegun n limit) c.in_default.is c.loop-next.invariant)
