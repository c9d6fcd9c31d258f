use Rattle.std.proofs.Common.{◌<◌, sym, subst}
use Rattle.std.specs.FinMap.{len}
use Rattle.std.specs.Option.{option_map}
use Rattle.hb_map.specs.Keyed.{IsFirstFrom}
use Rattle.hb_owed.specs.Debts.{Debts, AreNumbered}
use Rattle.hb_owed.proofs.Numbers.{numbered_removed}
use Rattle.hb_owed.proofs.Walks.{one_less, none_left}
use Rattle.hb_owed.proofs.owed.Owed.clear.Goals as goal

pub loop-stream-smaller : goal.loop-stream-smaller
loop-stream-smaller c =
    let held = c.loop-stream.self-inside.streams in
    let least = subst (λ o. IsFirstFrom held 0 (option_map (λ n. n) o)) c.in-Some.is c.first_from.ensures in
    subst (λ (m : Debts). len m < len held) (sym c.remove.ensures.rest) (one_less held c.in-Some.stream least)

pub loop-stream-preserved : goal.loop-stream-preserved
loop-stream-preserved c =
    subst AreNumbered (sym c.remove.ensures.rest)
    (numbered_removed c.loop-stream.self-inside.streams c.in-Some.stream c.loop-stream.invariant)

pub returns : goal.returns
returns c =
    let held = c.loop-stream.self-inside.streams in
    none_left held (subst (λ o. IsFirstFrom held 0 (option_map (λ n. n) o)) c.in_default.is c.first_from.ensures)
