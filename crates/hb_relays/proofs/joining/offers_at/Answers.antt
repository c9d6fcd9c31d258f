use Rattle.std.proofs.Common.{rules, ◌≡◌, Bool, Some, None, sym, subst}
use Rattle.std.specs.FinMap.{get}
use Rattle.hb_gateway.specs.Keys.{key_as}
use Rattle.hb_relays.specs.Joining.{OffersAt}
use Rattle.hb_relays.proofs.Offering.{offers_none, offers_full, offers_keyed}
use Rattle.hb_relays.proofs.joining.offers_at.Goals as goal

pub returns-in-None : goal.returns-in-None
returns-in-None c =
    let none : get c.args.gates.now c.args.number ≡ None = search rules in
    offers_none c.args.gates.now c.args.number (key_as c.args.key.now) none

pub returns-else-offers : goal.returns-else-offers
returns-else-offers c =
    let found : get c.args.gates.now c.args.number ≡ Some c.in-Some.gate.now = search rules in
    subst (λ (may : Bool). OffersAt c.args.gates.now c.args.number (key_as c.args.key.now) may) (sym c.if-offers.false)
    (offers_full c.args.gates.now c.args.number (key_as c.args.key.now) c.in-Some.gate.now found c.offers.result c.offers.ensures.machine
    c.if-offers.false)

pub returns-then-offers : goal.returns-then-offers
returns-then-offers c =
    let found : get c.args.gates.now c.args.number ≡ Some c.in-Some.gate.now = search rules in
    offers_keyed c.args.gates.now c.args.number (key_as c.args.key.now) c.in-Some.gate.now found c.offers.result c.is_for.result
    c.offers.ensures.machine c.offers.ensures.value c.if-offers.true c.is_for.ensures
