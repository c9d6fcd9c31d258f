use Rattle.std.proofs.Common.{Option, subst, Bool}
use Rattle.hb_gateway.specs.Keys.{key_as}
use Rattle.hb_relays.specs.Joining.{OffersAt}
use Rattle.hb_relays.proofs.Offering.{NoneBefore, first_starts, first_goes, first_found, first_none, first_is}
use Rattle.hb_relays.proofs.joining.first_offering.Goals as goal

pub loop-from-init : goal.loop-from-init
loop-from-init c =
    first_starts c.args.gates.now (key_as c.args.key.now) c.first_from-from.result
    (first_is c.args.gates.now c.first_from-from.result c.first_from-from.ensures)

pub returns-then-offers_at : goal.returns-then-offers_at
returns-then-offers_at c =
    let gates = c.args.gates.now in
    let key = key_as c.args.key.now in
    first_found gates key c.in-Some.number
    (subst (λ (from : Option _). NoneBefore gates key from) c.in-Some.is c.loop-from.invariant)
    (subst (λ (b : Bool). OffersAt gates c.in-Some.number key b) c.if-offers_at.true c.offers_at.ensures)

pub loop-from-preserved : goal.loop-from-preserved
loop-from-preserved c =
    let gates = c.args.gates.now in
    let key = key_as c.args.key.now in
    first_goes gates key c.in-Some.number c.next_behind-from.result
    (subst (λ (from : Option _). NoneBefore gates key from) c.in-Some.is c.loop-from.invariant)
    (subst (λ (b : Bool). OffersAt gates c.in-Some.number key b) c.if-offers_at.false c.offers_at.ensures) c.next_behind-from.ensures

pub returns : goal.returns
returns c =
    let gates = c.args.gates.now in
    let key = key_as c.args.key.now in
    first_none gates key (subst (λ (from : Option _). NoneBefore gates key from) c.in_default.is c.loop-from.invariant)
