use Rattle.std.proofs.Common.{◌==◌, refl, sym, ap, ne_eqb}
use Rattle.hb_front.specs.Tlvs.{identity_kind}
use Rattle.hb_front.proofs.Scanning.{scanned_short, scanned_identity, scanned_other}
use Rattle.hb_front.proofs.identity.found_in.Goals as goal

pub returns-in_default-clause-err : goal.returns-in_default-clause-err
returns-in_default-clause-err c = (
  refl,
  scanned_short c.args.tlvs.now c.loop-rest.rest.now c.loop-rest.found c.loop-rest.invariant
      c.in_default.ensures.none (sym c.loop-rest-test.ensures),
)

pub loop-rest-preserved-then-kind : goal.loop-rest-preserved-then-kind
loop-rest-preserved-then-kind c =
    scanned_identity c.args.tlvs.now c.loop-rest.rest.now c.loop-rest.found c.with-found.result c.in-Some.kind c.in-Some.value.now
    c.in-Some.behind.now c.loop-rest.invariant c.in-Some.ensures.some
    (ap (λ kind. kind == identity_kind) c.if-kind.true) c.with-found.ensures

pub loop-rest-preserved : goal.loop-rest-preserved
loop-rest-preserved c =
    scanned_other c.args.tlvs.now c.loop-rest.rest.now c.loop-rest.found c.in-Some.kind c.in-Some.value.now
    c.in-Some.behind.now c.loop-rest.invariant c.in-Some.ensures.some
    (ne_eqb c.in-Some.kind identity_kind c.if-kind.false)
