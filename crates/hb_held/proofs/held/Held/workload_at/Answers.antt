use Rattle.std.proofs.Common.{ℕ, List, Some, None, ap, sym, subst, ◌∙◌}
use Rattle.std.specs.Option.{option_map}
use Rattle.hb_index.specs.Named.{Rise}
use Rattle.hb_index.proofs.Rising.{entries_rise}
use Rattle.hb_held.specs.Lookup.{workload_in, has_address, workload_at, found_as}
use Rattle.hb_held.proofs.Addressed.{workloads_named, no_workload_named}
use Rattle.hb_held.proofs.LeastLaw.{MissesNone, is_least_by, none_left, passed_over, first_found}
use Rattle.hb_held.proofs.held.Held.workload_at.Goals as goal

pub returns-in_err-names : goal.returns-in_err-names
unfolding workload_at
returns-in_err-names c =
    let h = c.args.self.now in
    ap (option_map found_as) c.from_residual.ensures
    ∙ is_least_by workload_in (has_address h.network c.args.ip) h.addresses None
    (no_workload_named h.addresses h.network c.args.ip c.in_err-names.ensures)

pub loop-name-init : goal.loop-name-init
loop-name-init c =
    let h = c.args.self.now in
    let names = c.in_ok-names.names.now in
    record {
      can = tt;
      ends = tt;
      rises = subst Rise (sym c.iter-rest.ensures.rest) (entries_rise names);
      all = subst (MissesNone workload_in (has_address h.network c.args.ip) h.addresses) (sym c.iter-rest.ensures.rest)
          (workloads_named h.addresses h.network c.args.ip names c.in_ok-names.ensures);
    }

pub returns-in-Some-workload_with : goal.returns-in-Some-workload_with
unfolding workload_at
returns-in-Some-workload_with c =
    let h = c.args.self.now in
    let p = has_address h.network c.args.ip in
    let e : List ℕ × Unit {0} = (c.in-Some.name.now, c.in-Some.field-0-1.now) in
    is_least_by workload_in p h.addresses (Some (c.in-Some.name.now, c.in-Some-workload_with.workload.now))
    (first_found workload_in p h.addresses e c.next.new.self c.in-Some-workload_with.workload.now
    (subst Rise c.in-Some.ensures.steps c.loop-name.invariant.rises)
    (subst (MissesNone workload_in p h.addresses) c.in-Some.ensures.steps c.loop-name.invariant.all)
    (sym c.in-Some-workload_with.ensures))

pub loop-name-preserved : goal.loop-name-preserved
loop-name-preserved c =
    let h = c.args.self.now in
    let p = has_address h.network c.args.ip in
    let e : List ℕ × Unit {0} = (c.in-Some.name.now, c.in-Some.field-0-1.now) in
    record {
      can = tt;
      ends = tt;
      rises = (subst Rise c.in-Some.ensures.steps c.loop-name.invariant.rises).1;
      all = passed_over workload_in p h.addresses e c.next.new.self
          (subst (MissesNone workload_in p h.addresses) c.in-Some.ensures.steps c.loop-name.invariant.all)
          (sym c.in_default-workload_with.ensures);
    }

pub returns : goal.returns
unfolding workload_at
returns c =
    let h = c.args.self.now in
    let p = has_address h.network c.args.ip in
    is_least_by workload_in p h.addresses None
    (none_left workload_in p h.addresses c.loop-name.rest c.loop-name.invariant.all c.in_default.ensures.steps.0)
