-- The lives of two links of the outbound door are runs of the machine.
use Rattle.std.proofs.Common.{inr, not, Bool, cond, [], Some, refl, ap, ◌∙◌, arith}
use Rattle.hb_base.specs.declared.cause.Cause.TheVariants as cause
use Rattle.hb_base.specs.declared.door.Door.TheVariants as door
use Rattle.hb_base.specs.declared.door.Why.TheVariants as whys
use Rattle.hb_route.specs.Answer.{number_of}
use Rattle.hb_world.specs.declared.entry.Entry.TheVariants as e
use Rattle.hb_captured.specs.Answer.{straight_to, unrouted, refused_with, by_way, way_on}
use Rattle.hb_captured.specs.OutboundRows.{StraightMayGo, unrouted_note, UnroutedMayGo}
use Rattle.hb_captured.specs.Part.{entry, up, refused, accepted, done, applied}
use Rattle.hb_captured.specs.Rows.{abc, def, accepted_note}
use Rattle.hb_captured.specs.Runs.{end_note}
use Rattle.hb_captured.proofs.OutboundRefused.{straight_aims}
use Rattle.hb_captured.proofs.Rows.{then, arrives, fronts, def_octets}

pub straight_may_go : StraightMayGo
straight_may_go start came seen to name r is goes =
    let s1 = then
    (fronts start door.Outbound tt (straight_to to (Some name)) came abc seen is (straight_aims start seen to (Some name) goes))
    (up (e.Dialled 3 to (whys.Direct 2))) ((tt, refl, refl, refl), refl, omega arith, (λ same. omega (arith, same))) in
    let s2 = then s1 (up (e.Opened 3)) (((tt, tt), refl), refl, omega arith) in
    let s3 = then s2 (accepted (accepted_note door.Outbound seen)) (refl, refl) in
    let s4 = then s3 (up (e.Went 3 abc)) ((((refl, (refl, refl)), refl), refl, omega arith), (omega arith, ([], refl))) in
    let s5 = then s4 (applied r) tt in
    let s6 = then s5 (up (e.Came 3 def)) ((((refl, (refl, refl)), refl), refl, omega arith), (def_octets, omega arith, omega arith)) in
    let s7 = then s6 (entry (e.Went 2 def)) (refl, ((refl, (refl, refl)), refl), (omega arith, ([], refl))) in
    let s8 = then s7 (entry (e.Ended 2)) (refl, (inr (inr ((refl, (refl, refl)), refl)), omega arith)) in
    let s9 = then s8 (up (e.Shut 3)) (refl, refl, refl, omega arith, refl) in
    let s10 = then s9 (up (e.Ended 3)) ((((refl, (refl, refl)), refl), refl, omega arith), omega arith) in
    let s11 = then s10 (done (end_note 2 cause.Done 3 3)) (refl, refl, refl, refl) in
    let s12 = then s11 (entry (e.Closed 2 cause.Done)) (refl, refl, refl, refl) in
    record { link = _; stands = then s12 (up (e.Closed 3 cause.Done)) (refl, refl, refl, omega arith); notes = refl }

pub unrouted_may_go : UnroutedMayGo
unrouted_may_go start came seen why is came_all way = record {
  link = _;
  stands = then (then (arrives start door.Outbound tt came [] seen is)
      (refused seen unrouted (cause.NoRoute (number_of why)) 503 (unrouted_note seen)) (
        (refl, is.whole),
        ap (λ (b : Bool). cond (not b) (refused_with 503) (by_way start seen.source.ip (way_on start unrouted seen))) came_all
            ∙ ap (by_way start seen.source.ip) way,
        refl,
      ))
      (entry (e.Closed 2 (cause.NoRoute (number_of why)))) (refl, refl, refl, refl);
  notes = refl;
}
