use Rattle.std.proofs.Common.{subst}
use Rattle.hb_base.specs.declared.cause.Cause.{Cause}
use Rattle.hb_base.specs.declared.cause.Cause.TheVariants.{PeerGone}
use Rattle.hb_link.specs.Marking.{EndsWith}
use Rattle.hb_link.specs.declared.phase.Phase.TheVariants.{Closing}
use Rattle.hb_link.proofs.Ending.{connection_ends, still_ends}
use Rattle.std.proofs.Common.{refl}
use Rattle.hb_link.proofs.Rousing.{ends_rouse, rouses_same}
use Rattle.hb_link.proofs.link.Link.mark_ended.Goals as goal

pub returns-in-Serving-clause-marks : goal.returns-in-Serving-clause-marks
returns-in-Serving-clause-marks c =
    let k = c.args.self.now in
    let n = c.end_with.new.self in
    connection_ends k n c.in-Serving.is
    (subst (λ (why : Cause). EndsWith (Closing why) PeerGone k n) c.end_cause.ensures c.end_with.ensures)

pub returns-in_default-clause-marks : goal.returns-in_default-clause-marks
returns-in_default-clause-marks c = still_ends c.args.self.now c.in_default.not-Fronting c.in_default.not-Serving

pub returns-in-Fronting-clause-rouses : goal.returns-in-Fronting-clause-rouses
returns-in-Fronting-clause-rouses c = rouses_same c.args.self.now _ refl refl

pub returns-in-Serving-clause-rouses : goal.returns-in-Serving-clause-rouses
returns-in-Serving-clause-rouses c = ends_rouse c.args.self.now c.end_with.new.self _ _ c.end_with.ensures

pub returns-in_default-clause-rouses : goal.returns-in_default-clause-rouses
returns-in_default-clause-rouses c = rouses_same c.args.self.now c.args.self.now refl refl
