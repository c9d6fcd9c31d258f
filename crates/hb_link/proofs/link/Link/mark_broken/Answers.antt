use Rattle.hb_link.proofs.Ending.{connection_breaks}
use Rattle.std.proofs.Common.{refl}
use Rattle.hb_link.proofs.Rousing.{ends_rouse, rouses_same}
use Rattle.hb_link.proofs.link.Link.mark_broken.Goals as goal

pub returns-in-Serving-clause-marks : goal.returns-in-Serving-clause-marks
returns-in-Serving-clause-marks c = connection_breaks c.args.self.now c.end_with.new.self c.in-Serving.is c.end_with.ensures

pub returns-in-Fronting-clause-rouses : goal.returns-in-Fronting-clause-rouses
returns-in-Fronting-clause-rouses c = rouses_same c.args.self.now _ refl refl

pub returns-in-Serving-clause-rouses : goal.returns-in-Serving-clause-rouses
returns-in-Serving-clause-rouses c = ends_rouse c.args.self.now c.end_with.new.self _ _ c.end_with.ensures

pub returns-in_default-clause-rouses : goal.returns-in_default-clause-rouses
returns-in_default-clause-rouses c = rouses_same c.args.self.now c.args.self.now refl refl

pub returns-in-Faulted-clause-rouses : goal.returns-in-Faulted-clause-rouses
returns-in-Faulted-clause-rouses c = rouses_same c.args.self.now _ refl refl
