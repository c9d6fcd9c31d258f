use Rattle.hb_relays.proofs.EndingLinks.{run_ends}
use Rattle.hb_relays.proofs.Stirs.{routed_stirs, stirs_all_then}
use Rattle.hb_relays.proofs.relays.Relays.stopped.Goals as goal

pub returns-clause-meets : goal.returns-clause-meets
returns-clause-meets g c =
    run_ends c.args.cause c.args.self.now c.stop_gates.new.self c.stop_links.new.self c.forget.new.self
    (g.N.Notes.told c.args.notes.now) (g.N.Notes.told c.stop_links.new.notes) c.stop_gates.ensures.stops c.stop_links.ensures.stops
    c.forget.ensures

pub returns-clause-stirs : goal.returns-clause-stirs
returns-clause-stirs g c =
    let k = c.args.self.now in
    let mid = c.stop_links.new.self in
    stirs_all_then k mid _
    (stirs_all_then k c.stop_gates.new.self mid c.stop_gates.ensures.stirs c.stop_links.ensures.stirs)
    (routed_stirs mid c.forget.new.self)
