use Rattle.hb_disco.proofs.Versions.{one_more}
use Rattle.hb_disco.proofs.request.by_name.Goals as goal

pub loop-version-preserved : goal.loop-version-preserved
loop-version-preserved c =
    one_more c.args.versions.now c.loop-version.version-index c.version-item.result c.loop-version.held.entries c.insert.new.self.entries
    c.as_slice.result c.as_slice-in-loop-version.result c.loop-version-test.true c.version-item.is c.as_slice.ensures.value
    c.as_slice-in-loop-version.ensures.value c.in_ok-insert.ensures.entries c.loop-version.invariant
