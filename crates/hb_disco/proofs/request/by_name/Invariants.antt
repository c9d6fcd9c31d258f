use Rattle.std.proofs.Common.{◌≡◌, [], map, drop}
use Rattle.hb_disco.specs.Request.{with_versions}
use Rattle.hb_disco.proofs.Versions.{seen}
use Rattle.hb_disco.proofs.request.by_name.Given as goal

abbrev pub invariant-loop-version : goal.invariant-loop-version
invariant-loop-version l = with_versions [] l.versions ≡ with_versions (map seen l.held.entries) (drop l.version-index l.versions)
