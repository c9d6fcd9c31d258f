use Rattle.std.proofs.Common.{◌≡◌, drop}
use Rattle.hb_model.specs.Discovery.{status_of}
use Rattle.hb_headers.proofs.status.status_of.Given as goal

-- the headers that are left have the status of all of them
abbrev pub invariant-loop-header : goal.invariant-loop-header
invariant-loop-header l = status_of (drop l.header-index l.headers) ≡ status_of l.headers
