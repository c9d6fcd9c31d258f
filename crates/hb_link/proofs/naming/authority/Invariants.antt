use Rattle.std.proofs.Common.{◌≡◌, codes, drop}
use Rattle.hb_verdict.specs.Fields.{value_of}
use Rattle.hb_link.proofs.naming.authority.Given as goal

-- the headers that are left have the value of all of them
abbrev pub invariant-loop-header : goal.invariant-loop-header
invariant-loop-header l = value_of (codes ":authority") (drop l.header-index l.headers) ≡ value_of (codes ":authority") l.headers
