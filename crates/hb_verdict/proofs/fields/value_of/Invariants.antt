use Rattle.std.proofs.Common.{◌≡◌, drop}
use Rattle.hb_verdict.specs.Fields.{value_of}
use Rattle.hb_verdict.proofs.fields.value_of.Given as goal

-- the headers that are left have the value of all of them
abbrev pub invariant-loop-header : goal.invariant-loop-header
invariant-loop-header l = value_of l.name (drop l.header-index l.headers) ≡ value_of l.name l.headers
