use Rattle.std.proofs.Common.{◌≡◌, if◌then◌else◌, drop}
use Rattle.hb_verdict.specs.Fields.{has, stands_twice}
use Rattle.hb_verdict.proofs.fields.stands_twice.Given as goal

-- behind the first header of the name one more is looked for
abbrev pub invariant-loop-header : goal.invariant-loop-header
invariant-loop-header l =
    (if l.seen then has l.name (drop l.header-index l.headers) else stands_twice l.name (drop l.header-index l.headers))
    ≡ stands_twice l.name l.headers
