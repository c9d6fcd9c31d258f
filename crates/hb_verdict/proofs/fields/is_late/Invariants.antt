use Rattle.std.proofs.Common.{◌≡◌, if◌then◌else◌, drop}
use Rattle.std.specs.List.{list_any}
use Rattle.hb_verdict.specs.Fields.{is_pseudo, is_late}
use Rattle.hb_verdict.proofs.fields.is_late.Given as goal

-- behind a header that is none a pseudo-header is looked for
abbrev pub invariant-loop-header : goal.invariant-loop-header
invariant-loop-header l =
    (if l.behind then list_any (λ h. is_pseudo h.name) (drop l.header-index l.headers) else is_late (drop l.header-index l.headers))
    ≡ is_late l.headers
