use Rattle.std.proofs.Common.{sym, ap, ◌∙◌, List, ℕ, drop}
use Rattle.std.specs.Prelude.{◌&&◌}
use Rattle.std.specs.Str.{bytes_eq}
use Rattle.hb_held.proofs.InParts.{other_namespace, same_namespace}
use Rattle.hb_route.proofs.ports.is_key.Goals as goal

pub returns-in_default : goal.returns-in_default
returns-in_default c = sym (other_namespace c.args.key.now c.args.namespace.now c.args.hostname.now c.in_default.ensures.cases)

pub returns-in-None : goal.returns-in-None
returns-in-None c =
    let rest = c.in-Some.rest.now in
    let front = c.in-Some.ensures.cases in
    sym (same_namespace c.args.key.now rest c.args.namespace.now c.args.hostname.now front.0 front.1
    ∙ ap (λ t. t && bytes_eq (drop 1 rest) c.args.hostname.now) c.in-None.ensures.cases)

pub returns-in-Some-strip_prefix : goal.returns-in-Some-strip_prefix
returns-in-Some-strip_prefix c =
    let rest = c.in-Some.rest.now in
    let front = c.in-Some.ensures.cases in
    let slash = c.in-Some-strip_prefix.ensures.cases in
    c.eq.ensures ∙ ap (λ (s : List ℕ). bytes_eq s c.args.hostname.now) slash.1
    ∙ sym (same_namespace c.args.key.now rest c.args.namespace.now c.args.hostname.now front.0 front.1
    ∙ ap (λ t. t && bytes_eq (drop 1 rest) c.args.hostname.now) slash.0)
