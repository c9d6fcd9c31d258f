use Rattle.std.proofs.Common.{sym, ap, ◌∙◌, List, ℕ, drop}
use Rattle.std.specs.Prelude.{◌&&◌}
use Rattle.std.specs.Str.{bytes_eq}
use Rattle.hb_held.proofs.InParts.{other_namespace, same_namespace}
use Rattle.hb_held.proofs.joined.is_joined.Goals as goal

pub returns-in_default : goal.returns-in_default
returns-in_default c = sym (other_namespace c.args.text.now c.args.namespace.now c.args.name.now c.in_default.ensures.cases)

pub returns-in_default-strip_prefix : goal.returns-in_default-strip_prefix
returns-in_default-strip_prefix c =
    let rest = c.in-Some.rest.now in
    let front = c.in-Some.ensures.cases in
    sym (same_namespace c.args.text.now rest c.args.namespace.now c.args.name.now front.0 front.1
    ∙ ap (λ t. t && bytes_eq (drop 1 rest) c.args.name.now) c.in_default-strip_prefix.ensures.cases)

pub returns : goal.returns
returns c =
    let rest = c.in-Some.rest.now in
    let front = c.in-Some.ensures.cases in
    let slash = c.in-Some-strip_prefix.ensures.cases in
    c.eq.ensures ∙ ap (λ (s : List ℕ). bytes_eq s c.args.name.now) slash.1
    ∙ sym (same_namespace c.args.text.now rest c.args.namespace.now c.args.name.now front.0 front.1
    ∙ ap (λ t. t && bytes_eq (drop 1 rest) c.args.name.now) slash.0)
