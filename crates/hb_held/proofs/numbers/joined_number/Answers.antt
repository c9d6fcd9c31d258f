use Rattle.std.proofs.Common.{ℕ, ◌++◌, ◌∷◌, [], ap, sym, ◌∙◌}
use Rattle.hb_held.specs.Numbers.{with_bytes}
use Rattle.hb_held.proofs.Asked.{with_bytes-append}
use Rattle.hb_held.proofs.numbers.joined_number.Goals as goal

pub returns : goal.returns
returns c =
    let start : ℕ = 14695981039346656037 in
    let namespace = c.args.namespace.now in
    let name = c.args.name.now in
    c.from.ensures ∙ c.with_bytes-whole.ensures
    ∙ ap (λ n. with_bytes n name) (c.with_bytes-front.ensures ∙ ap (λ n. with_bytes n (47 ∷ [])) c.with_bytes-first.ensures)
    ∙ sym (with_bytes-append start (namespace ++ (47 ∷ [])) name
    ∙ ap (λ n. with_bytes n name) (with_bytes-append start namespace (47 ∷ [])))
