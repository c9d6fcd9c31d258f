use Rattle.std.proofs.Common.{ap, ◌∙◌, take, nat_eq}
use Rattle.std.specs.List.{starts_with}
use Rattle.std.proofs.lemmas.List.{take_min}
use Rattle.hb_front.specs.Header.{signature}
use Rattle.hb_front.proofs.front.begins_like_signature.Goals as goal

pub returns : goal.returns
returns c = c.starts_with.ensures.value
    ∙ ap (starts_with nat_eq signature) (ap (λ n. take n c.args.b.now) c.min-size.ensures ∙ take_min 12 c.args.b.now)
