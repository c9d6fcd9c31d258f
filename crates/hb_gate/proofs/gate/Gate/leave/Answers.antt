use Rattle.std.proofs.Common.{ℕ, ap, sym, ◌∙◌, subst}
use Rattle.std.specs.FinMap.{remove}
use Rattle.hb_gate.specs.Calls.{IsDone}
use Rattle.hb_gate.specs.Streams.{Map}
use Rattle.hb_gate.proofs.Dropped.{begun_of, is_done}
use Rattle.hb_gate.proofs.Moved.{gone_changes}
use Rattle.hb_gate.proofs.gate.Gate.leave.Goals as goal

pub returns-in-Some : goal.returns-in-Some
returns-in-Some c =
    let k = c.args.self.now in
    let s = c.args.stream in
    subst (λ (m : Map). IsDone s c.in-Some.gone.begun k (record k { streams = m })) (sym c.remove.ensures.rest)
    (subst (λ (n : ℕ). IsDone s n k (record k { streams = remove k.streams s }))
    (ap begun_of (sym c.remove.ensures.value ∙ c.in-Some.is))
    (is_done k s (remove k.streams s) (gone_changes k.streams s)))
