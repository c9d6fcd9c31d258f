use Rattle.std.proofs.Common.{ℕ, ap, sym, ◌∙◌, subst}
use Rattle.hb_base.specs.declared.cause.Cause.TheVariants as cause
use Rattle.hb_world.specs.declared.entry.Entry.TheVariants as e
use Rattle.hb_gateway.specs.Part.{entry}
use Rattle.hb_gate.specs.Calls.{Enters}
use Rattle.hb_gate.specs.Streams.{left_behind}
use Rattle.hb_gate.specs.declared.gate.Gate.{Gate}
use Rattle.hb_gate.specs.declared.phase.Phase.TheVariants.{Closing}
use Rattle.hb_gate.proofs.Went.{goes_serving, goes_last}
use Rattle.hb_gate.proofs.gate.Gate.wrote.Goals as goal

pub returns-in-Serving : goal.returns-in-Serving
returns-in-Serving c = λ bytes is.
    let k = c.args.self.now in
    subst (λ (n : Gate). Enters (entry (e.Went k.number bytes)) k n) (ap (λ (i : ℕ). left_behind i k) is ∙ sym c.went.ensures)
    (goes_serving k bytes c.in-Serving.is)

pub returns-in-Faulted : goal.returns-in-Faulted
returns-in-Faulted c = λ bytes is.
    let k = c.args.self.now in
    let closing = record k { phase = Closing (cause.ConnFault c.in-Faulted.code) } in
    subst (λ (n : Gate). Enters (entry (e.Went k.number bytes)) k n)
    (ap (λ (i : ℕ). left_behind i closing) is ∙ sym c.went-in-Faulted.ensures) (goes_last k bytes c.in-Faulted.code c.in-Faulted.is)
