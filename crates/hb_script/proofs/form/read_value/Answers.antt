use Rattle.std.proofs.Common.{sym, ◌∙◌, true≢false}
use Rattle.hb_script.proofs.ValueLemmas.{is_value, no_value}
use Rattle.hb_script.proofs.form.read_value.Goals as goal

pub returns-in-Ok-clause-ok : goal.returns-in-Ok-clause-ok
returns-in-Ok-clause-ok c = is_value c.args.row.now _ c.in-Ok.ensures.ok.0 c.in-Ok.ensures.ok.1

pub returns-in-Err-2-clause-err : goal.returns-in-Err-2-clause-err
returns-in-Err-2-clause-err c = no_value c.args.row.now
    (c.in-Err.ensures.err (λ memory. true≢false (sym (c.is_memory.ensures.1 memory) ∙ c.if-is_memory.false)))
