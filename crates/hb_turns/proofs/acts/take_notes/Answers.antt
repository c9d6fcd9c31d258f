use Rattle.std.proofs.Common.{refl, ◌∙◌}
use Rattle.hb_turns.proofs.Holding.{same_none, same_both}
use Rattle.hb_turns.proofs.acts.take_notes.Goals as goal

pub loop-init : goal.loop-init
loop-init g c = record { kept = λ trace m. m; same = same_none _; stirs = λ l. refl; records = refl }

pub loop-preserved : goal.loop-preserved
loop-preserved g c =
    let at = c.loop.invariant in
    let took = c.in_ok-take_note.ensures {u = tt} in
    record {
      kept = λ trace m. took.keeps trace (at.kept trace m);
      same = same_both _ _ _ at.same took.same;
      stirs = λ l. took.stirs l ∙ at.stirs l;
      records = took.records ∙ at.records;
    }
