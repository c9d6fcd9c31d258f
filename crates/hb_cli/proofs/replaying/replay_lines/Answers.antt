use Rattle.std.proofs.Common.{ap, ◌∙◌}
use Rattle.hb_world.specs.WorldState.{ScriptState}
use Rattle.hb_words.specs.AskedRun.{replay_seen}
use Rattle.hb_cli.proofs.Runs.{reported}
use Rattle.hb_cli.proofs.replaying.replay_lines.Goals as goal

pub returns-clause-replays : goal.returns-clause-replays
returns-clause-replays g c =
    let loaded = c.in_ok-load.ensures.ok in (
      c.run_over.ensures.lines ∙ ap (λ (w : ScriptState). w.lines) loaded,
      c.in_ok-end.ensures.runs,
      reported (replay_seen c.args.words.now) _ _ _ _ _ _ c.in_ok-report.ensures c.entries.ensures c.notes.ensures
          c.in_ok-end.ensures.totals,
    )
