use Rattle.std.proofs.Common.{ap, sym, ◌∙◌, Some}
use Rattle.hb_words.specs.AskedRun.{replay_seen}
use Rattle.hb_cli.proofs.Runs.{replayed}
use Rattle.hb_cli.proofs.replaying.run_over.Goals as goal

pub returns-in-Some-clause-runs : goal.returns-in-Some-clause-runs
returns-in-Some-clause-runs g c =
    (replayed (replay_seen c.args.words.now) _ _ _ _ _ _ c.in_ok-asked.ensures (c.serve-served.ensures.served (ap Some c.requires))
    (sym c.ended_as.ensures ∙ c.in-Some.is) (sym c.keeps.ensures ∙ c.if-not-keeps.false)).0

pub returns-in-Some-clause-totals : goal.returns-in-Some-clause-totals
returns-in-Some-clause-totals g c =
    (replayed (replay_seen c.args.words.now) _ _ _ _ _ _ c.in_ok-asked.ensures (c.serve-served.ensures.served (ap Some c.requires))
    (sym c.ended_as.ensures ∙ c.in-Some.is) (sym c.keeps.ensures ∙ c.if-not-keeps.false)).1

pub returns-in-Some-clause-told : goal.returns-in-Some-clause-told
returns-in-Some-clause-told g c =
    (replayed (replay_seen c.args.words.now) _ _ _ _ _ _ c.in_ok-asked.ensures (c.serve-served.ensures.served (ap Some c.requires))
    (sym c.ended_as.ensures ∙ c.in-Some.is) (sym c.keeps.ensures ∙ c.if-not-keeps.false)).2
