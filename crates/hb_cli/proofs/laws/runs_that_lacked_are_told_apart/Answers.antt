use Rattle.std.proofs.Common.{◌≡◌, Bool, true, false, ◌||◌, if◌then◌else◌, Option, None, Some, refl, subst}
use Rattle.hb_cli.specs.Ended.{replay_end}
use Rattle.hb_cli.specs.declared.ended.ReplayEnd.{ReplayEnd}
use Rattle.hb_cli.proofs.laws.runs_that_lacked_are_told_apart.Goals as goal

-- the end of a run in which memory lacked is told by nothing
never : (wanting unkept : Bool) (told : Option ReplayEnd) (end : ReplayEnd)
    → (if wanting || (true || unkept) then None else told) ≡ Some end → ⊥
never true unkept told end is = absurd cc
never false unkept told end is = absurd cc

pub returns-clause-request : goal.returns-clause-request
returns-clause-request c = λ told end lacks is. never told.wanting told.unkept (replay_end told.end) end
    (subst (λ (b : Bool). (if told.wanting || (b || told.unkept) then None else replay_end told.end) ≡ Some end) lacks is)

pub returns-clause-note : goal.returns-clause-note
returns-clause-note c = λ words told keep end trace link stream peer target runs. absurd (let lacks = runs.not_lacking in cc)

pub returns-clause-ended : goal.returns-clause-ended
returns-clause-ended c = λ told wanting lacks unkept. rw wanting (rw lacks (rw unkept refl))
