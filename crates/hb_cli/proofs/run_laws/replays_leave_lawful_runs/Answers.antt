use Rattle.std.proofs.Common.{◌≡◌, ℕ, Ok, inl, inr, subst}
use Rattle.std.specs.Prelude.{◌⊎◌, IsTrue}
use Rattle.hb_audit.specs.Tells.{Answering}
use Rattle.hb_words.specs.Command.{Replay, replays}
use Rattle.hb_cli.specs.Ending.{Run, BreaksOff, EndsWith}
use Rattle.hb_cli.specs.Run.{takes_input}
use Rattle.hb_cli.proofs.Endings.{gives_of, is_replay, refused_at}
use Rattle.hb_cli.proofs.run_laws.replays_leave_lawful_runs.Goals as goal

-- of these commands 4 and 5 come of a replay alone
alone : {A : Type 0} {own : Answering A} (r : Run own) (status : ℕ) → EndsWith r status → IsTrue (takes_input r.asked) → (status ≡ 4)
    ⊎ (status ≡ 5)
    → (p : Replay) × (r.asked ≡ Ok (replays p))
alone r status e takes (inl four) = let a = e.world_failed four in is_replay r _ a.0 takes (λ is. cc) a.1
alone r status e takes (inr five) = let a = e.turns_spent five in is_replay r _ a.0 takes (λ is. cc) a.1

pub returns-clause-stopped : goal.returns-clause-stopped
returns-clause-stopped g c = λ r status e p asks zero. let a = e.done zero in (gives_of r _ a.0 (replays p) asks a.1).1

pub returns-clause-world_fault : goal.returns-clause-world_fault
returns-clause-world_fault g c = λ r status e p asks four. let a = e.world_failed four in (gives_of r _ a.0 (replays p) asks a.1).1

pub returns-clause-turns_spent : goal.returns-clause-turns_spent
returns-clause-turns_spent g c = λ r status e p asks five. let a = e.turns_spent five in (gives_of r _ a.0 (replays p) asks a.1).1

pub returns-clause-unwritten : goal.returns-clause-unwritten
returns-clause-unwritten g c = λ r status e p asks seven.
    let a = e.unwritten seven in (a.0, (gives_of r a.0 a.1 (replays p) asks a.2).1)

pub returns-clause-wanting : goal.returns-clause-wanting
returns-clause-wanting g c = λ r status e p asks nine. subst (λ asked. BreaksOff asked r) asks (e.wanting nine).3

pub returns-clause-nothing_done : goal.returns-clause-nothing_done
returns-clause-nothing_done g c = λ r status e is. refused_at r status e is (λ a. a.5.0) (λ a. a.6.0) (λ a. a.4.0)

pub returns-clause-replays_alone : goal.returns-clause-replays_alone
returns-clause-replays_alone g c = λ r status e takes is. alone r status e takes is
