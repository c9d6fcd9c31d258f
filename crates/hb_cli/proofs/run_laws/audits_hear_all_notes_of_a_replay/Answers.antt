use Rattle.std.proofs.Common.{◌≡◌, ℕ, Ok, inl, inr}
use Rattle.std.specs.Prelude.{◌⊎◌}
use Rattle.hb_audit.specs.Tells.{Answering}
use Rattle.hb_words.specs.Command.{Replay, replays}
use Rattle.hb_cli.specs.Ending.{Run, EndsWith}
use Rattle.hb_cli.specs.Hearing.{HearsAll}
use Rattle.hb_cli.specs.Replaying.{done_in}
use Rattle.hb_cli.proofs.Endings.{gives_of, refused_at}
use Rattle.hb_cli.proofs.run_laws.audits_hear_all_notes_of_a_replay.Goals as goal

hears_all : {A : Type 0} {own : Answering A} (r : Run own) (status : ℕ) → EndsWith r status → (p : Replay) → r.asked ≡ Ok (replays p)
    → (status ≡ 0) ⊎ (status ≡ 4) ⊎ (status ≡ 5) ⊎ (status ≡ 7) → HearsAll p r.world.heard (done_in r.left)
hears_all r status e p asks (inl zero) = let a = e.done zero in (gives_of r _ a.0 (replays p) asks a.1).2
hears_all r status e p asks (inr (inl four)) = let a = e.world_failed four in (gives_of r _ a.0 (replays p) asks a.1).2
hears_all r status e p asks (inr (inr (inl five))) = let a = e.turns_spent five in (gives_of r _ a.0 (replays p) asks a.1).2
hears_all r status e p asks (inr (inr (inr seven))) = let a = e.unwritten seven in (gives_of r a.0 a.1 (replays p) asks a.2).2

pub returns-clause-heard : goal.returns-clause-heard
returns-clause-heard g c = λ r status e p asks is. hears_all r status e p asks is

pub returns-clause-none_heard : goal.returns-clause-none_heard
returns-clause-none_heard g c = λ r status e is. refused_at r status e is (λ a. a.5.1) (λ a. a.6.1) (λ a. a.4.1)
