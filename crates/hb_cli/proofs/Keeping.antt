-- Runs that are served keep the headline.
use Rattle.std.proofs.Common.{◌≡◌, ℕ, List, Option, Some, None, Ok, inl, inr}
use Rattle.std.specs.Prelude.{◌⊎◌}
use Rattle.std.proofs.lemmas.Option.{IfSome_then}
use Rattle.hb_audit.specs.Tells.{Answering}
use Rattle.hb_base.specs.declared.note.Note.{Note}
use Rattle.hb_headline.specs.Headline.{Headline}
use Rattle.hb_serve.specs.Served.{KeepsHeadline as KeepsAt}
use Rattle.hb_serve.specs.declared.words.ServeWords.{ServeWords}
use Rattle.hb_turns.specs.declared.served.Served.{Served}
use Rattle.hb_turns.specs.declared.served.ServeEnd.{ServeEnd}
use Rattle.hb_turns.specs.declared.served.ServeEnd.TheVariants as turns
use Rattle.hb_words.specs.Command.{Replay, Serve, replays, serves}
use Rattle.hb_world.specs.declared.entry.Entry.{Entry}
use Rattle.hb_cli.specs.Asked.{words_of}
use Rattle.hb_cli.specs.Ended.{replay_end}
use Rattle.hb_cli.specs.Ending.{Run, EndsWith, Answers}
use Rattle.hb_cli.specs.Keeping.{KeepsHeadline}
use Rattle.hb_cli.specs.Replaying.{Done, RunsAs}
use Rattle.hb_cli.specs.Serving.{LeavesTrace}
use Rattle.hb_cli.specs.declared.ended.ReplayEnd.{ReplayEnd}
use Rattle.hb_cli.proofs.Endings.{gives_of}
use Rattle.hb_cli.proofs.Runs.{ended_so}

-- where memory didn't lack
whole : (words : ServeWords) (end : ServeEnd) (is : ReplayEnd) (trace : List Entry) → replay_end end ≡ Some is
    → KeepsAt words.config end trace → Headline words.config trace
whole words turns.Stopped is trace ended keeps = keeps
whole words turns.WorldFault is trace ended keeps = keeps
whole words turns.TurnsSpent is trace ended keeps = keeps
whole words turns.NoMemory is trace ended keeps = absurd cc

-- a run that ended so, and whose notes are all there are
pub keeps : (words : ServeWords) (told : Served) (keep : Option (List Note)) (end : ReplayEnd) (done : Done)
    → RunsAs words told keep end done → KeepsHeadline words done.trace
keeps words told keep end done run = record {
  front = run.served.run.over.before;
  closes = run.served.run.over.behind;
  trace_is = run.served.run.over.trace_is;
  headline = whole words told.end end run.served.run.over.before (ended_so told end run.ends) run.served.headline;
}

-- the statuses behind which a run stands
abbrev pub IsBehindRun : ℕ → Type 0
IsBehindRun status = (status ≡ 0) ⊎ (status ≡ 4) ⊎ (status ≡ 5) ⊎ (status ≡ 7)

-- some answer of the command stands at them
answered : {A : Type 0} {own : Answering A} (r : Run own) (status : ℕ) → EndsWith r status → IsBehindRun status
    → (end : ReplayEnd) × (text : List ℕ) × Answers r end text
answered r status e (inl zero) = let a = e.done zero in (_, a.0, a.1)
answered r status e (inr (inl four)) = let a = e.world_failed four in (_, a.0, a.1)
answered r status e (inr (inr (inl five))) = let a = e.turns_spent five in (_, a.0, a.1)
answered r status e (inr (inr (inr seven))) = let a = e.unwritten seven in (a.0, a.1, a.2)

module _ {A : Type 0} {own : Answering A} (r : Run own) (status : ℕ) (e : EndsWith r status) (behind : IsBehindRun status) where
  pub replay_keeps : (p : Replay) → r.asked ≡ Ok (replays p) → KeepsHeadline (words_of p.run None) r.left.script.trace
  replay_keeps p asks =
      let a = answered r status e behind in
      let run = (gives_of r a.0 a.1 (replays p) asks a.2).1.1 in
      keeps (words_of p.run None) run.0 _ a.0 _ run.1

  pub serve_keeps : (s : Serve) → r.asked ≡ Ok (serves s) → LeavesTrace r.world (λ trace. KeepsHeadline (words_of s.run s.ticks) trace)
  serve_keeps s asks = λ fresh.
      let a = answered r status e behind in
      let run = (gives_of r a.0 a.1 (serves s) asks a.2).1 in
      IfSome_then r.world.trace_after (run.1.1 fresh) (λ trace did. keeps (words_of s.run s.ticks) run.0 did.0 a.0 _ did.2)
