-- A link that isn't there.
use Rattle.std.proofs.Common.{◌≡◌, ◌≢◌, ◌&&◌, Bool, false, cond, refl, ap, sym, ◌∙◌, subst}
use Rattle.std.proofs.Math.Bool.{and-false}
use Rattle.std.proofs.lemmas.Bool.{false≢true}
use Rattle.hb_base.specs.declared.cause.Cause.{Cause}
use Rattle.hb_captured.specs.Calm.{IsCalmBy, IsIdleBy}
use Rattle.hb_captured.specs.Captured as m
use Rattle.hb_captured.specs.Captured.{Captured, Stage, at_stage, ends_by, ends_for, judges, is_judged, judged_by, rejudged}
use Rattle.hb_held.specs.Held.{Resources}
use Rattle.hb_gateway.specs.Gateway.{Gateway}
use Rattle.hb_proxy.specs.Runs.{StreamRestsBy}
use Rattle.hb_proxy.specs.Seen.{IsPlainThereBy}
use Rattle.hb_table.specs.Judgement.{judged}
use Rattle.hb_relays.specs.Shows.{IsAway, IsAwayBy}

-- Nothing happens by itself on it, none is due, and it has no upstream. Neither a response nor the end of the run changes it
pub record Away (stage : Stage) (x : Captured) : Type 0 where
  pub calm : IsCalmBy stage x
  pub idle : IsIdleBy stage x
  pub gone : IsPlainThereBy stage x.closed → ⊥
  pub no_up : x.up ≡ 0
  pub unborn : x.closed ≡ false → stage ≡ m.unborn
  pub unjudged : is_judged stage ≡ false
  pub ended : (why : Cause) → ends_by why stage ≡ stage

away_by : (stage : Stage) (x : Captured) → IsAwayBy stage x → Away stage x
away_by m.unborn x away = record {
  calm = tt;
  idle = tt;
  gone = λ there. there;
  no_up = away;
  unborn = λ opens. refl;
  unjudged = refl;
  ended = λ why. refl;
}
away_by (m.over first) x away = record {
  calm = away.2;
  idle = (away.0, away.1);
  gone = λ there. false≢true (sym there ∙ away.0);
  no_up = away.1;
  unborn = λ opens. absurd (false≢true (sym opens ∙ away.0));
  unjudged = refl;
  ended = λ why. refl;
}
away_by m.arriving x away = absurd away
away_by m.fronting x away = absurd away
away_by m.due x away = absurd away
away_by m.opening x away = absurd away
away_by m.accepting x away = absurd away
away_by m.live x away = absurd away
away_by (m.failed why) x away = absurd away
away_by (m.ended why) x away = absurd away

pub away_is : (x : Captured) → IsAway x → Away x.stage x
away_is x away = away_by x.stage x away

-- so it stays away
pub judged_away : (held : Resources) (x : Captured) → IsAway x → IsAway (rejudged held x)
judged_away held x away =
    subst IsAway
    (sym (ap (λ (b : Bool). cond (judges x.door && b) (judged_by (judged held x.peer x.target) x) x) (away_is x away).unjudged
    ∙ ap (λ (b : Bool). cond b (judged_by (judged held x.peer x.target) x) x) (and-false (judges x.door)))) away

pub ended_away : (why : Cause) (x : Captured) → IsAway x → IsAway (ends_for why x)
ended_away why x away = subst IsAway (sym (ap (λ (s : Stage). at_stage s x) ((away_is x away).ended why))) away

-- nor has it a stream on which something may be put, or waits for its dial
pub away_rests : (stage : Stage) (x : Captured) (y : Gateway) → IsAwayBy stage x → StreamRestsBy stage x y
away_rests m.live x y away = absurd away
away_rests stage x y away = tt

pub away_undue : (stage : Stage) (x : Captured) → IsAwayBy stage x → stage ≢ m.due
away_undue stage x away is = subst (λ (s : Stage). IsAwayBy s x) is away
