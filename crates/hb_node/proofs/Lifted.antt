-- Points that lead a link on lead the machine on.
use Rattle.std.proofs.Common.{◌≡◌, ◌≢◌, ℕ, List, [], ◌∷◌, refl, ap, sym, ◌∙◌, subst}
use Rattle.std.proofs.lemmas.Bool.{eq-eqb, ne_eqb}
use Rattle.hb_base.specs.declared.cause.Cause.TheVariants as cause
use Rattle.hb_held.specs.Held.{Resources}
use Rattle.hb_held.specs.Outcome.{after_response}
use Rattle.hb_model.specs.declared.config.NodeConfig.{NodeConfig}
use Rattle.hb_model.specs.Discovery.{Discovery, live, on_found, ends_for, put_requests}
use Rattle.hb_model.specs.Machine as machines
use Rattle.hb_model.specs.Machine.{Machine, at, with_link}
use Rattle.hb_model.specs.Point.{Point, looked, applied, refused, used, put}
use Rattle.hb_model.specs.Runs.{Steps}
use Rattle.hb_node.specs.Judging.{Judges, seen, held_behind, Judged}
use Rattle.hb_node.specs.Leads.{LinkState, LinkSteps, Leads, stays, goes, with_response, with_used}
use Rattle.hb_node.specs.State.{IsInner, Inner}
use Rattle.hb_node.proofs.Led.{state}

pub at_same : (l : ℕ) (change : Discovery → Discovery) (x : Discovery) → at l change l x ≡ change x
at_same l change x = rw (eq-eqb l l refl) refl

pub at_other : (l k : ℕ) (change : Discovery → Discovery) (x : Discovery) → k ≢ l → at l change k x ≡ x
at_other l k change x differ = rw (ne_eqb l k (λ is. differ (sym is))) refl

module _ {J : Type 0} (judges : Judges J) where
  -- the machine is m, but for what is held and for the link l
  pub record Differs (l : ℕ) (m n : Machine) (b : LinkState J) : Type 0 where
    pub held : n.held ≡ b.seen.held
    pub part : n.links l ≡ b.part
    pub others : (k : ℕ) → k ≢ l → n.links k ≡ m.links k
    pub dials : n.dials ≡ m.dials
    pub over : n.over ≡ m.over
    pub current : n.current ≡ m.current

  record Stepped (g : NodeConfig) (l : ℕ) (m : Machine) (judge : J) (p : Point) (b : LinkState J) : Type 0 where
    machine : Machine
    inner : IsInner p
    steps : Steps g m p machine
    differs : Differs l m machine b
    judged : (points : List Point) (after : J) → Judged judges (held_behind machine.held points) b.seen.judge after
        → Judged judges (held_behind m.held (p ∷ points)) judge after

  linked : (l : ℕ) (m : Machine) (judge : J) (x : Discovery) (b : LinkState J) → b ≡ state (seen m.held judge) x
      → Differs l m (with_link l x m) b
  linked l m judge x b is = record {
    held = ap (λ (s : LinkState J). s.seen.held) (sym is);
    part = at_same l (λ y. x) (m.links l) ∙ ap (λ (s : LinkState J). s.part) (sym is);
    others = λ k differ. at_other l k (λ y. x) (m.links k) differ;
    dials = refl;
    over = refl;
    current = refl;
  }

  -- what is shown behind a point that applies nothing
  same_judge : (held : Resources) (judge : J) (x : Discovery) (b : LinkState J) (points : List Point) (after : J)
      → b ≡ state (seen held judge) x → Judged judges (held_behind held points) b.seen.judge after
      → Judged judges (held_behind held points) judge after
  same_judge held judge x b points after is more =
      subst (λ (s : LinkState J). Judged judges (held_behind held points) s.seen.judge after) is more

  step_of : (g : NodeConfig) (l : ℕ) (m : Machine) (judge : J) (p : Point) (b : LinkState J) → (m.links l).phase ≡ live
      → LinkSteps judges l (state (seen m.held judge) (m.links l)) p b → Stepped g l m judge p b
  step_of g l m judge (looked k points told headers) b lives (same, conn, look, read, is) =
      subst (λ j. Stepped g l m judge (looked j points told headers) b) (sym same)
      (record {
        machine = with_link l (on_found told conn (m.links l)) m;
        inner = tt;
        steps = (lives, conn, look, read, refl);
        differs = linked l m judge (on_found told conn (m.links l)) b is;
        judged = λ points after more. same_judge m.held judge (on_found told conn (m.links l)) b points after is more;
      })
  step_of g l m judge (applied k r) b lives (same, n, response, applies, is) =
      let x = m.links l in
      let held_is : after_response m.held r ≡ b.seen.held = sym applies.held in
      subst (λ j. Stepped g l m judge (applied j r) b) (sym same)
      (record {
        machine = machines.with_response l r n m;
        inner = tt;
        steps = (lives, n, response, refl);
        differs = record {
          held = held_is;
          part = at_same l (λ y. with_response r n m.held x) x ∙ sym is;
          others = λ j differ. at_other l j (λ y. with_response r n m.held x) (m.links j) differ;
          dials = refl;
          over = refl;
          current = refl;
        };
        judged = λ points after more.
            (b.seen.judge, subst (λ (h : Resources). judges judge h b.seen.judge) applies.held applies.shown, more);
      })
  step_of g l m judge (refused k) b lives (same, why, is) =
      subst (λ j. Stepped g l m judge (refused j) b) (sym same)
      (record {
        machine = with_link l (ends_for cause.Discovery (m.links l)) m;
        inner = tt;
        steps = (lives, why, refl);
        differs = linked l m judge (ends_for cause.Discovery (m.links l)) b is;
        judged = λ points after more. same_judge m.held judge (ends_for cause.Discovery (m.links l)) b points after is more;
      })
  step_of g l m judge (used k n) b lives (same, why, is) =
      subst (λ j. Stepped g l m judge (used j n) b) (sym same)
      (record {
        machine = machines.with_used l n m;
        inner = tt;
        steps = (lives, why, refl);
        differs = linked l m judge (with_used n (m.links l)) b is;
        judged = λ points after more. same_judge m.held judge (with_used n (m.links l)) b points after is more;
      })
  step_of g l m judge (put k bytes) b lives (same, are, some, is) =
      subst (λ j. Stepped g l m judge (put j bytes) b) (sym same)
      (record {
        machine = with_link l (put_requests (m.links l)) m;
        inner = tt;
        steps = (lives, are, some, refl);
        differs = linked l m judge (put_requests (m.links l)) b is;
        judged = λ points after more. same_judge m.held judge (put_requests (m.links l)) b points after is more;
      })
  step_of g l m judge p b lives steps = absurd steps

  -- inner points that make of the machine what they make of the link
  pub record Lifted (g : NodeConfig) (l : ℕ) (m : Machine) (judge : J) (b : LinkState J) : Type 0 where
    pub points : List Point
    pub machine : Machine
    pub inner : Inner g m points machine
    pub differs : Differs l m machine b
    pub judged : Judged judges (held_behind m.held points) judge b.seen.judge

  differs_on : (l : ℕ) (m n o : Machine) (b c : LinkState J) → Differs l m n b → Differs l n o c → Differs l m o c
  differs_on l m n o b c first then = record {
    held = then.held;
    part = then.part;
    others = λ k differ. then.others k differ ∙ first.others k differ;
    dials = then.dials ∙ first.dials;
    over = then.over ∙ first.over;
    current = then.current ∙ first.current;
  }

  state_is : (l : ℕ) (m n : Machine) (b : LinkState J) → Differs l m n b → b ≡ state (seen n.held b.seen.judge) (n.links l)
  state_is l m n b d =
      ap (λ h. state (seen h b.seen.judge) b.part) (sym d.held) ∙ ap (λ (x : Discovery). state (seen n.held b.seen.judge) x) (sym d.part)

  pub lift : (g : NodeConfig) (l : ℕ) (m : Machine) (judge : J) (a b : LinkState J) → a ≡ state (seen m.held judge) (m.links l)
      → Leads judges l a b → Lifted g l m judge b
  lift g l m judge a b is (stays same) = record {
    points = [];
    machine = m;
    inner = refl;
    differs = record {
      held = ap (λ (s : LinkState J). s.seen.held) (sym (same ∙ is));
      part = ap (λ (s : LinkState J). s.part) (sym (same ∙ is));
      others = λ k differ. refl;
      dials = refl;
      over = refl;
      current = refl;
    };
    judged = ap (λ (s : LinkState J). s.seen.judge) (same ∙ is);
  }
  lift g l m judge a b is (goes {b = mid} p lives steps rest) =
      let s = step_of g l m judge p mid (subst (λ (v : LinkState J). v.part.phase ≡ live) is lives)
      (subst (λ (v : LinkState J). LinkSteps judges l v p mid) is steps) in
      let t = lift g l s.machine mid.seen.judge mid b (state_is l m s.machine mid s.differs) rest in
      record {
        points = p ∷ t.points;
        machine = t.machine;
        inner = (s.inner, s.machine, s.steps, t.inner);
        differs = differs_on l m s.machine t.machine mid b s.differs t.differs;
        judged = s.judged t.points b.seen.judge t.judged;
      }
