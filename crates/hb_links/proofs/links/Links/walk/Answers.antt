use Rattle.std.proofs.Common.{rules, ◌≡◌, Option, Some, None, refl, ap, sym, ◌∙◌, subst}
use Rattle.hb_links.specs.declared.links.Links.{Links}
use Rattle.hb_links.specs.Load.{IsCounted, Recounts}
use Rattle.hb_links.specs.Stirring.{Stirs, StirsBut, closed_in}
use Rattle.hb_links.specs.Walks.{ActsOf, GoesTo, Skips}
use Rattle.hb_links.proofs.Stirs.{same_stirs, stirs_all_then, stirs_but_then, any_stirs}
use Rattle.hb_links.proofs.Walking.{keeps_then, acts_then, goes_keeps, skip_keeps}
use Rattle.hb_links.proofs.links.Links.walk.Goals as goal

-- where the walk is changes nothing that stirs
goes_stirs : (a b : Links) (next : Option _) → GoesTo next a b → Stirs a b
goes_stirs a b next goes =
    subst (λ (k : Links). Stirs a k) (sym goes.0) (same_stirs a (record a { from = next }) (λ j. refl) refl refl refl)

goes_counts : (a b : Links) (next : Option _) → GoesTo next a b → Recounts a b
goes_counts a b next goes all = subst (λ (k : Links). IsCounted k) (sym goes.0) all

skip_counts : (a b : Links) (n : _) → Skips n a b → Recounts a b
skip_counts a b n skips all = subst (λ (k : Links). IsCounted k) (sym skips.0) all

pub returns-in-Some-act_of-clause-acts : goal.returns-in-Some-act_of-clause-acts
returns-in-Some-act_of-clause-acts c =
    let first = c.args.self.now in
    let old = c.loop-number.self in
    let mid = c.next_from.new.self in
    acts_then first mid c.act_of.new.self (Some c.in-Some-act_of.act)
    (keeps_then first old mid c.loop-number.invariant.0 (goes_keeps old mid c.next_from.result c.next_from.ensures))
    c.in-Some-act_of.ensures.acts

pub returns-in-Some-act_of-clause-stirs : goal.returns-in-Some-act_of-clause-stirs
returns-in-Some-act_of-clause-stirs c =
    let first = c.args.self.now in
    let old = c.loop-number.self in
    let mid = c.next_from.new.self in
    stirs_but_then first mid c.act_of.new.self (closed_in (Some c.in-Some-act_of.act))
    (stirs_all_then first old mid c.loop-number.invariant.2 (goes_stirs old mid c.next_from.result c.next_from.ensures))
    c.in-Some-act_of.ensures.stirs

pub loop-number-preserved : goal.loop-number-preserved
loop-number-preserved c =
    let first = c.args.self.now in
    let old = c.loop-number.self in
    let mid = c.next_from.new.self in
    let asked = c.act_of.new.self in
    let last = c.skip.new.self in
    let n = c.in-Some.number in
    let from : mid.from ≡ Some n = ap (λ (k : Links). k.from) c.next_from.ensures.0 ∙ c.in-Some.is in
    let none : c.act_of.result ≡ None = search rules in
    let acts = subst (λ (o : Option _). ActsOf n o mid asked) none c.act_of.ensures.acts in
    let stirs = subst (λ (o : Option _). StirsBut (closed_in o) mid asked) none c.act_of.ensures.stirs in (
      keeps_then first mid last
          (keeps_then first old mid c.loop-number.invariant.0 (goes_keeps old mid c.next_from.result c.next_from.ensures))
          (skip_keeps mid asked last n from acts c.skip.ensures),
      ap (λ (k : Links). k.busy) c.skip.ensures.0 ∙ acts.0 ∙ ap (λ (k : Links). k.busy) c.next_from.ensures.0
          ∙ c.loop-number.invariant.1,
      stirs_all_then first old last c.loop-number.invariant.2
          (stirs_all_then old mid last (goes_stirs old mid c.next_from.result c.next_from.ensures)
          (stirs_all_then mid asked last (any_stirs mid asked stirs)
          (subst (λ (k : Links). Stirs asked k) (sym c.skip.ensures.0)
          (same_stirs asked (record asked { from = last.from }) (λ j. refl) refl refl refl)))),
      λ all. skip_counts asked last n c.skip.ensures
          (c.act_of.ensures.counts (goes_counts old mid c.next_from.result c.next_from.ensures (c.loop-number.invariant.3 all))),
    )

pub returns-clause-stirs : goal.returns-clause-stirs
returns-clause-stirs c = λ n apart.
    stirs_all_then c.args.self.now c.loop-number.self c.next_from.new.self c.loop-number.invariant.2
    (goes_stirs c.loop-number.self c.next_from.new.self c.next_from.result c.next_from.ensures) n

pub returns-in-Some-act_of-clause-counts : goal.returns-in-Some-act_of-clause-counts
returns-in-Some-act_of-clause-counts c = λ all.
    c.in-Some-act_of.ensures.counts
    (goes_counts c.loop-number.self c.next_from.new.self c.next_from.result c.next_from.ensures (c.loop-number.invariant.3 all))

pub returns-clause-counts : goal.returns-clause-counts
returns-clause-counts c = λ all.
    goes_counts c.loop-number.self c.next_from.new.self c.next_from.result c.next_from.ensures (c.loop-number.invariant.3 all)
