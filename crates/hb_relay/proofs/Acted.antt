-- The acts that are due of a link, and what its owner sees of it.
use Rattle.std.proofs.Common.{◌≡◌, inl, inr, ℕ, ◌<◌, ◌==◌, ◌&&◌, not, Bool, true, false, cond, Option, Some, None, refl, ap, sym, ◌∙◌, subst, arith}
use Rattle.std.specs.Prelude.{nat_le}
use Rattle.std.proofs.lemmas.Bool.{false≢true}
use Rattle.std.proofs.lemmas.Bool.Decides.{nat_tests}
use Rattle.hb_base.specs.declared.cause.Cause.{Cause}
use Rattle.hb_world.specs.declared.act.Act.{Act}
use Rattle.hb_world.specs.declared.act.Act.TheVariants as act
use Rattle.hb_gateway.specs.Key.{Key}
use Rattle.hb_captured.specs.Answer.{address_of, key_of, why_for}
use Rattle.hb_captured.specs.Calm.{IsCalmBy, IsIdleBy}
use Rattle.hb_captured.specs.Captured as m
use Rattle.hb_captured.specs.Captured.{Captured, Stage, is_raw, may_shut_up, may_shut}
use Rattle.hb_tunnel.specs.Way.{is_done}
use Rattle.hb_relay.specs.declared.relay.Relay.{Relay}
use Rattle.hb_relay.specs.declared.stage.Stage as code
use Rattle.hb_relay.specs.declared.stage.Stage.TheVariants.{Fronting, Due, Opening, Live, Over}
use Rattle.hb_relay.specs.Acts.{Acts}
use Rattle.hb_relay.specs.Moving.{act_by, acted_by}
use Rattle.hb_relay.specs.Shows.{Shows, Becomes, HasOne, IsStraight, captured_of, as_told, stage_of}
use Rattle.hb_relay.proofs.Reached.{RestsBy, stage_is, shows_so, calm_at, upstream_at}

-- what lives without a stream has an upstream
one_upstream : (key : Option Key) (up gate : ℕ) → HasOne key up gate → (gate == 0) ≡ true → 0 < up
one_upstream None up gate is raw = is.0
one_upstream (Some key) up gate is raw = absurd (let none : gate ≡ 0 = grind (arith, nat_tests, raw) in omega (arith, is.1, none))

-- and where an upstream may be shut there is no stream
shut_raw : (x : Captured) (b : Bool) → is_raw x ≡ b → may_shut_up x ≡ true → is_raw x ≡ true
shut_raw x true raw may = raw
shut_raw x false raw may =
    absurd (false≢true (sym (ap (λ (b : Bool). b && is_done x.ways.up && not x.up_shut) raw) ∙ may))

module _ (old new : Relay) where
  at : (x : Captured) → Shows old x → (s : code.Stage) → old.stage ≡ s → x.stage ≡ stage_of s
  at x shows s is = stage_is old x shows.same ∙ ap stage_of is

  -- with a change that leaves it calm
  shown : (x y : Captured) (change : Captured → Captured) → Shows old x → as_told y ≡ change (as_told x)
      → captured_of new ≡ change (captured_of old) → RestsBy y.stage y → IsStraight y → Shows new y
  shown x y change shows told now rest straight = shows_so new y (told ∙ ap change shows.same ∙ sym now) rest straight

  live_acts : old.stage ≡ Live → (b c : Bool) → may_shut_up (captured_of old) ≡ b → may_shut (captured_of old) ≡ c
      → captured_of new ≡ cond b (record (captured_of old) { up_shut = true })
      (cond c (record (captured_of old) { shut = true }) (captured_of old))
      → Acts (cond b (Some (act.Shut old.up)) (cond c (Some (act.Shut old.number)) None)) old new
  live_acts is true c up_is down_is now =
      inr (λ a shows.
      let x = a.link in
      let lives = at x shows Live is in (
        (
          shows.calm,
          lives,
          ap (λ (y : Captured). y.up) shows.same,
          subst (λ (n : ℕ). 0 < n) (ap (λ (y : Captured). y.up) shows.same)
              (one_upstream (key_of x.aim) x.up x.gate (upstream_at old x shows m.live lives)
              (shut_raw x (is_raw x) refl (ap may_shut_up shows.same ∙ up_is))),
          ap may_shut_up shows.same ∙ up_is,
        ),
        shown x (record x { up_shut = true }) (λ y. record y { up_shut = true }) shows refl now (
          subst (λ (s : Stage). IsCalmBy s (record x { up_shut = true })) (sym lives) (calm_at old x shows m.live lives),
          shows.upstream,
        ) shows.straight,
      ))
  live_acts is false true up_is down_is now =
      inl (
        refl,
        (λ a shows.
            let x = a.link in
            let lives = at x shows Live is in (
              (refl, shows.calm, lives, ap may_shut shows.same ∙ down_is),
              shown x (record x { shut = true }) (λ y. record y { shut = true }) shows refl now (
                subst (λ (s : Stage). IsCalmBy s (record x { shut = true })) (sym lives) (calm_at old x shows m.live lives),
                shows.upstream,
              ) shows.straight,
            )),
      )
  live_acts is false false up_is down_is now = (
    now,
    (λ x shows. subst (λ (s : Stage). IsIdleBy s x) (sym (at x shows Live is))
        (ap may_shut_up shows.same ∙ up_is, ap may_shut shows.same ∙ down_is)),
  )

  over_acts : (why : Cause) → old.stage ≡ Over why → (b c : Bool) → nat_le old.up 0 ≡ b → old.closed ≡ c
      → captured_of new ≡ cond (not b) (record (captured_of old) { up = 0 })
      (cond (not c) (record (captured_of old) { closed = true }) (captured_of old))
      → Acts (cond (not b) (Some (act.Close old.up why)) (cond (not c) (Some (act.Close old.number why)) None)) old new
  over_acts why is false c up_is closed_is now =
      inr (λ a shows.
      let x = a.link in
      let ends = at x shows (Over why) is in
      let some : 0 < old.up = grind (arith, nat_tests, up_is) in (
        (shows.calm, ends, ap (λ (y : Captured). y.up) shows.same, some),
        shown x (record x { up = 0 }) (λ y. record y { up = 0 }) shows refl now
            (subst (λ (s : Stage). RestsBy s (record x { up = 0 })) (sym ends) (calm_at old x shows (m.over why) ends, tt))
            shows.straight,
      ))
  over_acts why is true false up_is closed_is now =
      inl (
        refl,
        ap (λ (y : Captured). y.up) now ∙ grind (arith, nat_tests, up_is),
        (λ a shows.
            let x = a.link in
            let ends = at x shows (Over why) is in (
              (refl, shows.calm, ends, ap (λ (y : Captured). y.closed) shows.same ∙ closed_is),
              shown x (record x { closed = true }) (λ y. record y { closed = true }) shows refl now
                  (subst (λ (s : Stage). RestsBy s (record x { closed = true })) (sym ends) (calm_at old x shows (m.over why) ends, tt))
                  shows.straight,
            )),
      )
  over_acts why is true true up_is closed_is now =
      let none : old.up ≡ 0 = grind (arith, nat_tests, up_is) in (
        now,
        (λ x shows. subst (λ (s : Stage). IsIdleBy s x) (sym (at x shows (Over why) is))
            (ap (λ (y : Captured). y.closed) shows.same ∙ closed_is, ap (λ (y : Captured). y.up) shows.same ∙ none)),
      )

  pub acts : (due_now : Option Act) → due_now ≡ act_by old.number (stage_of old.stage) (captured_of old)
      → Becomes (acted_by (stage_of old.stage)) old new → Acts due_now old new
  acts due_now due_is becomes = by old.stage refl
    where
      so : (s : code.Stage) → old.stage ≡ s → Acts (act_by old.number (stage_of s) (captured_of old)) old new → Acts due_now old new
      so s is holds =
          subst (λ (o : Option Act). Acts o old new)
          (sym (due_is ∙ ap (λ (t : code.Stage). act_by old.number (stage_of t) (captured_of old)) is)) holds

      now : (s : code.Stage) → old.stage ≡ s → captured_of new ≡ acted_by (stage_of s) (captured_of old)
      now s is = becomes.after ∙ ap (λ (t : code.Stage). acted_by (stage_of t) (captured_of old)) is

      by : (s : code.Stage) → old.stage ≡ s → Acts due_now old new
      by Fronting is =
          so Fronting is (now Fronting is, (λ x shows. subst (λ (s : Stage). IsIdleBy s x) (sym (at x shows Fronting is)) tt))
      by Opening is =
          so Opening is (now Opening is, (λ x shows. subst (λ (s : Stage). IsIdleBy s x) (sym (at x shows Opening is)) tt))
      by Due is =
          so Due is (
            now Due is,
            (λ x shows. (
              at x shows Due is,
              sym (ap (λ (y : Captured). address_of y.aim) shows.same),
              sym (ap (λ (y : Captured). why_for y.aim y.door old.number) shows.same),
            )),
          )
      by Live is =
          so Live is (live_acts is (may_shut_up (captured_of old)) (may_shut (captured_of old)) refl refl (now Live is))
      by (Over why) is =
          so (Over why) is (over_acts why is (nat_le old.up 0) old.closed refl refl (now (Over why) is))
