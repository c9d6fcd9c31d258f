-- Behind a look there is room for all that the frames held may need, once the stream is reset that is to be.
use Rattle.std.proofs.Common.{◌≡◌, ⊎_elim, ℕ, ◌==◌, Bool, true, false, cond, List, Option, Some, None, refl, ap, sym, ◌∙◌, subst}
use Rattle.std.proofs.lemmas.Bool.{false≢true, cond_both, eq-eqb, eqb-true}
use Rattle.hb_base.specs.declared.cause.Cause.{Cause}
use Rattle.hb_conn.specs.Connection.{Connection}
use Rattle.hb_conn.specs.Observed.{aborted}
use Rattle.hb_conn.specs.Outcome.{is_silent}
use Rattle.hb_conn.specs.declared.found.Found.{Found}
use Rattle.hb_conn.specs.declared.found.Found.TheVariants as found
use Rattle.hb_history.specs.Points as history
use Rattle.hb_history.specs.OwnFrames.{is_fault}
use Rattle.hb_kept.specs.Kept.{Fares}
use Rattle.hb_kept.specs.Looks as looks
use Rattle.hb_model.specs.Discovery.{headers_read}
use Rattle.hb_gateway.specs.Calm.{AllReset, is_failing}
use Rattle.hb_gateway.specs.Gateway.{Gateway, stage_of, at_stage, at_stream, is_active, settled, on_found}
use Rattle.hb_gateway.specs.Gateway as m
use Rattle.hb_gateway.specs.Hears.{hears, after, left_behind, all_hear}
use Rattle.hb_gateway.specs.Part.{Part, looked}
use Rattle.hb_gateway.specs.Response as r
use Rattle.hb_gateway.specs.Response.{Heard, opens, brings, ends, fails, ended, left_by}
use Rattle.hb_gateway.specs.Runs.{Steps, StandsFor}
use Rattle.hb_gateway.proofs.Resetting.{one_fails}
use Rattle.hb_gate.specs.Calls.{Resets, none, more, FaresBy, FaresOn, MayLook}
use Rattle.hb_gate.proofs.EndTold.{is_asked, all_known}
use Rattle.hb_gate.proofs.Spare.{HasSpare, WasToTell, spares, reset_fares}

-- A LINK OF WHICH ONE STREAM AT MOST IS TO BE RESET

abbrev OneFails : Gateway → Type 0
OneFails y = (s t : ℕ) → is_failing (stage_of y s) ≡ true → is_failing (stage_of y t) ≡ true → s ≡ t

-- where none is, nothing is reset
none_resets : (l : ℕ) (y z : Gateway) → AllReset y → Fares y.conn → Resets l y z → Fares z.conn
none_resets l y z calm fares (none is) = subst (λ (w : Gateway). Fares w.conn) (sym is) fares
none_resets l y z calm fares (more s code step rest) = absurd (false≢true (sym (calm s) ∙ ap is_failing step.1))

-- behind its reset none is
all_reset : (y mid : Gateway) (s : ℕ) (c : Connection) → OneFails y → is_failing (stage_of y s) ≡ true
    → mid ≡ record (at_stream s (at_stage r.over) y) { conn = c } → AllReset mid
all_reset y mid s c one here is j =
    ap (λ (w : Gateway). is_failing (stage_of w j)) is
    ∙ cond_both (j == s) (at_stage r.over (y.streams j)) (y.streams j) (λ (t : m.Stream). is_failing t.stage ≡ false) (λ same. refl)
    (λ apart. by (is_failing (stage_of y j)) refl apart)
  where
    by : (b : Bool) → is_failing (stage_of y j) ≡ b → (j == s) ≡ false → b ≡ false
    by false is apart = refl
    by true is apart = absurd (false≢true (sym apart ∙ eq-eqb j s (one j s is here)))

one_resets : (l : ℕ) (y z : Gateway) → OneFails y → Fares y.conn
    → ((s code : ℕ) → stage_of y s ≡ r.failing code → Fares (aborted y.conn s code)) → Resets l y z → Fares z.conn
one_resets l y z one fares behind (none is) = subst (λ (w : Gateway). Fares w.conn) (sym is) fares
one_resets l y z one fares behind (more {mid = mid} s code step rest) =
    let calm = all_reset y mid s (aborted y.conn s code) one (ap is_failing step.1) step.2 in
    none_resets l mid z calm (subst (λ (w : Gateway). Fares w.conn) (sym step.2) (behind s code step.1)) rest

-- A LOOK

-- where a failure leaves a stream over, none is to be reset
pub calm_behind : (p : Part) (st : r.Stage) (heard : Option Heard) → ((why : Cause) → left_behind p why ≡ r.over) → is_failing st ≡ false
    → is_failing (after p st heard) ≡ false
calm_behind p st None left calm = calm
calm_behind p st (Some (opens end)) left calm = refl
calm_behind p st (Some (brings bytes)) left calm = calm
calm_behind p st (Some ends) left calm = calm
calm_behind p st (Some (fails why)) left calm = ap is_failing (left why)

-- nor behind the end of the gateway's side, where no status is waited for
calm_ended : (p : Part) (k s : ℕ) (st : r.Stage) → is_failing st ≡ false → ((k == s) ≡ true → is_asked st ≡ false)
    → is_failing (after p st (cond (k == s) (ended st) None)) ≡ false
calm_ended p k s st calm waits = by (k == s) refl
  where
    of : (st : r.Stage) → is_failing st ≡ false → is_asked st ≡ false → is_failing (after p st (ended st)) ≡ false
    of r.unused calm waits = refl
    of r.asked calm waits = absurd (false≢true (sym waits))
    of r.carrying calm waits = refl
    of (r.failing code) calm waits = calm
    of r.over calm waits = refl

    by : (b : Bool) → (k == s) ≡ b → is_failing (after p st (cond b (ended st) None)) ≡ false
    by true is = of st calm (waits is)
    by false is = calm

settled_calm : (active : Bool) (st : r.Stage) → is_failing st ≡ false → is_failing (settled active st) ≡ false
settled_calm true st calm = calm
settled_calm false r.unused calm = refl
settled_calm false r.asked calm = refl
settled_calm false r.carrying calm = refl
settled_calm false (r.failing code) calm = refl
settled_calm false r.over calm = refl

module _ (l : ℕ) (x : Gateway) (parts : List Part) (stands : StandsFor l x parts) (may : MayLook x) (c : Connection) where
  abbrev pub reached : Found → List history.Point → Gateway
  reached told ps = on_found told c (all_hear (looked ps told (headers_read c)) x)

  pub looks_to : (told : Found) (look : looks.Looked x.conn told c)
      → Steps l x (looked look.points told (headers_read c)) (reached told look.points)
  looks_to told look = (may.serves, may.reset, may.told, c, look.look, refl, refl)

  -- while it serves
  serves : (y : Gateway) → y.phase ≡ m.serving → ((z : Gateway) → Resets l y z → Fares z.conn) → FaresOn l y
  serves y is fares = subst (λ (phase : m.Phase). FaresBy phase l y) (sym is) (λ z run done. fares z run)

  -- where no stream is to be reset
  calm_fares : (told : Found) (ps : List history.Point) → Fares c → (reached told ps).phase ≡ m.serving
      → ((s : ℕ) → is_failing (stage_of (all_hear (looked ps told (headers_read c)) x) s) ≡ false) → FaresOn l (reached told ps)
  calm_fares told ps fares is calm =
      serves (reached told ps) is
      (λ z run. none_resets l (reached told ps) z
      (λ s. settled_calm (is_active c s) (stage_of (all_hear (looked ps told (headers_read c)) x) s) (calm s)) fares run)

  over_fares : (told : Found) (ps : List history.Point) → Fares c → (reached told ps).phase ≡ m.serving
      → ((why : Cause) → left_by told why ≡ r.over) → FaresOn l (reached told ps)
  over_fares told ps fares is left =
      calm_fares told ps fares is
      (λ s. calm_behind (looked ps told (headers_read c)) (stage_of x s) (hears x (looked ps told (headers_read c)) s) left (may.reset s))

  -- where one may be, and there is room for that
  spare_fares : (told : Found) (look : looks.Looked x.conn told c) → Fares c → (reached told look.points).phase ≡ m.serving → HasSpare c
      → FaresOn l (reached told look.points)
  spare_fares told look fares is spare =
      let y = reached told look.points in
      serves y is
      (λ z run. one_resets l y z (λ s t. one_fails l x y look.points told (headers_read c) (looks_to told look) s t) fares
      (λ s code failing. reset_fares c s code fares spare) run)

  ended_fares : (k : ℕ) (ps : List history.Point) → Fares c → x.conn.ended ≡ Some k → FaresOn l (reached (found.Ended k) ps)
  ended_fares k ps fares was =
      calm_fares (found.Ended k) ps fares may.serves
      (λ s. calm_ended (looked ps (found.Ended k) (headers_read c)) k s (stage_of x s) (may.reset s)
      (λ same. (all_known l x parts stands s (subst (λ (n : ℕ). x.conn.ended ≡ Some n) (eqb-true k s same) was)).0))

  no_end : {A : Type 0} → (told : Found) (loud : is_silent told ≡ false) (plain : is_fault told ≡ false)
      → ((s : ℕ) → told ≡ found.Ended s → ⊥) → WasToTell x.conn c told loud plain → A
  no_end told loud plain apart was = absurd (apart was.0 was.1)

  pub fares_look : (told : Found) (look : looks.Looked x.conn told c) → FaresOn l (reached told look.points)
  fares_look found.Silent look = calm_fares found.Silent look.points look.fares may.serves (λ s. may.reset s)
  fares_look (found.Opened k end) look =
      let told = found.Opened k end in
      ⊎_elim (λ (was : WasToTell x.conn c told refl refl). no_end told refl refl (λ s is. cc) was)
      (λ (spare : HasSpare c). spare_fares told look look.fares may.serves spare)
      (spares x.conn c told refl refl may.fares look.look.finds look.fares.kept.goes_on)
  fares_look (found.Chunk k end) look =
      let told = found.Chunk k end in
      ⊎_elim (λ (was : WasToTell x.conn c told refl refl). no_end told refl refl (λ s is. cc) was)
      (λ (spare : HasSpare c). spare_fares told look look.fares may.serves spare)
      (spares x.conn c told refl refl may.fares look.look.finds look.fares.kept.goes_on)
  fares_look (found.Ended k) look =
      let told = found.Ended k in
      ⊎_elim (λ (was : WasToTell x.conn c told refl refl).
      ended_fares k look.points look.fares (was.2 ∙ ap (λ (n : ℕ). Some n) (let same : was.0 ≡ k = (let is = was.1 in cc) in same)))
      (λ (spare : HasSpare c). spare_fares told look look.fares may.serves spare)
      (spares x.conn c told refl refl may.fares look.look.finds look.fares.kept.goes_on)
  fares_look (found.Reset k code) look = over_fares (found.Reset k code) look.points look.fares may.serves (λ why. refl)
  fares_look (found.Broken k code) look = over_fares (found.Broken k code) look.points look.fares may.serves (λ why. refl)
  fares_look (found.GoneAway last) look = over_fares (found.GoneAway last) look.points look.fares may.serves (λ why. refl)
  fares_look (found.Fault code) look = tt
