-- A link that is accepted is kept, and a link that may be shown.
use Rattle.std.proofs.Common.{◌≡◌, ◌≢◌, ⊎_elim, ◌==◌, ℕ, ◌<◌, ◌^◌, Bool, cond, Option, Some, None, is_some, refl, ap, sym, ◌∙◌, subst, arith}
use Rattle.std.proofs.lemmas.Bool.{cases_eq, eq-eqb, ne_eqb, false≢true}
use Rattle.std.specs.FinMap.{get, get-empty, empty}
use Rattle.hb_captured.specs.Captured as m
use Rattle.hb_captured.specs.Answer.{Aim, key_of}
use Rattle.hb_captured.specs.Captured.{Captured, Stage, no_link, at_stage}
use Rattle.hb_gate.specs.declared.gate.Gate.{Gate}
use Rattle.hb_gateway.specs.Calm.{close_due}
use Rattle.hb_gateway.specs.Gateway as gateway
use Rattle.hb_map.proofs.Laws.{put_here, put_elsewhere}
use Rattle.hb_proxy.specs.Machine.{Machine}
use Rattle.hb_proxy.specs.Runs.{IfThrough, NoneOffersAmong}
use Rattle.hb_proxy.specs.Seen.{IsGateThere, IsPlainThereBy}
use Rattle.hb_relay.proofs.Refused.{new_is_shown}
use Rattle.hb_relay.specs.declared.relay.Relay.{Relay}
use Rattle.hb_relays.specs.Refused.{ForgetsLink, OneIsShown, LacksGate, KeepsClosedGate, MissesClose, WaitsThough}
use Rattle.hb_relays.specs.Shows.{IsAway, IsAwayBy, IsGateAway, IsIdle, ShowsGate, ShowsRelay}
use Rattle.hb_relays.proofs.Showing.{raw_rests}

-- A LINK THAT IS TAKEN IN IS KEPT

unkept : (o : Option Relay) (n : ℕ) (x z : Captured) → x.stage ≡ m.unborn → ShowsRelay n o x → ShowsRelay n o z → IsAway z
unkept None n x z unborn was now = now
unkept (Some w) n x z unborn was now = absurd (subst (λ (s : Stage). IsPlainThereBy s x.closed) unborn was.2)

pub forgets_link : ForgetsLink
forgets_link g x y points k d n stands shows few steps begins =
    let did = begins g x y points stands shows few steps in
    let fronts : (did.0.plain n).stage ≡ m.fronting =
    ap (λ (w : Machine). (w.plain n).stage) did.1.2
    ∙ ap (λ (b : Bool). (cond b (at_stage m.fronting (y.plain n)) (y.plain n)).stage) (eq-eqb n n refl) in
    let away = unkept (get k.relays n) n (x.plain n) (did.0.plain n) steps.0.1 (shows.relays n) (did.2.relays n) in
    subst (λ (s : Stage). IsAwayBy s (did.0.plain n)) fronts away

-- ONE LINK

pub one_is_shown : OneIsShown
one_is_shown g k w n narrow number is relays ups gates counted = record {
  relays = λ l. ⊎_elim
      (λ same. subst (λ (i : ℕ). ShowsRelay i (get k.relays i) (f i)) (sym same)
      (subst (λ (o : Option Relay). ShowsRelay n o (f n)) (sym kept)
      (subst (λ (c : Captured). ShowsRelay n (Some w) c) (sym (f_here n refl)) (number, new_is_shown w is, refl))))
      (λ apart. subst (λ (o : Option Relay). ShowsRelay l o (f l)) (sym (gone l apart)) (subst IsAway (sym (f_there l apart)) refl))
      (cases_eq l n);
  index = record {
    found = λ l u joins. absurd (let none = no_up l in let some = joins.0 in let at = joins.1 in omega (arith, none, some, at));
    joined = λ l u found. absurd (let both : None ≡ Some l = sym (search get-empty) ∙ ap (λ (i : _). get i u) (sym ups) ∙ found in cc both);
  };
  numbered = λ l some. ⊎_elim (λ same. subst (λ (i : ℕ). i < 2 ^ 64) (sym same) narrow)
      (λ apart. absurd (false≢true (sym (ap is_some (gone l apart)) ∙ some))) (cases_eq l n);
  idle = λ l none. ⊎_elim (λ same. subst IsIdle (sym (f_here l same)) tt) (λ apart. subst IsIdle (sym (f_there l apart)) tt)
      (cases_eq l n);
  counted = counted;
  gates = λ m. subst (λ (o : Option Gate). ShowsGate m o gateway.no_link) (sym (no_gate m)) tt;
  gate_numbered = λ m some. absurd (false≢true (sym (ap is_some (no_gate m)) ∙ some));
  gate_idle = λ m none. refl;
  calm = record {
    gates = λ m. (λ s. refl, tt);
    streams = λ l. raw_rests (λ m. gateway.no_link) (f l)
        (⊎_elim (λ same. ap (λ (c : Captured). c.gate) (f_here l same)) (λ apart. ap (λ (c : Captured). c.gate) (f_there l apart)) (cases_eq l n));
  };
  wanting = λ l stage. ⊎_elim
      (λ same. absurd (let no : m.fronting ≡ m.due = sym (ap (λ (c : Captured). c.stage) (f_here l same)) ∙ stage in cc no))
      (λ apart. absurd (let no : m.unborn ≡ m.due = sym (ap (λ (c : Captured). c.stage) (f_there l apart)) ∙ stage in cc no))
      (cases_eq l n);
}
  where
    f : ℕ → Captured
    f l = cond (l == n) (at_stage m.fronting no_link) no_link

    f_here : (l : ℕ) → l ≡ n → f l ≡ at_stage m.fronting no_link
    f_here l same = ap (λ (b : _). cond b (at_stage m.fronting no_link) no_link) (eq-eqb l n same)

    f_there : (l : ℕ) → l ≢ n → f l ≡ no_link
    f_there l apart = ap (λ (b : _). cond b (at_stage m.fronting no_link) no_link) (ne_eqb l n apart)

    no_up : (l : ℕ) → (f l).up ≡ 0
    no_up l =
        ⊎_elim (λ same. ap (λ (c : Captured). c.up) (f_here l same)) (λ apart. ap (λ (c : Captured). c.up) (f_there l apart))
        (cases_eq l n)

    kept : get k.relays n ≡ Some w
    kept = ap (λ (i : _). get i n) relays ∙ put_here empty n w

    no_gate : (m : ℕ) → get k.gates m ≡ None
    no_gate m = ap (λ (i : _). get i m) gates ∙ search get-empty

    gone : (l : ℕ) → l ≢ n → get k.relays l ≡ None
    gone l apart = ap (λ (i : _). get i l) relays ∙ put_elsewhere empty n w l apart ∙ search get-empty

-- LINKS TO GATEWAYS

pub lacks_gate : LacksGate
lacks_gate g k x n phase none shows =
    subst IsGateAway phase (subst (λ (o : Option Gate). ShowsGate n o (x.gates n)) none (shows.gates n))

pub keeps_closed_gate : KeepsClosedGate
keeps_closed_gate g k x n w phase found shows =
    subst IsGateThere phase (subst (λ (o : Option Gate). ShowsGate n o (x.gates n)) found (shows.gates n)).2

pub misses_close : MissesClose
misses_close g k x n why phase none shows =
    let both : Some why ≡ None = sym (ap close_due phase) ∙ shows.gate_idle n none in
    cc both

pub waits_though : WaitsThough
waits_though g k x l n authority endpoint stage aims room shows =
    let none : NoneOffersAmong x.gates (x.gates n).key =
    subst (λ (a : Aim). IfThrough (key_of a) (NoneOffersAmong x.gates)) aims (shows.wanting l stage) in
    false≢true (sym (none n refl) ∙ room)
