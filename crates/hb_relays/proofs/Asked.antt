-- A stream that is asked for: what the whole is behind it.
use Rattle.std.proofs.Common.{◌≡◌, ◌≢◌, ⊎_elim, ℕ, ◌==◌, Bool, true, false, cond, List, [], ◌∷◌, ◌++◌, Ok, None, refl, ap, sym, ◌∙◌, subst}
use Rattle.std.proofs.lemmas.Bool.{false≢true, cases_eq, eq-eqb, ne_eqb}
use Rattle.hb_base.specs.declared.target.Target.{Target}
use Rattle.hb_captured.specs.Captured.{Captured, is_raw}
use Rattle.hb_captured.specs.Part.{asked}
use Rattle.hb_captured.specs.Runs.{MayGo, next_link}
use Rattle.hb_conn.specs.Observed.{next_stream}
use Rattle.hb_gateway.specs.Calm.{IsCalm, IsCalmBy, is_failing}
use Rattle.hb_gateway.specs.Gateway as gateway
use Rattle.hb_gateway.specs.Gateway.{Gateway, Phase, Stream, asked_on, offers, request_of}
use Rattle.hb_gateway.specs.Key.{Key}
use Rattle.hb_gateway.specs.Response.{asked as waits}
use Rattle.hb_model.specs.declared.config.NodeConfig.{NodeConfig}
use Rattle.hb_proxy.proofs.Streams.{runs_agree}
use Rattle.hb_proxy.specs.Machine.{Machine, plain_local, with_stream}
use Rattle.hb_proxy.specs.Points.{Point, of_stream}
use Rattle.hb_proxy.specs.Runs.{Asks, Steps, StandsFor, goes_on, RestsAmong, StreamRestsBy, NoneOffersAmong}
use Rattle.hb_proxy.specs.Shared.{asks}
use Rattle.hb_relays.proofs.Resting.{asked_keeps, rests_still}

module _ (g : NodeConfig) (x : Machine) (points : List Point) (stands : StandsFor g x points) (l n s : ℕ) (authority : Target)
    (may : MayGo l (plain_local x l) (asked n s)) (room : offers (x.gates n) ≡ true) (number : next_stream (x.gates n).conn ≡ Ok s)
    (first : Asks x l n authority) where
  abbrev pub asks_next : Gateway
  asks_next = asked_on s l authority (x.gates n)

  abbrev pub asks_then : Machine
  asks_then = with_stream l n (next_link (x.plain l) (asked n s)) asks_next x

  pub asks_steps : Steps g x (of_stream l n s (asks authority)) asks_then
  asks_steps = (may, asks_next, (room, number, refl), first, refl)

  -- each link but these is as it was
  pub asks_other : (k : ℕ) → k ≢ l → asks_then.plain k ≡ x.plain k
  asks_other k apart = ap (λ (t : Bool). cond t (next_link (x.plain l) (asked n s)) (x.plain k)) (ne_eqb k l apart)

  pub asks_here : asks_then.plain l ≡ next_link (x.plain l) (asked n s)
  asks_here = ap (λ (t : Bool). cond t (next_link (x.plain l) (asked n s)) (x.plain l)) (eq-eqb l l refl)

  pub asks_other_gate : (m : ℕ) → m ≢ n → asks_then.gates m ≡ x.gates m
  asks_other_gate m apart = ap (λ (t : Bool). cond t asks_next (x.gates m)) (ne_eqb m n apart)

  pub asks_gate : asks_then.gates n ≡ asks_next
  asks_gate = ap (λ (t : Bool). cond t asks_next (x.gates n)) (eq-eqb n n refl)

  -- the stream was nobody's
  stream_here : (asks_next.streams s).captured ≡ l
  stream_here =
      ap (λ (t : Bool). (cond t (record gateway.no_stream { stage = waits; captured = l }) ((x.gates n).streams s)).captured)
      (eq-eqb s s refl)

  apart_there : (k : ℕ) → k ≢ l → is_raw (x.plain k) ≡ false → (x.plain k).gate ≡ n → (x.plain k).stream ≢ s
  apart_there k apart on gate stream =
      let agrees = runs_agree g asks_then (points ++ of_stream l n s (asks authority) ∷ [])
      (goes_on stands (of_stream l n s (asks authority)) asks_steps refl) in
      let same = asks_other k apart in
      let is : ((asks_then.gates (x.plain k).gate).streams (x.plain k).stream).captured ≡ k =
      subst (λ (w : Captured). ((asks_then.gates w.gate).streams w.stream).captured ≡ k) same
      (agrees.carried k (ap is_raw same ∙ on)).1 in
      let there : ((asks_then.gates n).streams s).captured ≡ k =
      subst (λ (i : ℕ). ((asks_then.gates n).streams i).captured ≡ k) stream
      (subst (λ (m : ℕ). ((asks_then.gates m).streams (x.plain k).stream).captured ≡ k) gate is) in
      apart (sym there ∙ ap (λ (w : Gateway). (w.streams s).captured) asks_gate ∙ stream_here)

  -- each stream rests on
  pub asks_rests : (k : ℕ) → RestsAmong x.gates (x.plain k) → RestsAmong asks_then.gates (asks_then.plain k)
  asks_rests k rests = ⊎_elim
      (λ at. subst (λ (i : ℕ). RestsAmong asks_then.gates (asks_then.plain i)) (sym at)
      (subst (λ (w : Captured). RestsAmong asks_then.gates w) (sym asks_here) (λ on. tt)))
      (λ apart. subst (λ (w : Captured). RestsAmong asks_then.gates w) (sym (asks_other k apart)) (λ on. other apart on))
      (cases_eq k l)
    where
      other : k ≢ l → is_raw (x.plain k) ≡ false → StreamRestsBy (x.plain k).stage (x.plain k) (asks_then.gates (x.plain k).gate)
      other apart on = ⊎_elim
          (λ at. subst (λ (m : ℕ). StreamRestsBy (x.plain k).stage (x.plain k) (asks_then.gates m)) (sym at)
          (subst (StreamRestsBy (x.plain k).stage (x.plain k)) (sym asks_gate)
          (rests_still (x.plain k).stage (x.plain k) (x.gates n) asks_next
          (asked_keeps (x.gates n).conn s (request_of authority) (x.plain k).stream number (apart_there k apart on at))
          (subst (λ (m : ℕ). StreamRestsBy (x.plain k).stage (x.plain k) (x.gates m)) at (rests on)))))
          (λ away. subst (StreamRestsBy (x.plain k).stage (x.plain k)) (sym (asks_other_gate (x.plain k).gate away)) (rests on))
          (cases_eq (x.plain k).gate n)

  -- nothing more happens by itself there
  told_by : (b : Bool) (t : Stream) → t.mail ≡ None → (cond b (record gateway.no_stream { stage = waits; captured = l }) t).mail ≡ None
  told_by true t none = refl
  told_by false t none = none

  reset_by : (b : Bool) (t : Stream) → is_failing t.stage ≡ false
      → is_failing (cond b (record gateway.no_stream { stage = waits; captured = l }) t).stage ≡ false
  reset_by true t none = refl
  reset_by false t none = none

  calm_by : (phase : Phase) → IsCalmBy phase (x.gates n) → IsCalmBy phase asks_next
  calm_by gateway.opening calm = λ k. reset_by (k == s) ((x.gates n).streams k) (calm k)
  calm_by gateway.serving calm = (λ k. reset_by (k == s) ((x.gates n).streams k) (calm.0 k), calm.1)
  calm_by phase calm = tt

  calm_here : IsCalm (x.gates n) → IsCalm asks_next
  calm_here calm = (λ k. told_by (k == s) ((x.gates n).streams k) (calm.0 k), calm_by (x.gates n).phase calm.1)

  pub asks_calm : (m : ℕ) → IsCalm (x.gates m) → IsCalm (asks_then.gates m)
  asks_calm m calm = ⊎_elim
      (λ at. subst (λ (i : ℕ). IsCalm (asks_then.gates i)) (sym at)
      (subst IsCalm (sym asks_gate) (calm_here (subst (λ (i : ℕ). IsCalm (x.gates i)) at calm))))
      (λ apart. subst IsCalm (sym (asks_other_gate m apart)) calm)
      (cases_eq m n)

  -- no other one has room then than had
  pub asks_offers : (key : Key) → NoneOffersAmong x.gates key → NoneOffersAmong asks_then.gates key
  asks_offers key none m is = ⊎_elim
      (λ at. (let key_is : (x.gates n).key ≡ key =
      sym (ap (λ (w : Gateway). w.key) asks_gate) ∙ ap (λ (i : ℕ). (asks_then.gates i).key) (sym at) ∙ is in
      absurd (false≢true (sym (none n key_is) ∙ room))))
      (λ apart. ap offers (asks_other_gate m apart) ∙ none m (ap (λ (w : Gateway). w.key) (sym (asks_other_gate m apart)) ∙ is))
      (cases_eq m n)
