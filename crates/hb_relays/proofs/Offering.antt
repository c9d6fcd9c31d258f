-- The first link to a gateway that has room.
use Rattle.std.proofs.Common.{◌≡◌, inl, inr, ⊎_elim, ℕ, ◌<◌, ◌^◌, ◌-◌, ◌&&◌, Bool, true, false, List, Option, Some, None, IsSome, is_some, refl, ap, sym, ◌∙◌, subst, arith}
use Rattle.std.proofs.lemmas.Bool.{cases_order, false≢true, ltb-true, lt-ltb}
use Rattle.std.specs.FinMap.{FinMap, get}
use Rattle.std.specs.Option.{option_map}
use Rattle.std.specs.Ordering.{nat_cmp}
use Rattle.hb_gate.specs.Calls as gate
use Rattle.hb_gate.specs.Observed.{offers_on}
use Rattle.hb_gate.specs.declared.gate.Gate.{Gate}
use Rattle.hb_gateway.specs.Gateway as gateway
use Rattle.hb_gateway.specs.Gateway.{Gateway, Phase, carries, has_room, offers}
use Rattle.hb_gateway.specs.Key.{Key}
use Rattle.hb_gateway.specs.Runs as gateways
use Rattle.hb_map.specs.Keyed.{IsFirstFrom}
use Rattle.hb_model.specs.declared.config.NodeConfig.{NodeConfig}
use Rattle.hb_proxy.specs.Machine.{Machine, outward}
use Rattle.hb_proxy.proofs.Gates.{gates_run}
use Rattle.hb_proxy.specs.Points.{Point, gates_of}
use Rattle.hb_proxy.specs.Runs.{StandsFor}
use Rattle.hb_relays.specs.Joining.{Gates, Links, Streams, ShowsSome, AreShown, HasRoom, OffersOn, OffersAt, IsBehind, FirstOffers}
use Rattle.hb_relays.specs.Pumping.{is_before}
use Rattle.hb_relays.specs.Shows.{IsGateAway, ShowsGate}
use Rattle.hb_relays.specs.declared.relays.Relays.{Relays}

-- ONE LINK TO A GATEWAY

away_offers : (y : Gateway) → IsGateAway y.phase → offers y ≡ false
away_offers y = by y.phase
  where
    by : (phase : Phase) → IsGateAway phase → (carries phase && has_room y) ≡ false
    by gateway.unborn away = refl
    by gateway.closed away = refl
    by gateway.opening away = absurd away
    by gateway.serving away = absurd away
    by (gateway.faulted code) away = absurd away
    by (gateway.closing why) away = absurd away

pub offers_none : (gates : Gates) (n : ℕ) (key : Key) → get gates n ≡ None → OffersAt gates n key false
offers_none gates n key none = record {
  room = λ is. absurd (false≢true is);
  shown = λ f are keyed. away_offers (f n) (subst (λ (o : Option Gate). ShowsGate n o (f n)) none (are.shown n));
}

module _ (gates : Gates) (n : ℕ) (key : Key) (kept : Gate) (is : get gates n ≡ Some kept) where
  here : (f : ℕ → Gateway) → AreShown gates f → ShowsGate n (Some kept) (f n)
  here f are = subst (λ (o : Option Gate). ShowsGate n o (f n)) is (are.shown n)

  offers_is : (o : Bool) → gate.Offers kept o → (f : ℕ → Gateway) → AreShown gates f → o ≡ offers (f n)
  offers_is o says f are =
      let shown = here f are in
      says (f n) (are.runs n).0 (subst (λ (i : ℕ). gateways.StandsFor i (f n) (are.runs n).0) (sym shown.0) (are.runs n).1) shown.1

  pub offers_full : (o : Bool) → gate.Offers kept o → o ≡ false → OffersAt gates n key false
  offers_full o says isnt = record {
    room = λ is. absurd (false≢true is);
    shown = λ f are keyed. sym (offers_is o says f are) ∙ isnt;
  }

  pub offers_keyed : (o i : Bool) → gate.Offers kept o → o ≡ offers_on kept → o ≡ true → gate.IsFor kept key i → OffersAt gates n key i
  offers_keyed o i says value is_so for_it = record {
    room = λ so. subst HasRoom (sym is) (sym value ∙ is_so);
    shown = λ f are. by (f n) i (for_it (f n) (here f are).1) (sym (offers_is o says f are) ∙ is_so);
  }
    where
      by : (y : Gateway) (b : Bool) → (b ≡ true → y.key ≡ key) × (y.key ≡ key → b ≡ true) → offers y ≡ true → OffersOn b key y
      by y true same room = (same.0 refl, room)
      by y false same room = λ keyed. absurd (false≢true (same.1 keyed))

-- THE FIRST OF ALL: in front of a number there is none
abbrev pub NoneBefore : Gates → Key → Option ℕ → Type 0
NoneBefore gates key from =
    (f : ℕ → Gateway) → AreShown gates f → (j : ℕ) → is_before j from ≡ true → (f j).key ≡ key → offers (f j) ≡ false

none_there : (gates : Gates) (key : Key) (f : ℕ → Gateway) → AreShown gates f → (j : ℕ) → get gates j ≡ None → offers (f j) ≡ false
none_there gates key f are j none = away_offers (f j) (subst (λ (o : Option Gate). ShowsGate j o (f j)) none (are.shown j))

-- in front of the first one, and between one and the next, nothing stands
pub before_first : {T : Type 0} (m : FinMap nat_cmp T) (first : Option ℕ) → IsFirstFrom m 0 first → (j : ℕ) → is_before j first ≡ true
    → get m j ≡ None
before_first m None is j before = is j (omega arith)
before_first m (Some n) is j before = is.2 j (omega arith) (ltb-true j n before)

pub between : {T : Type 0} (m : FinMap nat_cmp T) (n : ℕ) (next : Option ℕ) → ((j : ℕ) → IsSome (get m j) → j < 2 ^ 64)
    → IsBehind m n next → (j : ℕ) → n < j → is_before j next ≡ true → get m j ≡ None
between m n None few (inl is) j above before = is j (omega (arith, above))
between m n (Some first) few (inl is) j above before = is.2 j (omega (arith, above)) (ltb-true j first before)
between m n next few (inr last) j above before = by (get m j) refl
  where
    by : (o : Option _) → get m j ≡ o → get m j ≡ None
    by None is = is
    by (Some w) is = absurd (let small = few j (ap is_some is) in let large = last.1 in omega (arith, small, large, above))

pub first_starts : (gates : Gates) (key : Key) (first : Option ℕ) → IsFirstFrom gates 0 first → NoneBefore gates key first
first_starts gates key first is f are j before keyed = none_there gates key f are j (before_first gates first is j before)

pub first_goes : (gates : Gates) (key : Key) (n : ℕ) (next : Option ℕ) → NoneBefore gates key (Some n) → OffersAt gates n key false
    → IsBehind gates n next → NoneBefore gates key next
first_goes gates key n next so_far at is f are j before keyed =
    ⊎_elim (λ same. ap (λ (i : ℕ). offers (f i)) same ∙ at.shown f are (ap (λ (i : ℕ). (f i).key) (sym same) ∙ keyed))
    (⊎_elim (λ low. so_far f are j (lt-ltb j n low) keyed)
    (λ high. none_there gates key f are j (between gates n next are.numbered is j high before)))
    (cases_order j n)

pub first_found : (gates : Gates) (key : Key) (n : ℕ) → NoneBefore gates key (Some n) → OffersAt gates n key true
    → FirstOffers gates key (Some n)
first_found gates key n so_far at = (
  at.room refl,
  λ f are. (let on = at.shown f are in
      record { keyed = on.0; room = on.1; below = λ j low keyed. so_far f are j (lt-ltb j n low) keyed }),
)

pub first_none : (gates : Gates) (key : Key) → NoneBefore gates key None → FirstOffers gates key None
first_none gates key so_far f are j keyed = so_far f are j refl keyed

-- of a run of the whole
pub all_shown : (waiting : Links) (resting : Streams) (calm : Links) (g : NodeConfig) (k : Relays) (x : Machine) (points : List Point)
    → StandsFor g x points → ShowsSome waiting resting calm g k (outward x) → AreShown k.gates x.gates
all_shown waiting resting calm g k x points stands shows = record {
  runs = λ n. (gates_of n points, gates_run g x points n stands);
  shown = shows.gates;
  numbered = shows.gate_numbered;
}

-- how many numbers are left
abbrev pub numbers_left : Option ℕ → ℕ
numbers_left None = 0
numbers_left (Some n) = 2 ^ 64 - n

-- as the code's numbers say it
pub first_is : {T : Type 0} (m : FinMap nat_cmp T) (first : Option ℕ) → IsFirstFrom m 0 (option_map (λ n. n) first) → IsFirstFrom m 0 first
first_is m None is = is
first_is m (Some n) is = is
