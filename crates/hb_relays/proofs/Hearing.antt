-- Which numbers are of a link, and the links that stir are told one after another.
use Rattle.std.proofs.Common.{◌≡◌, ◌⊎◌, inl, inr, ⊎_elim, ◌||◌, ℕ, ◌<◌, ◌^◌, true, false, Option, Some, None, is_some, IsSome, refl, ap, sym, ◌∙◌, subst, arith}
use Rattle.std.proofs.lemmas.Bool.{or_left, or_right, or_from, or_cases, eq-eqb, false≢true}
use Rattle.std.specs.FinMap.{get}
use Rattle.hb_gate.specs.declared.gate.Gate.{Gate}
use Rattle.hb_gateway.specs.Gateway as gateway
use Rattle.hb_gateway.specs.Gateway.{Phase}
use Rattle.hb_model.specs.declared.config.NodeConfig.{NodeConfig}
use Rattle.hb_proxy.specs.Machine.{Outward}
use Rattle.hb_proxy.specs.Seen.{IsPlainThere, IsGateThere}
use Rattle.hb_proxy.specs.Ups.{IsRelayOf}
use Rattle.hb_relay.specs.declared.relay.Relay.{Relay}
use Rattle.hb_relays.specs.Calls.{Has, IsPresent, has_of}
use Rattle.hb_relays.specs.Shows.{IsAway, IsGateAway, ShowsGate, ShowsRelay, ShowsRelays}
use Rattle.hb_relays.specs.Stirring.{gate_stirs_in, own_stirs, stirs_by, stirs_at, Hears, OnlyHears}
use Rattle.hb_relays.specs.Touched.{is_at, is_idle, is_touched, TakesOut}
use Rattle.hb_relays.specs.declared.relays.Relays.{Relays}
use Rattle.hb_relays.proofs.Away.{away_is}
use Rattle.hb_relays.proofs.Touching.{none_touched}

-- WHAT IS THERE

away_there : (phase : Phase) → IsGateAway phase → IsGateThere phase → ⊥
away_there gateway.unborn away there = there
away_there gateway.closed away there = there
away_there phase away there = away

module _ (g : NodeConfig) (k : Relays) (x : Outward) (shows : ShowsRelays g k x) where
  kept_where : (l : ℕ) → (IsAway (x.plain l) → ⊥) → IsSome (get k.relays l)
  kept_where l some = by (get k.relays l) refl
    where
      by : (o : Option Relay) → get k.relays l ≡ o → IsSome (get k.relays l)
      by None none = absurd (some (subst (λ (o : Option Relay). ShowsRelay l o (x.plain l)) none (shows.relays l)))
      by (Some w) found = ap is_some found

  -- a link that is there is kept, and so is the one of an upstream that is
  pub there_kept : (l : ℕ) → IsPlainThere (x.plain l) → IsSome (get k.relays l)
  there_kept l there = kept_where l (λ away. (away_is (x.plain l) away).gone there)

  pub up_kept : (l u : ℕ) → IsRelayOf (x.plain l) u → IsSome (get k.relays l)
  up_kept l u joins =
      kept_where l (λ away. (let none = (away_is (x.plain l) away).no_up in
      let some = joins.0 in
      let is = joins.1 in
      omega (arith, none, some, is)))

  -- a link to a gateway that is there is kept, and one that is kept is there
  pub gate_kept : (n : ℕ) → IsGateThere (x.gates n).phase → IsSome (get k.gates n)
  gate_kept n there = by (get k.gates n) refl
    where
      by : (o : Option Gate) → get k.gates n ≡ o → IsSome (get k.gates n)
      by None none =
          absurd (away_there (x.gates n).phase (subst (λ (o : Option Gate). ShowsGate n o (x.gates n)) none (shows.gates n)) there)
      by (Some w) found = ap is_some found

  pub kept_there : (n : ℕ) (w : Gate) → get k.gates n ≡ Some w → IsGateThere (x.gates n).phase
  kept_there n w found = (subst (λ (o : Option Gate). ShowsGate n o (x.gates n)) found (shows.gates n)).2

  pub relay_there : (n : ℕ) (w : Relay) → get k.relays n ≡ Some w → IsPlainThere (x.plain n)
  relay_there n w found = (subst (λ (o : Option Relay). ShowsRelay n o (x.plain n)) found (shows.relays n)).2

-- WHOSE A NUMBER IS

pub has_is : (k : Relays) (n : ℕ) → Has k n (has_of k n)
has_is k n g x shows = (λ is. by_up (get k.ups n) refl (is), λ present. from present)
  where
    by_gate : (o : Option Gate) → get k.gates n ≡ o → is_some o ≡ true → IsPresent x n
    by_gate None none is = absurd (false≢true is)
    by_gate (Some w) found is = inr (inr (kept_there g k x shows n w found))

    by_relay : (o : Option Relay) → get k.relays n ≡ o → (is_some o || is_some (get k.gates n)) ≡ true → IsPresent x n
    by_relay None none is = by_gate (get k.gates n) refl is
    by_relay (Some w) found is = inl (relay_there g k x shows n w found)

    by_up : (o : Option ℕ) → get k.ups n ≡ o → (is_some (get k.ups n) || is_some (get k.relays n) || is_some (get k.gates n)) ≡ true
        → IsPresent x n
    by_up None none is =
        by_relay (get k.relays n) refl
        (ap (λ (o : Option ℕ). is_some o || is_some (get k.relays n) || is_some (get k.gates n)) (sym none) ∙ is)
    by_up (Some l) found is = inr (inl (l, shows.index.joined l n found))

    from : IsPresent x n → has_of k n ≡ true
    from (inl there) =
        or_left (is_some (get k.ups n) || is_some (get k.relays n)) (is_some (get k.gates n))
        (or_right (is_some (get k.ups n)) (is_some (get k.relays n)) (there_kept g k x shows n there))
    from (inr (inl up)) =
        or_left (is_some (get k.ups n) || is_some (get k.relays n)) (is_some (get k.gates n))
        (or_left (is_some (get k.ups n)) (is_some (get k.relays n)) (ap is_some (shows.index.found up.0 n up.1)))
    from (inr (inr there)) =
        or_right (is_some (get k.ups n) || is_some (get k.relays n)) (is_some (get k.gates n)) (gate_kept g k x shows n there)

-- ONE IS TOLD

pub heard_shows : (g : NodeConfig) (k n : Relays) (x : Outward) → OnlyHears k n → ShowsRelays g k x → ShowsRelays g n x
heard_shows g k n x only shows =
    subst (λ (w : Relays). ShowsRelays g w x) (sym only) (record {
      relays = shows.relays;
      index = shows.index;
      numbered = shows.numbered;
      idle = shows.idle;
      counted = shows.counted;
      gates = shows.gates;
      gate_numbered = shows.gate_numbered;
      gate_idle = shows.gate_idle;
      calm = shows.calm;
      wanting = shows.wanting;
    })

-- the next link, whose upstream is left; or the next link to a gateway, where no link is left
module _ (k n : Relays) (first told : Option ℕ) (none_left : k.left ≡ None) (only : OnlyHears k n) (left : n.left ≡ first)
    (takes : TakesOut k.relays first k.stirs n.stirs)
    (gates : (i : ℕ) → i < 2 ^ 64 → IsSome (get k.gates i) → is_touched k.gate_stirs i ≡ true
    → (is_touched n.gate_stirs i ≡ true) ⊎ (told ≡ Some i))
    (goes : (l : ℕ) → first ≡ Some l → told ≡ Some l) where
  pub link_hears : Hears told k n
  link_hears g x shows = (
    heard_shows g k n x only shows,
    λ i present was. subst (λ (w : Relays). (stirs_at w i ≡ true) ⊎ (told ≡ Some i)) (sym only) (by i (get k.ups i) refl present was),
  )
    where
      After : Relays
      After = record k { stirs = n.stirs; left = n.left; gate_stirs = n.gate_stirs }

      own : (i : ℕ) (o : Option Relay) → get k.relays i ≡ o → own_stirs k o i ≡ true → (own_stirs After o i ≡ true) ⊎ (told ≡ Some i)
      own i (Some w) found was =
          ⊎_elim (λ still. inl still) (λ now. inr (goes i now)) (takes.others i (shows.numbered i (ap is_some found)) (ap is_some found) was)
      own i None none was = at_gate (get k.gates i) refl was
        where
          at_gate : (o : Option Gate) → get k.gates i ≡ o → gate_stirs_in k o i ≡ true
              → (gate_stirs_in After o i ≡ true) ⊎ (told ≡ Some i)
          at_gate None gone is = absurd (false≢true is)
          at_gate (Some w) found is = gates i (shows.gate_numbered i (ap is_some found)) (ap is_some found) is

      by : (i : ℕ) (at : Option ℕ) → get k.ups i ≡ at → IsPresent x i → stirs_by k (get k.ups i) i ≡ true
          → (stirs_by After (get k.ups i) i ≡ true) ⊎ (told ≡ Some i)
      by i None none present was =
          ⊎_elim (λ still. inl (ap (λ (a : Option ℕ). stirs_by After a i) none ∙ still)) (λ now. inr now)
          (own i (get k.relays i) refl (sym (ap (λ (a : Option ℕ). stirs_by k a i) none) ∙ was))
      by i (Some l) found present was =
          let some = up_kept g k x shows l i (shows.index.joined l i found) in
          let old : (is_touched k.stirs l || is_at k.left l) ≡ true = sym (ap (λ (a : Option ℕ). stirs_by k a i) found) ∙ was in
          let then : ((is_touched n.stirs l || is_at n.left l) ≡ true) =
          ⊎_elim
          (λ touched. ⊎_elim (λ still. or_left (is_touched n.stirs l) (is_at n.left l) still)
          (λ now. or_right (is_touched n.stirs l) (is_at n.left l) (ap (λ (o : Option ℕ). is_at o l) (left ∙ now) ∙ eq-eqb l l refl))
          (takes.others l (shows.numbered l some) some touched))
          (λ is. absurd (false≢true (sym (ap (λ (o : Option ℕ). is_at o l) none_left) ∙ is)))
          (or_cases (is_touched k.stirs l) (is_at k.left l) old) in
          inl (ap (λ (a : Option ℕ). stirs_by After a i) found ∙ then)

-- where none is left none stirs
pub none_stir : (k : Relays) → is_idle k.stirs ≡ true → is_idle k.gate_stirs ≡ true → k.left ≡ None → (n : ℕ) → stirs_at k n ≡ false
none_stir k idle gate_idle left n = by (get k.ups n)
  where
    own : (o : Option Relay) → own_stirs k o n ≡ false
    own (Some w) = none_touched k.stirs idle n
    own None = at_gate (get k.gates n)
      where
        at_gate : (o : Option Gate) → gate_stirs_in k o n ≡ false
        at_gate None = refl
        at_gate (Some w) = none_touched k.gate_stirs gate_idle n

    by : (at : Option ℕ) → stirs_by k at n ≡ false
    by None = own (get k.relays n)
    by (Some l) = or_from (is_touched k.stirs l) (is_at k.left l) (none_touched k.stirs idle l) (ap (λ (o : Option ℕ). is_at o l) left)

-- none is told, and then one or none
pub hears_then : (told : Option ℕ) (a b c : Relays) → Hears None a b → Hears told b c → Hears told a c
hears_then told a b c first more g x shows =
    let one = first g x shows in
    let two = more g x one.0 in
    (two.0, λ n present was. ⊎_elim (λ still. two.1 n present still) (λ at. absurd (cc at)) (one.1 n present was))
