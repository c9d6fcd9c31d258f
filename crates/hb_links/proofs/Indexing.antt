-- The index of upstreams where one is born, and where one is closed.
use Rattle.std.proofs.Common.{◌≡◌, ◌≢◌, ◌⊎◌, inl, inr, ⊎_elim, ◌==◌, ℕ, ◌+◌, ◌<◌, Bool, cond, List, Some, None, refl, ap, sym, ◌∙◌, subst, arith}
use Rattle.std.proofs.lemmas.Bool.{cases_eq, eq-eqb, ne_eqb}
use Rattle.std.specs.FinMap.{get, insert, remove}
use Rattle.hb_inbound.specs.Inbound.{Inbound}
use Rattle.hb_inbound.specs.Tunnel as t
use Rattle.hb_inbound.specs.Tunnel.{Tunnel, Stage}
use Rattle.hb_map.proofs.Laws.{put_here, put_elsewhere, removed_here, removed_elsewhere}
use Rattle.hb_model.specs.declared.config.NodeConfig.{NodeConfig}
use Rattle.hb_proxy.proofs.Owned.{all_owned, whose_in}
use Rattle.hb_proxy.proofs.Stays.{weakly}
use Rattle.hb_proxy.specs.Machine.{Machine}
use Rattle.hb_proxy.specs.Owners.{nobody, upstream_of}
use Rattle.hb_proxy.specs.Points.{Point}
use Rattle.hb_proxy.specs.Runs.{StandsFor}
use Rattle.hb_proxy.specs.Ups.{up_now, up_by, Joins}
use Rattle.hb_links.specs.declared.place.Place.{Place}
use Rattle.hb_links.specs.Places.{place}
use Rattle.hb_links.specs.Shows.{IsIndex}
use Rattle.hb_links.proofs.Showing.{Index}

pub up_is : (stage : Stage) (x : Tunnel) (u : ℕ) → 0 < u → up_by stage x ≡ u → x.up ≡ u
up_is t.unasked x u some is = absurd (omega (arith, some, is))
up_is (t.requested headers end) x u some is = absurd (omega (arith, some, is))
up_is (t.refusing status target) x u some is = absurd (omega (arith, some, is))
up_is t.malformed x u some is = absurd (omega (arith, some, is))
up_is t.due x u some is = absurd (omega (arith, some, is))
up_is t.gone x u some is = absurd (omega (arith, some, is))
up_is stage x u some is = is

-- whose a joined upstream is, so a new number is none
pub owner_is : (g : NodeConfig) (x : Machine) (points : List Point) → StandsFor g x points → (l s u : ℕ)
    → Joins ((x.inbound l).tunnels s) u → whose_in points u ≡ upstream_of l s
owner_is g x points stands l s u joins =
    let tunnel = (x.inbound l).tunnels s in
    let up = up_is tunnel.stage tunnel u joins.0 joins.1 in
    let some = joins.0 in
    ⊎_elim (λ none. absurd (omega (arith, none, up, some))) (λ own. ap (whose_in points) (sym up) ∙ own)
    (weakly (whose_in points) l s tunnel.up tunnel.stage ((all_owned g x points stands).up l s))

pub is_new : (g : NodeConfig) (x : Machine) (points : List Point) → StandsFor g x points → (u : ℕ) → u ≡ x.born + 1 → (l s : ℕ)
    → Joins ((x.inbound l).tunnels s) u → ⊥
is_new g x points stands u next l s joins =
    let none : whose_in points u ≡ nobody = (all_owned g x points stands).unborn u (omega (arith, next)) in
    let both : nobody ≡ upstream_of l s = sym none ∙ owner_is g x points stands l s u joins in
    cc

-- at the stream of a part, and at others
in_here : (s v u : ℕ) → cond (s == s) v u ≡ v
in_here s v u = ap (λ (b : Bool). cond b v u) (eq-eqb s s refl)

in_other : (s k v u : ℕ) → k ≢ s → cond (s == k) v u ≡ u
in_other s k v u apart = ap (λ (b : Bool). cond b v u) (ne_eqb s k (λ is. apart (sym is)))

-- what a part changes of one tunnel alone
module _ (f z : ℕ → Inbound) (l s v : ℕ) (others : (m : ℕ) → m ≢ l → z m ≡ f m)
    (ups : (k : ℕ) → up_now ((z l).tunnels k) ≡ cond (s == k) v (up_now ((f l).tunnels k))) where
  now_here : up_now ((z l).tunnels s) ≡ v
  now_here = ups s ∙ in_here s v (up_now ((f l).tunnels s))

  now_other : (m k : ℕ) → ((m ≡ l) × (k ≡ s) → ⊥) → up_now ((z m).tunnels k) ≡ up_now ((f m).tunnels k)
  now_other m k apart =
      ⊎_elim
      (λ is. subst (λ (i : ℕ). up_now ((z i).tunnels k) ≡ up_now ((f i).tunnels k)) (sym is)
      (ups k ∙ in_other s k v (up_now ((f l).tunnels k)) (λ same. apart (is, same))))
      (λ no. ap (λ (w : Inbound). up_now (w.tunnels k)) (others m no)) (cases_eq m l)

  same_or : (m k : ℕ) → ((m ≡ l) × (k ≡ s)) ⊎ ((m ≡ l) × (k ≡ s) → ⊥)
  same_or m k =
      ⊎_elim
      (λ is. ⊎_elim (λ same. inl (is, same)) (λ no. inr (λ both. no both.1)) (cases_eq k s))
      (λ no. inr (λ both. no both.0)) (cases_eq m l)

  place_is : (m k : ℕ) → (m ≡ l) × (k ≡ s) → place m k ≡ place l s
  place_is m k is = ap (λ (i : ℕ). place i k) is.0 ∙ ap (place l) is.1

  born_found : (index : Index) → IsIndex index f → ((m k : ℕ) → Joins ((f m).tunnels k) v → ⊥) → (m k u : ℕ)
      → Joins ((z m).tunnels k) u → get (insert index v (place l s)) u ≡ Some (place m k)
  born_found index is fresh m k u joins = ⊎_elim
      (λ same. (let u_is : u ≡ v = sym joins.1
      ∙ subst (λ (i : ℕ). up_now ((z i).tunnels k) ≡ v) (sym same.0)
      (subst (λ (i : ℕ). up_now ((z l).tunnels i) ≡ v) (sym same.1) now_here) in
      ap (get (insert index v (place l s))) u_is ∙ put_here index v (place l s) ∙ ap Some (sym (place_is m k same))))
      (λ apart. (let was : Joins ((f m).tunnels k) u = (joins.0, sym (now_other m k apart) ∙ joins.1) in
      put_elsewhere index v (place l s) u (λ same. fresh m k (subst (Joins ((f m).tunnels k)) same was)) ∙ is.found m k u was))
      (same_or m k)

  born_joined : (index : Index) → IsIndex index f → 0 < v → up_now ((f l).tunnels s) ≡ 0 → (u : ℕ) (at : Place)
      → get (insert index v (place l s)) u ≡ Some at → Joins ((z at.link).tunnels at.stream) u
  born_joined index is some none u at found = ⊎_elim
      (λ same. (let both : Some (place l s) ≡ Some at = sym (put_here index v (place l s))
      ∙ ap (get (insert index v (place l s))) (sym same) ∙ found in
      let at_is : place l s ≡ at = cc in
      subst (λ (w : Place). Joins ((z w.link).tunnels w.stream) u) at_is
      (subst (λ (i : ℕ). Joins ((z l).tunnels s) i) (sym same) (some, now_here))))
      (λ apart. (let was = is.joined u at (sym (put_elsewhere index v (place l s) u apart) ∙ found) in
      (was.0, now_other at.link at.stream (λ same. absurd (not_here u at was same)) ∙ was.1)))
      (cases_eq u v)
    where
      not_here : (u : ℕ) (at : Place) → Joins ((f at.link).tunnels at.stream) u → (at.link ≡ l) × (at.stream ≡ s) → ⊥
      not_here u at was same =
          let zero_up : up_now ((f at.link).tunnels at.stream) ≡ 0 =
          subst (λ (i : ℕ). up_now ((f i).tunnels at.stream) ≡ 0) (sym same.0)
          (subst (λ (i : ℕ). up_now ((f l).tunnels i) ≡ 0) (sym same.1) none) in
          let more = was.0 in
          let is_up = was.1 in
          omega (arith, zero_up, more, is_up)

  pub born : (index : Index) → IsIndex index f → 0 < v → up_now ((f l).tunnels s) ≡ 0 → ((m k : ℕ) → Joins ((f m).tunnels k) v → ⊥)
      → IsIndex (insert index v (place l s)) z
  born index is some none fresh = record {
    found = born_found index is fresh;
    joined = born_joined index is some none;
  }

  -- where v is 0 the upstream u of the tunnel is closed
  module _ (u : ℕ) (zero_now : v ≡ 0) (was : Joins ((f l).tunnels s) u) where
    gone_found : (index : Index) → IsIndex index f → (m k w : ℕ) → Joins ((z m).tunnels k) w
        → get (remove index u) w ≡ Some (place m k)
    gone_found index is m k w joins = ⊎_elim
        (λ same. absurd (none_here m k w joins same))
        (λ apart. (let old : Joins ((f m).tunnels k) w = (joins.0, sym (now_other m k apart) ∙ joins.1) in
        removed_elsewhere index u w (λ same. apart (is_same m k (subst (Joins ((f m).tunnels k)) same old))) ∙ is.found m k w old))
        (same_or m k)
      where
        none_here : (m k w : ℕ) → Joins ((z m).tunnels k) w → (m ≡ l) × (k ≡ s) → ⊥
        none_here m k w joins same =
            let is_now : up_now ((z m).tunnels k) ≡ v = subst (λ (i : ℕ). up_now ((z i).tunnels k) ≡ v) (sym same.0)
            (subst (λ (i : ℕ). up_now ((z l).tunnels i) ≡ v) (sym same.1) now_here) in
            let more = joins.0 in
            let is_up = joins.1 in
            omega (arith, is_now, more, is_up, zero_now)

        is_same : (m k : ℕ) → Joins ((f m).tunnels k) u → (m ≡ l) × (k ≡ s)
        is_same m k old =
            let both : Some (place m k) ≡ Some (place l s) = sym (is.found m k u old) ∙ is.found l s u was in
            let same : place m k ≡ place l s = cc in
            (ap (λ (w : Place). w.link) same, ap (λ (w : Place). w.stream) same)

    gone_joined : (index : Index) → IsIndex index f → (w : ℕ) (at : Place) → get (remove index u) w ≡ Some at
        → Joins ((z at.link).tunnels at.stream) w
    gone_joined index is w at found = ⊎_elim
        (λ same. (let both : None ≡ Some at = sym (removed_here index u) ∙ ap (get (remove index u)) (sym same) ∙ found in absurd (cc)))
        (λ apart. (let old = is.joined w at (sym (removed_elsewhere index u w apart) ∙ found) in
        (old.0, now_other at.link at.stream (λ same. absurd (apart (not_it w at old same))) ∙ old.1)))
        (cases_eq w u)
      where
        not_it : (w : ℕ) (at : Place) → Joins ((f at.link).tunnels at.stream) w → (at.link ≡ l) × (at.stream ≡ s) → w ≡ u
        not_it w at old same =
            sym old.1
            ∙ subst (λ (i : ℕ). up_now ((f i).tunnels at.stream) ≡ u) (sym same.0)
            (subst (λ (i : ℕ). up_now ((f l).tunnels i) ≡ u) (sym same.1) was.1)

    pub closed : (index : Index) → IsIndex index f → IsIndex (remove index u) z
    closed index is = record { found = gone_found index is; joined = gone_joined index is }
