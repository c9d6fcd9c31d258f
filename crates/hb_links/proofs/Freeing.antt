-- Where a request finds a place, and a link is taken in.
use Rattle.std.proofs.Common.{◌≡◌, ◌≢◌, ◌==◌, ℕ, zero, suc, ◌+◌, ◌<◌, ◌≤◌, ◌^◌, Bool, true, false, cond, Option, Some, None, IsSome, is_some, refl, ap, sym, ◌∙◌, subst, arith}
use Rattle.std.proofs.lemmas.Bool.{cond_both, eq-eqb, eqb-true, ne_eqb, false≢true}
use Rattle.std.proofs.lemmas.Bool.Decides.{nat_tests}
use Rattle.std.specs.Prelude.{nat_le}
use Rattle.std.specs.FinMap.{get}
use Rattle.hb_base.specs.declared.door.Door.TheVariants as door
use Rattle.hb_gateway.specs.Gateway.{Gateway, carries}
use Rattle.hb_inbound.specs.Inbound.{Inbound, Phase, arriving, with_phase}
use Rattle.hb_inbound.specs.Part as part
use Rattle.hb_inbound.specs.Part.{Part}
use Rattle.hb_inbound.specs.Runs.{Local}
use Rattle.hb_inbound.specs.Tunnel.{Tunnel as Machines, takes_place}
use Rattle.hb_link.specs.Counting.{CountsPlaces, taking_in}
use Rattle.hb_link.specs.Load.{load_below, HasLoad}
use Rattle.hb_link.specs.Reaches as link
use Rattle.hb_link.specs.Tunnels.{ShowsTunnel}
use Rattle.hb_link.specs.declared.link.Link.{Link}
use Rattle.hb_link.specs.declared.tunnel.Tunnel.{Tunnel}
use Rattle.hb_model.specs.declared.config.NodeConfig.{NodeConfig}
use Rattle.hb_proxy.proofs.Counted.{changed_one, most_below, grows, grows_to, tunnels_counted, same_plain, is_full, born_within, born_beyond}
use Rattle.hb_proxy.proofs.Load.{not_more, one_at_most}
use Rattle.hb_proxy.specs.Load.{most_links, most_tunnels, sum_below, one_if, counts, tunnels_on, links_at, streams_below, tunnels_below, CountsTo, PlacesFull, LinksFull, LinksBurst}
use Rattle.hb_proxy.specs.Machine.{Machine, local}
use Rattle.hb_proxy.specs.Points.{of_link}
use Rattle.hb_proxy.specs.Runs.{LinkGuard, Steps}
use Rattle.hb_world.specs.declared.entry.Entry.TheVariants as e
use Rattle.hb_links.specs.declared.links.Links.{Links}
use Rattle.hb_links.specs.Load.{places_in, total_below, total, IsCounted, others_of, LeavesPlaces}
use Rattle.hb_links.specs.Shows.{ShowsAll, ShowsLink}
use Rattle.hb_links.proofs.Lifted.{Beside, Frees, here, there}
use Rattle.hb_links.proofs.Telling.{placeless}
use Rattle.hb_links.proofs.Totals.{loads, total_is, others_and_own}

-- a part of a link leaves all others
pub beside_step : (g : NodeConfig) (x y : Machine) (l : ℕ) (p : Part) → Steps g x (of_link l p) y → Beside l x y
beside_step g x y l p steps = record {
  others = λ k apart. ap (λ (w : Machine). w.inbound k) steps.3 ∙ there x l p steps.0 k apart;
  plain = ap (λ (w : Machine). w.plain) steps.3;
  gates = ap (λ (w : Machine). w.gates) steps.3;
}

beside_then : (l : ℕ) (x y z : Machine) → Beside l x y → Beside l y z → Beside l x z
beside_then l x y z first more = record {
  others = λ k apart. more.others k apart ∙ first.others k apart;
  plain = more.plain ∙ first.plain;
  gates = more.gates ∙ first.gates;
}

-- THE TUNNELS OF A LINK

same_load : (x : Inbound) (n : ℕ) → load_below n x ≡ tunnels_on x n
same_load x zero = refl
same_load x (suc n) = let front = same_load x n in omega (arith, front)

no_place : (x : Inbound) (s bound : ℕ) → ((s : ℕ) → takes_place (x.tunnels s).stage ≡ true → s < bound) → bound ≤ s
    → (b : Bool) → takes_place (x.tunnels s).stage ≡ b → one_if (takes_place (x.tunnels s).stage) ≡ 0
no_place x s bound below far true takes = absurd (let less = below s takes in omega (arith, less, far))
no_place x s bound below far false takes = ap one_if takes

module _ (x : Inbound) (n : ℕ) (load : HasLoad x n) where
  abbrev place_at : ℕ → ℕ
  place_at s = one_if (takes_place (x.tunnels s).stage)

  comes_to : tunnels_on x load.bound ≡ n
  comes_to = sym (same_load x load.bound) ∙ load.count

  -- there are never more, and from a bound on that none exceeds as many
  pub few_on : (b : ℕ) → tunnels_on x b ≤ n
  few_on b =
      let most = most_below place_at load.bound b
      (λ s far. no_place x s load.bound load.below far (takes_place (x.tunnels s).stage) refl) in
      let is = comes_to in omega (arith, most, is)

  pub all_on : (bound : ℕ) → ((s : ℕ) → takes_place (x.tunnels s).stage ≡ true → s < bound) → (b : ℕ) → bound ≤ b → n ≤ tunnels_on x b
  all_on bound below b far =
      let most = most_below place_at b load.bound
      (λ s more. no_place x s bound below (omega (arith, far, more)) (takes_place (x.tunnels s).stage) refl) in
      let is = comes_to in omega (arith, most, is)

narrow_place : (o : Option Tunnel) (t : Machines) (s : ℕ) → ShowsTunnel o t → (IsSome o → s < 2 ^ 32) → takes_place t.stage ≡ true
    → s < 2 ^ 32
narrow_place None t s shown few takes = absurd (false≢true (sym (placeless t shown) ∙ takes))
narrow_place (Some k) t s shown few takes = few refl

-- on a link that is shown no stream of more than 32 bits takes a place
narrow_streams : (l : ℕ) (o : Option Link) (x : Inbound) → ShowsLink l o x → (s : ℕ) → takes_place (x.tunnels s).stage ≡ true → s < 2 ^ 32
narrow_streams l None x shown s takes = absurd (false≢true (sym (placeless (x.tunnels s) (shown.1 s)) ∙ takes))
narrow_streams l (Some k) x shown s takes =
    narrow_place (get k.tunnels s) (x.tunnels s) s (shown.1.tunnels s)
    (λ some. (let few = shown.1.numbered s some in omega (arith, few))) takes

-- THE TUNNELS OF ALL LINKS

abbrev place_in : Links → ℕ → ℕ
place_in k l = places_in (get k.links l)

below_is : (k : Links) (n : ℕ) → total_below n k.links ≡ sum_below (place_in k) n
below_is k zero = refl
below_is k (suc n) = let front = below_is k n in omega (arith, front)

-- no link has a number that isn't below this one
module _ (k : Links) (x : Machine) (shows : ShowsAll k x.inbound) (most : ℕ) (narrow : (l : ℕ) → IsSome (get k.links l) → l < most)
    (all_is : total k.links ≡ sum_below (place_in k) most) where
  none_far : (o : Option Link) (l : ℕ) → get k.links l ≡ o → most ≤ l → place_in k l ≡ 0
  none_far None l found far = ap places_in found
  none_far (Some w) l found far = absurd (let few = narrow l (ap is_some found) in omega (arith, few, far))

  few_places : (b : ℕ) → sum_below (place_in k) b ≤ total k.links
  few_places b =
      let below = most_below (place_in k) most b (λ l far. none_far (get k.links l) l refl far) in
      let is = all_is in omega (arith, below, is)

  all_places : (b : ℕ) → most ≤ b → total k.links ≤ sum_below (place_in k) b
  all_places b far = let up = grows_to (place_in k) most b far in let is = all_is in omega (arith, up, is)

  few_at : (l b : ℕ) → tunnels_on (x.inbound l) b ≤ place_in k l
  few_at l b = few_on (x.inbound l) (place_in k l) (loads l (get k.links l) (x.inbound l) (shows.links l)) b

  all_at : (l b : ℕ) → 2 ^ 32 ≤ b → place_in k l ≤ tunnels_on (x.inbound l) b
  all_at l b far =
      all_on (x.inbound l) (place_in k l) (loads l (get k.links l) (x.inbound l) (shows.links l)) (2 ^ 32)
      (narrow_streams l (get k.links l) (x.inbound l) (shows.links l)) b far

  counted_to : k.taken ≡ total k.links → CountsTo (streams_below x) k.taken
  counted_to all = record {
    within = λ b. (let each = not_more (place_in k) (λ l. tunnels_on (x.inbound l) b) b (λ l low. few_at l b) in
        let few = few_places b in omega (arith, all, each, few));
    bound = 2 ^ 32 + most;
    whole = λ b far. (let wide : 2 ^ 32 ≤ b = omega (arith, far) in
        let each = not_more (λ l. tunnels_on (x.inbound l) b) (place_in k) b (λ l low. all_at l b wide) in
        let least = all_places b (omega (arith, far)) in omega (arith, all, each, least));
  }

  -- where those of one link became so many
  module _ (l : ℕ) (here : l < most) (others : ℕ) (both : others + place_in k l ≡ total k.links) (z : Machine) (beside : Beside l x z)
      (n : ℕ) (load : HasLoad (z.inbound l) n) where
    abbrev now_of : ℕ → ℕ
    now_of j = cond (j == l) n (place_in k j)

    now_here : now_of l ≡ n
    now_here = ap (λ (b : Bool). cond b n (place_in k l)) (eq-eqb l l refl)

    now_there : (j : ℕ) → j ≢ l → now_of j ≡ place_in k j
    now_there j apart = ap (λ (b : Bool). cond b n (place_in k j)) (ne_eqb j l apart)

    few_now : (j b : ℕ) → tunnels_on (z.inbound j) b ≤ now_of j
    few_now j b =
        cond_both (j == l) n (place_in k j) (λ (top : ℕ). tunnels_on (z.inbound j) b ≤ top)
        (λ same. subst (λ (i : ℕ). tunnels_on (z.inbound i) b ≤ n) (sym (eqb-true j l same)) (few_on (z.inbound l) n load b))
        (λ apart. subst (λ (w : Inbound). tunnels_on w b ≤ place_in k j)
        (sym (beside.others j (λ same. false≢true (sym apart ∙ eq-eqb j l same)))) (few_at j b))

    all_now : (j b : ℕ) → 2 ^ 32 + load.bound ≤ b → now_of j ≤ tunnels_on (z.inbound j) b
    all_now j b far =
        cond_both (j == l) n (place_in k j) (λ (least : ℕ). least ≤ tunnels_on (z.inbound j) b)
        (λ same. subst (λ (i : ℕ). n ≤ tunnels_on (z.inbound i) b) (sym (eqb-true j l same))
        (all_on (z.inbound l) n load load.bound load.below b (omega (arith, far))))
        (λ apart. subst (λ (w : Inbound). place_in k j ≤ tunnels_on w b)
        (sym (beside.others j (λ same. false≢true (sym apart ∙ eq-eqb j l same)))) (all_at j b (omega (arith, far))))

    swapped : (b : ℕ) → l < b → sum_below now_of b + place_in k l ≡ sum_below (place_in k) b + n
    swapped b far =
        let swap = changed_one (place_in k) now_of l now_there b far in let at = now_here in omega (arith, swap, at)

    others_to : CountsTo (streams_below z) (others + n)
    others_to = record {
      within = λ b. (let far : l < suc l + b = omega arith in
          let each = not_more now_of (λ j. tunnels_on (z.inbound j) b) b (λ j low. few_now j b) in
          let up = grows now_of b (suc l) in
          let swap = swapped (suc l + b) far in
          let few = few_places (suc l + b) in
          omega (arith, each, up, swap, few, both));
      bound = 2 ^ 32 + most + load.bound;
      whole = λ b far. (let wide : 2 ^ 32 + load.bound ≤ b = omega (arith, far) in
          let each = not_more (λ j. tunnels_on (z.inbound j) b) now_of b (λ j low. all_now j b wide) in
          let swap = swapped b (omega (arith, far, here)) in
          let least = all_places b (omega (arith, far)) in
          omega (arith, each, swap, least, both));
    }

all_sum : (k : Links) → total k.links ≡ sum_below (place_in k) (2 ^ 64)
all_sum k = total_is k.links ∙ below_is k (2 ^ 64)

-- those of all links are counted, and those of the others beside what one link's became
pub streams_counted : (k : Links) (x : Machine) → ShowsAll k x.inbound → IsCounted k → CountsTo (streams_below x) k.taken
streams_counted k x shows all = counted_to k x shows (2 ^ 64) shows.numbered (all_sum k) all

others_counted : (k : Links) (x : Machine) → ShowsAll k x.inbound → (l : ℕ) → l < 2 ^ 64 → IsCounted k → (z : Machine) → Beside l x z
    → (n : ℕ) → HasLoad (z.inbound l) n → CountsTo (streams_below z) (others_of k l + n)
others_counted k x shows l narrow all z beside n load =
    others_to k x shows (2 ^ 64) shows.numbered (all_sum k) l narrow (others_of k l) (others_and_own k l narrow all) z beside n load

-- A REQUEST

shifted : (limit a plain : ℕ) → nat_le limit a ≡ nat_le (plain + limit) (a + plain)
shifted limit a plain = grind (arith, nat_tests)

-- with what plain links leave as the limit the whole finds all places taken where the link does
module _ (g : NodeConfig) (l limit : ℕ) (k : Links) (x y : Machine) (shows : ShowsAll k x.inbound) (all : IsCounted k) (narrow : l < 2 ^ 64)
    (leaves : LeavesPlaces limit g x) (beside : Beside l x y) where
  found : (z : Machine) → Beside l y z → (full : Bool) (n : ℕ) → HasLoad (z.inbound l) n → full ≡ nat_le limit (others_of k l + n)
      → PlacesFull full g z
  found z more full n load is =
      let plain = leaves.0 in
      let beside_z = beside_then l x y z beside more in
      let streams = others_counted k x shows l narrow all z beside_z n load in
      let of_plain = same_plain x z beside_z.plain plain leaves.1 in
      is_full full (most_tunnels g) ((others_of k l + n) + plain) (tunnels_below z)
      (tunnels_counted z (others_of k l + n) plain streams of_plain)
      (is ∙ shifted limit (others_of k l + n) plain ∙ ap (λ (most : ℕ). nat_le most ((others_of k l + n) + plain)) leaves.2)

  free_place : (z : Machine) → Beside l y z → (p : Part) → link.IsInner p → CountsPlaces (others_of k l) limit (local z l) p
      → LinkGuard g z l p
  free_place z more (part.entry e) inner holds = absurd inner
  free_place z more (part.up s e) inner holds = absurd inner
  free_place z more part.crowded inner holds = absurd inner
  free_place z more (part.applied r) inner holds = absurd inner
  free_place z more (part.stopped why) inner holds = absurd inner
  free_place z more part.welcomed inner holds = absurd holds
  free_place z more (part.decided s full answer) inner holds = found z more full holds.0 holds.1 holds.2
  free_place z more _ inner holds = tt

  pub places_free : Frees (CountsPlaces (others_of k l) limit) g l y
  places_free z more p inner holds = free_place z more p inner holds

-- A BIRTH

-- all but one link count as they did, and that counts one more at most
module _ (l : ℕ) (x z : Machine) (beside : Beside l x z) where
  same_at : (j : ℕ) → j ≢ l → links_at z j ≡ links_at x j
  same_at j apart =
      ap (λ (w : Inbound). one_if (counts w.phase) + one_if (carries (z.gates j).phase)) (beside.others j apart)
      ∙ ap (λ (gates : ℕ → Gateway). one_if (counts (x.inbound j).phase) + one_if (carries (gates j).phase)) beside.gates

  one_here : links_at z l ≤ links_at x l + 1
  one_here =
      let here = one_at_most (counts (z.inbound l).phase) in
      let gates = ap (λ (gates : ℕ → Gateway). one_if (carries (gates l).phase)) beside.gates in omega (arith, here, gates)

module _ (g : NodeConfig) (l : ℕ) (x y : Machine) (room : LinksFull false g x) (beside : Beside l x y) where
  free_birth : (z : Machine) → Beside l y z → (p : Part) → link.IsInner p → taking_in (local z l) p → LinkGuard g z l p
  free_birth z more (part.entry e) inner holds = absurd inner
  free_birth z more (part.up s e) inner holds = absurd inner
  free_birth z more part.crowded inner holds = absurd inner
  free_birth z more (part.applied r) inner holds = absurd inner
  free_birth z more (part.stopped why) inner holds = absurd inner
  free_birth z more part.welcomed inner holds =
      let all = beside_then l x y z beside more in
      born_within (most_links g) (λ b. links_at x) (λ b. links_at z) l
      (λ b j apart. (let same = same_at l x z all j apart in omega (arith, same))) (λ b. one_here l x z all) room
  free_birth z more (part.decided s full answer) inner holds = absurd holds
  free_birth z more _ inner holds = tt

  pub birth_free : Frees taking_in g l y
  birth_free z more p inner holds = free_birth z more p inner holds

-- behind a birth where as many are as may be there are more
pub burst_birth : (g : NodeConfig) (l : ℕ) (x y : Machine) → Steps g x (of_link l (part.entry (e.Accepted l door.Inbound))) y
    → LinksFull true g x → LinksBurst true g y
burst_birth g l x y steps full =
    let came = part.entry (e.Accepted l door.Inbound) in
    let beside = beside_step g x y l came steps in
    let link_is : y.inbound l ≡ with_phase arriving (x.inbound l) = ap (λ (w : Machine). w.inbound l) steps.3
    ∙ ap (λ (a : Local). a.link) (here x l came steps.0) ∙ ap (λ (a : Local). a.link) steps.1.1 in
    let was : one_if (counts (x.inbound l).phase) ≡ 0 = ap (λ (phase : Phase). one_if (counts phase)) steps.1.0.1 in
    let now : one_if (counts (y.inbound l).phase) ≡ 1 = ap (λ (w : Inbound). one_if (counts w.phase)) link_is in
    let gates = ap (λ (gates : ℕ → Gateway). one_if (carries (gates l).phase)) beside.gates in
    born_beyond (most_links g) (λ b. links_at x) (λ b. links_at y) l
    (λ b j apart. (let same = same_at l x y beside j apart in omega (arith, same)))
    (λ b. omega (arith, was, now, gates)) (λ b c j less. omega arith) full
