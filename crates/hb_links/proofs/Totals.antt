-- How many tunnels of all links take a place, where one link is changed.
use Rattle.std.proofs.Common.{◌≡◌, ◌≢◌, ⊎_elim, ◌==◌, ℕ, zero, suc, ◌+◌, ◌-◌, ◌*◌, ◌<◌, ◌≤◌, ◌^◌, Bool, true, false, cond, Option, Some, None, refl, ap, sym, ◌∙◌, subst, arith}
use Rattle.std.proofs.lemmas.Bool.{cases_eq, false≢true}
use Rattle.std.specs.Cmp.{nat_cmp_total}
use Rattle.std.specs.FinMap.{get, insert, remove, same_map, nat_cmp-IsAntisymmetric}
use Rattle.hb_inbound.specs.Inbound.{Inbound}
use Rattle.hb_link.proofs.Loads.{few, has_load, all_places}
use Rattle.hb_link.specs.Load.{HasLoad, places_below, places_on}
use Rattle.hb_link.specs.declared.link.Link.{Link}
use Rattle.hb_map.proofs.Laws.{put_elsewhere, removed_here, removed_elsewhere, written_elsewhere}
use Rattle.hb_map.specs.Keyed.{written}
use Rattle.hb_world.specs.declared.act.Act.{Act}
use Rattle.hb_world.specs.declared.act.Act.TheVariants as act
use Rattle.hb_links.specs.declared.links.Links.{Links}
use Rattle.hb_links.specs.Busy.{counted, touched}
use Rattle.hb_links.specs.Load.{places_in, total_below, total, recount, IsCounted, Recounts, others_of}
use Rattle.hb_links.specs.Shows.{ShowsLink}
use Rattle.hb_links.specs.Stirring.{OnlyHears}
use Rattle.hb_links.specs.Walks.{finished}
use Rattle.hb_links.proofs.Showing.{Index, Map, links_with, written_same}
use Rattle.hb_links.proofs.Telling.{placeless}

-- HOW MANY THERE ARE

pub total_is : (links : Map) → total links ≡ total_below (2 ^ 64) links
unfolding total
total_is links = refl

few_on : (k : Link) → places_on k ≤ 2 ^ 32
unfolding places_on
few_on k = few k.tunnels (2 ^ 32)

few_in : (o : Option Link) → places_in o ≤ 2 ^ 32
few_in None = omega arith
few_in (Some k) = few_on k

few_below : (links : Map) (n : ℕ) → total_below n links ≤ n * 2 ^ 32
few_below links zero = omega arith
few_below links (suc n) =
    let front = few_below links n in
    let here = few_in (get links n) in
    omega (arith, front, here)

module _ (l : ℕ) (old new : Map) (same : (j : ℕ) → j ≢ l → get new j ≡ get old j) where
  same_below : (n : ℕ) → n ≤ l → total_below n new ≡ total_below n old
  same_below zero below = refl
  same_below (suc n) below =
      let front = same_below n (omega (arith, below)) in
      let here = ap places_in (same n (λ is. omega (arith, below, is))) in
      omega (arith, front, here)

  changed_below : (n : ℕ) → l < n → total_below n new + places_in (get old l) ≡ total_below n old + places_in (get new l)
  changed_below zero below = absurd (omega (arith, below))
  changed_below (suc n) below =
      ⊎_elim
      (λ (is : l ≡ n). (let front = same_below n (omega (arith, is)) in
      let here = ap (λ (i : ℕ). places_in (get new i)) is in
      let was = ap (λ (i : ℕ). places_in (get old i)) is in
      omega (arith, front, here, was)))
      (λ apart. (let front = changed_below n (omega (arith, below, apart)) in
      let here = ap places_in (same n (λ is. apart (sym is))) in
      omega (arith, front, here)))
      (cases_eq l n)

-- those of one are some of all
part_below : (links : Map) (l n : ℕ) → l < n → places_in (get links l) ≤ total_below n links
part_below links l n below =
    let changed = changed_below l links (remove links l) (removed_elsewhere links l) n below in
    let none = ap places_in (removed_here links l) in
    omega (arith, changed, none)

-- ONE LINK IS CHANGED

recounted : (taken before behind now : ℕ) → before ≤ taken → now + before ≡ taken + behind → now ≤ 2 ^ 96
    → recount taken before behind ≡ now
recounted taken before behind now part changed most = omega (arith, part, changed, most)

counts_to : (most : ℕ) (k n : Links) (l : ℕ) → most ≤ 2 ^ 64 → l < most → ((j : ℕ) → j ≢ l → get n.links j ≡ get k.links j)
    → n.taken ≡ recount k.taken (places_in (get k.links l)) (places_in (get n.links l)) → k.taken ≡ total_below most k.links
    → n.taken ≡ total_below most n.links
counts_to most k n l fits below same is all =
    let part = part_below k.links l most below in
    let changed = changed_below l k.links n.links same most below in
    let few_all = few_below n.links most in
    is
    ∙ recounted k.taken (places_in (get k.links l)) (places_in (get n.links l)) (total_below most n.links) (omega (arith, all, part))
    (omega (arith, all, changed)) (omega (arith, few_all, fits))

pub counts : (k n : Links) (l : ℕ) → l < 2 ^ 64 → ((j : ℕ) → j ≢ l → get n.links j ≡ get k.links j)
    → n.taken ≡ recount k.taken (places_in (get k.links l)) (places_in (get n.links l)) → Recounts k n
counts k n l narrow same is all =
    counts_to (2 ^ 64) k n l (omega arith) narrow same is (all ∙ total_is k.links) ∙ sym (total_is n.links)

-- it is touched
pub touch_counts : (k n : Links) (links : Map) (ups : Index) (l before : ℕ) → l < 2 ^ 64 → before ≡ places_in (get k.links l)
    → n ≡ touched l before (links_with links ups k) → ((j : ℕ) → j ≢ l → get links j ≡ get k.links j) → Recounts k n
touch_counts k n links ups l before narrow before_is n_is same =
    subst (λ (m : Links). Recounts k m) (sym n_is)
    (counts k (touched l before (links_with links ups k)) l narrow same
    (ap (λ (was : ℕ). recount k.taken was (places_in (get links l))) before_is))

pub told_counts : (k n : Links) (links : Map) (l before : ℕ) (new : Link) → l < 2 ^ 64 → before ≡ places_in (get k.links l)
    → n ≡ touched l before (links_with links k.ups k) → links ≡ written k.links l new → Recounts k n
told_counts k n links l before new narrow before_is n_is links_is =
    touch_counts k n links k.ups l before narrow before_is n_is
    (λ j apart. ap (λ (m : Map). get m j) links_is ∙ written_elsewhere k.links l new j apart)

pub put_counts : (k n : Links) (links : Map) (l before : ℕ) (new : Link) → l < 2 ^ 64 → before ≡ places_in (get k.links l)
    → n ≡ touched l before (links_with links k.ups k) → links ≡ insert k.links l new → Recounts k n
put_counts k n links l before new narrow before_is n_is links_is =
    touch_counts k n links k.ups l before narrow before_is n_is
    (λ j apart. ap (λ (m : Map). get m j) links_is ∙ put_elsewhere k.links l new j apart)

-- it is told what all are
pub one_counts : (k n : Links) (links : Map) (l before : ℕ) (new : Link) → l < 2 ^ 64 → before ≡ places_in (get k.links l)
    → n ≡ counted l before (record k { links = links }) → links ≡ written k.links l new → Recounts k n
one_counts k n links l before new narrow before_is n_is links_is =
    subst (λ (m : Links). Recounts k m) (sym n_is)
    (counts k (counted l before (record k { links = links })) l narrow
    (λ j apart. ap (λ (m : Map). get m j) links_is ∙ written_elsewhere k.links l new j apart)
    (ap (λ (was : ℕ). recount k.taken was (places_in (get links l))) before_is))

-- an act was given
pub act_counts : (k n : Links) (l before : ℕ) (due : Act) (links : Map) → l < 2 ^ 64 → before ≡ places_in (get k.links l)
    → ((j : ℕ) → j ≢ l → get links j ≡ get k.links j) → n ≡ finished l due before (links_with links k.ups k) → Recounts k n
act_counts k n l before (act.Dial to why) links narrow before_is same n_is =
    touch_counts k n links k.ups l before narrow before_is n_is same
act_counts k n l before (act.Shut u) links narrow before_is same n_is =
    touch_counts k n links k.ups l before narrow before_is n_is same
act_counts k n l before (act.Close u cause) links narrow before_is same n_is =
    subst (λ (m : Links). Recounts k m) (sym n_is) (by (u == l))
  where
    by : (b : Bool)
        → Recounts k (touched l before (cond b (links_with (remove links l) k.ups k) (links_with links (remove k.ups u) k)))
    by true = touch_counts k _ (remove links l) k.ups l before narrow before_is refl
        (λ j apart. removed_elsewhere links l j apart ∙ same j apart)
    by false = touch_counts k _ links (remove k.ups u) l before narrow before_is refl same

-- the same links stand
pub same_counts : (k n : Links) → ((j : ℕ) → get n.links j ≡ get k.links j) → n.taken ≡ k.taken → Recounts k n
same_counts k n same taken all =
    taken ∙ all ∙ sym (ap total (same_map nat_cmp_total nat_cmp-IsAntisymmetric n.links k.links same))

-- nothing but what is left to be told changes
same_totals : (old new : Map) → ((j : ℕ) → places_in (get new j) ≡ places_in (get old j)) → (n : ℕ) → total_below n new ≡ total_below n old
same_totals old new same zero = refl
same_totals old new same (suc n) =
    let front = same_totals old new same n in
    let here = same n in
    omega (arith, front, here)

pub hears_counts : (k n : Links) → OnlyHears k n → Recounts k n
hears_counts k n only all =
    ap (λ (m : Links). m.taken) only.same ∙ all ∙ total_is k.links ∙ sym (same_totals k.links n.links only.places (2 ^ 64)) ∙ sym (total_is n.links)

pub idle_counts : (k n : Links) (links : Map) (l : ℕ) (old new : Link) → get k.links l ≡ Some old → new ≡ old
    → links ≡ written k.links l new → n ≡ record k { links = links } → Recounts k n
idle_counts k n links l old new is same links_is n_is =
    subst (λ (m : Links). Recounts k m) (sym n_is)
    (same_counts k (record k { links = links }) (written_same k links l old new is same links_is) refl)

-- none are kept
none_below : (links : Map) → ((l : ℕ) → get links l ≡ None) → (n : ℕ) → total_below n links ≡ 0
none_below links none zero = refl
none_below links none (suc n) =
    let front = none_below links none n in
    let here = ap places_in (none n) in
    omega (arith, front, here)

pub none_counted : (links : Map) → ((l : ℕ) → get links l ≡ None) → 0 ≡ total links
none_counted links none = sym (total_is links ∙ none_below links none (2 ^ 64))

-- WHAT THAT SAYS OF THE MACHINES

-- of each link that is shown as many tunnels take a place as are counted
pub loads : (l : ℕ) (o : Option Link) (x : Inbound) → ShowsLink l o x → HasLoad x (places_in o)
loads l None x shown = record {
  bound = 0;
  below = λ s takes. absurd (false≢true (sym (placeless (x.tunnels s) (shown.1 s)) ∙ takes));
  count = refl;
}
loads l (Some k) x shown =
    has_load k x shown.1.tunnels (places_on k) (λ s some. (let few_streams = shown.1.numbered s some in omega (arith, few_streams)))
    (sym (all_places k (places_below (2 ^ 32) k.tunnels) refl))

-- those of one link and of the others are all
parted : (taken own all : ℕ) → taken ≡ all → own ≤ all → taken - own + own ≡ all
parted taken own all is part = omega (arith, is, part)

pub others_and_own : (k : Links) (l : ℕ) → l < 2 ^ 64 → IsCounted k → others_of k l + places_in (get k.links l) ≡ total k.links
others_and_own k l narrow all =
    parted k.taken (places_in (get k.links l)) (total k.links) all
    (subst (λ (sum : ℕ). places_in (get k.links l) ≤ sum) (sym (total_is k.links)) (part_below k.links l (2 ^ 64) narrow))
