-- A call of one link is a call of all links.
use Rattle.std.proofs.Common.{◌≡◌, ◌≢◌, ⊎_elim, ℕ, ◌<◌, ◌^◌, List, map, Option, Some, IsSome, is_some, ap, sym, ◌∙◌, subst}
use Rattle.std.proofs.lemmas.Bool.{cases_eq}
use Rattle.std.specs.FinMap.{FinMap, get, insert}
use Rattle.std.specs.Ordering.{nat_cmp}
use Rattle.hb_base.specs.declared.note.Note.{Note}
use Rattle.hb_inbound.specs.Ends.{up_in}
use Rattle.hb_inbound.specs.Inbound.{Inbound}
use Rattle.hb_inbound.specs.Part.{Part}
use Rattle.hb_inbound.specs.Runs as inbound
use Rattle.hb_inbound.specs.Runs.{Local, with_link}
use Rattle.hb_link.specs.Counting as counting
use Rattle.hb_link.specs.Noted.{Told, Takes}
use Rattle.hb_link.specs.Reaches as link
use Rattle.hb_link.specs.Acts.{NoneIsDue}
use Rattle.hb_link.specs.Shows.{Shows}
use Rattle.hb_link.specs.declared.link.Link.{Link}
use Rattle.hb_map.proofs.Laws.{put_here, put_elsewhere, written_where_some}
use Rattle.hb_map.specs.Keyed.{written}
use Rattle.hb_model.specs.declared.config.NodeConfig.{NodeConfig}
use Rattle.hb_proxy.proofs.Projection.{links_run}
use Rattle.hb_proxy.specs.Held.{at_start}
use Rattle.hb_proxy.specs.Machine.{Machine, local}
use Rattle.hb_proxy.specs.Points.{Point, of_link, parts_of}
use Rattle.hb_proxy.specs.Runs.{Steps, StandsFor}
use Rattle.hb_proxy.specs.Ups.{up_now}
use Rattle.hb_links.specs.declared.links.Links.{Links}
use Rattle.hb_links.specs.declared.place.Place.{Place}
use Rattle.hb_links.specs.Busy.{touched}
use Rattle.hb_links.specs.Reaches.{Follows, Meets, Shown, on_links, uncounted}
use Rattle.hb_links.specs.Shows.{IsAway, IsIndex, ShowsAll, ShowsLink}
use Rattle.hb_links.proofs.Due.{due_then}
use Rattle.hb_links.proofs.Lifted.{Frees, uncounted_frees, lifted, here, there, notes_of}
use Rattle.hb_links.proofs.Staying.{KeepsOpen, points_stay}
use Rattle.hb_links.proofs.Ups.{ups_then, LeavesUp, left_in}

abbrev pub Index : Type 0
Index = FinMap nat_cmp Place

abbrev pub Map : Type 0
Map = FinMap nat_cmp Link

-- with other links and upstreams
abbrev pub links_with : Map → Index → Links → Links
links_with links ups k = record k { links = links; ups = ups }

-- a link in the place of itself
pub written_same : (k : Links) (links : Map) (l : ℕ) (old new : Link) → get k.links l ≡ Some old → new ≡ old
    → links ≡ written k.links l new → (j : ℕ) → get links j ≡ get k.links j
written_same k links l old new is same links_is j =
    ap (λ (m : Map). get m j) (links_is ∙ written_where_some k.links l new (ap is_some is)) ∙ ⊎_elim
    (λ at. subst (λ (i : ℕ). get (insert k.links l new) i ≡ get k.links i) (sym at)
    (put_here k.links l new ∙ ap Some same ∙ sym is))
    (λ apart. put_elsewhere k.links l new j apart) (cases_eq j l)

-- the index of upstreams where a part came on the link l, and with it what follows from it by itself
abbrev pub Indexes : Index → (ℕ → Inbound) → ℕ → Part → Type 0
Indexes ups f l p =
    (z : ℕ → Inbound) → ((m : ℕ) → m ≢ l → z m ≡ f m)
    → ((s : ℕ) → up_now ((z l).tunnels s) ≡ up_in s (up_now ((f l).tunnels s)) p) → IsIndex ups z

-- it stays where no upstream is born or closed
pub same_ups : (ups : Index) (f z : ℕ → Inbound) → ((m s : ℕ) → up_now ((z m).tunnels s) ≡ up_now ((f m).tunnels s)) → IsIndex ups f
    → IsIndex ups z
same_ups ups f z same index = record {
  found = λ l s u is. index.found l s u (is.0, sym (same l s) ∙ is.1);
  joined = λ u at is. (let was = index.joined u at is in (was.0, same at.link at.stream ∙ was.1));
}

pub leaves_index : (ups : Index) (f : ℕ → Inbound) (l : ℕ) (p : Part) → LeavesUp p → IsIndex ups f → Indexes ups f l p
leaves_index ups f l p leaves index z others ups_are =
    same_ups ups f z
    (λ m s. ⊎_elim (λ is. subst (λ (i : ℕ). up_now ((z i).tunnels s) ≡ up_now ((f i).tunnels s)) (sym is)
    (ups_are s ∙ left_in s (up_now ((f l).tunnels s)) p leaves))
    (λ apart. ap (λ (w : Inbound). up_now (w.tunnels s)) (others m apart)) (cases_eq m l))
    index

-- where so many of its tunnels took a place before
module _ (before : ℕ) where
  -- One link is changed, and with it the index: it is touched
  module _ (k : Links) (l : ℕ) (p : Part) (links : Map) (here : Option Link) (ups : Index) (x : Machine) (shows : ShowsAll k x.inbound)
      (is : get links l ≡ here) (same : (m : ℕ) → m ≢ l → get links m ≡ get k.links m) where
    pub shown_then : (z : ℕ → Inbound) → l < 2 ^ 64 → ShowsLink l here (z l) → (IsSome here → IsAway (z l).phase → ⊥)
        → ((m : ℕ) → m ≢ l → z m ≡ x.inbound m)
        → ((s : ℕ) → up_now ((z l).tunnels s) ≡ up_in s (up_now ((x.inbound l).tunnels s)) p) → Indexes ups x.inbound l p
        → ShowsAll (touched l before (links_with links ups k)) z
    shown_then z narrow shown opened others ups_are index = record {
      links = λ m. ⊎_elim
          (λ at. subst (λ (i : ℕ). ShowsLink i (get links i) (z i)) (sym at)
          (subst (λ (o : Option Link). ShowsLink l o (z l)) (sym is) shown))
          (λ apart. subst (λ (o : Option Link). ShowsLink m o (z m)) (sym (same m apart))
          (subst (λ (w : Inbound). ShowsLink m (get k.links m) w) (sym (others m apart)) (shows.links m)))
          (cases_eq m l);
      index = index z others ups_are;
      numbered = λ m there. ⊎_elim (λ at. subst (λ (i : ℕ). i < 2 ^ 64) (sym at) narrow)
          (λ apart. shows.numbered m (sym (ap is_some (same m apart)) ∙ there)) (cases_eq m l);
      kept = λ m there away. ⊎_elim
          (λ at. opened (ap is_some (sym is ∙ sym (ap (λ (i : ℕ). get links i) at)) ∙ there)
          (subst (λ (i : ℕ). IsAway (z i).phase) at away))
          (λ apart. shows.kept m (sym (ap is_some (same m apart)) ∙ there) (subst (λ (w : Inbound). IsAway w.phase) (others m apart) away))
          (cases_eq m l);
      idle = λ m none. (let was = due_then (links_with links ups k) l before m none in
          subst (λ (w : Inbound). NoneIsDue w) (sym (others m was.0)) (shows.idle m was.1));
    }

  -- Of a run whose links the code showed, and behind which a part of a link comes: where the code of that link reaches one with what
  -- follows, the code of all links does so with it in the place of the old one
  module _ (G : link.Guard) (g : NodeConfig) (k : Links) (l : ℕ) (p : Part) (new : Link) (ups : Index) (told now : Told)
      (x y : Machine) (points : List Point) (stands : StandsFor g x points) (shows : ShowsAll k x.inbound)
      (steps : Steps g x (of_link l p) y) where
    behind : local y l ≡ with_link steps.0 (local x l)
    behind = ap (λ (w : Machine). local w l) steps.3 ∙ here x l p steps.0

    apart_from : (m : ℕ) → m ≢ l → y.inbound m ≡ x.inbound m
    apart_from m apart = ap (λ (w : Machine). w.inbound m) steps.3 ∙ there x l p steps.0 m apart

    pub reaches : Frees G g l y → (IsAway (y.inbound l).phase → ⊥) → new.number ≡ l → l < 2 ^ 64
        → link.Reaches G l (with_link steps.0 (local x l)) new told now → Indexes ups x.inbound l p
        → Follows (on_links G) Shown g y (touched l before (links_with (insert k.links l new) ups k)) told now
    reaches frees opened number narrow last index =
        let start = at_start g in
        let then = lifted G g l y last.parts last.reached frees
        (subst (λ (c : Local). link.Leads G l c last.parts last.reached) (sym behind) last.leads) in
        let z = then.y.inbound in
        let link_is : z l ≡ last.reached.link = ap (λ (c : Local). c.link) then.here in
        record {
          more = map (of_link l) last.parts;
          reached = then.y;
          leads = then.leads;
          shows = shown_then k l p (insert k.links l new) (Some new) ups x shows (put_here k.links l new) (put_elsewhere k.links l new)
              z narrow (number, subst (Shows new) (sym link_is) last.shows)
              (λ some away. opened (points_stay (on_links G) g y (map (of_link l) last.parts) then.y then.leads l away))
              (λ m apart. then.others m apart ∙ apart_from m apart)
              (λ s. ap (λ (w : Inbound). up_now (w.tunnels s)) link_is
              ∙ ups_then G l start (local x l) (with_link steps.0 (local x l)) last.reached (parts_of l points) p last.parts
              (links_run g x points l stands) steps.1 last.leads s)
              index;
          noted = subst (λ (made : List Note). Takes told made now) (sym (notes_of l last.parts)) last.noted;
        }

  -- a call of a link that the code has, with another index of upstreams; or with the same, where it isn't the birth or the close of one
  pub lifts_with : (G : link.Guard) (P : Local → Type 0) (Q : NodeConfig → Machine → Type 0) (k : Links) (l : ℕ)
      (old new : Link) (ups : Index) (told now : Told) (p : ℕ → Part) → get k.links l ≡ Some old
      → ((g : NodeConfig) (x y : Machine) (points : List Point) → StandsFor g x points → ShowsAll k x.inbound
      → Steps g x (of_link l (p l)) y → Indexes ups x.inbound l (p l))
      → KeepsOpen (p l) → ((g : NodeConfig) (x : Machine) → Q g x → P (local x l))
      → ((g : NodeConfig) (x y : Machine) → ShowsAll k x.inbound → Q g x → Steps g x (of_link l (p l)) y → Frees G g l y)
      → link.Meets G P (p old.number) old told new now
      → Meets (on_links G) Q (of_link l (p l)) k told (touched l before (links_with (insert k.links l new) ups k)) now
  lifts_with G P Q k l old new ups told now p is index keeps gives frees meets g x y points stands shows holds steps =
      let shown = subst (λ (o : Option Link). ShowsLink l o (x.inbound l)) is (shows.links l) in
      let number = shown.0 in
      let does = subst (λ (i : ℕ). link.Meets G P (p i) old told new now) number meets in
      let one = does (at_start g) (parts_of l points) (local x l) (with_link steps.0 (local x l))
      (subst (λ (i : ℕ). inbound.StandsFor i (at_start g) (local x l) (parts_of l points)) (sym number) (links_run g x points l stands))
      shown.1 (gives g x holds)
      (subst (λ (i : ℕ). inbound.Steps i (local x l) (p l) (with_link steps.0 (local x l))) (sym number) steps.1) in
      let opened : IsAway (y.inbound l).phase → ⊥ = λ away. shows.kept l (ap is_some is)
      (keeps l (local x l) (with_link steps.0 (local x l)) steps.1
      (subst (λ (a : Local). IsAway a.link.phase) (behind G g k l (p l) new ups told now x y points stands shows steps) away)) in
      reaches G g k l (p l) new ups told now x y points stands shows steps (frees g x y shows holds steps)
      opened (one.0 ∙ number) (shows.numbered l (ap is_some is))
      (subst (λ (i : ℕ). link.Reaches G i (with_link steps.0 (local x l)) new told now) number one.1)
      (index g x y points stands shows steps)

  pub lifts : (G : link.Guard) (P : Local → Type 0) (Q : NodeConfig → Machine → Type 0) (k : Links) (l : ℕ)
      (old new : Link) (told now : Told) (p : ℕ → Part) → get k.links l ≡ Some old → LeavesUp (p l)
      → KeepsOpen (p l) → ((g : NodeConfig) (x : Machine) → Q g x → P (local x l))
      → ((g : NodeConfig) (x y : Machine) → ShowsAll k x.inbound → Q g x → Steps g x (of_link l (p l)) y → Frees G g l y)
      → link.Meets G P (p old.number) old told new now
      → Meets (on_links G) Q (of_link l (p l)) k told (touched l before (links_with (insert k.links l new) k.ups k)) now
  lifts G P Q k l old new told now p is leaves keeps gives frees meets =
      lifts_with G P Q k l old new k.ups told now p is
      (λ g x y points stands shows steps. leaves_index k.ups x.inbound l (p l) leaves shows.index) keeps gives frees meets

  -- where nothing is counted
  pub lifts_free : (P : Local → Type 0) (Q : NodeConfig → Machine → Type 0) (k : Links) (l : ℕ) (old new : Link) (told now : Told)
      (p : ℕ → Part) → get k.links l ≡ Some old → LeavesUp (p l) → KeepsOpen (p l)
      → ((g : NodeConfig) (x : Machine) → Q g x → P (local x l)) → link.Meets counting.uncounted P (p old.number) old told new now
      → Meets uncounted Q (of_link l (p l)) k told (touched l before (links_with (insert k.links l new) k.ups k)) now
  lifts_free P Q k l old new told now p is leaves keeps gives meets =
      lifts counting.uncounted P Q k l old new told now p is leaves keeps gives (λ g x y shows holds steps. uncounted_frees g l y) meets
