-- What all links see at once is told to one link after another.
use Rattle.std.specs.Prelude.{⊤}
use Rattle.std.proofs.Common.{◌≡◌, ◌≢◌, ◌⊎◌, inl, inr, ⊎_elim, ℕ, ◌<◌, ◌≤◌, ◌^◌, ◌-◌, Bool, true, false, ◌==◌, cond, List, [], ◌∷◌, ◌++◌, map, fold, Option, Some, None, is_some, IsSome, refl, ap, sym, ◌∙◌, subst, arith}
use Rattle.std.proofs.lemmas.Bool.{cases_eq, cases_order}
use Rattle.std.proofs.lemmas.Grind.{fold-append, flat_map-append}
use Rattle.std.proofs.lemmas.List.{append_assoc, append-nil}
use Rattle.std.specs.FinMap.{get, insert}
use Rattle.hb_base.specs.declared.note.Note.{Note}
use Rattle.hb_inbound.proofs.Grown.{one_more}
use Rattle.hb_inbound.proofs.Life.{up_one}
use Rattle.hb_inbound.specs.Ends.{up_in, up_of}
use Rattle.hb_inbound.specs.Inbound.{Inbound}
use Rattle.hb_inbound.specs.Part as part
use Rattle.hb_inbound.specs.Part.{Part}
use Rattle.hb_inbound.specs.Runs as inbound
use Rattle.hb_inbound.specs.Runs.{Local}
use Rattle.hb_link.proofs.Noted.{takes_none, takes_then}
use Rattle.hb_link.specs.Counting as counting
use Rattle.hb_link.specs.Noted.{Told, Takes}
use Rattle.hb_link.specs.Reaches as link
use Rattle.hb_link.specs.Shows.{Shows}
use Rattle.hb_link.specs.declared.link.Link.{Link}
use Rattle.hb_map.proofs.Laws.{put_here, put_elsewhere}
use Rattle.hb_map.specs.Keyed.{IsFirstFrom}
use Rattle.hb_model.specs.Point as point
use Rattle.hb_model.specs.declared.config.NodeConfig.{NodeConfig}
use Rattle.hb_proxy.proofs.Projection.{links_run}
use Rattle.hb_proxy.specs.Held.{at_start}
use Rattle.hb_proxy.specs.Machine.{Machine, local, outward}
use Rattle.hb_proxy.specs.Notes.{notes, note_in}
use Rattle.hb_proxy.specs.Points.{Point, of_control, of_link, of_plain, of_gate, of_stream, part_in, parts_of, seen}
use Rattle.hb_proxy.specs.Runs.{Steps, StandsFor, goes_on}
use Rattle.hb_proxy.specs.Ups.{up_now}
use Rattle.hb_links.specs.declared.links.Links.{Links}
use Rattle.hb_links.specs.Reaches.{Guard, Leads, Meets, uncounted}
use Rattle.hb_links.specs.Shows.{IsAway, IsIndex, ShowsAll, ShowsLink}
use Rattle.hb_links.specs.Walks.{IsNext}
use Rattle.hb_links.proofs.Lifted.{lifted, uncounted_frees, notes_of}
use Rattle.hb_links.proofs.Showing.{Index, Map, same_ups}
use Rattle.hb_links.proofs.Sparing.{RestsStill}
use Rattle.hb_links.proofs.Staying.{points_stay}
use Rattle.hb_links.proofs.Ups.{ups_are as ups_found, LeavesUp, left_in, inner_in}

-- POINTS ONE AFTER ANOTHER

pub leads_append : (G : Guard) (g : NodeConfig) (x y z : Machine) (first more : List Point) → Leads G g x first y → Leads G g y more z
    → Leads G g x (first ++ more) z
leads_append G g x y z [] more is behind = subst (λ (w : Machine). Leads G g w more z) is behind
leads_append G g x y z (p ∷ first) more is behind =
    (is.0, is.1, is.2, is.3, leads_append G g is.2 y z first more is.4 behind)

pub stands_behind : (G : Guard) (g : NodeConfig) (x y : Machine) (points more : List Point) → StandsFor g x points → Leads G g x more y
    → StandsFor g y (points ++ more)
stands_behind G g x y points [] stands is =
    subst (λ (ps : List Point). StandsFor g y ps) (sym (append-nil points))
    (subst (λ (w : Machine). StandsFor g w points) (sym is) stands)
stands_behind G g x y points (p ∷ more) stands is =
    subst (λ (ps : List Point). StandsFor g y ps) (append_assoc points (p ∷ []) more)
    (stands_behind G g is.2 y (points ++ p ∷ []) more (goes_on stands p is.3 refl) is.4)

-- what follows by itself on these links changes none that goes out
pub inner_outward : (G : Guard) (g : NodeConfig) (x y : Machine) (more : List Point) → Leads G g x more y → outward y ≡ outward x
inner_outward G g x y [] is = ap outward is
inner_outward G g x y (of_control q ∷ more) is = absurd is.0
inner_outward G g x y (of_plain m p ∷ more) is = absurd is.0
inner_outward G g x y (of_gate n p ∷ more) is = absurd is.0
inner_outward G g x y (of_stream m n s w ∷ more) is = absurd is.0
inner_outward G g x y (of_link m p ∷ more) is = inner_outward G g is.2 y more is.4 ∙ ap outward is.3.3

-- nor an upstream
inner_point : (l s u : ℕ) (m : ℕ) (p : Part) → link.IsInner p → fold (up_in s) u (part_in l (of_link m p)) ≡ u
inner_point l s u m p inner = by (m == l)
  where
    by : (b : Bool) → fold (up_in s) u (cond b (p ∷ []) []) ≡ u
    by true = inner_in s u p inner
    by false = refl

inner_points : (G : Guard) (g : NodeConfig) (x y : Machine) (more : List Point) (l s u : ℕ) → Leads G g x more y
    → fold (up_in s) u (parts_of l more) ≡ u
inner_points G g x y [] l s u is = refl
inner_points G g x y (of_control q ∷ more) l s u is = absurd is.0
inner_points G g x y (of_plain m p ∷ more) l s u is = absurd is.0
inner_points G g x y (of_gate n p ∷ more) l s u is = absurd is.0
inner_points G g x y (of_stream m n i w ∷ more) l s u is = absurd is.0
inner_points G g x y (of_link m p ∷ more) l s u is =
    fold-append (up_in s) u (part_in l (of_link m p)) (parts_of l more)
    ∙ ap (λ (v : ℕ). fold (up_in s) v (parts_of l more)) (inner_point l s u m p is.0)
    ∙ inner_points G g is.2 y more l s u is.4

-- WHAT ALL SEE

-- how far a walk is: the links in front of it, and the others
abbrev pub IsBelow : Option ℕ → ℕ → Type 0
IsBelow None l = ⊤
IsBelow (Some n) l = l < n

abbrev pub IsFrom : Option ℕ → ℕ → Type 0
IsFrom None l = ⊥
IsFrom (Some n) l = n ≤ l

-- the links in front of it were told, and the others are to be
pub record Sweeps (g : NodeConfig) (y : Machine) (old links : Map) (from : Option ℕ) (told now : Told) : Type 0 where
  pub more : List Point
  pub reached : Machine
  pub leads : Leads uncounted g y more reached
  pub control : reached.control ≡ y.control
  pub shown : (l : ℕ) → IsBelow from l → ShowsLink l (get links l) (reached.inbound l)
  pub link : (l : ℕ) → IsFrom from l → get links l ≡ get old l
  pub same : (l : ℕ) → IsFrom from l → reached.inbound l ≡ y.inbound l
  pub there : (l : ℕ) → IsSome (get links l) → IsSome (get old l)
  pub noted : Takes told (notes more) now

-- what a point of the control plane makes of each link is this part of it
pub record AllSee (g : NodeConfig) (x y : Machine) (q : point.Point) (p : Part) : Type 0 where
  pub sees : seen q ≡ p ∷ []
  pub leaves : LeavesUp p
  pub steps : (l : ℕ) → inbound.Steps l (local x l) p (local y l)
  -- a link that is there stays so
  pub opened : (l : ℕ) → IsAway (y.inbound l).phase → IsAway (x.inbound l).phase
  -- and one that isn't
  pub away : (l : ℕ) → ShowsLink l None (x.inbound l) → ShowsLink l None (y.inbound l)

-- so far the code meets the machine
abbrev pub Swept : (P : Machine → Type 0) → point.Point → Part → Links → Map → Option ℕ → Told → Told → Type 0
Swept P q p k links from told now =
    (g : NodeConfig) (x y : Machine) (points : List Point) → StandsFor g x points → ShowsAll k x.inbound → P x
    → Steps g x (of_control q) y → AllSee g x y q p × Sweeps g y k.links links from told now

gone_by : (o : Option Link) (l : ℕ) (z w : Inbound) → o ≡ None → ShowsLink l o z → (ShowsLink l None z → ShowsLink l None w)
    → ShowsLink l o w
gone_by o l z w none shown away =
    subst (λ (i : Option Link). ShowsLink l i w) (sym none) (away (subst (λ (i : Option Link). ShowsLink l i z) none shown))

-- where no link is in front of the first one nothing is to be told
pub starts : (P : Machine → Type 0) (q : point.Point) (p : Part) (k : Links) (first : Option ℕ) (told : Told)
    → ((g : NodeConfig) (x y : Machine) → P x → Steps g x (of_control q) y → AllSee g x y q p) → IsFirstFrom k.links 0 first
    → Swept P q p k k.links first told told
starts P q p k first told sees is g x y points stands shows holds steps =
    let see = sees g x y holds steps in (
      see,
      record {
        more = [];
        reached = y;
        leads = refl;
        control = refl;
        shown = λ l below. gone_by (get k.links l) l (x.inbound l) (y.inbound l) (none_below first is l below) (shows.links l) (see.away l);
        link = λ l from. refl;
        same = λ l from. refl;
        there = λ l some. some;
        noted = takes_none told;
      },
    )
  where
    none_below : (first : Option ℕ) → IsFirstFrom k.links 0 first → (l : ℕ) → IsBelow first l → get k.links l ≡ None
    none_below None is l below = is l (omega arith)
    none_below (Some n) is l below = is.2 l (omega arith) below

-- what stands behind the one that is told
module _ (links : Map) (n : ℕ) (narrow : (l : ℕ) → IsSome (get links l) → l < 2 ^ 64) where
  behind_none : (next : Option ℕ) → IsNext links n next → (l : ℕ) → IsBelow next l → n < l → get links l ≡ None
  behind_none None (inl is) l below after = is l (omega (arith, after))
  behind_none (Some m) (inl is) l below after = is.2 l (omega (arith, after)) below
  behind_none next (inr is) l below after = by (get links l) refl
    where
      by : (o : Option Link) → get links l ≡ o → o ≡ None
      by None found = refl
      by (Some k) found = absurd (let few = narrow l (ap is_some found) in let most = is.1 in omega (arith, few, most, after))

  behind_from : (next : Option ℕ) → IsNext links n next → (l : ℕ) → IsFrom next l → n < l
  behind_from None is l from = absurd from
  behind_from (Some m) (inl is) l from = (let first = is.0 in omega (arith, first, from))
  behind_from (Some m) (inr is) l from = absurd (let none = is.0 in cc)

-- one more is told
pub goes : (P : Machine → Type 0) (Q : Local → Type 0) (q : point.Point) (p : Part) (k : Links) (links : Map) (n : ℕ) (old new : Link)
    (next : Option ℕ) (told now then : Told) → ((x : Machine) (l : ℕ) → P x → Q (local x l))
    → Swept P q p k links (Some n) told now → get links n ≡ Some old → link.Meets counting.uncounted Q p old now new then
    → IsNext (insert links n new) n next → Swept P q p k (insert links n new) next told then
goes P Q q p k links n old new next told now then gives swept is meets next_is g x y points stands shows holds steps =
    let both = swept g x y points stands shows holds steps in
    let see = both.0 in
    let so_far = both.1 in
    let z = so_far.reached in
    let start = at_start g in
    let here : n ≤ n = omega arith in
    let shown = subst (λ (o : Option Link). ShowsLink n o (x.inbound n)) (sym (so_far.link n here) ∙ is) (shows.links n) in
    let number = shown.0 in
    let one = meets start (parts_of n points) (local x n) (local y n)
    (subst (λ (i : ℕ). inbound.StandsFor i start (local x n) (parts_of n points)) (sym number) (links_run g x points n stands))
    shown.1 (gives x n holds) (subst (λ (i : ℕ). inbound.Steps i (local x n) p (local y n)) (sym number) (see.steps n)) in
    let last = one.1 in
    let local_is : local z n ≡ local y n = ap (λ (w : _). record { held = w.held; link = z.inbound n }) so_far.control
    ∙ ap (λ (w : Inbound). record { held = y.control.held; link = w }) (so_far.same n here) in
    let more = lifted counting.uncounted g n z last.parts last.reached (uncounted_frees g n z)
    (subst (λ (a : Local). link.Leads counting.uncounted n a last.parts last.reached) (sym local_is)
    (subst (λ (i : ℕ). link.Leads counting.uncounted i (local y n) last.parts last.reached) number last.leads)) in
    let w = more.y in
    let after = insert links n new in
    let apart_is : (l : ℕ) → l ≢ n → get after l ≡ get links l = λ l apart. put_elsewhere links n new l apart in
    let old_there : (l : ℕ) → IsSome (get after l) → IsSome (get k.links l) = λ l some. ⊎_elim
    (λ same. subst (λ (i : ℕ). IsSome (get k.links i)) (sym same) (ap is_some (sym (so_far.link n here) ∙ is)))
    (λ apart. so_far.there l (sym (ap is_some (apart_is l apart)) ∙ some)) (cases_eq l n) in
    let narrow : (l : ℕ) → IsSome (get after l) → l < 2 ^ 64 = λ l some. shows.numbered l (old_there l some) in
    let above : (l : ℕ) → IsFrom next l → n < l = behind_from after n narrow next next_is in (
      see,
      record {
        more = so_far.more ++ map (of_link n) last.parts;
        reached = w;
        leads = leads_append uncounted g y z w so_far.more (map (of_link n) last.parts) so_far.leads more.leads;
        control = more.control ∙ so_far.control;
        shown = λ l below. ⊎_elim
            (λ same. subst (λ (i : ℕ). ShowsLink i (get after i) (w.inbound i)) (sym same)
            (subst (λ (o : Option Link). ShowsLink n o (w.inbound n)) (sym (put_here links n new))
            (one.0 ∙ number, subst (Shows new) (sym (ap (λ (a : Local). a.link) more.here)) last.shows)))
            (λ apart. subst (λ (v : Inbound). ShowsLink l (get after l) v) (sym (more.others l apart))
            (⊎_elim
            (λ less. subst (λ (o : Option Link). ShowsLink l o (z.inbound l)) (sym (apart_is l apart)) (so_far.shown l less))
            (λ greater. (let none = behind_none after n narrow next next_is l below greater in
            let from : n ≤ l = omega (arith, greater) in
            let was : get k.links l ≡ None = sym (so_far.link l from) ∙ sym (apart_is l apart) ∙ none in
            subst (λ (o : Option Link). ShowsLink l o (z.inbound l)) (sym none)
            (subst (λ (v : Inbound). ShowsLink l None v) (sym (so_far.same l from))
            (see.away l (subst (λ (o : Option Link). ShowsLink l o (x.inbound l)) was (shows.links l))))))
            (parted l apart)))
            (cases_eq l n);
        link = λ l from. (let more_than = above l from in
            apart_is l (λ same. omega (arith, same, more_than)) ∙ so_far.link l (omega (arith, more_than)));
        same = λ l from. (let more_than = above l from in
            more.others l (λ same. omega (arith, same, more_than)) ∙ so_far.same l (omega (arith, more_than)));
        there = old_there;
        noted = subst (λ (made : List Note). Takes told made then)
            (ap (λ (made : List Note). notes so_far.more ++ made) (sym (notes_of n last.parts))
            ∙ sym (flat_map-append note_in so_far.more (map (of_link n) last.parts)))
            (takes_then told now then (notes so_far.more) (part.notes last.parts) so_far.noted last.noted);
      },
    )
  where
    parted : (l : ℕ) → l ≢ n → (l < n) ⊎ (n < l)
    parted l apart = ⊎_elim (λ same. absurd (apart same)) (λ either. either) (cases_order l n)

-- all were told
pub ends : (P : Machine → Type 0) (q : point.Point) (p : Part) (k n : Links) (told now : Told)
    → n.ups ≡ k.ups → RestsStill k n → Swept P q p k n.links None told now → Meets uncounted (λ g. P) (of_control q) k told n now
ends P q p k n told now ups_are rests swept g x y points stands shows holds steps =
    let both = swept g x y points stands shows holds steps in
    let see = both.0 in
    let all = both.1 in
    let z = all.reached in
    let start = at_start g in
    let first = points ++ of_control q ∷ [] in
    let then = stands_behind uncounted g y z first all.more (goes_on stands (of_control q) steps refl) all.leads in
    let ups : (l s : ℕ) → up_now ((z.inbound l).tunnels s) ≡ up_now ((x.inbound l).tunnels s) = λ l s.
    (let before = parts_of l points in
    let u = up_of s before in
    ups_found l start (local z l) (parts_of l (first ++ all.more)) (links_run g z (first ++ all.more) l then) s
    ∙ ap (up_of s) (flat_map-append (part_in l) first all.more)
    ∙ fold-append (up_in s) 0 (parts_of l first) (parts_of l all.more)
    ∙ inner_points uncounted g y z all.more l s (up_of s (parts_of l first)) all.leads
    ∙ ap (up_of s) (one_more (part_in l) points (of_control q) ∙ ap (λ (ps : List Part). before ++ ps) see.sees)
    ∙ up_one s before p
    ∙ left_in s u p see.leaves
    ∙ sym (ups_found l start (local x l) before (links_run g x points l stands) s)) in
    record {
      more = all.more;
      reached = z;
      leads = all.leads;
      shows = record {
        links = λ l. all.shown l tt;
        index = subst (λ (u : Index). IsIndex u z.inbound) (sym ups_are) (same_ups k.ups x.inbound z.inbound ups shows.index);
        numbered = λ l some. shows.numbered l (all.there l some);
        kept = λ l some away. shows.kept l (all.there l some) (see.opened l (points_stay uncounted g y all.more z all.leads l away));
        idle = rests x.inbound z.inbound shows (λ l. all.shown l tt);
      };
      noted = all.noted;
    }

-- how far it is from its end
abbrev pub left_from : Option ℕ → ℕ
left_from None = 0
left_from (Some n) = 2 ^ 64 - n

pub nearer : (links : Map) (n : ℕ) (next : Option ℕ) → n < 2 ^ 64 → IsNext links n next → left_from next < 2 ^ 64 - n
nearer links n None few is = omega (arith, few)
nearer links n (Some m) few (inl is) = (let first = is.0 in omega (arith, few, first))
nearer links n (Some m) few (inr is) = absurd (let none = is.0 in cc)
