-- The links that stir are told, one after another.
use Rattle.std.proofs.Common.{◌≡◌, ◌⊎◌, inl, inr, ⊎_elim, ◌==◌, ◌||◌, ℕ, ◌+◌, ◌<◌, ◌≤◌, ◌^◌, true, false, Option, Some, None, is_some, IsSome, refl, ap, sym, ◌∙◌, subst, arith}
use Rattle.std.proofs.lemmas.Bool.{cases_eq, cases_lt, cases_order, or_cases, or_left, or_right, and_parts, and_from, eq-eqb, eqb-true, le-leb, leb-true, false≢true}
use Rattle.std.specs.FinMap.{get, insert}
use Rattle.std.specs.Option.{SomeIff}
use Rattle.hb_frames.specs.Numbers.{largest}
use Rattle.hb_inbound.specs.Inbound.{Inbound}
use Rattle.hb_inbound.specs.Tunnel as t
use Rattle.hb_link.specs.Observed.{up_in, up_on}
use Rattle.hb_link.specs.Rousing.{Tells, roused_on}
use Rattle.hb_link.specs.Tunnels.{stage_of, ShowsAt, ShowsTunnel}
use Rattle.hb_link.specs.declared.link.Link.{Link}
use Rattle.hb_link.specs.declared.roused.Roused.{Roused}
use Rattle.hb_link.specs.declared.tunnel.Tunnel.{Tunnel}
use Rattle.hb_link.proofs.Still.{shows_still, wants_still, output_still, last_still, places_still}
use Rattle.hb_map.proofs.Laws.{put_here, put_elsewhere, written_where_some, len_with_old}
use Rattle.hb_map.specs.Keyed.{IsFirstFrom, written}
use Rattle.hb_proxy.specs.Ups.{Joins, up_by, up_now}
use Rattle.hb_links.specs.declared.family.Family.{Family}
use Rattle.hb_links.specs.declared.links.Links.{Links}
use Rattle.hb_links.specs.declared.place.Place.{Place}
use Rattle.hb_links.specs.Busy.{is_from}
use Rattle.hb_links.specs.Calls.{wants_in, up_wants_in, wants_at, output_in, up_held_in, held_at, last_at}
use Rattle.hb_links.specs.Load.{places_in}
use Rattle.hb_links.specs.Places.{place}
use Rattle.hb_links.specs.Shows.{ShowsAll, ShowsLink}
use Rattle.hb_links.specs.Walks.{RousesAll, TellsUp}
use Rattle.hb_links.specs.Stirring.{owner_of, up_left, is_left, in_family, stirs_by, stirs_at, IsPresent, Hears, OnlyHears}
use Rattle.hb_links.proofs.Indexing.{up_is}
use Rattle.hb_links.proofs.Showing.{Map}
use Rattle.hb_links.proofs.Walking.{calmer}

-- WHAT IS THERE

-- a tunnel of the code has the upstream of the machine's
same_up : (stage : t.Stage) (k : Tunnel) (x : t.Tunnel) → ShowsAt stage k x → x.up ≡ k.up
same_up (t.over cause) k x shown = shown.1
same_up stage k x shown = ap (λ (w : t.Tunnel). w.up) shown.0

-- on a stream without one no upstream is joined
none_joined : (x : t.Tunnel) (u : ℕ) → ShowsTunnel None x → Joins x u → ⊥
none_joined x u shown joins =
    let none : up_now x ≡ 0 = ⊎_elim (λ (is : x.stage ≡ t.unasked). ap (λ (stage : t.Stage). up_by stage x) is)
    (λ (is : x.stage ≡ t.gone). ap (λ (stage : t.Stage). up_by stage x) is) shown in
    let some = joins.0 in
    let is = joins.1 in
    omega (arith, none, some, is)

joined_on : (o : Option Tunnel) (x : t.Tunnel) (u : ℕ) → ShowsTunnel o x → Joins x u → IsSome o × (up_in o ≡ u)
joined_on None x u shown joins = absurd (none_joined x u shown joins)
joined_on (Some k) x u shown joins =
    (refl, sym (same_up (stage_of k.stage) k x shown) ∙ up_is x.stage x u joins.0 joins.1)

module _ (k : Links) (f : ℕ → Inbound) (shows : ShowsAll k f) where
  link_there : (l : ℕ) → (ShowsLink l None (f l) → ⊥) → IsSome (get k.links l)
  link_there l some = by (get k.links l) refl
    where
      by : (o : Option Link) → get k.links l ≡ o → IsSome (get k.links l)
      by None none = absurd (some (subst (λ (o : Option Link). ShowsLink l o (f l)) none (shows.links l)))
      by (Some w) found = ap is_some found

  -- a link that is there is kept, and so is the one of an upstream that is
  pub owner_there : (n : ℕ) (at : Option Place) → get k.ups n ≡ at → IsPresent f n → IsSome (get k.links (owner_of at n))
  owner_there n None none present =
      ⊎_elim (λ there. link_there n (λ shown. there shown.0))
      (λ up. absurd (let found = shows.index.found up.0 up.1 n up.2 in let both : None ≡ Some (place up.0 up.1) = sym none ∙ found in cc))
      present
  owner_there n (Some at) found present =
      link_there at.link (λ shown. none_joined ((f at.link).tunnels at.stream) n (shown.1 at.stream) (shows.index.joined n at found))

  -- and its tunnel
  up_there : (n : ℕ) (at : Place) → get k.ups n ≡ Some at → (w : Link) → get k.links at.link ≡ Some w
      → (up_on w at.stream ≡ n) × (0 < n) × (at.stream ≤ largest)
  up_there n at found w is =
      let shown = (subst (λ (o : Option Link). ShowsLink at.link o (f at.link)) is (shows.links at.link)).1 in
      let joins = shows.index.joined n at found in
      let there = joined_on (get w.tunnels at.stream) ((f at.link).tunnels at.stream) n (shown.tunnels at.stream) joins in
      (there.1, joins.0, shown.numbered at.stream there.0)

-- ONE IS TOLD

-- where one link has others roused, the same is shown, may be read and is to be written
module _ (k : Links) (l : ℕ) (old : Link) (r : Roused) (is : get k.links l ≡ Some old) where
  abbrev new : Link
  new = record old { roused = r }

  abbrev pub links_after : Map
  links_after = insert k.links l new

  -- the link on a number, by what stands there
  heard_at : {A : Type 0} (see : Option Link → A) → see (Some new) ≡ see (Some old) → (j : ℕ) → see (get links_after j) ≡ see (get k.links j)
  heard_at see same j = elim (cases_eq j l) [
    | inl here ↦ ap (λ (i : ℕ). see (get links_after i)) here ∙ ap see (put_here k.links l new) ∙ same ∙ ap see (sym is)
        ∙ ap (λ (i : ℕ). see (get k.links i)) (sym here)
    | inr apart ↦ ap see (put_elsewhere k.links l new j apart)
  ]

  shows_at : (f : ℕ → Inbound) → ((j : ℕ) → ShowsLink j (get k.links j) (f j)) → (j : ℕ) → ShowsLink j (get links_after j) (f j)
  shows_at f shows j = elim (cases_eq j l) [
    | inl here ↦ subst (λ (i : ℕ). ShowsLink i (get links_after i) (f i)) (sym here)
        (let shown = subst (λ (o : Option Link). ShowsLink l o (f l)) is (shows l) in
        subst (λ (o : Option Link). ShowsLink l o (f l)) (sym (put_here k.links l new)) (shown.0, shows_still old r (f l) shown.1))
    | inr apart ↦ subst (λ (o : Option Link). ShowsLink j o (f j)) (sym (put_elsewhere k.links l new j apart)) (shows j)
  ]

  pub anew_shows : (f : ℕ → Inbound) → ShowsAll k f → ShowsAll (record k { links = links_after }) f
  anew_shows f shows = record {
    links = shows_at f shows.links;
    index = shows.index;
    numbered = λ j some. shows.numbered j (sym (heard_at is_some refl j) ∙ some);
    kept = λ j some. shows.kept j (sym (heard_at is_some refl j) ∙ some);
    idle = shows.idle;
  }

  wants_same : (n : ℕ) (at : Option Place) → wants_at (record k { links = links_after }) at n ≡ wants_at k at n
  wants_same n None = heard_at wants_in (wants_still old r) n
  wants_same n (Some at) = heard_at (up_wants_in at.stream) refl at.link

  held_same : (n : ℕ) (at : Option Place) → held_at (record k { links = links_after }) at n ≡ held_at k at n
  held_same n None = heard_at output_in (output_still old r) n
  held_same n (Some at) = heard_at (up_held_in at.stream) refl at.link

  pub anew_hears : OnlyHears k (record k { links = links_after })
  anew_hears = record {
    same = refl;
    wants = λ n. wants_same n (get k.ups n);
    held = λ n. held_same n (get k.ups n);
    last = heard_at last_at (last_still old r);
    places = heard_at places_in (places_still old r);
    count = len_with_old k.links l new (ap is_some is);
  }

wants_rest : (n : Links) (family : Option Family) (from : Option ℕ) (i : ℕ) (at : Option Place)
    → wants_at (record n { stirs = family; stirs_from = from }) at i ≡ wants_at n at i
wants_rest n family from i None = refl
wants_rest n family from i (Some at) = refl

held_rest : (n : Links) (family : Option Family) (from : Option ℕ) (i : ℕ) (at : Option Place)
    → held_at (record n { stirs = family; stirs_from = from }) at i ≡ held_at n at i
held_rest n family from i None = refl
held_rest n family from i (Some at) = refl

-- what else is known of what stirs changes nothing of that
pub only_told : (k n : Links) (family : Option Family) (from : Option ℕ) → OnlyHears k n
    → OnlyHears k (record n { stirs = family; stirs_from = from })
only_told k n family from only = record {
  same = ap (λ (m : Links). record m { stirs = family; stirs_from = from }) only.same;
  wants = λ i. wants_rest n family from i (get n.ups i) ∙ only.wants i;
  held = λ i. held_rest n family from i (get n.ups i) ∙ only.held i;
  last = only.last;
  places = only.places;
  count = only.count;
}

pub none_told : (k : Links) → OnlyHears k k
none_told k = record { same = refl; wants = λ n. refl; held = λ n. refl; last = λ n. refl; places = λ n. refl; count = refl }

told_shows : (n : Links) (f : ℕ → Inbound) (family : Option Family) (from : Option ℕ) → ShowsAll n f
    → ShowsAll (record n { stirs = family; stirs_from = from }) f
told_shows n f family from shows =
    calmer n (record n { stirs = family; stirs_from = from }) f shows (λ l. refl) refl (λ l none. shows.idle l none)

-- what one link was told
module _ (k : Links) (links : Map) (l : ℕ) (old new : Link) (is : get k.links l ≡ Some old) (links_is : links ≡ written k.links l new) where
  links_are : record k { links = links } ≡ record k { links = insert k.links l new }
  links_are = ap (λ (m : Map). record k { links = m }) (links_is ∙ written_where_some k.links l new (ap is_some is))

  pub up_tells : (told : Option ℕ) → Tells told old new → TellsUp (get k.links l) l told k (record k { links = links })
  up_tells told tells = subst (λ (o : Option Link). TellsUp o l told k (record k { links = links })) (sym is) (new, tells, links_are)

  pub all_roused : ((s : ℕ) → roused_on new s ≡ true) → new ≡ record old { roused = new.roused }
      → RousesAll (get k.links l) l k (record k { links = links })
  all_roused all same =
      subst (λ (o : Option Link). RousesAll o l k (record k { links = links })) (sym is) (new, all, same, links_are)

-- A FAMILY

-- what is left of it is told
module _ (k : Links) (family : Family) (is : k.stirs ≡ Some family) where
  -- the rest stays, where the links are these
  rest_hears : (links : Map) (left : Option Family) (told : Option ℕ)
      → ((f : ℕ → Inbound) → ShowsAll k f → ShowsAll (record k { links = links }) f)
      → ((f : ℕ → Inbound) → ShowsAll k f → (i : ℕ) (at : Option Place) → get k.ups i ≡ at → IsPresent f i
      → family.link ≡ owner_of at i → is_left family.own at (get k.links family.link) ≡ true
      → (in_family left at i (get links (owner_of at i)) ≡ true) ⊎ (told ≡ Some i))
      → Hears told k (record k { links = links; stirs = left })
  rest_hears links left told stands rest f shows = (
    told_shows (record k { links = links }) f left k.stirs_from (stands f shows),
    λ i present stirs.
        let at = get k.ups i in
        let owner = owner_of at i in
        ⊎_elim
        (λ (here : in_family k.stirs at i (get k.links owner) ≡ true).
        (let both = and_parts (family.link == owner) (is_left family.own at (get k.links owner))
        (ap (λ (o : Option Family). in_family o at i (get k.links owner)) (sym is) ∙ here) in
        let mine = eqb-true family.link owner both.0 in
        ⊎_elim
        (λ still. inl (or_left (in_family left at i (get links owner)) (is_from k.stirs_from owner) still))
        inr
        (rest f shows i at refl present mine
        (ap (λ (j : ℕ). is_left family.own at (get k.links j)) mine ∙ both.1))))
        (λ (behind : is_from k.stirs_from owner ≡ true).
        inl (or_right (in_family left at i (get links owner)) (is_from k.stirs_from owner) behind))
        (or_cases (in_family k.stirs at i (get k.links owner)) (is_from k.stirs_from owner) stirs),
  )

  -- its link isn't kept
  pub gone_hears : get k.links family.link ≡ None → Hears None k (record k { stirs = None })
  gone_hears none =
      rest_hears k.links None None (λ f shows. shows)
      (λ f shows i at found present owner left.
      absurd (false≢true (ap is_some (sym none) ∙ ap (λ (l : ℕ). is_some (get k.links l)) owner
      ∙ owner_there k f shows i at found present)))

  -- the link itself is told
  pub own_hears : Hears (Some family.link) k (record k { stirs = Some (record { link = family.link; own = false }) })
  own_hears =
      rest_hears k.links (Some (record { link = family.link; own = false })) (Some family.link) (λ f shows. shows)
      (λ f shows i at found present owner left. by i at owner left)
    where
      by : (i : ℕ) (at : Option Place) → family.link ≡ owner_of at i → is_left family.own at (get k.links family.link) ≡ true
          → (in_family (Some (record { link = family.link; own = false })) at i (get k.links (owner_of at i)) ≡ true)
          ⊎ (Some family.link ≡ Some i)
      by i None owner left = inr (ap Some owner)
      by i (Some at) owner left =
          inl (and_from (family.link == at.link) (up_left at.stream (get k.links at.link)) (eq-eqb family.link at.link owner)
          (ap (λ (j : ℕ). up_left at.stream (get k.links j)) (sym owner) ∙ left))

  -- an upstream is, or none is left
  module _ (old new : Link) (told : Option ℕ) (found : get k.links family.link ≡ Some old) (tells : Tells told old new)
      (own : family.own ≡ false) where
    abbrev pub mid : Map
    mid = insert k.links family.link new

    mid_is : mid ≡ links_after k family.link old new.roused found
    mid_is = ap (λ (w : Link). insert k.links family.link w) tells.passes.same

    stands : (f : ℕ → Inbound) → ShowsAll k f → ShowsAll (record k { links = mid }) f
    stands f shows =
        subst (λ (m : Map). ShowsAll (record k { links = m }) f) (sym mid_is)
        (anew_shows k family.link old new.roused found f shows)

    pub up_only : OnlyHears k (record k { links = mid })
    up_only =
        subst (λ (m : Map). OnlyHears k (record k { links = m })) (sym mid_is) (anew_hears k family.link old new.roused found)

    -- one that was roused is, or was told
    kept : (f : ℕ → Inbound) → ShowsAll k f → (i : ℕ) (at : Place) → get k.ups i ≡ Some at → family.link ≡ at.link
        → up_left at.stream (get k.links family.link) ≡ true → (roused_on new at.stream ≡ true) ⊎ (told ≡ Some i)
    kept f shows i at here owner left =
        let there = up_there k f shows i at here old (ap (get k.links) (sym owner) ∙ found) in
        ⊎_elim inl (λ is_told. inr (is_told ∙ ap Some there.0))
        (tells.passes.kept at.stream (subst (λ (u : ℕ). 0 < u) (sym there.0) there.1) (sym (ap (up_left at.stream) found) ∙ left))

    no_own : {A : Type 0} → is_left family.own None (get k.links family.link) ≡ true → A
    no_own left = absurd (false≢true (sym own ∙ left))

    pub up_hears : Hears told k (record k { links = mid; stirs = Some family })
    up_hears = rest_hears mid (Some family) told stands (λ f shows i at here present owner left. by f shows i at here owner left)
      where
        by : (f : ℕ → Inbound) → ShowsAll k f → (i : ℕ) (at : Option Place) → get k.ups i ≡ at → family.link ≡ owner_of at i
            → is_left family.own at (get k.links family.link) ≡ true
            → (in_family (Some family) at i (get mid (owner_of at i)) ≡ true) ⊎ (told ≡ Some i)
        by f shows i None here owner left = no_own left
        by f shows i (Some at) here owner left =
            ⊎_elim
            (λ still. inl (and_from (family.link == at.link) (up_left at.stream (get mid at.link))
            (eq-eqb family.link at.link owner)
            (ap (λ (j : ℕ). up_left at.stream (get mid j)) (sym owner)
            ∙ ap (up_left at.stream) (put_here k.links family.link new) ∙ still)))
            inr (kept f shows i at here owner left)

    pub over_hears : told ≡ None → Hears None k (record k { links = mid; stirs = None })
    over_hears none = rest_hears mid None None stands (λ f shows i at here present owner left. absurd (by f shows i at here owner left))
      where
        by : (f : ℕ → Inbound) → ShowsAll k f → (i : ℕ) (at : Option Place) → get k.ups i ≡ at → family.link ≡ owner_of at i
            → is_left family.own at (get k.links family.link) ≡ true → ⊥
        by f shows i None here owner left = no_own left
        by f shows i (Some at) here owner left =
            ⊎_elim (λ still. false≢true (sym (tells.none none at.stream) ∙ still))
            (λ is_told. (let both : None ≡ Some i = sym none ∙ is_told in cc)) (kept f shows i at here owner left)

-- as the code comes to it
module _ (k m : Links) (family : Family) (is : k.stirs ≡ Some family) (own : family.own ≡ false) where
  pub none_hears : (o : Option Link) → get k.links family.link ≡ o → TellsUp o family.link None (record k { stirs = None }) m
      → Hears None k m × OnlyHears k m
  none_hears None none told =
      subst (λ (w : Links). Hears None k w × OnlyHears k w) (sym told.1)
      (gone_hears k family is none, only_told k k None k.stirs_from (none_told k))
  none_hears (Some old) found (new, tells, m_is) =
      subst (λ (w : Links). Hears None k w × OnlyHears k w) (sym m_is) (
        over_hears k family is old new None found tells own refl,
        only_told k (record k { links = insert k.links family.link new }) None k.stirs_from
            (up_only k family is old new None found tells own),
      )

  pub some_hears : (u : ℕ) (o : Option Link) → get k.links family.link ≡ o
      → TellsUp o family.link (Some u) (record k { stirs = None }) m
      → Hears (Some u) k (record m { stirs = Some family }) × OnlyHears k (record m { stirs = Some family })
  some_hears u None none told = let no = told.0 in absurd cc
  some_hears u (Some old) found (new, tells, m_is) =
      subst (λ (w : Links). Hears (Some u) k (record w { stirs = Some family }) × OnlyHears k (record w { stirs = Some family })) (sym m_is) (
        up_hears k family is old new (Some u) found tells own,
        only_told k (record k { links = insert k.links family.link new }) (Some family) k.stirs_from
            (up_only k family is old new (Some u) found tells own),
      )

-- THE NEXT LINK IS TOLD

pub none_left : (k : Links) → k.stirs ≡ None → k.stirs_from ≡ None → (n : ℕ) → stirs_at k n ≡ false
none_left k stirs from n =
    ap (λ (o : Option Family). in_family o (get k.ups n) n (get k.links (owner_of (get k.ups n) n))
    || is_from k.stirs_from (owner_of (get k.ups n) n)) stirs
    ∙ ap (λ (o : Option ℕ). is_from o (owner_of (get k.ups n) n)) from

-- no link is behind the greatest number of 64 bits
abbrev pub IsFromBehind : ℕ → Option ℕ → Type 0
IsFromBehind l None = 2 ^ 64 ≤ l + 1
IsFromBehind l (Some from) = from ≡ l + 1

pub behind_by : (l : ℕ) (o : Option ℕ) → SomeIff o (l + 1 < 2 ^ 64) (l + 1) → IsFromBehind l o
behind_by l None is = ⊎_elim (λ few. absurd (is few)) (λ most. most) (cases_lt (l + 1) (2 ^ 64))
behind_by l (Some from) is = is.1

-- one that stirs is of a link from there on
module _ (k : Links) (from : ℕ) (none : k.stirs ≡ None) (is : k.stirs_from ≡ Some from) where
  behind : (i : ℕ) → stirs_at k i ≡ true → from ≤ owner_of (get k.ups i) i
  behind i stirs =
      let owner = owner_of (get k.ups i) i in
      leb-true from owner
      (sym (ap (λ (o : Option Family). in_family o (get k.ups i) i (get k.links owner) || is_from k.stirs_from owner) none
      ∙ ap (λ (o : Option ℕ). is_from o owner) is) ∙ stirs)

  pub last_hears : IsFirstFrom k.links from None → Hears None k (record k { stirs_from = None })
  last_hears first f shows = (
    told_shows k f k.stirs None shows,
    λ i present stirs.
        let at = get k.ups i in
        absurd (false≢true (sym (ap is_some (first (owner_of at i) (behind i stirs))) ∙ owner_there k f shows i at refl present)),
  )

  module _ (l : ℕ) (old new : Link) (next : Option ℕ) (first : IsFirstFrom k.links from (Some l)) (found : get k.links l ≡ Some old)
      (all : (s : ℕ) → roused_on new s ≡ true) (same : new ≡ record old { roused = new.roused }) (on : IsFromBehind l next) where
    abbrev pub after : Links
    after = record k { links = insert k.links l new; stirs = Some (record { link = l; own = false }); stirs_from = next }

    after_is : insert k.links l new ≡ links_after k l old new.roused found
    after_is = ap (λ (w : Link). insert k.links l w) same

    pub first_only : OnlyHears k after
    first_only =
        only_told k (record k { links = insert k.links l new }) (Some (record { link = l; own = false })) next
        (subst (λ (m : Map). OnlyHears k (record k { links = m })) (sym after_is) (anew_hears k l old new.roused found))

    whole_is : (i : ℕ) (at : Option Place) → owner_of at i ≡ l → (stirs_by after at i ≡ true) ⊎ (Some l ≡ Some i)
    whole_is i None here = inr (ap Some (sym here))
    whole_is i (Some at) here =
        inl (or_left (in_family after.stirs (Some at) i (get after.links at.link)) (is_from next at.link)
        (and_from (l == at.link) (up_left at.stream (get after.links at.link)) (eq-eqb l at.link (sym here))
        (ap (λ (j : ℕ). up_left at.stream (get after.links j)) here ∙ ap (up_left at.stream) (put_here k.links l new)
        ∙ all at.stream)))

    above_by : (o : Option ℕ) → IsFromBehind l o → (owner : ℕ) → l < owner → owner < 2 ^ 64 → is_from o owner ≡ true
    above_by None most owner above few = absurd (omega (arith, most, above, few))
    above_by (Some next) next_is owner above few = le-leb next owner (omega (arith, next_is, above))

    by : (i : ℕ) (at : Option Place) → IsSome (get k.links (owner_of at i)) → owner_of at i < 2 ^ 64 → from ≤ owner_of at i
        → (stirs_by after at i ≡ true) ⊎ (Some l ≡ Some i)
    by i at some few low =
        ⊎_elim (λ (here : owner_of at i ≡ l). whole_is i at here)
        (λ apart. ⊎_elim
        (λ (below : owner_of at i < l). absurd (false≢true (sym (ap is_some (first.2 (owner_of at i) low below)) ∙ some)))
        (λ above. inl (or_right (in_family after.stirs at i (get after.links (owner_of at i))) (is_from next (owner_of at i))
        (above_by next on (owner_of at i) above few))) apart)
        (cases_order (owner_of at i) l)

    pub first_hears : Hears (Some l) k after
    first_hears f shows = (
      told_shows (record k { links = insert k.links l new }) f (Some (record { link = l; own = false })) next
          (subst (λ (m : Map). ShowsAll (record k { links = m }) f) (sym after_is) (anew_shows k l old new.roused found f shows)),
      λ i present stirs.
          let at = get k.ups i in
          let some = owner_there k f shows i at refl present in
          by i at some (shows.numbered (owner_of at i) some) (behind i stirs),
    )

  -- as the code comes to it
  pub roused_hears : (m : Links) (l : ℕ) (next : Option ℕ) → IsFirstFrom k.links from (Some l) → IsFromBehind l next → (o : Option Link)
      → get k.links l ≡ o → RousesAll o l (record k { stirs_from = None }) m
      → Hears (Some l) k (record m { stirs = Some (record { link = l; own = false }); stirs_from = next })
      × OnlyHears k (record m { stirs = Some (record { link = l; own = false }); stirs_from = next })
  roused_hears m l next first on None none told = absurd (false≢true (sym (ap is_some none) ∙ first.1))
  roused_hears m l next first on (Some old) found (new, all, same, m_is) =
      subst (λ (w : Links). Hears (Some l) k (record w { stirs = Some (record { link = l; own = false }); stirs_from = next })
      × OnlyHears k (record w { stirs = Some (record { link = l; own = false }); stirs_from = next })) (sym m_is)
      (first_hears l old new next first found all same on, first_only l old new next first found all same on)
