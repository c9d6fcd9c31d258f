-- What a call stirs.
use Rattle.std.proofs.Common.{◌≡◌, ◌≢◌, ◌⊎◌, inl, inr, ⊎_elim, ◌==◌, ◌||◌, ℕ, Bool, true, false, cond, nat_le, min, [], Option, Some, None, is_some, refl, ap, sym, ◌∙◌, subst, arith}
use Rattle.std.proofs.Math.Dec.{leb-zero}
use Rattle.std.proofs.lemmas.Bool.{cases_eq, or_cases, or_left, or_right, and_from, and_parts, eq-eqb, eqb-true, le-leb, leb-true, false≢true}
use Rattle.std.specs.FinMap.{get, insert, remove}
use Rattle.hb_link.specs.declared.link.Link.{Link}
use Rattle.hb_link.specs.Rousing.{Rouses, roused_on}
use Rattle.hb_map.proofs.Laws.{put_here, put_elsewhere, removed_here, removed_elsewhere, written_here, written_elsewhere}
use Rattle.hb_map.specs.Keyed.{written}
use Rattle.hb_world.specs.declared.act.Act.{Act}
use Rattle.hb_world.specs.declared.act.Act.TheVariants as act
use Rattle.hb_links.specs.declared.family.Family.{Family}
use Rattle.hb_links.specs.declared.links.Links.{Links}
use Rattle.hb_links.specs.declared.place.Place.{Place}
use Rattle.hb_links.specs.Busy.{is_from, least, whole, stirs_after, stirs_from_after, touched}
use Rattle.hb_links.specs.Calls.{wants_in, up_wants_in, wants_at, output_in, up_held_in, held_at}
use Rattle.hb_links.specs.Places.{place}
use Rattle.hb_links.specs.Stirring.{owner_of, up_left, is_left, in_family, stirs_by, stirs_at, StirsAt, Stirs, StirsBut, closed_in}
use Rattle.hb_links.specs.Walks.{finished}
use Rattle.hb_links.proofs.Showing.{Index, Map, links_with, written_same}

-- THE UPSTREAMS OF A LINK

-- What its code told of them behind a call
pub record Moves (s : ℕ) (o p : Option Link) : Type 0 where
  pub kept : up_left s o ≡ true → up_left s p ≡ true
  pub reads : up_wants_in s o ≡ 0 → (up_wants_in s p ≡ 0) ⊎ (up_left s p ≡ true)
  pub writes : up_held_in s o ≡ [] → (up_held_in s p ≡ []) ⊎ (up_left s p ≡ true)

abbrev pub MovesAll : Option Link → Option Link → Type 0
MovesAll o p = (s : ℕ) → Moves s o p

-- they were roused; the link is gone; all are roused; or nothing happened
pub some_moves : (o : Option Link) (old new : Link) → o ≡ Some old → Rouses old new → MovesAll o (Some new)
some_moves o old new is rouses s =
    let one = rouses s in
    subst (λ (o : Option Link). Moves s o (Some new)) (sym is)
    (record { kept = one.kept; reads = one.reads; writes = one.writes })

none_moves : (o : Option Link) → MovesAll o None
none_moves o s = record { kept = λ was. refl; reads = λ was. inl refl; writes = λ was. inl refl }

all_move : (o : Option Link) (new : Link) → ((s : ℕ) → roused_on new s ≡ true) → MovesAll o (Some new)
all_move o new all s = record { kept = λ was. all s; reads = λ was. inr (all s); writes = λ was. inr (all s) }

same_moves : (o p : Option Link) → p ≡ o → MovesAll o p
same_moves o p is s =
    subst (λ (q : Option Link). Moves s o q) (sym is)
    (record { kept = λ was. was; reads = λ was. inl was; writes = λ was. inl was })

-- A LINK IS TOUCHED

own_left : (own : Bool) (at : Option Place) (w : Option Link) → is_left own at w ≡ true → is_left true at w ≡ true
own_left own None w is = refl
own_left own (Some at) w is = is

above_least : (from : Option ℕ) (l m : ℕ) → is_from from m ≡ true → nat_le (least from l) m ≡ true
above_least None l m is = absurd (false≢true is)
above_least (Some n) l m is = let above = leb-true n m is in le-leb (min n l) m (omega (arith, above))

least_here : (from : Option ℕ) (l m : ℕ) → m ≡ l → nat_le (least from l) m ≡ true
least_here None l m same = le-leb l m (omega (arith, same))
least_here (Some n) l m same = le-leb (min n l) m (omega (arith, same))

-- of its own numbers those stir that are left of it
pub here_stirs : (stirs : Option Family) (from : Option ℕ) (at : Option Place) (l n : ℕ) (w : Option Link) → owner_of at n ≡ l
    → is_left true at w ≡ true
    → (in_family (stirs_after stirs l) at n w || is_from (stirs_from_after stirs from l) (owner_of at n)) ≡ true
here_stirs None from at l n w same left =
    or_left (in_family (Some (whole l)) at n w) (is_from from (owner_of at n))
    (and_from (l == owner_of at n) (is_left true at w) (eq-eqb l (owner_of at n) (sym same)) left)
here_stirs (Some f) from at l n w same left = by (f.link == l)
  where
    by : (b : Bool)
        → (in_family (cond b (Some (whole l)) (Some f)) at n w || is_from (cond b from (Some (least from l))) (owner_of at n)) ≡ true
    by true =
        or_left (in_family (Some (whole l)) at n w) (is_from from (owner_of at n))
        (and_from (l == owner_of at n) (is_left true at w) (eq-eqb l (owner_of at n) (sym same)) left)
    by false =
        or_right (in_family (Some f) at n w) (nat_le (least from l) (owner_of at n)) (least_here from l (owner_of at n) same)

-- one that stirred still does, where what is left of it still is
pub still_stirs : (stirs : Option Family) (from : Option ℕ) (at : Option Place) (l n : ℕ) (w v : Option Link)
    → ((own : Bool) → is_left own at w ≡ true → is_left own at v ≡ true)
    → (in_family stirs at n w || is_from from (owner_of at n)) ≡ true
    → (in_family (stirs_after stirs l) at n v || is_from (stirs_from_after stirs from l) (owner_of at n)) ≡ true
still_stirs None from at l n w v kept is = or_right (in_family (Some (whole l)) at n v) (is_from from (owner_of at n)) is
still_stirs (Some f) from at l n w v kept is = by (f.link == l) refl
  where
    by : (b : Bool) → (f.link == l) ≡ b
        → (in_family (cond b (Some (whole l)) (Some f)) at n v || is_from (cond b from (Some (least from l))) (owner_of at n)) ≡ true
    by true here =
        ⊎_elim
        (λ (one : in_family (Some f) at n w ≡ true).
        (let both = and_parts (f.link == owner_of at n) (is_left f.own at w) one in
        or_left (in_family (Some (whole l)) at n v) (is_from from (owner_of at n))
        (and_from (l == owner_of at n) (is_left true at v)
        (eq-eqb l (owner_of at n) (sym (eqb-true f.link l here) ∙ eqb-true f.link (owner_of at n) both.0))
        (own_left f.own at v (kept f.own both.1)))))
        (λ more. or_right (in_family (Some (whole l)) at n v) (is_from from (owner_of at n)) more)
        (or_cases (in_family (Some f) at n w) (is_from from (owner_of at n)) is)
    by false there =
        ⊎_elim
        (λ (one : in_family (Some f) at n w ≡ true).
        (let both = and_parts (f.link == owner_of at n) (is_left f.own at w) one in
        or_left (in_family (Some f) at n v) (nat_le (least from l) (owner_of at n))
        (and_from (f.link == owner_of at n) (is_left f.own at v) both.0 (kept f.own both.1))))
        (λ more. or_right (in_family (Some f) at n v) (nat_le (least from l) (owner_of at n)) (above_least from l (owner_of at n) more))
        (or_cases (in_family (Some f) at n w) (is_from from (owner_of at n)) is)

-- where so many of its tunnels took a place before
module _ (before : ℕ) where
  -- one link is changed, and with it the index of upstreams: it is touched
  module _ (k : Links) (l : ℕ) (links : Map) (ups : Index) (same : (j : ℕ) → j ≢ l → get links j ≡ get k.links j)
      (moves : MovesAll (get k.links l) (get links l)) where
    abbrev After : Links
    After = touched l before (links_with links ups k)

    moves_at : (j : ℕ) → MovesAll (get k.links j) (get links j)
    moves_at j = elim (cases_eq j l) [
      | inl here ↦ subst (λ (i : ℕ). MovesAll (get k.links i) (get links i)) (sym here) moves
      | inr apart ↦ same_moves (get k.links j) (get links j) (same j apart)
    ]

    left_kept : (n : ℕ) (at : Option Place) (own : Bool) → is_left own at (get k.links (owner_of at n)) ≡ true
        → is_left own at (get links (owner_of at n)) ≡ true
    left_kept n None own is = is
    left_kept n (Some at) own is = (moves_at at.link at.stream).kept is

    -- what is left of the link stirs
    pub touched_stirs : (n : ℕ) (at : Option Place) → owner_of at n ≡ l → is_left true at (get links (owner_of at n)) ≡ true
        → stirs_by After at n ≡ true
    touched_stirs n at here left = here_stirs k.stirs k.stirs_from at l n (get links (owner_of at n)) here left

    stirs_at_place : (n : ℕ) (at : Option Place) → get ups n ≡ at → get k.ups n ≡ at → StirsAt n k After
    stirs_at_place n at found was = record {
      kept = λ is.
          ap (λ (o : Option Place). stirs_by After o n) found
          ∙ still_stirs k.stirs k.stirs_from at l n (get k.links (owner_of at n)) (get links (owner_of at n)) (left_kept n at)
          (sym (ap (λ (o : Option Place). stirs_by k o n) was) ∙ is);
      reads = λ is. subst (λ (o : Option Place). (wants_at After o n ≡ 0) ⊎ (stirs_by After o n ≡ true)) (sym found)
          (reads at (sym (ap (λ (o : Option Place). wants_at k o n) was) ∙ is));
      writes = λ is. subst (λ (o : Option Place). (held_at After o n ≡ []) ⊎ (stirs_by After o n ≡ true)) (sym found)
          (writes at (sym (ap (λ (o : Option Place). held_at k o n) was) ∙ is));
    }
      where
        reads : (at : Option Place) → wants_at k at n ≡ 0 → (wants_at After at n ≡ 0) ⊎ (stirs_by After at n ≡ true)
        reads None none = elim (cases_eq n l) [
          | inl here ↦ inr (touched_stirs n None here refl)
          | inr apart ↦ inl (ap wants_in (same n apart) ∙ none)
        ]
        reads (Some p) none = elim (cases_eq p.link l) [
          | inl here ↦ ⊎_elim inl (λ left. inr (touched_stirs n (Some p) here left)) ((moves_at p.link p.stream).reads none)
          | inr apart ↦ inl (ap (up_wants_in p.stream) (same p.link apart) ∙ none)
        ]

        writes : (at : Option Place) → held_at k at n ≡ [] → (held_at After at n ≡ []) ⊎ (stirs_by After at n ≡ true)
        writes None none = elim (cases_eq n l) [
          | inl here ↦ inr (touched_stirs n None here refl)
          | inr apart ↦ inl (ap output_in (same n apart) ∙ none)
        ]
        writes (Some p) none = elim (cases_eq p.link l) [
          | inl here ↦ ⊎_elim inl (λ left. inr (touched_stirs n (Some p) here left)) ((moves_at p.link p.stream).writes none)
          | inr apart ↦ inl (ap (up_held_in p.stream) (same p.link apart) ∙ none)
        ]

    pub touch_stirs : (n : ℕ) → get ups n ≡ get k.ups n → StirsAt n k After
    touch_stirs n stays = stirs_at_place n (get k.ups n) stays refl

  -- with the same index
  pub links_stir : (k : Links) (l : ℕ) (links : Map) → ((j : ℕ) → j ≢ l → get links j ≡ get k.links j)
      → MovesAll (get k.links l) (get links l) → Stirs k (touched l before (links_with links k.ups k))
  links_stir k l links same moves n = touch_stirs k l links k.ups same moves n refl

  -- a link in the place of another one
  written_moves : (k : Links) (l : ℕ) (old new : Link) → get k.links l ≡ Some old → Rouses old new
      → MovesAll (get k.links l) (get (written k.links l new) l)
  written_moves k l old new is rouses =
      subst (λ (o : Option Link). MovesAll (get k.links l) o) (sym (written_here k.links l new (ap is_some is)))
      (some_moves (get k.links l) old new is rouses)

  pub told_stirs : (k n : Links) (links : Map) (l : ℕ) (old new : Link) → n ≡ touched l before (links_with links k.ups k)
      → links ≡ written k.links l new → get k.links l ≡ Some old → Rouses old new → Stirs k n
  told_stirs k n links l old new n_is links_is is rouses =
      subst (λ (m : Links). Stirs k m) (sym (n_is ∙ ap (λ (m : Map). touched l before (links_with m k.ups k)) links_is))
      (links_stir k l (written k.links l new) (written_elsewhere k.links l new) (written_moves k l old new is rouses))

  -- a new one, of which all upstreams are roused
  pub put_stirs : (k n : Links) (links : Map) (l : ℕ) (new : Link) → n ≡ touched l before (links_with links k.ups k)
      → links ≡ insert k.links l new → ((s : ℕ) → roused_on new s ≡ true) → Stirs k n
  put_stirs k n links l new n_is links_is all =
      subst (λ (m : Links). Stirs k m) (sym (n_is ∙ ap (λ (m : Map). touched l before (links_with m k.ups k)) links_is))
      (links_stir k l (insert k.links l new) (put_elsewhere k.links l new)
      (subst (λ (o : Option Link). MovesAll (get k.links l) o) (sym (put_here k.links l new)) (all_move (get k.links l) new all)))

  -- with an upstream more, that is roused
  pub born_stirs : (k n : Links) (links : Map) (ups : Index) (l s u : ℕ) → ((j : ℕ) → j ≢ l → get links j ≡ get k.links j)
      → MovesAll (get k.links l) (get links l) → up_left s (get links l) ≡ true → ups ≡ insert k.ups u (place l s)
      → n ≡ touched l before (links_with links ups k) → Stirs k n
  born_stirs k n links ups l s u same moves left ups_is n_is i =
      subst (λ (m : Links). StirsAt i k m) (sym n_is) (elim (cases_eq i u) [
        | inl here ↦
            let found : get ups i ≡ Some (place l s) =
            ap (λ (index : Index). get index i) ups_is ∙ ap (get (insert k.ups u (place l s))) here ∙ put_here k.ups u (place l s) in
            let is : stirs_by (touched l before (links_with links ups k)) (get ups i) i ≡ true =
            ap (λ (o : Option Place). stirs_by (touched l before (links_with links ups k)) o i) found
            ∙ touched_stirs k l links ups same moves i (Some (place l s)) refl left in
            record { kept = λ was. is; reads = λ was. inr is; writes = λ was. inr is }
        | inr apart ↦ touch_stirs k l links ups same moves i
            (ap (λ (index : Index). get index i) ups_is ∙ put_elsewhere k.ups u (place l s) i apart)
      ])

  -- the tunnel of an upstream more is told, in a link that is there or not
  pub dial_stirs : (k n : Links) (links : Map) (ups : Index) (l s u : ℕ) (old new : Link) → get k.links l ≡ Some old
      → links ≡ written k.links l new → Rouses old new → roused_on new s ≡ true → ups ≡ insert k.ups u (place l s)
      → n ≡ touched l before (links_with links ups k) → Stirs k n
  dial_stirs k n links ups l s u old new is links_is rouses roused ups_is n_is =
      let here : get links l ≡ Some new =
      ap (λ (m : Map). get m l) links_is ∙ written_here k.links l new (ap is_some is) in
      born_stirs k n links ups l s u (λ j apart. ap (λ (m : Map). get m j) links_is ∙ written_elsewhere k.links l new j apart)
      (subst (λ (o : Option Link). MovesAll (get k.links l) o) (sym here) (some_moves (get k.links l) old new is rouses))
      (ap (up_left s) here ∙ roused) ups_is n_is

  pub no_dial_stirs : (k n : Links) (links : Map) (ups : Index) (l s u : ℕ) → get k.links l ≡ None → links ≡ k.links
      → ups ≡ insert k.ups u (place l s) → n ≡ touched l before (links_with links ups k) → Stirs k n
  no_dial_stirs k n links ups l s u none links_is ups_is n_is =
      born_stirs k n links ups l s u (λ j apart. ap (λ (m : Map). get m j) links_is)
      (same_moves (get k.links l) (get links l) (ap (λ (m : Map). get m l) links_is))
      (ap (up_left s) (ap (λ (m : Map). get m l) links_is ∙ none)) ups_is n_is

  -- an act was given
  pub act_stirs : (k : Links) (l : ℕ) (due : Act) (links : Map) → ((j : ℕ) → j ≢ l → get links j ≡ get k.links j)
      → MovesAll (get k.links l) (get links l) → StirsBut (closed_in (Some due)) k (finished l due before (links_with links k.ups k))
  act_stirs k l (act.Dial to why) links same moves n apart = links_stir k l links same moves n
  act_stirs k l (act.Shut u) links same moves n apart = links_stir k l links same moves n
  act_stirs k l (act.Close u cause) links same moves n apart = by (u == l)
    where
      by : (b : Bool)
          → StirsAt n k (touched l before (cond b (links_with (remove links l) k.ups k) (links_with links (remove k.ups u) k)))
      by true =
          links_stir k l (remove links l) (λ j other. removed_elsewhere links l j other ∙ same j other)
          (subst (λ (o : Option Link). MovesAll (get k.links l) o) (sym (removed_here links l)) (none_moves (get k.links l))) n
      by false =
          touch_stirs k l links (remove k.ups u) same moves n
          (removed_elsewhere k.ups u n (λ is. apart (ap Some (sym is))))

  pub told_act_stirs : (k : Links) (l : ℕ) (due : Act) (links : Map) (old new : Link) → links ≡ written k.links l new
      → get k.links l ≡ Some old → Rouses old new → StirsBut (closed_in (Some due)) k (finished l due before (links_with links k.ups k))
  told_act_stirs k l due links old new links_is is rouses =
      act_stirs k l due links (λ j apart. ap (λ (m : Map). get m j) links_is ∙ written_elsewhere k.links l new j apart)
      (subst (λ (m : Map). MovesAll (get k.links l) (get m l)) (sym links_is) (written_moves k l old new is rouses))

-- NONE IS TOUCHED

-- all stir
pub all_stir : (k n : Links) → n.stirs_from ≡ Some 0 → Stirs k n
all_stir k n from i = record { kept = λ was. is; reads = λ was. inr is; writes = λ was. inr is }
  where
    is : stirs_at n i ≡ true
    is = or_right (in_family n.stirs (get n.ups i) i (get n.links (owner_of (get n.ups i) i))) (is_from n.stirs_from (owner_of (get n.ups i) i))
        (ap (λ (from : Option ℕ). is_from from (owner_of (get n.ups i) i)) from ∙ leb-zero (owner_of (get n.ups i) i))

-- the same links stand, and the same stir
pub same_stirs : (k n : Links) → ((j : ℕ) → get n.links j ≡ get k.links j) → n.ups ≡ k.ups → n.stirs ≡ k.stirs
    → n.stirs_from ≡ k.stirs_from → Stirs k n
same_stirs k n links ups stirs from i = record {
  kept = λ was.
      ap (λ (w : Option Link). in_family n.stirs (get n.ups i) i w || is_from n.stirs_from (owner_of (get n.ups i) i))
      (links (owner_of (get n.ups i) i))
      ∙ ap (λ (o : Option Family). in_family o (get n.ups i) i (get k.links (owner_of (get n.ups i) i))
      || is_from n.stirs_from (owner_of (get n.ups i) i)) stirs
      ∙ ap (λ (o : Option ℕ). in_family k.stirs (get n.ups i) i (get k.links (owner_of (get n.ups i) i))
      || is_from o (owner_of (get n.ups i) i)) from
      ∙ ap (λ (at : Option Place). stirs_by k at i) at ∙ was;
  reads = λ was. inl (wants (get n.ups i) ∙ ap (λ (at : Option Place). wants_at k at i) at ∙ was);
  writes = λ was. inl (held (get n.ups i) ∙ ap (λ (at : Option Place). held_at k at i) at ∙ was);
}
  where
    at : get n.ups i ≡ get k.ups i
    at = ap (λ (index : Index). get index i) ups

    wants : (o : Option Place) → wants_at n o i ≡ wants_at k o i
    wants None = ap wants_in (links i)
    wants (Some p) = ap (up_wants_in p.stream) (links p.link)

    held : (o : Option Place) → held_at n o i ≡ held_at k o i
    held None = ap output_in (links i)
    held (Some p) = ap (up_held_in p.stream) (links p.link)

pub none_stirs : (k : Links) → Stirs k k
none_stirs k = same_stirs k k (λ j. refl) refl refl refl

-- the act of one link, where none is due
pub idle_stirs : (k n : Links) (links : Map) (l : ℕ) (old new : Link) → get k.links l ≡ Some old → new ≡ old
    → links ≡ written k.links l new → n ≡ record k { links = links } → Stirs k n
idle_stirs k n links l old new is same links_is n_is =
    subst (λ (m : Links). Stirs k m) (sym n_is)
    (same_stirs k (record k { links = links }) (written_same k links l old new is same links_is) refl refl refl)

-- one change behind another
pub stirs_then : (a b c : Links) (n : ℕ) → StirsAt n a b → StirsAt n b c → StirsAt n a c
stirs_then a b c n first more = record {
  kept = λ was. more.kept (first.kept was);
  reads = λ was. ⊎_elim more.reads (λ is. inr (more.kept is)) (first.reads was);
  writes = λ was. ⊎_elim more.writes (λ is. inr (more.kept is)) (first.writes was);
}

pub stirs_all_then : (a b c : Links) → Stirs a b → Stirs b c → Stirs a c
stirs_all_then a b c first more n = stirs_then a b c n (first n) (more n)

pub stirs_but_then : (a b c : Links) (out : Option ℕ) → Stirs a b → StirsBut out b c → StirsBut out a c
stirs_but_then a b c out first more n apart = stirs_then a b c n (first n) (more n apart)

pub any_stirs : (a b : Links) → StirsBut None a b → Stirs a b
any_stirs a b but n = but n none
  where
    none : None ≢ Some n
    none is = cc is
