-- An entry on the link of a number is told to that link, or to the one whose upstream it is.
use Rattle.std.specs.Prelude.{⊤}
use Rattle.std.proofs.Common.{◌≡◌, ℕ, List, [], Option, Some, None, is_some, refl, ap, sym, ◌∙◌, subst}
use Rattle.std.specs.FinMap.{get, insert}
use Rattle.hb_inbound.specs.Part as part
use Rattle.hb_inbound.specs.Part.{Part, notes}
use Rattle.hb_held.specs.Held.{Resources}
use Rattle.hb_inbound.specs.Runs.{Local}
use Rattle.hb_link.specs.Calls as calls
use Rattle.hb_link.specs.Counting.{CountsPlaces, uncounted as uncounted_on}
use Rattle.hb_link.proofs.Noted.{makes_none}
use Rattle.hb_link.specs.Noted.{Told}
use Rattle.hb_link.specs.Reaches as link
use Rattle.hb_link.specs.declared.link.Link.{Link}
use Rattle.hb_proxy.specs.Points.{Point, of_link}
use Rattle.hb_map.proofs.Laws.{written_where_some}
use Rattle.hb_map.specs.Keyed.{written}
use Rattle.hb_proxy.specs.Runs.{Steps}
use Rattle.hb_world.specs.declared.entry.Entry.{Entry}
use Rattle.hb_world.specs.declared.entry.Entry.TheVariants as e
use Rattle.hb_links.specs.declared.links.Links.{Links}
use Rattle.hb_links.specs.declared.place.Place.{Place}
use Rattle.hb_links.specs.Busy.{touched}
use Rattle.hb_links.specs.Calls.{point_by, point_for, counting, Enters, Takes}
use Rattle.hb_links.specs.Load.{LeavesPlaces, others_of}
use Rattle.hb_links.specs.Reaches.{Meets, on_links, uncounted}
use Rattle.hb_links.proofs.Freeing.{beside_step, places_free}
use Rattle.hb_links.proofs.Showing.{Map, links_with, lifts, lifts_free}
use Rattle.hb_links.proofs.Staying.{KeepsOpen, up_open, came_open}
use Rattle.hb_links.proofs.Ups.{LeavesUp}

-- whichever point an entry is
module _ (k : Links) (n : ℕ) (z : Entry) (q : Point) (is : point_for k n z ≡ Some q) where
  pub up_point : (at : Place) → get k.ups n ≡ Some at → q ≡ of_link at.link (part.up at.stream z)
  up_point at found =
      let both : Some (of_link at.link (part.up at.stream z)) ≡ Some q =
      sym (ap (λ (o : Option Place). point_by o (get k.links n) n z) found) ∙ is in
      cc

  pub own_point : (old : Link) → get k.ups n ≡ None → get k.links n ≡ Some old → q ≡ of_link n (part.entry z)
  own_point old none found =
      let both : Some (of_link n (part.entry z)) ≡ Some q =
      sym (ap (λ (o : Option Place). point_by o (get k.links n) n z) none
      ∙ ap (λ (o : Option Link). point_by None o n z) found) ∙ is in
      cc

  pub no_point : get k.ups n ≡ None → get k.links n ≡ None → ⊥
  no_point none nothing =
      let both : None ≡ Some q =
      sym (ap (λ (o : Option Place). point_by o (get k.links n) n z) none
      ∙ ap (λ (o : Option Link). point_by None o n z) nothing) ∙ is in
      cc

-- bytes that came on an upstream make no note
quiet : (G : link.Guard) (P : Local → Type 0) (p : Part) (old new : Link) (told : Told) → link.Meets G P p old (Some []) new (Some [])
    → link.Meets G P p old told new told
quiet G P p old new told meets start before a b stands shows holds step =
    let one = meets start before a b stands shows holds step in (
      one.0,
      record {
        parts = one.1.parts;
        reached = one.1.reached;
        leads = one.1.leads;
        shows = one.1.shows;
        noted = makes_none (notes one.1.parts) one.1.noted told;
      },
    )

-- where so many of its tunnels took a place before
module _ (before : ℕ) where
  -- of a tunnel whose upstream it is; of a link
  pub up_enters : (k : Links) (n : ℕ) (z : Entry) (at : Place) (old new : Link) (told now : Told) → get k.ups n ≡ Some at
      → get k.links at.link ≡ Some old → LeavesUp (part.up at.stream z) → calls.UpEnters at.stream z old told new now
      → Enters n z k told (touched at.link before (links_with (insert k.links at.link new) k.ups k)) now
  up_enters k n z at old new told now found is leaves enters q point =
      subst (λ (w : Point). Meets uncounted (λ g m. ⊤) w k told
      (touched at.link before (links_with (insert k.links at.link new) k.ups k)) now)
      (sym (up_point k n z q point at found))
      (lifts_free before (λ a. ⊤) (λ g m. ⊤) k at.link old new told now (λ i. part.up at.stream z) is leaves
      (up_open at.stream z) (λ g x holds. tt) enters)

  pub own_enters : (k : Links) (n : ℕ) (z : ℕ → Entry) (old new : Link) (told now : Told) → KeepsOpen (part.entry (z n))
      → get k.ups n ≡ None → get k.links n ≡ Some old → calls.Enters (z old.number) old told new now
      → Enters n (z n) k told (touched n before (links_with (insert k.links n new) k.ups k)) now
  own_enters k n z old new told now keeps none is enters q point =
      subst (λ (w : Point). Meets uncounted (λ g m. ⊤) w k told (touched n before (links_with (insert k.links n new) k.ups k)) now)
      (sym (own_point k n (z n) q point old none is))
      (lifts_free before (λ a. ⊤) (λ g m. ⊤) k n old new told now (λ i. part.entry (z i)) is tt keeps (λ g x holds. tt) enters)

  -- the same, as the code comes to it
  pub changed : (k n : Links) (links : Map) (l : ℕ) (old new : Link) → n ≡ touched l before (links_with links k.ups k)
      → links ≡ written k.links l new → get k.links l ≡ Some old → n ≡ touched l before (links_with (insert k.links l new) k.ups k)
  changed k n links l old new n_is links_is is =
      n_is ∙ ap (λ (m : Map). touched l before (links_with m k.ups k)) (links_is ∙ written_where_some k.links l new (ap is_some is))

  pub up_told : (k n : Links) (links : Map) (u : ℕ) (z : Entry) (at : Place) (old new : Link) (told now : Told)
      → n ≡ touched at.link before (links_with links k.ups k) → links ≡ written k.links at.link new → get k.ups u ≡ Some at
      → get k.links at.link ≡ Some old → LeavesUp (part.up at.stream z) → calls.UpEnters at.stream z old told new now
      → Enters u z k told n now
  up_told k n links u z at old new told now n_is links_is found is leaves enters =
      subst (λ (m : Links). Enters u z k told m now) (sym (changed k n links at.link old new n_is links_is is))
      (up_enters k u z at old new told now found is leaves enters)

  pub own_told : (k n : Links) (links : Map) (l : ℕ) (z : ℕ → Entry) (old new : Link) (told now : Told) → KeepsOpen (part.entry (z l))
      → n ≡ touched l before (links_with links k.ups k) → links ≡ written k.links l new → get k.ups l ≡ None
      → get k.links l ≡ Some old → calls.Enters (z old.number) old told new now → Enters l (z l) k told n now
  own_told k n links l z old new told now keeps n_is links_is none is enters =
      subst (λ (m : Links). Enters l (z l) k told m now) (sym (changed k n links l old new n_is links_is is))
      (own_enters k l z old new told now keeps none is enters)

  -- bytes came on the link of a number
  pub up_takes : (k n : Links) (links : Map) (u : ℕ) (bytes : List ℕ) (at : Place) (old new : Link) (told : Told)
      (held : Resources) (others limit : ℕ) → n ≡ touched at.link before (links_with links k.ups k) → links ≡ written k.links at.link new
      → get k.ups u ≡ Some at → get k.links at.link ≡ Some old → calls.UpEnters at.stream (e.Came u bytes) old (Some []) new (Some [])
      → Takes held others limit u bytes k told n told
  up_takes k n links u bytes at old new told held others limit n_is links_is found is enters q point all =
      subst (λ (w : Point). Meets (counting others limit w) (λ g m. (m.control.held ≡ held) × LeavesPlaces limit g m) w k told n told)
      (sym (up_point k u (e.Came u bytes) q point at found))
      (subst (λ (m : Links). Meets uncounted (λ g x. (x.control.held ≡ held) × LeavesPlaces limit g x)
      (of_link at.link (part.up at.stream (e.Came u bytes))) k told m told)
      (sym (changed k n links at.link old new n_is links_is is))
      (lifts_free before (λ a. ⊤) (λ g x. (x.control.held ≡ held) × LeavesPlaces limit g x) k at.link old new told told
      (λ i. part.up at.stream (e.Came u bytes)) is (λ v. refl) (up_open at.stream (e.Came u bytes)) (λ g x holds. tt)
      (quiet uncounted_on (λ a. ⊤) (part.up at.stream (e.Came u bytes)) old new told enters)))

  pub own_takes : (k n : Links) (links : Map) (l : ℕ) (bytes : List ℕ) (old new : Link) (told now : Told) (held : Resources)
      (limit : ℕ) → n ≡ touched l before (links_with links k.ups k) → links ≡ written k.links l new → get k.ups l ≡ None
      → get k.links l ≡ Some old → calls.Takes held (others_of k l) limit bytes old told new now
      → Takes held (others_of k l) limit l bytes k told n now
  own_takes k n links l bytes old new told now held limit n_is links_is none is enters q point all =
      let others = others_of k l in
      subst (λ (w : Point). Meets (counting others limit w) (λ g m. (m.control.held ≡ held) × LeavesPlaces limit g m) w k told n now)
      (sym (own_point k l (e.Came l bytes) q point old none is))
      (subst (λ (m : Links). Meets (on_links (CountsPlaces others limit)) (λ g x. (x.control.held ≡ held) × LeavesPlaces limit g x)
      (of_link l (part.entry (e.Came l bytes))) k told m now)
      (sym (changed k n links l old new n_is links_is is))
      (lifts before (CountsPlaces others limit) (λ a. a.held ≡ held) (λ g x. (x.control.held ≡ held) × LeavesPlaces limit g x) k l old new
      told now (λ i. part.entry (e.Came i bytes)) is tt (came_open l bytes) (λ g x holds. holds.0)
      (λ g x y shows holds steps. places_free g l limit k x y shows all (shows.numbered l (ap is_some is)) holds.1
      (beside_step g x y l (part.entry (e.Came l bytes)) steps))
      enters))

-- an upstream alone opens
pub none_opens : (k m : Links) (n : ℕ) (told now : Told) → get k.ups n ≡ None → Enters n (e.Opened n) k told m now
none_opens k m n told now none q point = by (get k.links n) refl
  where
    by : (o : Option Link) → get k.links n ≡ o → Meets uncounted (λ g x. ⊤) q k told m now
    by None nothing = absurd (no_point k n (e.Opened n) q point none nothing)
    by (Some old) found = λ g x y points stands shows holds steps.
        absurd (subst (λ (w : Point). Steps g x w y) (own_point k n (e.Opened n) q point old none found) steps).1.0
