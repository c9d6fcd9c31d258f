-- Links are accepted at the doors.
use Rattle.std.proofs.Common.{◌≡◌, ◌≢◌, ◌⊎◌, inl, inr, ⊎_elim, ℕ, ◌+◌, not, Bool, true, false, cond, List, [], ◌∷◌, ◌++◌, Some, None, refl, ap, sym, ◌∙◌, subst, arith}
use Rattle.std.proofs.lemmas.Bool.{cases_eq, eq-eqb}
use Rattle.std.specs.Prelude.{nat_lt}
use Rattle.hb_base.specs.declared.cause.Cause.TheVariants as cause
use Rattle.hb_base.specs.declared.door.Door.{Door}
use Rattle.hb_base.specs.declared.door.Door.TheVariants as door
use Rattle.hb_base.specs.declared.note.Note.{Note}
use Rattle.hb_captured.specs.Captured as captured
use Rattle.hb_captured.specs.Captured.{Captured}
use Rattle.hb_captured.specs.Part as plain
use Rattle.hb_captured.specs.Runs.{Captures, next_link}
use Rattle.hb_inbound.specs.Part as part
use Rattle.hb_inbound.specs.Runs as inbound
use Rattle.hb_link.proofs.Noted.{makes_none, takes_none}
use Rattle.hb_link.specs.Counting.{taking_in}
use Rattle.hb_link.specs.Noted.{Told, Takes}
use Rattle.hb_links.specs.Calls as links
use Rattle.hb_links.specs.Reaches as links_reach
use Rattle.hb_links.proofs.Sweeping.{inner_outward}
use Rattle.hb_links.specs.Load.{Recounts}
use Rattle.hb_links.specs.Reaches.{on_links}
use Rattle.hb_links.specs.Shows.{ShowsAll}
use Rattle.hb_links.specs.Stirring as links_stirring
use Rattle.hb_links.specs.declared.links.Links.{Links}
use Rattle.hb_model.specs.Machine.{Machine as Control}
use Rattle.hb_model.specs.declared.config.NodeConfig.{NodeConfig}
use Rattle.hb_node.specs.State.{Shows}
use Rattle.hb_proxy.proofs.Doors.{doors_tell_none}
use Rattle.hb_proxy.specs.Doors.{is_at_door}
use Rattle.hb_proxy.specs.Load.{LinksFull}
use Rattle.hb_proxy.specs.Machine.{Machine, Outward, outward, with_part, with_plain}
use Rattle.hb_proxy.specs.Notes.{notes, note_in}
use Rattle.hb_proxy.specs.Points.{Point, of_link, of_plain, entry_in}
use Rattle.hb_proxy.specs.Runs.{Steps}
use Rattle.hb_proxy.specs.Seen.{IsFresh}
use Rattle.hb_relays.proofs.Entering.{quiet_undue}
use Rattle.hb_relays.proofs.Lifted.{there}
use Rattle.hb_relays.specs.Calls as relays
use Rattle.hb_relays.specs.Reaches as relays_reach
use Rattle.hb_relays.specs.Shows.{ShowsRelays}
use Rattle.hb_relays.specs.Stirring as relays_stirring
use Rattle.hb_relays.specs.declared.relays.Relays.{Relays}
use Rattle.hb_turns.specs.Shown as shown
use Rattle.hb_turns.specs.Shown.{Tells, MayCome}
use Rattle.hb_world.specs.Trace.{births}
use Rattle.hb_world.specs.declared.entry.Entry.{Entry}
use Rattle.hb_world.specs.declared.entry.Entry.TheVariants as e
use Rattle.hb_whole.specs.Queue.{told}
use Rattle.hb_whole.specs.Sight.{has_room, places_of, shown_of}
use Rattle.hb_whole.specs.Stands.{Stands, WaitsAreFew}
use Rattle.hb_whole.specs.declared.proxy.Proxy.{Proxy}
use Rattle.hb_whole.specs.declared.side.Side.{Side}
use Rattle.hb_whole.proofs.Free.{Free, free, goes_on as runs_on}
use Rattle.hb_whole.proofs.Keeping.{none_few}
use Rattle.hb_whole.proofs.Leading.{Follows, links_follow}
use Rattle.hb_whole.proofs.Limited.{limited_then, places_are, room_is}
use Rattle.hb_whole.proofs.LinkMay.{free_link, link_steps}
use Rattle.hb_whole.proofs.PlainMay.{free_plain}
use Rattle.hb_whole.proofs.Routes.{seen_of}
use Rattle.hb_whole.proofs.Stirring.{SideStirs, links_stir, relays_stir}
use Rattle.hb_whole.proofs.Telling.{with_side, follows_stands, going_ends, side_stirs}

-- THE NEXT NUMBER

pub next_number : (taken : List Note) (p : Proxy) (trace : List Entry) (s : Stands taken p trace) (l : ℕ) → l ≡ births trace + 1
    → l ≡ s.machine.born + 1
next_number taken p trace s l is =
    is ∙ ap (λ (n : ℕ). n + 1) (sym (doors_tell_none trace).births ∙ (seen_of taken p trace s).births)

pub fresh_at : (taken : List Note) (p : Proxy) (trace : List Entry) (s : Stands taken p trace) (l : ℕ) → l ≡ s.machine.born + 1
    → IsFresh s.machine l
fresh_at taken p trace s l next = (seen_of taken p trace s).fresh l (omega (arith, next))

-- calls that make no note
abbrev pub quiet_links : (G : links_reach.Guard) (P : NodeConfig → Machine → Type 0) (point : Point) (old new : Links) (have : Told)
    → links_reach.Meets G P point old (Some []) new (Some []) → links_reach.Meets G P point old have new have
quiet_links G P point old new have meets g x y points stands shows holds steps =
    let f = meets g x y points stands shows holds steps in
    record { more = f.more; reached = f.reached; leads = f.leads; shows = f.shows; noted = makes_none (notes f.more) f.noted have }

pub quiet_relays : (P : Machine → Type 0) (point : Point) (old new : Relays) (have : Told)
    → relays_reach.Meets P point old (Some []) new (Some []) → relays_reach.Meets P point old have new have
quiet_relays P point old new have meets g x y points stands shows holds steps =
    let f = meets g x y points stands shows holds steps in
    record { more = f.more; reached = f.reached; leads = f.leads; shows = f.shows; noted = makes_none (notes f.more) f.noted have }

-- A LINK IS ACCEPTED

-- an entry of a link or an upstream is told, with what follows by itself
pub door_told : (taken : List Note) (p : Proxy) (side : Side) (trace : List Entry) (z : Entry) (s : Stands taken p trace) (point : Point)
    (next : Machine) → p.ends_for ≡ None → Steps p.control.config s.machine point next → next.control ≡ s.machine.control
    → is_at_door z ≡ false → entry_in point ≡ z ∷ [] → note_in point ≡ [] → Recounts p.side.links side.links
    → (follows : Follows p.control.config next (told p.side.notes) side)
    → (WaitsAreFew p.control.config s.machine → WaitsAreFew p.control.config follows.reached)
    → ((l : ℕ) → SideStirs l p.side side)
    → Stands taken (with_side side p) (trace ++ z ∷ []) × shown.Stirs (trace ++ z ∷ []) (shown_of p) (shown_of (with_side side p))
door_told taken p side trace z s point next going steps control door one none counts follows few stirs = (
  follows_stands taken p (with_side side p) trace z s point next refl steps follows door one none
      (subst (λ (c : Control). Shows p.control c) (sym control) s.control) refl
      (limited_then p (with_side side p) s.machine follows.reached refl refl counts few s.limited)
      (going_ends p next side going (ap (λ (c : Control). c.over) control ∙ runs_on p s.machine s.ends going) follows) refl,
  side_stirs p side (trace ++ z ∷ []) stirs,
)

-- where all was quiet none waits, where the plain links are as they were
quiet_few : (g : NodeConfig) (x y : Machine) → Free x → ((l : ℕ) → (y.plain l).stage ≡ captured.due → y.plain l ≡ x.plain l)
    → WaitsAreFew g y
quiet_few g x y all same =
    none_few g y (λ l is. quiet_undue (x.plain l) (all.plain l) (ap (λ (c : Captured). c.stage) (sym (same l is)) ∙ is))

-- a link is accepted at the inbound door
module _ (taken : List Note) (p : Proxy) (new : Links) (l : ℕ) (trace : List Entry) (s : Stands taken p trace)
    (may : MayCome (shown_of p) trace (e.Accepted l door.Inbound)) where
  abbrev z : Entry
  z = e.Accepted l door.Inbound

  abbrev point : Point
  point = of_link l (part.entry z)

  abbrev next : Machine
  next = with_part l (part.entry z) (inbound.entered z (s.machine.inbound l)) s.machine

  accept_steps : Steps p.control.config s.machine point next
  accept_steps =
      let all = free taken p trace s may.0 in
      let number = next_number taken p trace s l may.1 in
      link_steps p.control.config s.machine l z (refl, (fresh_at taken p trace s l number).link, refl)
      (free_link s.machine l z all (number, all.control.goes))

  links_told : (follows : Follows p.control.config next (told p.side.notes) (record p.side { links = new }))
      → follows.reached.plain ≡ s.machine.plain → Recounts p.side.links new → links_stirring.Stirs p.side.links new
      → Stands taken (with_side (record p.side { links = new }) p) (trace ++ z ∷ [])
      × shown.Stirs (trace ++ z ∷ []) (shown_of p) (shown_of (with_side (record p.side { links = new }) p))
  links_told follows same counts stirs =
      door_told taken p (record p.side { links = new }) trace z s point next may.0.0 accept_steps refl refl refl refl counts follows
      (λ few. quiet_few p.control.config s.machine follows.reached (free taken p trace s may.0)
      (λ k is. ap (λ (f : ℕ → Captured). f k) same))
      (λ k. links_stir p.side (record p.side { links = new }) k refl (stirs k))

  accepted_told : has_room p ≡ true → links.Begins l p.side.links new → Recounts p.side.links new
      → links_stirring.Stirs p.side.links new
      → Stands taken (with_side (record p.side { links = new }) p) (trace ++ z ∷ [])
      × shown.Stirs (trace ++ z ∷ []) (shown_of p) (shown_of (with_side (record p.side { links = new }) p))
  accepted_told room begins counts stirs =
      let g = p.control.config in
      let G = on_links taking_in in
      let meets = quiet_links G (λ c m. LinksFull false c m) point p.side.links new (told p.side.notes) begins in
      let may_be = subst (λ (b : Bool). LinksFull (not b) g s.machine) room (room_is taken p trace s (free taken p trace s may.0)) in
      let behind = meets g s.machine next s.points s.run s.links may_be accept_steps in
      links_told (links_follow g next (told p.side.notes) (record p.side { links = new }) G s.relays behind)
      (ap (λ (out : Outward). out.plain) (inner_outward G g next behind.reached behind.more behind.leads)) counts stirs

  away_told : has_room p ≡ false → links.TurnsAway l p.side.links new → Recounts p.side.links new
      → links_stirring.Stirs p.side.links new
      → Stands taken (with_side (record p.side { links = new }) p) (trace ++ z ∷ [])
      × shown.Stirs (trace ++ z ∷ []) (shown_of p) (shown_of (with_side (record p.side { links = new }) p))
  away_told room away counts stirs =
      let g = p.control.config in
      let full = subst (λ (b : Bool). LinksFull (not b) g s.machine) room (room_is taken p trace s (free taken p trace s may.0)) in
      let did = away g s.machine next s.points s.run s.links full accept_steps in
      links_told (record {
        more = of_link l part.crowded ∷ [];
        reached = did.0;
        leads = (inr refl, did.0, did.1, refl);
        links = did.2;
        relays = subst (λ (w : Machine). ShowsRelays g p.side.relays (outward w)) (sym did.1.3) s.relays;
        noted = takes_none (told p.side.notes);
      }) (ap (λ (w : Machine). w.plain) did.1.3) counts stirs

pub accepted_tells : (p : Proxy) (new : Links) (l : ℕ) → has_room p ≡ true → links.Begins l p.side.links new
    → Recounts p.side.links new → links_stirring.Stirs p.side.links new
    → Tells Stands shown_of (e.Accepted l door.Inbound) p (with_side (record p.side { links = new }) p)
accepted_tells p new l room begins counts stirs taken trace s may = accepted_told taken p new l trace s may room begins counts stirs

-- and turned away
pub turned_away_tells : (p : Proxy) (new : Links) (l : ℕ) → has_room p ≡ false → links.TurnsAway l p.side.links new
    → Recounts p.side.links new → links_stirring.Stirs p.side.links new
    → Tells Stands shown_of (e.Accepted l door.Inbound) p (with_side (record p.side { links = new }) p)
turned_away_tells p new l room away counts stirs taken trace s may = away_told taken p new l trace s may room away counts stirs

-- plain links are accepted at the plain door and at the outbound one
pub captures_at : (d : Door) → (d ≡ door.Plain) ⊎ (d ≡ door.Outbound) → Captures d
captures_at d (inl is) = subst (λ (w : Door). Captures w) (sym is) tt
captures_at d (inr is) = subst (λ (w : Door). Captures w) (sym is) tt

-- what is made of one behind its birth: it is taken in, or turned away
abbrev pub IsBirth : plain.Part → Type 0
IsBirth q = (q ≡ plain.crowded) ⊎ (q ≡ plain.welcomed)

birth_notes : (l : ℕ) (q : plain.Part) → IsBirth q → notes (of_plain l q ∷ []) ≡ []
birth_notes l q (inl is) = ap (λ (w : plain.Part). notes (of_plain l w ∷ [])) is
birth_notes l q (inr is) = ap (λ (w : plain.Part). notes (of_plain l w ∷ [])) is

birth_undue : (x : Captured) (q : plain.Part) → IsBirth q → x.stage ≡ captured.arriving → (next_link x q).stage ≢ captured.due
birth_undue x q (inl is) arrives due =
    let no : captured.over cause.NoRoom ≡ captured.due =
    sym (ap (λ (w : plain.Part). (next_link x w).stage) is ∙ ap (λ (s : captured.Stage). captured.ends_by cause.NoRoom s) arrives) ∙ due in
    cc no
birth_undue x q (inr is) arrives due =
    let no : captured.fronting ≡ captured.due = sym (ap (λ (w : plain.Part). (next_link x w).stage) is) ∙ due in cc no

-- and one is so
module _ (taken : List Note) (p : Proxy) (new : Relays) (d : Door) (captures : Captures d) (l : ℕ) (q : plain.Part) (birth : IsBirth q)
    (trace : List Entry) (s : Stands taken p trace) (may : MayCome (shown_of p) trace (e.Accepted l d)) where
  abbrev plain_z : Entry
  plain_z = e.Accepted l d

  abbrev plain_point : Point
  plain_point = of_plain l (plain.entry plain_z)

  abbrev plain_next : Machine
  plain_next = with_plain l (plain.entry plain_z) (captured.entered plain_z (s.machine.plain l)) s.machine

  all : Free s.machine
  all = free taken p trace s may.0

  plain_steps : Steps p.control.config s.machine plain_point plain_next
  plain_steps =
      let number = next_number taken p trace s l may.1 in (
        (refl, (fresh_at taken p trace s l number).plain, captures),
        free_plain s.machine l plain_z all (number, all.control.goes),
        refl,
      )

  born_told : (full : Bool) → full ≡ not (nat_lt p.side.links.taken (places_of p)) → relays.IsBorn q full d l p.side.relays new
      → relays_stirring.Stirs p.side.relays new
      → Stands taken (with_side (record p.side { relays = new }) p) (trace ++ plain_z ∷ [])
      × shown.Stirs (trace ++ plain_z ∷ []) (shown_of p) (shown_of (with_side (record p.side { relays = new }) p))
  born_told full is born stirs =
      let g = p.control.config in
      let did = born g s.machine plain_next s.points s.run s.relays (places_are taken p trace s all full is) plain_steps in
      let arrives : (plain_next.plain l).stage ≡ captured.arriving =
      ap (λ (b : Bool). (cond b (captured.entered plain_z (s.machine.plain l)) (s.machine.plain l)).stage) (eq-eqb l l refl) in
      let here : did.0.plain l ≡ next_link (plain_next.plain l) q =
      ap (λ (w : Machine). w.plain l) did.1.2
      ∙ ap (λ (b : Bool). cond b (next_link (plain_next.plain l) q) (plain_next.plain l)) (eq-eqb l l refl) in
      let follows : Follows g plain_next (told p.side.notes) (record p.side { relays = new }) = record {
        more = of_plain l q ∷ [];
        reached = did.0;
        leads = (inr birth, did.0, did.1, refl);
        links = subst (λ (w : Machine). ShowsAll p.side.links w.inbound) (sym did.1.2) s.links;
        relays = did.2;
        noted = subst (λ (ns : List Note). Takes (told p.side.notes) ns (told p.side.notes)) (sym (birth_notes l q birth))
            (takes_none (told p.side.notes));
      } in
      door_told taken p (record p.side { relays = new }) trace plain_z s plain_point plain_next may.0.0 plain_steps refl refl refl refl
      (λ counted. counted) follows
      (λ few. quiet_few g s.machine did.0 all
      (λ k due. ⊎_elim
      (λ same. absurd (birth_undue (plain_next.plain l) q birth arrives
      (ap (λ (c : Captured). c.stage) (sym here) ∙ subst (λ (i : ℕ). (did.0.plain i).stage ≡ captured.due) same due)))
      (λ apart. ap (λ (w : Machine). w.plain k) did.1.2 ∙ there plain_next l q (next_link (plain_next.plain l) q) k apart
      ∙ there s.machine l (plain.entry plain_z) (captured.entered plain_z (s.machine.plain l)) k apart)
      (cases_eq k l)))
      (λ k. relays_stir p.side (record p.side { relays = new }) k refl (stirs k))

pub plain_accepted_tells : (p : Proxy) (new : Relays) (d : Door) → Captures d → (l : ℕ)
    → nat_lt p.side.links.taken (places_of p) ≡ true → relays.Begins d l p.side.relays new → relays_stirring.Stirs p.side.relays new
    → Tells Stands shown_of (e.Accepted l d) p (with_side (record p.side { relays = new }) p)
plain_accepted_tells p new d captures l room begins stirs taken trace s may =
    born_told taken p new d captures l plain.welcomed (inr refl) trace s may false (ap not (sym room)) begins stirs

pub plain_turned_away_tells : (p : Proxy) (new : Relays) (d : Door) → Captures d → (l : ℕ)
    → nat_lt p.side.links.taken (places_of p) ≡ false → relays.TurnsAway d l p.side.relays new → relays_stirring.Stirs p.side.relays new
    → Tells Stands shown_of (e.Accepted l d) p (with_side (record p.side { relays = new }) p)
plain_turned_away_tells p new d captures l room away stirs taken trace s may =
    born_told taken p new d captures l plain.crowded (inl refl) trace s may true (ap not (sym room)) away stirs
