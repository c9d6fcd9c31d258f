-- An entry is told to the links of a door.
use Rattle.std.proofs.Common.{◌≡◌, ⊎_elim, ℕ, not, Bool, true, false, List, [], ◌∷◌, ◌++◌, Option, None, Some, refl, ap, sym, ◌∙◌, subst}
use Rattle.std.proofs.lemmas.List.{append_assoc}
use Rattle.hb_base.specs.declared.door.Why.{Why}
use Rattle.hb_base.specs.declared.note.Note.{Note}
use Rattle.hb_base.specs.declared.target.Target.{Target}
use Rattle.hb_held.specs.Held.{Resources}
use Rattle.hb_inbound.specs.Inbound.{Inbound}
use Rattle.hb_link.specs.Noted.{Takes}
use Rattle.hb_inbound.specs.Part as part
use Rattle.hb_links.specs.Calls.{counting, point_for}
use Rattle.hb_links.specs.Load.{Recounts}
use Rattle.hb_links.specs.Reaches as links
use Rattle.hb_links.specs.Shows.{ShowsAll}
use Rattle.hb_links.specs.Stirring as links_stirring
use Rattle.hb_model.specs.Machine.{Machine as Control}
use Rattle.hb_model.specs.declared.config.NodeConfig.{NodeConfig}
use Rattle.hb_node.specs.State.{Shows}
use Rattle.hb_proxy.specs.Doors.{is_at_door}
use Rattle.hb_proxy.specs.Load.{LinksFull}
use Rattle.hb_proxy.specs.Machine.{Machine, Outward, outward}
use Rattle.hb_proxy.specs.Notes.{notes, note_in}
use Rattle.hb_proxy.specs.Points.{Point, of_control, of_gate, of_link, of_plain, of_stream, entry_in, entries}
use Rattle.hb_proxy.specs.Runs.{Steps, StandsFor, goes_on}
use Rattle.hb_relays.proofs.Due.{leads_refusing}
use Rattle.hb_relays.specs.Calls as relays_calls
use Rattle.hb_relays.specs.Reaches.{FindsRoomAt}
use Rattle.hb_relays.specs.Shows.{ShowsRelays}
use Rattle.hb_relays.specs.Stirring as relays_stirring
use Rattle.hb_turns.specs.Shown as shown
use Rattle.hb_turns.specs.Shown.{Tells}
use Rattle.hb_world.specs.Trace.{lives}
use Rattle.hb_world.specs.declared.entry.Entry.{Entry}
use Rattle.hb_world.specs.declared.entry.Entry.TheVariants as e
use Rattle.hb_whole.specs.Queue.{told}
use Rattle.hb_whole.specs.Sight.{has_room, shown_of}
use Rattle.hb_whole.specs.Stands.{Stands, EndsBy, IsLimited, WaitsAreFew}
use Rattle.hb_whole.specs.declared.proxy.Proxy.{Proxy}
use Rattle.hb_whole.specs.declared.side.Side.{Side}
use Rattle.hb_whole.proofs.Free.{Free, goes_on as runs_on}
use Rattle.hb_whole.proofs.Growing.{stood}
use Rattle.hb_whole.proofs.Guarded.{Guarded, LinkGuarded, PlainGuarded}
use Rattle.hb_whole.proofs.Keeping.{IsNoCame, IsSteady, TakesNone, few_kept, keeps_then, links_keep, relays_keep, step_keeps, took_few}
use Rattle.hb_whole.proofs.Leading.{Follows, inner_silent, inner_control, links_follow, refusing_follow, relays_follow, stands_behind}
use Rattle.hb_whole.proofs.Limited.{limited_then, none_arriving, recounts_same, room_is}
use Rattle.hb_whole.proofs.Relays.{plain_calm}
use Rattle.hb_whole.proofs.Stirring.{SideStirs, all_stir, links_stir, relays_stir, same_stirs}

-- the links changed so, and no dial waits for its answer
abbrev pub with_side : Side → Proxy → Proxy
with_side side p = record p { side = side; dials = None }

-- A POINT, AND WHAT FOLLOWS FROM IT ON THE LINKS

pub follows_stands : (taken : List Note) (p q : Proxy) (trace : List Entry) (z : Entry) (s : Stands taken p trace) (point : Point)
    (next : Machine) → q.control.config ≡ p.control.config → Steps p.control.config s.machine point next
    → (follows : Follows p.control.config next (told p.side.notes) q.side) → is_at_door z ≡ false → entry_in point ≡ z ∷ []
    → note_in point ≡ [] → Shows q.control next.control → q.dials ≡ None → IsLimited q follows.reached → EndsBy q.ends_for follows.reached
    → q.strange ≡ p.strange → Stands taken q (trace ++ z ∷ [])
follows_stands taken p q trace z s point next config steps follows door one none control dials limited ends sound =
    stood taken p q trace z s follows.reached (point ∷ follows.more) config
    (subst (λ (ps : List Point). StandsFor p.control.config follows.reached ps) (append_assoc s.points (point ∷ []) follows.more)
    (stands_behind p.control.config next follows.reached (s.points ++ point ∷ []) follows.more (goes_on s.run point steps refl)
    follows.leads)) door
    (ap (λ (zs : List Entry). zs ++ entries follows.more) one
    ∙ ap (λ (zs : List Entry). z ∷ zs) (inner_silent p.control.config next follows.reached follows.more follows.leads))
    (subst (λ (m : Control). Shows q.control m)
    (sym (inner_control p.control.config next follows.reached follows.more follows.leads)) control)
    follows.links follows.relays
    (subst (λ (ns : List Note). Takes (told p.side.notes) (ns ++ notes follows.more) (told q.side.notes)) (sym none) follows.noted)
    dials limited ends sound

-- how the run goes on behind what follows by itself
pub going_ends : (p : Proxy) (next : Machine) (side : Side) → p.ends_for ≡ None → next.control.over ≡ false
    → (follows : Follows p.control.config next (told p.side.notes) side) → EndsBy p.ends_for follows.reached
going_ends p next side going goes follows =
    subst (λ (o : Option _). EndsBy o follows.reached) (sym going)
    (ap (λ (m : Control). m.over) (inner_control p.control.config next follows.reached follows.more follows.leads) ∙ goes)

-- an entry of a link or an upstream
pub guarded_stands : (taken : List Note) (p : Proxy) (side : Side) (trace : List Entry) (z : Entry) (s : Stands taken p trace)
    → p.ends_for ≡ None → is_at_door z ≡ false → (at : Guarded p s.machine z) → Recounts p.side.links side.links
    → (follows : Follows p.control.config at.next (told p.side.notes) side)
    → (WaitsAreFew p.control.config s.machine → WaitsAreFew p.control.config follows.reached)
    → Stands taken (with_side side p) (trace ++ z ∷ [])
guarded_stands taken p side trace z s going door at counts follows few =
    follows_stands taken p (with_side side p) trace z s at.point at.next refl at.steps follows door at.one at.no_note
    (subst (λ (m : Control). Shows p.control m) (sym at.control) s.control) refl
    (limited_then p (with_side side p) s.machine follows.reached refl refl counts few s.limited)
    (going_ends p at.next side going (ap (λ (m : Control). m.over) at.control ∙ runs_on p s.machine s.ends going) follows) refl

-- WHAT STIRRED

-- the links changed so, this dial waits for its answer, and an act came that can't be due or not
abbrev pub with_act : Side → Option (Target × Why) → Bool → Proxy → Proxy
with_act side dial strange p = record p { side = side; dials = dial; strange = strange }

pub act_stirs : (p : Proxy) (side : Side) (dial : Option (Target × Why)) (strange : Bool) (trace : List Entry)
    → ((l : ℕ) → lives l trace ≡ true → SideStirs l p.side side)
    → shown.Stirs trace (shown_of p) (shown_of (with_act side dial strange p))
act_stirs p side dial strange trace stirs =
    all_stir trace p (with_act side dial strange p) refl
    (λ l alive. same_stirs l p (with_act side dial strange p) refl refl (stirs l alive))

pub side_stirs : (p : Proxy) (side : Side) (trace : List Entry) → ((l : ℕ) → SideStirs l p.side side)
    → shown.Stirs trace (shown_of p) (shown_of (with_side side p))
side_stirs p side trace stirs = act_stirs p side None p.strange trace (λ l alive. stirs l)

-- where places are counted no link is taken in
pub counting_takes : (others limit : ℕ) (point : Point) → TakesNone (counting others limit point)
counting_takes others limit (of_link l (part.entry z)) x i is = is
counting_takes others limit (of_link l p) x i is = is
counting_takes others limit (of_control q) x i is = is
counting_takes others limit (of_plain l p) x i is = is
counting_takes others limit (of_gate n p) x i is = is
counting_takes others limit (of_stream l n i w) x k is = is

-- THE EVENT LOOP'S ENTRY IS TOLD

-- to the inbound links
pub link_tells : (p : Proxy) (side : Side) (z : Entry) (l : ℕ) (G : Point → links.Guard) (P : NodeConfig → Machine → Type 0)
    → ((point : Point) → TakesNone (G point)) → side.relays ≡ p.side.relays → is_at_door z ≡ false
    → ((taken : List Note) (trace : List Entry) (s : Stands taken p trace) → shown.MayCome (shown_of p) trace z
    → (p.ends_for ≡ None) × LinkGuarded p s.machine l z × P p.control.config s.machine)
    → ((point : Point) → point_for p.side.links l z ≡ Some point
    → links.Meets (G point) P point p.side.links (told p.side.notes) side.links (told side.notes))
    → Recounts p.side.links side.links → links_stirring.Stirs p.side.links side.links → Tells Stands shown_of z p (with_side side p)
link_tells p side z l G P takes same door guards meets counts stirs taken trace s may =
    let g = p.control.config in
    let all = guards taken trace s may in
    let at = all.1.at in
    let behind = meets at.point all.1.found g s.machine at.next s.points s.run s.links all.2 at.steps in
    let shows : ShowsRelays g side.relays (outward at.next) =
    subst (λ (k : _). ShowsRelays g k (outward at.next)) (sym same)
    (subst (λ (out : Outward). ShowsRelays g p.side.relays out) (sym all.1.outward) s.relays) in (
      guarded_stands taken p side trace z s all.0 door at counts
          (links_follow g at.next (told p.side.notes) side (G at.point) shows behind)
          (few_kept g s.machine behind.reached
          (keeps_then s.machine at.next behind.reached (step_keeps g s.machine at.next at.point all.1.steady at.steps)
          (links_keep (G at.point) (takes at.point) g at.next behind.more behind.reached behind.leads))
          (plain_calm p.side.relays s.relays) (none_arriving side.links behind.reached.inbound behind.shows)),
      side_stirs p side (trace ++ z ∷ []) (λ k. links_stir p.side side k same (stirs k)),
    )

-- to the plain ones
pub plain_tells : (p : Proxy) (side : Side) (z : Entry) (l : ℕ) (P : Machine → Type 0) → IsNoCame z → side.links ≡ p.side.links
    → is_at_door z ≡ false
    → ((taken : List Note) (trace : List Entry) (s : Stands taken p trace) → shown.MayCome (shown_of p) trace z
    → (p.ends_for ≡ None) × PlainGuarded p s.machine l z × P s.machine)
    → relays_calls.EntersWhere P l z p.side.relays (told p.side.notes) side.relays (told side.notes)
    → relays_stirring.Stirs p.side.relays side.relays → Tells Stands shown_of z p (with_side side p)
plain_tells p side z l P other same door guards enters stirs taken trace s may =
    let g = p.control.config in
    let all = guards taken trace s may in
    let at = all.1.at in
    let behind = enters at.point all.1.found g s.machine at.next s.points s.run s.relays all.2 at.steps in
    let shows : ShowsAll side.links at.next.inbound =
    subst (λ (k : _). ShowsAll k at.next.inbound) (sym same)
    (subst (λ (f : ℕ → Inbound). ShowsAll p.side.links f) (sym all.1.inbound) s.links) in
    let follows = relays_follow g at.next (told p.side.notes) side shows behind in
    let steady = ⊎_elim (λ is. is) (λ is. subst IsSteady (sym is.1) other) all.1.steady in (
      guarded_stands taken p side trace z s all.0 door at (recounts_same p.side.links side.links same) follows
          (few_kept g s.machine behind.reached
          (keeps_then s.machine at.next behind.reached (step_keeps g s.machine at.next at.point steady at.steps)
          (relays_keep g at.next behind.more behind.reached
          (leads_refusing g at.next behind.more behind.reached behind.leads)))
          (plain_calm p.side.relays s.relays) (none_arriving side.links behind.reached.inbound follows.links)),
      side_stirs p side (trace ++ z ∷ []) (λ k. relays_stir p.side side k same (stirs k)),
    )

-- and bytes, behind which the link may wait for one to its gateway, where one link more may be
pub plain_takes : (p : Proxy) (side : Side) (l : ℕ) (bytes : List ℕ) (held : Resources) → side.links ≡ p.side.links
    → ((taken : List Note) (trace : List Entry) (s : Stands taken p trace) → shown.MayCome (shown_of p) trace (e.Came l bytes)
    → (p.ends_for ≡ None) × PlainGuarded p s.machine l (e.Came l bytes) × (s.machine.control.held ≡ held) × Free s.machine)
    → relays_calls.Takes held (has_room p) l bytes p.side.relays (told p.side.notes) side.relays (told side.notes)
    → relays_stirring.Stirs p.side.relays side.relays → Tells Stands shown_of (e.Came l bytes) p (with_side side p)
plain_takes p side l bytes held same guards takes stirs taken trace s may =
    let g = p.control.config in
    let z = e.Came l bytes in
    let all = guards taken trace s may in
    let at = all.1.at in
    let full = room_is taken p trace s all.3 in
    let did = takes at.point all.1.found g s.machine at.next s.points s.run s.relays all.2 full at.steps in
    let behind = did.0 in
    let shows : ShowsAll side.links at.next.inbound =
    subst (λ (k : _). ShowsAll k at.next.inbound) (sym same)
    (subst (λ (f : ℕ → Inbound). ShowsAll p.side.links f) (sym all.1.inbound) s.links) in
    let follows = refusing_follow g at.next (told p.side.notes) side shows behind in
    let here = none_arriving side.links behind.reached.inbound follows.links in (
      guarded_stands taken p side trace z s all.0 refl at (recounts_same p.side.links side.links same) follows
          (⊎_elim
          (λ steady. few_kept g s.machine behind.reached
          (keeps_then s.machine at.next behind.reached (step_keeps g s.machine at.next at.point steady at.steps)
          (relays_keep g at.next behind.more behind.reached behind.leads)) (plain_calm p.side.relays s.relays) here)
          (λ own few. took_few g s.machine at.next behind.reached own.0 z
          (subst (λ (q : Point). Steps g s.machine q at.next) own.1 at.steps) behind.more behind.leads all.3.plain here (has_room p)
          (subst (λ (q : Point). FindsRoomAt (has_room p) q behind.reached) own.1 did.1)
          (λ room. subst (λ (b : Bool). LinksFull (not b) g s.machine) room full)) all.1.steady),
      side_stirs p side (trace ++ z ∷ []) (λ k. relays_stir p.side side k same (stirs k)),
    )
