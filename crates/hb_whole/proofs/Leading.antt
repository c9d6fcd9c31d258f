-- What follows by itself on the links of the doors: no entry, and nothing of the other parts.
use Rattle.std.proofs.Common.{◌≡◌, ◌⊎◌, inl, inr, ℕ, List, [], ◌∷◌, ◌++◌, refl, ap, sym, ◌∙◌, subst}
use Rattle.std.specs.Prelude.{⊤}
use Rattle.std.proofs.lemmas.Grind.{flat_map-append}
use Rattle.std.proofs.lemmas.List.{append_assoc, append-nil}
use Rattle.hb_base.specs.declared.note.Note.{Note}
use Rattle.hb_captured.specs.Part as plain
use Rattle.hb_gateway.specs.Part as gate
use Rattle.hb_inbound.specs.Part as part
use Rattle.hb_inbound.specs.Part.{Part}
use Rattle.hb_link.proofs.Noted.{takes_then}
use Rattle.hb_link.specs.Noted.{Told, Takes}
use Rattle.hb_link.specs.Reaches as link
use Rattle.hb_links.proofs.Sweeping.{inner_outward}
use Rattle.hb_links.specs.Reaches as links
use Rattle.hb_links.specs.Reaches.{uncounted}
use Rattle.hb_links.specs.Shows.{ShowsAll}
use Rattle.hb_model.specs.declared.config.NodeConfig.{NodeConfig}
use Rattle.hb_proxy.specs.Machine.{Machine, Outward, outward}
use Rattle.hb_proxy.specs.Notes.{notes, note_in}
use Rattle.hb_proxy.specs.Points.{Point, of_control, of_link, of_plain, of_gate, of_stream, entry_in, entries}
use Rattle.hb_proxy.specs.Runs.{Steps, StandsFor, goes_on}
use Rattle.hb_relays.proofs.Due.{leads_refusing}
use Rattle.hb_relays.specs.Reaches as relays
use Rattle.hb_relays.specs.Shows.{ShowsRelays}
use Rattle.hb_world.specs.declared.entry.Entry.{Entry}
use Rattle.hb_whole.specs.Queue.{told}
use Rattle.hb_whole.specs.declared.side.Side.{Side}
use Rattle.hb_whole.proofs.Beside.{AllBeside, beside, leads_keep}
use Rattle.hb_whole.proofs.Keeping.{Keeps, keeps_then, links_keep, relays_keep}

-- LISTS OF POINTS

pub entries_more : (points more : List Point) → entries (points ++ more) ≡ entries points ++ entries more
entries_more points more = flat_map-append entry_in points more

pub notes_more : (points more : List Point) → notes (points ++ more) ≡ notes points ++ notes more
notes_more points more = flat_map-append note_in points more

-- POINTS THAT FOLLOW BY THEMSELVES

-- on a link of a door, or one that is taken in or turned away; on a link to a gateway, and on a stream
abbrev pub IsInner : Point → Type 0
IsInner (of_control q) = ⊥
IsInner (of_link l p) = link.IsInner p ⊎ (p ≡ part.crowded)
IsInner (of_plain l p) = relays.IsRefusing (of_plain l p) ⊎ ((p ≡ plain.crowded) ⊎ (p ≡ plain.welcomed))
IsInner (of_gate n p) = relays.IsInner (of_gate n p)
IsInner (of_stream l n i w) = ⊤

-- they lead from one machine to another, one after another
abbrev pub Leads : NodeConfig → Machine → List Point → Machine → Type 0
Leads g x [] y = y ≡ x
Leads g x (p ∷ more) y = IsInner p × (mid : Machine) × Steps g x p mid × Leads g mid more y

pub leads_then : (g : NodeConfig) (x y z : Machine) (first more : List Point) → Leads g x first y → Leads g y more z
    → Leads g x (first ++ more) z
leads_then g x y z [] more is behind = subst (λ (w : Machine). Leads g w more z) is behind
leads_then g x y z (p ∷ first) more is behind = (is.0, is.1, is.2, leads_then g is.1 y z first more is.3 behind)

pub stands_behind : (g : NodeConfig) (x y : Machine) (points more : List Point) → StandsFor g x points → Leads g x more y
    → StandsFor g y (points ++ more)
stands_behind g x y points [] stands is =
    subst (λ (ps : List Point). StandsFor g y ps) (sym (append-nil points)) (subst (λ (w : Machine). StandsFor g w points) (sym is) stands)
stands_behind g x y points (p ∷ more) stands is =
    subst (λ (ps : List Point). StandsFor g y ps) (append_assoc points (p ∷ []) more)
    (stands_behind g is.1 y (points ++ p ∷ []) more (goes_on stands p is.2 refl) is.3)

-- they have no entry
part_silent : (p : Part) → link.IsInner p → part.entry_in p ≡ []
part_silent (part.entry z) inner = absurd inner
part_silent (part.up s z) inner = absurd inner
part_silent part.welcomed inner = refl
part_silent part.crowded inner = refl
part_silent part.lacked inner = refl
part_silent (part.fronted seen) inner = refl
part_silent (part.misfronted fault) inner = refl
part_silent (part.looked ps told headers) inner = refl
part_silent (part.decided s full given) inner = refl
part_silent (part.accepted s made) inner = refl
part_silent (part.refused s status resets made) inner = refl
part_silent (part.reset s code made) inner = refl
part_silent (part.left s made) inner = refl
part_silent (part.done s made) inner = refl
part_silent (part.put s bytes) inner = refl
part_silent (part.finished s) inner = refl
part_silent (part.credited s n) inner = refl
part_silent (part.applied r) inner = refl
part_silent (part.stopped why) inner = refl

plain_silent : (l : ℕ) (p : plain.Part) → relays.IsRefusing (of_plain l p) → plain.entry_in p ≡ []
plain_silent l (plain.entry z) inner = absurd inner
plain_silent l (plain.up z) inner = absurd inner
plain_silent l _ inner = refl

gate_silent : (n : ℕ) (p : gate.Part) → relays.IsInner (of_gate n p) → gate.entry_in p ≡ []
gate_silent n (gate.entry z) inner = absurd inner
gate_silent n (gate.dialled z key) inner = absurd inner
gate_silent n _ inner = refl

point_silent : (p : Point) → IsInner p → entry_in p ≡ []
point_silent (of_control q) inner = absurd inner
point_silent (of_link l p) (inl inner) = part_silent p inner
point_silent (of_link l p) (inr is) = ap part.entry_in is
point_silent (of_plain l p) (inl inner) = plain_silent l p inner
point_silent (of_plain l p) (inr (inl is)) = ap plain.entry_in is
point_silent (of_plain l p) (inr (inr is)) = ap plain.entry_in is
point_silent (of_gate n p) inner = gate_silent n p inner
point_silent (of_stream l n i w) inner = refl

pub inner_silent : (g : NodeConfig) (x y : Machine) (more : List Point) → Leads g x more y → entries more ≡ []
inner_silent g x y [] is = refl
inner_silent g x y (p ∷ more) is =
    ap (λ (zs : List Entry). zs ++ entries more) (point_silent p is.0) ∙ inner_silent g is.1 y more is.3

-- and leave the control plane as it is
step_control : (g : NodeConfig) (x y : Machine) (p : Point) → IsInner p → Steps g x p y → y.control ≡ x.control
step_control g x y (of_control q) inner steps = absurd inner
step_control g x y (of_link l p) inner steps = ap (λ (w : Machine). w.control) steps.3
step_control g x y (of_plain l p) inner steps = ap (λ (w : Machine). w.control) steps.2
step_control g x y (of_gate n p) inner steps = ap (λ (w : Machine). w.control) steps.3
step_control g x y (of_stream l n i w) inner steps = ap (λ (w : Machine). w.control) steps.4

pub inner_control : (g : NodeConfig) (x y : Machine) (more : List Point) → Leads g x more y → y.control ≡ x.control
inner_control g x y [] is = ap (λ (w : Machine). w.control) is
inner_control g x y (p ∷ more) is = inner_control g is.1 y more is.3 ∙ step_control g x is.1 p is.0 is.2

-- THE LINKS OF ONE DOOR, AND THOSE THAT GO OUT

pub links_lead : (G : links.Guard) (g : NodeConfig) (x y : Machine) (more : List Point) → links.Leads G g x more y → Leads g x more y
links_lead G g x y [] is = is
links_lead G g x y (of_control q ∷ more) is = absurd is.0
links_lead G g x y (of_plain l p ∷ more) is = absurd is.0
links_lead G g x y (of_gate n p ∷ more) is = absurd is.0
links_lead G g x y (of_stream l n i w ∷ more) is = absurd is.0
links_lead G g x y (of_link l p ∷ more) is = (inl is.0, is.2, is.3, links_lead G g is.2 y more is.4)

relays_inner : (p : Point) → relays.IsRefusing p → IsInner p
relays_inner (of_control q) inner = inner
relays_inner (of_link l p) inner = absurd inner
relays_inner (of_plain l p) inner = inl inner
relays_inner (of_gate n p) inner = inner
relays_inner (of_stream l n i w) inner = tt

pub relays_lead : (g : NodeConfig) (x y : Machine) (more : List Point) → relays.LeadsBy relays.IsRefusing g x more y → Leads g x more y
relays_lead g x y [] is = is
relays_lead g x y (p ∷ more) is = (relays_inner p is.0, is.1, is.2, relays_lead g is.1 y more is.3)

-- WHAT FOLLOWS ON THE LINKS OF BOTH DOORS

-- The run goes on by points that follow by themselves to a machine whose links the code shows, and their notes are taken in order, or
-- one is lost
pub record Follows (g : NodeConfig) (x : Machine) (told_before : Told) (side : Side) : Type 0 where
  pub more : List Point
  pub reached : Machine
  pub leads : Leads g x more reached
  pub links : ShowsAll side.links reached.inbound
  pub relays : ShowsRelays g side.relays (outward reached)
  pub noted : Takes told_before (notes more) (told side.notes)

abbrev pub links_follow : (g : NodeConfig) (x : Machine) (had : Told) (side : Side) (G : links.Guard)
    → ShowsRelays g side.relays (outward x) → links.Follows G links.Shown g x side.links had (told side.notes) → Follows g x had side
links_follow g x had side G shows follows = record {
  more = follows.more;
  reached = follows.reached;
  leads = links_lead G g x follows.reached follows.more follows.leads;
  links = follows.shows;
  relays = subst (λ (out : Outward). ShowsRelays g side.relays out)
      (sym (inner_outward G g x follows.reached follows.more follows.leads)) shows;
  noted = follows.noted;
}

abbrev pub refusing_follow : (g : NodeConfig) (x : Machine) (had : Told) (side : Side) → ShowsAll side.links x.inbound
    → relays.FollowsBy relays.IsRefusing g x side.relays had (told side.notes) → Follows g x had side
refusing_follow g x had side shows follows = record {
  more = follows.more;
  reached = follows.reached;
  leads = relays_lead g x follows.reached follows.more follows.leads;
  links = subst (λ (f : _). ShowsAll side.links f) (sym (leads_keep g x follows.reached follows.more follows.leads).inbound) shows;
  relays = follows.shows;
  noted = follows.noted;
}

abbrev pub relays_follow : (g : NodeConfig) (x : Machine) (had : Told) (side : Side) → ShowsAll side.links x.inbound
    → relays.Follows g x side.relays had (told side.notes) → Follows g x had side
relays_follow g x had side shows follows =
    refusing_follow g x had side shows (record {
      more = follows.more;
      reached = follows.reached;
      leads = leads_refusing g x follows.more follows.reached follows.leads;
      shows = follows.shows;
      noted = follows.noted;
    })

-- first on the inbound links, then on the plain ones
-- what follows on the plain ones follows behind the inbound ones
abbrev pub both_so : (g : NodeConfig) (x : Machine) (had between : Told) (side : Side) (G : links.Guard)
    → (first : links.Follows G links.Shown g x side.links had between)
    → (behind : relays.Follows g x side.relays between (told side.notes)) → AllBeside g first.reached behind.more behind.reached
both_so g x had between side G first behind =
    beside g x behind.more behind.reached first.reached behind.leads
    (inner_outward G g x first.reached first.more first.leads)
    (inner_control g x first.reached first.more (links_lead G g x first.reached first.more first.leads))

abbrev pub both_follow : (g : NodeConfig) (x : Machine) (had between : Told) (side : Side) (G : links.Guard)
    → links.Follows G links.Shown g x side.links had between → relays.Follows g x side.relays between (told side.notes)
    → Follows g x had side
both_follow g x had between side G first behind =
    let leads = links_lead G g x first.reached first.more first.leads in
    let so = both_so g x had between side G first behind in
    let so_leads = leads_refusing g first.reached behind.more so.reached so.leads in
    record {
      more = first.more ++ behind.more;
      reached = so.reached;
      leads = leads_then g x first.reached so.reached first.more behind.more leads
          (relays_lead g first.reached so.reached behind.more so_leads);
      links = subst (λ (f : _). ShowsAll side.links f) (sym (leads_keep g first.reached so.reached behind.more so_leads).inbound)
          first.shows;
      relays = subst (λ (out : Outward). ShowsRelays g side.relays out) (sym so.same) behind.shows;
      noted = subst (λ (ns : List Note). Takes had ns (told side.notes)) (sym (notes_more first.more behind.more))
          (takes_then had between (told side.notes) (notes first.more) (notes behind.more) first.noted behind.noted);
    }

-- where no link is taken in, and no request answered, few links wait still
pub both_keep : (g : NodeConfig) (x : Machine) (had between : Told) (side : Side)
    → (first : links.Follows uncounted links.Shown g x side.links had between)
    → (behind : relays.Follows g x side.relays between (told side.notes))
    → Keeps x (both_follow g x had between side uncounted first behind).reached
both_keep g x had between side first behind =
    let so = both_so g x had between side uncounted first behind in
    keeps_then x first.reached so.reached (links_keep uncounted (λ y l is. is) g x first.more first.reached first.leads)
    (relays_keep g first.reached behind.more so.reached (leads_refusing g first.reached behind.more so.reached so.leads))
