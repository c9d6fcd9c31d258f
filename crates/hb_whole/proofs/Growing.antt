-- A trace that the proxy stands for grows by an entry.
use Rattle.std.proofs.Common.{◌≡◌, Bool, true, false, not, cond, List, [], ◌∷◌, ◌++◌, Option, Some, None, ap, sym, ◌∙◌, subst, ⊎_elim}
use Rattle.std.proofs.lemmas.List.{append_assoc, append-nil}
use Rattle.std.proofs.lemmas.List.Elements.{filter-append}
use Rattle.hb_base.specs.declared.note.Note.{Note}
use Rattle.hb_link.specs.Noted.{Takes}
use Rattle.hb_links.specs.Shows.{ShowsAll}
use Rattle.hb_model.specs.declared.config.NodeConfig.{NodeConfig}
use Rattle.hb_node.specs.State.{Shows}
use Rattle.hb_proxy.specs.Doors.{is_at_door, without_doors}
use Rattle.hb_proxy.specs.Machine.{Machine, outward}
use Rattle.hb_proxy.specs.Notes.{notes}
use Rattle.hb_proxy.specs.Points.{Point, entries}
use Rattle.hb_proxy.specs.Runs.{StandsFor}
use Rattle.hb_relays.specs.Shows.{ShowsRelays}
use Rattle.hb_world.specs.declared.entry.Entry.{Entry}
use Rattle.hb_whole.specs.Queue.{told}
use Rattle.hb_whole.specs.Stands.{Stands, AreNotes, IsLimited, MayBeDialled, EndsBy}
use Rattle.hb_whole.specs.declared.proxy.Proxy.{Proxy}
use Rattle.hb_whole.proofs.Leading.{entries_more, notes_more}

-- THE TRACE

-- an entry that is no call at a door
pub doors_more : (trace : List Entry) (z : Entry) → is_at_door z ≡ false → without_doors (trace ++ z ∷ []) ≡ without_doors trace ++ z ∷ []
doors_more trace z is =
    filter-append (λ y. not (is_at_door y)) trace (z ∷ [])
    ∙ ap (λ (b : Bool). without_doors trace ++ cond (not b) (z ∷ []) []) is

-- one that is
pub doors_same : (trace : List Entry) (z : Entry) → is_at_door z ≡ true → without_doors (trace ++ z ∷ []) ≡ without_doors trace
doors_same trace z is =
    filter-append (λ y. not (is_at_door y)) trace (z ∷ [])
    ∙ ap (λ (b : Bool). without_doors trace ++ cond (not b) (z ∷ []) []) is
    ∙ append-nil (without_doors trace)

-- NOTES

pub notes_grow : (taken : List Note) (old new : Option (List Note)) (points more : List Point) → Takes old (notes more) new
    → AreNotes taken old points → AreNotes taken new (points ++ more)
notes_grow taken None new points more takes are = subst (λ (o : Option (List Note)). AreNotes taken o (points ++ more)) (sym takes) tt
notes_grow taken (Some waiting) new points more takes are =
    ⊎_elim (λ lost. subst (λ (o : Option (List Note)). AreNotes taken o (points ++ more)) (sym lost) tt)
    (λ is. subst (λ (o : Option (List Note)). AreNotes taken o (points ++ more)) (sym is)
    (notes_more points more ∙ ap (λ (ns : List Note). ns ++ notes more) are ∙ append_assoc taken waiting (notes more)))
    takes

-- ALL OF IT

pub stood : (taken : List Note) (p q : Proxy) (trace : List Entry) (z : Entry) (s : Stands taken p trace) (y : Machine) (more : List Point)
    → q.control.config ≡ p.control.config → StandsFor p.control.config y (s.points ++ more) → is_at_door z ≡ false → entries more ≡ z ∷ []
    → Shows q.control y.control → ShowsAll q.side.links y.inbound → ShowsRelays p.control.config q.side.relays (outward y)
    → Takes (told p.side.notes) (notes more) (told q.side.notes) → q.dials ≡ None → IsLimited q y → EndsBy q.ends_for y
    → q.strange ≡ p.strange → Stands taken q (trace ++ z ∷ [])
stood taken p q trace z s y more config run door one control links relays takes dials limited ends sound = record {
  machine = y;
  points = s.points ++ more;
  run = subst (λ (g : NodeConfig). StandsFor g y (s.points ++ more)) (sym config) run;
  trace_is = doors_more trace z door ∙ ap (λ (zs : List Entry). zs ++ z ∷ []) s.trace_is
      ∙ ap (λ (zs : List Entry). entries s.points ++ zs) (sym one) ∙ sym (entries_more s.points more);
  control = control;
  links = links;
  relays = subst (λ (g : NodeConfig). ShowsRelays g q.side.relays (outward y)) (sym config) relays;
  noted = notes_grow taken (told p.side.notes) (told q.side.notes) s.points more takes s.noted;
  dial = subst (λ d. MayBeDialled q.control.config y d) (sym dials) tt;
  limited = limited;
  ends = ends;
  sound = sound ∙ s.sound;
}
