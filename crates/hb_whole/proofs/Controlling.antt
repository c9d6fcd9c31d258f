-- An entry is told to the link to the control plane, and the responses that it completes are shown to the links of the doors.
use Rattle.std.proofs.Common.{◌≡◌, List, [], ◌∷◌, ◌++◌, refl, ap, sym, ◌∙◌, subst}
use Rattle.std.proofs.lemmas.List.{append_assoc, append-nil}
use Rattle.hb_base.specs.declared.note.Note.{Note}
use Rattle.hb_held.specs.Held.{Resources}
use Rattle.hb_held.specs.Outcome.{after_response}
use Rattle.hb_link.proofs.Noted.{takes_then, takes_none}
use Rattle.hb_link.specs.Noted.{Takes}
use Rattle.hb_links.specs.Load.{Recounts}
use Rattle.hb_links.specs.Reaches.{uncounted}
use Rattle.hb_links.specs.Shows.{ShowsAll}
use Rattle.hb_model.specs.Machine.{Machine as Control}
use Rattle.hb_model.specs.Point as point
use Rattle.hb_model.specs.Point.{Point as Q}
use Rattle.hb_model.specs.declared.config.NodeConfig.{NodeConfig}
use Rattle.hb_node.specs.Judging.{Judged, held_behind}
use Rattle.hb_node.specs.State.{Inner}
use Rattle.hb_proxy.specs.Machine.{Machine, outward, with_control}
use Rattle.hb_proxy.specs.Notes.{notes}
use Rattle.hb_proxy.specs.Points.{Point, of_control, entries}
use Rattle.hb_proxy.specs.Runs.{Steps, StandsFor, goes_on}
use Rattle.hb_relays.specs.Shows.{ShowsRelays}
use Rattle.hb_world.specs.declared.entry.Entry.{Entry}
use Rattle.hb_whole.specs.Judged.{Judges}
use Rattle.hb_whole.specs.Queue.{told}
use Rattle.hb_whole.specs.declared.side.Side.{Side}
use Rattle.hb_whole.proofs.Keeping.{Keeps, keeps_none, keeps_then, step_keeps}
use Rattle.hb_whole.proofs.Limited.{recounts_same}
use Rattle.hb_whole.proofs.Leading.{both_follow, both_keep, inner_silent, inner_control, entries_more, notes_more, stands_behind}

-- The run goes on by these points, which have no entry, to where the control plane is this machine and the links are shown
pub record Goes (g : NodeConfig) (x : Machine) (points : List Point) (n : Control) (a b : Side) : Type 0 where
  pub machine : Machine
  pub more : List Point
  pub run : StandsFor g machine (points ++ more)
  pub control : machine.control ≡ n
  pub links : ShowsAll b.links machine.inbound
  pub relays : ShowsRelays g b.relays (outward machine)
  pub silent : entries more ≡ []
  pub noted : Takes (told a.notes) (notes more) (told b.notes)
  pub counts : Recounts a.links b.links
  pub keeps : Keeps x machine

-- it stays where it is
goes_none : (g : NodeConfig) (x : Machine) (points : List Point) (n : Control) (a b : Side) → StandsFor g x points → x.control ≡ n
    → ShowsAll a.links x.inbound → ShowsRelays g a.relays (outward x) → b ≡ a → Goes g x points n a b
goes_none g x points n a b run is shows relays same = record {
  machine = x;
  more = [];
  run = subst (λ (ps : List Point). StandsFor g x ps) (sym (append-nil points)) run;
  control = is;
  links = subst (λ (c : Side). ShowsAll c.links x.inbound) (sym same) shows;
  relays = subst (λ (c : Side). ShowsRelays g c.relays (outward x)) (sym same) relays;
  silent = refl;
  noted = subst (λ (c : Side). Takes (told a.notes) [] (told c.notes)) (sym same) (takes_none (told a.notes));
  counts = recounts_same a.links b.links (ap (λ (c : Side). c.links) same);
  keeps = keeps_none x;
}

-- points stand in front
goes_behind : (g : NodeConfig) (x y : Machine) (points first : List Point) (n : Control) (a b c : Side) → entries first ≡ []
    → Takes (told a.notes) (notes first) (told b.notes) → Recounts a.links b.links → Keeps x y → Goes g y (points ++ first) n b c
    → Goes g x points n a c
goes_behind g x y points first n a b c silent noted counts keeps goes = record {
  machine = goes.machine;
  more = first ++ goes.more;
  run = subst (λ (ps : List Point). StandsFor g goes.machine ps) (append_assoc points first goes.more) goes.run;
  control = goes.control;
  links = goes.links;
  relays = goes.relays;
  silent = entries_more first goes.more ∙ ap (λ (zs : List Entry). zs ++ entries goes.more) silent ∙ goes.silent;
  noted = subst (λ (ns : List Note). Takes (told a.notes) ns (told c.notes)) (sym (notes_more first goes.more))
      (takes_then (told a.notes) (told b.notes) (told c.notes) (notes first) (notes goes.more) noted goes.noted);
  counts = λ is. goes.counts (counts is);
  keeps = keeps_then x y goes.machine keeps goes.keeps;
}

module _ (g : NodeConfig) where
  -- a point of the control plane that applies nothing
  unseen : (x : Machine) (points : List Point) (q : Q) (next : Control) (n : Control) (a b : Side) → StandsFor g x points
      → Steps g x (of_control q) (with_control q next x) → entries (of_control q ∷ []) ≡ [] → notes (of_control q ∷ []) ≡ []
      → Goes g (with_control q next x) (points ++ of_control q ∷ []) n a b → Goes g x points n a b
  unseen x points q next n a b run steps silent none goes =
      goes_behind g x (with_control q next x) points (of_control q ∷ []) n a a b silent
      (subst (λ (ns : List Note). Takes (told a.notes) ns (told a.notes)) (sym none) (takes_none (told a.notes))) (λ is. is)
      (step_keeps g x (with_control q next x) (of_control q) tt steps) goes

  pub goes : (x : Machine) (points : List Point) (qs : List Q) (n : Control) (a b : Side) → StandsFor g x points
      → ShowsAll a.links x.inbound → ShowsRelays g a.relays (outward x) → Inner g x.control qs n
      → Judged Judges (held_behind x.control.held qs) a b → Goes g x points n a b
  goes x points [] n a b run shows relays inner judged = goes_none g x points n a b run (sym inner) shows relays judged
  goes x points (point.entry z ∷ qs) n a b run shows relays inner judged = absurd inner.0
  goes x points (point.stopped why ∷ qs) n a b run shows relays inner judged = absurd inner.0
  goes x points (point.looked l ps said headers ∷ qs) n a b run shows relays inner judged =
      let q = point.looked l ps said headers in
      let next = inner.1 in
      let steps : Steps g x (of_control q) (with_control q next x) = (next, inner.2, tt, refl) in
      unseen x points q next n a b run steps refl refl
      (goes (with_control q next x) (points ++ of_control q ∷ []) qs n a b (goes_on run (of_control q) steps refl) shows relays inner.3
      (subst (λ (h : Resources). Judged Judges (held_behind h qs) a b) (sym (ap (λ (m : Control). m.held) inner.2.4)) judged))
  goes x points (point.refused l ∷ qs) n a b run shows relays inner judged =
      let q = point.refused l in
      let next = inner.1 in
      let steps : Steps g x (of_control q) (with_control q next x) = (next, inner.2, tt, refl) in
      unseen x points q next n a b run steps refl refl
      (goes (with_control q next x) (points ++ of_control q ∷ []) qs n a b (goes_on run (of_control q) steps refl) shows relays inner.3
      (subst (λ (h : Resources). Judged Judges (held_behind h qs) a b) (sym (ap (λ (m : Control). m.held) inner.2.2)) judged))
  goes x points (point.used l k ∷ qs) n a b run shows relays inner judged =
      let q = point.used l k in
      let next = inner.1 in
      let steps : Steps g x (of_control q) (with_control q next x) = (next, inner.2, tt, refl) in
      unseen x points q next n a b run steps refl refl
      (goes (with_control q next x) (points ++ of_control q ∷ []) qs n a b (goes_on run (of_control q) steps refl) shows relays inner.3
      (subst (λ (h : Resources). Judged Judges (held_behind h qs) a b) (sym (ap (λ (m : Control). m.held) inner.2.2)) judged))
  goes x points (point.put l bytes ∷ qs) n a b run shows relays inner judged =
      let q = point.put l bytes in
      let next = inner.1 in
      let steps : Steps g x (of_control q) (with_control q next x) = (next, inner.2, tt, refl) in
      unseen x points q next n a b run steps refl refl
      (goes (with_control q next x) (points ++ of_control q ∷ []) qs n a b (goes_on run (of_control q) steps refl) shows relays inner.3
      (subst (λ (h : Resources). Judged Judges (held_behind h qs) a b) (sym (ap (λ (m : Control). m.held) inner.2.3)) judged))
  goes x points (point.applied l r ∷ qs) n a b run shows relays inner judged =
      let q = point.applied l r in
      let next = inner.1 in
      let held_is : next.held ≡ after_response x.control.held r = ap (λ (m : Control). m.held) inner.2.3 in
      let steps : Steps g x (of_control q) (with_control q next x) = (next, inner.2, tt, refl) in
      let mid = judged.0 in
      let y = with_control q next x in
      let first = judged.1.links l r g x y points run shows refl steps in
      let behind = judged.1.relays l r g x y points run relays refl steps in
      let follows = both_follow g y (told a.notes) (told judged.1.between) mid uncounted first behind in
      let run_on = stands_behind g y follows.reached (points ++ of_control q ∷ []) follows.more (goes_on run (of_control q) steps refl)
      follows.leads in
      let control = inner_control g y follows.reached follows.more follows.leads in
      goes_behind g x follows.reached points (of_control q ∷ follows.more) n a mid b
      (inner_silent g y follows.reached follows.more follows.leads) follows.noted judged.1.counts
      (keeps_then x y follows.reached (step_keeps g x y (of_control q) tt steps)
      (both_keep g y (told a.notes) (told judged.1.between) mid first behind))
      (subst (λ (ps : List Point). Goes g follows.reached ps n mid b) (append_assoc points (of_control q ∷ []) follows.more)
      (goes follows.reached ((points ++ of_control q ∷ []) ++ follows.more) qs n mid b run_on follows.links follows.relays
      (subst (λ (m : Control). Inner g m qs n) (sym control) inner.3)
      (subst (λ (h : Resources). Judged Judges (held_behind h qs) mid b)
      (sym (ap (λ (m : Control). m.held) control ∙ held_is)) judged.2)))
