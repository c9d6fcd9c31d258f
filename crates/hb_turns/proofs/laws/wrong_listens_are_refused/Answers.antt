use Rattle.std.proofs.Common.{◌≡◌, true, false, None, Some, List, [], ◌∷◌, ◌++◌, map, refl, sym, ◌∙◌, ap, subst}
use Rattle.std.specs.List.{list_any}
use Rattle.hb_base.specs.declared.door.Door.TheVariants.{Inbound, Outbound}
use Rattle.hb_base.specs.declared.target.Target.{Target}
use Rattle.hb_world.specs.ScriptAnswers.{is_listen}
use Rattle.hb_world.specs.declared.entry.Entry.{Entry}
use Rattle.hb_turns.specs.Ends.{end_by}
use Rattle.hb_turns.specs.Listens.{DoorAt, listen_at, LeavesDoors}
use Rattle.hb_turns.specs.RefusedRuns.{asks, asks_doors, waits_stop}
use Rattle.hb_turns.specs.declared.served.ServeEnd.TheVariants as ends
use Rattle.hb_turns.proofs.Refusing.{stops_amid, ends_not, no_end}
use Rattle.hb_turns.proofs.laws.wrong_listens_are_refused.Goals as goal

nowhere : (at : Target) (b : List Entry) (l : Entry) (c : List Entry) (made left : List DoorAt) (rest : List Entry)
    → waits_stop ∷ [] ≡ b ++ l ∷ c → (Inbound, at) ∷ [] ≡ made ++ left → b ++ l ∷ [] ≡ map (listen_at true) made ++ rest
    → LeavesDoors ends.Stopped left rest → ⊥
nowhere at [] l c [] [] rest is doors trace leaves = absurd cc
nowhere at [] l c [] (d ∷ left) rest is doors trace leaves = leaves
nowhere at [] l c (d ∷ made) left rest is doors trace leaves =
    absurd (let same : waits_stop ≡ listen_at true d = cc in cc)
nowhere at (x ∷ []) l c made left rest is doors trace leaves = absurd cc
nowhere at (x ∷ y ∷ b) l c made left rest is doors trace leaves = absurd cc

pub returns-clause-nowhere : goal.returns-clause-nowhere
returns-clause-nowhere g c = λ at totals left served.
    let s = stops_amid g.N.Node.stands g.N.Node.shown (asks_doors (Some at) None) _ served.over in
    nowhere at s.before s.last s.behind s.begins.made s.begins.left s.begins.rest s.trace_is s.begins.doors_are s.begins.trace_is
    s.begins.leaves

unasked : (at : Target) (b : List Entry) (l : Entry) (c : List Entry) (made left : List DoorAt) (rest : List Entry)
    → listen_at true (Inbound, at) ∷ waits_stop ∷ [] ≡ b ++ l ∷ c → end_by None b l ≡ Some ends.Stopped → [] ≡ made ++ left
    → b ++ l ∷ [] ≡ map (listen_at true) made ++ rest → LeavesDoors ends.Stopped left rest → ⊥
unasked at [] l c made left rest is ended doors trace leaves =
    ends_not None [] (listen_at true (Inbound, at)) l (cc) (refl {a = no_end}) ended
unasked at (x ∷ []) l c [] [] rest is ended doors trace leaves =
    let same : listen_at true (Inbound, at) ≡ x = cc in
    let listens : list_any is_listen (listen_at true (Inbound, at) ∷ l ∷ []) ≡ false =
    subst (λ (z : Entry). list_any is_listen (z ∷ l ∷ []) ≡ false) (sym same)
    (subst (λ (es : List Entry). list_any is_listen es ≡ false) (sym trace) leaves) in
    absurd (let so : true ≡ false = listens in cc)
unasked at (x ∷ []) l c [] (d ∷ left) rest is ended doors trace leaves = leaves
unasked at (x ∷ []) l c (d ∷ made) left rest is ended doors trace leaves = absurd cc
unasked at (x ∷ y ∷ []) l c made left rest is ended doors trace leaves = absurd cc
unasked at (x ∷ y ∷ z ∷ b) l c made left rest is ended doors trace leaves = absurd cc

pub returns-clause-unasked : goal.returns-clause-unasked
returns-clause-unasked g c = λ at totals left served.
    let s = stops_amid g.N.Node.stands g.N.Node.shown (asks 9 None) _ served.over in
    unasked at s.before s.last s.behind s.begins.made s.begins.left s.begins.rest s.trace_is s.ended s.begins.doors_are s.begins.trace_is
    s.begins.leaves

turned : (at to : Target) (b : List Entry) (l : Entry) (c : List Entry) (made left : List DoorAt) (rest : List Entry)
    → listen_at true (Outbound, to) ∷ listen_at true (Inbound, at) ∷ waits_stop ∷ [] ≡ b ++ l ∷ c → end_by None b l ≡ Some ends.Stopped
    → (Inbound, at) ∷ (Outbound, to) ∷ [] ≡ made ++ left → b ++ l ∷ [] ≡ map (listen_at true) made ++ rest
    → LeavesDoors ends.Stopped left rest → ⊥
turned at to [] l c made left rest is ended doors trace leaves =
    ends_not None [] (listen_at true (Outbound, to)) l (cc) (refl {a = no_end}) ended
turned at to (x ∷ b) l c [] [] rest is ended doors trace leaves = absurd cc
turned at to (x ∷ b) l c [] (d ∷ left) rest is ended doors trace leaves = leaves
turned at to (x ∷ b) l c (d ∷ made) left rest is ended doors trace leaves =
    let first : listen_at true (Outbound, to) ≡ listen_at true d = cc in
    let door : (Inbound, at) ≡ d = cc in
    absurd (let same : listen_at true (Outbound, to) ≡ listen_at true (Inbound, at) = first ∙ ap (λ (v : DoorAt). listen_at true v) (sym door) in cc)

pub returns-clause-order : goal.returns-clause-order
returns-clause-order g c = λ at to totals left served.
    let s = stops_amid g.N.Node.stands g.N.Node.shown (asks_doors (Some at) (Some to)) _ served.over in
    turned at to s.before s.last s.behind s.begins.made s.begins.left s.begins.rest s.trace_is s.ended s.begins.doors_are s.begins.trace_is
    s.begins.leaves
