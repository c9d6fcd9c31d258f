-- The control plane is dialled exactly when it is due, in every run of the whole.
use Rattle.std.proofs.Common.{◌≡◌, ◌≢◌, ◌⊎◌, inl, inr, ⊎_elim, ℕ, ◌==◌, Bool, true, false, cond, List, [], ◌∷◌, ◌++◌, fold, Option, Some, None}
use Rattle.std.proofs.Common.{refl, ap, sym, ◌∙◌, subst}
use Rattle.std.proofs.lemmas.Bool.{cond_both, false≢true, eq-eqb, ne_eqb}
use Rattle.std.proofs.lemmas.Grind.{fold-append}
use Rattle.std.specs.Prelude.{⊤}
use Rattle.hb_base.specs.declared.door.Why.{Why}
use Rattle.hb_base.specs.declared.door.Why.TheVariants as whys
use Rattle.hb_base.specs.declared.target.Target.{Target}
use Rattle.hb_captured.specs.Part as captured
use Rattle.hb_captured.specs.Runs as relays
use Rattle.hb_gateway.specs.Part as gateway
use Rattle.hb_gateway.specs.Runs as gateways
use Rattle.hb_inbound.specs.Part as part
use Rattle.hb_inbound.specs.Part.{Part}
use Rattle.hb_inbound.specs.Runs as inbound
use Rattle.hb_model.proofs.Grown.{one_more}
use Rattle.hb_model.proofs.DialsDue.{runs_on, dials_when_due}
use Rattle.hb_model.proofs.Inner.{over_is}
use Rattle.hb_model.specs.Dials.{Dialling, dialling_after, at_start, dialling, DialMayStand}
use Rattle.hb_model.specs.Machine as control
use Rattle.hb_model.specs.Machine.{without}
use Rattle.hb_model.specs.Point as point
use Rattle.hb_model.specs.Runs as model
use Rattle.hb_model.specs.declared.config.NodeConfig.{NodeConfig}
use Rattle.hb_world.specs.declared.entry.Entry.{Entry}
use Rattle.hb_world.specs.declared.entry.Entry.TheVariants as e
use Rattle.hb_world.specs.declared.entry.Way.TheVariants as way
use Rattle.hb_proxy.specs.Dials.{IsNoDial, DialsBy, DialsAt}
use Rattle.hb_proxy.specs.Laws.{RunsDial}
use Rattle.hb_proxy.specs.Machine.{Machine, local, plain_local}
use Rattle.hb_proxy.specs.Owners.{Owner, nobody, control_plane, link_of, owner, owner_by}
use Rattle.hb_proxy.specs.Points.{Point, of_control, of_link, of_plain, of_gate, of_stream, entry_in, entries, control_in, control_of}
use Rattle.hb_proxy.specs.Runs.{ControlRests, Steps, StandsFor, begins, goes_on}
use Rattle.hb_proxy.proofs.Control.{ticked}
use Rattle.hb_proxy.proofs.GateChanges.{birth_at}
use Rattle.hb_proxy.proofs.Own.{own_at, elsewhere}
use Rattle.hb_proxy.proofs.Owned.{whose_in, whose_one, all_owned, owner_grows}
use Rattle.hb_proxy.proofs.Places.{at_points, short, rests_of}
use Rattle.hb_proxy.proofs.PlainDoors.{dialled_so, tried_so}
use Rattle.hb_proxy.proofs.Projection.{control_same, control_runs}

-- a close of another link leaves the link that lives
without_same : (k : ℕ) (o : Option ℕ) → (o ≡ Some k → ⊥) → without k o ≡ o
without_same k None apart = refl
without_same k (Some j) apart = ap (λ b. cond b None (Some j)) (ne_eqb k j (λ same. apart (ap Some (sym same))))

without_some : (l k : ℕ) (o : Option ℕ) → without l o ≡ Some k → o ≡ Some k
without_some l k None is = is
without_some l k (Some j) is =
    cond_both (l == j) None (Some j) (λ v. v ≡ Some k → Some j ≡ Some k)
    (λ same none. absurd (let no : None ≡ Some k = none in cc)) (λ apart h. h) is

-- the link that a trace has dialled to the control plane and not closed is one to it
after_known : (old new : ℕ → Owner) (d : Dialling) (z : Entry) → ((k : ℕ) → d.control ≡ Some k → old k ≡ control_plane)
    → ((k : ℕ) → old k ≡ control_plane → new k ≡ control_plane)
    → ((l : ℕ) (to : Target) → z ≡ e.Dialled l to whys.Discovery → new l ≡ control_plane) → (k : ℕ) → (dialling_after d z).control ≡ Some k
    → new k ≡ control_plane
after_known old new d (e.Dialled l to whys.Discovery) known grows birth k is =
    (let same : l ≡ k = cc in subst (λ (j : ℕ). new j ≡ control_plane) same (birth l to refl))
after_known old new d (e.Dialled l to _) known grows birth k is = grows k (known k is)
after_known old new d (e.DialFailed to whys.Discovery) known grows birth k is = grows k (known k is)
after_known old new d (e.DialFailed to _) known grows birth k is = grows k (known k is)
after_known old new d (e.Closed l why) known grows birth k is = grows k (known k (without_some l k d.control is))
after_known old new d _ known grows birth k is = grows k (known k is)

dial_more : (points : List Point) (p : Point)
    → dialling (entries (points ++ p ∷ [])) ≡ fold dialling_after (dialling (entries points)) (entry_in p)
dial_more points p = ap dialling (one_more entry_in points p) ∙ fold-append dialling_after at_start (entries points) (entry_in p)

known : (g : NodeConfig) (x : Machine) (points : List Point) → StandsFor g x points → (k : ℕ)
    → (dialling (entries points)).control ≡ Some k → owner k (entries points) ≡ control_plane
known g x points (begins is empty) = λ k was.
    absurd (let none : None ≡ Some k = sym (ap (λ (ps : List Point). (dialling (entries ps)).control) empty) ∙ was in cc)
known g y more (goes_on {x = x} {points = points} stands p steps are) =
    subst (λ (ps : List Point). (k : ℕ) → (dialling (entries ps)).control ≡ Some k → owner k (entries ps) ≡ control_plane) (sym are)
    (by (short p) (known g x points stands))
  where
    grows : (k : ℕ) → owner k (entries points) ≡ control_plane → owner k (entries (points ++ p ∷ [])) ≡ control_plane
    grows k mine =
        ⊎_elim (λ none. absurd (let no : nobody ≡ control_plane = sym none ∙ mine in cc)) (λ same. same ∙ mine)
        (owner_grows g x points stands p y steps k)

    birth : (z : Entry) → entry_in p ≡ z ∷ [] → (l : ℕ) (to : Target) → z ≡ e.Dialled l to whys.Discovery
        → owner l (entries (points ++ p ∷ [])) ≡ control_plane
    birth z is l to dialled =
        whose_one points p l ∙ ap (λ (es : List Entry). fold (owner_by l) (owner l (entries points)) es) (is ∙ ap (λ v. v ∷ []) dialled)
        ∙ ap (λ b. cond b control_plane (owner l (entries points))) (eq-eqb l l refl)

    by : (entry_in p ≡ []) ⊎ ((z : Entry) × (entry_in p ≡ z ∷ []))
        → ((k : ℕ) → (dialling (entries points)).control ≡ Some k → owner k (entries points) ≡ control_plane) → (k : ℕ)
        → (dialling (entries (points ++ p ∷ []))).control ≡ Some k → owner k (entries (points ++ p ∷ [])) ≡ control_plane
    by (inl none) before k is =
        grows k (before k (sym (ap (λ (d : Dialling). d.control) (dial_more points p
        ∙ ap (fold dialling_after (dialling (entries points))) none)) ∙ is))
    by (inr (z, told)) before k is =
        after_known (whose_in points) (whose_in (points ++ p ∷ [])) (dialling (entries points)) z before grows (birth z told) k
        (sym (ap (λ (d : Dialling). d.control) (dial_more points p ∙ ap (fold dialling_after (dialling (entries points))) told)) ∙ is)

-- THE ENTRIES OF OTHER PARTS

-- no dial of the control plane, and no tick
abbrev IsOthers : Entry → Type 0
IsOthers (e.Dialled l to whys.Discovery) = ⊥
IsOthers (e.DialFailed to whys.Discovery) = ⊥
IsOthers e.Tick = ⊥
IsOthers _ = ⊤

part_others : (l : ℕ) (x : Machine) (p : Part) (next : _) → inbound.Steps l (local x l) p next → (z : Entry) → part.entry_in p ≡ z ∷ []
    → IsOthers z
part_others l x (part.entry en) next steps z is = (let same : en ≡ z = cc in subst IsOthers same (by en steps.0))
  where
    by : (en : Entry) → inbound.MayCome l (x.inbound l) en → IsOthers en
    by (e.Dialled k to why) may = absurd may
    by (e.DialFailed to why) may = absurd may
    by e.Tick may = absurd may
    by _ may = tt
part_others l x (part.up s en) next steps z is = (let same : en ≡ z = cc in subst IsOthers same (by en steps.0))
  where
    by : (en : Entry) → inbound.UpMayCome l s (x.inbound l) ((x.inbound l).tunnels s) en → IsOthers en
    by (e.Dialled u to why) may = subst (λ (w : Why). IsOthers (e.Dialled u to w)) (sym may.4) tt
    by (e.DialFailed to why) may = subst (λ (w : Why). IsOthers (e.DialFailed to w)) (sym may.3) tt
    by e.Tick may = absurd may
    by _ may = tt
part_others l x _ next steps z is = absurd cc

plain_others : (l : ℕ) (x : Machine) (p : captured.Part) → relays.MayGo l (plain_local x l) p → (z : Entry)
    → captured.entry_in p ≡ z ∷ [] → IsOthers z
plain_others l x (captured.entry en) may z is = (let same : en ≡ z = cc in subst IsOthers same (by en may))
  where
    by : (en : Entry) → relays.MayCome l (x.plain l) en → IsOthers en
    by (e.Dialled k to why) may = absurd may
    by (e.DialFailed to why) may = absurd may
    by e.Tick may = absurd may
    by _ may = tt
plain_others l x (captured.up en) may z is = (let same : en ≡ z = cc in subst IsOthers same (by en may))
  where
    by : (en : Entry) → relays.UpMayCome l (x.plain l) en → IsOthers en
    by (e.Dialled u to why) may =
        dialled_so (λ w. IsOthers (e.Dialled u to w)) l tt tt (x.plain l).aim (x.plain l).door why may.1 may.0.3
    by (e.DialFailed to why) may = tried_so (λ w. IsOthers (e.DialFailed to w)) l tt tt tt (x.plain l).aim (x.plain l).door why may.3
    by e.Tick may = absurd may
    by _ may = tt
plain_others l x _ may z is = absurd cc

gate_others : (n : ℕ) (x : Machine) (p : gateway.Part) (next : _) → gateways.Steps n (x.gates n) p next → (z : Entry)
    → gateway.entry_in p ≡ z ∷ [] → IsOthers z
gate_others n x (gateway.entry en) next steps z is = (let same : en ≡ z = cc in subst IsOthers same (by en steps.0))
  where
    by : (en : Entry) → gateways.MayCome n (x.gates n) en → IsOthers en
    by (e.Dialled k to why) may = absurd may
    by (e.DialFailed to why) may = absurd may
    by e.Tick may = absurd may
    by _ may = tt
gate_others n x (gateway.dialled en key) next steps z is =
    let dial = (birth_at n (x.gates n) en key steps.0).0 in
    let same : en ≡ z = cc in
    subst IsOthers (sym dial.4 ∙ same) tt
gate_others n x _ next steps z is = absurd cc

others_of : (g : NodeConfig) (x y : Machine) (p : Point) → Steps g x p y → control_in p ≡ [] → (z : Entry) → entry_in p ≡ z ∷ []
    → IsOthers z
others_of g x y (of_control q) steps none z is = absurd cc
others_of g x y (of_link l p) steps none z is = part_others l x p _ steps.1 z is
others_of g x y (of_plain l p) steps none z is = plain_others l x p steps.0 z is
others_of g x y (of_gate n p) steps none z is = gate_others n x p steps.0 steps.1 z is
others_of g x y (of_stream l n s w) steps none z is = absurd cc

-- such an entry, on no link to the control plane, tells nothing of dials
others_same : (g : NodeConfig) (x : Machine) (before : List Point) → StandsFor g x before → (z : Entry) → IsOthers z
    → ((k : ℕ) → link_of z ≡ Some k → owner k (entries before) ≢ control_plane)
    → dialling_after (dialling (entries before)) z ≡ dialling (entries before)
others_same g x before stands (e.Closed k why) others apart =
    ap (λ c. record (dialling (entries before)) { control = c })
    (without_same k (dialling (entries before)).control (λ mine. apart k refl (known g x before stands k mine)))
others_same g x before stands (e.Dialled l to whys.Discovery) others apart = absurd others
others_same g x before stands (e.Dialled l to _) others apart = refl
others_same g x before stands (e.DialFailed to whys.Discovery) others apart = absurd others
others_same g x before stands (e.DialFailed to _) others apart = refl
others_same g x before stands e.Tick others apart = absurd others
others_same g x before stands _ others apart = refl

-- the control plane's points tell the same of dials as the trace does
same : (g : NodeConfig) (x : Machine) (points : List Point) → StandsFor g x points
    → dialling (entries points) ≡ dialling (point.entries (control_of points))
same g x points (begins is empty) =
    ap (λ (ps : List Point). dialling (entries ps)) empty ∙ sym (ap (λ (ps : List Point). dialling (point.entries (control_of ps))) empty)
same g y more (goes_on {x = x} {points = points} stands p steps are) =
    subst (λ (ps : List Point). dialling (entries ps) ≡ dialling (point.entries (control_of ps))) (sym are)
    (dial_more points p ∙ by p steps (same g x points stands))
  where
    rests : (p : Point) → control_in p ≡ [] → Steps g x p y → dialling (entries points) ≡ dialling (point.entries (control_of points))
        → fold dialling_after (dialling (entries points)) (entry_in p) ≡ dialling (point.entries (control_of (points ++ p ∷ [])))
    rests p none steps so_far =
        ⊎_elim (λ silent. ap (fold dialling_after (dialling (entries points))) silent)
        (λ h. ap (fold dialling_after (dialling (entries points))) h.1
        ∙ others_same g x points stands h.0 (others_of g x y p steps none h.0 h.1)
        (elsewhere points p (own_at g x points (all_owned g x points stands) p y steps) none h.0 h.1))
        (short p)
        ∙ so_far ∙ ap (λ (qs : List point.Point). dialling (point.entries qs)) (sym (control_same points p none))

    by : (p : Point) → Steps g x p y → dialling (entries points) ≡ dialling (point.entries (control_of points))
        → fold dialling_after (dialling (entries points)) (entry_in p) ≡ dialling (point.entries (control_of (points ++ p ∷ [])))
    by (of_control q) steps so_far =
        ap (λ (d : Dialling). fold dialling_after d (point.entry_in q)) so_far
        ∙ sym (fold-append dialling_after at_start (point.entries (control_of points)) (point.entry_in q))
        ∙ ap dialling (sym (ap point.entries (one_more control_in points (of_control q))
        ∙ one_more point.entry_in (control_of points) q))
    by (of_link l p) steps so_far = rests (of_link l p) refl steps so_far
    by (of_plain l p) steps so_far = rests (of_plain l p) refl steps so_far
    by (of_gate n p) steps so_far = rests (of_gate n p) refl steps so_far
    by (of_stream l n s w) steps so_far = rests (of_stream l n s w) refl steps so_far

-- AT EACH ENTRY

-- traces that tell the same of dials let the same stand
moved : (g : NodeConfig) (a b : List Entry) → dialling b ≡ dialling a → (z : Entry) → DialMayStand g a z → DialMayStand g b z
moved g a b is (e.Dialled l to whys.Discovery) h = (ap (λ (d : Dialling). d.due) is ∙ h.0, h.1)
moved g a b is (e.Dialled l to _) h = ap (λ (d : Dialling). d.due) is ∙ h
moved g a b is (e.DialFailed to whys.Discovery) h = (ap (λ (d : Dialling). d.due) is ∙ h.0, h.1)
moved g a b is (e.DialFailed to _) h = ap (λ (d : Dialling). d.due) is ∙ h
moved g a b is (e.Balked (way.Listen d at listening)) h = tt
moved g a b is (e.Balked (way.Accept d)) h = ap (λ (d : Dialling). d.due) is ∙ h
moved g a b is (e.Balked (way.Look k)) h = ap (λ (d : Dialling). d.due) is ∙ h
moved g a b is (e.Balked (way.Finish l)) h = ap (λ (d : Dialling). d.due) is ∙ h
moved g a b is (e.Balked (way.Read l)) h = ap (λ (d : Dialling). d.due) is ∙ h
moved g a b is (e.Balked (way.Write l)) h = ap (λ (d : Dialling). d.due) is ∙ h
moved g a b is _ h = ap (λ (d : Dialling). d.due) is ∙ h

-- behind the end of the run no dial of the control plane stands
control_late : (g : NodeConfig) (m : control.Machine) → (m.dials ≡ true → ⊥) → (z : Entry) → model.MayCome g m z → IsNoDial z
control_late g m none (e.Dialled l to whys.Discovery) may = none may.0
control_late g m none (e.Dialled l to _) may = tt
control_late g m none (e.DialFailed to whys.Discovery) may = none may.0
control_late g m none (e.DialFailed to _) may = tt
control_late g m none _ may = tt

others_late : (z : Entry) → IsOthers z → IsNoDial z
others_late (e.Dialled l to whys.Discovery) others = others
others_late (e.Dialled l to _) others = tt
others_late (e.DialFailed to whys.Discovery) others = others
others_late (e.DialFailed to _) others = tt
others_late _ others = tt

-- while it goes on none is due where an entry of another part stands
others_undue : (g : NodeConfig) (before : List Entry) → (dialling before).due ≡ false → (z : Entry) → IsOthers z → DialMayStand g before z
others_undue g before none (e.Dialled l to whys.Discovery) others = absurd others
others_undue g before none (e.Dialled l to _) others = none
others_undue g before none (e.DialFailed to whys.Discovery) others = absurd others
others_undue g before none (e.DialFailed to _) others = none
others_undue g before none (e.Balked (way.Listen d at listening)) others = tt
others_undue g before none (e.Balked (way.Accept d)) others = none
others_undue g before none (e.Balked (way.Look k)) others = none
others_undue g before none (e.Balked (way.Finish l)) others = none
others_undue g before none (e.Balked (way.Read l)) others = none
others_undue g before none (e.Balked (way.Write l)) others = none
others_undue g before none _ others = none

-- what the control plane's law says of an entry behind its points
said : (g : NodeConfig) (m : control.Machine) (points : List point.Point) (z : Entry) → model.StandsFor g m (points ++ point.entry z ∷ [])
    → DialMayStand g (point.entries points) z
said g m points z stands =
    dials_when_due g m (points ++ point.entry z ∷ []) stands (point.entries points) z [] (one_more point.entry_in points (point.entry z))

next : (g : NodeConfig) (x y : Machine) (before : List Point) (p : Point) → StandsFor g x before → Steps g x p y → DialsAt g before p
next g x y before p stands steps z is =
    subst (λ (b : Bool). DialsBy b g (entries before) z) (over_is g x.control (control_of before) runs) (by x.control.over refl p steps is)
  where
    runs : model.StandsFor g x.control (control_of before)
    runs = control_runs g x before stands

    late : x.control.over ≡ true → x.control.dials ≡ true → ⊥
    late over due = false≢true (sym (runs_on g x.control (control_of before) runs due) ∙ over)

    undue : x.control.over ≡ false → ControlRests x.control → (dialling (entries before)).due ≡ false
    undue goes rests =
        ap (λ (d : Dialling). d.due) (same g x before stands)
        ∙ said g _ (control_of before) e.Tick (ticked g x.control (control_of before) runs rests goes)

    other : x.control.over ≡ false → (p : Point) → Steps g x p y → control_in p ≡ [] → entry_in p ≡ z ∷ []
        → DialMayStand g (entries before) z
    other goes p steps none is =
        others_undue g (entries before) (undue goes (rests_of g x y p steps none z is)) z (others_of g x y p steps none z is)

    by : (over : Bool) → x.control.over ≡ over → (p : Point) → Steps g x p y → entry_in p ≡ z ∷ [] → DialsBy over g (entries before) z
    by true over (of_control (point.entry en)) steps is =
        (let one : en ≡ z = cc in subst IsNoDial one (control_late g x.control (late over) en steps.1.0))
    by true over (of_control _) steps is = absurd cc
    by true over (of_link l p) steps is = others_late z (others_of g x y (of_link l p) steps refl z is)
    by true over (of_plain l p) steps is = others_late z (others_of g x y (of_plain l p) steps refl z is)
    by true over (of_gate n p) steps is = others_late z (others_of g x y (of_gate n p) steps refl z is)
    by true over (of_stream l n s w) steps is = absurd cc
    by false goes (of_control (point.entry en)) steps is =
        let one : en ≡ z = cc in
        subst (DialMayStand g (entries before)) one
        (moved g (point.entries (control_of before)) (entries before) (same g x before stands) en
        (said g steps.0 (control_of before) en (model.goes_on runs (point.entry en) steps.1 refl)))
    by false goes (of_control _) steps is = absurd cc
    by false goes (of_link l p) steps is = other goes (of_link l p) steps refl is
    by false goes (of_plain l p) steps is = other goes (of_plain l p) steps refl is
    by false goes (of_gate n p) steps is = other goes (of_gate n p) steps refl is
    by false goes (of_stream l n s w) steps is = absurd cc

pub runs_dial : RunsDial
runs_dial g x points stands = at_points g (DialsAt g) (next g) x points stands
