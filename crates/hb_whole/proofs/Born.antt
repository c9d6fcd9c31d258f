-- A new link's number is none that the control plane's machine has.
use Rattle.std.proofs.Common.{◌≡◌, ℕ, ◌+◌, ◌≤◌, List, [], refl, sym, subst, arith}
use Rattle.hb_captured.specs.Part as plain
use Rattle.hb_gateway.specs.Part as gate
use Rattle.hb_inbound.specs.Part as part
use Rattle.hb_inbound.specs.Part.{Part}
use Rattle.hb_model.specs.Machine as control
use Rattle.hb_model.specs.Machine.{Machine as Control}
use Rattle.hb_model.specs.Point as point
use Rattle.hb_model.specs.Point.{Point as Q}
use Rattle.hb_model.specs.Runs as model
use Rattle.hb_model.specs.declared.config.NodeConfig.{NodeConfig}
use Rattle.hb_proxy.specs.Machine.{Machine, born_by, born_after}
use Rattle.hb_proxy.specs.Points.{Point, of_control, of_link, of_plain, of_gate, of_stream}
use Rattle.hb_proxy.specs.Runs.{Steps, StandsFor, begins, goes_on, BirthMayCome, GateGuard, LinkGuard, PlainGuard}
use Rattle.hb_world.specs.declared.entry.Entry.{Entry}
use Rattle.hb_world.specs.declared.entry.Entry.TheVariants as e

-- an entry of the control plane
entry_below : (x : Machine) (m : Control) (z : Entry) → m.born ≤ x.born → control.born_after m z ≤ born_by x.born z
entry_below x m (e.Accepted l door) below = omega arith
entry_below x m (e.Dialled l to why) below = omega arith
entry_below x m (e.DialFailed to why) below = below
entry_below x m (e.Opened l) below = below
entry_below x m (e.Came l bytes) below = below
entry_below x m (e.Ended l) below = below
entry_below x m (e.Broke l) below = below
entry_below x m (e.Went l bytes) below = below
entry_below x m (e.Balked w) below = below
entry_below x m (e.Shut l) below = below
entry_below x m (e.Closed l cause) below = below
entry_below x m e.Tick below = below
entry_below x m (e.Wait ready how) below = below

control_below : (g : NodeConfig) (x : Machine) (q : Q) (next : Control) → model.Steps g x.control q next → x.control.born ≤ x.born
    → next.born ≤ born_after x.born (point.entry_in q)
control_below g x (point.entry z) next steps below =
    subst (λ (m : Control). m.born ≤ born_by x.born z) (sym steps.1) (entry_below x x.control z below)
control_below g x (point.looked l ps said headers) next steps below = subst (λ (m : Control). m.born ≤ x.born) (sym steps.4) below
control_below g x (point.applied l r) next steps below = subst (λ (m : Control). m.born ≤ x.born) (sym steps.3) below
control_below g x (point.refused l) next steps below = subst (λ (m : Control). m.born ≤ x.born) (sym steps.2) below
control_below g x (point.used l k) next steps below = subst (λ (m : Control). m.born ≤ x.born) (sym steps.2) below
control_below g x (point.put l bytes) next steps below = subst (λ (m : Control). m.born ≤ x.born) (sym steps.3) below
control_below g x (point.stopped why) next steps below = subst (λ (m : Control). m.born ≤ x.born) (sym steps.1) below

-- an entry of a link numbers no link lower
birth_above : (x : Machine) (z : Entry) → BirthMayCome x z → x.born ≤ born_by x.born z
birth_above x (e.Accepted l door) birth = let next : l ≡ x.born + 1 = birth.0 in omega arith
birth_above x (e.Dialled l to why) birth = omega (arith, birth)
birth_above x (e.DialFailed to why) birth = omega arith
birth_above x (e.Opened l) birth = omega arith
birth_above x (e.Came l bytes) birth = omega arith
birth_above x (e.Ended l) birth = omega arith
birth_above x (e.Broke l) birth = omega arith
birth_above x (e.Went l bytes) birth = omega arith
birth_above x (e.Balked w) birth = omega arith
birth_above x (e.Shut l) birth = omega arith
birth_above x (e.Closed l cause) birth = omega arith
birth_above x e.Tick birth = omega arith
birth_above x (e.Wait ready how) birth = omega arith

none_born : (n : ℕ) (zs : List Entry) → zs ≡ [] → n ≤ born_after n zs
none_born n zs is = subst (λ (ys : List Entry). n ≤ born_after n ys) (sym is) (omega arith)

link_above : (g : NodeConfig) (x : Machine) (l : ℕ) (p : Part) → LinkGuard g x l p → x.born ≤ born_after x.born (part.entry_in p)
link_above g x l (part.entry z) guard = birth_above x z guard.birth
link_above g x l (part.up s z) guard = birth_above x z guard.birth
link_above g x l part.welcomed guard = none_born x.born [] refl
link_above g x l part.crowded guard = none_born x.born [] refl
link_above g x l part.lacked guard = none_born x.born [] refl
link_above g x l (part.fronted seen) guard = none_born x.born [] refl
link_above g x l (part.misfronted fault) guard = none_born x.born [] refl
link_above g x l (part.looked ps said headers) guard = none_born x.born [] refl
link_above g x l (part.decided s full given) guard = none_born x.born [] refl
link_above g x l (part.accepted s made) guard = none_born x.born [] refl
link_above g x l (part.refused s status resets made) guard = none_born x.born [] refl
link_above g x l (part.reset s code made) guard = none_born x.born [] refl
link_above g x l (part.left s made) guard = none_born x.born [] refl
link_above g x l (part.done s made) guard = none_born x.born [] refl
link_above g x l (part.put s bytes) guard = none_born x.born [] refl
link_above g x l (part.finished s) guard = none_born x.born [] refl
link_above g x l (part.credited s n) guard = none_born x.born [] refl
link_above g x l (part.applied r) guard = absurd guard
link_above g x l (part.stopped why) guard = absurd guard

plain_above : (g : NodeConfig) (x : Machine) (l : ℕ) (p : plain.Part) → PlainGuard g x l p → x.born ≤ born_after x.born (plain.entry_in p)
plain_above g x l (plain.entry z) guard = birth_above x z guard.birth
plain_above g x l (plain.up z) guard = birth_above x z guard.0.birth
plain_above g x l plain.welcomed guard = none_born x.born [] refl
plain_above g x l plain.crowded guard = none_born x.born [] refl
plain_above g x l plain.lacked guard = none_born x.born [] refl
plain_above g x l (plain.misfronted fault) guard = none_born x.born [] refl
plain_above g x l (plain.fronted seen routing aim) guard = none_born x.born [] refl
plain_above g x l (plain.refused seen routing why status made) guard = none_born x.born [] refl
plain_above g x l (plain.accepted made) guard = none_born x.born [] refl
plain_above g x l plain.roomless guard = none_born x.born [] refl
plain_above g x l (plain.asked gate stream) guard = absurd guard
plain_above g x l (plain.hears heard begun) guard = absurd guard
plain_above g x l (plain.put bytes) guard = absurd guard
plain_above g x l plain.finished guard = absurd guard
plain_above g x l (plain.credited n) guard = absurd guard
plain_above g x l (plain.loosed begun) guard = absurd guard
plain_above g x l (plain.completed begun made) guard = absurd guard
plain_above g x l (plain.left made) guard = none_born x.born [] refl
plain_above g x l (plain.done made) guard = none_born x.born [] refl
plain_above g x l (plain.applied r) guard = absurd guard
plain_above g x l (plain.stopped why) guard = absurd guard

gate_above : (g : NodeConfig) (x : Machine) (n : ℕ) (p : gate.Part) → GateGuard g x n p → x.born ≤ born_after x.born (gate.entry_in p)
gate_above g x n (gate.entry z) guard = birth_above x z guard.birth
gate_above g x n (gate.dialled z key) guard = birth_above x z guard.0.birth
gate_above g x n gate.lacked guard = none_born x.born [] refl
gate_above g x n (gate.looked ps told headers) guard = none_born x.born [] refl
gate_above g x n (gate.asks s captured authority) guard = absurd guard
gate_above g x n (gate.tells s heard begun) guard = absurd guard
gate_above g x n (gate.put s bytes count) guard = absurd guard
gate_above g x n (gate.finished s) guard = absurd guard
gate_above g x n (gate.credited s k) guard = absurd guard
gate_above g x n (gate.reset s code) guard = none_born x.born [] refl
gate_above g x n (gate.dropped s begun) guard = absurd guard
gate_above g x n (gate.done s begun) guard = absurd guard
gate_above g x n (gate.stopped why) guard = absurd guard

step_below : (g : NodeConfig) (x y : Machine) (p : Point) → Steps g x p y → x.control.born ≤ x.born → y.control.born ≤ y.born
step_below g x y (of_control q) steps below =
    subst (λ (w : Machine). w.control.born ≤ w.born) (sym steps.3) (control_below g x q steps.0 steps.1 below)
step_below g x y (of_link l p) steps below =
    let above = link_above g x l p steps.2 in
    let so : x.control.born ≤ born_after x.born (part.entry_in p) = omega (arith, above, below) in
    subst (λ (w : Machine). w.control.born ≤ w.born) (sym steps.3) so
step_below g x y (of_plain l p) steps below =
    let above = plain_above g x l p steps.1 in
    let so : x.control.born ≤ born_after x.born (plain.entry_in p) = omega (arith, above, below) in
    subst (λ (w : Machine). w.control.born ≤ w.born) (sym steps.2) so
step_below g x y (of_gate n p) steps below =
    let above = gate_above g x n p steps.2 in
    let so : x.control.born ≤ born_after x.born (gate.entry_in p) = omega (arith, above, below) in
    subst (λ (w : Machine). w.control.born ≤ w.born) (sym steps.3) so
step_below g x y (of_stream l n i w) steps below = subst (λ (w : Machine). w.control.born ≤ w.born) (sym steps.4) below

-- the control plane's last link was no later than the last of all
pub born_below : (g : NodeConfig) (x : Machine) (points : List Point) → StandsFor g x points → x.control.born ≤ x.born
born_below g x points (begins is none) = subst (λ (w : Machine). w.control.born ≤ w.born) (sym is) (omega arith)
born_below g x points (goes_on {x = before} {points = front} stands p steps grows) =
    step_below g before x p steps (born_below g before front stands)
