-- Which links are to the control plane, in the trace and in the control plane's points.
use Rattle.std.proofs.Common.{◌≡◌, ℕ, ◌||◌, Bool, true, false, List, [], ◌∷◌, ◌++◌, refl, ap, ap₂, sym, ◌∙◌, subst}
use Rattle.std.proofs.lemmas.List.Folds.{list_any-append}
use Rattle.std.specs.List.{list_any}
use Rattle.hb_base.specs.declared.door.Why.{Why}
use Rattle.hb_captured.specs.Part as captured
use Rattle.hb_captured.specs.Runs as relays
use Rattle.hb_gateway.specs.Part as gateway
use Rattle.hb_gateway.specs.Runs as gateways
use Rattle.hb_inbound.specs.Part as part
use Rattle.hb_inbound.specs.Part.{Part}
use Rattle.hb_inbound.specs.Runs as inbound
use Rattle.hb_model.proofs.Grown.{one_more}
use Rattle.hb_model.specs.Calls.{is_control_of, IsControl}
use Rattle.hb_model.specs.Point as point
use Rattle.hb_model.specs.declared.config.NodeConfig.{NodeConfig}
use Rattle.hb_world.specs.declared.entry.Entry.{Entry}
use Rattle.hb_world.specs.declared.entry.Entry.TheVariants as e
use Rattle.hb_proxy.specs.Machine.{Machine, local, plain_local}
use Rattle.hb_proxy.specs.Points.{Point, of_control, of_link, of_plain, of_gate, of_stream, entry_in, entries, control_in, control_of}
use Rattle.hb_proxy.specs.Runs.{Steps, StandsFor, begins, goes_on}
use Rattle.hb_proxy.specs.Sides.{IsKnown}
use Rattle.hb_proxy.proofs.Control.{control_is_born}
use Rattle.hb_proxy.proofs.GateChanges.{birth_at}
use Rattle.hb_proxy.proofs.Owned.{all_owned}
use Rattle.hb_proxy.proofs.PlainDoors.{dialled_so}
use Rattle.hb_proxy.proofs.Projection.{control_same, control_runs}

or_false : (b : Bool) → (b || false) ≡ b
or_false true = refl
or_false false = refl

-- no part of an inbound link is the birth of one
part_none : (n l : ℕ) (x : Machine) (p : Part) (next : _) → inbound.Steps l (local x l) p next
    → list_any (is_control_of n) (part.entry_in p) ≡ false
part_none n l x (part.entry (e.Dialled k to why)) next steps = absurd steps.0
part_none n l x (part.entry _) next steps = refl
part_none n l x (part.up s (e.Dialled k to why)) next steps =
    ap (λ (w : Why). list_any (is_control_of n) (e.Dialled k to w ∷ [])) steps.0.4
part_none n l x (part.up s _) next steps = refl
part_none n l x _ next steps = refl

-- nor one of a plain link
plain_none : (n l : ℕ) (x : Machine) (p : captured.Part) → relays.MayGo l (plain_local x l) p
    → list_any (is_control_of n) (captured.entry_in p) ≡ false
plain_none n l x (captured.entry (e.Dialled k to why)) may = absurd may
plain_none n l x (captured.entry _) may = refl
plain_none n l x (captured.up (e.Dialled k to why)) may =
    dialled_so (λ w. list_any (is_control_of n) (e.Dialled k to w ∷ []) ≡ false) l refl refl
    (x.plain l).aim (x.plain l).door why may.1 may.0.3
plain_none n l x (captured.up _) may = refl
plain_none n l x _ may = refl

-- nor one of a link to a gateway
gate_none : (n k : ℕ) (x : Machine) (p : gateway.Part) (next : _) → gateways.Steps k (x.gates k) p next
    → list_any (is_control_of n) (gateway.entry_in p) ≡ false
gate_none n k x (gateway.entry (e.Dialled j to why)) next steps = absurd steps.0
gate_none n k x (gateway.entry _) next steps = refl
gate_none n k x (gateway.dialled z key) next steps =
    ap (λ (v : Entry). list_any (is_control_of n) (v ∷ [])) (birth_at k (x.gates k) z key steps.0).0.4
gate_none n k x _ next steps = refl

kinds : (g : NodeConfig) (x : Machine) (points : List Point) → StandsFor g x points → (n : ℕ)
    → list_any (is_control_of n) (entries points) ≡ list_any (is_control_of n) (point.entries (control_of points))
kinds g x points (begins is none) n =
    ap (λ (ps : List Point). list_any (is_control_of n) (entries ps)) none
    ∙ sym (ap (λ (ps : List Point). list_any (is_control_of n) (point.entries (control_of ps))) none)
kinds g y more (goes_on {x = x} {points = points} stands p steps are) n =
    subst (λ (ps : List Point). list_any (is_control_of n) (entries ps) ≡ list_any (is_control_of n) (point.entries (control_of ps)))
    (sym are)
    (ap (list_any (is_control_of n)) (one_more entry_in points p) ∙ list_any-append (is_control_of n) (entries points) (entry_in p)
    ∙ by p steps (kinds g x points stands n))
  where
    -- a point of another part
    rests : (p : Point) → control_in p ≡ [] → list_any (is_control_of n) (entry_in p) ≡ false
        → list_any (is_control_of n) (entries points) ≡ list_any (is_control_of n) (point.entries (control_of points))
        → (list_any (is_control_of n) (entries points) || list_any (is_control_of n) (entry_in p))
        ≡ list_any (is_control_of n) (point.entries (control_of (points ++ p ∷ [])))
    rests p none told so_far =
        ap₂ (λ (a b : Bool). a || b) so_far told ∙ or_false (list_any (is_control_of n) (point.entries (control_of points)))
        ∙ ap (λ (qs : List point.Point). list_any (is_control_of n) (point.entries qs)) (sym (control_same points p none))

    by : (p : Point) → Steps g x p y
        → list_any (is_control_of n) (entries points) ≡ list_any (is_control_of n) (point.entries (control_of points))
        → (list_any (is_control_of n) (entries points) || list_any (is_control_of n) (entry_in p))
        ≡ list_any (is_control_of n) (point.entries (control_of (points ++ p ∷ [])))
    by (of_control q) steps so_far =
        ap (λ b. b || list_any (is_control_of n) (point.entry_in q)) so_far
        ∙ sym (list_any-append (is_control_of n) (point.entries (control_of points)) (point.entry_in q))
        ∙ ap (list_any (is_control_of n)) (sym (ap point.entries (one_more control_in points (of_control q))
        ∙ one_more point.entry_in (control_of points) q))
    by (of_link l p) steps so_far = rests (of_link l p) refl (part_none n l x p _ steps.1) so_far
    by (of_plain l p) steps so_far = rests (of_plain l p) refl (plain_none n l x p steps.0) so_far
    by (of_gate k p) steps so_far = rests (of_gate k p) refl (gate_none n k x p steps.0 steps.1) so_far
    by (of_stream l k s w) steps so_far = rests (of_stream l k s w) refl refl so_far

pub are_known : (g : NodeConfig) (x : Machine) (points : List Point) → StandsFor g x points → (l : ℕ) → IsControl l (entries points)
    → IsKnown points l
are_known g x points stands l is =
    let told = sym (kinds g x points stands l) ∙ is in
    record {
      owned = (all_owned g x points stands).control l
          (control_is_born g x.control (control_of points) (control_runs g x points stands) l told);
      told = told;
    }
